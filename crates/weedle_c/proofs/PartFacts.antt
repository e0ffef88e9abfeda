-- A room for parts that is filled from its front.
use Rattle.std.proofs.Common.{◌≡◌, ◌<◌, ◌+◌, ◌∙◌, ℕ, List, [], ◌∷◌, ◌++◌, length, take, drop, set, map, get_or, ap, sym, arith}
use Rattle.std.proofs.lemmas.List.{length-set, take_more_set, map_more, drop-set-lt, drop-drop, take-append-drop, take_all}
use Rattle.weedle_c.specs.Parts.{c_part}
use Rattle.weedle_c.specs.declared.part.WeedlePart.{WeedlePart}
use Rattle.weedle_recovery.specs.declared.part.Part.{Part}

-- the first i cells have the first i parts, and the others what they had
pub record ArePlaced (found : List Part) (old now : List WeedlePart) (i : ℕ) : Type 0 where
  pub size : length now ≡ length old
  pub front : take i now ≡ map c_part (take i found)
  pub behind : drop i now ≡ drop i old

module _ {found : List Part} {old now : List WeedlePart} {i : ℕ} (h : ArePlaced found old now i) where
  -- one more
  pub placed_more : (n : Part) (c : WeedlePart) → i < length found → i < length now → n ≡ get_or found i n → c ≡ c_part n → ArePlaced found old (set now i c) (i + 1)
  placed_more n c within room is same =
      let cell : c ≡ c_part (get_or found i n) = same ∙ ap c_part is in
      record {
        size = length-set now i c ∙ h.size;
        front = take_more_set now i c room ∙ ap (λ xs. xs ++ c ∷ []) h.front ∙ ap (λ x. map c_part (take i found) ++ x ∷ []) cell ∙ sym (map_more c_part found i n within);
        behind = drop-set-lt (i + 1) now i c (omega arith) ∙ sym (drop-drop 1 i now) ∙ ap (drop 1) h.behind ∙ drop-drop 1 i old;
      }

-- all
pub placed_all : {found : List Part} {old now : List WeedlePart} → ArePlaced found old now (length found) → now ≡ map c_part found ++ drop (length found) old
placed_all {found} {old} {now} h =
    let n = length found in
    sym (take-append-drop n now) ∙ ap (λ xs. xs ++ drop n now) (h.front ∙ ap (map c_part) (take_all n found (omega arith))) ∙ ap (λ xs. map c_part found ++ xs) h.behind
