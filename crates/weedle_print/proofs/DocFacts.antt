-- The lines of docstrings.
use Rattle.std.proofs.Common.{◌≡◌, ℕ, Bool, true, false, List, [], ◌∷◌, ◌++◌, map, codes, refl, sym, ap, ◌∙◌, subst, cond}
use Rattle.std.proofs.lemmas.List.{map-append}
use Rattle.std.specs.List.{slice_split, onto_first}
use Rattle.std.specs.Prelude.{not, ◌==◌, if◌then◌else◌}
use Rattle.weedle_grammar.specs.Rows.{is_in}
use Rattle.weedle_grammar.specs.declared.class.Class.TheVariants.{Blank, NotLineFeed}
use Rattle.weedle_print.proofs.AddsFacts.{adds_as, adds_then}
use Rattle.weedle_print.proofs.EachFacts.{each_snoc}
use Rattle.weedle_print.specs.Adds.{Adds}
use Rattle.weedle_spell.specs.Forms.{Form, ◌then◌, exactly, any, each}
use Rattle.weedle_spell.specs.Tokens.{doc_line, before_first, cut, documented}

-- a line as it is put there, where it isn't known yet that no LF is in it
abbrev pub put_line : List ℕ → Form
put_line line = any Blank then exactly (codes "///") then exactly line then exactly (10 ∷ [])

-- lines without an LF
abbrev are_lines : List (List ℕ) → Type 0
are_lines [] = Unit {0}
are_lines (line ∷ lines) = any NotLineFeed line × are_lines lines

not_feed : (b : ℕ) → (b == 10) ≡ false → is_in NotLineFeed b ≡ true
not_feed b h = ap not h

with_first : (b : ℕ) (lines : List (List ℕ)) → is_in NotLineFeed b ≡ true → are_lines lines → are_lines (before_first b lines)
with_first b [] h k = ((h, tt), tt)
with_first b (line ∷ lines) h k = ((h, k.0), k.1)

cut_by : (b : ℕ) (lines : List (List ℕ)) (c : Bool) → (b == 10) ≡ c → are_lines lines → are_lines (if c then [] ∷ lines else before_first b lines)
cut_by b lines true h k = (tt, k)
cut_by b lines false h k = with_first b lines (not_feed b h) k

cut_lines : (text : List ℕ) → are_lines (cut text)
cut_lines [] = (tt, tt)
cut_lines (b ∷ s) = cut_by b (cut s) (b == 10) refl (cut_lines s)

as_line : (line : List ℕ) → any NotLineFeed line → (s : List ℕ) → put_line line s → doc_line line s
as_line line h s p = let text = p.of_rest.of_rest in record {
  first = p.first;
  rest = p.rest;
  is = p.is;
  of_first = p.of_first;
  of_rest = record {
    first = p.of_rest.first;
    rest = p.of_rest.rest;
    is = p.of_rest.is;
    of_first = p.of_rest.of_first;
    of_rest = record { first = text.first; rest = text.rest; is = text.is; of_first = (text.of_first, subst (any NotLineFeed) (sym text.of_first) h); of_rest = text.of_rest };
  };
}

as_lines : (lines : List (List ℕ)) → are_lines lines → (s : List ℕ) → each put_line lines s → each doc_line lines s
as_lines [] h s p = p
as_lines (line ∷ lines) h s p =
    record { first = p.first; rest = p.rest; is = p.is; of_first = as_line line h.0 p.first p.of_first; of_rest = as_lines lines h.1 p.rest p.of_rest }

first_alike : (b : ℕ) (c : Bool) (lines : List (List ℕ)) → (if c then [] ∷ lines else before_first b lines) ≡ cond c ([] ∷ lines) (onto_first b lines)
first_alike b true lines = refl
first_alike b false [] = refl
first_alike b false (line ∷ lines) = refl

-- the lines are the parts between LFs
cut_is : (text : List ℕ) → cut text ≡ slice_split (λ b. b == 10) text
cut_is [] = refl
cut_is (b ∷ s) = first_alike b (b == 10) (cut s) ∙ ap (λ (lines : List (List ℕ)). cond (b == 10) ([] ∷ lines) (onto_first b lines)) (cut_is s)

-- one line more
pub line_more : {L : Type 0} (f : L → List ℕ) (lines : List L) (line : L) {x y z : List ℕ} → Adds (each put_line (map f lines)) x y → Adds (put_line (f line)) y z → Adds (each put_line (map f (lines ++ line ∷ []))) x z
line_more f lines line {x} {y} {z} a b =
    subst (λ (texts : List (List ℕ)). Adds (each put_line texts) x z) (sym (map-append f lines (line ∷ []))) (adds_as (each_snoc put_line (map f lines) (f line)) (adds_then a b))

-- all lines of a docstring
pub lines_all : (text : List ℕ) {lines : List (List ℕ)} {x y : List ℕ} → lines ≡ slice_split (λ b. b == 10) text → Adds (each put_line lines) x y → Adds (documented text) x y
lines_all text {lines} {x} {y} e a =
    adds_as (as_lines (cut text) (cut_lines text)) (subst (λ (all : List (List ℕ)). Adds (each put_line all) x y) (e ∙ sym (cut_is text)) a)
