-- How many bytes the rows without parts take, while they are looked at one after another.
use Rattle.std.proofs.Common.{◌≡◌, ◌≢◌, ℕ, suc, ◌+◌, ◌-◌, ◌<◌, ◌≤◌, List, [], ◌∷◌, length, drop, take, get_or, Bool, true, false, Option, Some, None, refl, sym, ◌∙◌, ap, arith, eq-eqb}
use Rattle.std.specs.Prelude.{option_map, if◌then◌else◌, ◌==◌, ◌&&◌}
use Rattle.std.proofs.lemmas.List.{drop_more, drop_all, length-drop, take_rest}
use Rattle.std.proofs.lemmas.Bool.{ne_eqb}
use Rattle.weedle_grammar.specs.declared.class.Class.{Class}
use Rattle.weedle_grammar.specs.Rows.{begins, is_in, run_length, take_past}
use Rattle.weedle_grammar.proofs.Leaves.{begins_le}

-- what is left from a place on
pub left_is : (text left : List ℕ) (p : ℕ) → left ≡ take (length text - p) (drop p text) → left ≡ drop p text
left_is text left p e = e ∙ take_rest text p

true_and : (a b : Bool) → a ≡ true → a && b ≡ b
true_and true b h = refl
true_and false b h = cc

false_and : (a b : Bool) → a ≡ false → a && b ≡ false
false_and true b h = cc
false_and false b h = refl

pub begins_on : (bytes left : List ℕ) (i : ℕ) → i < length bytes → i < length left → get_or bytes i 0 ≡ get_or left i 0 → begins (drop i bytes) (drop i left) ≡ begins (drop (i + 1) bytes) (drop (i + 1) left)
begins_on bytes left i a b e =
    ap (λ z. begins z (drop i left)) (drop_more bytes i 0 a) ∙ ap (begins (get_or bytes i 0 ∷ drop (i + 1) bytes)) (drop_more left i 0 b)
    ∙ true_and (get_or bytes i 0 == get_or left i 0) (begins (drop (i + 1) bytes) (drop (i + 1) left)) (eq-eqb _ _ e)

pub begins_not : (bytes left : List ℕ) (i : ℕ) → i < length bytes → i < length left → get_or bytes i 0 ≢ get_or left i 0 → begins (drop i bytes) (drop i left) ≡ false
begins_not bytes left i a b e =
    ap (λ z. begins z (drop i left)) (drop_more bytes i 0 a) ∙ ap (begins (get_or bytes i 0 ∷ drop (i + 1) bytes)) (drop_more left i 0 b)
    ∙ false_and (get_or bytes i 0 == get_or left i 0) (begins (drop (i + 1) bytes) (drop (i + 1) left)) (ne_eqb _ _ e)

pub begins_short : (bytes left : List ℕ) (i : ℕ) → i < length bytes → length left ≤ i → begins (drop i bytes) (drop i left) ≡ false
begins_short bytes left i a b = ap (λ z. begins z (drop i left)) (drop_more bytes i 0 a) ∙ ap (begins (get_or bytes i 0 ∷ drop (i + 1) bytes)) (drop_all i left b)

pub begins_all : (bytes left : List ℕ) (i : ℕ) → length bytes ≤ i → begins (drop i bytes) (drop i left) ≡ true
begins_all bytes left i a = ap (λ z. begins z (drop i left)) (drop_all i bytes a)

-- one byte
pub run_on : (class : Class) (left : List ℕ) (i : ℕ) → i < length left → is_in class (get_or left i 0) ≡ true → run_length class (drop i left) ≡ suc (run_length class (drop (i + 1) left))
run_on class left i l h = ap (run_length class) (drop_more left i 0 l) ∙ on (is_in class (get_or left i 0)) h
  where
    on : (b : Bool) → b ≡ true → (if b then suc (run_length class (drop (i + 1) left)) else 0) ≡ suc (run_length class (drop (i + 1) left))
    on true h = refl
    on false h = cc

pub run_off : (class : Class) (left : List ℕ) (i : ℕ) → i < length left → is_in class (get_or left i 0) ≡ false → run_length class (drop i left) ≡ 0
run_off class left i l h = ap (run_length class) (drop_more left i 0 l) ∙ off (is_in class (get_or left i 0)) h
  where
    off : (b : Bool) → b ≡ false → (if b then suc (run_length class (drop (i + 1) left)) else 0) ≡ 0
    off true h = cc
    off false h = refl

pub run_end : (class : Class) (left : List ℕ) (i : ℕ) → length left ≤ i → run_length class (drop i left) ≡ 0
run_end class left i l = ap (run_length class) (drop_all i left l)

-- past some bytes
pub past_here : (bytes left : List ℕ) → begins bytes left ≡ true → take_past bytes left ≡ Some (length bytes)
past_here bytes [] h = here (begins bytes []) (length bytes) None h
  where
    here : (b : Bool) (n : ℕ) (o : Option ℕ) → b ≡ true → (if b then Some n else o) ≡ Some n
    here true n o h = refl
    here false n o h = cc
past_here bytes (t ∷ left) h = here (begins bytes (t ∷ left)) (length bytes) (option_map suc (take_past bytes left)) h
  where
    here : (b : Bool) (n : ℕ) (o : Option ℕ) → b ≡ true → (if b then Some n else o) ≡ Some n
    here true n o h = refl
    here false n o h = cc

not_here : (b : Bool) (n : ℕ) (o : Option ℕ) → b ≡ false → (if b then Some n else o) ≡ o
not_here true n o h = cc
not_here false n o h = refl

pub past_on : (bytes left : List ℕ) (i : ℕ) → i < length left → begins bytes (drop i left) ≡ false → take_past bytes (drop i left) ≡ option_map suc (take_past bytes (drop (i + 1) left))
past_on bytes left i l h =
    let e = drop_more left i 0 l in
    ap (take_past bytes) e ∙ not_here (begins bytes (get_or left i 0 ∷ drop (i + 1) left)) (length bytes) (option_map suc (take_past bytes (drop (i + 1) left))) (ap (begins bytes) (sym e) ∙ h)

pub past_none : (bytes left : List ℕ) → left ≡ [] → begins bytes left ≡ false → take_past bytes left ≡ None
past_none bytes left e h = ap (take_past bytes) e ∙ not_here (begins bytes []) (length bytes) None (ap (begins bytes) (sym e) ∙ h)

pub one_on : (i : ℕ) (o : Option ℕ) → option_map (λ k. i + k) (option_map suc o) ≡ option_map (λ k. (i + 1) + k) o
one_on i None = refl
one_on i (Some k) = let e : i + suc k ≡ (i + 1) + k = omega arith in ap Some e

pub begins_left : (bytes left : List ℕ) (i : ℕ) → i ≤ length left → begins bytes (take (length left - i) (drop i left)) ≡ true → i + length bytes ≤ length left
begins_left bytes left i l h =
    let m : length bytes ≤ length (drop i left) = begins_le bytes (drop i left) (ap (begins bytes) (sym (take_rest left i)) ∙ h) in
    omega (arith, length-drop i left)
