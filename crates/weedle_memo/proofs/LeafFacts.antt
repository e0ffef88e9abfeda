-- Rules without parts: where they end, at all places of a run.
use Rattle.std.proofs.Common.{◌≡◌, inl, inr, ℕ, zero, suc, ◌+◌, ◌-◌, ◌<◌, ◌≤◌, List, [], ◌∷◌, length, drop, Bool, Option, Some, None, true, false, refl, ap, sym, subst, ◌∙◌, arith}
use Rattle.std.specs.Prelude.{option_map, if◌then◌else◌}
use Rattle.std.proofs.lemmas.List.{drop-drop, length-drop}
use Rattle.weedle_grammar.specs.Rows.{Row, Bytes, OneOf, NotNext, Run, Past, take_bytes, take_one, take_not_next, take_past, run_length, is_in, begins}
use Rattle.weedle_grammar.specs.declared.class.Class.{Class}
use Rattle.weedle_grammar.specs.written.Table.{webidl, row_of}
use Rattle.weedle_rules.specs.Cells.{HasEnd}
use Rattle.weedle_rules.proofs.RowEnds.{rule_ends, bytes_ends, one_ends, not_next_ends, run_ends, past_ends, ends_inside}
use Rattle.weedle_starts.specs.Tries.{has_no_parts}
use Rattle.weedle_memo.specs.Closure.{EndsAlike}

run_by : (t : Bool) (n m i : ℕ) → (i ≤ n → m + i ≡ n) → suc i ≤ (if t then suc n else 0) → m + suc i ≡ (if t then suc n else 0)
run_by true n m i h l = let k = h (omega arith) in omega arith
run_by false n m i h l = absurd (omega arith)

-- a run from one of its bytes
run_from : (c : Class) (s : List ℕ) (i : ℕ) → i ≤ run_length c s → run_length c (drop i s) + i ≡ run_length c s
run_from c s zero h = omega arith
run_from c [] (suc i) h = absurd (omega arith)
run_from c (b ∷ s) (suc i) h = run_by (is_in c b) (run_length c s) (run_length c (drop i s)) i (run_from c s i) h

-- what is left behind a place
behind : (text : List ℕ) (p k : ℕ) → p ≤ k → drop k text ≡ drop (k - p) (drop p text)
behind text p k h = let e : k ≡ p + (k - p) = omega arith in ap (λ z. drop z text) e ∙ sym (drop-drop (k - p) p text)

module _ (text : List ℕ) (r p : ℕ) where
  pub run_alike : {c : Class} {e : ℕ} → row_of r ≡ Run c → e ≡ p + run_length c (drop p text) → EndsAlike text r p e (Some e)
  run_alike {c} {e} is h k after up =
      let f = run_from c (drop p text) (k - p) (omega arith) in
      let n : run_length c (drop k text) ≡ run_length c (drop (k - p) (drop p text)) = ap (run_length c) (behind text p k after) in
      rule_ends is (run_ends webidl text c k (Some e) (ap Some (omega arith)))

short_by : (t : Bool) (n k : ℕ) → (if t then Some n else None) ≡ Some k → n ≡ k
short_by true n k e = cc
short_by false n k e = cc

first_by : (t : Bool) (o v : Option ℕ) (n i k : ℕ) → ((z : ℕ) → o ≡ Some z → i + n ≤ z → v ≡ Some (z - i)) → (if t then Some n else option_map suc o) ≡ Some k → suc i + n ≤ k → v ≡ Some (k - suc i)
first_by true o v n i k h e l = let s : n ≡ k = cc in absurd (omega arith)
first_by false None v n i k h e l = cc
first_by false (Some z) v n i k h e l = let w : suc z ≡ k = cc in h z refl (omega arith) ∙ ap Some (omega arith)

-- up to the first of these bytes
first_bytes : (b s : List ℕ) (i k : ℕ) → take_past b s ≡ Some k → i + length b ≤ k → take_past b (drop i s) ≡ Some (k - i)
first_bytes b s zero k h l = h ∙ ap Some (omega arith)
first_bytes b [] (suc i) k h l = let s = short_by (begins b []) (length b) k h in absurd (omega arith)
first_bytes b (x ∷ s) (suc i) k h l = first_by (begins b (x ∷ s)) (take_past b s) (take_past b (drop i s)) (length b) i k (λ z e m. first_bytes b s i z e m) h l

long_by : (t : Bool) (o : Option ℕ) (n k : ℕ) → ((z : ℕ) → o ≡ Some z → n ≤ z) → (if t then Some n else option_map suc o) ≡ Some k → n ≤ k
long_by true o n k h e = let s : n ≡ k = cc in omega arith
long_by false None n k h e = cc
long_by false (Some z) n k h e = let w : suc z ≡ k = cc in let l = h z refl in omega arith

bytes_long : (b s : List ℕ) (k : ℕ) → take_past b s ≡ Some k → length b ≤ k
bytes_long b [] k h = let s = short_by (begins b []) (length b) k h in omega arith
bytes_long b (x ∷ s) k h = long_by (begins b (x ∷ s)) (take_past b s) (length b) k (λ z e. bytes_long b s z e) h

none_by : (t : Bool) (o v : Option ℕ) (n : ℕ) → (o ≡ None → v ≡ None) → (if t then Some n else option_map suc o) ≡ None → v ≡ None
none_by true o v n h e = cc
none_by false None v n h e = h refl
none_by false (Some z) v n h e = cc

no_bytes : (b s : List ℕ) (i : ℕ) → take_past b s ≡ None → take_past b (drop i s) ≡ None
no_bytes b s zero h = h
no_bytes b [] (suc i) h = h
no_bytes b (x ∷ s) (suc i) h = none_by (begins b (x ∷ s)) (take_past b s) (take_past b (drop i s)) (length b) (λ e. no_bytes b s i e) h

found : (p : ℕ) (o : Option ℕ) (e : ℕ) → Some e ≡ option_map (λ k. p + k) o → (k : ℕ) × (o ≡ Some k) × (e ≡ p + k)
found p None e h = cc
found p (Some k) e h = (k, refl, cc)

not_found : (p : ℕ) (o : Option ℕ) → None ≡ option_map (λ k. p + k) o → o ≡ None
not_found p None h = refl
not_found p (Some k) h = cc

module _ (text : List ℕ) (r p : ℕ) {b : List ℕ} (is : row_of r ≡ Past b) where
  pub past_some : {e : ℕ} → Some e ≡ option_map (λ k. p + k) (take_past b (drop p text)) → length b + p ≤ e
  past_some {e} h =
      let f = found p (take_past b (drop p text)) e h in
      let l = bytes_long b (drop p text) f.0 f.1 in
      let w = f.2 in
      omega arith

  pub past_inside : {e : ℕ} → p ≤ length text → Some e ≡ option_map (λ k. p + k) (take_past b (drop p text)) → e ≤ length text
  past_inside {e} h k = ends_inside webidl text r p e (rule_ends is (past_ends webidl text b p (Some e) k)) h

  pub past_alike : {e q : ℕ} → Some e ≡ option_map (λ k. p + k) (take_past b (drop p text)) → q + length b ≡ e → EndsAlike text r p q (Some e)
  past_alike {e} {q} h qe k after up =
      let f = found p (take_past b (drop p text)) e h in
      let w = f.2 in
      let t = first_bytes b (drop p text) (k - p) f.0 f.1 (omega arith) in
      let s : take_past b (drop k text) ≡ Some (f.0 - (k - p)) = ap (take_past b) (behind text p k after) ∙ t in
      let n : e ≡ k + (f.0 - (k - p)) = omega arith in
      rule_ends is (past_ends webidl text b k (Some e) (rw s (ap Some n)))

  pub past_none_alike : (q : ℕ) → None ≡ option_map (λ k. p + k) (take_past b (drop p text)) → EndsAlike text r p q None
  past_none_alike q h k after up =
      let f = not_found p (take_past b (drop p text)) h in
      let s : take_past b (drop k text) ≡ None = ap (take_past b) (behind text p k after) ∙ no_bytes b (drop p text) (k - p) f in
      rule_ends is (past_ends webidl text b k None (rw s refl))

pub plain : (r : ℕ) {row : Row} → row_of r ≡ row → has_no_parts row ≡ true → has_no_parts (row_of r) ≡ true
plain r is h = ap has_no_parts is ∙ h

pub bytes_right : (text : List ℕ) (r p : ℕ) {b : List ℕ} {o : Option ℕ} → row_of r ≡ Bytes b → o ≡ option_map (λ k. p + k) (take_bytes b (drop p text)) → HasEnd text r p o
bytes_right text r p {b} {o} is h = rule_ends is (bytes_ends webidl text b p o h)

pub one_right : (text : List ℕ) (r p : ℕ) {c : Class} {o : Option ℕ} → row_of r ≡ OneOf c → o ≡ option_map (λ k. p + k) (take_one c (drop p text)) → HasEnd text r p o
one_right text r p {c} {o} is h = rule_ends is (one_ends webidl text c p o h)

pub not_next_right : (text : List ℕ) (r p : ℕ) {c : Class} {o : Option ℕ} → row_of r ≡ NotNext c → o ≡ option_map (λ k. p + k) (take_not_next c (drop p text)) → HasEnd text r p o
not_next_right text r p {c} {o} is h = rule_ends is (not_next_ends webidl text c p o h)

run_short : (c : Class) (s : List ℕ) → run_length c s ≤ length s
run_short c [] = omega arith
run_short c (b ∷ s) = by_test (is_in c b) (run_length c s) (length s) (run_short c s)
  where
    by_test : (t : Bool) (n k : ℕ) → n ≤ k → (if t then suc n else 0) ≤ suc k
    by_test true n k h = omega arith
    by_test false n k h = omega arith

pub run_inside : (text : List ℕ) (p : ℕ) {e : ℕ} (c : Class) → p ≤ length text → e ≡ p + run_length c (drop p text) → e ≤ length text
run_inside text p {e} c h is = let s = run_short c (drop p text) in let d = length-drop p text in omega arith
