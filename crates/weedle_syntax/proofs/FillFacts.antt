-- A room that is written from some number on.
use Rattle.std.proofs.Common.{◌≡◌, ◌+◌, ◌<◌, ◌≤◌, ◌∙◌, ℕ, List, [], ◌∷◌, ◌++◌, All, length, take, drop, set, map, get_or, refl, sym, ap, subst, arith, append-nil, append_assoc, length-append}
use Rattle.std.proofs.lemmas.List.{length-set, take_more_set, map_more, drop-set-lt, drop-drop, take-append-drop, take_all, length-map, take-append-le, drop_at, take_more, map-append}
use Rattle.std.proofs.lemmas.List.Concat.{flat_map-append}
use Rattle.std.proofs.lemmas.List.Elements.{All-same, All-take, All-drop}
use Rattle.std.specs.Prelude.{flat_map}
use Rattle.weedle_syntax.specs.Compact.{IsWrittenAt, run_nodes}
use Rattle.weedle_syntax.specs.declared.node.Node.{Node}
use Rattle.weedle_syntax.specs.declared.runs.Run.{Run}
use Rattle.weedle_syntax.specs.declared.runs.Short.{Short}

module _ {A T : Type 0} (f : A → T) (at : ℕ) (found : List A) (old : List T) where
  -- the first i of them stand there
  pub record IsWriting (now : List T) (i : ℕ) : Type 0 where
    pub size : length now ≡ length old
    pub front : take (at + i) now ≡ take at old ++ map f (take i found)
    pub behind : drop (at + i) now ≡ drop (at + i) old

  pub none_written : IsWriting old 0
  none_written =
      let z : at + 0 ≡ at = omega arith in
      record { size = refl; front = ap (λ n. take n old) z ∙ sym (append-nil (take at old)); behind = refl }

  pub one_written : (now : List T) (i : ℕ) (d : A) (c : T) → IsWriting now i → i < length found → at + length found ≤ length old → c ≡ f (get_or found i d)
      → IsWriting (set now (at + i) c) (i + 1)
  one_written now i d c h within room same =
      let inside : at + i < length now = (let s = h.size in omega (arith, s, within, room)) in
      let on : at + (i + 1) ≡ at + i + 1 = omega arith in
      record {
        size = length-set now (at + i) c ∙ h.size;
        front = ap (λ n. take n (set now (at + i) c)) on ∙ take_more_set now (at + i) c inside ∙ ap (λ xs. xs ++ c ∷ []) h.front
            ∙ append_assoc (take at old) (map f (take i found)) (c ∷ [])
            ∙ ap (λ x. take at old ++ (map f (take i found) ++ x ∷ [])) same ∙ ap (λ xs. take at old ++ xs) (sym (map_more f found i d within));
        behind = ap (λ n. drop n (set now (at + i) c)) on ∙ drop-set-lt (at + i + 1) now (at + i) c (omega arith)
            ∙ sym (drop-drop 1 (at + i) now) ∙ ap (drop 1) h.behind ∙ drop-drop 1 (at + i) old ∙ ap (λ n. drop n old) (sym on);
      }

  pub all_written : (now : List T) (i : ℕ) → IsWriting now i → i ≡ length found → at + length found ≤ length old → IsWrittenAt at (map f found) old now
  all_written now i h done room =
      let many = length-map found f in
      let front : take (at + i) now ≡ take at old ++ map f found = h.front ∙ ap (λ xs. take at old ++ map f xs) (take_all i found (omega (arith, done))) in
      let end : at + i ≡ at + length (map f found) = omega (arith, done, many) in
      record {
        within = omega (arith, many, room);
        is = sym (take-append-drop (at + i) now) ∙ ap (λ xs. xs ++ drop (at + i) now) front ∙ ap (λ xs. (take at old ++ map f found) ++ xs) h.behind
            ∙ ap (λ n. (take at old ++ map f found) ++ drop n old) end;
      }

-- these stand at the front of a room that was `first`, and `at` is their number
pub record IsFront {T : Type 0} (front first now : List T) (at : ℕ) : Type 0 where
  pub many : at ≡ length front
  pub is : now ≡ front ++ drop (length front) first

-- one stands there
pub one_in_front : {T : Type 0} (first : List T) (c : T) → 0 < length first → IsFront (c ∷ []) first (set first 0 c) 1
one_in_front first c some = record { many = refl; is = sym (take-append-drop 1 (set first 0 c)) ∙ ap (λ xs. xs ++ drop 1 (set first 0 c)) (take_more_set first 0 c some) ∙ ap (λ xs. (c ∷ []) ++ xs) (drop-set-lt 1 first 0 c (omega arith)) }

-- what is written behind them
pub front_grows : {T : Type 0} (front more first old now : List T) (at : ℕ) → IsFront front first old at → IsWrittenAt at more old now → IsFront (front ++ more) first now (at + length more)
front_grows front more first old now at h w =
    let rest = drop (length front) first in
    let before : take at old ≡ front = ap (λ n. take n old) h.many ∙ ap (take (length front)) h.is ∙ take-append-le (length front) front rest (omega arith) ∙ take_all (length front) front (omega arith) in
    let long = length-append front more in
    let same = h.many in
    let e : at + length more ≡ length front + length more = omega (arith, same) in
    let e2 : length front + length more ≡ length (front ++ more) = omega (arith, long) in
    let behind : drop (at + length more) old ≡ drop (length (front ++ more)) first =
    ap (λ n. drop n old) e ∙ sym (drop-drop (length more) (length front) old) ∙ ap (λ xs. drop (length more) (drop (length front) xs)) h.is
    ∙ ap (drop (length more)) (drop_at front rest (length front) refl) ∙ drop-drop (length more) (length front) first ∙ ap (λ n. drop n first) e2 in
    record {
      many = e ∙ e2;
      is = w.is ∙ ap (λ xs. (xs ++ more) ++ drop (at + length more) old) before ∙ ap (λ xs. (front ++ more) ++ xs) behind;
    }

-- what is made of items, one item more
module _ {A B : Type 0} (f : A → List B) (xs : List A) where
  one_item_more : (i : ℕ) (d : A) → i < length xs → flat_map f (take (i + 1) xs) ≡ flat_map f (take i xs) ++ f (get_or xs i d)
  one_item_more i d lt =
      ap (flat_map f) (take_more xs i d lt) ∙ flat_map-append f (take i xs) (get_or xs i d ∷ [])
      ∙ ap (λ ys. flat_map f (take i xs) ++ ys) (append-nil (f (get_or xs i d)))

  all_items : (i : ℕ) → flat_map f (take i xs) ++ flat_map f (drop i xs) ≡ flat_map f xs
  all_items i = sym (flat_map-append f (take i xs) (drop i xs)) ∙ ap (flat_map f) (take-append-drop i xs)

  length_of_items : (i : ℕ) → length (flat_map f (take i xs)) ≤ length (flat_map f xs)
  length_of_items i =
      let e = ap length (all_items i) in
      let l = length-append (flat_map f (take i xs)) (flat_map f (drop i xs)) in
      omega (arith, e, l)

  -- what holds of all holds of what is made of one item
  pub of_one_item : (P : B → Type 0) (i : ℕ) (d : A) → i < length xs → All P (flat_map f xs) → All P (f (get_or xs i d))
  of_one_item P i d lt all =
      let front = flat_map f (take i xs) in
      let some : All P (flat_map f (take (i + 1) xs)) =
      All-same P (flat_map f (take (i + 1) xs)) (take (length (flat_map f (take (i + 1) xs))) (flat_map f xs))
      (sym (ap (take (length (flat_map f (take (i + 1) xs)))) (sym (all_items (i + 1)))
      ∙ take-append-le (length (flat_map f (take (i + 1) xs))) (flat_map f (take (i + 1) xs)) (flat_map f (drop (i + 1) xs)) (omega arith)
      ∙ take_all (length (flat_map f (take (i + 1) xs))) (flat_map f (take (i + 1) xs)) (omega arith)))
      (All-take P (length (flat_map f (take (i + 1) xs))) (flat_map f xs) all) in
      All-same P (f (get_or xs i d)) (drop (length front) (flat_map f (take (i + 1) xs)))
      (sym (ap (drop (length front)) (one_item_more i d lt) ∙ drop_at front (f (get_or xs i d)) (length front) refl))
      (All-drop P (length front) (flat_map f (take (i + 1) xs)) some)

-- a root and runs below it that are written to a room, of which i runs are
module _ {T : Type 0} (of : Node → T) (root : Node) (shorts : List Short) (longs : List Node) (runs : List Run) (first : List T) where
  abbrev written : ℕ → List T
  written i = map of (root ∷ flat_map (run_nodes shorts longs) (take i runs))

  pub record AreWritten (now : List T) (at i : ℕ) : Type 0 where
    pub front : IsFront (written i) first now at

  pub root_written : 0 < length first → (c : T) → c ≡ of root → AreWritten (set first 0 c) 1 0
  root_written some c is = record { front = subst (λ x. IsFront (x ∷ []) first (set first 0 c) 1) is (one_in_front first c some) }

  run_written_is : (i : ℕ) (d : Run) → i < length runs → written i ++ map of (run_nodes shorts longs (get_or runs i d)) ≡ written (i + 1)
  run_written_is i d lt =
      sym (ap (λ ns. map of (root ∷ ns)) (one_item_more (run_nodes shorts longs) runs i d lt)
      ∙ map-append of (root ∷ flat_map (run_nodes shorts longs) (take i runs)) (run_nodes shorts longs (get_or runs i d)))

  pub run_has_room : (now : List T) (at i : ℕ) (d : Run) → AreWritten now at i → i < length runs
      → length (root ∷ flat_map (run_nodes shorts longs) runs) ≤ length first
      → at + length (run_nodes shorts longs (get_or runs i d)) ≤ length first
  run_has_room now at i d h lt room =
      let N = run_nodes shorts longs in
      let many = h.front.many in
      let m = length-map (root ∷ flat_map N (take i runs)) of in
      let more = ap length (one_item_more N runs i d lt) ∙ length-append (flat_map N (take i runs)) (N (get_or runs i d)) in
      let most = length_of_items N runs (i + 1) in
      let r : length (root ∷ flat_map N (take i runs)) ≡ length (flat_map N (take i runs)) + 1 = omega arith in
      let s : length (root ∷ flat_map N runs) ≡ length (flat_map N runs) + 1 = omega arith in
      omega (arith, many, m, more, most, r, s, room)

  pub run_written : (now new : List T) (at i many : ℕ) (d : Run) → AreWritten now at i → i < length runs
      → IsWrittenAt at (map of (run_nodes shorts longs (get_or runs i d))) now new → many ≡ length (run_nodes shorts longs (get_or runs i d))
      → AreWritten new (at + many) (i + 1)
  run_written now new at i many d h lt w is =
      let m = length-map (run_nodes shorts longs (get_or runs i d)) of in
      let e : at + length (map of (run_nodes shorts longs (get_or runs i d))) ≡ at + many = omega (arith, m, is) in
      record {
        front = subst (λ k. IsFront (written (i + 1)) first new k) e
            (subst (λ xs. IsFront xs first new (at + length (map of (run_nodes shorts longs (get_or runs i d))))) (run_written_is i d lt)
            (front_grows (written i) (map of (run_nodes shorts longs (get_or runs i d))) first now new at h.front w));
      }

  pub runs_written : (now : List T) (at i : ℕ) → AreWritten now at i → length runs ≤ i
      → now ≡ map of (root ∷ flat_map (run_nodes shorts longs) runs) ++ drop (length (root ∷ flat_map (run_nodes shorts longs) runs)) first
  runs_written now at i h done =
      let all : take i runs ≡ runs = take_all i runs done in
      let ns = root ∷ flat_map (run_nodes shorts longs) runs in
      let w : written i ≡ map of ns = ap (λ rs. map of (root ∷ flat_map (run_nodes shorts longs) rs)) all in
      h.front.is ∙ ap (λ xs. xs ++ drop (length xs) first) w ∙ ap (λ n. map of ns ++ drop n first) (length-map ns of)
