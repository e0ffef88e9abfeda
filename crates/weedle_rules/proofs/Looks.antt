-- The looks of a working-out, its outcome, and the cells that it may look at.
use Rattle.std.proofs.Common.{◌≡◌, ◌≢◌, ℕ, ◌+◌, ◌<◌, ◌≤◌, length, Option, Some, ap, sym, subst, ◌∙◌, arith}
use Rattle.weedle_grammar.specs.written.Bound.{table_count}
use Rattle.weedle_grammar.specs.Rows.{Row}
use Rattle.weedle_rules.specs.Cells.{cell_number, HasEnd}
use Rattle.weedle_rules.specs.Filling.{Filling, Open, IsBegun, IsWorked}
use Rattle.weedle_grammar.specs.written.Table.{webidl, row_of}
use Rattle.weedle_rules.proofs.RowEnds.{is_before, RowEnds, rule_ends, ends_after, ends_inside}

-- v is w after some looks, k in all
pub record Looked (w v : Open) (k : ℕ) : Type 0 where
  pub is : v ≡ record w { count = k }

-- no look, one look, and looks after looks
pub looked : {w v : Open} (k : ℕ) → v ≡ record w { count = k } → Looked w v k
looked k h = record { is = h }

pub none_yet : {f : Filling} {w : Open} {r p : ℕ} → IsBegun f w r p → Looked w w 0
none_yet {w = w} b = let at : ℕ → Open = λ k. record w { count = k } in record { is = ap at b.fresh }

pub on : {w v u : Open} {k m : ℕ} → Looked w v k → u ≡ record v { count = m } → Looked w u m
on {m = m} a b = let with : Open → Open = λ z. record z { count = m } in record { is = b ∙ ap with a.is }

pub counted_on : {w v u : Open} {k : ℕ} → Looked w v k → u ≡ record v { count = v.count + 1 } → Looked w u (k + 1)
counted_on a b = let more : Open → Open = λ z. record z { count = z.count + 1 } in record { is = b ∙ ap more a.is }

pub its_count : {w v : Open} {k : ℕ} → Looked w v k → v.count ≡ k
its_count l = ap (λ z. z.count) l.is

-- the outcome of a row's looks
pub worked : {f : Filling} {w v : Open} {r p k : ℕ} {row : Row} {e : Option ℕ} → IsBegun f w r p → row_of r ≡ row → Looked w v k → 0 < k → RowEnds webidl f.text row p e → IsWorked f w v e
worked {f} {w} {v} {r} {p} {k} {row} {e} b is l some h =
    let c : v.count ≡ k = its_count l in
    record {
      same = (ap (λ z. z.rule) l.is, ap (λ z. z.place) l.is);
      looked = omega arith;
      right = subst (λ z. HasEnd f.text z w.place e) (sym b.rule_is) (subst (λ z. HasEnd f.text r z e) (sym b.place_is) (rule_ends is h));
    }

module _ {f : Filling} {w : Open} {r p : ℕ} (b : IsBegun f w r p) where
  -- the cell is known: of a smaller rule here, and of each rule behind the place
  pub known_if : (x q : ℕ) → cell_number (length f.text) x q < cell_number (length f.text) r p → cell_number (length f.text) x q < length f.known
  known_if x q m = omega (arith, b.next)

  pub known_from : {x q : ℕ} → p ≤ q → q ≤ length f.text → x < table_count → (q ≡ p → x < r) → cell_number (length f.text) x q < length f.known
  known_from {x} {q} a i n h =
      let m : cell_number (length f.text) x q < cell_number (length f.text) r p = is_before p q x r (length f.text) a i n h in
      omega (arith, b.next)

  pub known_here : {x : ℕ} → x < table_count → x < r → cell_number (length f.text) x p < length f.known
  known_here n h = known_from (omega arith) b.within n (λ e. h)

  pub known_after : {q x : ℕ} → p < q → q ≤ length f.text → x < table_count → cell_number (length f.text) x q < length f.known
  known_after h n l = known_from (omega arith) n l (λ e. absurd (omega arith))

  -- an end within the text, and cells behind it
  pub end_inside : {x q : ℕ} → HasEnd f.text x p (Some q) → q ≤ length f.text
  end_inside {x} {q} h = ends_inside webidl f.text x p q h b.within

  pub known_behind : {x y q : ℕ} → HasEnd f.text x p (Some q) → q ≢ p → y < table_count → cell_number (length f.text) y q < length f.known
  known_behind {x} {y} {q} h n l =
      known_from (ends_after webidl f.text x p q h) (ends_inside webidl f.text x p q h b.within) l (λ e. absurd (n e))
