-- Where a rule that is tried has its bit.
use Rattle.std.proofs.Common.{◌≡◌, ◌<◌, ◌≤◌, List, ℕ, length, subst, sym, arith}
use Rattle.weedle_grammar.specs.Rows.{Row}
use Rattle.weedle_grammar.specs.written.Table.{row_of}
use Rattle.weedle_rules.specs.Cells.{cell_number}
use Rattle.weedle_rules.proofs.RowEnds.{is_before}
use Rattle.weedle_rules.proofs.TableRows.{among_all}
use Rattle.weedle_starts.specs.Tries.{RowTries, Tries}
use Rattle.weedle_starts.proofs.LaterFacts.{tries_later}
use Rattle.weedle_starts.proofs.TableFacts.{tries_low}
use Rattle.weedle_refusal.specs.Marks.{HasBit}

-- its cell comes before the rule's, and is there too
pub tries_before : (text : List ℕ) {many r p : ℕ} (x q : ℕ) → HasBit (length text) many r p → Tries text r p x q → cell_number (length text) x q < cell_number (length text) r p
tries_before text {r = r} {p = p} x q i t =
    let l = tries_later text r p i.within (among_all i.low) x q t in
    is_before p q x r (length text) l.after l.within (tries_low text _ _ i.low t) l.smaller

pub tries_in : (text : List ℕ) {many r p x q : ℕ} → HasBit (length text) many r p → Tries text r p x q → HasBit (length text) many x q
tries_in text {r = r} {p = p} {x = x} {q = q} i t =
    let l = tries_later text r p i.within (among_all i.low) x q t in
    let b : cell_number (length text) x q < cell_number (length text) r p = tries_before text x q i t in
    let m = i.laid in
    record { low = tries_low text _ _ i.low t; within = l.within; laid = omega arith }

-- the same by a rule's row
pub row_in : (text : List ℕ) {last many r p x q : ℕ} {row : Row} → last ≡ length text → row_of r ≡ row → HasBit last many r p → RowTries text row r p x q → HasBit last many x q
row_in text {many = many} {r = r} {p = p} {x = x} {q = q} e is i t =
    subst (λ n. HasBit n many x q) (sym e) (tries_in text (subst (λ n. HasBit n many r p) e i) (subst (λ w. RowTries text w r p x q) (sym is) t))

-- the same among as many flags
pub still_in : {last many more r p : ℕ} → more ≡ many → HasBit last many r p → HasBit last more r p
still_in {last} {r = r} {p = p} e i = subst (λ n. HasBit last n r p) (sym e) i

pub in_text : (text : List ℕ) {last many r p : ℕ} → last ≡ length text → HasBit last many r p → p ≤ length text
in_text text e i = omega (arith, i.within)
