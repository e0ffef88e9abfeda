-- A test that each entry of the table passes.
use Rattle.std.proofs.Common.{◌≡◌, ℕ, zero, suc, ◌+◌, List, [], ◌∷◌, Bool, true, ◌&&◌, subst, arith}
use Rattle.weedle_grammar.specs.Rows.{First}
use Rattle.weedle_grammar.specs.Meaning.{Silent}
use Rattle.weedle_grammar.specs.Entry.{Entry, rule, entry_at}
use Rattle.weedle_grammar.specs.written.Table.{table}
use Rattle.weedle_grammar.proofs.Leaves.{both}

-- all entries from rule r on pass
abbrev pub all_pass : (ℕ → Entry → Bool) → ℕ → List Entry → Bool
all_pass test r [] = true
all_pass test r (e ∷ es) = test r e && all_pass test (suc r) es

module _ (test : ℕ → Entry → Bool) (past : (n r : ℕ) → test n (rule r Silent (First [])) ≡ true) where
  -- an entry of the table from rule k on
  passes_at : (es : List Entry) (k r : ℕ) → all_pass test k es ≡ true → test (k + r) (entry_at es r) ≡ true
  passes_at [] k r h = past (k + r) r
  passes_at (e ∷ es) k zero h = let q : k ≡ k + 0 = omega arith in subst (λ n. test n e ≡ true) q (both _ _ h).0
  passes_at (e ∷ es) k (suc r) h =
      let q : suc k + r ≡ k + suc r = omega arith in
      subst (λ n. test n (entry_at es r) ≡ true) q (passes_at es (suc k) r (both _ _ h).1)

  -- each rule passes, if the table does and what lies past its end
  pub passes : all_pass test 0 table ≡ true → (r : ℕ) → test r (entry_at table r) ≡ true
  passes h r = let q : 0 + r ≡ r = omega arith in subst (λ n. test n (entry_at table r) ≡ true) q (passes_at table 0 r h)
