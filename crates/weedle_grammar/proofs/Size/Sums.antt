-- How sizes add up along a text: a node or two for each part, and 10,000 for each byte.
use Rattle.std.proofs.Common.{◌≡◌, inl, inr, ℕ, ◌+◌, ◌*◌, ◌<◌, ◌≤◌, List, true, Option, Some, None, arith}
use Rattle.std.specs.Prelude.{nat_le}
use Rattle.std.proofs.lemmas.Bool.{cases_lt}
use borrow.Author.Tests.{leb-true}
use Rattle.weedle_grammar.specs.Rows.{Row}
use Rattle.weedle_grammar.specs.Trees.{Tree, Outcome, Fails, Gives}
use Rattle.weedle_grammar.specs.Meaning.{Shape, Piece, piece, Raw, Breaks, Yields, leaf, together, raw_of, opted, shaped, before, with_piece, given_of, last_end}
use Rattle.weedle_grammar.specs.Size.{total_size}
use Rattle.weedle_grammar.proofs.Moves.{RawLands}
use Rattle.weedle_grammar.proofs.Exists.{le}
use Rattle.weedle_grammar.proofs.Size.Lists.{size_append, size_present, formed_size}
use Rattle.weedle_grammar.proofs.Size.Single.{OutSingle}

-- where a rule takes text, it gives at most so many nodes more than 10,000 for each byte except for
-- the first
abbrev pub OutWeighs : ℕ → ℕ → Outcome → Type 0
OutWeighs extra p Fails = Unit {0}
OutWeighs extra p (Gives ts e) = p < e → total_size ts + (10000 * p + 10000) ≤ 10000 * e + extra

-- where a row takes text, it yields at most so many nodes more than 10,000 for each byte except for
-- the first
abbrev pub RawWeighs : ℕ → ℕ → Raw → Type 0
RawWeighs extra p Breaks = Unit {0}
RawWeighs extra p (Yields ts ends e) = p < e → total_size ts + (10000 * p + 10000) ≤ 10000 * e + extra

-- and of a sequence
abbrev pub SeqWeighs : ℕ → ℕ → Option (List Piece) → Type 0
SeqWeighs extra p None = Unit {0}
SeqWeighs extra p (Some pieces) = p < last_end p pieces → total_size (given_of pieces) + (10000 * p + 10000) ≤ 10000 * last_end p pieces + extra

-- a sequence gives at most so many nodes more than 10,000 for each byte
abbrev pub SeqCosts : ℕ → ℕ → Option (List Piece) → Type 0
SeqCosts extra p None = Unit {0}
SeqCosts extra p (Some pieces) = total_size (given_of pieces) + 10000 * p ≤ 10000 * last_end p pieces + extra

-- so does a rule
abbrev pub OutCosts : ℕ → ℕ → Outcome → Type 0
OutCosts extra p Fails = Unit {0}
OutCosts extra p (Gives ts e) = total_size ts + 10000 * p ≤ 10000 * e + extra

-- and what a row yields
abbrev pub RawCosts : ℕ → ℕ → Raw → Type 0
RawCosts extra p Breaks = Unit {0}
RawCosts extra p (Yields ts ends e) = total_size ts + 10000 * p ≤ 10000 * e + extra

-- a row that passes on an outcome
pub raw_costs : (extra p : ℕ) (o : Outcome) → OutCosts extra p o → RawCosts extra p (raw_of o)
raw_costs extra p Fails h = tt
raw_costs extra p (Gives ts e) h = h

pub raw_weighs : (extra p : ℕ) (o : Outcome) → OutWeighs extra p o → RawWeighs extra p (raw_of o)
raw_weighs extra p Fails h = tt
raw_weighs extra p (Gives ts e) h = h

-- more is allowed
pub wider : (a b p : ℕ) (w : Raw) → a ≤ b → RawWeighs a p w → RawWeighs b p w
wider a b p Breaks l h = tt
wider a b p (Yields ts ends e) l h = λ m. let c = h m in omega arith

-- behind a part that took a byte
pub onward : (extra more p q : ℕ) (ts : List Tree) (w : Raw) → total_size ts + (10000 * p + 10000) ≤ 10000 * q + extra → RawCosts more q w
    → RawWeighs (extra + more) p (before ts w)
onward extra more p q ts Breaks a h = tt
onward extra more p q ts (Yields us ends e) a h = λ l. omega (arith, size_append ts us)

-- behind a part that took none
pub at_once : (extra more p q : ℕ) (ts : List Tree) (w : Raw) → total_size ts ≤ more → q ≡ p → RawWeighs extra q w
    → RawWeighs (extra + more) p (before ts w)
at_once extra more p q ts Breaks a s h = tt
at_once extra more p q ts (Yields us ends e) a s h = λ l. let b = h (omega arith) in omega (arith, size_append ts us)

-- what a row yields that takes nothing has no tree
abbrev pub RawNone : ℕ → Raw → Type 0
RawNone p Breaks = Unit {0}
RawNone p (Yields ts ends e) = e ≡ p → total_size ts ≡ 0

-- behind a part that took a byte nothing is empty
pub behind_none : (p q : ℕ) (ts : List Tree) (w : Raw) → p < q → RawLands le q w → RawNone p (before ts w)
behind_none p q ts Breaks l h = tt
behind_none p q ts (Yields us ends e) l h = λ z. absurd (omega arith)

-- items from some place on: none, or no more than 10,000 nodes for each byte
pub run_costs : (k p : ℕ) (w : Raw) → k < 526 → RawLands le p w → RawNone p w → RawWeighs (19 * k + 18) p w → RawCosts 0 p w
run_costs k p Breaks b l n h = tt
run_costs k p (Yields ts ends e) b l n h = elim (cases_lt p e) [ inl m ↦ (let c = h m in omega arith) | inr m ↦ (let c = n (omega arith) in omega arith) ]

-- the same of sequences
pub seq_behind : (extra more p q : ℕ) (ts : List Tree) (o : Option (List Piece)) → total_size ts + (10000 * p + 10000) ≤ 10000 * q + extra → SeqCosts more q o
    → SeqWeighs (extra + more) p (with_piece (piece ts q) o)
seq_behind extra more p q ts None a h = tt
seq_behind extra more p q ts (Some ps) a h = λ l. omega (arith, size_append ts (given_of ps))

pub seq_at_once : (extra more p q : ℕ) (ts : List Tree) (o : Option (List Piece)) → total_size ts ≤ more → q ≡ p → SeqWeighs extra q o
    → SeqWeighs (extra + more) p (with_piece (piece ts q) o)
seq_at_once extra more p q ts None a s h = tt
seq_at_once extra more p q ts (Some ps) a s h = λ l. let b = h (omega arith) in omega (arith, size_append ts (given_of ps))

-- more is allowed
pub seq_wider : (a b p : ℕ) (o : Option (List Piece)) → a ≤ b → SeqWeighs a p o → SeqWeighs b p o
seq_wider a b p None l h = tt
seq_wider a b p (Some ps) l h = λ m. let c = h m in omega arith

-- a part and those behind it
pub seq_more_costs : (more p q : ℕ) (ts : List Tree) (o : Option (List Piece)) → total_size ts + 10000 * p ≤ 10000 * q + 2 → SeqCosts more q o
    → SeqCosts (2 + more) p (with_piece (piece ts q) o)
seq_more_costs more p q ts None a h = tt
seq_more_costs more p q ts (Some ps) a h = omega (arith, size_append ts (given_of ps))

-- more is allowed
pub seq_costs_wider : (a b p : ℕ) (o : Option (List Piece)) → a ≤ b → SeqCosts a p o → SeqCosts b p o
seq_costs_wider a b p None l h = tt
seq_costs_wider a b p (Some ps) l h = omega arith

-- a row without parts, a sequence, an optional rule
pub leaf_weighs : (extra p : ℕ) (t : Option ℕ) → RawWeighs extra p (leaf p t)
leaf_weighs extra p None = tt
leaf_weighs extra p (Some k) = λ l. omega arith

pub together_weighs : (extra p : ℕ) (o : Option (List Piece)) → SeqWeighs extra p o → RawWeighs extra p (together p o)
together_weighs extra p None h = tt
together_weighs extra p (Some ps) h = h

pub opted_weighs : (extra p : ℕ) (o : Outcome) → OutSingle o → OutWeighs extra p o → RawWeighs (extra + 1) p (opted p o)
opted_weighs extra p Fails s h = λ l. absurd (omega arith)
opted_weighs extra p (Gives ts e) s h = λ l. let a = h l in omega (arith, size_present ts)

-- more is allowed
pub out_wider : (a b p : ℕ) (o : Outcome) → a ≤ b → OutWeighs a p o → OutWeighs b p o
out_wider a b p Fails l h = tt
out_wider a b p (Gives ts e) l h = λ m. let c = h m in omega arith

-- a rule's shape makes one node more at most
pub shaped_weighs : (text : List ℕ) (extra : ℕ) (row : Row) (shape : Shape) (p : ℕ) (w : Raw) → RawWeighs extra p w → OutWeighs (extra + 1) p (shaped text row shape p w)
shaped_weighs text extra row shape p Breaks h = tt
shaped_weighs text extra row shape p (Yields ts ends e) h = λ l. let a = h l in omega (arith, formed_size text row shape p ts ends)

-- a test of two numbers passes
pub at_most : (n m : ℕ) → nat_le n m ≡ true → n ≤ m
at_most n m h = omega (arith, leb-true)
