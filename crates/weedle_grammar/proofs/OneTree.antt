-- A rule that isn't silent, nor goes on with a list, gives exactly one tree. The parts that a rule's tree comes from must be such rules too: a test of the table.
use Rattle.std.proofs.Common.{◌≡◌, ℕ, zero, suc, List, [], ◌∷◌, ◌++◌, map, take, Bool, true, false, Option, Some, None, refl, sym, ap, subst}
use Rattle.std.specs.Prelude.{◌&&◌}
use Rattle.weedle_grammar.proofs.Leaves.{both}
use Rattle.weedle_grammar.specs.Entry.{Entry, entry_at}
use Rattle.weedle_grammar.specs.Meaning.{Shape, Silent, Marked, Kept, Line, Joined, Inner, Plain, Piece, piece, Raw, Breaks, Yields, ReadsBy, ReadsRow, ReadsSeq, ReadsFirst, by_row, by_seq, by_first, by_opt, seq_end, seq_fails, seq_more, first_none, first_here, first_next, formed, shaped, together, opted, raw_of, with_piece, given_of}
use Rattle.weedle_grammar.specs.Rows.{Row, Bytes, OneOf, NotNext, Run, Past, Seq, First, Opt, Many, ListOf, List1, Tail, If}
use Rattle.weedle_grammar.specs.written.Table.{webidl, table, row_of, shape_of, Reads}
use Rattle.weedle_grammar.specs.Trees.{Tree, Alt, Absent, Present, Outcome, Fails, Gives}

-- a plain row gives one tree, if its parts do
abbrev row_is_single : Row → Bool
row_is_single (Seq parts) = true
row_is_single (First parts) = true
row_is_single (Opt x) = true
row_is_single (Many x) = true
row_is_single (ListOf x t) = true
row_is_single (List1 x t) = true
row_is_single (If parts k y) = true
row_is_single _ = false

-- a rule of this shape and row gives one tree, if its parts do
abbrev pub is_single_of : Shape → Row → Bool
is_single_of Silent row = false
is_single_of Plain row = row_is_single row
is_single_of _ row = true

-- the rule gives one tree
abbrev pub is_single : ℕ → Bool
is_single r = is_single_of (shape_of r) (row_of r)

-- each of the rules does
abbrev pub all_single : List ℕ → Bool
all_single [] = true
all_single (r ∷ rs) = is_single r && all_single rs

-- the alternatives, or what may be there, give one tree
abbrev row_parts_fit : Row → Bool
row_parts_fit (First parts) = all_single parts
row_parts_fit (Opt x) = is_single x
row_parts_fit _ = true

-- the row is a sequence whose first part gives one tree
abbrev first_fits : Row → Bool
first_fits (Seq (x ∷ parts)) = is_single x
first_fits _ = false

-- the parts that a rule's one tree comes from give one tree
abbrev parts_fit : Shape → Row → Bool
parts_fit Plain row = row_parts_fit row
parts_fit Inner row = first_fits row
parts_fit _ row = true

-- all entries are such
abbrev all_fit : List Entry → Bool
all_fit [] = true
all_fit (e ∷ es) = parts_fit e.shape e.row && all_fit es

-- the table passes: the test is computed here
all_fit_here : all_fit table ≡ true
all_fit_here = refl

fits_at : (es : List Entry) (r : ℕ) → all_fit es ≡ true → parts_fit (entry_at es r).shape (entry_at es r).row ≡ true
fits_at [] r h = refl
fits_at (e ∷ es) zero h = (both _ _ h).0
fits_at (e ∷ es) (suc r) h = fits_at es r (both _ _ h).1

fits : (r : ℕ) → parts_fit (shape_of r) (row_of r) ≡ true
fits r = fits_at table r all_fit_here

-- one tree
abbrev pub IsOne : List Tree → Type 0
IsOne ts = (t : Tree) × (ts ≡ t ∷ [])

-- what an outcome gives is one tree
abbrev OneOut : Outcome → Type 0
OneOut Fails = Unit {0}
OneOut (Gives ts e) = IsOne ts

-- the first piece is one tree
abbrev OneFirst : Option (List Piece) → Type 0
OneFirst None = Unit {0}
OneFirst (Some []) = ⊥
OneFirst (Some (piece ∷ pieces)) = IsOne piece.given

-- what a row yields becomes one tree
abbrev OneRaw : List ℕ → Shape → Row → ℕ → Raw → Type 0
OneRaw text shape row p Breaks = Unit {0}
OneRaw text shape row p (Yields ts ends e) = IsOne (formed text row shape p ts ends)

one_shaped : (text : List ℕ) (shape : Shape) (row : Row) (p : ℕ) (w : Raw) → OneRaw text shape row p w → OneOut (shaped text row shape p w)
one_shaped text shape row p Breaks h = tt
one_shaped text shape row p (Yields ts ends e) h = h

one_alternative : (i q : ℕ) (ts : List Tree) → IsOne ts → OneOut (Gives (map (Alt i) ts) q)
one_alternative i q ts h = (Alt i h.0, ap (map (Alt i)) h.1)

one_chosen : (text : List ℕ) (parts : List ℕ) (p : ℕ) (o : Outcome) → OneOut o → OneRaw text Plain (First parts) p (raw_of o)
one_chosen text parts p Fails h = tt
one_chosen text parts p (Gives ts e) h = h

one_opted : (text : List ℕ) (x p : ℕ) (o : Outcome) → OneOut o → OneRaw text Plain (Opt x) p (opted p o)
one_opted text x p Fails h = (Absent, refl)
one_opted text x p (Gives ts e) h = (Present h.0, ap (map Present) h.1)

one_inner : (text : List ℕ) (parts : List ℕ) (p : ℕ) (o : Option (List Piece)) → OneFirst o → OneRaw text Inner (Seq parts) p (together p o)
one_inner text parts p None h = tt
one_inner text parts p (Some []) h = absurd h
one_inner text parts p (Some (x ∷ pieces)) h = (h.0, ap (λ (ts : List Tree). take 1 (ts ++ given_of pieces)) h.1)

one_front : (ts : List Tree) (q : ℕ) (o : Option (List Piece)) → IsOne ts → OneFirst (with_piece (piece ts q) o)
one_front ts q None h = tt
one_front ts q (Some pieces) h = h

-- a plain row whose tree holds what the parts gave, however much
one_held : (text : List ℕ) (row : Row) (p : ℕ) (w : Raw) → ((ts : List Tree) (ends : List ℕ) → IsOne (formed text row Plain p ts ends)) → OneRaw text Plain row p w
one_held text row p Breaks h = tt
one_held text row p (Yields ts ends e) h = h ts ends

-- a rule's one tree, by its shape
by_shape : (text : List ℕ) (shape : Shape) (row : Row) (p : ℕ) (w : Raw) → is_single_of shape row ≡ true → parts_fit shape row ≡ true
    → (row_is_single row ≡ true → row_parts_fit row ≡ true → OneRaw text Plain row p w) → (first_fits row ≡ true → OneRaw text Inner row p w)
    → OneRaw text shape row p w
by_shape text Silent row p w s h f g = cc
by_shape text Plain row p w s h f g = f s h
by_shape text Inner row p w s h f g = g h
by_shape text Marked row p Breaks s h f g = tt
by_shape text (Kept k) row p Breaks s h f g = tt
by_shape text Line row p Breaks s h f g = tt
by_shape text Joined row p Breaks s h f g = tt
by_shape text Marked row p (Yields ts ends e) s h f g = (_, refl)
by_shape text (Kept k) row p (Yields ts ends e) s h f g = (_, refl)
by_shape text Line row p (Yields ts ends e) s h f g = (_, refl)
by_shape text Joined row p (Yields ts ends e) s h f g = (_, refl)

-- what a row's parts give, as a plain rule or by its first part
abbrev OneRow : List ℕ → Row → ℕ → Raw → Type 0
OneRow text row p w = (row_is_single row ≡ true → row_parts_fit row ≡ true → OneRaw text Plain row p w) × (first_fits row ≡ true → OneRaw text Inner row p w)

-- no choice, no sequence and no optional part
abbrev is_other : Row → Bool
is_other (Seq parts) = false
is_other (First parts) = false
is_other (Opt x) = false
is_other row = true

other : (text : List ℕ) (row : Row) (p : ℕ) (w : Raw) → is_other row ≡ true → OneRow text row p w
other text (Seq parts) p w h = cc
other text (First parts) p w h = cc
other text (Opt x) p w h = cc
other text (Many x) p w h = (λ s f. one_held text (Many x) p w (λ ts ends. (_, refl)), λ f. cc)
other text (ListOf x t) p w h = (λ s f. one_held text (ListOf x t) p w (λ ts ends. (_, refl)), λ f. cc)
other text (List1 x t) p w h = (λ s f. one_held text (List1 x t) p w (λ ts ends. (_, refl)), λ f. cc)
other text (If parts k y) p w h = (λ s f. one_held text (If parts k y) p w (λ ts ends. (_, refl)), λ f. cc)
other text (Bytes b) p w h = (λ s f. cc, λ f. cc)
other text (OneOf c) p w h = (λ s f. cc, λ f. cc)
other text (NotNext c) p w h = (λ s f. cc, λ f. cc)
other text (Run c) p w h = (λ s f. cc, λ f. cc)
other text (Past b) p w h = (λ s f. cc, λ f. cc)
other text (Tail x t) p w h = (λ s f. cc, λ f. cc)

mutual
  one_out : {text : List ℕ} {r p : ℕ} {o : Outcome} → ReadsBy webidl text r p o → is_single r ≡ true → OneOut o
  one_out {text} {r} {p} (by_row {w = w} d e) s =
      let h = one_row d in
      subst OneOut (sym e) (one_shaped text (shape_of r) (row_of r) p w (by_shape text (shape_of r) (row_of r) p w s (fits r) h.0 h.1))

  one_row : {text : List ℕ} {row : Row} {p : ℕ} {w : Raw} → ReadsRow webidl text row p w → OneRow text row p w
  one_row {text} {p = p} (by_seq {parts = parts} {o = o} d e) =
      (λ s f. one_held text (Seq parts) p _ (λ ts ends. (_, refl)), λ f. subst (OneRaw text Inner (Seq parts) p) (sym e) (one_inner text parts p o (one_seq d f)))
  one_row {text} {p = p} (by_first {parts = parts} {o = o} d e) =
      (λ s f. subst (OneRaw text Plain (First parts) p) (sym e) (one_chosen text parts p o (one_first d f)), λ f. cc)
  one_row {text} {p = p} (by_opt {x = x} {o = o} d e) =
      (λ s f. subst (OneRaw text Plain (Opt x) p) (sym e) (one_opted text x p o (one_out d f)), λ f. cc)
  one_row {text} {row} {p} {w} d = other text row p w refl

  one_seq : {text rs : List ℕ} {p : ℕ} {o : Option (List Piece)} → ReadsSeq webidl text rs p o → first_fits (Seq rs) ≡ true → OneFirst o
  one_seq (seq_end e) f = cc
  one_seq (seq_fails d e) f = subst OneFirst (sym e) tt
  one_seq (seq_more {q = q} {ts = ts} {o = o} d m e) f = subst OneFirst (sym e) (one_front ts q o (one_out d f))

  one_first : {text rs : List ℕ} {i p : ℕ} {o : Outcome} → ReadsFirst webidl text rs i p o → all_single rs ≡ true → OneOut o
  one_first (first_none e) f = subst OneOut (sym e) tt
  one_first (first_here {i = i} {q = q} {ts = ts} d e) f = subst OneOut (sym e) (one_alternative i q ts (one_out d (both _ _ f).0))
  one_first (first_next d m) f = one_first m (both _ _ f).1

-- a rule that is single gives one tree
pub gives_one : {text : List ℕ} {r p e : ℕ} {ts : List Tree} → is_single r ≡ true → Reads text r p (Gives ts e) → IsOne ts
gives_one s d = one_out d s
