-- What the parts of a rule gave, from what the rule gave.
use Rattle.std.proofs.Common.{◌≡◌, ◌⊎◌, inl, inr, ℕ, suc, ◌+◌, List, [], ◌∷◌, ◌++◌, map, get_or, Option, Some, None, refl, sym, ap, ◌∙◌, subst, arith}
use Rattle.weedle_grammar.proofs.Inversion.{at_row, of_seq, of_first, of_opt, of_no_parts, of_parts, of_choice}
use Rattle.weedle_grammar.specs.Meaning.{Plain, Piece, piece, Raw, Breaks, Yields, ReadsRow, ReadsSeq, ReadsFirst, first_none, formed, shaped, leaf, together, raw_of, opted, before, with_piece, given_of, ends_of, last_end}
use Rattle.weedle_grammar.specs.Rows.{Row, Seq, First, Opt}
use Rattle.weedle_grammar.specs.written.Table.{webidl, row_of, shape_of, Reads}
use Rattle.weedle_grammar.specs.Trees.{Tree, Alt, Absent, Present, Outcome, Fails, Gives}

abbrev pub Gave : List ℕ → ℕ → Row → ℕ → ℕ → List Tree → Type 0
Gave text r row p e ts = (us : List Tree) × (ends : List ℕ) × ReadsRow webidl text row p (Yields us ends e) × (ts ≡ formed text row (shape_of r) p us ends)

gave_of : (r : ℕ) {text : List ℕ} {p e : ℕ} {row : Row} {ts : List Tree} (w : Raw) → ReadsRow webidl text row p w
    → Gives ts e ≡ shaped text row (shape_of r) p w → Gave text r row p e ts
gave_of r Breaks d h = cc
gave_of r {text} {p} {e} {row} (Yields us ends z) d h =
    let end : z ≡ e = cc in (us, ends, subst (λ (k : ℕ). ReadsRow webidl text row p (Yields us ends k)) end d, cc)

pub gave : {text : List ℕ} {r p e : ℕ} {row : Row} {ts : List Tree} → row_of r ≡ row → Reads text r p (Gives ts e) → Gave text r row p e ts
gave {r = r} row d = let h = at_row row d in gave_of r h.0 h.1 h.2

-- the end of a row without parts
pub leaf_end : (p : ℕ) {e : ℕ} {us : List Tree} {ends : List ℕ} (o : Option ℕ) → Yields us ends e ≡ leaf p o → (k : ℕ) × (o ≡ Some k) × (p + k ≡ e)
leaf_end p None h = cc
leaf_end p (Some k) h = (k, refl, cc)

-- the pieces of a sequence: the first, and the others
abbrev pub Pieced : List ℕ → ℕ → List ℕ → ℕ → List Piece → Type 0
Pieced text r rs p pieces = (ts : List Tree) × (q : ℕ) × (others : List Piece) × Reads text r p (Gives ts q) × ReadsSeq webidl text rs q (Some others) × (pieces ≡ piece ts q ∷ others)

pieced_of : {text : List ℕ} {r p q : ℕ} {rs : List ℕ} {ts : List Tree} {pieces : List Piece} (o : Option (List Piece)) → Reads text r p (Gives ts q)
    → ReadsSeq webidl text rs q o → Some pieces ≡ with_piece (piece ts q) o → Pieced text r rs p pieces
pieced_of None d m e = cc
pieced_of {q = q} {ts = ts} (Some others) d m e = (ts, q, others, d, m, cc)

pub pieced : {text : List ℕ} {r p : ℕ} {rs : List ℕ} {pieces : List Piece} → ReadsSeq webidl text (r ∷ rs) p (Some pieces) → Pieced text r rs p pieces
pieced d = elim (of_parts d) [ inl h ↦ cc | inr h ↦ pieced_of h.2 h.3 h.4 h.5 ]

-- the end of the pieces is that of the others
pub end_on : (p q : ℕ) (ts : List Tree) (pieces others : List Piece) → pieces ≡ piece ts q ∷ others → last_end p pieces ≡ last_end q others
end_on p q ts pieces others e = ap (λ (ps : List Piece). last_end p ps) e

pub unpieced : {text : List ℕ} {p : ℕ} {pieces : List Piece} → ReadsSeq webidl text [] p (Some pieces) → pieces ≡ []
unpieced d = let e = of_no_parts d in cc

-- the pieces of a rule whose row is a sequence
abbrev pub Pieces : List ℕ → ℕ → List ℕ → ℕ → ℕ → List Tree → Type 0
Pieces text r rs p e ts = (pieces : List Piece) × ReadsSeq webidl text rs p (Some pieces) × (last_end p pieces ≡ e)
    × (ts ≡ formed text (Seq rs) (shape_of r) p (given_of pieces) (ends_of pieces))

pieces_by : {text : List ℕ} {p e : ℕ} {rs : List ℕ} {ts us : List Tree} {ends : List ℕ} (r : ℕ) (o : Option (List Piece)) → ReadsSeq webidl text rs p o
    → Yields us ends e ≡ together p o → ts ≡ formed text (Seq rs) (shape_of r) p us ends → Pieces text r rs p e ts
pieces_by r None d h f = cc
pieces_by {us = us} {ends = zs} r (Some pieces) d h f =
    let a : given_of pieces ≡ us = cc in let b : ends_of pieces ≡ zs = cc in
    (pieces, d, cc, rw (a, b) f)

pub pieces_of : {text : List ℕ} {r p e : ℕ} {rs : List ℕ} {ts : List Tree} → row_of r ≡ Seq rs → Reads text r p (Gives ts e) → Pieces text r rs p e ts
pieces_of {r = r} row d = let g = gave row d in let s = of_seq g.2 in pieces_by r s.0 s.1 s.2 g.3

pub no_choice : {X : Type 0} {text : List ℕ} {i p e : ℕ} {ts : List Tree} → ReadsFirst webidl text [] i p (Gives ts e) → X
no_choice (first_none e) = cc

out_first : {text : List ℕ} {p e : ℕ} {rs : List ℕ} {us : List Tree} {zs : List ℕ} (o : Outcome) → ReadsFirst webidl text rs 0 p o
    → Yields us zs e ≡ raw_of o → ReadsFirst webidl text rs 0 p (Gives us e)
out_first Fails d h = cc
out_first {text} {p} {e} {rs = rs} {us = us} (Gives ts q) d h =
    let z : Gives ts q ≡ Gives us e = cc in subst (λ (o : Outcome). ReadsFirst webidl text rs 0 p o) z d

-- what the alternatives of a choice gave
pub chosen_by : {text : List ℕ} {r p e : ℕ} {rs : List ℕ} {ts : List Tree} → row_of r ≡ First rs → Reads text r p (Gives ts e)
    → (us : List Tree) × ReadsFirst webidl text rs 0 p (Gives us e) × (shape_of r ≡ Plain → us ≡ ts)
chosen_by {text} {r} {p} row d =
    let g = gave row d in let f = of_first g.2 in (g.0, out_first f.0 f.1 f.2, λ shape. sym (rw shape at g.3))

-- which alternative it was, of those that count from i
abbrev pub Was : List ℕ → List ℕ → ℕ → ℕ → ℕ → List Tree → Type 0
Was text rs i p e us = (j : ℕ) × (ts : List Tree) × Reads text (get_or rs j 0) p (Gives ts e) × (us ≡ map (Alt (j + i)) ts)

was_next : {text : List ℕ} {p e : ℕ} {us : List Tree} (rs : List ℕ) (i r : ℕ) → Was text rs (suc i) p e us → Was text (r ∷ rs) i p e us
was_next rs i r w = (suc w.0, w.1, w.2, w.3 ∙ ap (λ (k : ℕ). map (Alt k) w.1) (omega arith))

pub was : {text : List ℕ} {p e : ℕ} {us : List Tree} (rs : List ℕ) (i : ℕ) → ReadsFirst webidl text rs i p (Gives us e) → Was text rs i p e us
was [] i d = no_choice d
was {text} {p} {e} {us} (r ∷ rs) i d = elim (of_choice d) [
  | inl x ↦ (let z : x.1 ≡ e = cc in
      let f : us ≡ map (Alt i) x.0 = cc in
      (0, x.0, subst (λ (k : ℕ). Reads text r p (Gives x.0 k)) z x.2, f ∙ ap (λ (k : ℕ). map (Alt k) x.0) (omega arith)))
  | inr x ↦ was_next rs i r (was rs (suc i) x.1)
]

-- an optional part, whose trees don't matter: it was there, or not
abbrev pub OptionWas : List ℕ → ℕ → ℕ → ℕ → List Tree → Type 0
OptionWas text x p e ts = ((us : List Tree) × Reads text x p (Gives us e) × (ts ≡ map Present us)) ⊎ ((ts ≡ Absent ∷ []) × (p ≡ e))

option_of : {text : List ℕ} {x p e : ℕ} {ts : List Tree} {zs : List ℕ} (o : Outcome) → Reads text x p o → Yields ts zs e ≡ opted p o → OptionWas text x p e ts
option_of Fails d h = inr (cc, cc)
option_of {text} {x} {p} {e} (Gives us q) d h = let z : q ≡ e = cc in inl (us, subst (λ (k : ℕ). Reads text x p (Gives us k)) z d, cc)

pub optional_was : {text : List ℕ} {r x p e : ℕ} {ts : List Tree} → row_of r ≡ Opt x → Reads text r p (Gives ts e)
    → (us : List Tree) × OptionWas text x p e us × (shape_of r ≡ Plain → us ≡ ts)
optional_was row d = let g = gave row d in let o = of_opt g.2 in (g.0, option_of o.0 o.1 o.2, λ shape. sym (rw shape at g.3))

-- what was yielded after these trees
pub after : {us : List Tree} {zs : List ℕ} {e : ℕ} (ts : List Tree) (w : Raw) → Yields us zs e ≡ before ts w → (vs : List Tree) × (Yields vs zs e ≡ w) × (us ≡ ts ++ vs)
after ts Breaks h = cc
after ts (Yields vs ys z) h = (vs, cc, cc)

-- an item, and what the rule of the items after it gave
abbrev pub Followed : List ℕ → ℕ → ℕ → ℕ → ℕ → List Tree → Type 0
Followed text x t p e us = (ts vs : List Tree) × (q : ℕ) × Reads text x p (Gives ts q) × Reads text t q (Gives vs e) × (us ≡ ts ++ vs)

pub followed_of : {text : List ℕ} {x t p q e : ℕ} {ts us : List Tree} {zs : List ℕ} (o : Outcome) → Reads text x p (Gives ts q) → Reads text t q o
    → Yields us zs e ≡ before ts (raw_of o) → Followed text x t p e us
followed_of Fails d m h = cc
followed_of {text} {t = t} {q = q} {e} {ts = ts} (Gives vs z) d m h = let y : z ≡ e = cc in (ts, vs, q, d, subst (λ (k : ℕ). Reads text t q (Gives vs k)) y m, cc)
