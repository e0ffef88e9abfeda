-- What the rule of a list takes, where it gives the tree of values.
use Rattle.std.proofs.Common.{◌≡◌, inl, inr, ℕ, List, [], ◌∷◌, ◌++◌, map, take, true, refl, sym, ap, ◌∙◌, subst}
use Rattle.weedle_base.specs.Rules.{items_tree}
use Rattle.weedle_grammar.proofs.Inversion.{of_list, of_list1}
use Rattle.weedle_grammar.specs.Meaning.{Inner, Plain, Piece, piece, Raw, Yields, ReadsRow, many_end, many_stuck, many_more, tail_end, tail_stuck, tail_back, tail_more, given_of, last_end}
use Rattle.weedle_grammar.specs.Rows.{Seq, Opt, Many, ListOf, List1, Tail}
use Rattle.weedle_grammar.specs.written.Table.{webidl, row_of, shape_of, Reads}
use Rattle.weedle_grammar.specs.Trees.{Tree, trees, Items, Gives}
use Rattle.weedle_spell.specs.Forms.{Form, perhaps, one, each, each_behind, separated_by, separated_non_empty}
use Rattle.weedle_grammar.proofs.OneTree.{is_single, gives_one}
use Rattle.weedle_spell.proofs.Always.{Always, opt_always}
use Rattle.weedle_spell.proofs.Given.{gave, pieced, unpieced, pieces_of, after, Followed, followed_of}
use Rattle.weedle_spell.proofs.Took.{Taken, nothing_taken, taken_then}
use Rattle.weedle_spell.proofs.Spelt.{Spelt, front_of, same_items}

-- each of the values is rendered by the rule
pub data AllSpelt (L : Type 0) (x : ℕ) {V : Type 0} (tree : V → Tree) (S : V → Form) : List V → Type 0 where
  all_none : AllSpelt L x tree S []
  all_more : {v : V} {vs : List V} → Spelt L x (tree v) (S v) → AllSpelt L x tree S vs → AllSpelt L x tree S (v ∷ vs)

pub all_spelt : {L V : Type 0} {x : ℕ} {tree : V → Tree} {S : V → Form} → ((v : V) → Spelt L x (tree v) (S v)) → (vs : List V) → AllSpelt L x tree S vs
all_spelt h [] = all_none
all_spelt h (v ∷ vs) = all_more (h v) (all_spelt h vs)

item_of : {text : List ℕ} {L V : Type 0} {x p q : ℕ} (tree : V → Tree) (S : V → Form) {us ts rest : List Tree} (v : V) (vs : List V) → Spelt L x (tree v) (S v)
    → Reads text x p (Gives ts q) → us ≡ ts ++ rest → us ≡ map tree (v ∷ vs) → Taken L text p q (S v) × (rest ≡ map tree vs)
item_of {text} {x = x} {p} {q} tree S {us = us} {ts} {rest} v vs h d a b =
    let f = front_of (gives_one h.single d).1 (sym a ∙ b) in
    (h.of text p q (subst (λ (us : List Tree). Reads text x p (Gives us q)) f.0 d), f.1)

no_items : {X : Type 0} {text : List ℕ} {x p q : ℕ} {us ts : List Tree} (rest : List Tree) → is_single x ≡ true → Reads text x p (Gives ts q) → us ≡ ts ++ rest → us ≡ [] → X
no_items {ts = ts} rest s d a b =
    let o = gives_one s d in let f : o.0 ∷ rest ≡ [] = ap (λ (xs : List Tree). xs ++ rest) (sym o.1) ∙ sym a ∙ b in cc

module _ {L V : Type 0} {text : List ℕ} {x : ℕ} (tree : V → Tree) (S : V → Form) (single : is_single x ≡ true) where
  each_of : {p : ℕ} {w : Raw} → ReadsRow webidl text (Many x) p w → {us : List Tree} {zs : List ℕ} {e : ℕ} → Yields us zs e ≡ w
      → (vs : List V) → AllSpelt L x tree S vs → us ≡ map tree vs → Taken L text p e (each S vs)
  each_of {p} (many_end d f) {us} {zs} {e} h [] all i = let z : Yields us zs e ≡ Yields [] [] p = h ∙ f in let y : p ≡ e = cc in nothing_taken refl y
  each_of {p} (many_end d f) {us} {zs} {e} h (v ∷ vs) (all_more one all) i = let z : Yields us zs e ≡ Yields [] [] p = h ∙ f in let y : us ≡ [] = cc in cc
  each_of (many_stuck d s f) h vs all i = cc
  each_of (many_more {ts = ts} {w = w} d n m f) h [] all i = let a = after ts w (h ∙ f) in no_items a.0 single d a.2 i
  each_of (many_more {ts = ts} {w = w} d n m f) h (v ∷ vs) (all_more one all) i =
      let a = after ts w (h ∙ f) in
      let t = item_of tree S v vs one d a.2 i in
      taken_then t.0 (each_of m a.1 vs all t.1)

  module _ {separator : ℕ} {B : Form} (behind : Always L separator B) where
    tail_of : {p : ℕ} {w : Raw} → ReadsRow webidl text (Tail x separator) p w → {us : List Tree} {zs : List ℕ} {e : ℕ} → Yields us zs e ≡ w
        → (vs : List V) → AllSpelt L x tree S vs → us ≡ map tree vs → Taken L text p e (each_behind S B vs)
    tail_of {p} (tail_end d f) {us} {zs} {e} h [] all i = let z : Yields us zs e ≡ Yields [] [] p = h ∙ f in let y : p ≡ e = cc in nothing_taken refl y
    tail_of {p} (tail_end d f) {us} {zs} {e} h (v ∷ vs) (all_more one all) i = let z : Yields us zs e ≡ Yields [] [] p = h ∙ f in let y : us ≡ [] = cc in cc
    tail_of (tail_stuck d s f) h vs all i = cc
    tail_of {p} (tail_back d n m f) {us} {zs} {e} h [] all i = let z : Yields us zs e ≡ Yields [] [] p = h ∙ f in let y : p ≡ e = cc in nothing_taken refl y
    tail_of {p} (tail_back d n m f) {us} {zs} {e} h (v ∷ vs) (all_more one all) i = let z : Yields us zs e ≡ Yields [] [] p = h ∙ f in let y : us ≡ [] = cc in cc
    tail_of (tail_more {us = ts} {w = w} d n k m f) h [] all i = let a = after ts w (h ∙ f) in no_items a.0 single k a.2 i
    tail_of {p} (tail_more {q = q} {ts = ts} {us = is} {w = w} d n k m f) h (v ∷ vs) (all_more one all) i =
        let a = after is w (h ∙ f) in
        let t = item_of tree S v vs one k a.2 i in
        taken_then (behind.of text p q ts d) (taken_then t.0 (tail_of m a.1 vs all t.1))

-- a list: items from end to end
pub many_spelt : {L V : Type 0} {r x : ℕ} {tree : V → Tree} {S : V → Form} → row_of r ≡ Many x → shape_of r ≡ Plain → is_single x ≡ true
    → (vs : List V) → AllSpelt L x tree S vs → Spelt L r (items_tree tree vs) (each S vs)
many_spelt {tree = tree} {S} row shape s vs all = record {
  single = rw (shape, row) refl;
  of = λ text p e d. let g = gave row d in each_of tree S s g.2 refl vs all (same_items (rw shape at g.3));
}

module _ {L V : Type 0} {x t separator : ℕ} (tree : V → Tree) (S : V → Form) {B : Form} (row : row_of t ≡ Tail x separator) (shape : shape_of t ≡ Plain)
    (single : is_single x ≡ true) (behind : Always L separator B) where
  items_of : {text : List ℕ} {p e : ℕ} {us : List Tree} → Followed text x t p e us → (v : V) (vs : List V) → AllSpelt L x tree S (v ∷ vs)
      → us ≡ map tree (v ∷ vs) → Taken L text p e (separated_by S B (v ∷ vs))
  items_of f v vs (all_more one all) i =
      let m = item_of tree S v vs one f.3 f.5 i in
      let g = gave row f.4 in
      taken_then m.0 (tail_of tree S single behind g.2 refl vs all (sym (rw shape at g.3) ∙ m.1))

  list_of : {text : List ℕ} {p e : ℕ} {us : List Tree} {zs : List ℕ} → ReadsRow webidl text (ListOf x t) p (Yields us zs e) → (vs : List V) → AllSpelt L x tree S vs
      → us ≡ map tree vs → Taken L text p e (separated_by S B vs)
  list_of {p = p} {e} {us} {zs} d [] all i = elim (of_list d) [
    | inl h ↦ (let y : p ≡ e = cc in nothing_taken refl y)
    | inr h ↦ (let f = followed_of h.2 h.3 h.4 h.5 in no_items f.1 single f.3 f.5 i)
  ]
  list_of {p = p} {e} {us} {zs} d (v ∷ vs) all i = elim (of_list d) [
    | inl h ↦ cc
    | inr h ↦ items_of (followed_of h.2 h.3 h.4 h.5) v vs all i
  ]

  -- a list with separators
  pub list_spelt : {r : ℕ} → row_of r ≡ ListOf x t → shape_of r ≡ Plain → (vs : List V) → AllSpelt L x tree S vs → Spelt L r (items_tree tree vs) (separated_by S B vs)
  list_spelt rowr shaper vs all = record {
    single = rw (shaper, rowr) refl;
    of = λ text p e d. let g = gave rowr d in list_of g.2 vs all (same_items (rw shaper at g.3));
  }

  list1_of : {text : List ℕ} {p e : ℕ} {us : List Tree} {zs : List ℕ} → ReadsRow webidl text (List1 x t) p (Yields us zs e) → (vs : List V) → AllSpelt L x tree S vs
      → us ≡ map tree vs → (z : ℕ) → Taken L text e z (perhaps B) → Taken L text p z (separated_non_empty S B vs)
  list1_of d [] all i z m = elim (of_list1 d) [ inl h ↦ cc | inr h ↦ (let f = followed_of h.2 h.3 h.4 h.5 in no_items f.1 single f.3 f.5 i) ]
  list1_of d (v ∷ vs) all i z m = elim (of_list1 d) [ inl h ↦ cc | inr h ↦ taken_then (items_of (followed_of h.2 h.3 h.4 h.5) v vs all i) m ]

  -- a list that isn't empty, with separators, and with one more at its end where it is
  pub list1_spelt : {r l o : ℕ} → row_of r ≡ Seq (l ∷ o ∷ []) → shape_of r ≡ Inner → row_of l ≡ List1 x t → shape_of l ≡ Plain → row_of o ≡ Opt separator
      → (vs : List V) → AllSpelt L x tree S vs → Spelt L r (items_tree tree vs) (separated_non_empty S B vs)
  list1_spelt {r} {l} {o} rowr shaper rowl shapel rowo vs all = record {
    single = rw shaper refl;
    of = λ text p e d.
        let s = pieces_of rowr d in
        let x = pieced s.1 in
        let y = pieced x.4 in
        let n = unpieced y.4 in
        let g = gave rowl x.3 in
        let one : x.0 ≡ Items (trees g.0) ∷ [] = rw shapel at g.3 in
        let front : items_tree tree vs ∷ [] ≡ take 1 (x.0 ++ given_of x.2) = rw x.5 at (rw shaper at s.3) in
        let same : g.0 ≡ map tree vs = same_items (front ∙ ap (λ (ts : List Tree). take 1 (ts ++ given_of x.2)) one) in
        let more = (opt_always rowo behind).of text x.1 y.1 y.0 y.3 in
        let z : y.1 ≡ e = sym (ap (λ (ps : List Piece). last_end p ps) (x.5 ∙ ap (λ (ps : List Piece). piece x.0 x.1 ∷ ps) (y.5 ∙ ap (λ (ps : List Piece). piece y.0 y.1 ∷ ps) n))) ∙ s.2 in
        subst (λ (k : ℕ). Taken L text p k (separated_non_empty S B vs)) z (list1_of g.2 vs all same y.1 more);
  }
