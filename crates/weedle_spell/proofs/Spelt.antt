-- What a rule takes where it gives the tree of a value: one lemma for each kind of row.
use Rattle.std.proofs.Common.{◌≡◌, inl, inr, ℕ, zero, suc, ◌+◌, List, [], ◌∷◌, ◌++◌, map, get_or, true, Option, Some, None, refl, sym, ap, ◌∙◌, subst, arith}
use Rattle.weedle_base.specs.Rules.{option_tree}
use Rattle.weedle_grammar.specs.Meaning.{Kept, Plain, Piece, piece, ReadsSeq, given_of, ends_of, last_end, kept, between}
use Rattle.weedle_grammar.specs.Rows.{Seq, First, Opt}
use Rattle.weedle_grammar.specs.written.Table.{webidl, row_of, shape_of, Reads}
use Rattle.weedle_grammar.specs.Trees.{Tree, Trees, Done, Then, trees, Text, Node, Alt, Absent, Present, Items, Gives}
use Rattle.weedle_spell.specs.Forms.{Form, empty, ◌then◌, that, optional}
use Rattle.weedle_grammar.proofs.OneTree.{is_single, gives_one}
use Rattle.weedle_spell.proofs.Always.{Always, AlwaysParts}
use Rattle.weedle_spell.proofs.Given.{Pieced, pieced, unpieced, pieces_of, chosen_by, was, optional_was}
use Rattle.weedle_spell.proofs.Took.{Took, Taken, nothing_taken, taken_then, took_between}

-- where the rule gives this tree, what it takes is of the form
pub record Spelt (L : Type 0) (r : ℕ) (t : Tree) (A : Form) : Type 0 where
  pub single : is_single r ≡ true
  pub of : (text : List ℕ) (p e : ℕ) → Reads text r p (Gives (t ∷ []) e) → Taken L text p e A

-- where the rule gives the tree of a value, what it takes is the value's rendering, except for an
-- LF at the end of the text
abbrev pub IsSpelt : {V : Type 0} → ℕ → (V → Tree) → (V → Form) → Type 0
IsSpelt {V} r tree spelling = (v : V) → Spelt (Unit {0}) r (tree v) (spelling v)

-- a rule that always takes the form takes it where it gives this tree
pub always_spelt : {L : Type 0} {r : ℕ} {A : Form} (t : Tree) → is_single r ≡ true → Always L r A → Spelt L r t A
always_spelt t s h = record { single = s; of = λ text p e d. h.of text p e (t ∷ []) d }

-- sequences of which one part is kept
pub record KeptParts (L : Type 0) (k : ℕ) (rs bytes : List ℕ) (A : Form) : Type 0 where
  pub of : (text : List ℕ) (p : ℕ) (pieces : List Piece) → ReadsSeq webidl text rs p (Some pieces) → kept text p (ends_of pieces) k ≡ bytes
      → Taken L text p (last_end p pieces) A

kept_exactly : {text : List ℕ} {p q : ℕ} {A : Form} (bytes : List ℕ) → between text p q ≡ bytes → Taken ⊥ text p q A → Took text p q (that bytes A)
kept_exactly bytes e (inl t) = record { bytes = t.bytes; is = t.is; size = t.size; has = (sym (took_between t) ∙ e, t.has) }
kept_exactly bytes e (inr t) = absurd t.0

module _ {L : Type 0} {r : ℕ} {rs bytes : List ℕ} {A B : Form} where
  -- the part that is kept
  pub kept_here : Always ⊥ r A → AlwaysParts L rs B → KeptParts L zero (r ∷ rs) bytes (that bytes A then B)
  kept_here h others = record {
    of = λ text p pieces d e.
        let x = pieced d in
        let k : between text p x.1 ≡ bytes = subst (λ (ps : List Piece). kept text p (ends_of ps) zero ≡ bytes) x.5 e in
        subst (λ (ps : List Piece). Taken L text p (last_end p ps) (that bytes A then B)) (sym x.5)
        (taken_then (inl (kept_exactly bytes k (h.of text p x.1 x.0 x.3))) (others.of text x.1 x.2 x.4));
  }

  -- a part before it
  pub kept_later : {k : ℕ} → Always L r A → KeptParts L k rs bytes B → KeptParts L (suc k) (r ∷ rs) bytes (A then B)
  kept_later {k} h others = record {
    of = λ text p pieces d e.
        let x = pieced d in
        let m : kept text x.1 (ends_of x.2) k ≡ bytes = subst (λ (ps : List Piece). kept text p (ends_of ps) (suc k) ≡ bytes) x.5 e in
        subst (λ (ps : List Piece). Taken L text p (last_end p ps) (A then B)) (sym x.5) (taken_then (h.of text p x.1 x.0 x.3) (others.of text x.1 x.2 x.4 m));
  }

same_text : {a b : List ℕ} → Text a ∷ [] ≡ Text b ∷ [] → b ≡ a
same_text e = cc

-- a rule that keeps a part
pub kept_spelt : {L : Type 0} {r k : ℕ} {rs bytes : List ℕ} {A : Form} → row_of r ≡ Seq rs → shape_of r ≡ Kept k → KeptParts L k rs bytes A → Spelt L r (Text bytes) A
kept_spelt {L} {r} {k} {rs} {bytes} {A} row shape h = record {
  single = rw shape refl;
  of = λ text p e d.
      let s = pieces_of row d in
      let f : kept text p (ends_of s.0) k ≡ bytes = same_text (rw shape at s.3) in
      subst (λ (z : ℕ). Taken L text p z A) s.2 (h.of text p s.0 s.1 f);
}

-- sequences whose parts are silent, or give one of these trees each
pub record SpeltParts (L : Type 0) (rs : List ℕ) (ts : List Tree) (A : Form) : Type 0 where
  pub of : (text : List ℕ) (p : ℕ) (pieces : List Piece) → ReadsSeq webidl text rs p (Some pieces) → given_of pieces ≡ ts → Taken L text p (last_end p pieces) A

pub front_of : {us gs ts : List Tree} {u t : Tree} → us ≡ u ∷ [] → us ++ gs ≡ t ∷ ts → (us ≡ t ∷ []) × (gs ≡ ts)
front_of {us} {gs} {ts} {u} {t} e h = let f : u ∷ gs ≡ t ∷ ts = sym (ap (λ (xs : List Tree). xs ++ gs) e) ∙ h in let a : u ≡ t = cc in (cc, cc)

-- a part that gives one tree, and the others
front : {L : Type 0} {r : ℕ} {t : Tree} {A : Form} {text rs : List ℕ} {p : ℕ} {pieces : List Piece} {ts : List Tree} → Spelt L r t A
    → (x : Pieced text r rs p pieces) → given_of pieces ≡ t ∷ ts → Taken L text p x.1 A × (given_of x.2 ≡ ts)
front {r = r} {t = t} {text = text} {p = p} {ts = ts} h x e =
    let g : x.0 ++ given_of x.2 ≡ t ∷ ts = subst (λ (ps : List Piece). given_of ps ≡ t ∷ ts) x.5 e in
    let f = front_of (gives_one h.single x.3).1 g in
    (h.of text p x.1 (subst (λ (us : List Tree). Reads text r p (Gives us x.1)) f.0 x.3), f.1)

module _ {L : Type 0} {r : ℕ} {t : Tree} {A : Form} (h : Spelt L r t A) where
  -- the last part
  pub last : SpeltParts L (r ∷ []) (t ∷ []) A
  last = record {
    of = λ text p pieces d e.
        let x = pieced d in
        let n = unpieced x.4 in
        subst (λ (ps : List Piece). Taken L text p (last_end p ps) A) (sym (x.5 ∙ ap (λ (ps : List Piece). piece x.0 x.1 ∷ ps) n)) (front h x e).0;
  }

  -- a part before others
  pub part : {rs : List ℕ} {ts : List Tree} {B : Form} → SpeltParts L rs ts B → SpeltParts L (r ∷ rs) (t ∷ ts) (A then B)
  part {B = B} others = record {
    of = λ text p pieces d e.
        let x = pieced d in
        let f = front h x e in
        subst (λ (ps : List Piece). Taken L text p (last_end p ps) (A then B)) (sym x.5) (taken_then f.0 (others.of text x.1 x.2 x.4 f.1));
  }

untree : Tree → Trees → Trees
untree t Done = Done
untree t (Then u us) = us

same_trees : (ts us : List Tree) → trees ts ≡ trees us → ts ≡ us
same_trees [] [] e = refl
same_trees [] (u ∷ us) e = cc
same_trees (t ∷ ts) [] e = cc
same_trees (t ∷ ts) (u ∷ us) e = let a : t ≡ u = cc in let b : trees ts ≡ trees us = cc in cc (same_trees ts us b)

pub same_node : {ts us : List Tree} → Node (trees ts) ∷ [] ≡ Node (trees us) ∷ [] → us ≡ ts
same_node {ts} {us} e = let h : trees us ≡ trees ts = cc in same_trees us ts h

pub same_items : {ts us : List Tree} → Items (trees ts) ∷ [] ≡ Items (trees us) ∷ [] → us ≡ ts
same_items {ts} {us} e = let h : trees us ≡ trees ts = cc in same_trees us ts h

-- a struct: a sequence of its fields
pub node : {L : Type 0} {r : ℕ} {rs : List ℕ} {ts : List Tree} {A : Form} → row_of r ≡ Seq rs → shape_of r ≡ Plain → SpeltParts L rs ts A
    → Spelt L r (Node (trees ts)) A
node {L} {A = A} row shape h = record {
  single = rw (shape, row) refl;
  of = λ text p e d.
      let s = pieces_of row d in
      subst (λ (z : ℕ). Taken L text p z A) s.2 (h.of text p s.0 s.1 (same_node (rw shape at s.3)));
}

same_alternative : {i j : ℕ} {t : Tree} (ts : List Tree) → Alt i t ∷ [] ≡ map (Alt (j + 0)) ts → (i ≡ j) × (ts ≡ t ∷ [])
same_alternative [] e = cc
same_alternative {i} {j} {t} (u ∷ []) e = let h : i ≡ j + 0 = cc in (omega arith, cc)
same_alternative (u ∷ v ∷ ts) e = cc

-- an enum: one of its members
pub alternative : {L : Type 0} {r x : ℕ} {rs : List ℕ} {t : Tree} {A : Form} (i : ℕ) → row_of r ≡ First rs → shape_of r ≡ Plain → get_or rs i 0 ≡ x
    → Spelt L x t A → Spelt L r (Alt i t) A
alternative {L} {r} {x} {rs} {t} {A} i row shape here h = record {
  single = rw (shape, row) refl;
  of = λ text p e d.
      let f = chosen_by row d in
      let w = was rs 0 f.1 in
      let m = same_alternative w.1 (sym (f.2 shape) ∙ w.3) in
      h.of text p e (subst (λ (k : ℕ). Reads text k p (Gives (t ∷ []) e)) (ap (λ (k : ℕ). get_or rs k 0) (sym m.0) ∙ here)
      (subst (λ (us : List Tree). Reads text (get_or rs w.0 0) p (Gives us e)) m.1 w.2));
}

pub absent_spelt : {L : Type 0} {r x : ℕ} → row_of r ≡ Opt x → shape_of r ≡ Plain → is_single x ≡ true → Spelt L r Absent empty
absent_spelt {L} {r} {x} row shape s = record {
  single = rw (shape, row) refl;
  of = λ text p e d.
      let o = optional_was row d in
      elim o.1 [
        | inl m ↦ (let u = gives_one s m.1 in let f : Absent ∷ [] ≡ map Present (u.0 ∷ []) = sym (o.2 shape) ∙ m.2 ∙ ap (map Present) u.1 in cc)
        | inr m ↦ nothing_taken refl m.1
      ];
}

pub present_spelt : {L : Type 0} {r x : ℕ} {t : Tree} {A : Form} → row_of r ≡ Opt x → shape_of r ≡ Plain → Spelt L x t A → Spelt L r (Present t) A
present_spelt {L} {r} {x} {t} row shape h = record {
  single = rw (shape, row) refl;
  of = λ text p e d.
      let o = optional_was row d in
      elim o.1 [
        | inl m ↦ (let u = gives_one h.single m.1 in
            let f : Present t ∷ [] ≡ map Present (u.0 ∷ []) = sym (o.2 shape) ∙ m.2 ∙ ap (map Present) u.1 in
            let same : m.0 ≡ t ∷ [] = (let g : u.0 ≡ t = cc in cc) in
            h.of text p e (subst (λ (us : List Tree). Reads text x p (Gives us e)) same m.1))
        | inr m ↦ (let f : Present t ∷ [] ≡ Absent ∷ [] = sym (o.2 shape) ∙ m.0 in cc)
      ];
}

-- an optional value
pub option_spelt : {L V : Type 0} {r x : ℕ} {tree : V → Tree} {S : V → Form} → row_of r ≡ Opt x → shape_of r ≡ Plain → is_single x ≡ true
    → ((v : V) → Spelt L x (tree v) (S v)) → (o : Option V) → Spelt L r (option_tree tree o) (optional S o)
option_spelt row shape s h None = absent_spelt row shape s
option_spelt row shape s h (Some v) = present_spelt row shape (h v)
