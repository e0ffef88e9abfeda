-- What a rule takes whatever it gives: one lemma for each kind of row.
use Rattle.std.proofs.Common.{◌≡◌, inl, inr, ℕ, suc, List, [], ◌∷◌, ◌++◌, take, drop, Some, refl, sym, ap, ◌∙◌, subst}
use Rattle.weedle_grammar.proofs.Leaves.{taken_le}
use Rattle.weedle_grammar.proofs.Inversion.{of_bytes, of_one, of_not_next, of_run, of_past, of_choice}
use Rattle.weedle_grammar.specs.Meaning.{Piece, piece, Raw, Yields, ReadsRow, ReadsSeq, ReadsFirst, many_end, many_stuck, many_more, last_end}
use Rattle.weedle_grammar.specs.Rows.{Bytes, OneOf, NotNext, Run, Past, Seq, First, Opt, Many, take_bytes, take_one, take_not_next, run_length, take_past}
use Rattle.weedle_grammar.specs.written.Table.{webidl, row_of, Reads}
use Rattle.weedle_grammar.specs.Trees.{Tree, Gives}
use Rattle.weedle_grammar.specs.declared.class.Class.{Class}
use Rattle.weedle_spell.specs.Forms.{Form, empty, exactly, ◌then◌, ◌or◌, perhaps, Chain, chain_ends, chain_goes_on, one, any, up_to}
use Rattle.weedle_spell.proofs.Given.{gave, leaf_end, pieced, unpieced, pieces_of, no_choice, chosen_by, optional_was, after}
use Rattle.weedle_spell.proofs.RowBytes.{took_leaf, bytes_form, one_form, run_form, not_next_form, past_form}
use Rattle.weedle_spell.proofs.Took.{Taken, taken_as, nothing_taken, taken_then}

-- whatever trees the rule gives, what it takes is of the form; except for an LF at the end of the
-- text, where L allows it
pub record Always (L : Type 0) (r : ℕ) (A : Form) : Type 0 where
  pub of : (text : List ℕ) (p e : ℕ) (ts : List Tree) → Reads text r p (Gives ts e) → Taken L text p e A

-- rows without parts
module _ {L : Type 0} {r : ℕ} where
  pub bytes_always : {b : List ℕ} → row_of r ≡ Bytes b → Always L r (exactly b)
  bytes_always {b} row = record {
    of = λ text p e ts d.
        let g = gave row d in
        let k = leaf_end p (take_bytes b (drop p text)) (of_bytes g.2) in
        inl (took_leaf k.0 k.2 (taken_le (Bytes b) (drop p text) k.0 k.1) (bytes_form b (drop p text) k.0 k.1));
  }

  pub one_always : {c : Class} → row_of r ≡ OneOf c → Always L r (one c)
  one_always {c} row = record {
    of = λ text p e ts d.
        let g = gave row d in
        let k = leaf_end p (take_one c (drop p text)) (of_one g.2) in
        inl (took_leaf k.0 k.2 (taken_le (OneOf c) (drop p text) k.0 k.1) (one_form c (drop p text) k.0 k.1));
  }

  pub not_next_always : {c : Class} → row_of r ≡ NotNext c → Always L r empty
  not_next_always {c} row = record {
    of = λ text p e ts d.
        let g = gave row d in
        let k = leaf_end p (take_not_next c (drop p text)) (of_not_next g.2) in
        inl (took_leaf k.0 k.2 (taken_le (NotNext c) (drop p text) k.0 k.1) (not_next_form c (drop p text) k.0 k.1));
  }

  pub run_always : {c : Class} → row_of r ≡ Run c → Always L r (any c)
  run_always {c} row = record {
    of = λ text p e ts d.
        let g = gave row d in
        let k = leaf_end p (Some (run_length c (drop p text))) (of_run g.2) in
        let n : run_length c (drop p text) ≡ k.0 = cc in
        inl (took_leaf k.0 k.2 (taken_le (Run c) (drop p text) k.0 k.1) (subst (λ (n : ℕ). any c (take n (drop p text))) n (run_form c (drop p text))));
  }

  pub past_always : {b : List ℕ} → row_of r ≡ Past b → Always L r (up_to b)
  past_always {b} row = record {
    of = λ text p e ts d.
        let g = gave row d in
        let k = leaf_end p (take_past b (drop p text)) (of_past g.2) in
        inl (took_leaf k.0 k.2 (taken_le (Past b) (drop p text) k.0 k.1) (past_form b (drop p text) k.0 k.1));
  }

-- sequences whose trees don't matter
pub record AlwaysParts (L : Type 0) (rs : List ℕ) (A : Form) : Type 0 where
  pub of : (text : List ℕ) (p : ℕ) (pieces : List Piece) → ReadsSeq webidl text rs p (Some pieces) → Taken L text p (last_end p pieces) A

module _ {L : Type 0} {r : ℕ} where
  pub always_last : {A : Form} → Always L r A → AlwaysParts L (r ∷ []) A
  always_last {A} h = record {
    of = λ text p pieces d.
        let x = pieced d in
        let n = unpieced x.4 in
        subst (λ (ps : List Piece). Taken L text p (last_end p ps) A) (sym (x.5 ∙ ap (λ (ps : List Piece). piece x.0 x.1 ∷ ps) n)) (h.of text p x.1 x.0 x.3);
  }

  pub always_part : {rs : List ℕ} {A B : Form} → Always L r A → AlwaysParts L rs B → AlwaysParts L (r ∷ rs) (A then B)
  always_part {A = A} {B = B} h others = record {
    of = λ text p pieces d.
        let x = pieced d in
        subst (λ (ps : List Piece). Taken L text p (last_end p ps) (A then B)) (sym x.5) (taken_then (h.of text p x.1 x.0 x.3) (others.of text x.1 x.2 x.4));
  }

pub always_skip : {L : Type 0} {r : ℕ} {rs : List ℕ} {B : Form} → Always L r empty → AlwaysParts L rs B → AlwaysParts L (r ∷ rs) B
always_skip {B = B} h others =
    let m = always_part h others in
    record { of = λ text p pieces d. taken_as (λ s t. subst B (sym (t.is ∙ ap (λ (x : List ℕ). x ++ t.rest) t.of_first)) t.of_rest) (m.of text p pieces d) }

pub seq_always : {L : Type 0} {r : ℕ} {rs : List ℕ} {A : Form} → row_of r ≡ Seq rs → AlwaysParts L rs A → Always L r A
seq_always {L} {A = A} row h = record {
  of = λ text p e ts d.
      let s = pieces_of row d in subst (λ (z : ℕ). Taken L text p z A) s.2 (h.of text p s.0 s.1);
}

-- choices whose trees don't matter
pub record AlwaysChoice (L : Type 0) (rs : List ℕ) (A : Form) : Type 0 where
  pub of : (text : List ℕ) (i p e : ℕ) (ts : List Tree) → ReadsFirst webidl text rs i p (Gives ts e) → Taken L text p e A

module _ {L : Type 0} {r : ℕ} where
  pub always_only : {A : Form} → Always L r A → AlwaysChoice L (r ∷ []) A
  always_only {A} h = record {
    of = λ text i p e ts d. elim (of_choice d) [
      | inl x ↦ (let z : x.1 ≡ e = cc in subst (λ (k : ℕ). Taken L text p k A) z (h.of text p x.1 x.0 x.2))
      | inr x ↦ no_choice x.1
    ];
  }

  pub always_first : {rs : List ℕ} {A B : Form} → Always L r A → AlwaysChoice L rs B → AlwaysChoice L (r ∷ rs) (A or B)
  always_first {A = A} {B = B} h others = record {
    of = λ text i p e ts d. elim (of_choice d) [
      | inl x ↦ (let z : x.1 ≡ e = cc in taken_as (λ s a. inl a) (subst (λ (k : ℕ). Taken L text p k A) z (h.of text p x.1 x.0 x.2)))
      | inr x ↦ taken_as (λ s b. inr b) (others.of text (suc i) p e ts x.1)
    ];
  }

pub first_always : {L : Type 0} {r : ℕ} {rs : List ℕ} {A : Form} → row_of r ≡ First rs → AlwaysChoice L rs A → Always L r A
first_always row h = record { of = λ text p e ts d. let f = chosen_by row d in h.of text 0 p e f.0 f.1 }

pub opt_always : {L : Type 0} {r x : ℕ} {A : Form} → row_of r ≡ Opt x → Always L x A → Always L r (perhaps A)
opt_always row h = record {
  of = λ text p e ts d. elim (optional_was row d).1 [
    | inl m ↦ taken_as (λ s a. inl a) (h.of text p e m.0 m.1)
    | inr m ↦ nothing_taken (inr refl) m.1
  ];
}

module _ {L : Type 0} {text : List ℕ} {x : ℕ} {A : Form} (item : Always L x A) where
  chain_of : {p : ℕ} {w : Raw} → ReadsRow webidl text (Many x) p w → {us : List Tree} {zs : List ℕ} {e : ℕ} → Yields us zs e ≡ w → Taken L text p e (Chain A)
  chain_of {p} (many_end d f) {e = e} h = let z : Yields _ _ e ≡ Yields [] [] p = h ∙ f in let y : p ≡ e = cc in nothing_taken (chain_ends refl) y
  chain_of (many_stuck d s f) h = cc
  chain_of {p} (many_more {q = q} {ts = ts} {w = w} d n m f) h =
      let a = after ts w (h ∙ f) in
      taken_as (λ s c. chain_goes_on c.is c.of_first c.of_rest) (taken_then (item.of text p q ts d) (chain_of m a.1))

-- the same rule again and again
pub many_always : {L : Type 0} {r x : ℕ} {A : Form} → row_of r ≡ Many x → Always L x A → Always L r (Chain A)
many_always row h = record { of = λ text p e ts d. let g = gave row d in chain_of h g.2 refl }
