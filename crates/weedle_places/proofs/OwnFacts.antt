-- A name that is found is a node of the rule of names.
use Rattle.std.proofs.Common.{◌≡◌, inl, inr, ℕ, zero, suc, ◌==◌, ◌+◌, ◌<◌, ◌≤◌, Bool, true, false, ◌&&◌, List, [], ◌∷◌, length, Option, Some, None, refl, sym, subst, ◌∙◌, ap, arith, eqb-true}
use Rattle.std.specs.Prelude.{if◌then◌else◌}
use Rattle.std.proofs.lemmas.Bool.{cases_lt}
use Rattle.weedle_grammar.specs.written.Table.InterfaceMembers.{OPT_IDENTIFIER}
use Rattle.weedle_syntax.specs.declared.dialect.Dialect.{Dialect}
use Rattle.weedle_syntax.specs.declared.dialect.Dialect.TheVariants.{Weedle2, Today}
use Rattle.weedle_syntax.specs.declared.node.Node.{Node}
use Rattle.weedle_syntax.specs.Dialects.{IsFrontIn}
use Rattle.weedle_syntax.specs.Syntax.{root_to}
use Rattle.weedle_syntax.specs.Tree.{node_at, children_of}
use Rattle.weedle_places.specs.Names.{is_name}
use Rattle.weedle_places.specs.Around.{name_among, name_of_kind, name_behind, name_of_kind_in, or_other, own_name_in}
use Rattle.weedle_places.proofs.NameFacts.{children_within}
use Rattle.weedle_places.proofs.NumberFacts.{AreBelow}

-- there is no node past the end
past_end : (ns : List Node) (j : ℕ) → length ns ≤ j → node_at ns j ≡ root_to 0
past_end [] j l = refl
past_end (n ∷ ns) zero l = absurd (omega arith)
past_end (n ∷ ns) (suc j) l = past_end ns j (omega arith)

pub name_within : (ns : List Node) (j : ℕ) → is_name ns j ≡ true → j < length ns
name_within ns j h = elim (cases_lt j (length ns)) [
  | inl l ↦ l
  | inr l ↦ (
      let rule = eqb-true _ _ h in
      let root = ap (λ n. n.rule) (past_end ns j l) in
      absurd (omega (arith, rule, root)))
]

module _ (ns : List Node) where
  among_is : (cs : List ℕ) (j : ℕ) → name_among ns cs ≡ Some j → is_name ns j ≡ true
  among_is [] j h = cc
  among_is (c ∷ cs) j h = one (among_is cs j) (is_name ns c) refl h
    where
      two : (name_among ns cs ≡ Some j → is_name ns j ≡ true) → (a b : Bool) → is_name ns (c + 1) ≡ b → (if a && b then Some (c + 1) else name_among ns cs) ≡ Some j → is_name ns j ≡ true
      two rest true true e k = let same : c + 1 ≡ j = cc in subst (λ z. is_name ns z ≡ true) same e
      two rest true false e k = rest k
      two rest false b e k = rest k

      one : (name_among ns cs ≡ Some j → is_name ns j ≡ true) → (b : Bool) → is_name ns c ≡ b
          → (if b then Some c else (if (node_at ns c).rule == OPT_IDENTIFIER && is_name ns (c + 1) then Some (c + 1) else name_among ns cs)) ≡ Some j → is_name ns j ≡ true
      one rest true e k = let same : c ≡ j = cc in subst (λ z. is_name ns z ≡ true) same e
      one rest false e k = two rest ((node_at ns c).rule == OPT_IDENTIFIER) (is_name ns (c + 1)) refl k

  of_kind_is : (ks : List ℕ) (j : ℕ) → name_of_kind ns ks ≡ Some j → is_name ns j ≡ true
  of_kind_is [] j k = cc
  of_kind_is (x ∷ xs) j k = among_is (children_of ns x) j k

  behind_is : (ks : List ℕ) (j : ℕ) → name_behind ns ks ≡ Some j → is_name ns j ≡ true
  behind_is [] j k = cc
  behind_is (a ∷ []) j k = cc
  behind_is (a ∷ b ∷ []) j k = cc
  behind_is (a ∷ b ∷ x ∷ xs) j k = of_kind_is (children_of ns x) j k

  kind_is : (dialect : Dialect) (ks : List ℕ) (j : ℕ) → name_of_kind_in dialect ns ks ≡ Some j → is_name ns j ≡ true
  kind_is Weedle2 ks j k = of_kind_is ks j k
  kind_is Today ks j k = behind_is ks j k

  pub own_is : (dialect : Dialect) (i j : ℕ) → own_name_in dialect ns i ≡ Some j → is_name ns j ≡ true
  own_is dialect i j h = by (name_among ns (children_of ns i)) refl h
    where
      by : (o : Option ℕ) → name_among ns (children_of ns i) ≡ o → or_other o (name_of_kind_in dialect ns (children_of ns i)) ≡ Some j → is_name ns j ≡ true
      by (Some m) e k = among_is (children_of ns i) j (e ∙ k)
      by None e k = kind_is dialect (children_of ns i) j k

  -- without a name of its own a node has that of its kind
  pub own_of_kind : (dialect : Dialect) (i : ℕ) (o : Option ℕ) → name_among ns (children_of ns i) ≡ None → o ≡ name_of_kind_in dialect ns (children_of ns i) → o ≡ own_name_in dialect ns i
  own_of_kind dialect i o none is = is ∙ sym (ap (λ z. or_other z (name_of_kind_in dialect ns (children_of ns i))) none)

  -- the name behind two nodes that are passed over
  module _ (all cs xs ys : List ℕ) (a b : ℕ) (are : cs ≡ all) where
    pub behind_none : cs ≡ [] → None ≡ name_behind ns all
    behind_none none = sym (ap (name_behind ns) (sym are ∙ none))

    pub behind_one : cs ≡ a ∷ xs → xs ≡ [] → None ≡ name_behind ns all
    behind_one first none = sym (ap (name_behind ns) (sym are ∙ first ∙ ap (λ z. a ∷ z) none))

    pub behind_two : cs ≡ a ∷ xs → xs ≡ b ∷ ys → ys ≡ [] → None ≡ name_behind ns all
    behind_two first second none = sym (ap (name_behind ns) (sym are ∙ first ∙ ap (λ z. a ∷ z) (second ∙ ap (λ z. b ∷ z) none)))

    pub behind_three : (zs : List ℕ) (k : ℕ) (o : Option ℕ) → cs ≡ a ∷ xs → xs ≡ b ∷ ys → ys ≡ k ∷ zs → o ≡ name_of_kind ns (children_of ns k) → o ≡ name_behind ns all
    behind_three zs k o first second third is = is ∙ sym (ap (name_behind ns) (sym are ∙ first ∙ ap (λ z. a ∷ z) (second ∙ ap (λ z. b ∷ z) third)))

module _ (dialect : Dialect) (text : List ℕ) (ns : List Node) (front : IsFrontIn dialect text ns) (i : ℕ) (l : i < length ns) where
  pub first_within : (cs more : List ℕ) (kind : ℕ) → cs ≡ children_of ns i → cs ≡ kind ∷ more → kind < length ns
  first_within cs more kind e is = (subst (AreBelow (length ns)) (sym e ∙ is) (children_within dialect text ns front i l)).0

  pub third_within : (cs xs ys zs : List ℕ) (a b choice : ℕ) → cs ≡ children_of ns i → cs ≡ a ∷ xs → xs ≡ b ∷ ys → ys ≡ choice ∷ zs → choice < length ns
  third_within cs xs ys zs a b choice e first second third =
      let behind = (subst (AreBelow (length ns)) (sym e ∙ first) (children_within dialect text ns front i l)).1 in
      let others = (subst (AreBelow (length ns)) second behind).1 in
      (subst (AreBelow (length ns)) third others).0
