-- Values that are found one after another.
use Rattle.std.proofs.Common.{◌≡◌, ℕ, suc, ◌==◌, ◌+◌, ◌-◌, ◌≤◌, Bool, true, false, List, [], ◌∷◌, ◌++◌, sym, subst, ◌∙◌, ap, arith, append-nil}
use Rattle.std.specs.Prelude.{cond}
use Rattle.weedle_syntax.specs.declared.dialect.Dialect.{Dialect}
use Rattle.weedle_syntax.specs.declared.node.Node.{Node}
use Rattle.weedle_syntax.specs.Tree.{node_at, numbers_where}
use Rattle.weedle_places.specs.declared.members.MemberPlace.{MemberPlace}
use Rattle.weedle_places.specs.Standing.{IsMemberAtIn, AreMembersAtIn, value_in}
use Rattle.weedle_places.proofs.NumberFacts.{numbers_more}

module _ (dialect : Dialect) (text : List ℕ) (ns : List Node) where
  stand_more : (is : List ℕ) (ms : List MemberPlace) (i : ℕ) (m : MemberPlace) → AreMembersAtIn dialect text ns is ms → IsMemberAtIn dialect text ns i m → AreMembersAtIn dialect text ns (is ++ i ∷ []) (ms ++ m ∷ [])
  stand_more [] [] i m h k = (k, tt)
  stand_more [] (n ∷ ms) i m h k = absurd h
  stand_more (j ∷ is) [] i m h k = absurd h
  stand_more (j ∷ is) (n ∷ ms) i m h k = (h.0, stand_more is ms i m h.1 k)

  abbrev pub is_value : ℕ → Bool
  is_value i = (node_at ns i).rule == value_in dialect

  module _ (start : ℕ) where
    -- the values of the nodes from the start up to node i
    pub record StandTo (i : ℕ) (values : List MemberPlace) : Type 0 where
      pub after : start ≤ i
      pub said : AreMembersAtIn dialect text ns (numbers_where is_value start (i - start)) values

    pub stand_none : (values : List MemberPlace) → values ≡ [] → StandTo start values
    unfolding numbers_where
    stand_none values e =
        let many : 0 ≡ start - start = omega arith in
        record {
          after = omega arith;
          said = subst (λ z. AreMembersAtIn dialect text ns (numbers_where is_value start z) values) many (subst (λ z. AreMembersAtIn dialect text ns [] z) (sym e) tt);
        }

    numbers_to : (i : ℕ) → start ≤ i → numbers_where is_value start (i + 1 - start) ≡ numbers_where is_value start (i - start) ++ cond (is_value i) (i ∷ []) []
    numbers_to i l =
        let many : i + 1 - start ≡ suc (i - start) = omega arith in
        let here : start + (i - start) ≡ i = omega arith in
        ap (numbers_where is_value start) many ∙ numbers_more is_value (i - start) start ∙ ap (λ z. numbers_where is_value start (i - start) ++ cond (is_value z) (z ∷ []) []) here

    pub stand_one : (values new : List MemberPlace) (i : ℕ) (m : MemberPlace) → is_value i ≡ true → new ≡ values ++ m ∷ [] → IsMemberAtIn dialect text ns i m → StandTo i values → StandTo (i + 1) new
    stand_one values new i m is e k h =
        let numbers = numbers_to i h.after ∙ ap (λ b. numbers_where is_value start (i - start) ++ cond b (i ∷ []) []) is in
        let a = h.after in
        record {
          after = omega arith;
          said = subst (λ z. AreMembersAtIn dialect text ns (numbers_where is_value start (i + 1 - start)) z) (sym e) (subst (λ z. AreMembersAtIn dialect text ns z (values ++ m ∷ [])) (sym numbers) (stand_more (numbers_where is_value start (i - start)) values i m h.said k));
        }

    pub stand_same : (values : List MemberPlace) (i : ℕ) → is_value i ≡ false → StandTo i values → StandTo (i + 1) values
    stand_same values i is h =
        let numbers = numbers_to i h.after ∙ ap (λ b. numbers_where is_value start (i - start) ++ cond b (i ∷ []) []) is ∙ append-nil (numbers_where is_value start (i - start)) in
        let a = h.after in
        record { after = omega arith; said = subst (λ z. AreMembersAtIn dialect text ns z values) (sym numbers) h.said }
