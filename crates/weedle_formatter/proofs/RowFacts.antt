-- What a row yields is told by what its parts say.
use Rattle.std.proofs.Common.{◌≡◌, ◌⊎◌, inl, inr, ℕ, suc, List, [], ◌∷◌, ◌++◌, length, map, take, drop, Bool, true, false, Option, Some, None, refl, sym, subst, ◌∙◌, ap, arith, append_assoc, append-nil, length-append, eq-eqb, ne_eqb, lt-ltb, le-ltb}
use Rattle.std.specs.Prelude.{nat_lt, if◌then◌else◌}
use Rattle.std.specs.List.{list_all}
use Rattle.weedle_grammar.specs.Rows.{Row, Bytes, OneOf, NotNext, Run, Past, Seq, First, Opt, Many, ListOf, List1, Tail, If, run_length}
use Rattle.weedle_grammar.specs.Trees.{Tree, Text, Alt, Absent, Present, Lines, Outcome, Fails, Gives}
use Rattle.weedle_grammar.specs.Meaning.{Shape, Silent, Marked, Kept, Line, Joined, Inner, Plain, Piece, piece, Raw, Breaks, Yields, leaf, ReadsRow, ReadsSeq, ReadsFirst, seq_end, seq_more, formed, opted, raw_of, together, before, given_of, last_end, gave_some, kept, plain, joined, but_last}
use Rattle.weedle_grammar.specs.written.Table.{webidl, Reads}
use Rattle.weedle_grammar.proofs.Leaves.{both}
use Rattle.weedle_grammar.proofs.Unique.{one_seq}
use Rattle.weedle_grammar.proofs.Inversion.{of_no_parts, of_parts, of_bytes, of_one, of_not_next, of_run, of_past, of_seq, of_first, of_choice, of_opt, of_many, of_list, of_list1, of_tail, of_if}
use Rattle.weedle_rules.specs.Outcomes.{EndsAt, FailsAt}
use Rattle.weedle_rules.proofs.OutcomeFacts.{one_end, not_both}
use Rattle.weedle_syntax.specs.declared.node.Node.{Node}
use Rattle.weedle_syntax.specs.Parts.{AreInTurn, IsFirst, AreItems, NoneFollows, AreFollowing, Gave, AreListed, AreParts}
use Rattle.weedle_formatter.proofs.Said.{is_solid}
use Rattle.weedle_formatter.proofs.Named.{keeps, row_told, is_told, all_and_one}
use Rattle.weedle_formatter.proofs.Told.{Told, all_given, items_given, chosen, choice_given, option_given, yielded, row_bytes, gives}
use Rattle.weedle_formatter.proofs.ToldFacts.{AreTold, clash, same_gives, front, of_none, of_no_nodes, told_given, node_end, part_given, turn_given, turn_bytes, turn_length, other_pieces}

same_yields : (ts us : List Tree) (es fs : List ℕ) (p q : ℕ) → Yields ts es p ≡ Yields us fs q → (ts ≡ us) × (es ≡ fs)
same_yields ts us es fs p q e = (cc, cc)

breaks : {A : Type 0} (ts : List Tree) (es : List ℕ) (p : ℕ) → Yields ts es p ≡ Breaks → A
breaks ts es p e = cc

leaf_yields : (us : List Tree) (ends : List ℕ) (p e : ℕ) (o : Option ℕ) → Yields us ends e ≡ leaf p o → us ≡ []
leaf_yields us ends p e None h = cc
leaf_yields us ends p e (Some k) h = (same_yields _ _ _ _ _ _ h).0

module _ (text : List ℕ) (d : ℕ) where
  -- the first of a list of parts is read
  begins : (r : ℕ) (rs : List ℕ) (p e : ℕ) (ns : List Node) → AreInTurn text (r ∷ rs) d p e ns → (q : ℕ) × EndsAt text r p q
  begins r rs p e [] h = absurd h
  begins r rs p e (n ∷ ns) h = (n.end, h.0.reads)

  -- the node of the first of rules is of one that is read here
  pub record OneRead (p i : ℕ) (rs : List ℕ) (bs : List Told) (ts : List Tree) : Type 0 where
    pub first : Told
    pub others : List Told
    pub is : bs ≡ first ∷ others
    pub end : ℕ
    pub reads : EndsAt text first.rule p end
    pub given : ts ≡ chosen i rs first

  first_told : (rs : List ℕ) (i p e q : ℕ) (ns : List Node) (bs : List Told) (ts : List Tree) → list_all is_solid rs ≡ true → IsFirst text rs d p e ns → AreTold text ns bs
      → ReadsFirst webidl text rs i p (Gives ts q) → OneRead p i rs bs ts
  first_told [] i p e q ns bs ts t h a m = absurd h
  first_told (r ∷ rs) i p e q [] bs ts t (inl h) a m = absurd h
  first_told (r ∷ rs) i p e q (n ∷ ns) bs ts t (inl h) a m = elim (of_choice m) [
    | inl (us, z, given, w) ↦ (
        let f = front (ap is_solid h.0.rule_is ∙ (both (is_solid r) _ t).0) a in
        let rule : f.first.rule ≡ r = f.told.rule_is ∙ h.0.rule_is in
        record {
          first = f.first;
          others = f.others;
          is = f.is;
          end = n.end;
          reads = subst (λ x. EndsAt text x p n.end) (sym rule) h.0.reads;
          given = (same_gives _ _ _ _ w).0 ∙ ap (map (Alt i)) (told_given h.0 f.told given).0
              ∙ ap (λ b. if b then map (Alt i) f.first.given else chosen (suc i) rs f.first) (sym (eq-eqb r f.first.rule (sym rule)));
        })
    | inr k ↦ absurd (not_both k.0 h.0.reads)
  ]
  first_told (r ∷ rs) i p e q ns bs ts t (inr h) a m = elim (of_choice m) [
    | inl (us, z, given, w) ↦ absurd (not_both h.0 (us, given))
    | inr k ↦ (
        let f = first_told rs (suc i) p e q ns bs ts (both (is_solid r) _ t).1 h.1 a k.1 in
        record {
          first = f.first;
          others = f.others;
          is = f.is;
          end = f.end;
          reads = f.reads;
          given = f.given ∙ ap (λ b. if b then map (Alt i) f.first.given else chosen (suc i) rs f.first)
              (sym (ne_eqb r f.first.rule (λ s. not_both h.0 (subst (λ x. EndsAt text x p f.end) (sym s) f.reads))));
        })
  ]

  choice_yields : (rs : List ℕ) (p e : ℕ) (ns : List Node) (bs : List Told) (us : List Tree) (ends : List ℕ) → list_all is_solid rs ≡ true → IsFirst text rs d p e ns → AreTold text ns bs
      → (o : Outcome) → ReadsFirst webidl text rs 0 p o → Yields us ends e ≡ raw_of o → us ≡ choice_given rs bs
  choice_yields rs p e ns bs us ends t h a Fails m w = breaks us ends e w
  choice_yields rs p e ns bs us ends t h a (Gives ts q) m w =
      let f = first_told rs 0 p e q ns bs ts t h a m in
      (same_yields _ _ _ _ _ _ w).0 ∙ f.given ∙ sym (ap (choice_given rs) f.is)

  seq_yields : (rs : List ℕ) (p e : ℕ) (ns : List Node) (bs : List Told) (us : List Tree) (ends : List ℕ) → AreInTurn text rs d p e ns → AreTold text ns bs
      → (o : Option (List Piece)) → ReadsSeq webidl text rs p o → Yields us ends e ≡ together p o → us ≡ all_given bs
  seq_yields rs p e ns bs us ends h a None m w = breaks us ends e w
  seq_yields rs p e ns bs us ends h a (Some pieces) m w = (same_yields _ _ _ _ _ _ w).0 ∙ turn_given text d rs p e ns bs pieces h a m

  option_yields : (y p e : ℕ) (ns : List Node) (bs : List Told) (us : List Tree) (ends : List ℕ) → is_solid y ≡ true → AreInTurn text (y ∷ []) d p e ns ⊎ (FailsAt text y p × AreInTurn text [] d p e ns) → AreTold text ns bs
      → (o : Outcome) → Reads text y p o → Yields us ends e ≡ opted p o → us ≡ option_given bs
  option_yields y p e ns bs us ends t (inl h) a Fails m w = absurd (not_both m (begins y [] p e ns h).1)
  option_yields y p e [] bs us ends t (inl h) a (Gives ts q) m w = absurd h
  option_yields y p e (n ∷ ns) bs us ends t (inl h) a (Gives ts q) m w =
      let f = front (ap is_solid h.0.rule_is ∙ t) a in
      (same_yields _ _ _ _ _ _ w).0 ∙ ap (map Present) (told_given h.0 f.told m).0 ∙ sym (ap option_given f.is)
  option_yields y p e ns bs us ends t (inr h) a Fails m w = (same_yields _ _ _ _ _ _ w).0 ∙ sym (ap option_given (of_no_nodes h.1.0 a))
  option_yields y p e ns bs us ends t (inr h) a (Gives ts q) m w = absurd (not_both h.0 (ts, m))

  -- an item and what follows it
  before_yields : (ts us : List Tree) (ends : List ℕ) (e : ℕ) (v : Raw) → Yields us ends e ≡ before ts v → (vs : List Tree) × (es : List ℕ) × (z : ℕ) × (v ≡ Yields vs es z) × (us ≡ ts ++ vs)
  before_yields ts us ends e Breaks w = breaks us ends e w
  before_yields ts us ends e (Yields vs es z) w = (vs, es, z, refl, (same_yields _ _ _ _ _ _ w).0)

  many_yields : (y p e z : ℕ) (ns : List Node) (bs : List Told) (us : List Tree) (ends : List ℕ) → AreItems text y d p e ns → AreTold text ns bs
      → ReadsRow webidl text (Many y) p (Yields us ends z) → us ≡ all_given bs
  many_yields y p e z [] bs us ends h a m = elim (of_many m) [
    | inl k ↦ (same_yields _ _ _ _ _ _ k.1).0 ∙ sym (ap all_given (of_none a))
    | inr (inl k) ↦ breaks us ends z k.2
    | inr (inr (ts, q, v, given, ne, more, w)) ↦ absurd (not_both h.1 (ts, given))
  ]
  many_yields y p e z (n ∷ ns) bs us ends h a m = elim (of_many m) [
    | inl k ↦ absurd (not_both k.0 h.0.reads)
    | inr (inl k) ↦ breaks us ends z k.2
    | inr (inr (ts, q, v, given, ne, more, w)) ↦ (
        let (vs, es, x, is, joins) = before_yields ts us ends z v w in
        let onward : ReadsRow webidl text (Many y) n.end (Yields vs es x) = subst (λ s. ReadsRow webidl text (Many y) s (Yields vs es x)) (node_end h.0 given) (subst (ReadsRow webidl text (Many y) q) is more) in
        joins ∙ part_given text d y p q n ns bs ts vs h.0 a given (λ cs c. many_yields y n.end e x ns cs vs es h.1 c onward) (is_solid y) refl)
  ]

  -- an item and the rule of those after it
  two_given : (y t p q e : ℕ) (ns : List Node) (bs : List Told) (ts us : List Tree) (ends : List ℕ) (o : Outcome) → AreInTurn text (y ∷ t ∷ []) d p e ns → AreTold text ns bs → Reads text y p (Gives ts q) → Reads text t q o
      → Yields us ends e ≡ before ts (raw_of o) → us ≡ all_given bs
  two_given y t p q e ns bs ts us ends Fails h a given more w = breaks us ends e w
  two_given y t p q e ns bs ts us ends (Gives vs z) h a given more w =
      (same_yields _ _ _ _ _ _ w).0 ∙ ap (λ s. ts ++ s) (sym (append-nil vs))
      ∙ turn_given text d (y ∷ t ∷ []) p e ns bs (piece ts q ∷ piece vs z ∷ []) h a (seq_more given (seq_more more (seq_end refl) refl) refl)

  list_yields : (y t p e : ℕ) (ns : List Node) (bs : List Told) (us : List Tree) (ends : List ℕ) → AreListed text y t d p e ns → AreTold text ns bs
      → ReadsRow webidl text (ListOf y t) p (Yields us ends e) → us ≡ all_given bs
  list_yields y t p e ns bs us ends (inl h) a m = elim (of_list m) [
    | inl k ↦ absurd (not_both k.0 (begins y (t ∷ []) p e ns h).1)
    | inr (ts, q, o, given, more, w) ↦ two_given y t p q e ns bs ts us ends o h a given more w
  ]
  list_yields y t p e ns bs us ends (inr h) a m = elim (of_list m) [
    | inl k ↦ (same_yields _ _ _ _ _ _ k.1).0 ∙ sym (ap all_given (of_no_nodes h.1.0 a))
    | inr (ts, q, o, given, more, w) ↦ absurd (not_both h.0 (ts, given))
  ]

  list1_yields : (y t p e : ℕ) (ns : List Node) (bs : List Told) (us : List Tree) (ends : List ℕ) → AreInTurn text (y ∷ t ∷ []) d p e ns → AreTold text ns bs
      → ReadsRow webidl text (List1 y t) p (Yields us ends e) → us ≡ all_given bs
  list1_yields y t p e ns bs us ends h a m = elim (of_list1 m) [
    | inl k ↦ breaks us ends e k.1
    | inr (ts, q, o, given, more, w) ↦ two_given y t p q e ns bs ts us ends o h a given more w
  ]

  one_follows : (y s p q z : ℕ) (ts us : List Tree) → NoneFollows text y s p → Reads text s p (Gives ts q) → Reads text y q (Gives us z) → ⊥
  one_follows y s p q z ts us (inl f) h k = not_both f (ts, h)
  one_follows y s p q z ts us (inr (x, g, f)) h k = not_both f (subst (λ w. EndsAt text y w z) (one_end g (ts, h)) (us, k))

  tail_yields : (y s p e z : ℕ) (ns : List Node) (bs : List Told) (us : List Tree) (ends : List ℕ) → is_solid y ≡ true → is_solid s ≡ true → AreFollowing text y s d p e ns → AreTold text ns bs
      → ReadsRow webidl text (Tail y s) p (Yields us ends z) → us ≡ items_given bs
  tail_yields y s p e z [] bs us ends t u h a m = elim (of_tail m) [
    | inl k ↦ (same_yields _ _ _ _ _ _ k.1).0 ∙ sym (ap items_given (of_none a))
    | inr (inl k) ↦ breaks us ends z k.2
    | inr (inr (inl (ts, q, given, ne, fails, w))) ↦ (same_yields _ _ _ _ _ _ w).0 ∙ sym (ap items_given (of_none a))
    | inr (inr (inr (ts, vs, q, x, v, given, ne, item, more, w))) ↦ absurd (one_follows y s p q x ts vs h.1 given item)
  ]
  tail_yields y s p e z (n ∷ []) bs us ends t u h a m = absurd h
  tail_yields y s p e z (n ∷ o ∷ ns) bs us ends t u (i, j, h) a m = elim (of_tail m) [
    | inl k ↦ absurd (not_both k.0 i.reads)
    | inr (inl k) ↦ breaks us ends z k.2
    | inr (inr (inl (ts, q, given, ne, fails, w))) ↦ absurd (not_both (subst (FailsAt text y) (node_end i given) fails) j.reads)
    | inr (inr (inr (ts, vs, q, x, v, given, ne, item, more, w))) ↦ (
        let f = front (ap is_solid i.rule_is ∙ u) a in
        let g = front (ap is_solid j.rule_is ∙ t) f.rest in
        let (xs, es, c, is, joins) = before_yields vs us ends z v w in
        let there : Reads text y n.end (Gives vs x) = subst (λ k. Reads text y k (Gives vs x)) (node_end i given) item in
        let item_is = told_given j g.told there in
        let onward : ReadsRow webidl text (Tail y s) o.end (Yields xs es c) = subst (λ k. ReadsRow webidl text (Tail y s) k (Yields xs es c)) item_is.1 (subst (ReadsRow webidl text (Tail y s) x) is more) in
        joins ∙ ap (λ k. k ++ xs) item_is.0 ∙ ap (λ k. g.first.given ++ k) (tail_yields y s o.end e c ns g.others xs es t u h g.rest onward)
        ∙ sym (ap items_given f.is ∙ ap (λ k. items_given (f.first ∷ k)) g.is))
  ]

  -- a rule that is read behind a sequence
  seq_join : (rs : List ℕ) (y p z : ℕ) (pieces : List Piece) (ts : List Tree) → ReadsSeq webidl text rs p (Some pieces) → Reads text y (last_end p pieces) (Gives ts z) → ReadsSeq webidl text (rs ++ y ∷ []) p (Some (pieces ++ piece ts z ∷ []))
  seq_join [] y p z [] ts m h = seq_more h (seq_end refl) refl
  seq_join [] y p z (x ∷ pieces) ts m h = absurd (let e = of_no_parts m in let n : ⊥ = cc in n)
  seq_join (r ∷ rs) y p z pieces ts m h = elim (of_parts m) [
    | inl k ↦ absurd (let e = k.1 in let n : ⊥ = cc in n)
    | inr (us, q, v, given, more, e) ↦ (
        let (others, is, on) = other_pieces v e more in
        subst (λ k. ReadsSeq webidl text (r ∷ rs ++ y ∷ []) p (Some (k ++ piece ts z ∷ []))) (sym is)
        (seq_more given (seq_join rs y q z others ts on (subst (λ k. Reads text y (last_end p k) (Gives ts z)) is h)) refl))
  ]

  given_join : (pieces : List Piece) (ts : List Tree) (z : ℕ) → given_of (pieces ++ piece ts z ∷ []) ≡ given_of pieces ++ ts
  given_join [] ts z = append-nil ts
  given_join (x ∷ pieces) ts z = ap (λ k. x.given ++ k) (given_join pieces ts z) ∙ sym (append_assoc x.given (given_of pieces) ts)

  same_some : (ps qs : List Piece) → Some ps ≡ Some qs → ps ≡ qs
  same_some ps qs e = cc

  gave_is : (rs : List ℕ) (k p : ℕ) (pieces : List Piece) (b : Bool) → Gave text rs k p b → ReadsSeq webidl text rs p (Some pieces) → gave_some k pieces ≡ b
  gave_is rs k p pieces b (ps, h, g) m = ap (gave_some k) (same_some pieces ps (one_seq m h refl)) ∙ g

  chosen_end : (b : Bool) (ts us : List Tree) (c : Bool) → b ≡ c → ts ++ (if b then [] else us) ≡ ts ++ (if c then [] else us)
  chosen_end b ts us c e = ap (λ z. ts ++ (if z then [] else us)) e

  absent_yields : (rs : List ℕ) (p e : ℕ) (ns : List Node) (bs : List Told) (pieces : List Piece) → list_all is_solid rs ≡ true → AreInTurn text rs d p e ns → AreTold text ns bs → ReadsSeq webidl text rs p (Some pieces)
      → given_of pieces ++ Absent ∷ [] ≡ all_given bs ++ (if nat_lt (length rs) (length bs) then [] else Absent ∷ [])
  absent_yields rs p e ns bs pieces t h a m =
      let many = turn_length text d rs p e ns bs t h a in
      ap (λ z. z ++ Absent ∷ []) (turn_given text d rs p e ns bs pieces h a m)
      ∙ chosen_end false (all_given bs) (Absent ∷ []) _ (sym (le-ltb (length rs) (length bs) (omega (arith, many))))

  present_yields : (rs : List ℕ) (y p e z : ℕ) (ns : List Node) (bs : List Told) (pieces : List Piece) (ts : List Tree) → list_all is_solid rs ≡ true → is_solid y ≡ true → AreInTurn text (rs ++ y ∷ []) d p e ns → AreTold text ns bs
      → ReadsSeq webidl text rs p (Some pieces) → Reads text y (last_end p pieces) (Gives ts z) → given_of pieces ++ ts ≡ all_given bs ++ (if nat_lt (length rs) (length bs) then [] else Absent ∷ [])
  present_yields rs y p e z ns bs pieces ts t u h a m k =
      let many = turn_length text d (rs ++ y ∷ []) p e ns bs (all_and_one is_solid y rs t u) h a in
      let more = length-append rs (y ∷ []) in
      sym (given_join pieces ts z) ∙ turn_given text d (rs ++ y ∷ []) p e ns bs (pieces ++ piece ts z ∷ []) h a (seq_join rs y p z pieces ts m k)
      ∙ sym (append-nil (all_given bs)) ∙ chosen_end true (all_given bs) (Absent ∷ []) _ (sym (lt-ltb (length rs) (length bs) (omega (arith, many, more))))

  raw_gives : (o : Outcome) (y q : ℕ) (vs : List Tree) (es : List ℕ) (z : ℕ) → raw_of o ≡ Yields vs es z → Reads text y q o → Reads text y q (Gives vs z)
  raw_gives Fails y q vs es z e h = cc
  raw_gives (Gives ts x) y q vs es z e h = let a : ts ≡ vs = cc in let b : x ≡ z = cc in subst (λ k. Reads text y q (Gives k z)) a (subst (λ k. Reads text y q (Gives ts k)) b h)

  if_yields : (rs : List ℕ) (k y p e : ℕ) (ns : List Node) (bs : List Told) (us : List Tree) (ends : List ℕ) → list_all is_solid rs ≡ true → is_solid y ≡ true → AreParts text (If rs k y) d p e ns → AreTold text ns bs
      → ReadsRow webidl text (If rs k y) p (Yields us ends e) → us ≡ yielded (If rs k y) bs
  if_yields rs k y p e ns bs us ends t u (inl h) a m = elim (of_if m) [
    | inl x ↦ breaks us ends e x.1
    | inr (inl (pieces, s, g, w)) ↦ clash (gave_some k pieces) (gave_is rs k p pieces true h.0 s) g
    | inr (inr (pieces, o, s, g, more, w)) ↦ (
        let (vs, es, z, is, joins) = before_yields (given_of pieces) us ends e (raw_of o) w in
        joins ∙ present_yields rs y p e z ns bs pieces vs t u h.1 a s (raw_gives o y (last_end p pieces) vs es z is more))
  ]
  if_yields rs k y p e ns bs us ends t u (inr h) a m = elim (of_if m) [
    | inl x ↦ breaks us ends e x.1
    | inr (inl (pieces, s, g, w)) ↦ (same_yields _ _ _ _ _ _ w).0 ∙ absent_yields rs p e ns bs pieces t h.1 a s
    | inr (inr (pieces, o, s, g, more, w)) ↦ clash (gave_some k pieces) g (gave_is rs k p pieces false h.0 s)
  ]

  row_yields : (row : Row) (p e : ℕ) (ns : List Node) (bs : List Told) (us : List Tree) (ends : List ℕ) → row_told row ≡ true → AreParts text row d p e ns → AreTold text ns bs
      → ReadsRow webidl text row p (Yields us ends e) → us ≡ yielded row bs
  row_yields (Seq parts) p e ns bs us ends t h a m = let o = of_seq m in seq_yields parts p e ns bs us ends h a o.0 o.1 o.2
  row_yields (First parts) p e ns bs us ends t h a m = let o = of_first m in choice_yields parts p e ns bs us ends t h a o.0 o.1 o.2
  row_yields (Opt y) p e ns bs us ends t h a m = let o = of_opt m in option_yields y p e ns bs us ends t h a o.0 o.1 o.2
  row_yields (Many y) p e ns bs us ends t h a m = many_yields y p e e ns bs us ends h a m
  row_yields (ListOf y r) p e ns bs us ends t h a m = list_yields y r p e ns bs us ends h a m
  row_yields (List1 y r) p e ns bs us ends t h a m = list1_yields y r p e ns bs us ends h a m
  row_yields (Tail y s) p e ns bs us ends t h a m = tail_yields y s p e e ns bs us ends (both (is_solid y) _ t).0 (both (is_solid y) _ t).1 h a m
  row_yields (If parts k y) p e ns bs us ends t h a m = if_yields parts k y p e ns bs us ends (both _ (is_solid y) t).0 (both _ (is_solid y) t).1 h a m
  row_yields (Bytes b) p e ns bs us ends t h a m = leaf_yields us ends p e _ (of_bytes m)
  row_yields (OneOf c) p e ns bs us ends t h a m = leaf_yields us ends p e _ (of_one m)
  row_yields (NotNext c) p e ns bs us ends t h a m = leaf_yields us ends p e _ (of_not_next m)
  row_yields (Run c) p e ns bs us ends t h a m = leaf_yields us ends p e (Some (run_length c (drop p text))) (of_run m)
  row_yields (Past b) p e ns bs us ends t h a m = leaf_yields us ends p e _ (of_past m)

  seq_keeps : (rs : List ℕ) (k p e : ℕ) (ns : List Node) (bs : List Told) (us : List Tree) (ends : List ℕ) → keeps k (Seq rs) ≡ true → AreInTurn text rs d p e ns → AreTold text ns bs
      → (o : Option (List Piece)) → ReadsSeq webidl text rs p o → Yields us ends e ≡ together p o → kept text p ends k ≡ row_bytes (Seq rs) k bs
  seq_keeps rs k p e ns bs us ends t h a None m w = breaks us ends e w
  seq_keeps rs k p e ns bs us ends t h a (Some pieces) m w = ap (λ z. kept text p z k) (same_yields _ _ _ _ _ _ w).1 ∙ turn_bytes text d rs k p e ns bs pieces t h a m

  row_keeps : (row : Row) (k p e : ℕ) (ns : List Node) (bs : List Told) (us : List Tree) (ends : List ℕ) → keeps k row ≡ true → AreParts text row d p e ns → AreTold text ns bs
      → ReadsRow webidl text row p (Yields us ends e) → kept text p ends k ≡ row_bytes row k bs
  row_keeps (Seq parts) k p e ns bs us ends t h a m = let o = of_seq m in seq_keeps parts k p e ns bs us ends t h a o.0 o.1 o.2
  row_keeps row k p e ns bs us ends t h a m = cc

  -- what a rule gives, by its shape
  pub formed_told : (shape : Shape) (row : Row) (p e : ℕ) (ns : List Node) (bs : List Told) (us : List Tree) (ends : List ℕ) → is_told shape row ≡ true → AreParts text row d p e ns → AreTold text ns bs
      → ReadsRow webidl text row p (Yields us ends e) → formed text row shape p us ends ≡ gives shape row bs
  formed_told Silent row p e ns bs us ends t h a m = refl
  formed_told Marked row p e ns bs us ends t h a m = refl
  formed_told (Kept k) row p e ns bs us ends t h a m = ap (λ z. Text z ∷ []) (row_keeps row k p e ns bs us ends t h a m)
  formed_told Line row p e ns bs us ends t h a m = ap (λ z. Lines (but_last z) ∷ []) (row_keeps row 2 p e ns bs us ends t h a m)
  formed_told Joined row p e ns bs us ends t h a m = ap (λ z. Lines (joined z) ∷ []) (row_yields row p e ns bs us ends t h a m)
  formed_told Inner row p e ns bs us ends t h a m = ap (take 1) (row_yields row p e ns bs us ends t h a m)
  formed_told Plain row p e ns bs us ends t h a m = ap (plain row) (row_yields row p e ns bs us ends t h a m)
