-- Definitions and members along the nodes of a syntax tree.
use Rattle.std.proofs.Common.{◌≡◌, inl, inr, ℕ, ◌+◌, ◌<◌, Bool, true, false, ◌&&◌, List, [], ◌∷◌, ◌++◌, length, map, Some, None, refl, sym, subst, ◌∙◌, ap, append-nil}
use Rattle.std.specs.Prelude.{All, MatchOption, Result, Ok, Err, IfOk}
use Rattle.std.proofs.lemmas.List.Elements.{All-nil, All-cons, All-append}
use Rattle.weedle_grammar.specs.Rows.{Row, Bytes, OneOf, NotNext, Run, Past, Seq, First, Opt, Many, ListOf, List1, Tail, If}
use Rattle.weedle_grammar.specs.written.Table.{row_of}
use Rattle.weedle_grammar.specs.written.Table.Symbols.{OPEN_BRACE}
use Rattle.weedle_grammar.proofs.Leaves.{both}
use Rattle.weedle_rules.specs.Outcomes.{EndsAt}
use Rattle.weedle_syntax.specs.declared.dialect.Dialect.{Dialect}
use Rattle.weedle_syntax.specs.declared.dialect.Dialect.TheVariants.{Weedle2, Today}
use Rattle.weedle_syntax.specs.declared.node.Node.{Node}
use Rattle.weedle_syntax.specs.Parts.{IsNode, AreInTurn, IsFirst, AreParts}
use Rattle.weedle_syntax.specs.Parts.{AreItems as AreItemNodes}
use Rattle.weedle_syntax.specs.Dialects.{IsFrontIn}
use Rattle.weedle_syntax.specs.Tree.{node_at, children_of}
use Rattle.weedle_syntax.proofs.InnerFacts.{children_are_parts}
use Rattle.weedle_places.specs.declared.members.MemberPlace.{MemberPlace}
use Rattle.weedle_places.specs.declared.span.Span.{Span}
use Rattle.weedle_places.specs.Items.{AreItems}
use Rattle.weedle_places.specs.Members.{member_in, choice_of, AreMembersIn, FitsFirst, HasKindMembers, HasMembersIn, IsBehindBrace, choices_in, parts_in, spans_of}
use Rattle.weedle_places.specs.Placed.{ChoiceBegins}
use Rattle.weedle_places.specs.Standing.{IsMemberAtIn, IsMemberOfIn}
use Rattle.weedle_places.proofs.KindFacts.{choice_row}
use Rattle.weedle_places.proofs.MemberFacts.{braced}
use Rattle.weedle_places.proofs.NameFacts.{children_within}
use Rattle.weedle_places.proofs.NumberFacts.{AreBelow}

-- the spans of members, and of one more
pub spans_more : (members : List MemberPlace) (m : MemberPlace) (rest : List Span) → spans_of (members ++ m ∷ []) ++ rest ≡ spans_of members ++ (m.span ∷ rest)
spans_more [] m rest = refl
spans_more (n ∷ members) m rest = ap (λ z. n.span ∷ z) (spans_more members m rest)

module _ (dialect : Dialect) (text : List ℕ) (ns : List Node) (y d start e : ℕ) where
  -- the members so far, and the nodes of those that are left
  pub record Listing (members : List MemberPlace) (left : List ℕ) : Type 0 where
    pub at : ℕ
    pub nodes : AreItemNodes text y d at e (map (node_at ns) left)
    pub below : AreBelow (length ns) left
    pub onward : (rest : List Span) → AreItems text y at rest → AreItems text y start (spans_of members ++ rest)
    pub each : All (IsMemberOfIn dialect text ns y) members

  pub list_starts : (members : List MemberPlace) (left : List ℕ) → members ≡ [] → AreItemNodes text y d start e (map (node_at ns) left) → AreBelow (length ns) left → Listing members left
  list_starts members left none n b = record { at = start; nodes = n; below = b; onward = λ rest a. subst (λ s. AreItems text y start (spans_of s ++ rest)) (sym none) a; each = subst (All (IsMemberOfIn dialect text ns y)) (sym none) (All-nil (IsMemberOfIn dialect text ns y)) }

  pub list_within : (members : List MemberPlace) (left more : List ℕ) (i : ℕ) → left ≡ i ∷ more → Listing members left → i < length ns
  list_within members left more i is h = (subst (AreBelow (length ns)) is h.below).0

  pub list_more : (members new : List MemberPlace) (left more : List ℕ) (i : ℕ) (m : MemberPlace) → left ≡ i ∷ more → new ≡ members ++ m ∷ [] → IsMemberAtIn dialect text ns i m → Listing members left → Listing new more
  list_more members new left more i m is e' k h =
      let s = k.span_is in
      let n = subst (λ z. AreItemNodes text y d h.at e (map (node_at ns) z)) is h.nodes in
      let b = subst (AreBelow (length ns)) is h.below in
      record {
        at = (node_at ns i).end;
        nodes = n.1;
        below = b.1;
        onward = λ rest a. subst (λ z. AreItems text y start (spans_of z ++ rest)) (sym e') (subst (AreItems text y start) (sym (spans_more members m rest))
            (h.onward (m.span ∷ rest) (subst (λ z. AreItems text y h.at (z ∷ rest)) (sym s) (n.0.start_is, n.0.reads, a))));
        each = subst (All (IsMemberOfIn dialect text ns y)) (sym e') (All-append (IsMemberOfIn dialect text ns y) members (m ∷ []) h.each (All-cons (IsMemberOfIn dialect text ns y) m [] (i, n.0.rule_is, k) (All-nil (IsMemberOfIn dialect text ns y))));
      }

  pub list_ends : (members : List MemberPlace) (left : List ℕ) → left ≡ [] → Listing members left → AreItems text y start (spans_of members)
  list_ends members left is h =
      let n = subst (λ z. AreItemNodes text y d h.at e (map (node_at ns) z)) is h.nodes in
      subst (AreItems text y start) (append-nil (spans_of members)) (h.onward [] n.1)

-- the members so far of a node of a list
abbrev pub IsListing : Dialect → List ℕ → List Node → ℕ → List MemberPlace → List ℕ → Type 0
IsListing dialect text ns list members left =
    (y : ℕ) × (row_of (node_at ns list).rule ≡ Many y) × Listing dialect text ns y ((node_at ns list).depth + 1) (node_at ns list).start (node_at ns list).end members left

pub listing_starts : (dialect : Dialect) (text : List ℕ) (ns : List Node) (front : IsFrontIn dialect text ns) (list : ℕ) (l : list < length ns) (y : ℕ) (members : List MemberPlace) (left : List ℕ)
    → row_of (node_at ns list).rule ≡ Many y → members ≡ [] → left ≡ children_of ns list → IsListing dialect text ns list members left
listing_starts dialect text ns front list l y members left is none e =
    let parts = children_are_parts dialect text ns list front l in
    let items = subst (λ row. AreParts text row ((node_at ns list).depth + 1) (node_at ns list).start (node_at ns list).end (map (node_at ns) (children_of ns list))) is parts in (
      y,
      is,
      subst (Listing dialect text ns y ((node_at ns list).depth + 1) (node_at ns list).start (node_at ns list).end members) (sym e)
          (list_starts dialect text ns y ((node_at ns list).depth + 1) (node_at ns list).start (node_at ns list).end members (children_of ns list) none items (children_within dialect text ns front list l)),
    )

-- the parts of a definition, and the nodes of those that are left
module _ (dialect : Dialect) (text : List ℕ) (ns : List Node) (parts : List ℕ) (d start e : ℕ) where
  pub record Passing (left : List ℕ) : Type 0 where
    pub at : ℕ
    pub rest : List ℕ
    pub nodes : AreInTurn text rest d at e (map (node_at ns) left)
    pub below : AreBelow (length ns) left
    pub onward : (ms : List Span) → AreMembersIn dialect text rest at ms → AreMembersIn dialect text parts start ms

  pub pass_starts : (left : List ℕ) → AreInTurn text parts d start e (map (node_at ns) left) → AreBelow (length ns) left → Passing left
  pass_starts left n b = record { at = start; rest = parts; nodes = n; below = b; onward = λ ms a. a }

  pub pass_within : (left more : List ℕ) (i : ℕ) → left ≡ i ∷ more → Passing left → i < length ns
  pass_within left more i is h = (subst (AreBelow (length ns)) is h.below).0

  pub pass_ends : (left : List ℕ) → left ≡ [] → Passing left → AreMembersIn dialect text parts start []
  pass_ends left is h = by h.rest refl
    where
      by : (rs : List ℕ) → h.rest ≡ rs → AreMembersIn dialect text parts start []
      by [] r = h.onward [] (subst (λ z. AreMembersIn dialect text z h.at []) (sym r) refl)
      by (x ∷ rs) r = absurd (subst (λ z. AreInTurn text (x ∷ rs) d h.at e (map (node_at ns) z)) is (subst (λ z. AreInTurn text z d h.at e (map (node_at ns) left)) r h.nodes))

  module _ (left more : List ℕ) (i : ℕ) (is : left ≡ i ∷ more) (h : Passing left) where
    -- the part that is next
    record Next : Type 0 where
      rule : ℕ
      others : List ℕ
      are : h.rest ≡ rule ∷ others
      node : IsNode text rule d h.at (node_at ns i)
      turn : AreInTurn text others d (node_at ns i).end e (map (node_at ns) more)

    next : Next
    next = by h.rest refl
      where
        by : (rs : List ℕ) → h.rest ≡ rs → Next
        by [] r = absurd (
            let t = subst (λ z. AreInTurn text [] d h.at e (map (node_at ns) z)) is (subst (λ z. AreInTurn text z d h.at e (map (node_at ns) left)) r h.nodes) in
            let none = t.0 in
            let n : ⊥ = cc in n)
        by (x ∷ rs) r =
            let t = subst (λ z. AreInTurn text (x ∷ rs) d h.at e (map (node_at ns) z)) is (subst (λ z. AreInTurn text z d h.at e (map (node_at ns) left)) r h.nodes) in
            record { rule = x; others = rs; are = r; node = t.0; turn = t.1 }

    pub pass_on : member_in dialect (node_at ns i).rule ≡ None → Passing more
    pass_on none =
        let n = next in
        let o : member_in dialect n.rule ≡ None = ap (member_in dialect) (sym n.node.rule_is) ∙ none in
        record {
          at = (node_at ns i).end;
          rest = n.others;
          nodes = n.turn;
          below = (subst (AreBelow (length ns)) is h.below).1;
          onward = λ ms a. h.onward ms (subst (λ z. AreMembersIn dialect text z h.at ms) (sym n.are)
              (subst (λ z. MatchOption z ((q : ℕ) × EndsAt text n.rule h.at q × AreMembersIn dialect text n.others q ms) (λ y. IsBehindBrace text y h.at ms)) (sym o) ((node_at ns i).end, n.node.reads, a)));
        }

    pub pass_in : (y : ℕ) (ms : List Span) → member_in dialect (node_at ns i).rule ≡ Some y → IsBehindBrace text y (node_at ns i).start ms → AreMembersIn dialect text parts start ms
    pass_in y ms some b =
        let n = next in
        let o : member_in dialect n.rule ≡ Some y = ap (member_in dialect) (sym n.node.rule_is) ∙ some in
        h.onward ms (subst (λ z. AreMembersIn dialect text z h.at ms) (sym n.are)
        (subst (λ z. MatchOption z ((q : ℕ) × EndsAt text n.rule h.at q × AreMembersIn dialect text n.others q ms) (λ y. IsBehindBrace text y h.at ms)) (sym o) (subst (λ z. IsBehindBrace text y z ms) n.node.start_is b)))

-- the parts of a node of a kind that are left
abbrev pub IsPassing : Dialect → List ℕ → List Node → ℕ → List ℕ → Type 0
IsPassing dialect text ns kind left =
    (parts : List ℕ) × (row_of (node_at ns kind).rule ≡ Seq parts) × Passing dialect text ns parts ((node_at ns kind).depth + 1) (node_at ns kind).start (node_at ns kind).end left

pub passing_starts : (dialect : Dialect) (text : List ℕ) (ns : List Node) (front : IsFrontIn dialect text ns) (kind : ℕ) (l : kind < length ns) (parts left : List ℕ)
    → row_of (node_at ns kind).rule ≡ Seq parts → left ≡ children_of ns kind → IsPassing dialect text ns kind left
passing_starts dialect text ns front kind l parts left is e =
    let all = children_are_parts dialect text ns kind front l in
    let turn = subst (λ row. AreParts text row ((node_at ns kind).depth + 1) (node_at ns kind).start (node_at ns kind).end (map (node_at ns) (children_of ns kind))) is all in (
      parts,
      is,
      subst (Passing dialect text ns parts ((node_at ns kind).depth + 1) (node_at ns kind).start (node_at ns kind).end) (sym e)
          (pass_starts dialect text ns parts ((node_at ns kind).depth + 1) (node_at ns kind).start (node_at ns kind).end (children_of ns kind) turn (children_within dialect text ns front kind l)),
    )

-- members in braces: the brace, the list behind it, and what is behind that
module _ (dialect : Dialect) (text : List ℕ) (ns : List Node) (r y d start e : ℕ) (is : member_in dialect r ≡ Some y) where
  pub record InBraces (left : List ℕ) : Type 0 where
    pub brace : ℕ
    pub list : ℕ
    pub others : List ℕ
    pub are : left ≡ brace ∷ list ∷ others
    pub within : list < length ns
    pub many : row_of (node_at ns list).rule ≡ Many y
    pub behind : EndsAt text OPEN_BRACE start (node_at ns list).start

  pub in_braces : (left : List ℕ) → AreParts text (row_of r) d start e (map (node_at ns) left) → AreBelow (length ns) left → InBraces left
  in_braces left h b =
      let w = braced dialect r y is in
      by w.list w.behind w.is_list left refl (subst (λ row. AreParts text row d start e (map (node_at ns) left)) w.is h) b
    where
      by : (l : ℕ) (rest : List ℕ) → row_of l ≡ Many y → (cs : List ℕ) → left ≡ cs → AreInTurn text (OPEN_BRACE ∷ l ∷ rest) d start e (map (node_at ns) cs) → AreBelow (length ns) cs → InBraces left
      by l rest m [] e' t b = absurd t
      by l rest m (c ∷ []) e' t b = absurd t.1
      by l rest m (c ∷ k ∷ more) e' t b = record {
        brace = c;
        list = k;
        others = more;
        are = e';
        within = b.1.0;
        many = ap row_of t.1.0.rule_is ∙ m;
        behind = subst (EndsAt text OPEN_BRACE start) (sym t.1.0.start_is) t.0.reads;
      }

-- a kind of definitions is a sequence
abbrev is_seq : Row → Bool
is_seq (Seq parts) = true
is_seq _ = false

abbrev all_seq : List ℕ → Bool
all_seq [] = true
all_seq (r ∷ rs) = is_seq (row_of r) && all_seq rs

parts_of : (row : Row) → is_seq row ≡ true → (parts : List ℕ) × (row ≡ Seq parts)
parts_of (Seq parts) h = (parts, refl)
parts_of (Bytes b) h = cc
parts_of (OneOf c) h = cc
parts_of (NotNext c) h = cc
parts_of (Run c) h = cc
parts_of (Past b) h = cc
parts_of (First c) h = cc
parts_of (Opt x) h = cc
parts_of (Many x) h = cc
parts_of (ListOf x t) h = cc
parts_of (List1 x t) h = cc
parts_of (Tail x t) h = cc
parts_of (If c k x) h = cc

all_kinds_seq : (dialect : Dialect) → all_seq (choices_in (row_of (choice_of dialect))) ≡ true
all_kinds_seq Weedle2 = refl
all_kinds_seq Today = refl

-- the one node that a choice reads directly
module _ (text : List ℕ) (ns : List Node) (d start e : ℕ) where
  pub one_node : (r : ℕ) (left : List ℕ) → AreInTurn text (r ∷ []) d start e (map (node_at ns) left) → (k : ℕ) × (left ≡ k ∷ []) × IsNode text r d start (node_at ns k) × ((node_at ns k).end ≡ e)
  one_node r [] h = absurd h
  one_node r (k ∷ []) h = (k, refl, h.0, sym h.1.1)
  one_node r (k ∷ l ∷ more) h = absurd (let none = h.1.0 in let n : ⊥ = cc in n)

  first_fits : (rs : List ℕ) (left : List ℕ) → all_seq rs ≡ true → IsFirst text rs d start e (map (node_at ns) left)
      → (k : ℕ) × (left ≡ k ∷ []) × ((node_at ns k).start ≡ start) × FitsFirst text rs start (node_at ns k).rule × (is_seq (row_of (node_at ns k).rule) ≡ true)
  first_fits [] left s h = absurd h
  first_fits (r ∷ rs) left s (inl h) =
      let n = one_node r left h in
      (n.0, n.1, n.2.start_is, inl (n.2.rule_is, ((node_at ns n.0).end, n.2.reads)), ap (λ z. is_seq (row_of z)) n.2.rule_is ∙ (both _ _ s).0)
  first_fits (r ∷ rs) left s (inr h) =
      let n = first_fits rs left (both _ _ s).1 h.1 in
      (n.0, n.1, n.2, inr (h.0, n.3), n.4)

-- that of the choice among the kinds of definitions: the kind
module _ (dialect : Dialect) (text : List ℕ) (ns : List Node) (d start e : ℕ) where
  pub record IsKind (left : List ℕ) : Type 0 where
    pub kind : ℕ
    pub are : left ≡ kind ∷ []
    pub within : kind < length ns
    pub starts : (node_at ns kind).start ≡ start
    pub fits : FitsFirst text (choices_in (row_of (choice_of dialect))) start (node_at ns kind).rule
    pub seq : (parts : List ℕ) × (row_of (node_at ns kind).rule ≡ Seq parts)

  pub kind_of : (left : List ℕ) → AreParts text (row_of (choice_of dialect)) d start e (map (node_at ns) left) → AreBelow (length ns) left → IsKind left
  kind_of left h b =
      let n = first_fits text ns d start e (choices_in (row_of (choice_of dialect))) left (all_kinds_seq dialect) (subst (λ row. AreParts text row d start e (map (node_at ns) left)) (choice_row dialect) h) in
      record {
        kind = n.0;
        are = n.1;
        within = (subst (AreBelow (length ns)) n.1 b).0;
        starts = n.2;
        fits = n.3;
        seq = parts_of (row_of (node_at ns n.0).rule) n.4;
      }

  pub has_members : (left : List ℕ) (ms : List Span) (k : IsKind left) → AreMembersIn dialect text k.seq.0 (node_at ns k.kind).start ms → HasKindMembers dialect text start ms
  has_members left ms k a = record {
    kind = (node_at ns k.kind).rule;
    fits = k.fits;
    are = subst (λ p. AreMembersIn dialect text (parts_in (row_of (node_at ns k.kind).rule)) p ms) k.starts (subst (λ row. AreMembersIn dialect text (parts_in row) (node_at ns k.kind).start ms) (sym k.seq.1) a);
  }

-- the members of a definition are those of its kind, wherever that begins
pub members_from : (dialect : Dialect) (text : List ℕ) (p q : ℕ) (ms : List Span) → ChoiceBegins dialect text p q → HasKindMembers dialect text q ms → HasMembersIn dialect text p ms
members_from Weedle2 text p q ms b h = subst (λ z. HasKindMembers Weedle2 text z ms) b h
members_from Today text p q ms b h = (q, b, h)

pub braces_of : (dialect : Dialect) (text : List ℕ) (ns : List Node) (front : IsFrontIn dialect text ns) (i : ℕ) (l : i < length ns) (y : ℕ) (is : member_in dialect (node_at ns i).rule ≡ Some y)
    → InBraces dialect text ns (node_at ns i).rule y ((node_at ns i).depth + 1) (node_at ns i).start (node_at ns i).end is (children_of ns i)
braces_of dialect text ns front i l y is = in_braces dialect text ns (node_at ns i).rule y ((node_at ns i).depth + 1) (node_at ns i).start (node_at ns i).end is (children_of ns i) (children_are_parts dialect text ns i front l) (children_within dialect text ns front i l)

pub definition_kind : (dialect : Dialect) (text : List ℕ) (ns : List Node) (front : IsFrontIn dialect text ns) (i : ℕ) (l : i < length ns) → (node_at ns i).rule ≡ choice_of dialect
    → IsKind dialect text ns ((node_at ns i).depth + 1) (node_at ns i).start (node_at ns i).end (children_of ns i)
definition_kind dialect text ns front i l is =
    kind_of dialect text ns ((node_at ns i).depth + 1) (node_at ns i).start (node_at ns i).end (children_of ns i)
    (subst (λ r. AreParts text (row_of r) ((node_at ns i).depth + 1) (node_at ns i).start (node_at ns i).end (map (node_at ns) (children_of ns i))) is (children_are_parts dialect text ns i front l))
    (children_within dialect text ns front i l)

-- what holds of an answer holds of what follows from it
pub if_ok_so : {A E : Type 0} (answer : Result A E) (P Q : A → Type 0) → ((x : A) → P x → Q x) → IfOk answer P → IfOk answer Q
if_ok_so (Ok x) P Q f h = f x h
if_ok_so (Err e) P Q f h = h

-- the second node of those in braces
pub second_is : (cs xs ys left others : List ℕ) (a b brace list : ℕ) → cs ≡ left → left ≡ brace ∷ list ∷ others → cs ≡ a ∷ xs → xs ≡ b ∷ ys → list ≡ b
second_is cs xs ys left others a b brace list e are first second = cc

pub one_is : (cs xs left : List ℕ) (a kind : ℕ) → cs ≡ left → left ≡ kind ∷ [] → cs ≡ a ∷ xs → kind ≡ a
one_is cs xs left a kind e are first = cc

pub one_not : (cs left : List ℕ) (kind : ℕ) → cs ≡ left → left ≡ kind ∷ [] → cs ≡ [] → ⊥
one_not cs left kind e are none = cc
