-- Members lie within their definition.
use Rattle.std.proofs.Common.{◌≡◌, ℕ, ◌≤◌, List, [], ◌∷◌, Option, Some, None, refl, sym, subst, arith}
use Rattle.std.specs.Prelude.{All, MatchOption}
use Rattle.std.proofs.lemmas.List.Elements.{All-nil, All-cons, All-weaker}
use Rattle.weedle_grammar.specs.Rows.{Row, Bytes, OneOf, NotNext, Run, Past, Seq, First, Opt, Many, ListOf, List1, Tail, If}
use Rattle.weedle_grammar.specs.written.Table.{webidl, row_of}
use Rattle.weedle_grammar.specs.written.Table.Symbols.{OPEN_BRACE}
use Rattle.weedle_grammar.specs.written.Table.TodayWords.{TODAY_DOCS}
use Rattle.weedle_grammar.specs.written.Table.TodayTypes.{TODAY_ATTRIBUTE_LISTS}
use Rattle.weedle_grammar.specs.written.Table.TodayDefinitions.{TODAY_DEFINITION, TODAY_DEFINITION_KIND}
use Rattle.weedle_grammar.proofs.Exists.{seq_grows}
use Rattle.weedle_syntax.specs.declared.dialect.Dialect.{Dialect}
use Rattle.weedle_syntax.specs.declared.dialect.Dialect.TheVariants.{Weedle2, Today}
use Rattle.weedle_syntax.specs.Dialects.{definition_of}
use Rattle.weedle_places.specs.declared.span.Span.{Span}
use Rattle.weedle_rules.specs.Outcomes.{EndsAt}
use Rattle.weedle_places.specs.Items.{AreItems}
use Rattle.weedle_places.specs.Members.{member_in, choice_of, AreMembersIn, HasKindMembers, HasMembersIn, IsBehindFront, parts_in}
use Rattle.weedle_rules.proofs.OutcomeFacts.{one_end}
use Rattle.weedle_places.proofs.OutcomeFacts.{ends_after, list_on}
use Rattle.weedle_places.proofs.KindFacts.{kind_ends}
use Rattle.weedle_places.proofs.MemberFacts.{AreReadTo, first_to, read_to, braced}

-- all spans lie between the two places
abbrev pub AreWithin : ℕ → ℕ → List Span → Type 0
AreWithin from to ms = All (λ m. (from ≤ m.start) × (m.end ≤ to)) ms

-- a span lies between them
abbrev LiesWithin : ℕ → ℕ → Span → Type 0
LiesWithin from to m = (from ≤ m.start) × (m.end ≤ to)

within_more : (from to more : ℕ) (ms : List Span) → to ≤ more → AreWithin from to ms → AreWithin from more ms
within_more from to more ms l h = All-weaker (LiesWithin from to) (LiesWithin from more) (λ m k. (k.0, (let e : m.end ≤ to = k.1 in omega arith))) ms h

-- rules that are read one after another go on
read_on : (text rs : List ℕ) (p e : ℕ) → AreReadTo text rs p e → p ≤ e
read_on text rs p e d = let g = seq_grows webidl text d.1 in omega (arith, g, d.2)

module _ (dialect : Dialect) (text : List ℕ) (from to : ℕ) where
  none_within : (ms : List Span) → ms ≡ [] → AreWithin from to ms
  none_within ms e = subst (AreWithin from to) (sym e) (All-nil (LiesWithin from to))

  items_within : (l y q z : ℕ) (ms : List Span) → row_of l ≡ Many y → AreItems text y q ms → EndsAt text l q z → from ≤ q → z ≤ to → AreWithin from to ms
  items_within l y q z [] is a d h k = All-nil (LiesWithin from to)
  items_within l y q z (s ∷ ss) is a d h k =
      let start : s.start ≡ q = a.0 in
      let after : q ≤ s.end = ends_after a.1 in
      let on = list_on text l y q z is d s.end a.1 in
      let behind : s.end ≤ z = ends_after on in
      All-cons (LiesWithin from to) s ss (omega arith, omega arith) (items_within l y s.end z ss is a.2 on (omega arith) k)

  part_within : (r : ℕ) (rs : List ℕ) (p : ℕ) (ms : List Span) (o : Option ℕ) → member_in dialect r ≡ o
      → MatchOption o ((e : ℕ) × EndsAt text r p e × AreMembersIn dialect text rs e ms) (λ y. (q : ℕ) × EndsAt text OPEN_BRACE p q × AreItems text y q ms)
      → AreReadTo text (r ∷ rs) p to → from ≤ p
      → ((q : ℕ) → AreMembersIn dialect text rs q ms → AreReadTo text rs q to → from ≤ q → AreWithin from to ms) → AreWithin from to ms
  part_within r rs p ms None m a d h others =
      let f = first_to text r rs p to d in
      let same : f.0 ≡ a.0 = one_end a.1 f.1 in
      let after : p ≤ a.0 = ends_after a.1 in
      others a.0 a.2 (subst (λ q. AreReadTo text rs q to) same f.2) (omega arith)
  part_within r rs p ms (Some y) m a d h others =
      let b = braced dialect r y m in
      let f = first_to text r rs p to d in
      let last : f.0 ≤ to = read_on text rs f.0 to f.2 in
      let brace = first_to text OPEN_BRACE (b.list ∷ b.behind) p f.0 (read_to text r p f.0 (OPEN_BRACE ∷ b.list ∷ b.behind) b.is f.1) in
      let same : brace.0 ≡ a.0 = one_end a.1 brace.1 in
      let members = first_to text b.list b.behind brace.0 f.0 brace.2 in
      let after : p ≤ a.0 = ends_after a.1 in
      let done : members.0 ≤ f.0 = read_on text b.behind members.0 f.0 members.2 in
      items_within b.list y a.0 members.0 ms b.is_list a.2 (subst (λ q. EndsAt text b.list q members.0) same members.1) (omega arith) (omega arith)

  parts_within : (rs : List ℕ) (p : ℕ) (ms : List Span) → AreMembersIn dialect text rs p ms → AreReadTo text rs p to → from ≤ p → AreWithin from to ms
  parts_within [] p ms a d h = none_within ms a
  parts_within (r ∷ rs) p ms a d h = part_within r rs p ms (member_in dialect r) refl a d h (λ q. parts_within rs q ms)

  row_within : (a p : ℕ) (ms : List Span) (row : Row) → row_of a ≡ row → AreMembersIn dialect text (parts_in row) p ms → EndsAt text a p to → from ≤ p → AreWithin from to ms
  row_within a p ms (Seq parts) is m d h = parts_within parts p ms m (read_to text a p to parts is d) h
  row_within a p ms (Bytes b) is m d h = none_within ms m
  row_within a p ms (OneOf c) is m d h = none_within ms m
  row_within a p ms (NotNext c) is m d h = none_within ms m
  row_within a p ms (Run c) is m d h = none_within ms m
  row_within a p ms (Past b) is m d h = none_within ms m
  row_within a p ms (First c) is m d h = none_within ms m
  row_within a p ms (Opt x) is m d h = none_within ms m
  row_within a p ms (Many x) is m d h = none_within ms m
  row_within a p ms (ListOf x t) is m d h = none_within ms m
  row_within a p ms (List1 x t) is m d h = none_within ms m
  row_within a p ms (Tail x t) is m d h = none_within ms m
  row_within a p ms (If c k y) is m d h = none_within ms m

-- the members that a kind has lie between where the choice begins and where it ends
kind_within : (dialect : Dialect) (text : List ℕ) (p q e : ℕ) (ms : List Span) → HasKindMembers dialect text q ms → EndsAt text (choice_of dialect) q e → p ≤ q → AreWithin p e ms
kind_within dialect text p q e ms h d l = row_within dialect text p e h.kind q ms (row_of h.kind) refl h.are (kind_ends dialect text q h.kind e h.fits d) l

-- what is behind the docstrings and extended attributes of today's definition
behind_front : (text : List ℕ) (p e q : ℕ) → IsBehindFront text p q → EndsAt text TODAY_DEFINITION p e → (z : ℕ) × (p ≤ q) × EndsAt text TODAY_DEFINITION_KIND q z × (z ≤ e)
behind_front text p e q (m, docs, attributes) d =
    let all = read_to text TODAY_DEFINITION p e (TODAY_DOCS ∷ TODAY_ATTRIBUTE_LISTS ∷ TODAY_DEFINITION_KIND ∷ []) refl d in
    let one = first_to text TODAY_DOCS (TODAY_ATTRIBUTE_LISTS ∷ TODAY_DEFINITION_KIND ∷ []) p e all in
    let two = first_to text TODAY_ATTRIBUTE_LISTS (TODAY_DEFINITION_KIND ∷ []) one.0 e one.2 in
    let three = first_to text TODAY_DEFINITION_KIND [] two.0 e two.2 in
    let first : one.0 ≡ m = one_end docs one.1 in
    let second : two.0 ≡ q = one_end attributes (subst (λ z. EndsAt text TODAY_ATTRIBUTE_LISTS z two.0) first two.1) in
    let on : p ≤ m = ends_after docs in
    let after : m ≤ q = ends_after attributes in
    (three.0, omega arith, subst (λ z. EndsAt text TODAY_DEFINITION_KIND z three.0) second three.1, read_on text [] three.0 e three.2)

-- the members of a definition lie between its start and its end
pub members_within : (dialect : Dialect) (text : List ℕ) (p e : ℕ) (ms : List Span) → HasMembersIn dialect text p ms → EndsAt text (definition_of dialect) p e → AreWithin p e ms
members_within Weedle2 text p e ms h d = kind_within Weedle2 text p p e ms h d (omega arith)
members_within Today text p e ms (q, front, h) d =
    let b = behind_front text p e q front d in
    within_more p b.0 e ms b.3 (kind_within Today text p q b.0 ms h b.2 b.1)
