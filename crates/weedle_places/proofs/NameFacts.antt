-- Names: the parts of their nodes, and the names that are found one after another.
use Rattle.std.proofs.Common.{◌≡◌, ℕ, zero, suc, ◌==◌, ◌+◌, ◌-◌, ◌<◌, ◌≤◌, Bool, true, false, List, [], ◌∷◌, ◌++◌, length, map, refl, sym, subst, ◌∙◌, ap, arith, eq-eqb, eqb-true, append-nil, Some, get_or}
use Rattle.std.proofs.lemmas.List.{get_or_default}
use Rattle.std.specs.Prelude.{cond}
use Rattle.weedle_grammar.specs.Meaning.{between}
use Rattle.weedle_grammar.specs.written.Table.{row_of}
use Rattle.weedle_grammar.specs.written.Table.Trivia.{TRIVIA}
use Rattle.weedle_grammar.specs.written.Table.Definitions.{DEFINITIONS}
use Rattle.weedle_grammar.specs.written.Table.Leaves.{OPT_BYTES_UNDERSCORE, IDENTIFIER_TEXT, IDENTIFIER}
use Rattle.weedle_grammar.specs.written.Table.TodayDefinitions.{TODAY_DEFINITIONS}
use Rattle.weedle_rules.specs.Outcomes.{EndsAt}
use Rattle.weedle_syntax.specs.declared.dialect.Dialect.{Dialect}
use Rattle.weedle_syntax.specs.declared.dialect.Dialect.TheVariants.{Weedle2, Today}
use Rattle.weedle_syntax.specs.declared.node.Node.{Node}
use Rattle.weedle_syntax.specs.Dialects.{start_of, IsFrontIn}
use Rattle.weedle_syntax.specs.Parts.{AreInTurn, AreParts}
use Rattle.weedle_syntax.specs.Syntax.{root_to}
use Rattle.weedle_syntax.specs.Tree.{node_at, below_of, numbers_where, children_of, IsChild}
use Rattle.weedle_syntax.proofs.BelowFacts.{depth_at, below_within}
use Rattle.weedle_syntax.proofs.InnerFacts.{children_are_parts}
use Rattle.weedle_syntax.proofs.StepFacts.{joined}
use Rattle.weedle_places.specs.declared.name.Name.{Name}
use Rattle.weedle_places.specs.declared.role.Role.{Role}
use Rattle.weedle_places.specs.declared.span.Span.{Span}
use Rattle.weedle_places.specs.Names.{is_name, IsNamed, IsName, AreSaid}
use Rattle.weedle_places.specs.Roles.{role_of}
use Rattle.weedle_places.proofs.NumberFacts.{AreBelow, numbers_more, numbers_below, at_number}
use Rattle.weedle_places.proofs.RowFacts.{among, names_of, a_role, parts_named}

-- the rule of a whole text isn't that of names
start_no_name : (dialect : Dialect) → start_of dialect ≡ IDENTIFIER → ⊥
start_no_name Weedle2 h = let k : DEFINITIONS ≡ IDENTIFIER = h in omega (arith, k)
start_no_name Today h = let k : TODAY_DEFINITIONS ≡ IDENTIFIER = h in omega (arith, k)

module _ (dialect : Dialect) (text : List ℕ) (ns : List Node) (front : IsFrontIn dialect text ns) (i : ℕ) (l : i < length ns) where
  -- its children are nodes of the tree
  pub children_within : AreBelow (length ns) (children_of ns i)
  children_within =
      let w = below_within ns i l in
      let many : i + 1 + below_of ns i - (i + 1) ≡ below_of ns i = omega arith in
      let b = numbers_below (λ j. (node_at ns j).depth == (node_at ns i).depth + 1) (i + 1 + below_of ns i - (i + 1)) (i + 1) in
      lower (children_of ns i) (i + 1 + (i + 1 + below_of ns i - (i + 1))) (omega arith) b
    where
      lower : (is : List ℕ) (end : ℕ) → end ≤ length ns → AreBelow end is → AreBelow (length ns) is
      lower [] end m h = tt
      lower (j ∷ is) end m h = let k = h.0 in (omega arith, lower is end m h.1)

  -- a name is in some node
  pub name_is_deep : is_name ns i ≡ true → 0 < depth_at ns i
  name_is_deep h = by i refl
    where
      by : (k : ℕ) → i ≡ k → 0 < depth_at ns i
      by zero e =
          let j = joined dialect text ns front in
          let root : (node_at ns i).rule ≡ start_of dialect = ap (λ z. (node_at ns z).rule) e ∙ ap (λ n. n.rule) j.2.root in
          let name : (node_at ns i).rule ≡ IDENTIFIER = eqb-true _ _ h in
          absurd (start_no_name dialect (sym root ∙ name))
      by (suc k) e = let j = joined dialect text ns front in j.2.deep i (omega arith) l

  -- a node that reads a name directly has a role for it
  pub child_role : (c : ℕ) (later : Bool) → IsChild ns i c → is_name ns c ≡ true → (role : Role) × (role_of (node_at ns i).rule later ≡ Some role)
  child_role c later h is =
      let parts = children_are_parts dialect text ns i front l in
      let named = parts_named text (node_at ns i) (map (node_at ns) (children_of ns i)) parts in
      let behind = h.behind in
      let below = h.below in
      let here = at_number (λ j. (node_at ns j).depth == (node_at ns i).depth + 1) (λ m. among (names_of (row_of (node_at ns i).rule)) m.rule ≡ true) (node_at ns)
      (i + 1 + below_of ns i - (i + 1)) (i + 1) c named (omega arith) (omega arith) (eq-eqb _ _ h.depth) in
      a_role text (node_at ns i) later (subst (λ r. among (names_of (row_of (node_at ns i).rule)) r ≡ true) (eqb-true _ _ is) here)

  -- the parts of a name: whitespace and comments, an underscore or none, the letters, whitespace
  -- and comments
  pub record NameParts : Type 0 where
    pub before : ℕ
    pub underscore : ℕ
    pub letters : ℕ
    pub behind : ℕ
    pub are : children_of ns i ≡ before ∷ underscore ∷ letters ∷ behind ∷ []
    pub turn : AreInTurn text (TRIVIA ∷ OPT_BYTES_UNDERSCORE ∷ IDENTIFIER_TEXT ∷ TRIVIA ∷ []) ((node_at ns i).depth + 1) (node_at ns i).start (node_at ns i).end (map (node_at ns) (before ∷ underscore ∷ letters ∷ behind ∷ []))
    pub underscore_within : underscore < length ns
    pub letters_within : letters < length ns

  pub name_parts : is_name ns i ≡ true → NameParts
  name_parts h =
      let parts = children_are_parts dialect text ns i front l in
      let turn = subst (λ r. AreParts text (row_of r) ((node_at ns i).depth + 1) (node_at ns i).start (node_at ns i).end (map (node_at ns) (children_of ns i))) (eqb-true _ _ h) parts in
      by (children_of ns i) refl turn children_within
    where
      by : (cs : List ℕ) → children_of ns i ≡ cs → AreInTurn text (TRIVIA ∷ OPT_BYTES_UNDERSCORE ∷ IDENTIFIER_TEXT ∷ TRIVIA ∷ []) ((node_at ns i).depth + 1) (node_at ns i).start (node_at ns i).end (map (node_at ns) cs) → AreBelow (length ns) cs → NameParts
      by [] e t b = absurd t
      by (c ∷ []) e t b = absurd t.1
      by (c ∷ u ∷ []) e t b = absurd t.1.1
      by (c ∷ u ∷ w ∷ []) e t b = absurd t.1.1.1
      by (c ∷ u ∷ w ∷ v ∷ []) e t b = record { before = c; underscore = u; letters = w; behind = v; are = e; turn = t; underscore_within = b.1.0; letters_within = b.1.1.0 }
      by (c ∷ u ∷ w ∷ v ∷ x ∷ more) e t b = absurd (let z = t.1.1.1.1.0 in let n : ⊥ = cc in n)

  -- the second and the third of its children, in which a name's span lies
  pub record Within (b d : ℕ) : Type 0 where
    pub parts : NameParts
    pub second : b ≡ parts.underscore
    pub third : d ≡ parts.letters
    pub second_within : b < length ns
    pub third_within : d < length ns

  pub no_first : (cs : List ℕ) → is_name ns i ≡ true → cs ≡ children_of ns i → cs ≡ [] → ⊥
  no_first cs h e none = let p = name_parts h in let are = p.are in (let n : ⊥ = cc in n)

  pub no_second : (cs xs : List ℕ) (a : ℕ) → is_name ns i ≡ true → cs ≡ children_of ns i → cs ≡ a ∷ xs → xs ≡ [] → ⊥
  no_second cs xs a h e first none = let p = name_parts h in let are = p.are in (let n : ⊥ = cc in n)

  pub no_third : (cs xs ys : List ℕ) (a b : ℕ) → is_name ns i ≡ true → cs ≡ children_of ns i → cs ≡ a ∷ xs → xs ≡ b ∷ ys → ys ≡ [] → ⊥
  no_third cs xs ys a b h e first second none = let p = name_parts h in let are = p.are in (let n : ⊥ = cc in n)

  pub two_parts : (cs xs ys zs : List ℕ) (a b d : ℕ) → is_name ns i ≡ true → cs ≡ children_of ns i → cs ≡ a ∷ xs → xs ≡ b ∷ ys → ys ≡ d ∷ zs → Within b d
  two_parts cs xs ys zs a b d h e first second third =
      let p = name_parts h in
      let are = p.are in
      let same : b ≡ p.underscore = cc in
      let also : d ≡ p.letters = cc in
      record {
        parts = p;
        second = same;
        third = also;
        second_within = subst (λ z. z < length ns) (sym same) p.underscore_within;
        third_within = subst (λ z. z < length ns) (sym also) p.letters_within;
      }

  module _ (p : NameParts) (span : Span) (letters : List ℕ) where
    pub is_named : span.start ≡ (node_at ns p.underscore).start → span.end ≡ (node_at ns p.letters).end → letters ≡ between text (node_at ns p.letters).start (node_at ns p.letters).end
        → IsNamed text (node_at ns i).start (node_at ns i).end span letters
    is_named s e t =
        let first = p.turn.0 in
        let second = p.turn.1.0 in
        let third = p.turn.1.1.0 in
        let fourth = p.turn.1.1.1.0 in
        record {
          word = (node_at ns p.letters).start;
          before = subst (EndsAt text TRIVIA (node_at ns i).start) (sym (s ∙ second.start_is)) first.reads;
          underscore = subst (λ z. EndsAt text OPT_BYTES_UNDERSCORE z (node_at ns p.letters).start) (sym (s ∙ second.start_is)) (subst (EndsAt text OPT_BYTES_UNDERSCORE (node_at ns p.before).end) (sym third.start_is) second.reads);
          reads = subst (EndsAt text IDENTIFIER_TEXT (node_at ns p.letters).start) (sym e) (subst (λ z. EndsAt text IDENTIFIER_TEXT z (node_at ns p.letters).end) (sym third.start_is) third.reads);
          are = t ∙ ap (between text (node_at ns p.letters).start) (sym e);
          behind = subst (λ z. EndsAt text TRIVIA z (node_at ns i).end) (sym e) (subst (EndsAt text TRIVIA (node_at ns p.letters).end) (sym p.turn.1.1.1.1.1) fourth.reads);
        }

-- a node that is looked at is the one of its number
pub node_found : (nodes ns : List Node) (k : ℕ) (n : Node) → nodes ≡ ns → k < length ns → get_or nodes k n ≡ node_at ns k
node_found nodes ns k n e l = ap (λ s. get_or s k n) e ∙ get_or_default ns k n (root_to 0) l

-- names that are found one after another
module _ (text : List ℕ) (ns : List Node) where
  pub said_more : (is : List ℕ) (names : List Name) (i : ℕ) (name : Name) → AreSaid text ns is names → IsName text ns i name → AreSaid text ns (is ++ i ∷ []) (names ++ name ∷ [])
  said_more [] [] i name h k = (k, tt)
  said_more [] (m ∷ names) i name h k = absurd h
  said_more (j ∷ is) [] i name h k = absurd h
  said_more (j ∷ is) (m ∷ names) i name h k = (h.0, said_more is names i name h.1 k)

  -- the names of the nodes before node i
  abbrev pub AreSaidTo : ℕ → List Name → Type 0
  AreSaidTo i names = AreSaid text ns (numbers_where (is_name ns) 0 i) names

  numbers_to : (i : ℕ) → numbers_where (is_name ns) 0 (i + 1) ≡ numbers_where (is_name ns) 0 i ++ cond (is_name ns i) (i ∷ []) []
  numbers_to i =
      let on : i + 1 ≡ suc i = omega arith in
      let here : 0 + i ≡ i = omega arith in
      ap (numbers_where (is_name ns) 0) on ∙ numbers_more (is_name ns) i 0 ∙ ap (λ z. numbers_where (is_name ns) 0 i ++ cond (is_name ns z) (z ∷ []) []) here

  pub one_more : (names new : List Name) (i : ℕ) (name : Name) → is_name ns i ≡ true → new ≡ names ++ name ∷ [] → IsName text ns i name → AreSaidTo i names → AreSaidTo (i + 1) new
  one_more names new i name is e k h =
      let numbers = numbers_to i ∙ ap (λ b. numbers_where (is_name ns) 0 i ++ cond b (i ∷ []) []) is in
      subst (λ z. AreSaid text ns (numbers_where (is_name ns) 0 (i + 1)) z) (sym e) (subst (λ z. AreSaid text ns z (names ++ name ∷ [])) (sym numbers) (said_more (numbers_where (is_name ns) 0 i) names i name h k))

  pub no_more : (names : List Name) (i : ℕ) → is_name ns i ≡ false → AreSaidTo i names → AreSaidTo (i + 1) names
  no_more names i is h =
      let numbers = numbers_to i ∙ ap (λ b. numbers_where (is_name ns) 0 i ++ cond b (i ∷ []) []) is ∙ append-nil (numbers_where (is_name ns) 0 i) in
      subst (λ z. AreSaid text ns z names) (sym numbers) h

  pub none_yet : (names : List Name) → names ≡ [] → AreSaidTo 0 names
  unfolding numbers_where
  none_yet names e = subst (λ z. AreSaid text ns [] z) (sym e) tt
