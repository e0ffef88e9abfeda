-- The names of a text, and where they are.
use Rattle.std.specs.Prelude.{◌≡◌, ◌<◌, ◌↔◌, ◌==◌, IsTrue, ℕ, Bool, true, List, [], ◌∷◌, length, Some}
use Rattle.weedle_grammar.specs.Meaning.{between}
use Rattle.weedle_grammar.specs.written.Table.Trivia.{TRIVIA}
use Rattle.weedle_grammar.specs.written.Table.Leaves.{OPT_BYTES_UNDERSCORE, IDENTIFIER_TEXT, IDENTIFIER}
use Rattle.weedle_rules.specs.Outcomes.{EndsAt}
use Rattle.weedle_syntax.specs.declared.dialect.Dialect.{Dialect}
use Rattle.weedle_syntax.specs.declared.dialect.Dialect.TheVariants.{Weedle2}
use Rattle.weedle_syntax.specs.declared.node.Node.{Node}
use Rattle.weedle_syntax.specs.Dialects.{IsSyntaxIn}
use Rattle.weedle_syntax.specs.Tree.{node_at, numbers_where, IsChild}
use Rattle.weedle_places.specs.declared.name.Name.{Name}
use Rattle.weedle_places.specs.declared.role.Role.{Role}
use Rattle.weedle_places.specs.declared.span.Span.{Span}
use Rattle.weedle_places.specs.Roles.{role_of}

-- node i is that of a name
abbrev pub is_name : List Node → ℕ → Bool
is_name ns i = (node_at ns i).rule == IDENTIFIER

-- a name that is read from p to e: behind whitespace and comments an underscore or none, and then
-- the letters
pub record IsNamed (text : List ℕ) (p e : ℕ) (span : Span) (letters : List ℕ) : Type 0 where
  -- where the letters begin
  pub word : ℕ
  pub before : EndsAt text TRIVIA p span.start
  pub underscore : EndsAt text OPT_BYTES_UNDERSCORE span.start word
  pub reads : EndsAt text IDENTIFIER_TEXT word span.end
  pub are : letters ≡ between text word span.end
  pub behind : EndsAt text TRIVIA span.end e

-- node `above` reads directly a name before node i
abbrev pub HasNamed : List Node → ℕ → ℕ → Type 0
HasNamed ns above i = (j : ℕ) × (j < i) × IsChild ns above j × (is_name ns j ≡ true)

-- the role of node i, by the rule of the node that reads it directly, and by whether that has read a name before
pub record HasRole (ns : List Node) (i : ℕ) (role : Role) : Type 0 where
  pub above : ℕ
  pub child : IsChild ns above i
  pub later : Bool
  pub is_later : IsTrue later ↔ HasNamed ns above i
  pub is : role_of (node_at ns above).rule later ≡ Some role

-- this is said of node i
pub record IsName (text : List ℕ) (ns : List Node) (i : ℕ) (name : Name) : Type 0 where
  pub named : IsNamed text (node_at ns i).start (node_at ns i).end name.span name.text.now
  pub role : HasRole ns i name.role

-- these are said of these nodes, one of each
abbrev pub AreSaid : List ℕ → List Node → List ℕ → List Name → Type 0
AreSaid text ns [] [] = Unit {0}
AreSaid text ns [] (name ∷ names) = ⊥
AreSaid text ns (i ∷ is) [] = ⊥
AreSaid text ns (i ∷ is) (name ∷ names) = IsName text ns i name × AreSaid text ns is names

-- the names of these nodes of a text: one of each node of the rule of names, in their order
abbrev pub AreNames : List ℕ → List Node → List Name → Type 0
AreNames text ns names = AreSaid text ns (numbers_where (is_name ns) 0 (length ns)) names

-- the names of a text that the rules of a dialect read whole
abbrev pub HasNamesIn : Dialect → List ℕ → List Name → Type 0
HasNamesIn dialect text names = (ns : List Node) × IsSyntaxIn dialect text ns × AreNames text ns names

-- the same by weedle2's rules
abbrev pub HasNames : List ℕ → List Name → Type 0
HasNames text names = HasNamesIn Weedle2 text names
