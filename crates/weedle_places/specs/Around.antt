-- What is around a node: its bytes without whitespace and comments, those in front of it, and its
-- name.
use Rattle.std.specs.Prelude.{◌≡◌, ◌≤◌, ◌<◌, ◌+◌, ◌==◌, ◌&&◌, nat_lt, ℕ, Bool, true, List, [], ◌∷◌, Option, Some, None, MatchOption, unwrap_or, if◌then◌else◌}
use Rattle.weedle_grammar.specs.written.Table.Trivia.{TRIVIA}
use Rattle.weedle_grammar.specs.written.Table.InterfaceMembers.{OPT_IDENTIFIER}
use Rattle.weedle_syntax.specs.declared.dialect.Dialect.{Dialect}
use Rattle.weedle_syntax.specs.declared.dialect.Dialect.TheVariants.{Weedle2, Today}
use Rattle.weedle_syntax.specs.declared.node.Node.{Node}
use Rattle.weedle_syntax.specs.Tree.{node_at, below_of, children_of, FindsNext}
use Rattle.weedle_places.specs.declared.span.Span.{Span}
use Rattle.weedle_places.specs.Names.{is_name, IsNamed}

-- node i is a leaf of a byte at least that is none of whitespace and comments: their rules are
-- those up to TRIVIA
abbrev pub is_solid : List Node → ℕ → Bool
is_solid ns i = (below_of ns i == 0) && (nat_lt (node_at ns i).start (node_at ns i).end && nat_lt TRIVIA (node_at ns i).rule)

abbrev pub IsSolid : List Node → ℕ → Type 0
IsSolid ns i = is_solid ns i ≡ true

-- of the numbers from one on and below another, i is the last of which P holds
pub record IsLast (P : ℕ → Type 0) (from end i : ℕ) : Type 0 where
  pub after : from ≤ i
  pub within : i < end
  pub holds : P i
  pub last : (j : ℕ) → i < j → j < end → P j → ⊥

-- what is found is the last, and nothing is found where there is none
abbrev pub FindsLast : (ℕ → Type 0) → ℕ → ℕ → Option ℕ → Type 0
FindsLast P from end found = MatchOption found ((j : ℕ) → from ≤ j → j < end → P j → ⊥) (λ i. IsLast P from end i)

-- where the node of this number begins or ends; a place where there is none
abbrev pub start_or : List Node → Option ℕ → ℕ → ℕ
start_or ns (Some i) place = (node_at ns i).start
start_or ns None place = place

abbrev pub end_or : List Node → Option ℕ → ℕ → ℕ
end_or ns (Some i) place = (node_at ns i).end
end_or ns None place = place

-- the core goes from the first to the last byte of node i that is neither whitespace nor of a
-- comment; in front of it are the whitespace and comments behind the last such byte before it
pub record IsAround (ns : List Node) (i : ℕ) (core front : Span) : Type 0 where
  pub first : Option ℕ
  pub last : Option ℕ
  pub before : Option ℕ
  pub is_first : FindsNext (IsSolid ns) i (i + below_of ns i + 1) first
  pub is_last : FindsLast (IsSolid ns) i (i + below_of ns i + 1) last
  pub is_before : FindsLast (IsSolid ns) 0 (unwrap_or first i) before
  pub starts : core.start ≡ start_or ns first (node_at ns i).end
  pub ends : core.end ≡ end_or ns last (node_at ns i).end
  pub front_starts : front.start ≡ end_or ns before 0
  pub front_ends : front.end ≡ core.start

-- the first name among these nodes, or the one that such a node reads that may be absent: an operation's
abbrev pub name_among : List Node → List ℕ → Option ℕ
name_among ns [] = None
name_among ns (c ∷ cs) =
    if is_name ns c then Some c else
    (if (node_at ns c).rule == OPT_IDENTIFIER && is_name ns (c + 1) then Some (c + 1) else name_among ns cs)

-- the same of the first of the nodes that node i reads directly: its kind
abbrev pub name_of_kind : List Node → List ℕ → Option ℕ
name_of_kind ns [] = None
name_of_kind ns (k ∷ ks) = name_among ns (children_of ns k)

-- the same of what the third of them reads directly: of today's rules, by which docstrings and extended attributes are
-- in front of the kind
abbrev pub name_behind : List Node → List ℕ → Option ℕ
name_behind ns [] = None
name_behind ns (docs ∷ []) = None
name_behind ns (docs ∷ attributes ∷ []) = None
name_behind ns (docs ∷ attributes ∷ choice ∷ more) = name_of_kind ns (children_of ns choice)

-- the name that a kind reads directly, by the rules of a dialect
abbrev pub name_of_kind_in : Dialect → List Node → List ℕ → Option ℕ
name_of_kind_in Weedle2 ns cs = name_of_kind ns cs
name_of_kind_in Today ns cs = name_behind ns cs

abbrev pub or_other : Option ℕ → Option ℕ → Option ℕ
or_other (Some name) other = Some name
or_other None other = other

-- the name of node i: one that it reads directly, or else one that its kind does
abbrev pub own_name_in : Dialect → List Node → ℕ → Option ℕ
own_name_in dialect ns i = or_other (name_among ns (children_of ns i)) (name_of_kind_in dialect ns (children_of ns i))

-- the same by weedle2's rules
abbrev pub own_name : List Node → ℕ → Option ℕ
own_name ns i = own_name_in Weedle2 ns i

-- where the name of node i is, if it has one
abbrev pub HasNameIn : Dialect → List ℕ → List Node → ℕ → Option Span → Type 0
HasNameIn dialect text ns i name =
    MatchOption (own_name_in dialect ns i) (name ≡ None) (λ j. (span : Span) × (name ≡ Some span) × ((letters : List ℕ) × IsNamed text (node_at ns j).start (node_at ns j).end span letters))

-- the same by weedle2's rules
abbrev pub HasName : List ℕ → List Node → ℕ → Option Span → Type 0
HasName text ns i name = HasNameIn Weedle2 text ns i name
