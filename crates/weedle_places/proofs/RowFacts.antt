-- What a node reads directly are rules that its row names.
use Rattle.std.proofs.Common.{◌≡◌, inl, inr, ℕ, ◌==◌, ◌+◌, Bool, true, false, ◌||◌, List, [], ◌∷◌, ◌++◌, refl, sym, subst, ◌∙◌, eq-eqb}
use Rattle.std.specs.Prelude.{not, is_some, Some, None, Option}
use Rattle.std.specs.List.{list_any}
use Rattle.std.proofs.lemmas.List.Folds.{list_any-append}
use Rattle.weedle_grammar.specs.Rows.{Row, Bytes, OneOf, NotNext, Run, Past, Seq, First, Opt, Many, ListOf, List1, Tail, If}
use Rattle.weedle_grammar.specs.written.Table.{row_of}
use Rattle.weedle_grammar.specs.written.Table.Leaves.{IDENTIFIER}
use Rattle.weedle_grammar.proofs.Entries.{passes}
use Rattle.weedle_syntax.specs.declared.node.Node.{Node}
use Rattle.weedle_syntax.specs.Parts.{AreInTurn, IsFirst, AreItems, AreFollowing, AreParts, HasParts}
use Rattle.weedle_starts.proofs.BoolFacts.{or_left, or_right}
use Rattle.weedle_syntax.proofs.ChildFacts.{Each, each_so}
use Rattle.weedle_places.specs.declared.role.Role.{Role}
use Rattle.weedle_places.specs.Roles.{or_else, of_later, first_role, role_of}

-- the rules that a row names
abbrev pub names_of : Row → List ℕ
names_of (Seq parts) = parts
names_of (First parts) = parts
names_of (Opt y) = y ∷ []
names_of (Many y) = y ∷ []
names_of (ListOf y t) = y ∷ t ∷ []
names_of (List1 y t) = y ∷ t ∷ []
names_of (Tail y s) = s ∷ y ∷ []
names_of (If parts k y) = parts ++ y ∷ []
names_of (Bytes b) = []
names_of (OneOf c) = []
names_of (NotNext c) = []
names_of (Run c) = []
names_of (Past b) = []

-- the rule is among these
abbrev pub among : List ℕ → ℕ → Bool
among rules r = list_any (λ x. x == r) rules

-- a node's rule is among these
abbrev IsAmong : List ℕ → Node → Type 0
IsAmong rules n = among rules n.rule ≡ true

or_false : (a b : Bool) → a || false ≡ true → a || b ≡ true
or_false true b h = refl
or_false false b h = cc

module _ (text : List ℕ) (d : ℕ) where
  turn_named : (rs : List ℕ) (p e : ℕ) (ns : List Node) → AreInTurn text rs d p e ns → Each (IsAmong rs) ns
  turn_named [] p e ns h = subst (Each (IsAmong [])) (sym h.0) tt
  turn_named (r ∷ rs) p e [] h = absurd h
  turn_named (r ∷ rs) p e (n ∷ ns) h = (
    or_left (r == n.rule) (among rs n.rule) (eq-eqb r n.rule (sym h.0.rule_is)),
    each_so (IsAmong rs) (IsAmong (r ∷ rs)) ns (λ m k. or_right (r == m.rule) (among rs m.rule) k) (turn_named rs n.end e ns h.1),
  )

  first_named : (rs : List ℕ) (p e : ℕ) (ns : List Node) → IsFirst text rs d p e ns → Each (IsAmong rs) ns
  first_named [] p e ns h = absurd h
  first_named (r ∷ rs) p e ns (inl h) = each_so (IsAmong (r ∷ [])) (IsAmong (r ∷ rs)) ns (λ m k. or_false (r == m.rule) (among rs m.rule) k) (turn_named (r ∷ []) p e ns h)
  first_named (r ∷ rs) p e ns (inr h) = each_so (IsAmong rs) (IsAmong (r ∷ rs)) ns (λ m k. or_right (r == m.rule) (among rs m.rule) k) (first_named rs p e ns h.1)

  items_named : (y p e : ℕ) (ns : List Node) → AreItems text y d p e ns → Each (IsAmong (y ∷ [])) ns
  items_named y p e [] h = tt
  items_named y p e (n ∷ ns) h = (or_left (y == n.rule) false (eq-eqb y n.rule (sym h.0.rule_is)), items_named y n.end e ns h.1)

  following_named : (y s p e : ℕ) (ns : List Node) → AreFollowing text y s d p e ns → Each (IsAmong (s ∷ y ∷ [])) ns
  following_named y s p e [] h = tt
  following_named y s p e (n ∷ []) h = absurd h
  following_named y s p e (n ∷ m ∷ ns) (i, j, h) = (
    or_left (s == n.rule) (among (y ∷ []) n.rule) (eq-eqb s n.rule (sym i.rule_is)),
    (
      or_right (s == m.rule) (among (y ∷ []) m.rule) (or_left (y == m.rule) false (eq-eqb y m.rule (sym j.rule_is))),
      following_named y s m.end e ns h,
    ),
  )

  none_named : (rs : List ℕ) (ns : List Node) → ns ≡ [] → Each (IsAmong rs) ns
  none_named rs ns e = subst (Each (IsAmong rs)) (sym e) tt

  row_named : (row : Row) (p e : ℕ) (ns : List Node) → AreParts text row d p e ns → Each (IsAmong (names_of row)) ns
  row_named (Seq parts) p e ns h = turn_named parts p e ns h
  row_named (First parts) p e ns h = first_named parts p e ns h
  row_named (Opt y) p e ns (inl h) = turn_named (y ∷ []) p e ns h
  row_named (Opt y) p e ns (inr h) = none_named (y ∷ []) ns h.1.0
  row_named (Many y) p e ns h = items_named y p e ns h
  row_named (ListOf y t) p e ns (inl h) = turn_named (y ∷ t ∷ []) p e ns h
  row_named (ListOf y t) p e ns (inr h) = none_named (y ∷ t ∷ []) ns h.1.0
  row_named (List1 y t) p e ns h = turn_named (y ∷ t ∷ []) p e ns h
  row_named (Tail y s) p e ns h = following_named y s p e ns h
  row_named (If parts k y) p e ns (inl h) = turn_named (parts ++ y ∷ []) p e ns h.1
  row_named (If parts k y) p e ns (inr h) =
      each_so (IsAmong parts) (IsAmong (parts ++ y ∷ [])) ns
      (λ m g. list_any-append (λ x. x == m.rule) parts (y ∷ []) ∙ or_left (among parts m.rule) (among (y ∷ []) m.rule) g) (turn_named parts p e ns h.1)
  row_named (Bytes b) p e ns h = none_named [] ns h
  row_named (OneOf c) p e ns h = none_named [] ns h
  row_named (NotNext c) p e ns h = none_named [] ns h
  row_named (Run c) p e ns h = none_named [] ns h
  row_named (Past b) p e ns h = none_named [] ns h

-- each rule of which the row names the rule of names has a role for it
abbrev has_role : ℕ → Row → Bool
has_role r row = not (among (names_of row) IDENTIFIER) || is_some (first_role r)

all_have_roles : (r : ℕ) → has_role r (row_of r) ≡ true
all_have_roles = passes (λ r e. has_role r e.row) (λ n r. refl) refl

some_role : (o : Option Role) → is_some o ≡ true → (role : Role) × (o ≡ Some role)
some_role (Some role) h = (role, refl)
some_role None h = cc

either_role : (r : ℕ) (later : Bool) → is_some (first_role r) ≡ true → is_some (role_of r later) ≡ true
either_role r false h = h
either_role r true h = by (of_later r)
  where
    by : (o : Option Role) → is_some (or_else o (first_role r)) ≡ true
    by (Some role) = refl
    by None = h

pub a_role : (text : List ℕ) (n : Node) (later : Bool) → among (names_of (row_of n.rule)) IDENTIFIER ≡ true → (role : Role) × (role_of n.rule later ≡ Some role)
a_role text n later h =
    let first = if_not (among (names_of (row_of n.rule)) IDENTIFIER) (is_some (first_role n.rule)) h (all_have_roles n.rule) in
    some_role (role_of n.rule later) (either_role n.rule later first)
  where
    if_not : (a b : Bool) → a ≡ true → not a || b ≡ true → b ≡ true
    if_not true b h k = k
    if_not false b h k = cc

pub parts_named : (text : List ℕ) (n : Node) (inner : List Node) → HasParts text n inner → Each (λ m. among (names_of (row_of n.rule)) m.rule ≡ true) inner
parts_named text n inner h = row_named text (n.depth + 1) (row_of n.rule) n.start n.end inner h
