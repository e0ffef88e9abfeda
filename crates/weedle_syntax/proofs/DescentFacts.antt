-- What is written while a text is read from a place on, and where it ends.
use Rattle.std.proofs.Common.{◌≡◌, inl, inr, ℕ, ◌+◌, ◌-◌, ◌<◌, ◌≤◌, List, [], ◌∷◌, ◌++◌, length, take, drop, set, Option, Some, None, refl, sym, subst, ◌∙◌, ap, arith, append_assoc, append-nil, length-append}
use Rattle.std.proofs.lemmas.List.{take_at, set_at, take_rest}
use Rattle.weedle_grammar.specs.Rows.{Row, Seq, First}
use Rattle.weedle_grammar.specs.written.Table.{webidl, row_of}
use Rattle.weedle_grammar.specs.written.Bound.{rule_count}
use Rattle.weedle_grammar.proofs.Takes.{takes}
use Rattle.weedle_grammar.proofs.Checked.{ranked}
use Rattle.weedle_rules.specs.Cells.{HasEnd, turn_number}
use Rattle.weedle_rules.proofs.RowEnds.{rule_ends, seq_ends, first_ends}
use Rattle.weedle_rules.proofs.PartEnds.{Along, along_start, along_step, along_fails, along_ends, along_before, Trying, trying_start, trying_before, first_fits, first_tries_on, first_fits_none}
use Rattle.weedle_rules.proofs.OutcomeFacts.{it_ends, it_fails}
use Rattle.weedle_syntax.specs.declared.node.Node.{Node}
use Rattle.weedle_syntax.specs.Parts.{AreInTurn, IsFirst, AreParts}
use Rattle.weedle_grammar.specs.written.Table.Definitions.{DEFINITIONS}
use Rattle.weedle_syntax.specs.Syntax.{AreTrees, no_trees, a_tree, IsSyntaxTo}
use Rattle.weedle_syntax.specs.Laid.{node, Adds, LaysNode, LaysParts}
use Rattle.weedle_syntax.proofs.TurnFacts.{is_node, one_node}
use Rattle.weedle_syntax.proofs.LayFacts.{by_its_row}

-- what is known of a call's answer, once that is known
pub has_now : {text : List ℕ} {r p : ℕ} {o now : Option ℕ} → o ≡ now → HasEnd text r p o → HasEnd text r p now
has_now {text} {r} {p} e h = subst (HasEnd text r p) e h

-- trees of some, and then of others
pub trees_append : (text : List ℕ) (xs ys first second : List Node) → AreTrees text xs first → AreTrees text ys second → AreTrees text (xs ++ ys) (first ++ second)
trees_append text [] ys first second (no_trees e) b = subst (λ z. AreTrees text ys (z ++ second)) (sym e) b
trees_append text (n ∷ others) ys first second (a_tree {below = below} {behind = behind} p a c e) b =
    a_tree p a (trees_append text others ys behind second c b) (ap (λ z. z ++ second) e ∙ ap (λ z. n ∷ z) (append_assoc below behind second))

module _ (text : List ℕ) where
  -- nothing is written yet
  pub none_added : (old : List Node) → Adds text [] old old
  none_added old = ([], sym (append-nil old), no_trees refl)

  pub more_added : (inner xs old now new : List Node) → Adds text inner old now → Adds text xs now new → Adds text (inner ++ xs) old new
  more_added inner xs old now new (a, e, t) (b, f, u) = (a ++ b, f ∙ ap (λ z. z ++ b) e ∙ append_assoc old a b, trees_append text inner xs a b t u)

  pub still_added : (inner old now new : List Node) → Adds text inner old now → new ≡ now → Adds text inner old new
  still_added inner old now new a e = subst (Adds text inner old) (sym e) a

  -- as many nodes as there were, or more
  pub added_length : (inner old now : List Node) → Adds text inner old now → length old ≤ length now
  added_length inner old now (a, e, t) =
      let l : length now ≡ length old + length a = ap length e ∙ length-append old a in
      omega arith

  pub some_more : (inner old now : List Node) → Adds text inner old now → (more : List Node) × (now ≡ old ++ more)
  some_more inner old now (a, e, t) = (a, e)

  -- a node whose row is written behind it, once its end is known; nothing else stays
  module _ (r p d : ℕ) (old now new : List Node) (first : Node) (begun : now ≡ old ++ first ∷ []) where
    pub node_laid : (e : ℕ) (last : List Node) → (inner : List Node) × AreParts text (row_of r) (d + 1) p e inner × Adds text inner now new → last ≡ set new (length old) (node r p e d) → LaysNode text r p d old last (Some e)
    node_laid e last (inner, parts, (below, is, trees)) w =
        let whole : new ≡ old ++ first ∷ below = is ∙ ap (λ z. z ++ below) begun ∙ append_assoc old (first ∷ []) below in
        let mended : last ≡ old ++ node r p e d ∷ below = w ∙ ap (λ z. set z (length old) (node r p e d)) whole ∙ set_at old first below (node r p e d) (length old) refl in
        (node r p e d ∷ below, mended, a_tree parts trees (no_trees refl) (ap (λ z. node r p e d ∷ z) (sym (append-nil below))))

    pub taken_back : (last : List Node) → (more : List Node) × (new ≡ now ++ more) → last ≡ take (length old) new → last ≡ old
    taken_back last (more, is) w = w ∙ ap (take (length old)) (is ∙ ap (λ z. z ++ more) begun ∙ append_assoc old (first ∷ []) more) ∙ take_at old (first ∷ more) (length old) refl

  -- rows without parts
  module _ (r p d : ℕ) (old : List Node) where
    pub leaf_laid : (o : Option ℕ) {row : Row} → row_of r ≡ row → ((e : ℕ) → AreParts text row d p e []) → LaysParts text r p d old old o
    leaf_laid None is f = ([], sym (append-nil old))
    leaf_laid (Some e) is f = ([], by_its_row text r d p e [] is (f e), none_added old)

    left_is : (left : List ℕ) → left ≡ take (length text - p) (drop p text) → left ≡ drop p text
    left_is left e = e ∙ take_rest text p

-- a sequence that is being read
pub record Reading (text : List ℕ) (r p d : ℕ) (parts : List ℕ) (old : List Node) (rest : List ℕ) (at : ℕ) (now : List Node) : Type 0 where
  pub along : Along webidl text takes r p parts rest at
  pub inner : List Node
  pub adds : Adds text inner old now
  pub onward : (ns : List Node) (e : ℕ) → AreInTurn text rest d at e ns → AreInTurn text parts d p e (inner ++ ns)

module _ (text : List ℕ) (r p d : ℕ) (parts : List ℕ) (old : List Node) where
  pub reading_start : row_of r ≡ Seq parts → p ≤ length text → Reading text r p d parts old parts p old
  reading_start is l = record { along = along_start webidl text takes ranked r p parts is l; inner = []; adds = none_added text old; onward = λ ns e a. a }

  pub reading_step : (x : ℕ) (rest : List ℕ) (at e : ℕ) (now new : List Node) → Reading text r p d parts old (x ∷ rest) at now → HasEnd text x at (Some e) → Adds text (node x at e d ∷ []) now new → Reading text r p d parts old rest e new
  reading_step x rest at e now new g h a = record {
    along = along_step webidl text takes ranked r p x at e parts rest g.along h;
    inner = g.inner ++ node x at e d ∷ [];
    adds = more_added text g.inner (node x at e d ∷ []) old now new g.adds a;
    onward = λ ns z k. subst (AreInTurn text parts d p z) (sym (append_assoc g.inner (node x at e d ∷ []) ns)) (g.onward (node x at e d ∷ ns) z (is_node text x d at e (it_ends h), k));
  }

  pub reading_before : (x : ℕ) (rest : List ℕ) (at : ℕ) (now : List Node) → Reading text r p d parts old (x ∷ rest) at now → x < rule_count → turn_number (length text) x at < turn_number (length text) r p
  reading_before x rest at now g l = along_before webidl text takes ranked r p x at parts rest g.along l

  pub reading_fails : (x : ℕ) (rest : List ℕ) (at : ℕ) (now : List Node) → row_of r ≡ Seq parts → Reading text r p d parts old (x ∷ rest) at now → HasEnd text x at None → HasEnd text r p None
  reading_fails x rest at now is g h = rule_ends is (seq_ends webidl text parts p None (along_fails webidl text takes r p x at parts rest g.along h))

  pub reading_more : (rest : List ℕ) (at : ℕ) (now new : List Node) → Reading text r p d parts old rest at now → new ≡ now → (more : List Node) × (new ≡ old ++ more)
  reading_more rest at now new g e = some_more text g.inner old new (still_added text g.inner old now new g.adds e)

  pub reading_end : (at : ℕ) (now : List Node) → row_of r ≡ Seq parts → Reading text r p d parts old [] at now → HasEnd text r p (Some at)
  reading_end at now is g = rule_ends is (seq_ends webidl text parts p (Some at) (along_ends webidl text takes r p at parts g.along))

  pub reading_laid : (at : ℕ) (now : List Node) → row_of r ≡ Seq parts → Reading text r p d parts old [] at now → LaysParts text r p d old now (Some at)
  reading_laid at now is g = (g.inner, by_its_row text r d p at g.inner is (subst (AreInTurn text parts d p at) (append-nil g.inner) (g.onward [] at (refl, refl))), g.adds)

-- a choice that is being tried
pub record Picking (text : List ℕ) (r p d : ℕ) (parts : List ℕ) (old : List Node) (rest : List ℕ) (now : List Node) : Type 0 where
  pub count : ℕ
  pub trying : Trying webidl text takes r parts rest count p
  pub same : now ≡ old
  pub onward : (ns : List Node) (e : ℕ) → IsFirst text rest d p e ns → IsFirst text parts d p e ns

module _ (text : List ℕ) (r p d : ℕ) (parts : List ℕ) (old : List Node) where
  pub picking_start : row_of r ≡ First parts → Picking text r p d parts old parts old
  picking_start is = record { count = 0; trying = trying_start webidl text takes ranked r p parts is; same = refl; onward = λ ns e a. a }

  pub picking_before : (x : ℕ) (rest : List ℕ) (now : List Node) → Picking text r p d parts old (x ∷ rest) now → turn_number (length text) x p < turn_number (length text) r p
  picking_before x rest now g = trying_before webidl text takes ranked r g.count p x parts rest g.trying

  pub picking_step : (x : ℕ) (rest : List ℕ) (now new : List Node) → Picking text r p d parts old (x ∷ rest) now → HasEnd text x p None → new ≡ now → Picking text r p d parts old rest new
  picking_step x rest now new g h e = record {
    count = g.count + 1;
    trying = first_tries_on webidl text takes r g.count p x parts rest g.trying h;
    same = e ∙ g.same;
    onward = λ ns z a. g.onward ns z (inr (it_fails h, a));
  }

  pub picked_end : (x e : ℕ) (rest : List ℕ) (now : List Node) → row_of r ≡ First parts → Picking text r p d parts old (x ∷ rest) now → HasEnd text x p (Some e) → HasEnd text r p (Some e)
  picked_end x e rest now is g h = rule_ends is (first_ends webidl text parts p (Some e) (first_fits webidl text takes r g.count p x e parts rest g.trying h))

  pub picked_laid : (x e : ℕ) (rest : List ℕ) (now new : List Node) → row_of r ≡ First parts → Picking text r p d parts old (x ∷ rest) now → HasEnd text x p (Some e) → Adds text (node x p e d ∷ []) now new → LaysParts text r p d old new (Some e)
  picked_laid x e rest now new is g h a = (
    node x p e d ∷ [],
    by_its_row text r d p e (node x p e d ∷ []) is (g.onward (node x p e d ∷ []) e (inl (one_node text x d p e (it_ends h)))),
    subst (λ z. Adds text (node x p e d ∷ []) z new) g.same a,
  )

  pub none_picked : (now : List Node) → row_of r ≡ First parts → Picking text r p d parts old [] now → HasEnd text r p None
  none_picked now is g = rule_ends is (first_ends webidl text parts p None (first_fits_none webidl text takes r g.count p parts g.trying))

  pub none_picked_laid : (rest : List ℕ) (now : List Node) → Picking text r p d parts old rest now → (more : List Node) × (now ≡ old ++ more)
  none_picked_laid rest now g = ([], g.same ∙ sym (append-nil old))

-- the nodes of definitions that are read from the front
pub front_laid : (text : List ℕ) (old new : List Node) (e : ℕ) → old ≡ [] → Adds text (node DEFINITIONS 0 e 0 ∷ []) old new → IsSyntaxTo text e new
front_laid text old new e none (more, is, trees) = subst (AreTrees text (node DEFINITIONS 0 e 0 ∷ [])) (sym (is ∙ ap (λ z. z ++ more) none)) trees
