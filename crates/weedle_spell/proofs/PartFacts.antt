-- What the generic parts take, by what their parameters take.
use Rattle.std.proofs.Common.{◌≡◌, ℕ, List, [], ◌∷◌, Option, codes, true, refl}
use Rattle.weedle_base.specs.Rules.{mark_tree, option_tree}
use Rattle.weedle_base.specs.declared.term.written.symbols.QMark.{QMark}
use Rattle.weedle_parts.specs.ValueTrees.{bracket_tree, punctuated_tree, punctuated_non_empty_tree}
use Rattle.weedle_parts.specs.declared.common.punctuated.Punctuated.{Punctuated}
use Rattle.weedle_parts.specs.declared.common.punctuated.PunctuatedNonEmpty.{PunctuatedNonEmpty}
use Rattle.weedle_grammar.proofs.OneTree.{is_single}
use Rattle.weedle_grammar.specs.Meaning.{Plain, Inner}
use Rattle.weedle_grammar.specs.Rows.{Seq, Opt, ListOf, List1, Tail}
use Rattle.weedle_grammar.specs.written.Table.{row_of, shape_of}
use Rattle.weedle_grammar.specs.written.Table.Symbols.{OPEN_PAREN, CLOSE_PAREN, OPEN_BRACKET, CLOSE_BRACKET, OPEN_BRACE, CLOSE_BRACE, LESS_THAN, GREATER_THAN, Q_MARK}
use Rattle.weedle_grammar.specs.Trees.{Tree, Node, trees}
use Rattle.weedle_spell.specs.Forms.{Form, ◌then◌, optional}
use Rattle.weedle_spell.specs.GenericParts.{punctuated_spelling, punctuated_non_empty_spelling}
use Rattle.weedle_spell.specs.Leaves.{terminal}
use Rattle.weedle_spell.specs.Tokens.{word}
use Rattle.weedle_spell.proofs.Always.{Always}
use Rattle.weedle_spell.proofs.Spelt.{Spelt, IsSpelt, part, last, node, option_spelt}
use Rattle.weedle_spell.proofs.SpeltLists.{list_spelt, list1_spelt, all_spelt}
use Rattle.weedle_spell.proofs.TriviaFacts.{symbol}

-- brackets, and a type that may be null
module _ {x r : ℕ} {t : Tree} {A : Form} (h : Spelt (Unit {0}) x t A) where
  pub parenthesized : row_of r ≡ Seq (OPEN_PAREN ∷ x ∷ CLOSE_PAREN ∷ []) → shape_of r ≡ Plain → Spelt (Unit {0}) r (bracket_tree t) (word (codes "(") then A then word (codes ")"))
  parenthesized row shape = node row shape (part (symbol refl refl refl) (part h (last (symbol refl refl refl))))

  pub bracketed : row_of r ≡ Seq (OPEN_BRACKET ∷ x ∷ CLOSE_BRACKET ∷ []) → shape_of r ≡ Plain → Spelt (Unit {0}) r (bracket_tree t) (word (codes "[") then A then word (codes "]"))
  bracketed row shape = node row shape (part (symbol refl refl refl) (part h (last (symbol refl refl refl))))

  pub braced : row_of r ≡ Seq (OPEN_BRACE ∷ x ∷ CLOSE_BRACE ∷ []) → shape_of r ≡ Plain → Spelt (Unit {0}) r (bracket_tree t) (word (codes "{") then A then word (codes "}"))
  braced row shape = node row shape (part (symbol refl refl refl) (part h (last (symbol refl refl refl))))

  pub generics : row_of r ≡ Seq (LESS_THAN ∷ x ∷ GREATER_THAN ∷ []) → shape_of r ≡ Plain → Spelt (Unit {0}) r (bracket_tree t) (word (codes "<") then A then word (codes ">"))
  generics row shape = node row shape (part (symbol refl refl refl) (part h (last (symbol refl refl refl))))

  pub may_be_null : {o : ℕ} → row_of r ≡ Seq (x ∷ o ∷ []) → shape_of r ≡ Plain → row_of o ≡ Opt Q_MARK → shape_of o ≡ Plain → (q : Option QMark)
      → Spelt (Unit {0}) r (Node (trees (t ∷ option_tree mark_tree q ∷ []))) (A then optional (terminal (codes "?")) q)
  may_be_null row shape rowo shapeo q = node row shape (part h (last (option_spelt rowo shapeo refl (λ q. symbol refl refl refl) q)))

-- lists with separators
pub punctuated : {T S : Type 0} {x t r separator : ℕ} {b : List ℕ} (tree : T → Tree) (spelling : T → Form) → IsSpelt x tree spelling → is_single x ≡ true
    → Always (Unit {0}) separator (word b) → row_of r ≡ ListOf x t → shape_of r ≡ Plain → row_of t ≡ Tail x separator → shape_of t ≡ Plain
    → (v : Punctuated T S) → Spelt (Unit {0}) r (punctuated_tree tree v) (punctuated_spelling spelling (word b) v)
punctuated tree spelling h single separator row shape rowt shapet v = list_spelt tree spelling rowt shapet single separator row shape v.list.items (all_spelt h v.list.items)

pub punctuated_non_empty : {T S : Type 0} {x t l o r separator : ℕ} {b : List ℕ} (tree : T → Tree) (spelling : T → Form) → IsSpelt x tree spelling → is_single x ≡ true
    → Always (Unit {0}) separator (word b) → row_of r ≡ Seq (l ∷ o ∷ []) → shape_of r ≡ Inner → row_of l ≡ List1 x t → shape_of l ≡ Plain → row_of o ≡ Opt separator
    → row_of t ≡ Tail x separator → shape_of t ≡ Plain
    → (v : PunctuatedNonEmpty T S) → Spelt (Unit {0}) r (punctuated_non_empty_tree tree v) (punctuated_non_empty_spelling spelling (word b) v)
punctuated_non_empty tree spelling h single separator row shape rowl shapel rowo rowt shapet v =
    list1_spelt tree spelling rowt shapet single separator row shape rowl shapel rowo v.list.items (all_spelt h v.list.items)
