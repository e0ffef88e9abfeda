-- The law of renderings: the text that a rule takes is a rendering of the value that it gives.
use Rattle.std.specs.Prelude.{◌≡◌, ℕ, List, [], ◌∷◌, ◌++◌, ◌⊎◌}
use Rattle.weedle_grammar.specs.Meaning.{between, Marked}
use Rattle.weedle_grammar.specs.Rows.{Seq, Bytes}
use Rattle.weedle_grammar.specs.written.Table.{Reads, row_of, shape_of}
use Rattle.weedle_grammar.specs.written.Table.Keywords.{NOT_NEXT_NAME}
use Rattle.weedle_grammar.specs.written.Table.Trivia.{TRIVIA}
use Rattle.weedle_grammar.specs.Trees.{Tree, Mark, Gives}
use Rattle.weedle_spell.specs.Forms.{Form}
use Rattle.weedle_spell.specs.Pieces.{IsInPieces}
use Rattle.weedle_spell.specs.Tokens.{word}

-- the text is a rendering of the value; or it is one when an LF follows, which a line comment at
-- the end of a text may lack
abbrev pub Spells : {V : Type 0} → (V → Form) → V → List ℕ → Type 0
Spells spelling v s = spelling v s ⊎ spelling v (s ++ 10 ∷ [])

-- where the rule gives the tree of a value, the text taken is a rendering of the value, and has its
-- texts in their order
pub record SpellsValues {V : Type 0} (rule : ℕ) (tree : V → Tree) (spelling : V → Form) : Type 0 where
  pub spells : (v : V) (text : List ℕ) (p e : ℕ) → Reads text rule p (Gives (tree v ∷ []) e) → Spells spelling v (between text p e)
  pub in_pieces : (v : V) (text : List ℕ) (p e : ℕ) → Reads text rule p (Gives (tree v ∷ []) e) → IsInPieces (tree v) (between text p e)

-- where the rule gives the tree of a value, the text taken is a rendering of the value as it is,
-- with no LF that may be absent, and has its texts in their order
pub record SpellsExactly {V : Type 0} (rule : ℕ) (tree : V → Tree) (spelling : V → Form) : Type 0 where
  pub spells : (v : V) (text : List ℕ) (p e : ℕ) → Reads text rule p (Gives (tree v ∷ []) e) → spelling v (between text p e)
  pub in_pieces : (v : V) (text : List ℕ) (p e : ℕ) → Reads text rule p (Gives (tree v ∷ []) e) → IsInPieces (tree v) (between text p e)

-- the rule is that of a terminal with these bytes: trivia, the bytes, and what follows them
abbrev pub IsTerminal : ℕ → List ℕ → List ℕ → Type 0
IsTerminal r bytes behind = (x : ℕ) × (shape_of r ≡ Marked) × (row_of r ≡ Seq (TRIVIA ∷ x ∷ behind)) × (row_of x ≡ Bytes bytes)

-- what a symbol's rule takes is a rendering of the symbol
abbrev pub SymbolLaw : Type 0
SymbolLaw = (r : ℕ) (bytes : List ℕ) → IsTerminal r bytes (TRIVIA ∷ []) → SpellsValues {V = Unit {0}} r (λ v. Mark) (λ v. word bytes)

-- what a keyword's rule takes is a rendering of the keyword
abbrev pub KeywordLaw : Type 0
KeywordLaw = (r : ℕ) (bytes : List ℕ) → IsTerminal r bytes (NOT_NEXT_NAME ∷ TRIVIA ∷ []) → SpellsValues {V = Unit {0}} r (λ v. Mark) (λ v. word bytes)
