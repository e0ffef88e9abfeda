-- Which rules have a word, by a look at each row.
use Rattle.std.proofs.Common.{◌≡◌, ◌<◌, ◌⊎◌, inl, inr, ℕ, List, [], ◌∷◌, Bool, true, false, cond, eqb, Option, Some, None, refl, sym, ap, ◌∙◌, subst, get_or, zero, suc, arith, eqb-true}
use Rattle.std.specs.Prelude.{◌&&◌, ◌||◌, not, is_some, IsUtf8}
use Rattle.std.specs.List.{list_all}
use Rattle.std.specs.Option.{option_or}
use Rattle.std.proofs.lemmas.Str.{IsUtf8-from_ascii}
use borrow.Author.Tests.{ltb-true}
use Rattle.weedle_refusal.specs.Words.{Word, has, has_word, is_left_out, is_start, is_type_start, is_value_start, may_fail, named_word, own_word, row_word, word_for}
use Rattle.weedle_refusal.specs.declared.starts.TheConstants.{NAMES, TYPES, TYPES_BUT_ANY, CONST_TYPES, DEFAULT_VALUES, CONST_VALUES}
use Rattle.weedle_refusal.specs.declared.today_starts.TheConstants.{TODAY_TYPES, TODAY_TYPES_BUT_ANY, TODAY_CONST_TYPES, TODAY_DEFAULT_VALUES}
use Rattle.weedle_syntax.specs.declared.dialect.Dialect.{Dialect}
use Rattle.weedle_syntax.specs.declared.dialect.Dialect.TheVariants.{Weedle2, Today}
use Rattle.weedle_grammar.proofs.Boundary.{are_ascii, is_safe}
use Rattle.weedle_grammar.proofs.Checked.{safe}
use Rattle.weedle_grammar.proofs.Entries.{all_pass, passes}
use Rattle.weedle_grammar.proofs.Leaves.{both, one_of}
use Rattle.weedle_grammar.specs.Entry.{Entry}
use Rattle.weedle_grammar.specs.View.{row_view}
use Rattle.weedle_grammar.specs.declared.class.Class.{Class}
use Rattle.weedle_grammar.specs.declared.row.Row as rows
use Rattle.weedle_grammar.specs.declared.row.Row.TheVariants as code
use Rattle.std.specs.Borrow.{Bor}
use Rattle.weedle_grammar.specs.Rows.{Row, Bytes, OneOf, NotNext, Run, Past, Seq, First, Opt, Many, ListOf, List1, Tail, If}
use Rattle.weedle_grammar.specs.written.Table.{row_of, table}
use Rattle.weedle_grammar.specs.written.Table.Keywords.{NOT_NEXT_NAME}
use Rattle.weedle_grammar.specs.written.Table.Leaves.{PAST_LF}
use Rattle.weedle_grammar.specs.written.Table.Trivia.{NOT_NEXT_ANY, NOT_NEXT_SLASH, PAST_STAR_SLASH}

-- a row that may fail has a word, or its rule has one by its number
abbrev pub is_known : ℕ → Entry → Bool
is_known r e = not (may_fail e.row) || is_some (option_or (named_word r) (row_word e.row))

all_known : all_pass is_known 0 table ≡ true
all_known = refl

known : (r : ℕ) → not (may_fail (row_of r)) || is_some (option_or (named_word r) (row_word (row_of r))) ≡ true
known = passes is_known (λ n r. refl) all_known

with_word : (out fails : Bool) (o : Option Word) → not fails || is_some o ≡ true → not out && fails ≡ true → is_some (cond out None o) ≡ true
with_word true fails o k h = cc
with_word false true o k h = k
with_word false false o k h = cc

-- a rule that is said has a word of its own
own_some : (r : ℕ) → has_word r ≡ true → is_some (own_word r) ≡ true
own_some r h = with_word (is_left_out r) (may_fail (row_of r)) (option_or (named_word r) (row_word (row_of r))) (known r) h

kind_or : (b : Bool) (w : Word) (o : Option Word) → is_some o ≡ true → is_some (cond b (Some w) o) ≡ true
kind_or true w o h = refl
kind_or false w o h = h

-- it has a word, whatever else is unmet
pub some_word : (dialect : Dialect) (rules : List ℕ) (r : ℕ) → has_word r ≡ true → is_some (word_for dialect rules r) ≡ true
some_word dialect rules r h = kind_or (is_type_start dialect rules r) _ _ (kind_or (is_value_start dialect rules r) _ _ (kind_or (is_start rules NAMES.now r) _ _ (own_some r h)))

-- of a choice that is some word, its test or the other choice
chosen : (b : Bool) (w : Word) (o : Option Word) → is_some (cond b (Some w) o) ≡ true → (b ≡ true) ⊎ (is_some o ≡ true)
chosen true w o h = inl refl
chosen false w o h = inr h

moved : (r n : ℕ) → eqb r n ≡ true → has_word n ≡ true → has_word r ≡ true
moved r n e h = subst (λ k. has_word k ≡ true) (sym (eqb-true r n e)) h

among : (starts : List ℕ) (r : ℕ) → list_all has_word starts ≡ true → has starts r ≡ true → has_word r ≡ true
among [] r h e = cc
among (x ∷ xs) r h e = elim (one_of (eqb x r) (has xs r) e) [
  | inl q ↦ subst (λ k. has_word k ≡ true) (eqb-true x r q) (both _ _ h).0
  | inr q ↦ among xs r (both _ _ h).1 q
]

started : (rules starts : List ℕ) (r : ℕ) → list_all has_word starts ≡ true → is_start rules starts r ≡ true → has_word r ≡ true
started rules starts r h e = among starts r h (both _ _ e).0

by_row : (row : Row) → is_some (row_word row) ≡ true → may_fail row ≡ true
by_row (Bytes b) h = refl
by_row (OneOf c) h = refl
by_row (NotNext c) h = cc
by_row (Past b) h = cc
by_row (Run c) h = cc
by_row (Seq p) h = cc
by_row (First p) h = cc
by_row (Opt x) h = cc
by_row (Many x) h = cc
by_row (ListOf x t) h = cc
by_row (List1 x t) h = cc
by_row (Tail x s) h = cc
by_row (If p k y) h = cc

said : (out fails : Bool) (o p : Option Word) → is_some (cond out None (option_or o p)) ≡ true → (is_some o ≡ true → fails ≡ true) → (is_some p ≡ true → fails ≡ true)
    → not out && fails ≡ true
said true fails o p h f g = cc
said false fails None p h f g = g h
said false fails (Some w) p h f g = f refl

fails : (r : ℕ) → has_word r ≡ true → may_fail (row_of r) ≡ true
fails r h = (both _ _ h).1

named_fails : (r : ℕ) → is_some (named_word r) ≡ true → may_fail (row_of r) ≡ true
named_fails r h = fails r (elim (chosen (eqb r NOT_NEXT_NAME) _ _ h) [
  | inl e ↦ moved r NOT_NEXT_NAME e refl
  | inr h ↦ elim (chosen (eqb r NOT_NEXT_SLASH) _ _ h) [
    | inl e ↦ moved r NOT_NEXT_SLASH e refl
    | inr h ↦ elim (chosen (eqb r NOT_NEXT_ANY) _ _ h) [
      | inl e ↦ moved r NOT_NEXT_ANY e refl
      | inr h ↦ elim (chosen (eqb r PAST_STAR_SLASH) _ _ h) [
        | inl e ↦ moved r PAST_STAR_SLASH e refl
        | inr h ↦ elim (chosen (eqb r PAST_LF) _ _ h) [ inl e ↦ moved r PAST_LF e refl | inr h ↦ cc ]
      ]
    ]
  ]
])

own_said : (r : ℕ) → is_some (own_word r) ≡ true → has_word r ≡ true
own_said r h = said (is_left_out r) (may_fail (row_of r)) (named_word r) (row_word (row_of r)) h (named_fails r) (by_row (row_of r))

type_said : (dialect : Dialect) (rules : List ℕ) (r : ℕ) → is_type_start dialect rules r ≡ true → has_word r ≡ true
type_said Weedle2 rules r h = elim (one_of (is_start rules TYPES.now r) _ h) [
  | inl e ↦ started rules TYPES.now r refl e
  | inr h ↦ elim (one_of (is_start rules TYPES_BUT_ANY.now r) _ h) [
    | inl e ↦ started rules TYPES_BUT_ANY.now r refl e
    | inr e ↦ started rules CONST_TYPES.now r refl e
  ]
]
type_said Today rules r h = elim (one_of (is_start rules TODAY_TYPES.now r) _ h) [
  | inl e ↦ started rules TODAY_TYPES.now r refl e
  | inr h ↦ elim (one_of (is_start rules TODAY_TYPES_BUT_ANY.now r) _ h) [
    | inl e ↦ started rules TODAY_TYPES_BUT_ANY.now r refl e
    | inr e ↦ started rules TODAY_CONST_TYPES.now r refl e
  ]
]

value_said : (dialect : Dialect) (rules : List ℕ) (r : ℕ) → is_value_start dialect rules r ≡ true → has_word r ≡ true
value_said Weedle2 rules r h = elim (one_of (is_start rules DEFAULT_VALUES.now r) _ h) [
  | inl e ↦ started rules DEFAULT_VALUES.now r refl e
  | inr e ↦ started rules CONST_VALUES.now r refl e
]
value_said Today rules r h = elim (one_of (is_start rules TODAY_DEFAULT_VALUES.now r) _ h) [
  | inl e ↦ started rules TODAY_DEFAULT_VALUES.now r refl e
  | inr e ↦ started rules CONST_VALUES.now r refl e
]

-- what has a word may fail, and isn't left out
pub word_said : (dialect : Dialect) (rules : List ℕ) (r : ℕ) → is_some (word_for dialect rules r) ≡ true → has_word r ≡ true
word_said dialect rules r h = elim (chosen (is_type_start dialect rules r) _ _ h) [
  | inl e ↦ type_said dialect rules r e
  | inr h ↦ elim (chosen (is_value_start dialect rules r) _ _ h) [
    | inl e ↦ value_said dialect rules r e
    | inr h ↦ elim (chosen (is_start rules NAMES.now r) _ _ h) [ inl e ↦ started rules NAMES.now r refl e | inr h ↦ own_said r h ]
  ]
]

low : (b : List ℕ) → are_ascii b ≡ true → (i : ℕ) → get_or b i 0 < 128
low [] h i = omega arith
low (x ∷ xs) h zero = ltb-true x 128 (both _ _ h).0
low (x ∷ xs) h (suc i) = low xs (both _ _ h).1 i

ascii : (row : Row) (b : List ℕ) → row ≡ Bytes b → is_safe row ≡ true → are_ascii b ≡ true
ascii row b e h = subst (λ z. is_safe z ≡ true) e h

-- the bytes of a row are a text
pub is_text : (r : ℕ) (b : List ℕ) → row_of r ≡ Bytes b → IsUtf8 b
is_text r b e = IsUtf8-from_ascii b (low b (ascii (row_of r) b e (safe r)))

-- the bytes that the program has for a rule are a text
pub bytes_are_text : (row : rows.Row) (r : ℕ) (b : Bor (List ℕ)) → row_view row ≡ row_of r → row ≡ code.Bytes b → IsUtf8 b.now
bytes_are_text row r b e is = is_text r b.now (sym e ∙ ap row_view is)

-- a row that is neither bytes nor a class has no word
pub wordless : (row : rows.Row) (v : Row) → row_view row ≡ v → ((b : Bor (List ℕ)) → row ≡ code.Bytes b → ⊥) → ((c : Class) → row ≡ code.OneOf c → ⊥)
    → row_word v ≡ None
wordless (code.Bytes b) v e f g = absurd (f b refl)
wordless (code.OneOf c) v e f g = absurd (g c refl)
wordless (code.NotNext c) v e f g = subst (λ z. row_word z ≡ None) e refl
wordless (code.Run c) v e f g = subst (λ z. row_word z ≡ None) e refl
wordless (code.Past b) v e f g = subst (λ z. row_word z ≡ None) e refl
wordless (code.Seq p) v e f g = subst (λ z. row_word z ≡ None) e refl
wordless (code.First p) v e f g = subst (λ z. row_word z ≡ None) e refl
wordless (code.Opt x) v e f g = subst (λ z. row_word z ≡ None) e refl
wordless (code.Many x) v e f g = subst (λ z. row_word z ≡ None) e refl
wordless (code.List x t) v e f g = subst (λ z. row_word z ≡ None) e refl
wordless (code.List1 x t) v e f g = subst (λ z. row_word z ≡ None) e refl
wordless (code.Tail x s) v e f g = subst (λ z. row_word z ≡ None) e refl
wordless (code.If p k x) v e f g = subst (λ z. row_word z ≡ None) e refl

-- a rule that isn't left out, has no name and whose row has no word has none
pub own_none : (r n : ℕ) → n ≡ r → false ≡ is_left_out n → None ≡ named_word n → row_word (row_of r) ≡ None → None ≡ own_word r
own_none r n e left named row = subst (λ k. None ≡ own_word k) e (sym (rw (← left, ← named) (ap row_word (ap row_of e) ∙ row)))
