-- What names, numbers and strings take.
use Rattle.std.proofs.Common.{◌≡◌, ℕ, List, [], ◌∷◌, refl}
use Rattle.weedle_grammar.specs.Meaning.{Kept}
use Rattle.weedle_grammar.specs.Rows.{Seq}
use Rattle.weedle_grammar.specs.written.Table.{row_of, shape_of}
use Rattle.weedle_grammar.specs.written.Table.Leaves.{OPT_BYTES_MINUS, IDENTIFIER, DEC_LIT, HEX_LIT, OCT_LIT, DIGITS, EXPONENT, FLOAT_VALUE_LIT, FLOAT_VALUE_LIT_TEXT, POINT, STRING_LIT}
use Rattle.weedle_grammar.specs.written.Table.Trivia.{TRIVIA}
use Rattle.weedle_grammar.specs.Trees.{Text}
use Rattle.weedle_grammar.specs.declared.class.Class.TheVariants.{Digit}
use Rattle.weedle_spell.specs.Forms.{Form, some}
use Rattle.weedle_spell.specs.Tokens.{minus, decimal, hexadecimal, octal, exponent, with_point, floating, named, number, quoted}
use Rattle.weedle_spell.proofs.Always.{Always, bytes_always, one_always, run_always, always_last, always_part, seq_always, always_only, always_first, first_always, opt_always}
use Rattle.weedle_spell.proofs.Spelt.{Spelt, kept_here, kept_later, kept_spelt}
use Rattle.weedle_spell.proofs.TriviaFacts.{trivia_always}

-- a name
pub name_spelt : (text : List ℕ) → Spelt (Unit {0}) IDENTIFIER (Text text) (named text)
name_spelt text =
    kept_spelt refl refl (kept_later trivia_always (kept_later (opt_always refl (bytes_always refl))
    (kept_here (seq_always refl (always_part (one_always refl) (always_last (run_always refl)))) (always_last trivia_always))))

-- a number that a rule keeps
number_spelt : {r x : ℕ} {A : Form} → row_of r ≡ Seq (TRIVIA ∷ x ∷ TRIVIA ∷ []) → shape_of r ≡ Kept 1 → Always ⊥ x A → (text : List ℕ) → Spelt (Unit {0}) r (Text text) (number text A)
number_spelt row shape h text = kept_spelt row shape (kept_later trivia_always (kept_here h (always_last trivia_always)))

minus_always : {L : Type 0} → Always L OPT_BYTES_MINUS minus
minus_always = opt_always refl (bytes_always refl)

pub dec_spelt : (text : List ℕ) → Spelt (Unit {0}) DEC_LIT (Text text) (number text decimal)
dec_spelt = number_spelt refl refl (seq_always refl (always_part minus_always (always_part (one_always refl) (always_last (run_always refl)))))

pub oct_spelt : (text : List ℕ) → Spelt (Unit {0}) OCT_LIT (Text text) (number text octal)
oct_spelt = number_spelt refl refl (seq_always refl (always_part minus_always (always_part (bytes_always refl) (always_last (run_always refl)))))

-- one byte of a class and all that follow: in a sequence the two are one after the other
pub hex_spelt : (text : List ℕ) → Spelt (Unit {0}) HEX_LIT (Text text) (number text hexadecimal)
hex_spelt = number_spelt refl refl
    (seq_always refl (always_part minus_always (always_part (bytes_always refl) (always_part (one_always refl) (always_part (one_always refl) (always_last (run_always refl)))))))

digits_always : {L : Type 0} → Always L DIGITS (some Digit)
digits_always = seq_always refl (always_part (one_always refl) (always_last (run_always refl)))

exponent_always : {L : Type 0} → Always L EXPONENT exponent
exponent_always = seq_always refl (always_part (one_always refl) (always_part (opt_always refl (one_always refl)) (always_last digits_always)))

point_always : {L : Type 0} → Always L POINT with_point
point_always = first_always refl
    (always_first (seq_always refl (always_part digits_always (always_part (bytes_always refl) (always_last (run_always refl)))))
    (always_only (seq_always refl (always_part (run_always refl) (always_part (bytes_always refl) (always_last digits_always))))))

floating_always : {L : Type 0} → Always L FLOAT_VALUE_LIT_TEXT floating
floating_always = seq_always refl (always_part minus_always (always_last (first_always refl
    (always_first (seq_always refl (always_part point_always (always_last (opt_always refl exponent_always))))
    (always_only (seq_always refl (always_part digits_always (always_last exponent_always))))))))

pub float_spelt : (text : List ℕ) → Spelt (Unit {0}) FLOAT_VALUE_LIT (Text text) (number text floating)
float_spelt = number_spelt refl refl floating_always

-- a text in quotes
pub string_spelt : (text : List ℕ) → Spelt (Unit {0}) STRING_LIT (Text text) (quoted text)
string_spelt text =
    kept_spelt refl refl (kept_later trivia_always (kept_later (bytes_always refl)
    (kept_here (run_always refl) (always_part (bytes_always refl) (always_last trivia_always)))))
