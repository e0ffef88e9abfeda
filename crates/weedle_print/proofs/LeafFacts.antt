-- Names, numbers and strings: what is read has its form, and what is put there does.
use Rattle.std.proofs.Common.{◌≡◌, inl, inr, List, [], ◌∷◌, ℕ, length, take, codes, None, refl, sym, ap, ◌∙◌, subst, append-nil, arith}
use Rattle.std.proofs.lemmas.List.{take_all}
use Rattle.memchr.specs.Find.{IsFirstByte, is_byte}
use Rattle.weedle_grammar.proofs.FindFacts.{run_whole}
use Rattle.weedle_base.specs.Own.{own}
use Rattle.weedle_base.specs.Reading.{Got}
use Rattle.weedle_grammar.specs.Rows.{run_length}
use Rattle.weedle_grammar.specs.declared.class.Class.TheVariants.{Blank, NotQuote}
use Rattle.weedle_grammar.specs.written.Table.Leaves.{IDENTIFIER, DEC_LIT, HEX_LIT, OCT_LIT, FLOAT_VALUE_LIT}
use Rattle.weedle_parts.specs.LiteralTrees.{dec_tree, hex_tree, oct_tree, float_value_tree}
use Rattle.weedle_parts.specs.declared.literal.float.FloatValueLit.{FloatValueLit}
use Rattle.weedle_parts.specs.declared.literal.integer.DecLit.{DecLit}
use Rattle.weedle_parts.specs.declared.literal.integer.HexLit.{HexLit}
use Rattle.weedle_parts.specs.declared.literal.integer.OctLit.{OctLit}
use Rattle.weedle_parts.specs.ValueTrees.{identifier_tree}
use Rattle.weedle_parts.specs.declared.common.identifier.Identifier.{Identifier}
use Rattle.weedle_print.proofs.AddsFacts.{adds_as, adds_then, adds_trivia, adds_no_trivia}
use Rattle.weedle_print.specs.Adds.{Adds}
use Rattle.weedle_spell.proofs.LeafLaws.{identifier_law, dec_law, hex_law, oct_law, float_value_law}
use Rattle.weedle_spell.proofs.RowBytes.{run_form}
use Rattle.weedle_spell.specs.Forms.{Form, exactly, perhaps, that, any}
use Rattle.weedle_spell.specs.Tokens.{word, name, named, number, quoted, decimal, hexadecimal, octal, floating}

name_kept : (text s : List ℕ) → named text s → name text
name_kept text s h = let kept = h.of_rest.of_rest.of_first in subst name kept.0 kept.1

number_kept : (A : Form) (text s : List ℕ) → number text A s → A text
number_kept A text s h = let kept = h.of_rest.of_first in subst A kept.0 kept.1

-- a text that is read whole as a name is one
pub name_is : {s rest : List ℕ} {v : Identifier} → Got (own IDENTIFIER identifier_tree ⊥) s v rest → v.0.now ≡ s → name s
unfolding own
name_is {s} {rest} {v} g e = subst name e (elim (identifier_law.spells v s 0 g.place g.gives) [
  | inl h ↦ name_kept v.0.now _ h
  | inr h ↦ name_kept v.0.now _ h
])

-- and so are numbers
pub decimal_is : {s rest : List ℕ} {v : DecLit} → Got (own DEC_LIT dec_tree ⊥) s v rest → v.0.now ≡ s → decimal s
unfolding own
decimal_is {s} {rest} {v} g e = subst decimal e (elim (dec_law.spells v s 0 g.place g.gives) [
  | inl h ↦ number_kept decimal v.0.now _ h
  | inr h ↦ number_kept decimal v.0.now _ h
])

pub hexadecimal_is : {s rest : List ℕ} {v : HexLit} → Got (own HEX_LIT hex_tree ⊥) s v rest → v.0.now ≡ s → hexadecimal s
unfolding own
hexadecimal_is {s} {rest} {v} g e = subst hexadecimal e (elim (hex_law.spells v s 0 g.place g.gives) [
  | inl h ↦ number_kept hexadecimal v.0.now _ h
  | inr h ↦ number_kept hexadecimal v.0.now _ h
])

pub octal_is : {s rest : List ℕ} {v : OctLit} → Got (own OCT_LIT oct_tree ⊥) s v rest → v.0.now ≡ s → octal s
unfolding own
octal_is {s} {rest} {v} g e = subst octal e (elim (oct_law.spells v s 0 g.place g.gives) [
  | inl h ↦ number_kept octal v.0.now _ h
  | inr h ↦ number_kept octal v.0.now _ h
])

pub floating_is : {s rest : List ℕ} {v : FloatValueLit} → Got (own FLOAT_VALUE_LIT float_value_tree ⊥) s v rest → v.0.now ≡ s → floating s
unfolding own
floating_is {s} {rest} {v} g e = subst floating e (elim (float_value_law.spells v s 0 g.place g.gives) [
  | inl h ↦ number_kept floating v.0.now _ h
  | inr h ↦ number_kept floating v.0.now _ h
])

-- a text without a quote
pub no_quote : (s : List ℕ) → IsFirstByte (is_byte 34) s None → any NotQuote s
no_quote s p =
    let whole : length s ≡ run_length NotQuote s = run_whole NotQuote 34 (λ b. refl) s p in
    subst (any NotQuote) (ap (λ (n : ℕ). take n s) (sym whole) ∙ take_all (length s) s (omega arith)) (run_form NotQuote s)

-- an underscore, or none
pub adds_underscore : {x y : List ℕ} → Adds (exactly (codes "_")) x y → Adds (perhaps (exactly (codes "_"))) x y
adds_underscore a = adds_as (λ s h. inl h) a

pub adds_no_underscore : {x : List ℕ} → Adds (perhaps (exactly (codes "_"))) x x
adds_no_underscore {x} = record { added = []; is = sym (append-nil x); of = inr refl }

pub ruleset perhaps_steps = (adds_underscore, adds_no_underscore)

-- a name
pub adds_name : {a b c d t : List ℕ} → name t → Adds (any Blank) a b → Adds (perhaps (exactly (codes "_"))) b c → Adds (exactly t) c d → Adds (named t) a d
adds_name {t = t} h blank underscore text =
    let kept : Adds (that t name) _ _ = adds_as (λ s e. (e, subst name (sym e) h)) text in
    adds_then (adds_trivia blank) (adds_then underscore (adds_then kept adds_no_trivia))

as_number : (A : Form) (t : List ℕ) → A t → (s : List ℕ) → word t s → number t A s
as_number A t h s w = record {
  first = w.first;
  rest = w.rest;
  is = w.is;
  of_first = w.of_first;
  of_rest = record {
    first = w.of_rest.first;
    rest = w.of_rest.rest;
    is = w.of_rest.is;
    of_first = (w.of_rest.of_first, subst A (sym w.of_rest.of_first) h);
    of_rest = w.of_rest.of_rest;
  };
}

module _ {x y t : List ℕ} where
  -- numbers
  pub adds_decimal : decimal t → Adds (word t) x y → Adds (number t decimal) x y
  adds_decimal h w = adds_as (as_number decimal t h) w

  pub adds_hexadecimal : hexadecimal t → Adds (word t) x y → Adds (number t hexadecimal) x y
  adds_hexadecimal h w = adds_as (as_number hexadecimal t h) w

  pub adds_octal : octal t → Adds (word t) x y → Adds (number t octal) x y
  adds_octal h w = adds_as (as_number octal t h) w

  pub adds_floating : floating t → Adds (word t) x y → Adds (number t floating) x y
  adds_floating h w = adds_as (as_number floating t h) w

pub ruleset adds_number = (adds_decimal, adds_hexadecimal, adds_octal, adds_floating)

-- a text in quotes
pub adds_string : {a b c d e t : List ℕ} → any NotQuote t → Adds (any Blank) a b → Adds (exactly (34 ∷ [])) b c → Adds (exactly t) c d → Adds (exactly (34 ∷ [])) d e → Adds (quoted t) a e
adds_string {t = t} h blank first text last =
    let kept : Adds (that t (any NotQuote)) _ _ = adds_as (λ s e. (e, subst (any NotQuote) (sym e) h)) text in
    adds_then (adds_trivia blank) (adds_then first (adds_then kept (adds_then last adds_no_trivia)))
