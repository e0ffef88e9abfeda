-- A body between two brackets.
use Rattle.std.specs.Prelude.{ℕ}
use Rattle.weedle_base.specs.Generic.{pair_reading, seen_reading}
use Rattle.weedle_base.specs.Own.{own}
use Rattle.weedle_base.specs.Reading.{Reading}
use Rattle.weedle_base.specs.declared.term.written.symbols.CloseBrace.{CloseBrace}
use Rattle.weedle_base.specs.declared.term.written.symbols.CloseBracket.{CloseBracket}
use Rattle.weedle_base.specs.declared.term.written.symbols.CloseParen.{CloseParen}
use Rattle.weedle_base.specs.declared.term.written.symbols.GreaterThan.{GreaterThan}
use Rattle.weedle_base.specs.declared.term.written.symbols.LessThan.{LessThan}
use Rattle.weedle_base.specs.declared.term.written.symbols.OpenBrace.{OpenBrace}
use Rattle.weedle_base.specs.declared.term.written.symbols.OpenBracket.{OpenBracket}
use Rattle.weedle_base.specs.declared.term.written.symbols.OpenParen.{OpenParen}
use Rattle.weedle_parts.specs.declared.common.brackets.Parenthesized.{Parenthesized}
use Rattle.weedle_parts.specs.declared.common.brackets.Bracketed.{Bracketed}
use Rattle.weedle_parts.specs.declared.common.brackets.Braced.{Braced}
use Rattle.weedle_parts.specs.declared.common.brackets.Generics.{Generics}
use Rattle.weedle_grammar.specs.written.Table.Symbols.{OPEN_PAREN, CLOSE_PAREN, OPEN_BRACKET, CLOSE_BRACKET, OPEN_BRACE, CLOSE_BRACE, LESS_THAN, GREATER_THAN}
use Rattle.weedle_grammar.specs.Trees.{Mark}

-- Between brackets of the rules left and right, a body that R reads; `view` sees the whole as its three parts.
module _ {O C T B : Type 0} (left right : ℕ) (view : B → O × (T × C)) (R : Reading T) where
  -- the three parts, one after another
  abbrev pub bracket_parts : Reading (O × (T × C))
  bracket_parts = pair_reading (own left (λ v. Mark) ⊥) (pair_reading R (own right (λ v. Mark) ⊥))

  -- the three parts, one after another, seen as one value
  abbrev pub bracket_reading : Reading B
  bracket_reading = seen_reading view bracket_parts

-- the parts of a body in parentheses
abbrev pub parenthesized_view : {T : Type 0} → Parenthesized T → OpenParen × (T × CloseParen)
parenthesized_view v = (v.open_paren, (v.body, v.close_paren))

-- a body in parentheses
abbrev pub parenthesized_reading : {T : Type 0} → Reading T → Reading (Parenthesized T)
parenthesized_reading R = bracket_reading OPEN_PAREN CLOSE_PAREN parenthesized_view R

-- the parts of a body in square brackets
abbrev pub bracketed_view : {T : Type 0} → Bracketed T → OpenBracket × (T × CloseBracket)
bracketed_view v = (v.open_bracket, (v.body, v.close_bracket))

-- a body in square brackets
abbrev pub bracketed_reading : {T : Type 0} → Reading T → Reading (Bracketed T)
bracketed_reading R = bracket_reading OPEN_BRACKET CLOSE_BRACKET bracketed_view R

-- the parts of a body in braces
abbrev pub braced_view : {T : Type 0} → Braced T → OpenBrace × (T × CloseBrace)
braced_view v = (v.open_brace, (v.body, v.close_brace))

-- a body in braces
abbrev pub braced_reading : {T : Type 0} → Reading T → Reading (Braced T)
braced_reading R = bracket_reading OPEN_BRACE CLOSE_BRACE braced_view R

-- the parts of a body in angle brackets
abbrev pub generics_view : {T : Type 0} → Generics T → LessThan × (T × GreaterThan)
generics_view v = (v.open_angle, (v.body, v.close_angle))

-- a body in angle brackets
abbrev pub generics_reading : {T : Type 0} → Reading T → Reading (Generics T)
generics_reading R = bracket_reading LESS_THAN GREATER_THAN generics_view R
