-- How the generic parts are rendered: brackets, a type that may be null, lists with separators.
use Rattle.std.specs.Prelude.{codes}
use Rattle.weedle_parts.specs.declared.common.brackets.Braced.{Braced}
use Rattle.weedle_parts.specs.declared.common.brackets.Bracketed.{Bracketed}
use Rattle.weedle_parts.specs.declared.common.brackets.Generics.{Generics}
use Rattle.weedle_parts.specs.declared.common.brackets.Parenthesized.{Parenthesized}
use Rattle.weedle_parts.specs.declared.common.punctuated.Punctuated.{Punctuated}
use Rattle.weedle_parts.specs.declared.common.punctuated.PunctuatedNonEmpty.{PunctuatedNonEmpty}
use Rattle.weedle_parts.specs.declared.types.may_be_null.MayBeNull.{MayBeNull}
use Rattle.weedle_spell.specs.Forms.{Form, ◌then◌, optional, separated_by, separated_non_empty}
use Rattle.weedle_spell.specs.Leaves.{terminal}

module _ {T : Type 0} (spelling : T → Form) where
  -- a body in parentheses
  abbrev pub parenthesized_spelling : Parenthesized T → Form
  parenthesized_spelling v = terminal (codes "(") v.open_paren then spelling v.body then terminal (codes ")") v.close_paren

  -- a body in square brackets
  abbrev pub bracketed_spelling : Bracketed T → Form
  bracketed_spelling v = terminal (codes "[") v.open_bracket then spelling v.body then terminal (codes "]") v.close_bracket

  -- a body in braces
  abbrev pub braced_spelling : Braced T → Form
  braced_spelling v = terminal (codes "{") v.open_brace then spelling v.body then terminal (codes "}") v.close_brace

  -- a body in angle brackets
  abbrev pub generics_spelling : Generics T → Form
  generics_spelling v = terminal (codes "<") v.open_angle then spelling v.body then terminal (codes ">") v.close_angle

  -- a type, and the mark where it may be null
  abbrev pub may_be_null_spelling : MayBeNull T → Form
  may_be_null_spelling v = spelling v.type_ then optional (terminal (codes "?")) v.q_mark

  module _ {S : Type 0} (separator : Form) where
    -- a list, with a separator between each two items
    abbrev pub punctuated_spelling : Punctuated T S → Form
    punctuated_spelling v = separated_by spelling separator v.list.items

    -- a list that isn't empty, with one further separator allowed at its end
    abbrev pub punctuated_non_empty_spelling : PunctuatedNonEmpty T S → Form
    punctuated_non_empty_spelling v = separated_non_empty spelling separator v.list.items
