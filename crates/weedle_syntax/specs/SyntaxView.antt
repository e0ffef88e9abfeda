-- A `Syntax` as contracts see it.
use Rattle.std.specs.Prelude.{ℕ, List}
use Rattle.weedle_syntax.specs.declared.dialect.Dialect.{Dialect}
use Rattle.weedle_syntax.specs.declared.node.Node.{Node}

pub record SyntaxView : Type 0 where
  -- the bytes of the text
  pub text : List ℕ
  -- whose rules it is read by
  pub dialect : Dialect
  -- the nodes of what they read at its front
  pub nodes : List Node
