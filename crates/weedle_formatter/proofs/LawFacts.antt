-- Texts that say the same.
use Rattle.std.proofs.Common.{◌≡◌, ℕ, List, [], ◌∷◌, length, sym, ◌∙◌, ap}
use Rattle.weedle_syntax.specs.declared.dialect.Dialect.{Dialect}
use Rattle.weedle_syntax.specs.declared.node.Node.{Node}
use Rattle.weedle_syntax.specs.Dialects.{start_of, IsSyntaxIn}
use Rattle.weedle_syntax.specs.Syntax.{node_to}
use Rattle.weedle_syntax.proofs.OneFacts.{one_forest}
use Rattle.weedle_formatter.specs.Words.{SaysTheSameIn, words_of}

module _ (d : Dialect) where
  -- a text has no more than one list of nodes
  one_syntax : (a : List ℕ) (ns ms : List Node) → IsSyntaxIn d a ns → IsSyntaxIn d a ms → ns ≡ ms
  one_syntax a ns ms n m = one_forest a (node_to (start_of d) (length a) ∷ []) ns ms n m

  pub all_nodes : (a b : List ℕ) (ns ms : List Node) → SaysTheSameIn d a b → IsSyntaxIn d a ns → IsSyntaxIn d b ms → words_of a ns ≡ words_of b ms
  all_nodes a b ns ms s n m = ap (words_of a) (one_syntax a ns s.raw_nodes n s.raw_is) ∙ s.same ∙ ap (words_of b) (one_syntax b s.out_nodes ms s.out_is m)

  pub turned : (a b : List ℕ) → SaysTheSameIn d a b → SaysTheSameIn d b a
  turned a b s =
      record { raw_whole = s.out_whole; out_whole = s.raw_whole; raw_nodes = s.out_nodes; out_nodes = s.raw_nodes; raw_is = s.out_is; out_is = s.raw_is; same = sym s.same }

  pub joined : (a b c : List ℕ) → SaysTheSameIn d a b → SaysTheSameIn d b c → SaysTheSameIn d a c
  joined a b c s t =
      record {
        raw_whole = s.raw_whole;
        out_whole = t.out_whole;
        raw_nodes = s.raw_nodes;
        out_nodes = t.out_nodes;
        raw_is = s.raw_is;
        out_is = t.out_is;
        same = s.same ∙ all_nodes b c s.out_nodes t.out_nodes t s.out_is t.out_is;
      }
