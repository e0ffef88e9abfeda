-- Values of an enum that are alike have the same tree.
use Rattle.std.proofs.Common.{ap}
use Rattle.std.specs.Prelude.{◌≡◌}
use Rattle.weedle_base.specs.Alike.{all_alike}
use Rattle.weedle_parts.specs.ValueTrees.{bracket_tree}
use Rattle.weedle_grammar.specs.Trees.{Items}
use Rattle.weedle_statements.specs.written.Trees.{EnumValues, enum_values_tree, enum_variant_tree}
use Rattle.weedle_types.proofs.CopyFacts.{items_alike}

-- the values of an enum
pub enum_values_alike : (a b : EnumValues) → all_alike (λ x y. enum_variant_tree x ≡ enum_variant_tree y) a.body.list.items b.body.list.items × (a.body.separator ≡ b.body.separator) → enum_values_tree a ≡ enum_values_tree b
enum_values_alike a b h = ap (λ ts. bracket_tree (Items ts)) (items_alike enum_variant_tree a.body.list.items b.body.list.items h.0)
