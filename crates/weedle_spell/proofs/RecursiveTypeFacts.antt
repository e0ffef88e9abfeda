-- What types, arguments and extended attributes take, which hold one another: by cases on the
-- value, as their trees and renderings are.
use Rattle.std.proofs.Common.{◌≡◌, ℕ, List, [], ◌∷◌, map, codes, Option, Some, None, true, false, refl, ap}
use Rattle.weedle_base.specs.Rules.{mark_tree, option_tree}
use Rattle.weedle_base.specs.declared.term.written.symbols.QMark.{QMark}
use Rattle.weedle_base.specs.declared.term.written.type_keywords.Optional.{Optional}
use Rattle.weedle_parts.specs.LiteralTrees.{default_tree}
use Rattle.weedle_parts.specs.declared.literal.default.Default.{Default}
use Rattle.weedle_grammar.specs.Meaning.{Marked, Plain}
use Rattle.weedle_grammar.specs.Rows.{Seq, Bytes}
use Rattle.weedle_grammar.specs.written.Table.{row_of, shape_of}
use Rattle.weedle_grammar.specs.written.Table.Keywords.{NOT_NEXT_NAME}
use Rattle.weedle_grammar.specs.written.Table.SimpleTypes.{OPT_Q_MARK}
use Rattle.weedle_grammar.specs.written.Table.Trivia.{TRIVIA}
use Rattle.weedle_grammar.specs.written.Table.Types.{TYPE, NON_ANY_TYPE, UNION_MEMBER_TYPE, LIST_UNION_MEMBER_TYPE_OR, RETURN_TYPE, RECORD_KEY_TYPE, SINGLE_TYPE, ARGUMENT, ARGUMENT_LIST, EXTENDED_ATTRIBUTE, LIST_EXTENDED_ATTRIBUTE_COMMA, OPT_EXTENDED_ATTRIBUTE_LIST, OPT_DEFAULT}
use Rattle.weedle_grammar.specs.Trees.{Trees, Then, Mark, Node, Items, Absent, trees}
use Rattle.weedle_types.specs.Trees.{argument_tree, non_any_type_tree, type_tree, union_member_type_tree, held_return, held_key, held_single, held_attributes, extended_attribute_tree, attribute_row, argument_row, union_row}
use Rattle.weedle_types.specs.declared.argument.Argument.TheBlock.{items-the_row-Argument, items-the_row-UnionMemberType, items-the_row-ExtendedAttribute, Undefined', Type_', RecordTypes-0-4-Byte', DOM', USV', RecordTypes-0-4-NonAny', Any', Type-Single-0-NonAny', None', Some', Row_of-Argument, end_of-Argument, more_of-Argument, Row_of-UnionMemberType, end_of-UnionMemberType, more_of-UnionMemberType, Row_of-ExtendedAttribute, end_of-ExtendedAttribute, more_of-ExtendedAttribute}
use Rattle.weedle_types.specs.declared.argument.Argument.TheVariants.{Single' as Argument-Single', Variadic' as Argument-Variadic'}
use Rattle.weedle_types.specs.declared.attribute.ExtendedAttribute.TheVariants.{ArgList', NamedArgList', IdentList, Ident, NoArgs}
use Rattle.weedle_types.specs.declared.types.NonAnyType.TheVariants.{Promise' as NonAnyType-Promise', Integer as NonAnyType-Integer, FloatingPoint as NonAnyType-FloatingPoint, Boolean as NonAnyType-Boolean, Byte as NonAnyType-Byte, Octet as NonAnyType-Octet, ByteString as NonAnyType-ByteString, DOMString as NonAnyType-DOMString, USVString as NonAnyType-USVString, Sequence' as NonAnyType-Sequence', Object as NonAnyType-Object, Symbol as NonAnyType-Symbol, Error as NonAnyType-Error, ArrayBuffer as NonAnyType-ArrayBuffer, DataView as NonAnyType-DataView, Int8Array as NonAnyType-Int8Array, Int16Array as NonAnyType-Int16Array, Int32Array as NonAnyType-Int32Array, Uint8Array as NonAnyType-Uint8Array, Uint16Array as NonAnyType-Uint16Array, Uint32Array as NonAnyType-Uint32Array, Uint8ClampedArray as NonAnyType-Uint8ClampedArray, Float32Array as NonAnyType-Float32Array, Float64Array as NonAnyType-Float64Array, ArrayBufferView as NonAnyType-ArrayBufferView, BufferSource as NonAnyType-BufferSource, FrozenArrayType' as NonAnyType-FrozenArrayType', RecordType' as NonAnyType-RecordType', Identifier as NonAnyType-Identifier}
use Rattle.weedle_types.specs.declared.types.UnionMemberType.TheVariants.{Single' as UnionMemberType-Single', Union' as UnionMemberType-Union'}
use Rattle.weedle_types.specs.declared.types.«Type».TheVariants.{Single' as Type-Single', Union' as Type-Union'}
use Rattle.weedle_spell.specs.Forms.{Form, ◌then◌, optional, separated_by, each_behind}
use Rattle.weedle_spell.specs.Leaves.{terminal}
use Rattle.weedle_spell.specs.RecursiveTypes.{default_where_optional, argument_spelling, non_any_type_spelling, type_spelling, union_member_type_spelling, held_return_spelling, held_key_spelling, held_single_spelling, held_attributes_spelling, extended_attribute_spelling, attribute_row_spelling, more_attributes_spelling, argument_row_spelling, more_arguments_spelling, union_row_spelling, more_members_spelling}
use Rattle.weedle_spell.specs.Tokens.{word}
use Rattle.weedle_spell.proofs.Conditional.{if_spelt, present_at}
use Rattle.weedle_spell.proofs.LeafLaws.{identifier}
use Rattle.weedle_spell.proofs.LiteralLaws.{default}
use Rattle.weedle_spell.proofs.PartFacts.{parenthesized, bracketed, generics, may_be_null}
use Rattle.weedle_spell.proofs.written.PlainAttributeLaws.{extended_attribute_ident, extended_attribute_ident_list, extended_attribute_no_args}
use Rattle.weedle_spell.proofs.SimpleTypeLaws.{integer_type, floating_point_type}
use Rattle.weedle_spell.proofs.Spelt.{Spelt, IsSpelt, part, last, node, alternative, option_spelt, absent_spelt, present_spelt}
use Rattle.weedle_spell.proofs.SpeltLists.{AllSpelt, all_none, all_more, list_spelt}
use Rattle.weedle_spell.proofs.TriviaFacts.{symbol, symbol_always, keyword, keyword_always}

-- extended attributes, as a list
attribute_row_is : {m : _} (r : Row_of-ExtendedAttribute m) → attribute_row r ≡ trees (map extended_attribute_tree (items-the_row-ExtendedAttribute _ r))
attribute_row_is end_of-ExtendedAttribute = refl
attribute_row_is (more_of-ExtendedAttribute v r) = ap (λ (x : Trees). Then (extended_attribute_tree v) x) (attribute_row_is r)

more_attributes_is : {m : _} (r : Row_of-ExtendedAttribute m) → more_attributes_spelling r ≡ each_behind extended_attribute_spelling (word (codes ",")) (items-the_row-ExtendedAttribute _ r)
more_attributes_is end_of-ExtendedAttribute = refl
more_attributes_is (more_of-ExtendedAttribute v r) = ap (λ (X : Form). word (codes ",") then extended_attribute_spelling v then X) (more_attributes_is r)

pub attribute_row_spelling_is : {m : _} (r : Row_of-ExtendedAttribute m) → attribute_row_spelling r ≡ separated_by extended_attribute_spelling (word (codes ",")) (items-the_row-ExtendedAttribute _ r)
attribute_row_spelling_is end_of-ExtendedAttribute = refl
attribute_row_spelling_is (more_of-ExtendedAttribute v r) = ap (λ (X : Form). extended_attribute_spelling v then X) (more_attributes_is r)

attributes_spelt : {m : _} (r : Row_of-ExtendedAttribute m) → AllSpelt (Unit {0}) EXTENDED_ATTRIBUTE extended_attribute_tree extended_attribute_spelling (items-the_row-ExtendedAttribute _ r) → Spelt (Unit {0}) LIST_EXTENDED_ATTRIBUTE_COMMA (Items (attribute_row r)) (attribute_row_spelling r)
attributes_spelt r all = rw (attribute_row_is r, attribute_row_spelling_is r) (list_spelt extended_attribute_tree extended_attribute_spelling refl refl refl (symbol_always refl refl) refl refl (items-the_row-ExtendedAttribute _ r) all)

-- arguments, as a list
argument_row_is : {m : _} (r : Row_of-Argument m) → argument_row r ≡ trees (map argument_tree (items-the_row-Argument _ r))
argument_row_is end_of-Argument = refl
argument_row_is (more_of-Argument v r) = ap (λ (x : Trees). Then (argument_tree v) x) (argument_row_is r)

more_arguments_is : {m : _} (r : Row_of-Argument m) → more_arguments_spelling r ≡ each_behind argument_spelling (word (codes ",")) (items-the_row-Argument _ r)
more_arguments_is end_of-Argument = refl
more_arguments_is (more_of-Argument v r) = ap (λ (X : Form). word (codes ",") then argument_spelling v then X) (more_arguments_is r)

pub argument_row_spelling_is : {m : _} (r : Row_of-Argument m) → argument_row_spelling r ≡ separated_by argument_spelling (word (codes ",")) (items-the_row-Argument _ r)
argument_row_spelling_is end_of-Argument = refl
argument_row_spelling_is (more_of-Argument v r) = ap (λ (X : Form). argument_spelling v then X) (more_arguments_is r)

arguments_spelt : {m : _} (r : Row_of-Argument m) → AllSpelt (Unit {0}) ARGUMENT argument_tree argument_spelling (items-the_row-Argument _ r) → Spelt (Unit {0}) ARGUMENT_LIST (Items (argument_row r)) (argument_row_spelling r)
arguments_spelt r all = rw (argument_row_is r, argument_row_spelling_is r) (list_spelt argument_tree argument_spelling refl refl refl (symbol_always refl refl) refl refl (items-the_row-Argument _ r) all)

-- members of a union, as a list
union_row_is : {m : _} (r : Row_of-UnionMemberType m) → union_row r ≡ trees (map union_member_type_tree (items-the_row-UnionMemberType _ r))
union_row_is end_of-UnionMemberType = refl
union_row_is (more_of-UnionMemberType v r) = ap (λ (x : Trees). Then (union_member_type_tree v) x) (union_row_is r)

more_members_is : {m : _} (r : Row_of-UnionMemberType m) → more_members_spelling r ≡ each_behind union_member_type_spelling (word (codes "or")) (items-the_row-UnionMemberType _ r)
more_members_is end_of-UnionMemberType = refl
more_members_is (more_of-UnionMemberType v r) = ap (λ (X : Form). word (codes "or") then union_member_type_spelling v then X) (more_members_is r)

pub union_row_spelling_is : {m : _} (r : Row_of-UnionMemberType m) → union_row_spelling r ≡ separated_by union_member_type_spelling (word (codes "or")) (items-the_row-UnionMemberType _ r)
union_row_spelling_is end_of-UnionMemberType = refl
union_row_spelling_is (more_of-UnionMemberType v r) = ap (λ (X : Form). union_member_type_spelling v then X) (more_members_is r)

members_spelt : {m : _} (r : Row_of-UnionMemberType m) → AllSpelt (Unit {0}) UNION_MEMBER_TYPE union_member_type_tree union_member_type_spelling (items-the_row-UnionMemberType _ r) → Spelt (Unit {0}) LIST_UNION_MEMBER_TYPE_OR (Items (union_row r)) (union_row_spelling r)
members_spelt r all = rw (union_row_is r, union_row_spelling_is r) (list_spelt union_member_type_tree union_member_type_spelling refl refl refl (keyword_always refl refl) refl refl (items-the_row-UnionMemberType _ r) all)

-- a word, and the mark where it may be null
null_word : {r k x : ℕ} {b : List ℕ} → row_of k ≡ Seq (TRIVIA ∷ x ∷ NOT_NEXT_NAME ∷ TRIVIA ∷ []) → shape_of k ≡ Marked → row_of x ≡ Bytes b
    → row_of r ≡ Seq (k ∷ OPT_Q_MARK ∷ []) → shape_of r ≡ Plain → (q : Option QMark)
    → Spelt (Unit {0}) r (Node (trees (Mark ∷ option_tree mark_tree q ∷ []))) (word b then optional (terminal (codes "?")) q)
null_word rowk shapek bytes row shape q = may_be_null (keyword rowk shapek bytes) row shape refl refl q

-- where `optional` is absent, so is the default
pub default_absent : (o : Option Optional) (d : Option Default) → present_at 1 (Mark ∷ option_tree mark_tree o ∷ []) ≡ false → option_tree default_tree d ≡ Absent → default_where_optional o d []
default_absent None None a e = refl
default_absent None (Some d) a e = cc
default_absent (Some o) d a e = cc

-- where it is, a default may
pub default_present : (o : Option Optional) (d : Option Default) → present_at 1 (Mark ∷ option_tree mark_tree o ∷ []) ≡ true
    → Spelt (Unit {0}) OPT_DEFAULT (option_tree default_tree d) (default_where_optional o d)
default_present None d a = cc
default_present (Some o) d a = option_spelt refl refl refl default d

mutual
  pub argument : IsSpelt ARGUMENT argument_tree argument_spelling
  argument (Argument-Single' a o h t i d) =
      alternative 0 refl refl refl (if_spelt refl refl
      (part (held_attributes_spelt a) (part (option_spelt refl refl refl (λ o. keyword refl refl refl) o)
      (part (node refl refl (part (held_attributes_spelt h) (last (type_ t)))) (last (identifier i)))))
      (default_absent o d) (default_present o d) refl refl)
  argument (Argument-Variadic' a t e i) =
      alternative 1 refl refl refl (node refl refl (part (held_attributes_spelt a) (part (type_ t) (part (symbol refl refl refl) (last (identifier i))))))

  pub non_any_type : IsSpelt NON_ANY_TYPE non_any_type_tree non_any_type_spelling
  non_any_type (NonAnyType-Promise' p l b t g) = alternative 0 refl refl refl (node refl refl (part (keyword refl refl refl) (last (generics (held_return_spelt t) refl refl))))
  non_any_type (NonAnyType-Integer v) = alternative 1 refl refl refl (may_be_null (integer_type v.type_) refl refl refl refl v.q_mark)
  non_any_type (NonAnyType-FloatingPoint v) = alternative 2 refl refl refl (may_be_null (floating_point_type v.type_) refl refl refl refl v.q_mark)
  non_any_type (NonAnyType-Boolean v) = alternative 3 refl refl refl (null_word refl refl refl refl refl v.q_mark)
  non_any_type (NonAnyType-Byte v) = alternative 4 refl refl refl (null_word refl refl refl refl refl v.q_mark)
  non_any_type (NonAnyType-Octet v) = alternative 5 refl refl refl (null_word refl refl refl refl refl v.q_mark)
  non_any_type (NonAnyType-ByteString v) = alternative 6 refl refl refl (null_word refl refl refl refl refl v.q_mark)
  non_any_type (NonAnyType-DOMString v) = alternative 7 refl refl refl (null_word refl refl refl refl refl v.q_mark)
  non_any_type (NonAnyType-USVString v) = alternative 8 refl refl refl (null_word refl refl refl refl refl v.q_mark)
  non_any_type (NonAnyType-Sequence' s l b t g q) =
      alternative 9 refl refl refl (may_be_null (node refl refl (part (keyword refl refl refl) (last (generics (type_ t) refl refl)))) refl refl refl refl q)
  non_any_type (NonAnyType-Object v) = alternative 10 refl refl refl (null_word refl refl refl refl refl v.q_mark)
  non_any_type (NonAnyType-Symbol v) = alternative 11 refl refl refl (null_word refl refl refl refl refl v.q_mark)
  non_any_type (NonAnyType-Error v) = alternative 12 refl refl refl (null_word refl refl refl refl refl v.q_mark)
  non_any_type (NonAnyType-ArrayBuffer v) = alternative 13 refl refl refl (null_word refl refl refl refl refl v.q_mark)
  non_any_type (NonAnyType-DataView v) = alternative 14 refl refl refl (null_word refl refl refl refl refl v.q_mark)
  non_any_type (NonAnyType-Int8Array v) = alternative 15 refl refl refl (null_word refl refl refl refl refl v.q_mark)
  non_any_type (NonAnyType-Int16Array v) = alternative 16 refl refl refl (null_word refl refl refl refl refl v.q_mark)
  non_any_type (NonAnyType-Int32Array v) = alternative 17 refl refl refl (null_word refl refl refl refl refl v.q_mark)
  non_any_type (NonAnyType-Uint8Array v) = alternative 18 refl refl refl (null_word refl refl refl refl refl v.q_mark)
  non_any_type (NonAnyType-Uint16Array v) = alternative 19 refl refl refl (null_word refl refl refl refl refl v.q_mark)
  non_any_type (NonAnyType-Uint32Array v) = alternative 20 refl refl refl (null_word refl refl refl refl refl v.q_mark)
  non_any_type (NonAnyType-Uint8ClampedArray v) = alternative 21 refl refl refl (null_word refl refl refl refl refl v.q_mark)
  non_any_type (NonAnyType-Float32Array v) = alternative 22 refl refl refl (null_word refl refl refl refl refl v.q_mark)
  non_any_type (NonAnyType-Float64Array v) = alternative 23 refl refl refl (null_word refl refl refl refl refl v.q_mark)
  non_any_type (NonAnyType-ArrayBufferView v) = alternative 24 refl refl refl (null_word refl refl refl refl refl v.q_mark)
  non_any_type (NonAnyType-BufferSource v) = alternative 25 refl refl refl (null_word refl refl refl refl refl v.q_mark)
  non_any_type (NonAnyType-FrozenArrayType' s l b t g q) =
      alternative 26 refl refl refl (may_be_null (node refl refl (part (keyword refl refl refl) (last (generics (type_ t) refl refl)))) refl refl refl refl q)
  non_any_type (NonAnyType-RecordType' r l b k c d t g q) =
      alternative 27 refl refl refl (may_be_null (node refl refl (part (keyword refl refl refl)
      (last (generics (node refl refl (part (held_key_spelt k) (part (symbol refl refl refl) (last (type_ t))))) refl refl)))) refl refl refl refl q)
  non_any_type (NonAnyType-Identifier v) = alternative 28 refl refl refl (may_be_null (identifier v.type_) refl refl refl refl v.q_mark)

  pub type_ : IsSpelt TYPE type_tree type_spelling
  type_ (Type-Single' v) = alternative 0 refl refl refl (held_single_spelt v)
  type_ (Type-Union' o m r s c q) = alternative 1 refl refl refl (may_be_null (parenthesized (members_spelt r (all_members r)) refl refl) refl refl refl refl q)

  pub union_member_type : IsSpelt UNION_MEMBER_TYPE union_member_type_tree union_member_type_spelling
  union_member_type (UnionMemberType-Single' a t) = alternative 0 refl refl refl (node refl refl (part (held_attributes_spelt a) (last (non_any_type t))))
  union_member_type (UnionMemberType-Union' o m r s c q) =
      alternative 1 refl refl refl (may_be_null (parenthesized (members_spelt r (all_members r)) refl refl) refl refl refl refl q)

  held_return_spelt : IsSpelt RETURN_TYPE held_return held_return_spelling
  held_return_spelt (Undefined' v) = alternative 0 refl refl refl (keyword refl refl refl)
  held_return_spelt (Type_' v) = alternative 1 refl refl refl (type_ v)

  held_key_spelt : IsSpelt RECORD_KEY_TYPE held_key held_key_spelling
  held_key_spelt (RecordTypes-0-4-Byte' v) = alternative 0 refl refl refl (keyword refl refl refl)
  held_key_spelt (DOM' v) = alternative 1 refl refl refl (keyword refl refl refl)
  held_key_spelt (USV' v) = alternative 2 refl refl refl (keyword refl refl refl)
  held_key_spelt (RecordTypes-0-4-NonAny' v) = alternative 3 refl refl refl (non_any_type v)

  held_single_spelt : IsSpelt SINGLE_TYPE held_single held_single_spelling
  held_single_spelt (Any' v) = alternative 0 refl refl refl (keyword refl refl refl)
  held_single_spelt (Type-Single-0-NonAny' v) = alternative 1 refl refl refl (non_any_type v)

  held_attributes_spelt : IsSpelt OPT_EXTENDED_ATTRIBUTE_LIST held_attributes held_attributes_spelling
  held_attributes_spelt None' = absent_spelt refl refl refl
  held_attributes_spelt (Some' o m r s c) = present_spelt refl refl (bracketed (attributes_spelt r (all_attributes r)) refl refl)

  pub extended_attribute : IsSpelt EXTENDED_ATTRIBUTE extended_attribute_tree extended_attribute_spelling
  extended_attribute (ArgList' i o m r s c) =
      alternative 0 refl refl refl (node refl refl (part (identifier i) (last (parenthesized (arguments_spelt r (all_arguments r)) refl refl))))
  extended_attribute (NamedArgList' i e j o m r s c) =
      alternative 1 refl refl refl (node refl refl (part (identifier i) (part (symbol refl refl refl) (part (identifier j)
      (last (parenthesized (arguments_spelt r (all_arguments r)) refl refl))))))
  extended_attribute (IdentList v) = alternative 2 refl refl refl (extended_attribute_ident_list v)
  extended_attribute (Ident v) = alternative 3 refl refl refl (extended_attribute_ident v)
  extended_attribute (NoArgs v) = alternative 4 refl refl refl (extended_attribute_no_args v)

  all_attributes : {m : _} (r : Row_of-ExtendedAttribute m) → AllSpelt (Unit {0}) EXTENDED_ATTRIBUTE extended_attribute_tree extended_attribute_spelling (items-the_row-ExtendedAttribute _ r)
  all_attributes end_of-ExtendedAttribute = all_none
  all_attributes (more_of-ExtendedAttribute v r) = all_more (extended_attribute v) (all_attributes r)

  all_arguments : {m : _} (r : Row_of-Argument m) → AllSpelt (Unit {0}) ARGUMENT argument_tree argument_spelling (items-the_row-Argument _ r)
  all_arguments end_of-Argument = all_none
  all_arguments (more_of-Argument v r) = all_more (argument v) (all_arguments r)

  all_members : {m : _} (r : Row_of-UnionMemberType m) → AllSpelt (Unit {0}) UNION_MEMBER_TYPE union_member_type_tree union_member_type_spelling (items-the_row-UnionMemberType _ r)
  all_members end_of-UnionMemberType = all_none
  all_members (more_of-UnionMemberType v r) = all_more (union_member_type v) (all_members r)
