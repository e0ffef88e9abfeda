-- The names of the rules, as a syntax tree has them. Written by tools/grammar.py, and not edited by hand.
use Rattle.std.specs.Prelude.{ℕ, zero, suc, List, [], ◌∷◌, ◌++◌, codes}

-- Trivia: line comments, whitespace and block comments.
abbrev pub trivia : List (List ℕ)
trivia =
    codes "bytes_lf" ∷
    codes "not_next_any" ∷
    codes "line_end" ∷
    codes "bytes_slash_slash" ∷
    codes "not_next_slash" ∷
    codes "run_not_line_feed" ∷
    codes "line_comment" ∷
    codes "one_of_blank" ∷
    codes "run_blank" ∷
    codes "blanks" ∷
    codes "bytes_slash_star" ∷
    codes "past_star_slash" ∷
    codes "block_comment" ∷
    codes "piece" ∷
    codes "trivia" ∷
    []

-- Symbols: trivia, the symbol's bytes, trivia.
abbrev pub symbols : List (List ℕ)
symbols =
    codes "bytes_open_paren" ∷
    codes "open_paren" ∷
    codes "bytes_close_paren" ∷
    codes "close_paren" ∷
    codes "bytes_open_bracket" ∷
    codes "open_bracket" ∷
    codes "bytes_close_bracket" ∷
    codes "close_bracket" ∷
    codes "bytes_open_brace" ∷
    codes "open_brace" ∷
    codes "bytes_close_brace" ∷
    codes "close_brace" ∷
    codes "bytes_comma" ∷
    codes "comma" ∷
    codes "bytes_minus" ∷
    codes "minus" ∷
    codes "bytes_dot" ∷
    codes "dot" ∷
    codes "bytes_ellipsis" ∷
    codes "ellipsis" ∷
    codes "bytes_colon" ∷
    codes "colon" ∷
    codes "bytes_semi_colon" ∷
    codes "semi_colon" ∷
    codes "bytes_less_than" ∷
    codes "less_than" ∷
    codes "bytes_assign" ∷
    codes "assign" ∷
    codes "bytes_greater_than" ∷
    codes "greater_than" ∷
    codes "bytes_q_mark" ∷
    codes "q_mark" ∷
    []

-- Keywords in lower case: trivia, the keyword's bytes with no name character next, trivia.
abbrev pub keywords : List (List ℕ)
keywords =
    codes "bytes_or" ∷
    codes "not_next_name" ∷
    codes "or" ∷
    codes "bytes_optional" ∷
    codes "optional" ∷
    codes "bytes_async" ∷
    codes "async" ∷
    codes "bytes_attribute" ∷
    codes "attribute" ∷
    codes "bytes_callback" ∷
    codes "callback" ∷
    codes "bytes_const" ∷
    codes "const" ∷
    codes "bytes_deleter" ∷
    codes "deleter" ∷
    codes "bytes_dictionary" ∷
    codes "dictionary" ∷
    codes "bytes_enum" ∷
    codes "enum" ∷
    codes "bytes_getter" ∷
    codes "getter" ∷
    codes "bytes_includes" ∷
    codes "includes" ∷
    codes "bytes_inherit" ∷
    codes "inherit" ∷
    codes "bytes_interface" ∷
    codes "interface" ∷
    codes "bytes_iterable" ∷
    codes "iterable" ∷
    codes "bytes_maplike" ∷
    codes "maplike" ∷
    codes "bytes_namespace" ∷
    codes "namespace" ∷
    codes "bytes_partial" ∷
    codes "partial" ∷
    codes "bytes_required" ∷
    codes "required" ∷
    codes "bytes_setlike" ∷
    codes "setlike" ∷
    codes "bytes_setter" ∷
    codes "setter" ∷
    codes "bytes_static" ∷
    codes "static" ∷
    codes "bytes_stringifier" ∷
    codes "stringifier" ∷
    codes "bytes_typedef" ∷
    codes "typedef" ∷
    codes "bytes_unrestricted" ∷
    codes "unrestricted" ∷
    codes "bytes_symbol" ∷
    codes "symbol" ∷
    codes "bytes_any" ∷
    codes "any" ∷
    codes "bytes_boolean" ∷
    codes "boolean" ∷
    codes "bytes_byte" ∷
    codes "byte" ∷
    codes "bytes_double" ∷
    codes "double" ∷
    codes "bytes_false" ∷
    codes "false" ∷
    codes "bytes_float" ∷
    codes "float" ∷
    codes "bytes_long" ∷
    codes "long" ∷
    codes "bytes_null" ∷
    codes "null" ∷
    codes "bytes_object" ∷
    codes "object" ∷
    codes "bytes_octet" ∷
    codes "octet" ∷
    codes "bytes_sequence" ∷
    codes "sequence" ∷
    codes "bytes_short" ∷
    codes "short" ∷
    codes "bytes_true" ∷
    codes "true" ∷
    codes "bytes_unsigned" ∷
    codes "unsigned" ∷
    codes "bytes_undefined" ∷
    codes "undefined" ∷
    codes "bytes_record" ∷
    codes "record" ∷
    codes "bytes_read_only" ∷
    codes "read_only" ∷
    codes "bytes_mixin" ∷
    codes "mixin" ∷
    codes "bytes_implements" ∷
    codes "implements" ∷
    codes "bytes_legacy_caller" ∷
    codes "legacy_caller" ∷
    codes "bytes_constructor" ∷
    codes "constructor" ∷
    []

-- Keywords with capitals: trivia, the keyword's bytes with no name character next, trivia.
abbrev pub capitalized_keywords : List (List ℕ)
capitalized_keywords =
    codes "bytes_byte_string" ∷
    codes "byte_string" ∷
    codes "bytes_dom_string" ∷
    codes "dom_string" ∷
    codes "bytes_frozen_array" ∷
    codes "frozen_array" ∷
    codes "bytes_infinity" ∷
    codes "infinity" ∷
    codes "bytes_nan" ∷
    codes "nan" ∷
    codes "bytes_usv_string" ∷
    codes "usv_string" ∷
    codes "bytes_array_buffer" ∷
    codes "array_buffer" ∷
    codes "bytes_data_view" ∷
    codes "data_view" ∷
    codes "bytes_int8_array" ∷
    codes "int8_array" ∷
    codes "bytes_int16_array" ∷
    codes "int16_array" ∷
    codes "bytes_int32_array" ∷
    codes "int32_array" ∷
    codes "bytes_uint8_array" ∷
    codes "uint8_array" ∷
    codes "bytes_uint16_array" ∷
    codes "uint16_array" ∷
    codes "bytes_uint32_array" ∷
    codes "uint32_array" ∷
    codes "bytes_uint8_clamped_array" ∷
    codes "uint8_clamped_array" ∷
    codes "bytes_float32_array" ∷
    codes "float32_array" ∷
    codes "bytes_float64_array" ∷
    codes "float64_array" ∷
    codes "bytes_array_buffer_view" ∷
    codes "array_buffer_view" ∷
    codes "bytes_buffer_source" ∷
    codes "buffer_source" ∷
    codes "bytes_promise" ∷
    codes "promise" ∷
    codes "bytes_error" ∷
    codes "error" ∷
    codes "bytes_neg_infinity" ∷
    codes "neg_infinity" ∷
    []

-- Leaves: names, numbers, strings and docstrings.
abbrev pub leaves : List (List ℕ)
leaves =
    codes "bytes_underscore" ∷
    codes "opt_bytes_underscore" ∷
    codes "one_of_letter" ∷
    codes "run_name" ∷
    codes "identifier_text" ∷
    codes "identifier" ∷
    codes "opt_bytes_minus" ∷
    codes "one_of_one_to_nine" ∷
    codes "run_digit" ∷
    codes "dec_lit_text" ∷
    codes "dec_lit" ∷
    codes "bytes_zero" ∷
    codes "one_of_x_letter" ∷
    codes "one_of_hex" ∷
    codes "run_hex" ∷
    codes "hex_lit_text" ∷
    codes "hex_lit" ∷
    codes "run_octal" ∷
    codes "oct_lit_text" ∷
    codes "oct_lit" ∷
    codes "one_of_digit" ∷
    codes "digits" ∷
    codes "one_of_e_letter" ∷
    codes "one_of_sign" ∷
    codes "opt_one_of_sign" ∷
    codes "exponent" ∷
    codes "point_after_digits" ∷
    codes "point_before_digits" ∷
    codes "point" ∷
    codes "opt_exponent" ∷
    codes "point_form" ∷
    codes "exponent_form" ∷
    codes "float_form" ∷
    codes "float_value_lit_text" ∷
    codes "float_value_lit" ∷
    codes "bytes_quote" ∷
    codes "run_not_quote" ∷
    codes "string_lit" ∷
    codes "bytes_three_slashes" ∷
    codes "past_lf" ∷
    codes "doc_line" ∷
    codes "many_doc_line" ∷
    codes "docstring" ∷
    []

-- Literals and default values.
abbrev pub literals : List (List ℕ)
literals =
    codes "boolean_lit" ∷
    codes "integer_lit" ∷
    codes "float_lit" ∷
    codes "empty_array_lit" ∷
    codes "empty_dictionary_lit" ∷
    codes "default_value" ∷
    codes "const_value" ∷
    codes "default" ∷
    []

-- Types that hold no other type, and lists of names.
abbrev pub simple_types : List (List ℕ)
simple_types =
    codes "opt_unsigned" ∷
    codes "long_long" ∷
    codes "long_long_type" ∷
    codes "long_type" ∷
    codes "short_type" ∷
    codes "integer_type" ∷
    codes "opt_unrestricted" ∷
    codes "float_type" ∷
    codes "double_type" ∷
    codes "floating_point_type" ∷
    codes "opt_q_mark" ∷
    codes "may_be_null_integer_type" ∷
    codes "may_be_null_floating_point_type" ∷
    codes "may_be_null_boolean" ∷
    codes "may_be_null_byte" ∷
    codes "may_be_null_octet" ∷
    codes "may_be_null_identifier" ∷
    codes "const_type" ∷
    codes "tail_identifier_comma" ∷
    codes "identifier_list" ∷
    codes "parenthesized_identifier_list" ∷
    []

-- Types that hold types, extended attributes and arguments, which read one another.
abbrev pub types : List (List ℕ)
types =
    codes "generics_type" ∷
    codes "sequence_type" ∷
    codes "frozen_array_type" ∷
    codes "generics_return_type" ∷
    codes "promise_type" ∷
    codes "generics_record_types" ∷
    codes "record_type" ∷
    codes "union_type" ∷
    codes "may_be_null_union_type" ∷
    codes "may_be_null_byte_string" ∷
    codes "may_be_null_dom_string" ∷
    codes "may_be_null_usv_string" ∷
    codes "may_be_null_sequence_type" ∷
    codes "may_be_null_object" ∷
    codes "may_be_null_symbol" ∷
    codes "may_be_null_error" ∷
    codes "may_be_null_array_buffer" ∷
    codes "may_be_null_data_view" ∷
    codes "may_be_null_int8_array" ∷
    codes "may_be_null_int16_array" ∷
    codes "may_be_null_int32_array" ∷
    codes "may_be_null_uint8_array" ∷
    codes "may_be_null_uint16_array" ∷
    codes "may_be_null_uint32_array" ∷
    codes "may_be_null_uint8_clamped_array" ∷
    codes "may_be_null_float32_array" ∷
    codes "may_be_null_float64_array" ∷
    codes "may_be_null_array_buffer_view" ∷
    codes "may_be_null_buffer_source" ∷
    codes "may_be_null_frozen_array_type" ∷
    codes "may_be_null_record_type" ∷
    codes "non_any_type" ∷
    codes "record_key_type" ∷
    codes "record_types" ∷
    codes "single_type" ∷
    codes "type" ∷
    codes "return_type" ∷
    codes "extended_attribute_list" ∷
    codes "opt_extended_attribute_list" ∷
    codes "attributed_type" ∷
    codes "attributed_non_any_type" ∷
    codes "union_member_type" ∷
    codes "tail_union_member_type_or" ∷
    codes "list_union_member_type_or" ∷
    codes "opt_optional" ∷
    codes "opt_default" ∷
    codes "single_argument" ∷
    codes "variadic_argument" ∷
    codes "argument" ∷
    codes "tail_argument_comma" ∷
    codes "argument_list" ∷
    codes "parenthesized_argument_list" ∷
    codes "extended_attribute_arg_list" ∷
    codes "extended_attribute_named_arg_list" ∷
    codes "extended_attribute_ident_list" ∷
    codes "identifier_or_string" ∷
    codes "extended_attribute_ident" ∷
    codes "extended_attribute_no_args" ∷
    codes "extended_attribute" ∷
    codes "tail_extended_attribute_comma" ∷
    codes "list_extended_attribute_comma" ∷
    []

-- Members of interfaces.
abbrev pub interface_members : List (List ℕ)
interface_members =
    codes "opt_docstring" ∷
    codes "opt_identifier" ∷
    codes "opt_read_only" ∷
    codes "key_and_value_types" ∷
    codes "generics_attributed_type" ∷
    codes "generics_key_and_value_types" ∷
    codes "inheritance" ∷
    codes "opt_inheritance" ∷
    codes "special" ∷
    codes "opt_special" ∷
    codes "stringifier_or_inherit_or_static" ∷
    codes "opt_stringifier_or_inherit_or_static" ∷
    codes "stringifier_or_static" ∷
    codes "opt_stringifier_or_static" ∷
    codes "const_member" ∷
    codes "attribute_interface_member" ∷
    codes "constructor_interface_member" ∷
    codes "operation_interface_member" ∷
    codes "single_typed_iterable" ∷
    codes "double_typed_iterable" ∷
    codes "iterable_interface_member" ∷
    codes "async_iterable" ∷
    codes "opt_parenthesized_argument_list" ∷
    codes "single_typed_async_iterable" ∷
    codes "double_typed_async_iterable" ∷
    codes "async_iterable_interface_member" ∷
    codes "maplike_interface_member" ∷
    codes "setlike_interface_member" ∷
    codes "stringifier_member" ∷
    codes "interface_member" ∷
    codes "interface_members" ∷
    codes "braced_interface_members" ∷
    []

-- Members of mixins, namespaces and dictionaries, and the values of an enum.
abbrev pub other_members : List (List ℕ)
other_members =
    codes "opt_stringifier" ∷
    codes "operation_mixin_member" ∷
    codes "attribute_mixin_member" ∷
    codes "mixin_member" ∷
    codes "mixin_members" ∷
    codes "braced_mixin_members" ∷
    codes "operation_namespace_member" ∷
    codes "attribute_namespace_member" ∷
    codes "namespace_member" ∷
    codes "namespace_members" ∷
    codes "braced_namespace_members" ∷
    codes "opt_required" ∷
    codes "dictionary_member" ∷
    codes "dictionary_members" ∷
    codes "braced_dictionary_members" ∷
    codes "enum_variant" ∷
    codes "tail_enum_variant_comma" ∷
    codes "list1_enum_variant_comma" ∷
    codes "opt_comma" ∷
    codes "enum_value_list" ∷
    codes "braced_enum_value_list" ∷
    []

-- Definitions.
abbrev pub definitions : List (List ℕ)
definitions =
    codes "callback_definition" ∷
    codes "callback_interface_definition" ∷
    codes "interface_definition" ∷
    codes "interface_mixin_definition" ∷
    codes "namespace_definition" ∷
    codes "dictionary_definition" ∷
    codes "partial_interface_definition" ∷
    codes "partial_interface_mixin_definition" ∷
    codes "partial_dictionary_definition" ∷
    codes "partial_namespace_definition" ∷
    codes "enum_definition" ∷
    codes "typedef_definition" ∷
    codes "includes_statement_definition" ∷
    codes "implements_definition" ∷
    codes "definition" ∷
    codes "definitions" ∷
    []

-- Words, a symbol, literals and docstrings of today's WebIDL.
abbrev pub today_words : List (List ℕ)
today_words =
    codes "bytes_asterisk" ∷
    codes "asterisk" ∷
    codes "bytes_big_int" ∷
    codes "big_int" ∷
    codes "bytes_async_iterable_word" ∷
    codes "async_iterable_word" ∷
    codes "bytes_async_sequence" ∷
    codes "async_sequence" ∷
    codes "bytes_observable_array" ∷
    codes "observable_array" ∷
    codes "bytes_float16_array" ∷
    codes "float16_array" ∷
    codes "bytes_big_int64_array" ∷
    codes "big_int64_array" ∷
    codes "bytes_big_uint64_array" ∷
    codes "big_uint64_array" ∷
    codes "bytes_shared_array_buffer" ∷
    codes "shared_array_buffer" ∷
    codes "today_doc" ∷
    codes "today_docs" ∷
    codes "today_last_doc" ∷
    codes "today_trivia" ∷
    codes "today_default_value" ∷
    codes "today_default" ∷
    codes "opt_today_default" ∷
    codes "may_be_null_big_int" ∷
    codes "today_const_type" ∷
    codes "tail_string_lit_comma" ∷
    codes "today_string_list" ∷
    codes "parenthesized_today_strings" ∷
    codes "today_number" ∷
    codes "tail_today_number_comma" ∷
    codes "today_number_list" ∷
    codes "parenthesized_today_numbers" ∷
    []

-- Today's types, extended attributes and arguments, which read one another.
abbrev pub today_types : List (List ℕ)
today_types =
    codes "generics_today_attributed_type" ∷
    codes "today_sequence_type" ∷
    codes "today_async_sequence_type" ∷
    codes "today_frozen_array_type" ∷
    codes "today_observable_array_type" ∷
    codes "generics_today_type" ∷
    codes "today_promise_type" ∷
    codes "generics_today_record_types" ∷
    codes "today_record_type" ∷
    codes "today_union_type" ∷
    codes "may_be_null_today_union_type" ∷
    codes "today_word_type" ∷
    codes "today_generic_type" ∷
    codes "may_be_null_today_word_type" ∷
    codes "may_be_null_today_generic_type" ∷
    codes "today_non_any_type" ∷
    codes "today_key_type" ∷
    codes "today_record_types" ∷
    codes "today_type" ∷
    codes "today_attributes" ∷
    codes "today_attribute_lists" ∷
    codes "today_attributed_type" ∷
    codes "today_attributed_non_any_type" ∷
    codes "today_union_member_type" ∷
    codes "tail_today_union_member_type_or" ∷
    codes "list1_today_union_member_type_or" ∷
    codes "today_optional_argument" ∷
    codes "opt_ellipsis" ∷
    codes "today_required_argument" ∷
    codes "today_argument_kind" ∷
    codes "today_argument" ∷
    codes "tail_today_argument_comma" ∷
    codes "today_argument_list" ∷
    codes "today_arguments" ∷
    codes "today_attribute_arg_list" ∷
    codes "today_attribute_named_arg_list" ∷
    codes "today_attribute_wildcard" ∷
    codes "today_attribute_number" ∷
    codes "today_attribute_strings" ∷
    codes "today_attribute_numbers" ∷
    codes "today_attribute" ∷
    codes "tail_today_attribute_comma" ∷
    codes "list_today_attribute_comma" ∷
    []

-- Today's members: docstrings and extended attributes, and then of which kind it is.
abbrev pub today_members : List (List ℕ)
today_members =
    codes "today_key_and_value_types" ∷
    codes "generics_today_key_and_value_types" ∷
    codes "today_second_type" ∷
    codes "opt_today_second_type" ∷
    codes "today_iterated" ∷
    codes "today_const" ∷
    codes "today_attribute_member" ∷
    codes "today_constructor" ∷
    codes "today_operation" ∷
    codes "today_iterable" ∷
    codes "today_async_words" ∷
    codes "opt_today_arguments" ∷
    codes "today_async_iterable" ∷
    codes "today_maplike" ∷
    codes "today_setlike" ∷
    codes "today_stringifier" ∷
    codes "today_interface_member_kind" ∷
    codes "today_interface_member" ∷
    codes "today_mixin_operation" ∷
    codes "today_mixin_attribute" ∷
    codes "today_mixin_member_kind" ∷
    codes "today_mixin_member" ∷
    codes "today_namespace_operation" ∷
    codes "today_namespace_attribute" ∷
    codes "today_namespace_member_kind" ∷
    codes "today_namespace_member" ∷
    codes "today_dictionary_member" ∷
    codes "today_enum_value" ∷
    codes "tail_today_enum_value_comma" ∷
    codes "list1_today_enum_value_comma" ∷
    codes "today_interface_members" ∷
    codes "braced_today_interface_members" ∷
    codes "today_mixin_members" ∷
    codes "braced_today_mixin_members" ∷
    codes "today_namespace_members" ∷
    codes "braced_today_namespace_members" ∷
    codes "today_dictionary_members" ∷
    codes "braced_today_dictionary_members" ∷
    codes "braced_today_enum_values" ∷
    []

-- Today's definitions.
abbrev pub today_definitions : List (List ℕ)
today_definitions =
    codes "today_callback" ∷
    codes "today_callback_interface" ∷
    codes "today_interface" ∷
    codes "today_mixin" ∷
    codes "today_namespace" ∷
    codes "today_dictionary" ∷
    codes "today_partial_interface" ∷
    codes "today_partial_mixin" ∷
    codes "today_partial_dictionary" ∷
    codes "today_partial_namespace" ∷
    codes "today_enum" ∷
    codes "today_typedef" ∷
    codes "today_includes" ∷
    codes "today_implements" ∷
    codes "today_definition_kind" ∷
    codes "today_definition" ∷
    codes "today_piece" ∷
    codes "today_definitions" ∷
    []

-- all names, in the order of the rules' numbers
abbrev pub names : List (List ℕ)
names = trivia ++ (symbols ++ (keywords ++ (capitalized_keywords ++ (leaves ++ (literals ++ (simple_types ++ (types ++ (interface_members ++ (other_members ++ (definitions ++ (today_words ++ (today_types ++ (today_members ++ today_definitions)))))))))))))

-- the name at a place of a list; past its end an empty one
abbrev pub name_at : List (List ℕ) → ℕ → List ℕ
name_at [] r = []
name_at (n ∷ ns) zero = n
name_at (n ∷ ns) (suc r) = name_at ns r

-- the name of a rule
abbrev pub name_of : ℕ → List ℕ
name_of r = name_at names r
