-- Keywords in lower case: trivia, the keyword's bytes with no name character next, trivia.
-- The number of each rule, and its row and shape, in the order of the numbers.
-- Written by tools/grammar.py, and not edited by hand.
use Rattle.std.specs.Prelude.{ℕ, List, [], ◌∷◌, codes}
use Rattle.weedle_grammar.specs.declared.class.Class.TheVariants.{Name}
use Rattle.weedle_grammar.specs.Rows.{Bytes, NotNext, Seq}
use Rattle.weedle_grammar.specs.Meaning.{Marked, Silent}
use Rattle.weedle_grammar.specs.Entry.{Entry, rule}
use Rattle.weedle_grammar.specs.written.Table.Trivia.{TRIVIA}

abbrev pub BYTES_OR : ℕ
BYTES_OR = 47

abbrev pub NOT_NEXT_NAME : ℕ
NOT_NEXT_NAME = 48

abbrev pub OR : ℕ
OR = 49

abbrev pub BYTES_OPTIONAL : ℕ
BYTES_OPTIONAL = 50

abbrev pub OPTIONAL : ℕ
OPTIONAL = 51

abbrev pub BYTES_ASYNC : ℕ
BYTES_ASYNC = 52

abbrev pub ASYNC : ℕ
ASYNC = 53

abbrev pub BYTES_ATTRIBUTE : ℕ
BYTES_ATTRIBUTE = 54

abbrev pub ATTRIBUTE : ℕ
ATTRIBUTE = 55

abbrev pub BYTES_CALLBACK : ℕ
BYTES_CALLBACK = 56

abbrev pub CALLBACK : ℕ
CALLBACK = 57

abbrev pub BYTES_CONST : ℕ
BYTES_CONST = 58

abbrev pub CONST : ℕ
CONST = 59

abbrev pub BYTES_DELETER : ℕ
BYTES_DELETER = 60

abbrev pub DELETER : ℕ
DELETER = 61

abbrev pub BYTES_DICTIONARY : ℕ
BYTES_DICTIONARY = 62

abbrev pub DICTIONARY : ℕ
DICTIONARY = 63

abbrev pub BYTES_ENUM : ℕ
BYTES_ENUM = 64

abbrev pub ENUM : ℕ
ENUM = 65

abbrev pub BYTES_GETTER : ℕ
BYTES_GETTER = 66

abbrev pub GETTER : ℕ
GETTER = 67

abbrev pub BYTES_INCLUDES : ℕ
BYTES_INCLUDES = 68

abbrev pub INCLUDES : ℕ
INCLUDES = 69

abbrev pub BYTES_INHERIT : ℕ
BYTES_INHERIT = 70

abbrev pub INHERIT : ℕ
INHERIT = 71

abbrev pub BYTES_INTERFACE : ℕ
BYTES_INTERFACE = 72

abbrev pub INTERFACE : ℕ
INTERFACE = 73

abbrev pub BYTES_ITERABLE : ℕ
BYTES_ITERABLE = 74

abbrev pub ITERABLE : ℕ
ITERABLE = 75

abbrev pub BYTES_MAPLIKE : ℕ
BYTES_MAPLIKE = 76

abbrev pub MAPLIKE : ℕ
MAPLIKE = 77

abbrev pub BYTES_NAMESPACE : ℕ
BYTES_NAMESPACE = 78

abbrev pub NAMESPACE : ℕ
NAMESPACE = 79

abbrev pub BYTES_PARTIAL : ℕ
BYTES_PARTIAL = 80

abbrev pub PARTIAL : ℕ
PARTIAL = 81

abbrev pub BYTES_REQUIRED : ℕ
BYTES_REQUIRED = 82

abbrev pub REQUIRED : ℕ
REQUIRED = 83

abbrev pub BYTES_SETLIKE : ℕ
BYTES_SETLIKE = 84

abbrev pub SETLIKE : ℕ
SETLIKE = 85

abbrev pub BYTES_SETTER : ℕ
BYTES_SETTER = 86

abbrev pub SETTER : ℕ
SETTER = 87

abbrev pub BYTES_STATIC : ℕ
BYTES_STATIC = 88

abbrev pub STATIC : ℕ
STATIC = 89

abbrev pub BYTES_STRINGIFIER : ℕ
BYTES_STRINGIFIER = 90

abbrev pub STRINGIFIER : ℕ
STRINGIFIER = 91

abbrev pub BYTES_TYPEDEF : ℕ
BYTES_TYPEDEF = 92

abbrev pub TYPEDEF : ℕ
TYPEDEF = 93

abbrev pub BYTES_UNRESTRICTED : ℕ
BYTES_UNRESTRICTED = 94

abbrev pub UNRESTRICTED : ℕ
UNRESTRICTED = 95

abbrev pub BYTES_SYMBOL : ℕ
BYTES_SYMBOL = 96

abbrev pub SYMBOL : ℕ
SYMBOL = 97

abbrev pub BYTES_ANY : ℕ
BYTES_ANY = 98

abbrev pub ANY : ℕ
ANY = 99

abbrev pub BYTES_BOOLEAN : ℕ
BYTES_BOOLEAN = 100

abbrev pub BOOLEAN : ℕ
BOOLEAN = 101

abbrev pub BYTES_BYTE : ℕ
BYTES_BYTE = 102

abbrev pub BYTE : ℕ
BYTE = 103

abbrev pub BYTES_DOUBLE : ℕ
BYTES_DOUBLE = 104

abbrev pub DOUBLE : ℕ
DOUBLE = 105

abbrev pub BYTES_FALSE : ℕ
BYTES_FALSE = 106

abbrev pub FALSE : ℕ
FALSE = 107

abbrev pub BYTES_FLOAT : ℕ
BYTES_FLOAT = 108

abbrev pub FLOAT : ℕ
FLOAT = 109

abbrev pub BYTES_LONG : ℕ
BYTES_LONG = 110

abbrev pub LONG : ℕ
LONG = 111

abbrev pub BYTES_NULL : ℕ
BYTES_NULL = 112

abbrev pub NULL : ℕ
NULL = 113

abbrev pub BYTES_OBJECT : ℕ
BYTES_OBJECT = 114

abbrev pub OBJECT : ℕ
OBJECT = 115

abbrev pub BYTES_OCTET : ℕ
BYTES_OCTET = 116

abbrev pub OCTET : ℕ
OCTET = 117

abbrev pub BYTES_SEQUENCE : ℕ
BYTES_SEQUENCE = 118

abbrev pub SEQUENCE : ℕ
SEQUENCE = 119

abbrev pub BYTES_SHORT : ℕ
BYTES_SHORT = 120

abbrev pub SHORT : ℕ
SHORT = 121

abbrev pub BYTES_TRUE : ℕ
BYTES_TRUE = 122

abbrev pub TRUE : ℕ
TRUE = 123

abbrev pub BYTES_UNSIGNED : ℕ
BYTES_UNSIGNED = 124

abbrev pub UNSIGNED : ℕ
UNSIGNED = 125

abbrev pub BYTES_UNDEFINED : ℕ
BYTES_UNDEFINED = 126

abbrev pub UNDEFINED : ℕ
UNDEFINED = 127

abbrev pub BYTES_RECORD : ℕ
BYTES_RECORD = 128

abbrev pub RECORD : ℕ
RECORD = 129

abbrev pub BYTES_READ_ONLY : ℕ
BYTES_READ_ONLY = 130

abbrev pub READ_ONLY : ℕ
READ_ONLY = 131

abbrev pub BYTES_MIXIN : ℕ
BYTES_MIXIN = 132

abbrev pub MIXIN : ℕ
MIXIN = 133

abbrev pub BYTES_IMPLEMENTS : ℕ
BYTES_IMPLEMENTS = 134

abbrev pub IMPLEMENTS : ℕ
IMPLEMENTS = 135

abbrev pub BYTES_LEGACY_CALLER : ℕ
BYTES_LEGACY_CALLER = 136

abbrev pub LEGACY_CALLER : ℕ
LEGACY_CALLER = 137

abbrev pub BYTES_CONSTRUCTOR : ℕ
BYTES_CONSTRUCTOR = 138

abbrev pub CONSTRUCTOR : ℕ
CONSTRUCTOR = 139

abbrev pub keywords : List Entry
keywords =
    rule BYTES_OR Silent (Bytes (codes "or")) ∷
    rule NOT_NEXT_NAME Silent (NotNext Name) ∷
    rule OR Marked (Seq (TRIVIA ∷ BYTES_OR ∷ NOT_NEXT_NAME ∷ TRIVIA ∷ [])) ∷
    rule BYTES_OPTIONAL Silent (Bytes (codes "optional")) ∷
    rule OPTIONAL Marked (Seq (TRIVIA ∷ BYTES_OPTIONAL ∷ NOT_NEXT_NAME ∷ TRIVIA ∷ [])) ∷
    rule BYTES_ASYNC Silent (Bytes (codes "async")) ∷
    rule ASYNC Marked (Seq (TRIVIA ∷ BYTES_ASYNC ∷ NOT_NEXT_NAME ∷ TRIVIA ∷ [])) ∷
    rule BYTES_ATTRIBUTE Silent (Bytes (codes "attribute")) ∷
    rule ATTRIBUTE Marked (Seq (TRIVIA ∷ BYTES_ATTRIBUTE ∷ NOT_NEXT_NAME ∷ TRIVIA ∷ [])) ∷
    rule BYTES_CALLBACK Silent (Bytes (codes "callback")) ∷
    rule CALLBACK Marked (Seq (TRIVIA ∷ BYTES_CALLBACK ∷ NOT_NEXT_NAME ∷ TRIVIA ∷ [])) ∷
    rule BYTES_CONST Silent (Bytes (codes "const")) ∷
    rule CONST Marked (Seq (TRIVIA ∷ BYTES_CONST ∷ NOT_NEXT_NAME ∷ TRIVIA ∷ [])) ∷
    rule BYTES_DELETER Silent (Bytes (codes "deleter")) ∷
    rule DELETER Marked (Seq (TRIVIA ∷ BYTES_DELETER ∷ NOT_NEXT_NAME ∷ TRIVIA ∷ [])) ∷
    rule BYTES_DICTIONARY Silent (Bytes (codes "dictionary")) ∷
    rule DICTIONARY Marked (Seq (TRIVIA ∷ BYTES_DICTIONARY ∷ NOT_NEXT_NAME ∷ TRIVIA ∷ [])) ∷
    rule BYTES_ENUM Silent (Bytes (codes "enum")) ∷
    rule ENUM Marked (Seq (TRIVIA ∷ BYTES_ENUM ∷ NOT_NEXT_NAME ∷ TRIVIA ∷ [])) ∷
    rule BYTES_GETTER Silent (Bytes (codes "getter")) ∷
    rule GETTER Marked (Seq (TRIVIA ∷ BYTES_GETTER ∷ NOT_NEXT_NAME ∷ TRIVIA ∷ [])) ∷
    rule BYTES_INCLUDES Silent (Bytes (codes "includes")) ∷
    rule INCLUDES Marked (Seq (TRIVIA ∷ BYTES_INCLUDES ∷ NOT_NEXT_NAME ∷ TRIVIA ∷ [])) ∷
    rule BYTES_INHERIT Silent (Bytes (codes "inherit")) ∷
    rule INHERIT Marked (Seq (TRIVIA ∷ BYTES_INHERIT ∷ NOT_NEXT_NAME ∷ TRIVIA ∷ [])) ∷
    rule BYTES_INTERFACE Silent (Bytes (codes "interface")) ∷
    rule INTERFACE Marked (Seq (TRIVIA ∷ BYTES_INTERFACE ∷ NOT_NEXT_NAME ∷ TRIVIA ∷ [])) ∷
    rule BYTES_ITERABLE Silent (Bytes (codes "iterable")) ∷
    rule ITERABLE Marked (Seq (TRIVIA ∷ BYTES_ITERABLE ∷ NOT_NEXT_NAME ∷ TRIVIA ∷ [])) ∷
    rule BYTES_MAPLIKE Silent (Bytes (codes "maplike")) ∷
    rule MAPLIKE Marked (Seq (TRIVIA ∷ BYTES_MAPLIKE ∷ NOT_NEXT_NAME ∷ TRIVIA ∷ [])) ∷
    rule BYTES_NAMESPACE Silent (Bytes (codes "namespace")) ∷
    rule NAMESPACE Marked (Seq (TRIVIA ∷ BYTES_NAMESPACE ∷ NOT_NEXT_NAME ∷ TRIVIA ∷ [])) ∷
    rule BYTES_PARTIAL Silent (Bytes (codes "partial")) ∷
    rule PARTIAL Marked (Seq (TRIVIA ∷ BYTES_PARTIAL ∷ NOT_NEXT_NAME ∷ TRIVIA ∷ [])) ∷
    rule BYTES_REQUIRED Silent (Bytes (codes "required")) ∷
    rule REQUIRED Marked (Seq (TRIVIA ∷ BYTES_REQUIRED ∷ NOT_NEXT_NAME ∷ TRIVIA ∷ [])) ∷
    rule BYTES_SETLIKE Silent (Bytes (codes "setlike")) ∷
    rule SETLIKE Marked (Seq (TRIVIA ∷ BYTES_SETLIKE ∷ NOT_NEXT_NAME ∷ TRIVIA ∷ [])) ∷
    rule BYTES_SETTER Silent (Bytes (codes "setter")) ∷
    rule SETTER Marked (Seq (TRIVIA ∷ BYTES_SETTER ∷ NOT_NEXT_NAME ∷ TRIVIA ∷ [])) ∷
    rule BYTES_STATIC Silent (Bytes (codes "static")) ∷
    rule STATIC Marked (Seq (TRIVIA ∷ BYTES_STATIC ∷ NOT_NEXT_NAME ∷ TRIVIA ∷ [])) ∷
    rule BYTES_STRINGIFIER Silent (Bytes (codes "stringifier")) ∷
    rule STRINGIFIER Marked (Seq (TRIVIA ∷ BYTES_STRINGIFIER ∷ NOT_NEXT_NAME ∷ TRIVIA ∷ [])) ∷
    rule BYTES_TYPEDEF Silent (Bytes (codes "typedef")) ∷
    rule TYPEDEF Marked (Seq (TRIVIA ∷ BYTES_TYPEDEF ∷ NOT_NEXT_NAME ∷ TRIVIA ∷ [])) ∷
    rule BYTES_UNRESTRICTED Silent (Bytes (codes "unrestricted")) ∷
    rule UNRESTRICTED Marked (Seq (TRIVIA ∷ BYTES_UNRESTRICTED ∷ NOT_NEXT_NAME ∷ TRIVIA ∷ [])) ∷
    rule BYTES_SYMBOL Silent (Bytes (codes "symbol")) ∷
    rule SYMBOL Marked (Seq (TRIVIA ∷ BYTES_SYMBOL ∷ NOT_NEXT_NAME ∷ TRIVIA ∷ [])) ∷
    rule BYTES_ANY Silent (Bytes (codes "any")) ∷
    rule ANY Marked (Seq (TRIVIA ∷ BYTES_ANY ∷ NOT_NEXT_NAME ∷ TRIVIA ∷ [])) ∷
    rule BYTES_BOOLEAN Silent (Bytes (codes "boolean")) ∷
    rule BOOLEAN Marked (Seq (TRIVIA ∷ BYTES_BOOLEAN ∷ NOT_NEXT_NAME ∷ TRIVIA ∷ [])) ∷
    rule BYTES_BYTE Silent (Bytes (codes "byte")) ∷
    rule BYTE Marked (Seq (TRIVIA ∷ BYTES_BYTE ∷ NOT_NEXT_NAME ∷ TRIVIA ∷ [])) ∷
    rule BYTES_DOUBLE Silent (Bytes (codes "double")) ∷
    rule DOUBLE Marked (Seq (TRIVIA ∷ BYTES_DOUBLE ∷ NOT_NEXT_NAME ∷ TRIVIA ∷ [])) ∷
    rule BYTES_FALSE Silent (Bytes (codes "false")) ∷
    rule FALSE Marked (Seq (TRIVIA ∷ BYTES_FALSE ∷ NOT_NEXT_NAME ∷ TRIVIA ∷ [])) ∷
    rule BYTES_FLOAT Silent (Bytes (codes "float")) ∷
    rule FLOAT Marked (Seq (TRIVIA ∷ BYTES_FLOAT ∷ NOT_NEXT_NAME ∷ TRIVIA ∷ [])) ∷
    rule BYTES_LONG Silent (Bytes (codes "long")) ∷
    rule LONG Marked (Seq (TRIVIA ∷ BYTES_LONG ∷ NOT_NEXT_NAME ∷ TRIVIA ∷ [])) ∷
    rule BYTES_NULL Silent (Bytes (codes "null")) ∷
    rule NULL Marked (Seq (TRIVIA ∷ BYTES_NULL ∷ NOT_NEXT_NAME ∷ TRIVIA ∷ [])) ∷
    rule BYTES_OBJECT Silent (Bytes (codes "object")) ∷
    rule OBJECT Marked (Seq (TRIVIA ∷ BYTES_OBJECT ∷ NOT_NEXT_NAME ∷ TRIVIA ∷ [])) ∷
    rule BYTES_OCTET Silent (Bytes (codes "octet")) ∷
    rule OCTET Marked (Seq (TRIVIA ∷ BYTES_OCTET ∷ NOT_NEXT_NAME ∷ TRIVIA ∷ [])) ∷
    rule BYTES_SEQUENCE Silent (Bytes (codes "sequence")) ∷
    rule SEQUENCE Marked (Seq (TRIVIA ∷ BYTES_SEQUENCE ∷ NOT_NEXT_NAME ∷ TRIVIA ∷ [])) ∷
    rule BYTES_SHORT Silent (Bytes (codes "short")) ∷
    rule SHORT Marked (Seq (TRIVIA ∷ BYTES_SHORT ∷ NOT_NEXT_NAME ∷ TRIVIA ∷ [])) ∷
    rule BYTES_TRUE Silent (Bytes (codes "true")) ∷
    rule TRUE Marked (Seq (TRIVIA ∷ BYTES_TRUE ∷ NOT_NEXT_NAME ∷ TRIVIA ∷ [])) ∷
    rule BYTES_UNSIGNED Silent (Bytes (codes "unsigned")) ∷
    rule UNSIGNED Marked (Seq (TRIVIA ∷ BYTES_UNSIGNED ∷ NOT_NEXT_NAME ∷ TRIVIA ∷ [])) ∷
    rule BYTES_UNDEFINED Silent (Bytes (codes "undefined")) ∷
    rule UNDEFINED Marked (Seq (TRIVIA ∷ BYTES_UNDEFINED ∷ NOT_NEXT_NAME ∷ TRIVIA ∷ [])) ∷
    rule BYTES_RECORD Silent (Bytes (codes "record")) ∷
    rule RECORD Marked (Seq (TRIVIA ∷ BYTES_RECORD ∷ NOT_NEXT_NAME ∷ TRIVIA ∷ [])) ∷
    rule BYTES_READ_ONLY Silent (Bytes (codes "readonly")) ∷
    rule READ_ONLY Marked (Seq (TRIVIA ∷ BYTES_READ_ONLY ∷ NOT_NEXT_NAME ∷ TRIVIA ∷ [])) ∷
    rule BYTES_MIXIN Silent (Bytes (codes "mixin")) ∷
    rule MIXIN Marked (Seq (TRIVIA ∷ BYTES_MIXIN ∷ NOT_NEXT_NAME ∷ TRIVIA ∷ [])) ∷
    rule BYTES_IMPLEMENTS Silent (Bytes (codes "implements")) ∷
    rule IMPLEMENTS Marked (Seq (TRIVIA ∷ BYTES_IMPLEMENTS ∷ NOT_NEXT_NAME ∷ TRIVIA ∷ [])) ∷
    rule BYTES_LEGACY_CALLER Silent (Bytes (codes "legacycaller")) ∷
    rule LEGACY_CALLER Marked (Seq (TRIVIA ∷ BYTES_LEGACY_CALLER ∷ NOT_NEXT_NAME ∷ TRIVIA ∷ [])) ∷
    rule BYTES_CONSTRUCTOR Silent (Bytes (codes "constructor")) ∷
    rule CONSTRUCTOR Marked (Seq (TRIVIA ∷ BYTES_CONSTRUCTOR ∷ NOT_NEXT_NAME ∷ TRIVIA ∷ [])) ∷
    []
