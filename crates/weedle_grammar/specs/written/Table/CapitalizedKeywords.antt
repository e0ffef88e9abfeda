-- Keywords with capitals: trivia, the keyword's bytes with no name character next, trivia.
-- The number of each rule, and its row and shape, in the order of the numbers.
-- Written by tools/grammar.py, and not edited by hand.
use Rattle.std.specs.Prelude.{ℕ, List, [], ◌∷◌, codes}
use Rattle.weedle_grammar.specs.Rows.{Bytes, Seq}
use Rattle.weedle_grammar.specs.Meaning.{Marked, Silent}
use Rattle.weedle_grammar.specs.Entry.{Entry, rule}
use Rattle.weedle_grammar.specs.written.Table.Trivia.{TRIVIA}
use Rattle.weedle_grammar.specs.written.Table.Keywords.{NOT_NEXT_NAME}

abbrev pub BYTES_BYTE_STRING : ℕ
BYTES_BYTE_STRING = 140

abbrev pub BYTE_STRING : ℕ
BYTE_STRING = 141

abbrev pub BYTES_DOM_STRING : ℕ
BYTES_DOM_STRING = 142

abbrev pub DOM_STRING : ℕ
DOM_STRING = 143

abbrev pub BYTES_FROZEN_ARRAY : ℕ
BYTES_FROZEN_ARRAY = 144

abbrev pub FROZEN_ARRAY : ℕ
FROZEN_ARRAY = 145

abbrev pub BYTES_INFINITY : ℕ
BYTES_INFINITY = 146

abbrev pub INFINITY : ℕ
INFINITY = 147

abbrev pub BYTES_NAN : ℕ
BYTES_NAN = 148

abbrev pub NAN : ℕ
NAN = 149

abbrev pub BYTES_USV_STRING : ℕ
BYTES_USV_STRING = 150

abbrev pub USV_STRING : ℕ
USV_STRING = 151

abbrev pub BYTES_ARRAY_BUFFER : ℕ
BYTES_ARRAY_BUFFER = 152

abbrev pub ARRAY_BUFFER : ℕ
ARRAY_BUFFER = 153

abbrev pub BYTES_DATA_VIEW : ℕ
BYTES_DATA_VIEW = 154

abbrev pub DATA_VIEW : ℕ
DATA_VIEW = 155

abbrev pub BYTES_INT8_ARRAY : ℕ
BYTES_INT8_ARRAY = 156

abbrev pub INT8_ARRAY : ℕ
INT8_ARRAY = 157

abbrev pub BYTES_INT16_ARRAY : ℕ
BYTES_INT16_ARRAY = 158

abbrev pub INT16_ARRAY : ℕ
INT16_ARRAY = 159

abbrev pub BYTES_INT32_ARRAY : ℕ
BYTES_INT32_ARRAY = 160

abbrev pub INT32_ARRAY : ℕ
INT32_ARRAY = 161

abbrev pub BYTES_UINT8_ARRAY : ℕ
BYTES_UINT8_ARRAY = 162

abbrev pub UINT8_ARRAY : ℕ
UINT8_ARRAY = 163

abbrev pub BYTES_UINT16_ARRAY : ℕ
BYTES_UINT16_ARRAY = 164

abbrev pub UINT16_ARRAY : ℕ
UINT16_ARRAY = 165

abbrev pub BYTES_UINT32_ARRAY : ℕ
BYTES_UINT32_ARRAY = 166

abbrev pub UINT32_ARRAY : ℕ
UINT32_ARRAY = 167

abbrev pub BYTES_UINT8_CLAMPED_ARRAY : ℕ
BYTES_UINT8_CLAMPED_ARRAY = 168

abbrev pub UINT8_CLAMPED_ARRAY : ℕ
UINT8_CLAMPED_ARRAY = 169

abbrev pub BYTES_FLOAT32_ARRAY : ℕ
BYTES_FLOAT32_ARRAY = 170

abbrev pub FLOAT32_ARRAY : ℕ
FLOAT32_ARRAY = 171

abbrev pub BYTES_FLOAT64_ARRAY : ℕ
BYTES_FLOAT64_ARRAY = 172

abbrev pub FLOAT64_ARRAY : ℕ
FLOAT64_ARRAY = 173

abbrev pub BYTES_ARRAY_BUFFER_VIEW : ℕ
BYTES_ARRAY_BUFFER_VIEW = 174

abbrev pub ARRAY_BUFFER_VIEW : ℕ
ARRAY_BUFFER_VIEW = 175

abbrev pub BYTES_BUFFER_SOURCE : ℕ
BYTES_BUFFER_SOURCE = 176

abbrev pub BUFFER_SOURCE : ℕ
BUFFER_SOURCE = 177

abbrev pub BYTES_PROMISE : ℕ
BYTES_PROMISE = 178

abbrev pub PROMISE : ℕ
PROMISE = 179

abbrev pub BYTES_ERROR : ℕ
BYTES_ERROR = 180

abbrev pub ERROR : ℕ
ERROR = 181

abbrev pub BYTES_NEG_INFINITY : ℕ
BYTES_NEG_INFINITY = 182

abbrev pub NEG_INFINITY : ℕ
NEG_INFINITY = 183

abbrev pub capitalized_keywords : List Entry
capitalized_keywords =
    rule BYTES_BYTE_STRING Silent (Bytes (codes "ByteString")) ∷
    rule BYTE_STRING Marked (Seq (TRIVIA ∷ BYTES_BYTE_STRING ∷ NOT_NEXT_NAME ∷ TRIVIA ∷ [])) ∷
    rule BYTES_DOM_STRING Silent (Bytes (codes "DOMString")) ∷
    rule DOM_STRING Marked (Seq (TRIVIA ∷ BYTES_DOM_STRING ∷ NOT_NEXT_NAME ∷ TRIVIA ∷ [])) ∷
    rule BYTES_FROZEN_ARRAY Silent (Bytes (codes "FrozenArray")) ∷
    rule FROZEN_ARRAY Marked (Seq (TRIVIA ∷ BYTES_FROZEN_ARRAY ∷ NOT_NEXT_NAME ∷ TRIVIA ∷ [])) ∷
    rule BYTES_INFINITY Silent (Bytes (codes "Infinity")) ∷
    rule INFINITY Marked (Seq (TRIVIA ∷ BYTES_INFINITY ∷ NOT_NEXT_NAME ∷ TRIVIA ∷ [])) ∷
    rule BYTES_NAN Silent (Bytes (codes "NaN")) ∷
    rule NAN Marked (Seq (TRIVIA ∷ BYTES_NAN ∷ NOT_NEXT_NAME ∷ TRIVIA ∷ [])) ∷
    rule BYTES_USV_STRING Silent (Bytes (codes "USVString")) ∷
    rule USV_STRING Marked (Seq (TRIVIA ∷ BYTES_USV_STRING ∷ NOT_NEXT_NAME ∷ TRIVIA ∷ [])) ∷
    rule BYTES_ARRAY_BUFFER Silent (Bytes (codes "ArrayBuffer")) ∷
    rule ARRAY_BUFFER Marked (Seq (TRIVIA ∷ BYTES_ARRAY_BUFFER ∷ NOT_NEXT_NAME ∷ TRIVIA ∷ [])) ∷
    rule BYTES_DATA_VIEW Silent (Bytes (codes "DataView")) ∷
    rule DATA_VIEW Marked (Seq (TRIVIA ∷ BYTES_DATA_VIEW ∷ NOT_NEXT_NAME ∷ TRIVIA ∷ [])) ∷
    rule BYTES_INT8_ARRAY Silent (Bytes (codes "Int8Array")) ∷
    rule INT8_ARRAY Marked (Seq (TRIVIA ∷ BYTES_INT8_ARRAY ∷ NOT_NEXT_NAME ∷ TRIVIA ∷ [])) ∷
    rule BYTES_INT16_ARRAY Silent (Bytes (codes "Int16Array")) ∷
    rule INT16_ARRAY Marked (Seq (TRIVIA ∷ BYTES_INT16_ARRAY ∷ NOT_NEXT_NAME ∷ TRIVIA ∷ [])) ∷
    rule BYTES_INT32_ARRAY Silent (Bytes (codes "Int32Array")) ∷
    rule INT32_ARRAY Marked (Seq (TRIVIA ∷ BYTES_INT32_ARRAY ∷ NOT_NEXT_NAME ∷ TRIVIA ∷ [])) ∷
    rule BYTES_UINT8_ARRAY Silent (Bytes (codes "Uint8Array")) ∷
    rule UINT8_ARRAY Marked (Seq (TRIVIA ∷ BYTES_UINT8_ARRAY ∷ NOT_NEXT_NAME ∷ TRIVIA ∷ [])) ∷
    rule BYTES_UINT16_ARRAY Silent (Bytes (codes "Uint16Array")) ∷
    rule UINT16_ARRAY Marked (Seq (TRIVIA ∷ BYTES_UINT16_ARRAY ∷ NOT_NEXT_NAME ∷ TRIVIA ∷ [])) ∷
    rule BYTES_UINT32_ARRAY Silent (Bytes (codes "Uint32Array")) ∷
    rule UINT32_ARRAY Marked (Seq (TRIVIA ∷ BYTES_UINT32_ARRAY ∷ NOT_NEXT_NAME ∷ TRIVIA ∷ [])) ∷
    rule BYTES_UINT8_CLAMPED_ARRAY Silent (Bytes (codes "Uint8ClampedArray")) ∷
    rule UINT8_CLAMPED_ARRAY Marked (Seq (TRIVIA ∷ BYTES_UINT8_CLAMPED_ARRAY ∷ NOT_NEXT_NAME ∷ TRIVIA ∷ [])) ∷
    rule BYTES_FLOAT32_ARRAY Silent (Bytes (codes "Float32Array")) ∷
    rule FLOAT32_ARRAY Marked (Seq (TRIVIA ∷ BYTES_FLOAT32_ARRAY ∷ NOT_NEXT_NAME ∷ TRIVIA ∷ [])) ∷
    rule BYTES_FLOAT64_ARRAY Silent (Bytes (codes "Float64Array")) ∷
    rule FLOAT64_ARRAY Marked (Seq (TRIVIA ∷ BYTES_FLOAT64_ARRAY ∷ NOT_NEXT_NAME ∷ TRIVIA ∷ [])) ∷
    rule BYTES_ARRAY_BUFFER_VIEW Silent (Bytes (codes "ArrayBufferView")) ∷
    rule ARRAY_BUFFER_VIEW Marked (Seq (TRIVIA ∷ BYTES_ARRAY_BUFFER_VIEW ∷ NOT_NEXT_NAME ∷ TRIVIA ∷ [])) ∷
    rule BYTES_BUFFER_SOURCE Silent (Bytes (codes "BufferSource")) ∷
    rule BUFFER_SOURCE Marked (Seq (TRIVIA ∷ BYTES_BUFFER_SOURCE ∷ NOT_NEXT_NAME ∷ TRIVIA ∷ [])) ∷
    rule BYTES_PROMISE Silent (Bytes (codes "Promise")) ∷
    rule PROMISE Marked (Seq (TRIVIA ∷ BYTES_PROMISE ∷ NOT_NEXT_NAME ∷ TRIVIA ∷ [])) ∷
    rule BYTES_ERROR Silent (Bytes (codes "Error")) ∷
    rule ERROR Marked (Seq (TRIVIA ∷ BYTES_ERROR ∷ NOT_NEXT_NAME ∷ TRIVIA ∷ [])) ∷
    rule BYTES_NEG_INFINITY Silent (Bytes (codes "-Infinity")) ∷
    rule NEG_INFINITY Marked (Seq (TRIVIA ∷ BYTES_NEG_INFINITY ∷ NOT_NEXT_NAME ∷ TRIVIA ∷ [])) ∷
    []
