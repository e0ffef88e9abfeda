-- Written by tools/orders.py, and not edited by hand.
use Rattle.std.proofs.Common.{◌≡◌, ◌∙◌, inl, inr, refl}
use denote.Hole.Carrier
use denote.Signature.{static_lft}
use Rattle.weedle_types.specs.contracts.types.NonAnyType as type
use Rattle.weedle_types.specs.contracts.types.NonAnyTypeOrd.TheImpl.Laws as order
use Rattle.weedle_types.specs.declared.argument.Argument.TheViews as view
use Rattle.weedle_types.specs.declared.types.NonAnyType.{NonAnyType}
use Rattle.weedle_types.specs.declared.types.NonAnyType.TheVariants.{Promise' as NonAnyType-Promise', Integer as NonAnyType-Integer, FloatingPoint as NonAnyType-FloatingPoint, Boolean as NonAnyType-Boolean, Byte as NonAnyType-Byte, Octet as NonAnyType-Octet, ByteString as NonAnyType-ByteString, DOMString as NonAnyType-DOMString, USVString as NonAnyType-USVString, Sequence' as NonAnyType-Sequence', Object as NonAnyType-Object, Symbol as NonAnyType-Symbol, Error as NonAnyType-Error, ArrayBuffer as NonAnyType-ArrayBuffer, DataView as NonAnyType-DataView, Int8Array as NonAnyType-Int8Array, Int16Array as NonAnyType-Int16Array, Int32Array as NonAnyType-Int32Array, Uint8Array as NonAnyType-Uint8Array, Uint16Array as NonAnyType-Uint16Array, Uint32Array as NonAnyType-Uint32Array, Uint8ClampedArray as NonAnyType-Uint8ClampedArray, Float32Array as NonAnyType-Float32Array, Float64Array as NonAnyType-Float64Array, ArrayBufferView as NonAnyType-ArrayBufferView, BufferSource as NonAnyType-BufferSource, FrozenArrayType' as NonAnyType-FrozenArrayType', RecordType' as NonAnyType-RecordType', Identifier as NonAnyType-Identifier}
use Rattle.weedle_comparisons.specs.written.Places.{non_any_type_place}
use Rattle.weedle_comparisons.proofs.Choices.{by_after, by_before, by_same, place_of}
use Rattle.weedle_comparisons.proofs.orders.written.types.non_any_type.Goals as goal

place_is : (x : NonAnyType) → place_of (type.the_parts static_lft) (type.as_values static_lft x) ≡ non_any_type_place x
unfolding view.out-NonAnyType denote.Hole.Carrier.out
place_is (NonAnyType-Promise' _ _ _ _ _) = refl
place_is (NonAnyType-Integer _) = refl
place_is (NonAnyType-FloatingPoint _) = refl
place_is (NonAnyType-Boolean _) = refl
place_is (NonAnyType-Byte _) = refl
place_is (NonAnyType-Octet _) = refl
place_is (NonAnyType-ByteString _) = refl
place_is (NonAnyType-DOMString _) = refl
place_is (NonAnyType-USVString _) = refl
place_is (NonAnyType-Sequence' _ _ _ _ _ _) = refl
place_is (NonAnyType-Object _) = refl
place_is (NonAnyType-Symbol _) = refl
place_is (NonAnyType-Error _) = refl
place_is (NonAnyType-ArrayBuffer _) = refl
place_is (NonAnyType-DataView _) = refl
place_is (NonAnyType-Int8Array _) = refl
place_is (NonAnyType-Int16Array _) = refl
place_is (NonAnyType-Int32Array _) = refl
place_is (NonAnyType-Uint8Array _) = refl
place_is (NonAnyType-Uint16Array _) = refl
place_is (NonAnyType-Uint32Array _) = refl
place_is (NonAnyType-Uint8ClampedArray _) = refl
place_is (NonAnyType-Float32Array _) = refl
place_is (NonAnyType-Float64Array _) = refl
place_is (NonAnyType-ArrayBufferView _) = refl
place_is (NonAnyType-BufferSource _) = refl
place_is (NonAnyType-FrozenArrayType' _ _ _ _ _ _) = refl
place_is (NonAnyType-RecordType' _ _ _ _ _ _ _ _ _) = refl
place_is (NonAnyType-Identifier _) = refl

pub returns-clause-earlier : goal.returns-clause-earlier
returns-clause-earlier c a b h = order.is _ _ ∙ by_before _ _ (type.the_parts static_lft) _ (type.as_values static_lft a) (type.as_values static_lft b) (rw (place_is a, place_is b) h)

pub returns-clause-later : goal.returns-clause-later
returns-clause-later c a b h = order.is _ _ ∙ by_after _ _ (type.the_parts static_lft) _ (type.as_values static_lft a) (type.as_values static_lft b) (rw (place_is a, place_is b) h)

pub returns-clause-promise : goal.returns-clause-promise
returns-clause-promise c a b = order.is _ _ ∙ by_same _ _ (type.the_parts static_lft) _ (view.parts_whole-NonAnyType (inl (a, tt))) (view.parts_whole-NonAnyType (inl (b, tt)))

pub returns-clause-integer : goal.returns-clause-integer
returns-clause-integer c a b = order.is _ _ ∙ by_same _ _ (type.the_parts static_lft) _ (view.parts_whole-NonAnyType (inr (inl (a, tt)))) (view.parts_whole-NonAnyType (inr (inl (b, tt))))

pub returns-clause-floating_point : goal.returns-clause-floating_point
returns-clause-floating_point c a b = order.is _ _ ∙ by_same _ _ (type.the_parts static_lft) _ (view.parts_whole-NonAnyType (inr (inr (inl (a, tt))))) (view.parts_whole-NonAnyType (inr (inr (inl (b, tt)))))

pub returns-clause-boolean : goal.returns-clause-boolean
returns-clause-boolean c a b = order.is _ _ ∙ by_same _ _ (type.the_parts static_lft) _ (view.parts_whole-NonAnyType (inr (inr (inr (inl (a, tt)))))) (view.parts_whole-NonAnyType (inr (inr (inr (inl (b, tt))))))

pub returns-clause-byte : goal.returns-clause-byte
returns-clause-byte c a b = order.is _ _ ∙ by_same _ _ (type.the_parts static_lft) _ (view.parts_whole-NonAnyType (inr (inr (inr (inr (inl (a, tt))))))) (view.parts_whole-NonAnyType (inr (inr (inr (inr (inl (b, tt)))))))

pub returns-clause-octet : goal.returns-clause-octet
returns-clause-octet c a b = order.is _ _ ∙ by_same _ _ (type.the_parts static_lft) _ (view.parts_whole-NonAnyType (inr (inr (inr (inr (inr (inl (a, tt)))))))) (view.parts_whole-NonAnyType (inr (inr (inr (inr (inr (inl (b, tt))))))))

pub returns-clause-byte_string : goal.returns-clause-byte_string
returns-clause-byte_string c a b = order.is _ _ ∙ by_same _ _ (type.the_parts static_lft) _ (view.parts_whole-NonAnyType (inr (inr (inr (inr (inr (inr (inl (a, tt))))))))) (view.parts_whole-NonAnyType (inr (inr (inr (inr (inr (inr (inl (b, tt)))))))))

pub returns-clause-dom_string : goal.returns-clause-dom_string
returns-clause-dom_string c a b = order.is _ _ ∙ by_same _ _ (type.the_parts static_lft) _ (view.parts_whole-NonAnyType (inr (inr (inr (inr (inr (inr (inr (inl (a, tt)))))))))) (view.parts_whole-NonAnyType (inr (inr (inr (inr (inr (inr (inr (inl (b, tt))))))))))

pub returns-clause-usv_string : goal.returns-clause-usv_string
returns-clause-usv_string c a b = order.is _ _ ∙ by_same _ _ (type.the_parts static_lft) _ (view.parts_whole-NonAnyType (inr (inr (inr (inr (inr (inr (inr (inr (inl (a, tt))))))))))) (view.parts_whole-NonAnyType (inr (inr (inr (inr (inr (inr (inr (inr (inl (b, tt)))))))))))

pub returns-clause-sequence : goal.returns-clause-sequence
returns-clause-sequence c a b = order.is _ _ ∙ by_same _ _ (type.the_parts static_lft) _ (view.parts_whole-NonAnyType (inr (inr (inr (inr (inr (inr (inr (inr (inr (inl (a, tt)))))))))))) (view.parts_whole-NonAnyType (inr (inr (inr (inr (inr (inr (inr (inr (inr (inl (b, tt))))))))))))

pub returns-clause-object : goal.returns-clause-object
returns-clause-object c a b = order.is _ _ ∙ by_same _ _ (type.the_parts static_lft) _ (view.parts_whole-NonAnyType (inr (inr (inr (inr (inr (inr (inr (inr (inr (inr (inl (a, tt))))))))))))) (view.parts_whole-NonAnyType (inr (inr (inr (inr (inr (inr (inr (inr (inr (inr (inl (b, tt)))))))))))))

pub returns-clause-symbol : goal.returns-clause-symbol
returns-clause-symbol c a b = order.is _ _ ∙ by_same _ _ (type.the_parts static_lft) _ (view.parts_whole-NonAnyType (inr (inr (inr (inr (inr (inr (inr (inr (inr (inr (inr (inl (a, tt)))))))))))))) (view.parts_whole-NonAnyType (inr (inr (inr (inr (inr (inr (inr (inr (inr (inr (inr (inl (b, tt))))))))))))))

pub returns-clause-error : goal.returns-clause-error
returns-clause-error c a b = order.is _ _ ∙ by_same _ _ (type.the_parts static_lft) _ (view.parts_whole-NonAnyType (inr (inr (inr (inr (inr (inr (inr (inr (inr (inr (inr (inr (inl (a, tt))))))))))))))) (view.parts_whole-NonAnyType (inr (inr (inr (inr (inr (inr (inr (inr (inr (inr (inr (inr (inl (b, tt)))))))))))))))

pub returns-clause-array_buffer : goal.returns-clause-array_buffer
returns-clause-array_buffer c a b = order.is _ _ ∙ by_same _ _ (type.the_parts static_lft) _ (view.parts_whole-NonAnyType (inr (inr (inr (inr (inr (inr (inr (inr (inr (inr (inr (inr (inr (inl (a, tt)))))))))))))))) (view.parts_whole-NonAnyType (inr (inr (inr (inr (inr (inr (inr (inr (inr (inr (inr (inr (inr (inl (b, tt))))))))))))))))

pub returns-clause-data_view : goal.returns-clause-data_view
returns-clause-data_view c a b = order.is _ _ ∙ by_same _ _ (type.the_parts static_lft) _ (view.parts_whole-NonAnyType (inr (inr (inr (inr (inr (inr (inr (inr (inr (inr (inr (inr (inr (inr (inl (a, tt))))))))))))))))) (view.parts_whole-NonAnyType (inr (inr (inr (inr (inr (inr (inr (inr (inr (inr (inr (inr (inr (inr (inl (b, tt)))))))))))))))))

pub returns-clause-int8_array : goal.returns-clause-int8_array
returns-clause-int8_array c a b = order.is _ _ ∙ by_same _ _ (type.the_parts static_lft) _ (view.parts_whole-NonAnyType (inr (inr (inr (inr (inr (inr (inr (inr (inr (inr (inr (inr (inr (inr (inr (inl (a, tt)))))))))))))))))) (view.parts_whole-NonAnyType (inr (inr (inr (inr (inr (inr (inr (inr (inr (inr (inr (inr (inr (inr (inr (inl (b, tt))))))))))))))))))

pub returns-clause-int16_array : goal.returns-clause-int16_array
returns-clause-int16_array c a b = order.is _ _ ∙ by_same _ _ (type.the_parts static_lft) _ (view.parts_whole-NonAnyType (inr (inr (inr (inr (inr (inr (inr (inr (inr (inr (inr (inr (inr (inr (inr (inr (inl (a, tt))))))))))))))))))) (view.parts_whole-NonAnyType (inr (inr (inr (inr (inr (inr (inr (inr (inr (inr (inr (inr (inr (inr (inr (inr (inl (b, tt)))))))))))))))))))

pub returns-clause-int32_array : goal.returns-clause-int32_array
returns-clause-int32_array c a b = order.is _ _ ∙ by_same _ _ (type.the_parts static_lft) _ (view.parts_whole-NonAnyType (inr (inr (inr (inr (inr (inr (inr (inr (inr (inr (inr (inr (inr (inr (inr (inr (inr (inl (a, tt)))))))))))))))))))) (view.parts_whole-NonAnyType (inr (inr (inr (inr (inr (inr (inr (inr (inr (inr (inr (inr (inr (inr (inr (inr (inr (inl (b, tt))))))))))))))))))))

pub returns-clause-uint8_array : goal.returns-clause-uint8_array
returns-clause-uint8_array c a b = order.is _ _ ∙ by_same _ _ (type.the_parts static_lft) _ (view.parts_whole-NonAnyType (inr (inr (inr (inr (inr (inr (inr (inr (inr (inr (inr (inr (inr (inr (inr (inr (inr (inr (inl (a, tt))))))))))))))))))))) (view.parts_whole-NonAnyType (inr (inr (inr (inr (inr (inr (inr (inr (inr (inr (inr (inr (inr (inr (inr (inr (inr (inr (inl (b, tt)))))))))))))))))))))

pub returns-clause-uint16_array : goal.returns-clause-uint16_array
returns-clause-uint16_array c a b = order.is _ _ ∙ by_same _ _ (type.the_parts static_lft) _ (view.parts_whole-NonAnyType (inr (inr (inr (inr (inr (inr (inr (inr (inr (inr (inr (inr (inr (inr (inr (inr (inr (inr (inr (inl (a, tt)))))))))))))))))))))) (view.parts_whole-NonAnyType (inr (inr (inr (inr (inr (inr (inr (inr (inr (inr (inr (inr (inr (inr (inr (inr (inr (inr (inr (inl (b, tt))))))))))))))))))))))

pub returns-clause-uint32_array : goal.returns-clause-uint32_array
returns-clause-uint32_array c a b = order.is _ _ ∙ by_same _ _ (type.the_parts static_lft) _ (view.parts_whole-NonAnyType (inr (inr (inr (inr (inr (inr (inr (inr (inr (inr (inr (inr (inr (inr (inr (inr (inr (inr (inr (inr (inl (a, tt))))))))))))))))))))))) (view.parts_whole-NonAnyType (inr (inr (inr (inr (inr (inr (inr (inr (inr (inr (inr (inr (inr (inr (inr (inr (inr (inr (inr (inr (inl (b, tt)))))))))))))))))))))))

pub returns-clause-uint8_clamped_array : goal.returns-clause-uint8_clamped_array
returns-clause-uint8_clamped_array c a b = order.is _ _ ∙ by_same _ _ (type.the_parts static_lft) _ (view.parts_whole-NonAnyType (inr (inr (inr (inr (inr (inr (inr (inr (inr (inr (inr (inr (inr (inr (inr (inr (inr (inr (inr (inr (inr (inl (a, tt)))))))))))))))))))))))) (view.parts_whole-NonAnyType (inr (inr (inr (inr (inr (inr (inr (inr (inr (inr (inr (inr (inr (inr (inr (inr (inr (inr (inr (inr (inr (inl (b, tt))))))))))))))))))))))))

pub returns-clause-float32_array : goal.returns-clause-float32_array
returns-clause-float32_array c a b = order.is _ _ ∙ by_same _ _ (type.the_parts static_lft) _ (view.parts_whole-NonAnyType (inr (inr (inr (inr (inr (inr (inr (inr (inr (inr (inr (inr (inr (inr (inr (inr (inr (inr (inr (inr (inr (inr (inl (a, tt))))))))))))))))))))))))) (view.parts_whole-NonAnyType (inr (inr (inr (inr (inr (inr (inr (inr (inr (inr (inr (inr (inr (inr (inr (inr (inr (inr (inr (inr (inr (inr (inl (b, tt)))))))))))))))))))))))))

pub returns-clause-float64_array : goal.returns-clause-float64_array
returns-clause-float64_array c a b = order.is _ _ ∙ by_same _ _ (type.the_parts static_lft) _ (view.parts_whole-NonAnyType (inr (inr (inr (inr (inr (inr (inr (inr (inr (inr (inr (inr (inr (inr (inr (inr (inr (inr (inr (inr (inr (inr (inr (inl (a, tt)))))))))))))))))))))))))) (view.parts_whole-NonAnyType (inr (inr (inr (inr (inr (inr (inr (inr (inr (inr (inr (inr (inr (inr (inr (inr (inr (inr (inr (inr (inr (inr (inr (inl (b, tt))))))))))))))))))))))))))

pub returns-clause-array_buffer_view : goal.returns-clause-array_buffer_view
returns-clause-array_buffer_view c a b = order.is _ _ ∙ by_same _ _ (type.the_parts static_lft) _ (view.parts_whole-NonAnyType (inr (inr (inr (inr (inr (inr (inr (inr (inr (inr (inr (inr (inr (inr (inr (inr (inr (inr (inr (inr (inr (inr (inr (inr (inl (a, tt))))))))))))))))))))))))))) (view.parts_whole-NonAnyType (inr (inr (inr (inr (inr (inr (inr (inr (inr (inr (inr (inr (inr (inr (inr (inr (inr (inr (inr (inr (inr (inr (inr (inr (inl (b, tt)))))))))))))))))))))))))))

pub returns-clause-buffer_source : goal.returns-clause-buffer_source
returns-clause-buffer_source c a b = order.is _ _ ∙ by_same _ _ (type.the_parts static_lft) _ (view.parts_whole-NonAnyType (inr (inr (inr (inr (inr (inr (inr (inr (inr (inr (inr (inr (inr (inr (inr (inr (inr (inr (inr (inr (inr (inr (inr (inr (inr (inl (a, tt)))))))))))))))))))))))))))) (view.parts_whole-NonAnyType (inr (inr (inr (inr (inr (inr (inr (inr (inr (inr (inr (inr (inr (inr (inr (inr (inr (inr (inr (inr (inr (inr (inr (inr (inr (inl (b, tt))))))))))))))))))))))))))))

pub returns-clause-frozen_array_type : goal.returns-clause-frozen_array_type
returns-clause-frozen_array_type c a b = order.is _ _ ∙ by_same _ _ (type.the_parts static_lft) _ (view.parts_whole-NonAnyType (inr (inr (inr (inr (inr (inr (inr (inr (inr (inr (inr (inr (inr (inr (inr (inr (inr (inr (inr (inr (inr (inr (inr (inr (inr (inr (inl (a, tt))))))))))))))))))))))))))))) (view.parts_whole-NonAnyType (inr (inr (inr (inr (inr (inr (inr (inr (inr (inr (inr (inr (inr (inr (inr (inr (inr (inr (inr (inr (inr (inr (inr (inr (inr (inr (inl (b, tt)))))))))))))))))))))))))))))

pub returns-clause-record_type : goal.returns-clause-record_type
returns-clause-record_type c a b = order.is _ _ ∙ by_same _ _ (type.the_parts static_lft) _ (view.parts_whole-NonAnyType (inr (inr (inr (inr (inr (inr (inr (inr (inr (inr (inr (inr (inr (inr (inr (inr (inr (inr (inr (inr (inr (inr (inr (inr (inr (inr (inr (inl (a, tt)))))))))))))))))))))))))))))) (view.parts_whole-NonAnyType (inr (inr (inr (inr (inr (inr (inr (inr (inr (inr (inr (inr (inr (inr (inr (inr (inr (inr (inr (inr (inr (inr (inr (inr (inr (inr (inr (inl (b, tt))))))))))))))))))))))))))))))

pub returns-clause-identifier : goal.returns-clause-identifier
returns-clause-identifier c a b = order.is _ _ ∙ by_same _ _ (type.the_parts static_lft) _ (view.parts_whole-NonAnyType (inr (inr (inr (inr (inr (inr (inr (inr (inr (inr (inr (inr (inr (inr (inr (inr (inr (inr (inr (inr (inr (inr (inr (inr (inr (inr (inr (inr (inl (a, tt))))))))))))))))))))))))))))))) (view.parts_whole-NonAnyType (inr (inr (inr (inr (inr (inr (inr (inr (inr (inr (inr (inr (inr (inr (inr (inr (inr (inr (inr (inr (inr (inr (inr (inr (inr (inr (inr (inr (inl (b, tt)))))))))))))))))))))))))))))))
