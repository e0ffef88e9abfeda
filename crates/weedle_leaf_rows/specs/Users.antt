-- The readings of two types of a user.
use Rattle.std.specs.Prelude.{◌≡◌, ◌≢◌, slice_index}
use Rattle.weedle_base.specs.Reading.{Reading}
use Rattle.weedle_base.specs.declared.fault.ErrorKind.TheVariants.{Unread}

-- it is read from every text, and takes nothing
abbrev pub nothing_reading : {V : Type 0} → Reading V
nothing_reading = record { gives = λ s v k. k ≡ 0; refuses = λ s. ⊥; stops = λ s r code. ⊥; grows = ⊥; alike = λ v w. Unit {0} }

-- where a `!` is the call stops with the text; every other text is refused
abbrev pub fuse_reading : {V : Type 0} → Reading V
fuse_reading = record {
  gives = λ s v k. ⊥;
  refuses = λ s. slice_index s 0 ≢ 33;
  stops = λ s r code. (slice_index s 0 ≡ 33) × (r ≡ s) × (code ≡ Unread);
  grows = Unit {0};
  alike = λ v w. Unit {0};
}
