-- What a run of the program does: what it reads, and what it writes of the text that was read.
use Rattle.std.specs.Prelude.{◌≡◌, ℕ, ◌-◌, ◌<◌, List, ◌++◌, length, take, decimal, codes, Option, IsUtf8}
use Rattle.std.specs.Io.KnownBytes.{Appends, Consumes, IsAtEnd}
use Rattle.weedle_front.specs.Whole.{IsWhole, IsLeft}
use Rattle.weedle_front.specs.declared.program.Status.{Status}
use Rattle.weedle_front.specs.declared.program.Status.TheVariants.{Read, Unread}
use Rattle.weedle_idl.specs.declared.definition.Definition.{Definition}
use Rattle.weedle_view.specs.Report.{line}

-- the line of a text that is not read whole: the byte at which the remaining input begins
abbrev pub unread_report : List ℕ → List ℕ → List ℕ
unread_report text rest = line (codes "unread at byte " ++ decimal (length text - length rest))

-- the report of a text, by what is written of definitions: theirs where the grammar reads it whole,
-- and else where the remaining input begins
module _ (written : List Definition → List ℕ) (text report : List ℕ) where
  abbrev pub IsReport : Status → Type 0
  IsReport Read = (definitions : List Definition) × IsWhole text definitions × (report ≡ written definitions)
  IsReport Unread =
      ((definitions : List Definition) → ¬ IsWhole text definitions)
      × ((rest : List ℕ) × IsLeft text rest × (report ≡ unread_report text rest))

-- an input gave these bytes, all that it had left
abbrev pub ReadsAll : Option (List ℕ) → Option (List ℕ) → List ℕ → Type 0
ReadsAll old new bytes = Consumes old new bytes × IsAtEnd new

-- an output took the beginning of these bytes, and not all of them
abbrev pub AppendsPart : Option (List ℕ) → Option (List ℕ) → List ℕ → Type 0
AppendsPart old new bytes = (n : ℕ) × (n < length bytes) × Appends old new (take n bytes)

-- what a run does, by what is written of definitions, and by what the input and the output have before it and after it
module _ (written : List Definition → List ℕ) (old_reader new_reader old_writer new_writer : Option (List ℕ)) where
  -- all that was read is a text, and its report is written
  pub record Reports (status : Status) : Type 0 where
    pub text : List ℕ
    pub report : List ℕ
    pub reads : ReadsAll old_reader new_reader text
    pub is_text : IsUtf8 text
    pub is_report : IsReport written text report status
    pub writes : Appends old_writer new_writer report

  -- all that was read is a text, and a part of its report is written
  pub record ReportsPart : Type 0 where
    pub text : List ℕ
    pub report : List ℕ
    pub status : Status
    pub reads : ReadsAll old_reader new_reader text
    pub is_text : IsUtf8 text
    pub is_report : IsReport written text report status
    pub writes : AppendsPart old_writer new_writer report

-- all that was read is no text
pub record ReadsNoText (old new : Option (List ℕ)) : Type 0 where
  pub bytes : List ℕ
  pub reads : ReadsAll old new bytes
  pub no_text : ¬ IsUtf8 bytes
