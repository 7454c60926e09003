-- What is read of a yard's file.
use Rattle.std.specs.Prelude.{◌≡◌, ℕ, List, Option, IfSome, Result, Err}
use Rattle.shape_exact.specs.Yards.{PlainYard}
use Rattle.yard_file.specs.Reads.{yard_of}
use Rattle.yard_file.specs.declared.fault.YardFault.{YardFault}
use Rattle.yard_file.specs.declared.fault.YardFault.TheVariants as faults
use Rattle.scheduler_run.specs.declared.yard_text.YardText.{YardText}
use Rattle.scheduler_run.specs.declared.yard_text.YardText.TheVariants.{TooLong, Bytes}

-- the yard that the text spells, or its first fault
abbrev pub yard_in : YardText → Result PlainYard YardFault
yard_in TooLong = Err faults.TooLong
yard_in (Bytes bytes) = yard_of bytes.items

-- the text is read as the file's bytes are, where the desk tells them, and else as some bytes are
pub record IsTextOf (file : Option (List ℕ)) (text : YardText) : Type 0 where
  pub bytes : List ℕ
  pub told : IfSome file (λ its. bytes ≡ its)
  pub same : yard_in text ≡ yard_of bytes
