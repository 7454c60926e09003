-- What is said of a file's text is said of its bytes.
use Rattle.std.proofs.Common.{◌≡◌, ℕ, ◌<◌, List, length, Option, Some, None, Err, IfSome, refl, sym, subst}
use Rattle.std.specs.Prelude.{replicate}
use Rattle.std.proofs.lemmas.Bool.{lt-ltb}
use Rattle.std.proofs.lemmas.List.{length-replicate}
use Rattle.yard_file.specs.Reads.{yard_of}
use Rattle.yard_file.specs.declared.fault.YardFault.TheVariants as faults
use Rattle.scheduler_run.specs.declared.yard_text.YardText.{YardText}
use Rattle.scheduler_run.specs.declared.yard_text.YardText.TheVariants.{TooLong}
use Rattle.scheduler_run.specs.YardTexts.{yard_in, IsTextOf}
use Rattle.scheduler_run.specs.Outcomes.{Outcome}
use Rattle.scheduler_run.specs.PlanAnswers.{AnswersYard, AnswersFile}

-- bytes that are too many are refused as too long
yard_of-too_long : (bytes : List ℕ) → 1048576 < length bytes → yard_of bytes ≡ Err faults.TooLong
unfolding yard_of
yard_of-too_long bytes long = rw (lt-ltb 1048576 (length bytes) long)

-- a file that is too long is read as such, whether it is told or not
pub text-too_long : (file : Option (List ℕ)) (total : ℕ) → IfSome file (λ bytes. total ≡ length bytes) → 1048576 < total
    → IsTextOf file TooLong
text-too_long None total count long = record {
  bytes = replicate total 0;
  told = tt;
  same = sym (yard_of-too_long (replicate total 0) (subst (λ n. 1048576 < n) (sym (length-replicate total 0)) long));
}
text-too_long (Some bytes) total count long = record {
  bytes = bytes;
  told = refl;
  same = sym (yard_of-too_long bytes (subst (λ n. 1048576 < n) count long));
}

-- what a file's text is answered, the file is answered
pub answers_file : (file : Option (List ℕ)) (text : YardText) (log : List ℕ) (outcome : Outcome) → IsTextOf file text
    → AnswersYard (yard_in text) log outcome → AnswersFile file log outcome
answers_file file text log outcome is answer = record {
  bytes = is.bytes;
  told = is.told;
  answer = subst (λ r. AnswersYard r log outcome) is.same answer;
}
