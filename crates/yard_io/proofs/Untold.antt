-- What a desk that tells nothing meets of the clauses of a desk, whatever its calls answer.
use Rattle.std.proofs.Common.{◌≡◌, ℕ, ◌≤◌, List, [], true, false, Bool, Option, None, Result, Ok, Err, OnOk, OnErr, cond, refl}
use Rattle.std.specs.Str.{bytes_eq}
use Rattle.yard_io.specs.Desk.{Files, HasCause, Rose, Same, SameFiles, Sets}
use Rattle.yard_io.specs.declared.trouble.Trouble.{Trouble}

-- the files of a desk that tells none
abbrev pub no_files : Files
no_files name = None

pub same_files : SameFiles no_files no_files
same_files name = refl

pub same : Same no_files None no_files None
same = record { files = same_files; said = refl }

-- a count that rises at each Err rises where the answer is `Failed`
pub counted : {T : Type 0} (old new : ℕ) (r : Result T Trouble) → OnErr r (Rose old new) → old ≤ new → HasCause old new r
counted old new (Ok x) rose later = record { later = later; failed = λ is. cc }
counted old new (Err e) rose later = record { later = later; failed = λ is. rose }

neither : (file : Option (List ℕ)) (b : Bool) → file ≡ cond b file file
neither file true = refl
neither file false = refl

-- setting a file of such a desk, whatever the bytes are
pub sets : (name : List ℕ) → Sets false no_files no_files name []
sets name k = neither None (bytes_eq name k)

-- what holds anyway holds at an Ok, and at an Err
pub at_ok : {T : Type 0} (P : Type 0) (r : Result T Trouble) → P → OnOk r P
at_ok P (Ok x) p = p
at_ok P (Err e) p = tt

pub at_err : {T : Type 0} (P : Type 0) (r : Result T Trouble) → P → OnErr r P
at_err P (Ok x) p = tt
at_err P (Err e) p = p
