-- What a desk tells of its files and of what was said, and when a call may fail.
use Rattle.std.specs.Prelude.{◌≡◌, ℕ, ◌+◌, ◌-◌, ◌^◌, ◌≤◌, ◌<◌, min, Bool, List, ◌++◌, length, take, drop, ◌⊎◌, Option, Some, None, option_map, unwrap_or, [], Result, if◌then◌else◌, IfSome, IsErrOf}
use Rattle.std.specs.Str.{bytes_eq}
use Rattle.yard_io.specs.declared.trouble.Trouble.{Trouble}
use Rattle.yard_io.specs.declared.trouble.Trouble.TheVariants.{Failed}

-- the bytes of the file under each name, where they are told
abbrev pub Files : Type 0
Files = List ℕ → Option (List ℕ)

-- a count after one more fault; it stays at the greatest u64
abbrev pub one_more : ℕ → ℕ
one_more faults = min (faults + 1) (2 ^ 64 - 1)

-- a count of faults rose, or stands at the greatest u64
abbrev pub Rose : ℕ → ℕ → Type 0
Rose old new = one_more old ≤ new

-- the count has not fallen, and `Failed` came only where it rose
pub record HasCause {T : Type 0} (old new : ℕ) (result : Result T Trouble) : Type 0 where
  pub later : old ≤ new
  pub failed : IsErrOf result Failed → Rose old new

-- each file is as it was
abbrev pub SameFiles : Files → Files → Type 0
SameFiles old new = (name : List ℕ) → new name ≡ old name

-- the files and the said bytes are as they were
pub record Same (old_file : Files) (old_said : Option (List ℕ)) (new_file : Files) (new_said : Option (List ℕ)) : Type 0 where
  pub files : SameFiles old_file new_file
  pub said : new_said ≡ old_said

-- at least one byte, and no more than there are
abbrev pub IsPiece : List ℕ → ℕ → Type 0
IsPiece bytes n = (0 < n) × (n ≤ length bytes)

-- the first n bytes of the buffer are the file's bytes from a place on, where that place is below the file's length
abbrev pub IsRead : Option (List ℕ) → ℕ → List ℕ → ℕ → Type 0
IsRead file at buf n = IfSome file (λ bytes. at < length bytes → take n buf ≡ take n (drop at bytes))

-- the named file has these bytes, which are told exactly where the desk tells its files; all others stay
abbrev pub Sets : Bool → Files → Files → List ℕ → List ℕ → Type 0
Sets tells old new name bytes =
    (k : List ℕ) → new k ≡ (if bytes_eq name k then (if tells then Some bytes else None) else old k)

-- the bytes of a file and then these; a missing file counts as an empty one
abbrev pub longer : Option (List ℕ) → List ℕ → List ℕ
longer file bytes = unwrap_or file [] ++ bytes

-- what was said, and then these bytes
abbrev pub then_said : Option (List ℕ) → List ℕ → Option (List ℕ)
then_said said bytes = option_map (λ s. s ++ bytes) said

-- a front of the bytes was said
abbrev pub SaidFront : Option (List ℕ) → Option (List ℕ) → List ℕ → Type 0
SaidFront old new bytes = (n : ℕ) × (n ≤ length bytes) × (new ≡ then_said old (take n bytes))

-- the named file has a front of the bytes and all others stay, or the files are as they were
abbrev pub MadeFront : Bool → Files → Files → List ℕ → List ℕ → Type 0
MadeFront tells old new name bytes =
    SameFiles old new ⊎ ((n : ℕ) × (n ≤ length bytes) × Sets tells old new name (take n bytes))
