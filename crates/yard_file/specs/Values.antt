-- What the value under a key is read as, or the rule that it breaks.
use Rattle.std.specs.Prelude.{ℕ, ◌&&◌, Option, Some, None, Result, Ok, Err, ℤ, pos, negsuc, if◌then◌else◌, nat_le}
use Rattle.toml.specs.Data.{Data, Members, get_member, as_integer}
use Rattle.yard_file.specs.Places.{word}
use Rattle.yard_file.specs.declared.place.At.{At}
use Rattle.yard_file.specs.declared.place.Key.{Key}
use Rattle.yard_file.specs.declared.fault.YardFault.{YardFault}
use Rattle.yard_file.specs.declared.fault.YardFault.TheVariants as faults

-- what follows from a value: the rules that come after it, where it breaks none
infixl 10 ◌>>=◌
abbrev pub ◌>>=◌ : {A B E : Type 0} → Result A E → (A → Result B E) → Result B E
(Ok x) >>= f = f x
(Err e) >>= f = Err e

-- an answer with another view of its value
abbrev pub viewed : {A B : Type 0} → (A → B) → Result A YardFault → Result B YardFault
viewed f (Ok x) = Ok (f x)
viewed f (Err fault) = Err fault

-- the value under a key
abbrev pub value_in : Key → Members → Option Data
value_in key ms = get_member (word key) ms

-- a value of the kind
abbrev pub of_kind : {A : Type 0} → At → Key → Option A → Result A YardFault
of_kind at key None = Err (faults.Kind at key)
of_kind at key (Some x) = Ok x

-- the integer as a number of the range, both ends included
abbrev pub within : At → Key → ℕ → ℕ → ℤ → Result ℕ YardFault
within at key low high (pos n) = if nat_le low n && nat_le n high then Ok n else Err (faults.Number at key (pos n))
within at key low high (negsuc n) = Err (faults.Number at key (negsuc n))

-- an integer that has to be there
abbrev pub integer_of : At → Key → Option Data → Result ℤ YardFault
integer_of at key None = Err (faults.Missing at key)
integer_of at key (Some d) = of_kind at key (as_integer d)

-- a number that has to be there: Missing, Kind, Number
abbrev pub number_in : At → Key → ℕ → ℕ → Members → Result ℕ YardFault
number_in at key low high ms = integer_of at key (value_in key ms) >>= within at key low high

-- a number that is another one where its key is absent: Kind, Number
abbrev pub optional_of : At → Key → ℕ → ℕ → ℕ → Option Data → Result ℕ YardFault
optional_of at key low high absent None = Ok absent
optional_of at key low high absent (Some d) = of_kind at key (as_integer d) >>= within at key low high

abbrev pub optional_in : At → Key → ℕ → ℕ → ℕ → Members → Result ℕ YardFault
optional_in at key low high absent ms = optional_of at key low high absent (value_in key ms)
