-- Calls numbered by kind.
use Rattle.std.specs.Prelude.{ℕ, ◌+◌, ◌-◌, ◌^◌, min, List}
use Rattle.std.specs.List.{Contains}
use Rattle.yard_io.specs.declared.calls.DeskCall.{DeskCall}
use Rattle.yard_io.specs.declared.calls.DeskCall.TheVariants.{Length, Read, Fresh, Append, Say}
use Rattle.yard_io.specs.declared.calls.Made.{Made}
use Rattle.yard_io.specs.declared.calls.NumberedCall.{NumberedCall}

-- no call of any kind
abbrev pub none_made : Made
none_made = record { lengths = 0; reads = 0; fresh = 0; appends = 0; says = 0 }

-- how many calls of a kind were made, which is the number of the next one
abbrev pub number : Made → DeskCall → ℕ
number made Length = made.lengths
number made Read = made.reads
number made Fresh = made.fresh
number made Append = made.appends
number made Say = made.says

-- one call more; the count stays at the greatest u128, which is above the number of any call that can be listed
abbrev pub one_call_more : ℕ → ℕ
one_call_more calls = min (calls + 1) (2 ^ 128 - 1)

-- the counts after one more call of a kind
abbrev pub with_call : Made → DeskCall → Made
with_call made Length = record made { lengths = one_call_more made.lengths }
with_call made Read = record made { reads = one_call_more made.reads }
with_call made Fresh = record made { fresh = one_call_more made.fresh }
with_call made Append = record made { appends = one_call_more made.appends }
with_call made Say = record made { says = one_call_more made.says }

-- the nth call of a kind, from 0
abbrev pub nth_call : DeskCall → ℕ → NumberedCall
nth_call call n = record { call = call; number = n }

-- the next call of a kind is among the listed ones
abbrev pub IsNextListed : List NumberedCall → Made → DeskCall → Type 0
IsNextListed listed made call = Contains listed (nth_call call (number made call))
