-- What contracts see of a desk in memory whose calls fail where they are listed.
use Rattle.std.specs.Prelude.{◌≡◌, ℕ, ◌≤◌, List, length, Option, MatchOption, Result, Ok, Err}
use Rattle.yard_io.specs.Calls.{with_call, IsNextListed}
use Rattle.yard_io.specs.Desk.{one_more}
use Rattle.yard_io.specs.QuietDesk as quiet
use Rattle.yard_io.specs.declared.calls.DeskCall.{DeskCall}
use Rattle.yard_io.specs.declared.calls.Made.{Made}
use Rattle.yard_io.specs.declared.calls.NumberedCall.{NumberedCall}
use Rattle.yard_io.specs.declared.memory.MemoryDesk.{MemoryDesk}
use Rattle.yard_io.specs.declared.trouble.Trouble.{Trouble}
use Rattle.yard_io.specs.declared.trouble.Trouble.TheVariants.{Failed, Memory}

-- the most bytes that go in one piece
abbrev pub bite_of : MemoryDesk → ℕ
bite_of desk = quiet.bite_of desk.held

-- the bytes of the file under a name
abbrev pub file_of : MemoryDesk → List ℕ → Option (List ℕ)
file_of desk name = quiet.file_of desk.held name

-- the bytes that were said
abbrev pub said_of : MemoryDesk → List ℕ
said_of desk = quiet.said_of desk.held

-- the count of faults of reading
abbrev pub reads_of : MemoryDesk → ℕ
reads_of desk = desk.faults.reads

-- the count of faults of writing
abbrev pub writes_of : MemoryDesk → ℕ
writes_of desk = desk.faults.writes

-- how many calls of each kind were made
abbrev pub made_of : MemoryDesk → Made
made_of desk = desk.failures.made

-- the calls that are to fail
abbrev pub failures_of : MemoryDesk → List NumberedCall
failures_of desk = desk.failures.listed.items

-- the next call of a kind is listed to fail
abbrev pub IsToFail : MemoryDesk → DeskCall → Type 0
IsToFail desk call = IsNextListed (failures_of desk) (made_of desk) call

-- there is no such file, or it has no byte at this place
abbrev pub IsMissing : Option (List ℕ) → ℕ → Type 0
IsMissing file at = MatchOption file (Unit {0}) (λ bytes. length bytes ≤ at)

-- a count of faults after a call of its kind: it rises where the call answers `Failed`, and nowhere else
abbrev pub faults_after : {T : Type 0} → ℕ → Result T Trouble → ℕ
faults_after faults (Ok x) = faults
faults_after faults (Err Failed) = one_more faults
faults_after faults (Err Memory) = faults

-- a call of this kind was counted; the bite and the list of failures stay
pub record Counts (call : DeskCall) (old new : MemoryDesk) : Type 0 where
  pub made : made_of new ≡ with_call (made_of old) call
  pub failures : failures_of new ≡ failures_of old
  pub bite : bite_of new ≡ bite_of old

-- no call was counted, no count of faults rose, and the bite stays
pub record Rests (old new : MemoryDesk) : Type 0 where
  pub made : made_of new ≡ made_of old
  pub bite : bite_of new ≡ bite_of old
  pub reads : reads_of new ≡ reads_of old
  pub writes : writes_of new ≡ writes_of old
