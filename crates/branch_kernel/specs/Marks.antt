-- Sets of blocks as marks.
use Rattle.std.specs.Prelude.{◌≡◌, ℕ, ◌<◌, Bool, true, false, List, All, slice_index_or}
use Rattle.plan_rule.specs.declared.literal.Literal.{Literal}
use Rattle.plan_rule.specs.Choices.{Choices}
use Rattle.plan_rule.specs.Boxes.{LeavesFree}
use Rattle.refutation_log.specs.declared.record.Record.{Record}
use Rattle.refutation_log.specs.Steps.{result_of}

-- the block is marked
abbrev pub has : List Bool → ℕ → Bool
has marks b = slice_index_or marks b false

-- the blocks of the box, of the first 32, are marked
abbrev pub MarksAll : (ℕ → Bool) → List Literal → Type 0
MarksAll marks box = All (λ l. l.block < 32 → marks l.block ≡ true) box

-- the record's result has no literal on the block
abbrev pub LeavesUnnamed : Choices → Record → ℕ → Type 0
LeavesUnnamed c r b = LeavesFree (result_of c r) b
