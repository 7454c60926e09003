-- What a record must be before it is judged: its blocks, codes and days exist, and its side is a box.
use Rattle.std.specs.Prelude.{ℕ, ◌<◌, ◌≤◌, All}
use Rattle.plan_rule.specs.Choices.{Choices, blocks}
use Rattle.plan_rule.specs.Boxes.{IsBox, LeavesFree}
use Rattle.refutation_log.specs.declared.record.Record.{Record}
use Rattle.refutation_log.specs.declared.record.Record.TheVariants.{Branch, Fit, Energy}
use Rattle.refutation_log.specs.Logs.{cites_of}
use Rattle.refutation_log.specs.Steps.{IsRange}

-- the side is a box; a branch goes over codes of a block that the side leaves free; a window lies within the days
abbrev pub HasForm : Choices → Record → Type 0
HasForm c (Branch b lo hi side cites) = IsBox c side × (b < blocks c) × LeavesFree side b × IsRange c b lo hi
HasForm c (Fit side) = IsBox c side
HasForm c (Energy from to side) = IsBox c side × (from ≤ to) × (to < c.days)

-- a record with this many records before it cites only these
abbrev pub CitesBelow : ℕ → Record → Type 0
CitesBelow step r = All (λ k. k < step) (cites_of r)
