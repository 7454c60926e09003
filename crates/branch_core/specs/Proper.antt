-- Records that can be written, cite earlier records alone and name blocks of the yard.
use Rattle.std.specs.Prelude.{◌≡◌, ℕ, ◌<◌, ◌≤◌, List, Some, slice_get, All}
use Rattle.plan_rule.specs.Choices.{Choices, blocks}
use Rattle.refutation_log.specs.declared.record.Record.{Record}
use Rattle.refutation_log.specs.declared.record.Record.TheVariants.{Branch, Fit, Energy}
use Rattle.refutation_log.specs.Logs.{cites_of}
use Rattle.refutation_log.specs.Spelling.{HasText}

-- the blocks of the record are blocks of the yard
abbrev pub NamesBlocks : Choices → Record → Type 0
NamesBlocks c (Branch b lo hi side cites) = (b < blocks c) × All (λ l. l.block < blocks c) side
NamesBlocks c (Fit side) = All (λ l. l.block < blocks c) side
NamesBlocks c (Energy from to side) = All (λ l. l.block < blocks c) side

-- the record with this number has a text, cites earlier records alone, and names blocks of the yard
pub record IsProper (c : Choices) (i : ℕ) (r : Record) : Type 0 where
  pub text : HasText r
  pub earlier : All (λ k. k < i) (cites_of r)
  pub names : NamesBlocks c r

-- the records from a number on are proper
abbrev pub AreProper : Choices → ℕ → List Record → Type 0
AreProper c from log = (i : ℕ) (r : Record) → from ≤ i → slice_get log i ≡ Some r → IsProper c i r
