-- The box of a region's prefix. No public clause speaks of this.
use Rattle.std.specs.Prelude.{ℕ, ◌<◌, List, length, MatchOption}
use Rattle.plan_rule.specs.Choices.{Choices, MeetsSome, blocks, count}
use Rattle.plan_rule.specs.Plans.{code_of}
use Rattle.plan_rule.specs.Boxes.{HasExact}
use Rattle.branch_kernel.specs.Boxes.{IsClear, IsFront}
use Rattle.branch_core.specs.declared.front.Misfit.{Misfit}
use Rattle.branch_core.specs.declared.front.Front.{Front}
use Rattle.branch_core.specs.declared.front.Front.TheVariants.{Clear, Refused}

-- the codes are codes of the first blocks
abbrev pub AreCodesOf : Choices → List ℕ → Type 0
AreCodesOf c codes = (b : ℕ) → b < length codes → (b < blocks c) × (code_of codes b < count c b)

-- a code of the prefix clashes with an earlier code of it, or meets a piece
pub record IsMisfit (c : Choices) (codes : List ℕ) (misfit : Misfit) : Type 0 where
  pub within : misfit.place < length codes
  pub front : IsFront c codes misfit.place misfit.side
  pub reason : MatchOption misfit.other (MeetsSome c misfit.place (code_of codes misfit.place))
      (λ a. (d : ℕ) × HasExact misfit.side a d × c.Clash a d misfit.place (code_of codes misfit.place))

-- the box of the prefix, without a clash and without a meeting; or its first misfit
abbrev pub IsFrontOf : Choices → List ℕ → Front → Type 0
IsFrontOf c codes (Clear side) = IsFront c codes (length codes) side × IsClear c side
IsFrontOf c codes (Refused misfit) = IsMisfit c codes misfit
