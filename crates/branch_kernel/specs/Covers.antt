-- How a code of a block is covered beside a side.
use Rattle.std.specs.Prelude.{◌≡◌, ℕ, ◌+◌, ◌<◌, ◌≤◌, Bool, List, option_to_list}
use Rattle.plan_rule.specs.declared.literal.Literal.{Literal}
use Rattle.plan_rule.specs.declared.job.Job.{Job}
use Rattle.plan_rule.specs.Choices.{Choices}
use Rattle.plan_rule.specs.Boxes.{exact, with_literal}
use Rattle.refutation_log.specs.declared.record.Record.{Record}
use Rattle.nogood_store.specs.declared.nogood.Nogood.{Nogood}
use Rattle.branch_kernel.specs.declared.covering.Covered.{Covered}
use Rattle.branch_kernel.specs.declared.covering.Coverage.{Coverage}
use Rattle.branch_kernel.specs.declared.covering.Coverage.TheVariants.{Done, Open}
use Rattle.branch_kernel.specs.declared.steps.Shown.{Shown}
use Rattle.branch_kernel.specs.States.{State}
use Rattle.branch_kernel.specs.Nodes.{IsNode, IsOpenBox}
use Rattle.branch_kernel.specs.Growth.{Grows, IsReady}
use Rattle.branch_kernel.specs.Shows.{IsHandledBy, IsShown, AreCited}

-- the code is handled beside whatever keeps the blocks that are needed, and what is cited for it is an earlier record
abbrev pub CoversCode : Choices → State → State → List Literal → (ℕ → Bool) → ℕ → ℕ → Covered → Type 0
CoversCode c start now side needs b code r =
    IsHandledBy c start now r.tie side needs (option_to_list r.cite) b code × AreCited c start now r.tie (option_to_list r.cite)

-- each code of the range is handled so, and what is cited for the range is an earlier record
abbrev pub CoversRange : Choices → State → State → List Literal → (ℕ → Bool) → Literal → Covered → Type 0
CoversRange c start now side needs range r =
    ((code : ℕ) → range.lo ≤ code → code < range.hi
    → IsHandledBy c start now r.tie side needs (option_to_list r.cite) range.block code)
    × AreCited c start now r.tie (option_to_list r.cite)

-- wherever a search stands that has these stored boxes, the code is covered
abbrev pub CoversFrom : Choices → Job → List Nogood → List Literal → (ℕ → Bool) → ℕ → ℕ → Covered → Type 0
CoversFrom c job boxes side needs b code r =
    (start now : State) → now.store ≡ boxes → IsReady c job now → IsNode c job side b code (code + 1) → Grows c start now
    → CoversCode c start now side needs b code r

-- wherever a search stands that has this log, in which the record shows the side with the code, the code is covered
abbrev pub CoversByRecord : Choices → Job → List Record → Shown → List Literal → (ℕ → Bool) → ℕ → ℕ → Covered → Type 0
CoversByRecord c job log shown side needs b code r =
    (start middle now : State) → now.log ≡ log → IsReady c job middle → IsNode c job side b code (code + 1)
    → Grows c start middle → IsShown c middle now shown.tie shown.number (with_literal side (exact b code))
    → CoversCode c start now side needs b code r

-- the code is covered, or the side with the code is an open box
abbrev pub IsCoverage : Choices → Job → State → State → List Literal → (ℕ → Bool) → ℕ → ℕ → Coverage → Type 0
IsCoverage c job start now side needs b code (Done r) = CoversCode c start now side needs b code r
IsCoverage c job start now side needs b code (Open child) = (child ≡ with_literal side (exact b code)) × IsOpenBox c job child
