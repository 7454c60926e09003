use Rattle.std.proofs.Common.{◌∙◌}
use Rattle.branch_kernel.proofs.NodeLaws.{tie_beats}
use Rattle.branch_kernel.proofs.bounds.beats.Goals as goal

pub returns-then-behind-clause-some : goal.returns-then-behind-clause-some
returns-then-behind-clause-some c =
    tie_beats _ _ _ _ _ _ _ c.requires.known c.requires.held c.in-Some.is c.in-Number.is (c.if-least-total.true ∙ c.total.ensures) (c.behind.ensures.0 c.if-behind.true)
