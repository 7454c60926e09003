use Rattle.std.proofs.Common.{◌∙◌}
use Rattle.branch_search.proofs.FloorLaws.{tie_bound}
use Rattle.branch_search.proofs.floor.beats_from.Goals as goal

pub returns-then-behind-clause-some : goal.returns-then-behind-clause-some
returns-then-behind-clause-some c =
    tie_bound _ _ _ _ _ _ _ c.requires.known c.requires.fits c.requires.held c.in-Some.is c.in-Number.is (c.if-least-total.true ∙ c.total.ensures) (c.behind.ensures.0 c.if-behind.true)
