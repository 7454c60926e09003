use Rattle.shape_exact.proofs.ReadLaws.{within_more}
use Rattle.shape_exact.proofs.faults.cross_at.Goals as goal

pub end_of-requires-clause-vertices : goal.end_of-requires-clause-vertices
end_of-requires-clause-vertices c = within_more c.args.points.now c.requires.near
