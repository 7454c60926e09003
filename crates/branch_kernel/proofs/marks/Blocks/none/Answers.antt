use Rattle.branch_kernel.proofs.MarkLaws.{unmarked}
use Rattle.branch_kernel.proofs.marks.Blocks.none.Goals as goal

pub returns : goal.returns
returns c = unmarked 32
