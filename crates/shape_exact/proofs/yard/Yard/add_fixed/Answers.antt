use Rattle.shape_exact.proofs.YardLaws.{yard_with_fixed}
use Rattle.shape_exact.proofs.yard.Yard.add_fixed.Goals as goal

pub invariant_of-self : goal.invariant_of-self
invariant_of-self c =
    rw c.push.ensures.items (yard_with_fixed _ c.args.piece c.self.invariant (rw (← c.self.view_is) at c.requires))
