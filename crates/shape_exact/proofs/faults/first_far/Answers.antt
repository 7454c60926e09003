use Rattle.std.proofs.Common.{◌≡◌, ◌∙◌, sym, refl, true, false}
use Rattle.shape_exact.specs.Reading.{is_near, vertex}
use Rattle.common_lists.proofs.FirstLaws.{first_more, first_is}
use Rattle.shape_exact.proofs.ReadLaws.{far_at}
use Rattle.shape_exact.proofs.faults.first_far.Goals as goal

pub loop-i-preserved : goal.loop-i-preserved
loop-i-preserved c =
    let near : is_near (vertex c.args.points.now c.loop-i.i) ≡ true = sym c.is_near.ensures ∙ c.if-not-is_near.false in
    first_more c.loop-i.i (far_at c.args.points.now) c.loop-i.invariant (rw near refl)

pub returns-then-not-is_near : goal.returns-then-not-is_near
returns-then-not-is_near c =
    let far : is_near (vertex c.args.points.now c.loop-i.i) ≡ false = sym c.is_near.ensures ∙ c.if-not-is_near.true in
    sym (first_is _ c.loop-i.i (far_at c.args.points.now) c.loop-i.i c.loop-i.invariant c.loop-i-test.true (rw far refl))
