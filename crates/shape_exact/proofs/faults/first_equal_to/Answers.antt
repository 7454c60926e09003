use Rattle.std.proofs.Common.{◌∙◌, sym, ◌+◌, arith}
use Rattle.common_lists.proofs.FirstLaws.{first_more, first_is, none_below}
use Rattle.shape_exact.proofs.ReadLaws.{equal_at, not_after, unlike, alike}
use Rattle.shape_exact.proofs.faults.first_equal_to.Goals as goal

pub loop-j-init : goal.loop-j-init
loop-j-init c = none_below (c.args.i + 1) (equal_at c.args.points.now c.args.i) (λ j l. not_after c.args.points.now c.args.i j (omega arith))

pub loop-j-preserved : goal.loop-j-preserved
loop-j-preserved c =
    first_more c.loop-j.j (equal_at c.args.points.now c.args.i) c.loop-j.invariant
    (unlike c.args.points.now c.args.i c.loop-j.j (sym c.is_same.ensures ∙ c.if-is_same.false))

pub returns-then-is_same : goal.returns-then-is_same
returns-then-is_same c =
    sym (first_is _ c.loop-j.j (equal_at c.args.points.now c.args.i) c.loop-j.j c.loop-j.invariant c.loop-j-test.true
    (alike c.args.points.now c.args.i c.loop-j.j (omega arith) (sym c.is_same.ensures ∙ c.if-is_same.true)))
