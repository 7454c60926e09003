use Rattle.std.proofs.Common.{refl, arith}
use Rattle.nogood_store.proofs.AddLaws.{fresh}
use Rattle.nogood_store.proofs.nogoods.Nogoods.new.Goals as goal

pub invariant_of-result : goal.invariant_of-result
invariant_of-result c =
    let marks = c.new-3.ensures.marks in
    rw (c.new.ensures.items, c.new-3.ensures.steps) (record {
      deep = omega arith;
      blocks = refl;
      few = omega arith;
      counted = refl;
      entered = fresh c.new-3.result.marks 33 c.in_ok-new.field-0 refl marks.depths marks.none
          c.in_ok-new.ensures.lists c.in_ok-new.ensures.past c.in_ok-new.ensures.entries;
      roomy = omega arith;
      spare_marked = c.new-4.ensures.marks;
      spare_roomy = omega arith;
    })
