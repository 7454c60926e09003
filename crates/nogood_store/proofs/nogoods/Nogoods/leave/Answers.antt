use Rattle.std.proofs.Common.{◌≡◌, ◌-◌, length, take, slice_index, subst, arith}
use Rattle.std.proofs.lemmas.List.{take-take, length-take-le}
use Rattle.nogood_store.specs.Entered.{AreEntered}
use Rattle.nogood_store.proofs.EnterLaws.{left}
use Rattle.nogood_store.proofs.nogoods.Nogoods.leave.Goals as goal

pub invariant_of-self : goal.invariant_of-self
invariant_of-self c =
    let is = c.self.invariant in
    let was = c.self.inside in
    let d = was.depth - 1 in
    let list = was.list.items in
    let codes = take was.depth was.codes in
    let deep = is.deep in
    let blocks = is.blocks in
    let long : length codes ≡ was.depth = length-take-le was.depth was.codes (omega arith) in
    let same : take d codes ≡ take d was.codes = take-take d was.depth was.codes (omega arith) in
    let cap = c.truncate.ensures.capacity in
    let roomy = is.roomy in
    record {
      deep = omega arith;
      blocks = blocks;
      few = is.few;
      counted = is.counted;
      entered = rw c.truncate.ensures.items
          (subst (λ t. AreEntered list t was.trail.marks (take (slice_index was.trail.marks d) was.trail.steps.items) c.rewind.new.chains) same
          (left list codes was.trail.marks was.trail.steps.items was.chains c.rewind.new.chains d is.entered (omega arith)
          c.rewind.ensures.back c.rewind.ensures.entries c.rewind.ensures.spare_moves));
      roomy = omega arith;
      spare_marked = is.spare_marked;
      spare_roomy = is.spare_roomy;
    }
