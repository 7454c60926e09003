use Rattle.plan_rule.specs.Yards.{choices}
use Rattle.branch_kernel.specs.Marks.{has}
use Rattle.branch_core.proofs.RegionLaws.{hit_single, hit_cites}
use Rattle.branch_core.proofs.single.take_hit.Goals as goal

pub returns-clause-shown : goal.returns-clause-shown
returns-clause-shown c = λ bar best ready.
    hit_single (choices c.args.codes.now) c.args.job c.args.front.now c.args.lo c.args.hi c.args.place c.args.tag c.in_ok-side.side c.exact-range.result bar best c.args.log.now c.close.new.log
    c.args.store.now c.close.new.store (has c.add_all.new.self) _ _ c.close.result c.requires.part ready c.requires.hit c.in_ok-side.ensures c.add_all.ensures.added c.exact-range.ensures
    c.new-cites.ensures.items c.in_ok-push.ensures.items c.close.ensures

pub returns-clause-cites : goal.returns-clause-cites
returns-clause-cites c =
    hit_cites (choices c.args.codes.now) c.in_ok-side.side c.exact-range.result c.args.tag c.args.log.now c.close.new.log c.args.store.now c.close.new.store (has c.add_all.new.self) _ _ c.close.result
    c.new-cites.ensures.items c.in_ok-push.ensures.items c.close.ensures
