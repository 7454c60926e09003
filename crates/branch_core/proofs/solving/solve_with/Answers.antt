use Rattle.std.proofs.Common.{◌≡◌, ◌<◌, length, sym, subst}
use Rattle.plan_rule.specs.Regions.{IsRegion, IsRegionPart}
use Rattle.plan_rule.specs.Yards.{choices}
use Rattle.branch_core.proofs.EmptyLaws.{one_record, part_some}
use Rattle.branch_core.proofs.solving.solve_with.Goals as goal

pub solve_part-requires-clause-some : goal.solve_part-requires-clause-some
solve_part-requires-clause-some g c =
    let part = subst (IsRegion (choices c.args.codes.now) c.args.job) c.in-Part.is c.region_of.ensures in
    subst (λ codes. c.in-Part.hi ≡ 0 → 0 < length codes) (sym c.codes.ensures)
    (part_some c.args.codes.now c.args.job c.in-Part.exact c.in-Part.lo c.in-Part.hi c.limits.ensures.blocks part)

pub returns-in-Part-clause-one_record : goal.returns-in-Part-clause-one_record
returns-in-Part-clause-one_record g c =
    let part = subst (IsRegion (choices c.args.codes.now) c.args.job) c.in-Part.is c.region_of.ensures in
    one_record (choices c.args.codes.now) c.args.job c.codes.result.now c.in-Part.lo c.in-Part.hi _ _ _ _ c.solve_part.result
    (subst (λ codes. IsRegionPart (choices c.args.codes.now) c.args.job codes c.in-Part.lo c.in-Part.hi) (sym c.codes.ensures) part)
    c.solve_part.ensures.hit c.solve_part.ensures.bound
