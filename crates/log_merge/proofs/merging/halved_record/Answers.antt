use Rattle.std.proofs.Common.{ap, ◌∙◌, length}
use Rattle.plan_rule.specs.RegionBoxes.{exact_literals}
use Rattle.plan_rule.specs.Yards.{choices}
use Rattle.log_merge.proofs.Boxes.{as_record}
use Rattle.log_merge.proofs.merging.halved_record.Goals as goal

pub returns : goal.returns
returns c =
    as_record (choices c.args.codes.now) c.args.job c.in-Part.exact c.in-Part.lo c.in-Part.hi c.args.first c.args.second _ _ _ c.in-Part.ensures c.requires.two c.requires.job.1
    (ap length c.codes.ensures) (c.in_ok-side.ensures ∙ ap (exact_literals (choices c.args.codes.now) 0) c.codes-2.ensures) c.in_ok-cites.ensures
