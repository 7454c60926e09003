use Rattle.std.proofs.Common.{◌≡◌, Some}
use Rattle.scheduler_run.specs.Outcomes.{outcome_of, text_of}
use Rattle.scheduler_run.proofs.OutcomeLaws.{made_keeps, written_keeps}
use Rattle.scheduler_run.proofs.reply.make_file.Goals as goal

pub returns-in-Some-clause-others : goal.returns-in-Some-clause-others
returns-in-Some-clause-others g c =
    let is : (outcome_of c.args.reply.now).made ≡ Some (text_of c.in-Some.made) = cc in
    made_keeps _ _ _ _ is (written_keeps c.write_file.result _ _ _ _ _ c.write_file.ensures.whole c.write_file.ensures.front)
