use Rattle.std.proofs.Common.{map}
use Rattle.scheduler_run.specs.Outcomes.{outcome_of}
use Rattle.scheduler_run.proofs.AnswerLaws.{keeps_others}
use Rattle.scheduler_run.proofs.OutcomeLaws.{gives_answer, gives_front, keeps_before}
use Rattle.scheduler_run.proofs.top_call.run.Goals as goal

pub returns-in-Ok-clause-answer : goal.returns-in-Ok-clause-answer
returns-in-Ok-clause-answer g c answered =
    gives_answer _ _ _ _ _ _ _ _ _ _ _ c.in-Ok.ensures.answer (c.give.ensures.status answered) c.reply_to.ensures.same
    c.reply_to.ensures.tells (c.give.ensures.whole answered)

pub returns-in-Ok-clause-front : goal.returns-in-Ok-clause-front
returns-in-Ok-clause-front g c short =
    gives_front _ _ _ _ _ _ _ _ _ _ c.in-Ok.ensures.answer c.reply_to.ensures.same c.reply_to.ensures.tells (c.give.ensures.front short)

pub returns-in-Ok-clause-files : goal.returns-in-Ok-clause-files
returns-in-Ok-clause-files g c =
    keeps_others (map (λ w. w.now) c.args.words.now) (g.D.Desk.file c.args.desk.now) (outcome_of c.in-Ok.reply) _ _
    c.in-Ok.ensures.answer (keeps_before _ _ _ _ c.reply_to.ensures.same.files c.give.ensures.others)
