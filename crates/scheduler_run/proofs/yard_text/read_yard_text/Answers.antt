use Rattle.scheduler_run.proofs.FileLaws.{text-too_long}
use Rattle.scheduler_run.proofs.yard_text.read_yard_text.Goals as goal

pub returns-then-total-gt-MOST_BYTES-clause-text : goal.returns-then-total-gt-MOST_BYTES-clause-text
returns-then-total-gt-MOST_BYTES-clause-text g c =
    text-too_long _ c.in_ok-total.total c.in_ok-total.ensures.count c.if-total-gt-MOST_BYTES.true
