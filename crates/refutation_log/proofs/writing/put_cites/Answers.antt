use Rattle.std.proofs.Common.{rules}
use Rattle.std.specs.String.{string_bytes}
use Rattle.std.proofs.lemmas.Result.{IfOk-equal}
use Rattle.refutation_log.proofs.WrittenLaws.{cites_empty, cites_cons}
use Rattle.refutation_log.proofs.writing.put_cites.Goals as goal

pub returns-in-empty : goal.returns-in-empty
returns-in-empty c = rw (cites_empty c.args.cites.now c.in-empty.len_below) (search rules)

pub returns-in_ok-write-in-len1-up : goal.returns-in_ok-write-in-len1-up
returns-in_ok-write-in-len1-up c =
    IfOk-equal c.put_more_cites.result _ _ _ c.put_more_cites.ensures
    (rw c.in_ok-write-in-len1-up.ensures.bytes (cites_cons (string_bytes c.args.out.now) c.args.cites.now (0) c.in-len1-up.len_at_least))
