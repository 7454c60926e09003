use Rattle.std.proofs.Common.{rules}
use Rattle.std.specs.String.{string_bytes}
use Rattle.std.proofs.lemmas.Result.{IfOk-equal}
use Rattle.refutation_log.proofs.WrittenLaws.{side_empty, side_cons}
use Rattle.refutation_log.proofs.writing.put_side.Goals as goal

pub returns-in-empty : goal.returns-in-empty
returns-in-empty c = rw (side_empty c.args.side.now c.in-empty.len_below) (search rules)

pub returns-in_ok-put_literal-in-len1-up : goal.returns-in_ok-put_literal-in-len1-up
returns-in_ok-put_literal-in-len1-up c =
    IfOk-equal c.put_more_literals.result _ _ _ c.put_more_literals.ensures
    (rw c.in_ok-put_literal-in-len1-up.ensures (side_cons (string_bytes c.args.out.now) c.args.side.now (record { block = 0; lo = 0; hi = 0 }) c.in-len1-up.len_at_least))
