use Rattle.std.proofs.Common.{arith}
use Rattle.std.proofs.lemmas.Bool.{false≢true}
use Rattle.code_table.proofs.CodeLaws.{stand_told}
use Rattle.code_table.proofs.code.has_stand.Goals as goal

pub returns-in-Some : goal.returns-in-Some
returns-in-Some c =
    stand_told c.args.yard.now c.args.block.now c.args.placement.now c.in-Some.end (let d = c.days.ensures.value in omega arith) (omega arith)
    c.if-not-block-placement.false c.in-Some.ensures.some

pub returns-in-None : goal.returns-in-None
returns-in-None c =
    ((λ t. absurd (false≢true t)), λ has. absurd (c.in-None.ensures.endless c.args.placement.now.end has.ends))
