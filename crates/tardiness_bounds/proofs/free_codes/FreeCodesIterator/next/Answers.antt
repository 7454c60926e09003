use Rattle.std.proofs.Common.{subst}
use Rattle.tardiness_bounds.specs.FreeCodes.{GivesNext, PlainFreeCodes}
use Rattle.tardiness_bounds.proofs.FreeCodesLaws.{gives, left_from, progress}
use Rattle.tardiness_bounds.proofs.free_codes.FreeCodesIterator.next.Goals as goal

pub returns-clause-steps : goal.returns-clause-steps
returns-clause-steps c =
    let i = c.self.inside in
    subst (λ (s : PlainFreeCodes). GivesNext s c.next_code.result (left_from i.tables.now.yard i.list.now i.block i.most c.next_code.new.walk.from)) c.self.view_is
    (gives i.tables.now.yard i.list.now i.block i.most i.walk c.next_code.new.walk c.next_code.result c.self.invariant c.next_code.ensures.next c.next_code.ensures.from c.next_code.ensures.end)

pub returns-clause-goes : goal.returns-clause-goes
returns-clause-goes c =
    let i = c.self.inside in
    progress c.args.self.now (left_from i.tables.now.yard i.list.now i.block i.most c.next_code.new.walk.from) c.next_code.result
    (subst (λ (s : PlainFreeCodes). GivesNext s c.next_code.result (left_from i.tables.now.yard i.list.now i.block i.most c.next_code.new.walk.from)) c.self.view_is
    (gives i.tables.now.yard i.list.now i.block i.most i.walk c.next_code.new.walk c.next_code.result c.self.invariant c.next_code.ensures.next c.next_code.ensures.from c.next_code.ensures.end))
