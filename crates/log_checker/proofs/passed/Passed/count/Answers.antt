use Rattle.std.proofs.Common.{sym, subst, arith}
use Rattle.std.specs.Prelude.{All, slice_index}
use Rattle.log_checker.specs.ExactBlocks.{IsStanding}
use Rattle.log_checker.specs.PassedCodes.{AreHinderedTo}
use Rattle.log_checker.proofs.PassedLaws.{hindered_all, passed_more, standing_among}
use Rattle.log_checker.proofs.passed.Passed.count.Goals as goal

pub returns-then-self-at-clause-hindered : goal.returns-then-self-at-clause-hindered
returns-then-self-at-clause-hindered c =
    hindered_all c.args.codes.now c.args.self.now.exacts.items c.args.exacts.now c.args.block
    (slice_index c.args.self.now.counts c.from-at.result) c.requires.among
    (subst (λ b. AreHinderedTo c.args.codes.now c.args.self.now.exacts.items b (slice_index c.args.self.now.counts c.from-at.result)) c.from-at.ensures (c.requires.kept c.from-at.result (omega arith)))

pub first_clear-count-requires-clause-standing : goal.first_clear-count-requires-clause-standing
first_clear-count-requires-clause-standing c =
    subst (All (IsStanding c.args.codes.now)) (sym c.as_slice.ensures.value)
    (standing_among c.args.codes.now c.args.self.now.exacts.items c.args.exacts.now c.requires.among c.requires.standing)

pub returns-clause-hindered : goal.returns-clause-hindered
returns-clause-hindered c =
    hindered_all c.args.codes.now c.args.self.now.exacts.items c.args.exacts.now c.args.block c.first_clear-count.result c.requires.among
    (subst (λ list. AreHinderedTo c.args.codes.now list c.args.block c.first_clear-count.result) c.as_slice.ensures.value
    c.first_clear-count.ensures.hindered)

pub returns-clause-kept : goal.returns-clause-kept
returns-clause-kept c =
    passed_more c.args.codes.now c.args.self.now.exacts.items c.args.self.now.counts c.from-at.result c.first_clear-count.result (omega arith)
    c.requires.kept
    (subst (λ b. AreHinderedTo c.args.codes.now c.args.self.now.exacts.items b c.first_clear-count.result) (sym c.from-at.ensures)
    (subst (λ list. AreHinderedTo c.args.codes.now list c.args.block c.first_clear-count.result) c.as_slice.ensures.value
    c.first_clear-count.ensures.hindered))
