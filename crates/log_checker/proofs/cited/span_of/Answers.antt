use Rattle.std.proofs.Common.{refl}
use Rattle.std.proofs.lemmas.Bool.{false≢true}
use Rattle.plan_rule.specs.Yards.{choices}
use Rattle.log_checker.proofs.SpanLaws.{no_span, some_span}
use Rattle.log_checker.proofs.cited.span_of.Goals as goal

pub returns-then-not-holds_others : goal.returns-then-not-holds_others
returns-then-not-holds_others c =
    no_span (choices c.args.codes.now) c.args.outer.now c.args.side.now c.args.block c.requires.free
    (λ h. false≢true (c.if-not-holds_others.ensures.1 h))

pub returns : goal.returns
returns c =
    some_span (choices c.args.codes.now) c.args.outer.now c.args.side.now c.args.block c.span_on.result c.requires.free
    (c.if-not-holds_others.ensures.0 refl) c.span_on.ensures
