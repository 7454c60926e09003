use Rattle.std.proofs.Common.{refl}
use Rattle.std.proofs.lemmas.Bool.{false≢true}
use Rattle.plan_rule.specs.Yards.{choices}
use Rattle.log_checker.proofs.SpanLaws.{own_span, no_own_span, other_span, no_other_span}
use Rattle.log_checker.proofs.cited.span_with.Goals as goal

pub returns-then-not-holds_others : goal.returns-then-not-holds_others
returns-then-not-holds_others c =
    no_own_span (choices c.args.codes.now) c.args.outer.now c.args.side.now c.args.own c.args.block c.requires.free c.requires.left
    (λ h. false≢true (c.if-not-holds_others.ensures.1 h))

pub returns-then-own-block : goal.returns-then-own-block
returns-then-own-block c =
    own_span (choices c.args.codes.now) c.args.outer.now c.args.side.now c.args.own c.args.block c.requires.free c.requires.left c.if-own-block.true
    (c.if-not-holds_others.ensures.0 refl)

pub returns-then-not-holds_one : goal.returns-then-not-holds_one
returns-then-not-holds_one c =
    no_other_span (choices c.args.codes.now) c.args.outer.now c.args.side.now c.args.own c.args.block c.requires.left c.if-own-block.false
    (λ h. false≢true (c.if-not-holds_one.ensures.1 h))

pub returns : goal.returns
returns c =
    other_span (choices c.args.codes.now) c.args.outer.now c.args.side.now c.args.own c.args.block c.span_of.result c.requires.free c.requires.left
    (c.if-not-holds_one.ensures.0 refl) c.span_of.ensures
