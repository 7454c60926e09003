use Rattle.std.proofs.Common.{◌+◌, ◌^◌, sym, subst}
use Rattle.std.specs.Prelude.{if◌then◌else◌}
use Rattle.plan_rule.specs.Fronts.{IsLeft}
use Rattle.plan_rule.specs.Yards.{choices}
use Rattle.plan_rule.proofs.FrontLaws.{past_last, wide_range, gone_left, gone_none, lower_left, upper_left}
use Rattle.plan_rule.proofs.region.half_of.Goals as goal
use Rattle.plan_rule.proofs.region.half_of.Goals.{then-upper-2, else-upper-2}

pub returns-then-upper-clause-part : goal.returns-then-upper-clause-part
returns-then-upper-clause-part c = λ front w is.
    (c.if-upper.true, gone_none (choices c.args.codes.now) front w c.args.left is (past_last (choices c.args.codes.now) c.args.left c.requires.range c.if-half-eq0.true))

pub returns-else-upper-clause-part : goal.returns-else-upper-clause-part
returns-else-upper-clause-part c = λ front w is.
    subst (λ u. IsLeft (choices c.args.codes.now) (if u then front + 2 ^ w else front) w c.args.left) (sym c.if-upper.false)
    (gone_left (choices c.args.codes.now) front w c.args.left is (past_last (choices c.args.codes.now) c.args.left c.requires.range c.if-half-eq0.true))

pub returns-clause-part : goal.returns-clause-part
returns-clause-part c = λ front w is.
    let (exist, wide) = wide_range (choices c.args.codes.now) c.args.left c.requires.range c.requires.settled c.if-half-eq0.false in
    elim c.if-upper-2.branch [
      | then-upper-2 t ↦
          subst (λ u. IsLeft (choices c.args.codes.now) (if u then front + 2 ^ w else front) w c.settle.result) (sym t.if-upper-2.true)
          (c.settle.ensures.part (front + 2 ^ w) w
          (subst (IsLeft (choices c.args.codes.now) (front + 2 ^ w) w) (sym t.half-is) (upper_left (choices c.args.codes.now) front w c.args.left is exist wide)))
      | else-upper-2 t ↦
          subst (λ u. IsLeft (choices c.args.codes.now) (if u then front + 2 ^ w else front) w c.settle.result) (sym t.if-upper-2.false)
          (c.settle.ensures.part front w
          (subst (IsLeft (choices c.args.codes.now) front w) (sym t.half-is) (lower_left (choices c.args.codes.now) front w c.args.left is exist wide)))
    ]
