use Rattle.std.proofs.Common.{leb, Bool, ◌≡◌, ◌<◌, ◌≤◌, suc, ◌-◌, ◌^◌, refl, ap, ◌∙◌, subst, inl, inr, arith}
use Rattle.std.proofs.lemmas.Bool.{leb-true, le-leb, lt-leb}
use Rattle.plan_rule.specs.Fronts.{IsLeft}
use Rattle.plan_rule.specs.Yards.{choices}
use Rattle.plan_rule.proofs.BitStepLaws.{IsBit, next_left, next_rest, none_left}
use Rattle.plan_rule.proofs.FrontLaws.{start_left}
use Rattle.plan_rule.proofs.MultipleLaws.{multiple_small}
use Rattle.plan_rule.proofs.RegionPartLaws.{region_part}
use Rattle.plan_rule.proofs.region.region_of.Goals as goal
use Rattle.plan_rule.proofs.region.region_of.Goals.{then-upper, else-upper}

pub loop-bit-init : goal.loop-bit-init
loop-bit-init c =
    let all = c.settle-left.ensures.part 0 32 (start_left (choices c.args.codes.now) _ c.new.ensures refl c.count_of.ensures) in
    record {
      range = c.settle-left.ensures.range;
      settled = c.settle-left.ensures.settled;
      part = subst (λ f. IsLeft (choices c.args.codes.now) f 32 c.settle-left.result) (let e : 0 ≡ c.args.job.front - c.args.job.front = omega arith in e) all;
      low = omega arith;
      short = c.requires.bits;
      multiple = c.requires.low;
    }

pub half_of-requires-clause-range : goal.half_of-requires-clause-range
half_of-requires-clause-range c = c.loop-bit.invariant.range

pub half_of-requires-clause-settled : goal.half_of-requires-clause-settled
half_of-requires-clause-settled c = c.loop-bit.invariant.settled

pub returns-in-None : goal.returns-in-None
returns-in-None c =
    let value : c.pow-value.result ≡ 2 ^ (31 - c.loop-bit.bit) = c.pow-value.ensures ∙ ap (λ n. 2 ^ n) c.from.ensures in
    let inv = c.loop-bit.invariant in
    let short : c.loop-bit.bit < c.args.job.length = c.loop-bit-test.true in
    let length : c.args.job.length ≤ 32 = c.requires.length in
    let part : IsLeft (choices c.args.codes.now) (c.args.job.front - c.loop-bit.rest) (suc (31 - c.loop-bit.bit)) c.loop-bit.left =
    subst (λ w. IsLeft (choices c.args.codes.now) (c.args.job.front - c.loop-bit.rest) w c.loop-bit.left)
    (let e : 32 - c.loop-bit.bit ≡ suc (31 - c.loop-bit.bit) = omega arith in e) inv.part in
    let none = c.in-None.ensures.part (c.args.job.front - c.loop-bit.rest) (31 - c.loop-bit.bit) part in
    none_left (choices c.args.codes.now) c.args.job c.loop-bit.rest c.loop-bit.bit c.pow-value.result short length inv.low inv.short inv.multiple value
    (leb-true c.pow-value.result c.loop-bit.rest none.0) none.1

pub loop-bit-preserved : goal.loop-bit-preserved
loop-bit-preserved c =
    let value : c.pow-value.result ≡ 2 ^ (31 - c.loop-bit.bit) = c.pow-value.ensures ∙ ap (λ n. 2 ^ n) c.from.ensures in
    let inv = c.loop-bit.invariant in
    let short : c.loop-bit.bit < c.args.job.length = c.loop-bit-test.true in
    let length : c.args.job.length ≤ 32 = c.requires.length in
    let upper : Bool = leb c.pow-value.result c.loop-bit.rest in
    let bit : IsBit c.pow-value.result c.loop-bit.rest c.if-upper.rest upper = elim c.if-upper.branch [
      | then-upper w ↦ inl (le-leb c.pow-value.result c.loop-bit.rest w.if-upper.true, w.if-upper.true, w.rest-is)
      | else-upper w ↦ inr (lt-leb c.pow-value.result c.loop-bit.rest w.if-upper.false, w.if-upper.false, w.rest-is)
    ] in
    let part : IsLeft (choices c.args.codes.now) (c.args.job.front - c.loop-bit.rest) (suc (31 - c.loop-bit.bit)) c.loop-bit.left =
    subst (λ w. IsLeft (choices c.args.codes.now) (c.args.job.front - c.loop-bit.rest) w c.loop-bit.left)
    (let e : 32 - c.loop-bit.bit ≡ suc (31 - c.loop-bit.bit) = omega arith in e) inv.part in
    let half = c.in-Some.ensures.part (c.args.job.front - c.loop-bit.rest) (31 - c.loop-bit.bit) part in
    let (low, small, multiple) = next_rest c.args.job.front c.loop-bit.rest c.if-upper.rest c.loop-bit.bit c.pow-value.result c.args.job.length upper
    short length inv.low inv.short inv.multiple value bit in
    record {
      range = c.in-Some.ensures.range.0;
      settled = c.in-Some.ensures.range.1;
      part = next_left (choices c.args.codes.now) c.args.job.front c.loop-bit.rest c.if-upper.rest c.loop-bit.bit c.pow-value.result upper c.in-Some.half
          (omega arith) inv.low value bit half;
      low = low;
      short = small;
      multiple = multiple;
    }

pub returns : goal.returns
returns c =
    let inv = c.loop-bit.invariant in
    let done : c.loop-bit.bit ≡ c.args.job.length = omega arith in
    let small : c.loop-bit.rest < 2 ^ (32 - c.args.job.length) = subst (λ t. c.loop-bit.rest < 2 ^ (32 - t)) done inv.short in
    let none : c.loop-bit.rest ≡ 0 = multiple_small c.loop-bit.rest (2 ^ (32 - c.args.job.length)) small inv.multiple in
    let part : IsLeft (choices c.args.codes.now) c.args.job.front (32 - c.args.job.length) c.loop-bit.left =
    subst (λ t. IsLeft (choices c.args.codes.now) c.args.job.front (32 - t) c.loop-bit.left) done
    (subst (λ f. IsLeft (choices c.args.codes.now) f (32 - c.loop-bit.bit) c.loop-bit.left)
    (let e : c.args.job.front - c.loop-bit.rest ≡ c.args.job.front = omega arith in e) inv.part) in
    region_part (choices c.args.codes.now) c.args.job c.loop-bit.left (c.all_have_codes.ensures.value.0 c.if-not-all_have_codes.false) part inv.range inv.settled
