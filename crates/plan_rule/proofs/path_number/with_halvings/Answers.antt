use Rattle.std.proofs.Common.{◌≡◌, ◌<◌, ℕ, ◌+◌, ◌-◌, ◌^◌, refl, ap, ◌∙◌, inl, inr, arith}
use Rattle.plan_rule.specs.Bits.{code_bits}
use Rattle.plan_rule.proofs.HalvingLaws.{halve_up, halve_down, no_halving, power_half}
use Rattle.plan_rule.proofs.path_number.with_halvings.Goals as goal

pub loop-made-init : goal.loop-made-init
unfolding code_bits
loop-made-init c = record {
  open' = c.requires.open;
  low = omega arith;
  high = c.requires.code;
  value = (32, c.requires.open.left, λ rest. refl);
}

pub loop-made-preserved-then-code-middle : goal.loop-made-preserved-then-code-middle
loop-made-preserved-then-code-middle c =
    let left : ℕ = c.loop-made.made.left in
    let pos : 0 < left = omega arith in
    let half = power_half left pos in
    let open' = c.loop-made.invariant.open' in
    let p : c.pow-number.result ≡ 2 ^ (left - 1) = c.pow-number.ensures ∙ ap (λ n. 2 ^ n) c.from.ensures in
    let (m, few, value) = c.loop-made.invariant.value in
    record {
      open' = record { left = omega arith; room = omega arith };
      low = c.if-code-middle.true;
      high = c.loop-made.invariant.high;
      value = (
        m - 1,
        omega arith,
        λ rest.
            let step = halve_up left m c.loop-made.lo c.loop-made.hi c.args.code c.pow-number.result rest pos few (omega arith) c.if-code-middle.true p in
            let same = value rest in
            omega arith,
      );
    }

pub loop-made-preserved : goal.loop-made-preserved
loop-made-preserved c =
    let left : ℕ = c.loop-made.made.left in
    let pos : 0 < left = omega arith in
    let half = power_half left pos in
    let open' = c.loop-made.invariant.open' in
    let (m, few, value) = c.loop-made.invariant.value in
    record {
      open' = record { left = omega arith; room = omega arith };
      low = c.loop-made.invariant.low;
      high = c.if-code-middle.false;
      value = (
        m - 1,
        omega arith,
        λ rest.
            let step = halve_down left m c.loop-made.lo c.loop-made.hi c.args.code rest pos few (omega arith) c.if-code-middle.false in
            let same = value rest in
            omega arith,
      );
    }

pub returns-else-hi-lo-gt1-clause-value : goal.returns-else-hi-lo-gt1-clause-value
returns-else-hi-lo-gt1-clause-value c = λ rest.
    let (m, few, value) = c.loop-made.invariant.value in
    ap (λ n. c.loop-made.made.number + n) (no_halving c.loop-made.made.left m c.loop-made.lo c.loop-made.hi c.args.code rest (inr (omega arith))) ∙ value rest

pub returns-after-loop-made-clause-value : goal.returns-after-loop-made-clause-value
returns-after-loop-made-clause-value c = λ rest.
    let (m, few, value) = c.loop-made.invariant.value in
    ap (λ n. c.loop-made.made.number + n) (no_halving c.loop-made.made.left m c.loop-made.lo c.loop-made.hi c.args.code rest (inl (omega arith))) ∙ value rest
