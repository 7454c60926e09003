use Rattle.std.proofs.Common.{◌≡◌, ◌<◌, ◌≤◌, ◌+◌, ◌++◌, List, ℕ, length, drop, get_or, sym, ap, ◌∙◌, arith}
use Rattle.plan_rule.specs.Bits.{filled, code_bits, plan_bits}
use Rattle.plan_rule.specs.Paths.{path, number_of}
use Rattle.plan_rule.specs.Choices.{blocks}
use Rattle.plan_rule.specs.Yards.{choices}
use Rattle.plan_rule.proofs.BitLaws.{next_bits, path_is, no_bits}
use Rattle.plan_rule.proofs.path_number.path.Goals as goal

pub loop-block-init : goal.loop-block-init
loop-block-init c =
    let same = path_is (choices c.args.codes.now) c.codes-code-items.result.now in
    record { open' = record { left = omega arith; room = omega arith }; value = omega arith }

pub loop-block-preserved : goal.loop-block-preserved
loop-block-preserved c =
    let counts : List ℕ = (choices c.args.codes.now).counts in
    let plan : List ℕ = c.codes-code-items.result.now in
    let i : ℕ = c.loop-block.block in
    let rest = plan_bits (drop (i + 1) counts) (drop (i + 1) plan) in
    let long : length plan ≡ blocks (choices c.args.codes.now) = ap length c.codes-code-items.ensures ∙ c.requires.one_each in
    let below : i < length plan = omega arith in
    record {
      open' = c.with_halvings-bits.ensures.open;
      value =
          c.with_halvings-bits.ensures.value rest
          ∙ ap (λ n. filled c.loop-block.bits (code_bits n (get_or plan i 0) ++ rest)) c.count_of.ensures
          ∙ ap (filled c.loop-block.bits) (sym (next_bits counts plan i (omega arith) below))
          ∙ c.loop-block.invariant.value;
    }

pub returns : goal.returns
returns c =
    let counts : List ℕ = (choices c.args.codes.now).counts in
    let plan : List ℕ = c.codes-code-items.result.now in
    let i : ℕ = c.loop-block.block in
    let long : length plan ≡ blocks (choices c.args.codes.now) = ap length c.codes-code-items.ensures ∙ c.requires.one_each in
    let past : length counts ≤ i = omega arith in
    let none : number_of c.loop-block.bits.left (plan_bits (drop i counts) (drop i plan)) ≡ 0 = no_bits c.loop-block.bits.left i counts (drop i plan) past in
    let value : c.loop-block.bits.number + number_of c.loop-block.bits.left (plan_bits (drop i counts) (drop i plan)) ≡ path (choices c.args.codes.now) plan = c.loop-block.invariant.value in
    let same : path (choices c.args.codes.now) plan ≡ path (choices c.args.codes.now) c.args.plan.now = ap (path (choices c.args.codes.now)) c.codes-code-items.ensures in
    omega arith
