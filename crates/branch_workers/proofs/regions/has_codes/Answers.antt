use Rattle.std.proofs.Common.{arith, subst, ◌≡◌, ◌<◌, inl, inr}
use Rattle.std.proofs.lemmas.Bool.{cases_lt}
use Rattle.plan_rule.specs.Choices.{count}
use Rattle.plan_rule.specs.Yards.{choices}
use Rattle.branch_workers.proofs.regions.has_codes.Goals as goal

pub loop-block-preserved : goal.loop-block-preserved
loop-block-preserved c = λ b l. elim (cases_lt b c.loop-block.block) [
  | inl below ↦ c.loop-block.invariant b below
  | inr last ↦
      let same : c.loop-block.block ≡ b = omega arith in
      let some : 0 < count (choices c.args.codes.now) c.loop-block.block = let e = c.count_of.ensures in omega arith in
      subst (λ n. 0 < count (choices c.args.codes.now) n) same some
]
