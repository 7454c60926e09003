use Rattle.std.proofs.Common.{◌≡◌, ℕ, sym, subst, inl, inr, arith}
use Rattle.std.proofs.lemmas.Bool.{cases_lt}
use Rattle.plan_rule.specs.Boxes.{HasExact}
use Rattle.branch_search.proofs.open.first_open.Goals as goal

pub loop-block-preserved : goal.loop-block-preserved
loop-block-preserved c = λ b l. elim (cases_lt b c.loop-block.block) [
  | inl below ↦ c.loop-block.invariant b below
  | inr last ↦
      let e : c.loop-block.block ≡ b = omega arith in
      subst (λ b. (d : ℕ) × HasExact c.args.part.now b d) e (c.in-Some._code, sym c.in-Some.ensures)
]
