use Rattle.std.proofs.Common.{refl, arith}
use Rattle.std.proofs.lemmas.Bool.{false≢true}
use Rattle.plain_search.proofs.NodeLaws.{clear_now, not_clear}
use Rattle.plain_search.proofs.search.is_clear.Goals as goal

pub returns-in-Some : goal.returns-in-Some
returns-in-Some c = (
  λ t. absurd (false≢true t),
  λ h. absurd (not_clear c.args.codes.now c.args.front.now c.args.block c.args.code _ c.requires.block c.in-Some.ensures h),
)

pub returns-in-None : goal.returns-in-None
returns-in-None c = (
  λ t. clear_now c.args.codes.now c.args.front.now c.args.block c.args.code c.requires.block
      (λ a l. c.loop-other.invariant a (omega arith)) c.in-None.ensures,
  λ h. refl,
)
