use Rattle.std.proofs.Common.{sym, subst, ap, ◌∙◌, List}
use Rattle.std.specs.List.{All}
use Rattle.shape_exact.specs.declared.point.Point.{Point}
use Rattle.shape_exact.specs.Shapes.{shifted}
use Rattle.shape_exact.specs.Separation.{IsWithin}
use Rattle.shape_exact.proofs.OutlineLaws.{near-backwards}
use Rattle.shape_exact.proofs.read.leftwards.Goals as goal

pub returns-then-left : goal.returns-then-left
returns-then-left c = rw c.if-left.true c.shifted.ensures

pub shifted-requires-else-left-clause-near : goal.shifted-requires-else-left-clause-near
shifted-requires-else-left-clause-near c =
    subst (λ (vs : List Point). All (IsWithin 1000) vs) (sym (c.as_slice.ensures.value ∙ c.backwards.ensures)) (near-backwards c.args.points.now c.requires.near)

pub returns-else-left : goal.returns-else-left
returns-else-left c = rw c.if-left.false (c.shifted-else-left.ensures ∙ ap shifted (c.as_slice.ensures.value ∙ c.backwards.ensures))
