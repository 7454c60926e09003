use Rattle.std.proofs.Common.{pos, ◌≡◌, ◌<◌, Bool, true, false, not, length, sym, ◌∙◌, arith}
use Rattle.minkowski_obstacles.specs.declared.side.Side.{Side}
use Rattle.minkowski_obstacles.proofs.JoinLaws.{next_turned}
use Rattle.minkowski_obstacles.proofs.sides.first_is_next.Goals as goal

none : Side
none = record { at = record { x = pos 0; y = pos 0 }; along = record { x = pos 0; y = pos 0 } }

passed : (b : Bool) → not b ≡ false → b ≡ true
passed true e = cc
passed false e = sym e

pub returns-clause-no : goal.returns-clause-no
unfolding none
returns-clause-no c = λ t.
    let last = c.if-j-second.false in
    let within = c.requires.second in
    let l : c.args.j < length c.args.second.now = omega arith in
    next_turned c.args.first.now c.args.second.now c.args.i c.args.j none l (sym c.by_direction.ensures ∙ sym c.is_lt.ensures ∙ passed c.is_lt.result t)
