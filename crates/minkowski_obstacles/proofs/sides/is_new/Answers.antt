use Rattle.std.proofs.Common.{◌≡◌, ◌+◌, ◌-◌, length, true, false, sym, subst, ◌∙◌, arith}
use Rattle.minkowski_obstacles.specs.declared.side.Side.{Side}
use Rattle.minkowski_obstacles.specs.Merged.{comes_before}
use Rattle.minkowski_obstacles.proofs.JoinLaws.{after_last, with_last}
use Rattle.minkowski_obstacles.proofs.sides.is_new.Goals as goal

pub returns-in-Some-clause-new : goal.returns-in-Some-clause-new
returns-in-Some-clause-new c = λ t.
    let ks = c.args.kept.now in
    let next = c.args.next.now in
    let last = c.in-Some.last.now in
    let item = c.in-Some.ensures.item in
    let some = item.3.0 in
    let n : (length ks - 1) + 1 ≡ length ks = omega arith in
    after_last ks next (length ks - 1) last n c.requires.ascending
    (subst (λ (s : Side). comes_before s.along next.along ≡ true) item.1 (sym c.by_direction.ensures ∙ sym c.is_lt.ensures ∙ t))

pub returns-in-Some-clause-old : goal.returns-in-Some-clause-old
returns-in-Some-clause-old c = λ t.
    let ks = c.args.kept.now in
    let next = c.args.next.now in
    let last = c.in-Some.last.now in
    let item = c.in-Some.ensures.item in
    let some = item.3.0 in
    let n : (length ks - 1) + 1 ≡ length ks = omega arith in
    with_last ks next (length ks - 1) last n c.requires.behind c.requires.kept
    (subst (λ (s : Side). comes_before s.along next.along ≡ false) item.1 (sym c.by_direction.ensures ∙ sym c.is_lt.ensures ∙ t))
