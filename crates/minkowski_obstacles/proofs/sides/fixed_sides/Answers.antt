use Rattle.std.proofs.Common.{arith, length, take, ◌≤◌, ◌<◌, ◌+◌, sym, subst}
use Rattle.std.specs.List.{AllZip, All}
use Rattle.std.proofs.lemmas.List.{take_all}
use Rattle.std.proofs.lemmas.List.Elements.{All-push}
use Rattle.shape_exact.specs.Plane.{Edge as Line, rim}
use Rattle.shape_exact.specs.Sums.{Of_fixed}
use Rattle.shape_exact.proofs.RimLaws.{length-rim}
use Rattle.shape_exact.proofs.ZipLaws.{zip_more}
use Rattle.minkowski_obstacles.specs.declared.side.Side.{Side}
use Rattle.minkowski_obstacles.specs.Sums.{line, wall, IsSmall}
use Rattle.minkowski_obstacles.proofs.SideLaws.{of_fixed_is}
use Rattle.minkowski_obstacles.proofs.sides.fixed_sides.Goals as goal

pub loop-i-preserved : goal.loop-i-preserved
loop-i-preserved c =
    let es = rim c.args.fixed.now in
    let n = length-rim c.args.fixed.now in
    let lt : c.loop-i.i < length es = omega arith in
    let R : Line → Side → Type 0 = λ e s. Of_fixed c.args.moving.now e (wall s) in
    let e = c.of-e.result in
    let s = c.of_fixed.result in
    let made : R (line e) s = of_fixed_is e c.args.moving.now c.furthest.result s c.furthest.ensures.member c.furthest.ensures.furthest c.of_fixed.ensures.is in
    let zip = zip_more R es c.loop-i.sides.items c.loop-i.i (line e) s lt (c.of-e.ensures.is (line e)) c.loop-i.invariant.zip made in
    record {
      zip = subst (λ bs. AllZip R (take (c.loop-i.i + 1) es) bs) (sym c.push.ensures.items) zip;
      count = let l = c.push.ensures.len in let k = c.loop-i.invariant.count in omega arith;
      small = subst (λ bs. All IsSmall bs) (sym c.push.ensures.items) (All-push IsSmall c.loop-i.sides.items s c.loop-i.invariant.small c.of_fixed.ensures.small);
    }

pub returns-clause-sides : goal.returns-clause-sides
returns-clause-sides c =
    let n = length-rim c.args.fixed.now in
    let le : length (rim c.args.fixed.now) ≤ c.loop-i.i = omega arith in
    subst (λ es. AllZip (λ e s. Of_fixed c.args.moving.now e (wall s)) es c.loop-i.sides.items) (take_all c.loop-i.i (rim c.args.fixed.now) le) c.loop-i.invariant.zip
