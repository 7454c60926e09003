use Rattle.std.proofs.Common.{◌≡◌, ◌++◌, List, sym, subst}
use Rattle.std.specs.List.{All, Contains}
use Rattle.std.specs.List.Sorted.{IsPermutation}
use Rattle.std.proofs.lemmas.List.Sorted.{All-permutation, IsPermutation-append}
use Rattle.std.proofs.lemmas.List.Elements.{All-append, All-weaker, All-contains}
use Rattle.shape_exact.proofs.FormLaws.{within}
use Rattle.minkowski_obstacles.specs.declared.side.Side.{Side}
use Rattle.minkowski_obstacles.specs.Sums.{IsSmall}
use Rattle.minkowski_obstacles.specs.Merged.{HasDirection}
use Rattle.minkowski_obstacles.proofs.SideLaws.{sum_from, sum_permuted, fixed_directed, moving_directed}
use Rattle.minkowski_obstacles.proofs.sides.sides_of.Goals as goal

pub fixed_sides-of_fixed-requires-clause-fixed : goal.fixed_sides-of_fixed-requires-clause-fixed
fixed_sides-of_fixed-requires-clause-fixed c = within c.args.fixed.now c.requires.fixed

pub fixed_sides-of_fixed-requires-clause-moving : goal.fixed_sides-of_fixed-requires-clause-moving
fixed_sides-of_fixed-requires-clause-moving c = within c.args.moving.now c.requires.moving

pub moving_sides-of_moving-requires-clause-fixed : goal.moving_sides-of_moving-requires-clause-fixed
moving_sides-of_moving-requires-clause-fixed c = within c.args.fixed.now c.requires.fixed

pub moving_sides-of_moving-requires-clause-moving : goal.moving_sides-of_moving-requires-clause-moving
moving_sides-of_moving-requires-clause-moving c = within c.args.moving.now c.requires.moving

-- what holds of sides holds of the same sides in order, as they are lent
in_order : (P : Side → Type 0) (ss sorted lent : List Side) → IsPermutation ss sorted → lent ≡ sorted → All P ss → All P lent
in_order P ss sorted lent p e h = subst (λ (xs : List Side). All P xs) (sym e) (All-permutation P ss sorted p h)

pub merged-requires-clause-first_directed : goal.merged-requires-clause-first_directed
merged-requires-clause-first_directed c =
    let ss = c.fixed_sides-of_fixed.result.items in
    in_order HasDirection ss c.order.new.sides.items c.as_slice.result.now c.order.ensures.same c.as_slice.ensures.value
    (fixed_directed c.args.fixed.now c.args.moving.now ss c.requires.fixed c.fixed_sides-of_fixed.ensures.sides)

pub merged-requires-clause-second_directed : goal.merged-requires-clause-second_directed
merged-requires-clause-second_directed c =
    let ts = c.moving_sides-of_moving.result.items in
    in_order HasDirection ts c.order-2.new.sides.items c.as_slice-2.result.now c.order-2.ensures.same c.as_slice-2.ensures.value
    (moving_directed c.args.fixed.now c.args.moving.now ts c.requires.moving c.moving_sides-of_moving.ensures.sides)

pub returns-clause-sum : goal.returns-clause-sum
returns-clause-sum c =
    let fs = c.args.fixed.now in
    let ms = c.args.moving.now in
    let ss = c.fixed_sides-of_fixed.result.items in
    let ts = c.moving_sides-of_moving.result.items in
    let p = subst (λ (xs : List Side). IsPermutation ss xs) (sym c.as_slice.ensures.value) c.order.ensures.same in
    let q = subst (λ (xs : List Side). IsPermutation ts xs) (sym c.as_slice-2.ensures.value) c.order-2.ensures.same in
    let all = c.as_slice.result.now ++ c.as_slice-2.result.now in
    record {
      all = all;
      sum = sum_permuted fs ms (ss ++ ts) all (IsPermutation-append ss c.as_slice.result.now ts c.as_slice-2.result.now p q) (sum_from fs ms ss ts c.fixed_sides-of_fixed.ensures.sides c.moving_sides-of_moving.ensures.sides);
      joined = c.merged.ensures.joined;
    }

pub returns-clause-small : goal.returns-clause-small
returns-clause-small c =
    let xs = c.as_slice.result.now in
    let ys = c.as_slice-2.result.now in
    let h = in_order IsSmall c.fixed_sides-of_fixed.result.items c.order.new.sides.items xs c.order.ensures.same c.as_slice.ensures.value c.fixed_sides-of_fixed.ensures.small in
    let k = in_order IsSmall c.moving_sides-of_moving.result.items c.order-2.new.sides.items ys c.order-2.ensures.same c.as_slice-2.ensures.value c.moving_sides-of_moving.ensures.small in
    All-weaker (Contains (xs ++ ys)) IsSmall (λ s m. All-contains IsSmall (xs ++ ys) s (All-append IsSmall xs ys h k) m) c.merged.result.items c.merged.ensures.joined.among
