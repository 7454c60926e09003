-- Arrays that are no points, and arrays of too many points.
use Rattle.std.proofs.Common.{◌≡◌, ◌≢◌, ◌<◌, suc, List, [], ◌∷◌, length, None, Err, refl, ap, arith}
use Rattle.shape_exact.specs.Reading.{shape_of}
use Rattle.shape_exact.specs.declared.shape.ShapeFault.TheVariants.{TooMany}
use Rattle.shape_exact.proofs.FaultLaws.{too_many}
use Rattle.toml.specs.Data.{Items, no_items, item}
use Rattle.toml.specs.declared.value.Value.{Value}
use Rattle.toml.specs.View.{items_view}
use Rattle.yard_file.specs.Arrays.{count}
use Rattle.yard_file.specs.Footprints.{point_in, points_of}
use Rattle.yard_file.proofs.ItemLaws.{count_items}

-- an array of another length than two is no point
pub no_point : (vs : List Value) → length vs ≢ 2 → point_in (items_view vs) ≡ None
no_point [] other = refl
no_point (x ∷ []) other = refl
no_point (x ∷ y ∷ []) other = absurd (other refl)
no_point (x ∷ y ∷ z ∷ vs) other = refl

-- there are as many points as items
count_points : (ds : Items) → length (points_of ds) ≡ count ds
count_points no_items = refl
count_points (item d ds) = ap suc (count_points ds)

-- more than 16 items are too many points
pub many_items : (vs : List Value) → 16 < length vs → shape_of (points_of (items_view vs)) ≡ Err TooMany
many_items vs many =
    too_many (points_of (items_view vs)) (omega (arith, count_points (items_view vs), count_items vs))
