-- The footprints of blocks and of fixed pieces.
use Rattle.std.specs.Prelude.{ℕ, ℤ, Bool, true, ◌&&◌, is_some, List, [], ◌∷◌, Option, Some, None, Result, Ok, Err, if◌then◌else◌, unwrap_or}
use Rattle.std.specs.Option.{option_and_then}
use Rattle.toml.specs.Data.{Data, Items, no_items, item, as_array, as_integer}
use Rattle.shape_exact.specs.declared.point.Point.{Point}
use Rattle.shape_exact.specs.declared.shape.ShapeFault.{ShapeFault}
use Rattle.shape_exact.specs.Shapes.{origin}
use Rattle.shape_exact.specs.Reading.{shape_of}
use Rattle.yard_file.specs.Values.{◌>>=◌, of_kind}
use Rattle.yard_file.specs.declared.place.At.{At}
use Rattle.yard_file.specs.declared.place.At.TheVariants as places
use Rattle.yard_file.specs.declared.place.Key.TheVariants as keys
use Rattle.yard_file.specs.declared.fault.YardFault.{YardFault}
use Rattle.yard_file.specs.declared.fault.YardFault.TheVariants as faults

-- the point of two integers
abbrev pub point_at : Option ℤ → Option ℤ → Option Point
point_at (Some x) (Some y) = Some (record { x = x; y = y })
point_at _ _ = None

-- the point of an array of two integers
abbrev pub point_in : Items → Option Point
point_in (item a (item b no_items)) = point_at (as_integer a) (as_integer b)
point_in _ = None

abbrev pub point_of : Data → Option Point
point_of d = option_and_then point_in (as_array d)

-- every item is a point
abbrev pub all_points : Items → Bool
all_points no_items = true
all_points (item d ds) = is_some (point_of d) && all_points ds

-- the points of items that are points
abbrev pub points_of : Items → List Point
points_of no_items = []
points_of (item d ds) = unwrap_or (point_of d) origin ∷ points_of ds

-- the points of an array: Kind
abbrev pub points_items : At → Items → Result (List Point) YardFault
points_items at ds = if all_points ds then Ok (points_of ds) else Err (faults.Kind at keys.Shape)

abbrev pub points_in : At → Option Data → Result (List Point) YardFault
points_in at None = Err (faults.Missing at keys.Shape)
points_in at (Some d) = of_kind at keys.Shape (as_array d) >>= points_items at

-- the footprint, or a rule that tells what is wrong with its points
abbrev pub shape_or : (ShapeFault → YardFault) → Result (List Point) ShapeFault → Result (List Point) YardFault
shape_or rule (Ok shape) = Ok shape
shape_or rule (Err fault) = Err (rule fault)

-- the footprint of block i: Missing, Kind, Shape
abbrev pub block_shape : ℕ → Option Data → Result (List Point) YardFault
block_shape i value = points_in (places.Block i) value >>= (λ points. shape_or (faults.Shape i) (shape_of points))

-- the footprint of piece i before it is turned: Missing, Kind, FixedShape
abbrev pub piece_shape : ℕ → Option Data → Result (List Point) YardFault
piece_shape i value = points_in (places.Fixed i) value >>= (λ points. shape_or (faults.FixedShape i) (shape_of points))
