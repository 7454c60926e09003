-- Points as 32 bits hold them.
use Rattle.std.specs.Prelude.{ℤ, pos, negsuc, ◌&&◌, int_le, List, [], ◌∷◌, ◌++◌, if◌then◌else◌, unwrap_or}
use Rattle.toml.specs.Data.{Data, Items, no_items, item}
use Rattle.shape_exact.specs.declared.point.Point.{Point}
use Rattle.shape_exact.specs.Shapes.{origin}
use Rattle.yard_file.specs.Footprints.{point_of}

-- an integer of 32 bits as it is, and the greatest of them for every other one
abbrev pub held : ℤ → ℤ
held z = if int_le (negsuc 2147483647) z && int_le z (pos 2147483647) then z else pos 2147483647

abbrev pub held_point : Point → Point
held_point p = record { x = held p.x; y = held p.y }

abbrev pub held_at : Data → Point
held_at d = held_point (unwrap_or (point_of d) origin)

-- the points of the items, after those done
abbrev pub held_from : List Point → Items → List Point
held_from done no_items = done
held_from done (item d ds) = held_from (done ++ held_at d ∷ []) ds
