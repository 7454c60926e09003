-- The sides of the sum of a fixed shape and a mirrored moving one.
use Rattle.std.specs.Prelude.{◌≡◌, ℤ, pos, ◌+ℤ◌, ◌-ℤ◌, ◌*ℤ◌, ◌<ℤ◌, List, map, All, Any}
use Rattle.std.specs.List.{Contains}
use Rattle.shape_exact.specs.declared.point.Point.{Point}
use Rattle.shape_exact.specs.Separation.{IsWithin}
use Rattle.shape_exact.specs.Plane.{Edge as Line}
use Rattle.shape_exact.specs.Sums.{Side as Wall, Is_sum}
use Rattle.minkowski_obstacles.specs.declared.edge.Edge.{Edge}
use Rattle.minkowski_obstacles.specs.declared.side.Side.{Side}

-- a side whose point and direction are those of two shapes within 0 to 2000
abbrev pub IsSmall : Side → Type 0
IsSmall s = IsWithin 4000 s.at × IsWithin 4000 s.along

-- an edge in the words of the lemmas
abbrev pub line : Edge → Line
line e = record { from = e.from; to = e.to }

-- a side in the words of the lemmas
abbrev pub wall : Side → Wall
wall s = record { at = s.at; along = s.along }

-- the side of an edge of the fixed shape, through the point that the vertex m of the moving one gives
abbrev pub fixed_side : Edge → Point → Side
fixed_side e m = record {
  at = record { x = e.from.x -ℤ m.x; y = e.from.y -ℤ m.y };
  along = record { x = e.to.x -ℤ e.from.x; y = e.to.y -ℤ e.from.y };
}

-- the side of an edge of the mirrored moving shape, through the point that the vertex u of the fixed one gives
abbrev pub moving_side : Edge → Point → Side
moving_side f u = record {
  at = record { x = u.x -ℤ f.from.x; y = u.y -ℤ f.from.y };
  along = record { x = f.from.x -ℤ f.to.x; y = f.from.y -ℤ f.to.y };
}

-- above 0 where the offset is strictly on the inner side
abbrev pub value : Side → Point → ℤ
value s w = s.along.x *ℤ (w.y -ℤ s.at.y) -ℤ s.along.y *ℤ (w.x -ℤ s.at.x)

-- two sides have one direction
abbrev pub OneWay : Side → Side → Type 0
OneWay a b =
    (a.along.x *ℤ b.along.y -ℤ a.along.y *ℤ b.along.x ≡ pos 0)
    × (pos 0 <ℤ (a.along.x *ℤ b.along.x +ℤ a.along.y *ℤ b.along.y))

-- each of the sides is one of `all`, and each of `all` has the direction of one of the sides
pub record AreJoined (all sides : List Side) : Type 0 where
  pub among : All (Contains all) sides
  pub each : All (λ t. Any (λ s. OneWay s t) sides) all

-- the sides are those of the sum of the fixed shape and the mirrored moving one: `all` has the side of each edge, and
-- those of one direction may be joined
pub record IsSum (fixed moving : List Point) (sides : List Side) : Type 0 where
  pub all : List Side
  pub sum : Is_sum fixed moving (map wall all)
  pub joined : AreJoined all sides
