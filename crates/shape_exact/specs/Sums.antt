-- The sides of the sum of a fixed shape and a mirrored moving one.
use Rattle.std.specs.Prelude.{◌≡◌, ℤ, pos, ◌+ℤ◌, ◌-ℤ◌, ◌*ℤ◌, ◌≤ℤ◌, ◌<ℤ◌, List, ◌⊎◌}
use Rattle.shape_exact.specs.declared.point.Point.{Point}
use Rattle.shape_exact.specs.Plane.{Edge, side, Every, Some_of, mark_of, rim}

-- a point of the line of a side, and its direction, the inner side to the left
pub record Side : Type 0 where
  pub at : Point
  pub along : Point

abbrev pub value : Side → Point → ℤ
value s w = s.along.x *ℤ (w.y -ℤ s.at.y) -ℤ s.along.y *ℤ (w.x -ℤ s.at.x)

abbrev pub shift : Point → Point → Point
shift w p = record { x = p.x +ℤ w.x; y = p.y +ℤ w.y }

abbrev pub shift_edge : Point → Edge → Edge
shift_edge w e = record { from = shift w e.from; to = shift w e.to }

-- the side of the edge e of the fixed shape, with the vertex m of the moving one that lies furthest inside e
abbrev pub fixed_side : Edge → Point → Side
fixed_side e m = record { at = record { x = e.from.x -ℤ m.x; y = e.from.y -ℤ m.y }; along = record { x = e.to.x -ℤ e.from.x; y = e.to.y -ℤ e.from.y } }

-- the side of the edge f of the moving shape, with the vertex u of the fixed one that lies furthest inside f
abbrev pub moving_side : Edge → Point → Side
moving_side f u = record { at = record { x = u.x -ℤ f.from.x; y = u.y -ℤ f.from.y }; along = record { x = f.from.x -ℤ f.to.x; y = f.from.y -ℤ f.to.y } }

-- m is a vertex of vs that lies furthest inside e
abbrev pub Furthest : Edge → List Point → Point → Type 0
Furthest e vs m = (Some_of (λ v. v ≡ m) vs) × Every (λ v. side e (mark_of v) ≤ℤ side e (mark_of m)) vs

-- the side s is that of the edge e of the fixed shape, by a vertex of the moving shape ms
abbrev pub Of_fixed : List Point → Edge → Side → Type 0
Of_fixed ms e s = (m : Point) × Furthest e ms m × (s ≡ fixed_side e m)

-- the side s is that of the edge f of the moving shape, by a vertex of the fixed shape fs
abbrev pub Of_moving : List Point → Edge → Side → Type 0
Of_moving fs f s = (u : Point) × Furthest f fs u × (s ≡ moving_side f u)

-- the edges e of the fixed and f of the mirrored moving shape have one direction
pub record Same_way (e f : Edge) : Type 0 where
  pub cross : (e.to.x -ℤ e.from.x) *ℤ (f.from.y -ℤ f.to.y) -ℤ (e.to.y -ℤ e.from.y) *ℤ (f.from.x -ℤ f.to.x) ≡ pos 0
  pub dot : pos 0 <ℤ ((e.to.x -ℤ e.from.x) *ℤ (f.from.x -ℤ f.to.x) +ℤ (e.to.y -ℤ e.from.y) *ℤ (f.from.y -ℤ f.to.y))

-- the sides of the sum of the fixed shape fs and the mirrored moving shape ms
pub record Is_sum (fs ms : List Point) (ss : List Side) : Type 0 where
  pub sound : Every (λ s. Some_of (λ e. Of_fixed ms e s) (rim fs) ⊎ Some_of (λ f. Of_moving fs f s) (rim ms)) ss
  pub fixed : Every (λ e. Some_of (λ s. Of_fixed ms e s) ss) (rim fs)
  pub moving : Every (λ f. Some_of (λ s. Of_moving fs f s) ss ⊎ Some_of (λ e. Same_way e f) (rim fs)) (rim ms)
