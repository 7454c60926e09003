-- When an edge of one shape separates it from another.
use Rattle.std.specs.Prelude.{ℕ, pos, ◌+ℤ◌, ◌-ℤ◌, ◌≤ℤ◌, ◌<ℤ◌, ◌≤◌, unsigned_abs, List, All, Any}
use Rattle.shape_exact.specs.declared.point.Point.{Point}
use Rattle.shape_exact.specs.Shapes.{edges, cross}

-- both coordinates are from -k to k
abbrev pub IsWithin : ℕ → Point → Type 0
IsWithin k p = (unsigned_abs p.x ≤ k) × (unsigned_abs p.y ≤ k)

-- the point after a shift
abbrev pub moved : Point → Point → Point
moved by p = record { x = p.x +ℤ by.x; y = p.y +ℤ by.y }

-- the shift that takes one place to another
abbrev pub way : Point → Point → Point
way from to = record { x = to.x -ℤ from.x; y = to.y -ℤ from.y }

-- some edge of the first shape has no vertex of the second, moved so far, strictly on its inner side
abbrev pub HasSeparatingEdge : List Point → List Point → Point → Type 0
HasSeparatingEdge a b by = Any (λ e. All (λ v. cross e.0 e.1 (moved by v) ≤ℤ pos 0) b) (edges a)

-- each edge of the first shape has some vertex of the second, moved so far, strictly on its inner side
abbrev pub EachEdgeSees : List Point → List Point → Point → Type 0
EachEdgeSees a b by = All (λ e. Any (λ v. pos 0 <ℤ cross e.0 e.1 (moved by v)) b) (edges a)
