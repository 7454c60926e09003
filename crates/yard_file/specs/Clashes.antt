-- When two fixed pieces clash, as a test of the edges of their footprints: each edge of each of two convex shapes has some
-- vertex of the other strictly on its inner side exactly where a point lies strictly inside both.
use Rattle.std.specs.Prelude.{ℕ, ◌+◌, Bool, ◌&&◌, ◌==◌, nat_le, pos, int_lt, List, [], ◌∷◌, Option, Some, None, if◌then◌else◌}
use Rattle.std.specs.List.{list_all, list_any}
use Rattle.shape_exact.specs.declared.fixed.Fixed.{Fixed}
use Rattle.shape_exact.specs.declared.point.Point.{Point}
use Rattle.shape_exact.specs.Separation.{moved, way}
use Rattle.shape_exact.specs.Shapes.{cross, edges}
use Rattle.shape_exact.specs.Yards.{piece_at}

-- some vertex of the shape, moved so far, is strictly on the inner side of the edge
abbrev pub sees : Point × Point → List Point → Point → Bool
sees e shape by = list_any (λ v. int_lt (pos 0) (cross e.0 e.1 (moved by v))) shape

-- each edge of the first shape sees the second one, moved so far
abbrev pub each_edge_sees : List Point → List Point → Point → Bool
each_edge_sees a b by = list_all (λ e. sees e b by) (edges a)

-- each edge of each of two shapes at their places sees the other shape
abbrev pub overlap : List Point → Point → List Point → Point → Bool
overlap a at_a b at_b = each_edge_sees a b (way at_a at_b) && each_edge_sees b a (way at_b at_a)

-- both pieces stand on one plate on some day
abbrev pub share_day : Fixed → Fixed → Bool
share_day f g = (f.plate == g.plate && nat_le f.from g.to) && nat_le g.from f.to

-- two pieces share a day on one plate, and overlap
abbrev pub pieces_clash : Fixed → Fixed → Bool
pieces_clash f g = share_day f g && overlap f.shape (piece_at f) g.shape (piece_at g)

-- the number, counted from j, of the first of the pieces that clashes with this one
abbrev pub first_clash : ℕ → List Fixed → Fixed → Option ℕ
first_clash j [] f = None
first_clash j (g ∷ gs) f = if pieces_clash g f then Some j else first_clash (j + 1) gs f
