-- Points, what is strictly inside a shape, and when two shapes are apart.
use Rattle.std.specs.Prelude.{◌≡◌, ℕ, zero, suc, ◌+◌, ◌*◌, ◌<◌, ℤ, pos, ◌+ℤ◌, ◌-ℤ◌, ◌*ℤ◌, ◌≤ℤ◌, ◌<ℤ◌, neg_ℤ, ◌≤◌, ◌≢◌, length, All, Any, Bool, IsTrue, List, [], ◌∷◌, ◌++◌, map, fold, if◌then◌else◌, int_lt, unsigned_abs}
use Rattle.std.specs.Int.{int_min, int_max}
use Rattle.std.specs.List.{zip, list_all, AllPairs}
use Rattle.shape_exact.specs.declared.point.Point.{Point}
use Rattle.common_lists.specs.Each.{sum_below}

-- the point (x / n, y / n)
pub record Spot : Type 0 where
  pub x : ℤ
  pub y : ℤ
  pub n : ℕ

-- each vertex with the next one, and the last with the first
abbrev pub edges : List Point → List (Point × Point)
edges [] = []
edges (v ∷ vs) = zip (v ∷ vs) (vs ++ v ∷ [])

-- above 0 where the spot is on the inner side of the edge from a to b, of a shape shifted to a place
abbrev pub side_of : Point → Point → Point → Spot → ℤ
side_of a b at s =
    (b.x -ℤ a.x) *ℤ (s.y -ℤ pos s.n *ℤ (a.y +ℤ at.y)) -ℤ (b.y -ℤ a.y) *ℤ (s.x -ℤ pos s.n *ℤ (a.x +ℤ at.x))

-- the spot is strictly inside the shape at this place: on the inner side of each edge
abbrev pub is_inside : List Point → Point → Spot → Bool
is_inside shape at s = list_all (λ e. int_lt (pos 0) (side_of e.0 e.1 at s)) (edges shape)

-- no spot is strictly inside both shapes at their places
abbrev pub AreApart : List Point → Point → List Point → Point → Type 0
AreApart a at_a b at_b = (s : Spot) → 0 < s.n → IsTrue (is_inside a at_a s) → IsTrue (is_inside b at_b s) → ⊥

-- the least x, the greatest x, and so on, of vertices
abbrev pub least : (Point → ℤ) → List Point → ℤ
least f [] = pos 0
least f (v ∷ vs) = fold int_min (f v) (map f vs)

abbrev pub greatest : (Point → ℤ) → List Point → ℤ
greatest f [] = pos 0
greatest f (v ∷ vs) = fold int_max (f v) (map f vs)

-- the shape shifted so that its least x and its least y are 0
abbrev pub shifted : List Point → List Point
shifted vs = map (λ v. record { x = v.x -ℤ least (λ p. p.x) vs; y = v.y -ℤ least (λ p. p.y) vs }) vs

-- q quarter turns counterclockwise, each followed by that shift
abbrev pub turned : ℕ → List Point → List Point
turned zero vs = vs
turned (suc q) vs = shifted (map (λ v. record { x = neg_ℤ v.y; y = v.x }) (turned q vs))

-- how far a shape reaches to the right, and upwards
abbrev pub reach_x : List Point → ℕ
reach_x shape = unsigned_abs (greatest (λ p. p.x) shape)

abbrev pub reach_y : List Point → ℕ
reach_y shape = unsigned_abs (greatest (λ p. p.y) shape)

-- the centre of the unit cell whose lower left corner is (i, j)
abbrev pub centre : ℕ → ℕ → Spot
centre i j = record { x = pos (2 * i + 1); y = pos (2 * j + 1); n = 2 }

abbrev pub origin : Point
origin = record { x = pos 0; y = pos 0 }

-- how many unit cells have their centre strictly inside the shape
abbrev pub cells : List Point → ℕ
cells shape =
    sum_below (reach_y shape) (λ j. sum_below (reach_x shape) (λ i. if is_inside shape origin (centre i j) then 1 else 0))

-- above 0 where the vertex is strictly on the inner side of the edge from a to b, and 0 on its line
abbrev pub cross : Point → Point → Point → ℤ
cross a b v = (b.x -ℤ a.x) *ℤ (v.y -ℤ a.y) -ℤ (b.y -ℤ a.y) *ℤ (v.x -ℤ a.x)

-- no vertex is on the outer side of an edge
abbrev pub IsConvex : List Point → Type 0
IsConvex vs = All (λ e. All (λ v. pos 0 ≤ℤ cross e.0 e.1 v) vs) (edges vs)

-- the vertices of a footprint: few, distinct, counterclockwise and convex, not all on one line, within 0 to 2000, and
-- with least x and least y 0
pub record IsShape (vs : List Point) : Type 0 where
  pub some : 3 ≤ length vs
  pub few : length vs ≤ 16
  pub low_x : least (λ p. p.x) vs ≡ pos 0
  pub low_y : least (λ p. p.y) vs ≡ pos 0
  pub reach : All (λ v. (v.x ≤ℤ pos 2000) × (v.y ≤ℤ pos 2000)) vs
  pub distinct : AllPairs (λ v w. v ≢ w) vs
  pub convex : IsConvex vs
  pub wide : Any (λ e. Any (λ v. pos 0 <ℤ cross e.0 e.1 v) vs) (edges vs)
