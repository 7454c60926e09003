-- Reading a footprint from a list of points.
use Rattle.std.specs.Prelude.{ℕ, zero, suc, Bool, true, false, ◌&&◌, nat_lt, nat_le, ℤ, pos, negsuc, int_lt, unsigned_abs, Option, Some, None, Result, Ok, Err, List, [], ◌∷◌, length, reverse, slice_index_or, if◌then◌else◌}
use Rattle.std.specs.Option.{option_or, option_map}
use Rattle.std.specs.Ordering.{int_eq}
use Rattle.common_lists.specs.Firsts.{first_below, where_so}
use Rattle.shape_exact.specs.declared.point.Point.{Point}
use Rattle.shape_exact.specs.declared.shape.ShapeFault.{ShapeFault}
use Rattle.shape_exact.specs.declared.shape.ShapeFault.TheVariants.{TooFew, TooMany, Range, Equal, NotConvex, Flat}
use Rattle.shape_exact.specs.Shapes.{edges, cross, origin, shifted}

-- vertex number i
abbrev pub vertex : List Point → ℕ → Point
vertex vs i = slice_index_or vs i origin

-- the edge from vertex number e to the next
abbrev pub edge : List Point → ℕ → Point × Point
edge vs e = slice_index_or (edges vs) e (origin, origin)

-- both coordinates are from -1000 to 1000
abbrev pub is_near : Point → Bool
is_near p = nat_le (unsigned_abs p.x) 1000 && nat_le (unsigned_abs p.y) 1000

-- the first vertex out of range
abbrev pub first_far : List Point → Option ℕ
first_far vs = first_below (length vs) (λ i. if is_near (vertex vs i) then None else Some i)

-- one point
abbrev pub is_same : Point → Point → Bool
is_same p q = int_eq p.x q.x && int_eq p.y q.y

-- the first vertex after number i that is equal to it
abbrev pub first_equal_to : List Point → ℕ → Option ℕ
first_equal_to vs i = first_below (length vs) (λ j. where_so (nat_lt i j && is_same (vertex vs i) (vertex vs j)) j)

-- the first equal pair i < j, by i and then by j
abbrev pub first_equal : List Point → Option (ℕ × ℕ)
first_equal vs = first_below (length vs) (λ i. option_map (λ j. (i, j)) (first_equal_to vs i))

-- the cross product of an edge and a vertex: above 0 where the vertex is on the left of the edge, below 0 on the right
abbrev pub cross_at : List Point → ℕ → ℕ → ℤ
cross_at vs e v = cross (edge vs e).0 (edge vs e).1 (vertex vs v)

-- whether a number that is not 0 is above 0
abbrev pub sign : ℤ → Option Bool
sign (pos zero) = None
sign (pos (suc n)) = Some true
sign (negsuc n) = Some false

-- the sign of the first cross product of an edge that is not 0
abbrev pub sign_of_edge : List Point → ℕ → Option Bool
sign_of_edge vs e = first_below (length vs) (λ v. sign (cross_at vs e v))

-- the sign of the first cross product that is not 0, by edge and then by vertex
abbrev pub inner_sign : List Point → Option Bool
inner_sign vs = first_below (length vs) (sign_of_edge vs)

-- the number has the other sign than the one that is told
abbrev pub is_other : Bool → ℤ → Bool
is_other true z = int_lt z (pos 0)
is_other false z = int_lt (pos 0) z

-- the first vertex whose cross product with an edge has the other sign
abbrev pub other_of_edge : Bool → List Point → ℕ → Option ℕ
other_of_edge left vs e = first_below (length vs) (λ v. where_so (is_other left (cross_at vs e v)) v)

-- the first edge and vertex whose cross product has the other sign
abbrev pub first_other : Bool → List Point → Option (ℕ × ℕ)
first_other left vs = first_below (length vs) (λ e. option_map (λ v. (e, v)) (other_of_edge left vs e))

-- a cross product of the other sign, or none that is not 0
abbrev pub side_fault : List Point → Option Bool → Option ShapeFault
side_fault vs None = Some Flat
side_fault vs (Some left) = option_map (λ p. NotConvex p.0 p.1) (first_other left vs)

-- the first reason, in this order, why the points are no footprint
abbrev pub fault_of : List Point → Option ShapeFault
fault_of vs =
    option_or (where_so (nat_lt (length vs) 3) TooFew)
    (option_or (where_so (nat_lt 16 (length vs)) TooMany)
    (option_or (option_map Range (first_far vs))
    (option_or (option_map (λ p. Equal p.0 p.1) (first_equal vs))
    (side_fault vs (inner_sign vs)))))

-- the same line walked the other way round, from the same first vertex
abbrev pub backwards : List Point → List Point
backwards [] = []
backwards (v ∷ vs) = v ∷ reverse vs

-- the line walked counterclockwise
abbrev pub leftwards : Option Bool → List Point → List Point
leftwards (Some false) vs = backwards vs
leftwards (Some true) vs = vs
leftwards None vs = vs

-- the fault, where there is one, and else the points
abbrev pub unless : Option ShapeFault → List Point → Result (List Point) ShapeFault
unless (Some fault) vs = Err fault
unless None vs = Ok vs

-- the footprint that the points give: the first fault, or the points counterclockwise with least x and least y 0
unfoldable pub shape_of : List Point → Result (List Point) ShapeFault
shape_of vs = unless (fault_of vs) (shifted (leftwards (inner_sign vs) vs))
