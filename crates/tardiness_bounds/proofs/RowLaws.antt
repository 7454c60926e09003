-- The forbidden columns of a row, one neighbour after another, and the rows.
use Rattle.std.proofs.Common.{◌≡◌, ℕ, ◌+◌, ◌<◌, ◌≤◌, List, [], ◌∷◌, ◌++◌, length, get_or, take, sym, ap, ◌∙◌, subst, inl, inr, arith}
use Rattle.std.specs.Prelude.{All}
use Rattle.std.proofs.lemmas.Bool.{cases_lt, cases_order}
use Rattle.std.proofs.lemmas.List.{length-map, get_or-map}
use Rattle.shape_exact.specs.Yards.{PlainYard}
use Rattle.shape_exact.specs.declared.point.Point.{Point}
use Rattle.minkowski_obstacles.specs.Pairs.{Pair}
use Rattle.lattice_free.specs.declared.forbidden.Forbidden.{Forbidden}
use Rattle.lattice_free.specs.Clear.{AreClear, AreForbidden, IsClear}
use Rattle.lattice_free.specs.Gaps.{FitsWithin, Misses}
use Rattle.lattice_free.specs.Runs.{place}
use Rattle.lattice_free.proofs.ForbidLaws.{forbidden_past, forbidden_more}
use Rattle.tardiness_bounds.specs.declared.near.Neighbour.{Neighbour}
use Rattle.tardiness_bounds.specs.Firsts.{HasNone, IsOnFrom}
use Rattle.tardiness_bounds.specs.Footprints.{pair_at}
use Rattle.tardiness_bounds.specs.Neighbours.{obstacle_of, obstacles_of, spot_of}

-- the obstacle of a neighbour that was read
obstacle_at : (yard : PlainYard) (near : List Neighbour) (moving i : ℕ) (d : Neighbour) (pair : Pair) (at : Point) → i < length near
    → pair ≡ pair_at yard (get_or near i d).footprint moving → at ≡ spot_of (get_or near i d)
    → (pair, at) ≡ get_or (obstacles_of yard moving near) i (obstacle_of yard moving d)
obstacle_at yard near moving i d pair at l e f =
    let make : Pair → Point → Pair × Point = λ p q. (p, q) in
    ap (λ p. make p at) e ∙ ap (make (pair_at yard (get_or near i d).footprint moving)) f
    ∙ sym (get_or-map (obstacle_of yard moving) near i d (obstacle_of yard moving d) l)

-- a neighbour that forbids no column
pub row_past : (yard : PlainYard) (near : List Neighbour) (moving pitch row columns i : ℕ) (d : Neighbour) (pair : Pair) (at : Point) (ss : List Forbidden)
    → i < length near → pair ≡ pair_at yard (get_or near i d).footprint moving → at ≡ spot_of (get_or near i d)
    → AreForbidden (take i (obstacles_of yard moving near)) pitch row columns ss
    → ((k : ℕ) → k < columns → IsClear (place pitch row k) pair at) → AreForbidden (take (i + 1) (obstacles_of yard moving near)) pitch row columns ss
row_past yard near moving pitch row columns i d pair at ss l e f h none =
    let o = obstacle_at yard near moving i d pair at l e f in
    forbidden_past pitch row columns (obstacles_of yard moving near) i (obstacle_of yard moving d) ss (let n = length-map near (obstacle_of yard moving) in omega arith) h
    (subst (λ (o : Pair × Point). (k : ℕ) → k < columns → IsClear (place pitch row k) o.0 o.1) o none)

-- one that forbids a stretch
pub row_more : (yard : PlainYard) (near : List Neighbour) (moving pitch row columns i : ℕ) (d : Neighbour) (pair : Pair) (at : Point) (ss more : List Forbidden) (s : Forbidden)
    → i < length near → pair ≡ pair_at yard (get_or near i d).footprint moving → at ≡ spot_of (get_or near i d)
    → AreForbidden (take i (obstacles_of yard moving near)) pitch row columns ss → more ≡ ss ++ s ∷ [] → FitsWithin columns s
    → ((k : ℕ) → k < columns → s.from ≤ k → k < s.to → IsClear (place pitch row k) pair at → ⊥)
    → ((k : ℕ) → k < columns → Misses k s → IsClear (place pitch row k) pair at) → AreForbidden (take (i + 1) (obstacles_of yard moving near)) pitch row columns more
row_more yard near moving pitch row columns i d pair at ss more s l e f h pushed fits held clear =
    let o = obstacle_at yard near moving i d pair at l e f in
    subst (AreForbidden (take (i + 1) (obstacles_of yard moving near)) pitch row columns) (sym pushed)
    (forbidden_more pitch row columns (obstacles_of yard moving near) i (obstacle_of yard moving d) ss s (let n = length-map near (obstacle_of yard moving) in omega arith) h fits
    (subst (λ (o : Pair × Point). (k : ℕ) → k < columns → s.from ≤ k → k < s.to → IsClear (place pitch row k) o.0 o.1 → ⊥) o held)
    (subst (λ (o : Pair × Point). (k : ℕ) → k < columns → Misses k s → IsClear (place pitch row k) o.0 o.1) o clear))

-- no position of the first rows, from a row and a column on, is clear
abbrev pub HasNoClearFrom : List (Pair × Point) → ℕ → ℕ → ℕ → ℕ → ℕ → Type 0
HasNoClearFrom fixed pitch rows columns row column =
    (j k : ℕ) → j < rows → k < columns → IsOnFrom row column j k → AreClear fixed (place pitch j k) → ⊥

-- before the row there is none
pub rows_begin : (fixed : List (Pair × Point)) (pitch columns row column : ℕ) → HasNoClearFrom fixed pitch row columns row column
rows_begin fixed pitch columns row column j k lj lk on clear = elim on [ inl l ↦ absurd (omega arith) | inr s ↦ (let e = s.0 in absurd (omega arith)) ]

-- one row more
pub rows_more : (fixed : List (Pair × Point)) (pitch at columns row column from : ℕ) (ss : List Forbidden) → HasNoClearFrom fixed pitch at columns row column
    → (at ≡ row → from ≡ column) → (row < at → from ≡ 0)
    → AreForbidden fixed pitch at columns ss → HasNone (λ k. All (Misses k) ss) from columns → HasNoClearFrom fixed pitch (at + 1) columns row column
rows_more fixed pitch at columns row column from ss h here later are none j k lj lk on clear = elim (cases_lt j at) [
  | inl less ↦ h j k less lk on clear
  | inr same ↦
      let e : j ≡ at = omega arith in
      let begun : from ≤ k = elim on [
        | inl l ↦ (let z = later (omega arith) in omega arith)
        | inr s ↦ (let f = s.0 in let z = here (omega arith) in let w = s.1 in omega arith)
      ] in
      none k begun lk (are.missed k lk (subst (λ j. AreClear fixed (place pitch j k)) e clear))
]

-- the first clear position of the row is the first of all
pub row_first : (fixed : List (Pair × Point)) (pitch at columns row column from n : ℕ) (ss : List Forbidden) → HasNoClearFrom fixed pitch at columns row column
    → (at ≡ row → from ≡ column) → (row < at → from ≡ 0)
    → AreForbidden fixed pitch at columns ss → HasNone (λ k. All (Misses k) ss) from n → n < columns
    → (j k : ℕ) → k < columns → IsOnFrom row column j k → AreClear fixed (place pitch j k) → IsOnFrom at n j k
row_first fixed pitch at columns row column from n ss h here later are none small j k lk on clear = elim (cases_order j at) [
  | inl e ↦ elim (cases_lt k n) [
    | inl before ↦
        let begun : from ≤ k = elim on [
          | inl l ↦ (let z = later (omega arith) in omega arith)
          | inr s ↦ (let f = s.0 in let z = here (omega arith) in let w = s.1 in omega arith)
        ] in
        absurd (none k begun before (are.missed k lk (subst (λ j. AreClear fixed (place pitch j k)) e clear)))
    | inr after ↦ inr (sym e, after)
  ]
  | inr apart ↦ elim apart [ inl less ↦ absurd (h j k less lk on clear) | inr more ↦ inl more ]
]

-- it is at or after where the search began
pub row_from : (at row column from n : ℕ) → row ≤ at → (at ≡ row → from ≡ column) → from ≤ n → IsOnFrom row column at n
row_from at row column from n l here low = elim (cases_lt row at) [
  | inl less ↦ inl less
  | inr same ↦ (let e : at ≡ row = omega arith in let f = here e in inr (sym e, omega arith))
]
