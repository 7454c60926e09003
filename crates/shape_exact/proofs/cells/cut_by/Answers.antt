use Rattle.std.proofs.Common.{◌≡◌, ◌≤◌, ℤ, pos, ◌-ℤ◌, ◌+ℤ◌, ◌*ℤ◌, ◌<ℤ◌, ◌≤ℤ◌, ◌↔◌, w32, arith, subst, sym, FitsSigned}
use Rattle.std.specs.Int.RustNames.{unsigned_abs}
use Rattle.std.proofs.lemmas.Int.{to_z-of_z, ints}
use Rattle.shape_exact.specs.Shapes.{side_of, origin}
use Rattle.shape_exact.specs.Cells.{Holds, centre_of}
use Rattle.shape_exact.proofs.ColumnLaws.{bound_of, column_is, bound_small}
use Rattle.shape_exact.proofs.cells.cut_by.Goals as goal

fits : (a : ℤ) → unsigned_abs a ≤ 2000 → FitsSigned w32 a
fits a h = omega (arith, ints)

gap_fits : (a b : ℤ) → unsigned_abs a ≤ 2000 → unsigned_abs b ≤ 2000 → FitsSigned w32 (a -ℤ b)
gap_fits a b h k = omega (arith, ints)

gap_small : (a b : ℤ) → unsigned_abs a ≤ 2000 → unsigned_abs b ≤ 2000 → unsigned_abs (a -ℤ b) ≤ 4000
gap_small a b h k = omega (arith, ints)

twice_fits : (a : ℤ) → unsigned_abs a ≤ 4000 → FitsSigned w32 (pos 2 *ℤ a)
twice_fits a h = omega (arith, ints)

twice_small : (a : ℤ) → unsigned_abs a ≤ 4000 → unsigned_abs (pos 2 *ℤ a) ≤ 1000000
twice_small a h = omega (arith, ints)

wide : (a : ℤ) → unsigned_abs a ≤ 2000 → unsigned_abs a ≤ 4000
wide a h = omega arith

one_less_fits : (a : ℤ) → unsigned_abs a ≤ 2000 → FitsSigned w32 (pos 1 -ℤ (pos 2 *ℤ a))
one_less_fits a h = omega (arith, ints)

one_less_small : (a : ℤ) → unsigned_abs a ≤ 2000 → unsigned_abs (pos 1 -ℤ (pos 2 *ℤ a)) ≤ 10000
one_less_small a h = omega (arith, ints)

row_small : (j : ℤ) → (pos 0 ≤ℤ j) × (j ≤ℤ pos 2000) → unsigned_abs j ≤ 2000
row_small j h = let a = h.0 in let b = h.1 in omega (arith, ints)

middle_fits : (j : ℤ) → unsigned_abs j ≤ 2000 → FitsSigned w32 ((pos 2 *ℤ j) +ℤ pos 1)
middle_fits j h = omega (arith, ints)

height_fits : (j a : ℤ) → unsigned_abs j ≤ 2000 → unsigned_abs a ≤ 2000 → FitsSigned w32 (((pos 2 *ℤ j) +ℤ pos 1) -ℤ (pos 2 *ℤ a))
height_fits j a h k = omega (arith, ints)

height_small : (j a : ℤ) → unsigned_abs j ≤ 2000 → unsigned_abs a ≤ 2000 → unsigned_abs (((pos 2 *ℤ j) +ℤ pos 1) -ℤ (pos 2 *ℤ a)) ≤ 10000
height_small j a h k = omega (arith, ints)

pub overflow_mul-up : goal.overflow_mul-up
overflow_mul-up c =
    let f = c.requires.from in
    let t = c.requires.to in
    let n2 = fits c.args.from.y f.1 in
    let n4 = fits c.args.to.y t.1 in
    let g = gap_fits c.args.to.y c.args.from.y t.1 f.1 in
    simp to_z-of_z (twice_fits (c.args.to.y -ℤ c.args.from.y) (gap_small c.args.to.y c.args.from.y t.1 f.1))

pub cut-requires-clause-slope : goal.cut-requires-clause-slope
cut-requires-clause-slope c =
    let f = c.requires.from in
    let t = c.requires.to in
    let n2 = fits c.args.from.y f.1 in
    let n4 = fits c.args.to.y t.1 in
    let g = gap_fits c.args.to.y c.args.from.y t.1 f.1 in
    let s = gap_small c.args.to.y c.args.from.y t.1 f.1 in
    let d = twice_fits (c.args.to.y -ℤ c.args.from.y) s in
    simp to_z-of_z (twice_small (c.args.to.y -ℤ c.args.from.y) s)

-- the cut in plain numbers
plain : (S B : Type 0) (slope bound side m : ℤ) → B ↔ (S × (m <ℤ bound)) → (m <ℤ bound) ↔ (pos 0 <ℤ side) → B ↔ (S × (pos 0 <ℤ side))
plain S B slope bound side m e f = (λ b. let h = e.0 b in (h.0, f.0 h.1), λ h. e.1 (h.0, f.1 h.1))

pub cut-requires-clause-bound : goal.cut-requires-clause-bound
cut-requires-clause-bound c =
    let f = c.requires.from in
    let t = c.requires.to in
    let jr = row_small c.args.j c.requires.j in
    let n1 = fits c.args.from.x f.0 in
    let n2 = fits c.args.from.y f.1 in
    let n3 = fits c.args.to.x t.0 in
    let n4 = fits c.args.to.y t.1 in
    let n5 = fits c.args.j jr in
    let g1 = gap_fits c.args.to.x c.args.from.x t.0 f.0 in
    let g2 = gap_fits c.args.to.y c.args.from.y t.1 f.1 in
    let t1 = twice_fits c.args.from.x (wide c.args.from.x f.0) in
    let t2 = twice_fits c.args.from.y (wide c.args.from.y f.1) in
    let t3 = twice_fits c.args.j (wide c.args.j jr) in
    let o1 = one_less_fits c.args.from.x f.0 in
    let m1 = middle_fits c.args.j jr in
    let h1 = height_fits c.args.j c.args.from.y jr f.1 in
    let r : FitsSigned w32 c.cross_product-bound.result = record { sfits = c.cross_product-bound.type_inv } in
    let e : c.cross_product-bound.result ≡ bound_of c.args.from c.args.to c.args.j = simp to_z-of_z at c.cross_product-bound.ensures in
    simp to_z-of_z (subst (λ (k : ℤ). unsigned_abs k ≤ 1500000000) (sym e)
    (bound_small (c.args.to.x -ℤ c.args.from.x) (c.args.to.y -ℤ c.args.from.y) (pos 1 -ℤ (pos 2 *ℤ c.args.from.x)) (((pos 2 *ℤ c.args.j) +ℤ pos 1) -ℤ (pos 2 *ℤ c.args.from.y))
    (gap_small c.args.to.x c.args.from.x t.0 f.0) (gap_small c.args.to.y c.args.from.y t.1 f.1) (one_less_small c.args.from.x f.0) (height_small c.args.j c.args.from.y jr f.1)))

pub returns : goal.returns
returns c = λ i.
    let f = c.requires.from in
    let t = c.requires.to in
    let jr = row_small c.args.j c.requires.j in
    let n1 = fits c.args.from.x f.0 in
    let n2 = fits c.args.from.y f.1 in
    let n3 = fits c.args.to.x t.0 in
    let n4 = fits c.args.to.y t.1 in
    let n5 = fits c.args.j jr in
    let g1 = gap_fits c.args.to.x c.args.from.x t.0 f.0 in
    let g2 = gap_fits c.args.to.y c.args.from.y t.1 f.1 in
    let t1 = twice_fits c.args.from.x (wide c.args.from.x f.0) in
    let t2 = twice_fits c.args.from.y (wide c.args.from.y f.1) in
    let t3 = twice_fits c.args.j (wide c.args.j jr) in
    let t4 = twice_fits (c.args.to.y -ℤ c.args.from.y) (gap_small c.args.to.y c.args.from.y t.1 f.1) in
    let o1 = one_less_fits c.args.from.x f.0 in
    let m1 = middle_fits c.args.j jr in
    let h1 = height_fits c.args.j c.args.from.y jr f.1 in
    let r : FitsSigned w32 c.cross_product-bound.result = record { sfits = c.cross_product-bound.type_inv } in
    let e : c.cross_product-bound.result ≡ bound_of c.args.from c.args.to c.args.j = simp to_z-of_z at c.cross_product-bound.ensures in
    let u : Holds c.cut.result i ↔ (Holds c.args.columns i × (((pos 2 *ℤ (c.args.to.y -ℤ c.args.from.y)) *ℤ i) <ℤ c.cross_product-bound.result)) = simp to_z-of_z at (c.cut.ensures i) in
    plain (Holds c.args.columns i) (Holds c.cut.result i) (pos 2 *ℤ (c.args.to.y -ℤ c.args.from.y)) (bound_of c.args.from c.args.to c.args.j) (side_of c.args.from c.args.to origin (centre_of i c.args.j)) ((pos 2 *ℤ (c.args.to.y -ℤ c.args.from.y)) *ℤ i)
    (subst (λ (k : ℤ). Holds c.cut.result i ↔ (Holds c.args.columns i × (((pos 2 *ℤ (c.args.to.y -ℤ c.args.from.y)) *ℤ i) <ℤ k))) e u)
    (column_is c.args.from c.args.to i c.args.j)
