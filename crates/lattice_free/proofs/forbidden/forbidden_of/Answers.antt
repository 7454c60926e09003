use Rattle.std.proofs.Common.{ℤ, pos, negsuc, ℕ, ◌+ℤ◌, ◌-ℤ◌, ◌*◌, ◌≤ℤ◌, ◌≡◌, w32, arith, FitsSigned, subst}
use Rattle.std.proofs.lemmas.Int.{to_z-of_z, ints}
use Rattle.minkowski_obstacles.specs.Pairs.{IsRow, IsEmptyRow}
use Rattle.lattice_free.specs.Runs.{place}
use Rattle.lattice_free.proofs.PlaceLaws.{clear_from, row_held, row_clear, row_free}
use Rattle.lattice_free.proofs.forbidden.forbidden_of.Goals as goal

at_fits : (a : ℤ) → pos 0 ≤ℤ a → a ≤ℤ pos 400 → FitsSigned w32 a
at_fits a h k = omega (arith, ints)

end_fits : (a b : ℤ) → negsuc 1999 ≤ℤ a → a ≤ℤ b → b ≤ℤ pos 2000 → FitsSigned w32 a × FitsSigned w32 b
end_fits a b h k l = (omega (arith, ints), omega (arith, ints))

sum_fits : (a b t : ℤ) → negsuc 1999 ≤ℤ a → a ≤ℤ b → b ≤ℤ pos 2000 → pos 0 ≤ℤ t → t ≤ℤ pos 400 → FitsSigned w32 (a +ℤ t) × FitsSigned w32 (b +ℤ t)
sum_fits a b t h k l m n = (omega (arith, ints), omega (arith, ints))

row_fits : (y t : ℤ) → FitsSigned w32 y → pos 0 ≤ℤ y → pos 0 ≤ℤ t → t ≤ℤ pos 400 → FitsSigned w32 (y -ℤ t)
row_fits y t f h k l = omega (arith, ints)

not_negative : (y : ℤ) (n : ℕ) → y ≡ pos n → pos 0 ≤ℤ y
not_negative y n e = omega (arith, ints)

pub returns-in-None-clause-none : goal.returns-in-None-clause-none
returns-in-None-clause-none c = λ k l.
    let a = c.requires.at in
    let f1 = at_fits c.args.at.x a.0.0 a.0.1 in
    let f2 = at_fits c.args.at.y a.1.0 a.1.1 in
    let f3 : FitsSigned w32 c.from-y.result = record { sfits = c.from-y.type_inv } in
    let f4 = row_fits c.from-y.result c.args.at.y f3 (not_negative c.from-y.result (c.args.row * c.args.pitch) c.from-y.ensures) a.1.0 a.1.1 in
    let r = simp to_z-of_z at c.in-None.ensures.none in
    let s = subst (λ (y : ℤ). IsEmptyRow c.args.obstacle.now (y -ℤ c.args.at.y)) c.from-y.ensures r in
    let p = place c.args.pitch c.args.row k in
    clear_from c.args.obstacle.now c.args.at p (s (p.x -ℤ c.args.at.x))

pub returns-in-Some-clause-none : goal.returns-in-Some-clause-none
returns-in-Some-clause-none c =
    let a = c.requires.at in
    let f1 = at_fits c.args.at.x a.0.0 a.0.1 in
    let f2 = at_fits c.args.at.y a.1.0 a.1.1 in
    let f3 : FitsSigned w32 c.from-y.result = record { sfits = c.from-y.type_inv } in
    let f4 = row_fits c.from-y.result c.args.at.y f3 (not_negative c.from-y.result (c.args.row * c.args.pitch) c.from-y.ensures) a.1.0 a.1.1 in
    let w = c.in-Some.ensures.few in
    let o = c.in-Some.ensures.some.some in
    let f5 = (end_fits c.in-Some.low c.in-Some.high w.0 o w.1).0 in
    let f6 = (end_fits c.in-Some.low c.in-Some.high w.0 o w.1).1 in
    let f7 = (sum_fits c.in-Some.low c.in-Some.high c.args.at.x w.0 o w.1 a.0.0 a.0.1).0 in
    let f8 = (sum_fits c.in-Some.low c.in-Some.high c.args.at.x w.0 o w.1 a.0.0 a.0.1).1 in
    let r = simp to_z-of_z at c.in-Some.ensures.some in
    let s = subst (λ (y : ℤ). IsRow c.args.obstacle.now (y -ℤ c.args.at.y) c.in-Some.low c.in-Some.high) c.from-y.ensures r in
    let h = simp to_z-of_z at c.columns_between.ensures.none in
    row_free c.args.obstacle.now c.args.at c.args.pitch c.args.row c.args.columns c.in-Some.low c.in-Some.high c.columns_between.result s h

pub returns-in-Some-clause-held : goal.returns-in-Some-clause-held
returns-in-Some-clause-held c =
    let a = c.requires.at in
    let f1 = at_fits c.args.at.x a.0.0 a.0.1 in
    let f2 = at_fits c.args.at.y a.1.0 a.1.1 in
    let f3 : FitsSigned w32 c.from-y.result = record { sfits = c.from-y.type_inv } in
    let f4 = row_fits c.from-y.result c.args.at.y f3 (not_negative c.from-y.result (c.args.row * c.args.pitch) c.from-y.ensures) a.1.0 a.1.1 in
    let w = c.in-Some.ensures.few in
    let o = c.in-Some.ensures.some.some in
    let f5 = (end_fits c.in-Some.low c.in-Some.high w.0 o w.1).0 in
    let f6 = (end_fits c.in-Some.low c.in-Some.high w.0 o w.1).1 in
    let f7 = (sum_fits c.in-Some.low c.in-Some.high c.args.at.x w.0 o w.1 a.0.0 a.0.1).0 in
    let f8 = (sum_fits c.in-Some.low c.in-Some.high c.args.at.x w.0 o w.1 a.0.0 a.0.1).1 in
    let r = simp to_z-of_z at c.in-Some.ensures.some in
    let s = subst (λ (y : ℤ). IsRow c.args.obstacle.now (y -ℤ c.args.at.y) c.in-Some.low c.in-Some.high) c.from-y.ensures r in
    let h = simp to_z-of_z at c.columns_between.ensures.some in
    row_held c.args.obstacle.now c.args.at c.args.pitch c.args.row c.args.columns c.in-Some.low c.in-Some.high c.columns_between.result s h

pub returns-in-Some-clause-clear : goal.returns-in-Some-clause-clear
returns-in-Some-clause-clear c =
    let a = c.requires.at in
    let f1 = at_fits c.args.at.x a.0.0 a.0.1 in
    let f2 = at_fits c.args.at.y a.1.0 a.1.1 in
    let f3 : FitsSigned w32 c.from-y.result = record { sfits = c.from-y.type_inv } in
    let f4 = row_fits c.from-y.result c.args.at.y f3 (not_negative c.from-y.result (c.args.row * c.args.pitch) c.from-y.ensures) a.1.0 a.1.1 in
    let w = c.in-Some.ensures.few in
    let o = c.in-Some.ensures.some.some in
    let f5 = (end_fits c.in-Some.low c.in-Some.high w.0 o w.1).0 in
    let f6 = (end_fits c.in-Some.low c.in-Some.high w.0 o w.1).1 in
    let f7 = (sum_fits c.in-Some.low c.in-Some.high c.args.at.x w.0 o w.1 a.0.0 a.0.1).0 in
    let f8 = (sum_fits c.in-Some.low c.in-Some.high c.args.at.x w.0 o w.1 a.0.0 a.0.1).1 in
    let r = simp to_z-of_z at c.in-Some.ensures.some in
    let s = subst (λ (y : ℤ). IsRow c.args.obstacle.now (y -ℤ c.args.at.y) c.in-Some.low c.in-Some.high) c.from-y.ensures r in
    let h = simp to_z-of_z at c.columns_between.ensures.some in
    row_clear c.args.obstacle.now c.args.at c.args.pitch c.args.row c.args.columns c.in-Some.low c.in-Some.high c.columns_between.result s h
