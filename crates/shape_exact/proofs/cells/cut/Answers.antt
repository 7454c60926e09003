use Rattle.std.proofs.Common.{ℤ, pos, neg_ℤ, w32, FitsSigned, ◌≡◌, ◌↔◌, ◌≤ℤ◌, ◌<ℤ◌, ◌*ℤ◌, ◌-ℤ◌, ◌≤◌, rules, arith}
use Rattle.std.specs.Int.RustNames.{unsigned_abs}
use Rattle.std.proofs.lemmas.Int.{to_z-of_z, ints}
use Rattle.shape_exact.proofs.RingLaws.{linear}
use Rattle.shape_exact.proofs.RowLaws.{cut_top, cut_bottom}
use Rattle.shape_exact.proofs.cells.cut.Goals as goal

less_fits : (b : ℤ) → unsigned_abs b ≤ 1500000000 → FitsSigned w32 (b -ℤ pos 1)
less_fits b h = omega (arith, ints)

top_then : (low high slope bound q x : ℤ) → ((slope *ℤ x) <ℤ bound) ↔ (x ≤ℤ q) → q <ℤ high → ((low ≤ℤ x) × (x ≤ℤ q) → ((low ≤ℤ x) × (x ≤ℤ high)) × ((slope *ℤ x) <ℤ bound)) × (((low ≤ℤ x) × (x ≤ℤ high)) × ((slope *ℤ x) <ℤ bound) → (low ≤ℤ x) × (x ≤ℤ q))
top_then low high slope bound q x e l = (λ h. let a = h.1 in ((h.0, omega (arith, linear)), e.1 h.1), λ h. (h.0.0, e.0 h.1))

top_else : (low high slope bound q x : ℤ) → ((slope *ℤ x) <ℤ bound) ↔ (x ≤ℤ q) → high ≤ℤ q → ((low ≤ℤ x) × (x ≤ℤ high) → ((low ≤ℤ x) × (x ≤ℤ high)) × ((slope *ℤ x) <ℤ bound)) × (((low ≤ℤ x) × (x ≤ℤ high)) × ((slope *ℤ x) <ℤ bound) → (low ≤ℤ x) × (x ≤ℤ high))
top_else low high slope bound q x e l = (λ h. let a = h.1 in (h, e.1 (omega (arith, linear))), λ h. h.0)

pub returns-then-top-s : goal.returns-then-top-s
returns-then-top-s c = λ x.
    let fs = c.ranges.slope in
    let fb = c.ranges.bound in
    let f1 : FitsSigned w32 c.args.s.low = search rules in
    let f2 : FitsSigned w32 c.args.s.high = search rules in
    let fq : FitsSigned w32 c.quotient-top.result = record { sfits = c.quotient-top.type_inv } in
    let fl = less_fits c.args.bound c.requires.bound in
    let e = simp to_z-of_z at (c.quotient-top.ensures.is x) in
    let t = simp to_z-of_z at c.if-top-s.true in
    simp to_z-of_z (top_then c.args.s.low c.args.s.high c.args.slope c.args.bound c.quotient-top.result x (cut_top c.args.slope c.args.bound c.quotient-top.result x e) (omega (arith, ints, t)))

pub returns-else-top-s : goal.returns-else-top-s
returns-else-top-s c = λ x.
    let fs = c.ranges.slope in
    let fb = c.ranges.bound in
    let f2 : FitsSigned w32 c.args.s.high = search rules in
    let fq : FitsSigned w32 c.quotient-top.result = record { sfits = c.quotient-top.type_inv } in
    let fl = less_fits c.args.bound c.requires.bound in
    let e = simp to_z-of_z at (c.quotient-top.ensures.is x) in
    let t = simp to_z-of_z at c.if-top-s.false in
    top_else c.args.s.low c.args.s.high c.args.slope c.args.bound c.quotient-top.result x (cut_top c.args.slope c.args.bound c.quotient-top.result x e) (omega (arith, ints, t))

zero_less : (a : ℤ) → pos 0 -ℤ a ≡ neg_ℤ a
zero_less a = omega (arith, linear)

negated_fits : (a : ℤ) → unsigned_abs a ≤ 2000000000 → FitsSigned w32 (pos 0 -ℤ a)
negated_fits a h = omega (arith, ints)

slope_fits : (a : ℤ) → unsigned_abs a ≤ 1000000 → FitsSigned w32 (pos 0 -ℤ a)
slope_fits a h = omega (arith, ints)

bottom_is : (slope bound q x : ℤ) → (((pos 0 -ℤ slope) *ℤ neg_ℤ x) ≤ℤ (bound -ℤ pos 1)) ↔ (neg_ℤ x ≤ℤ q) → ((slope *ℤ x) <ℤ bound) ↔ ((pos 0 -ℤ q) ≤ℤ x)
bottom_is slope bound q x e = rw (zero_less q) (cut_bottom slope bound q x (rw (zero_less slope) at e))

bottom_then : (low high slope bound b x : ℤ) → ((slope *ℤ x) <ℤ bound) ↔ (b ≤ℤ x) → low <ℤ b → ((b ≤ℤ x) × (x ≤ℤ high) → ((low ≤ℤ x) × (x ≤ℤ high)) × ((slope *ℤ x) <ℤ bound)) × (((low ≤ℤ x) × (x ≤ℤ high)) × ((slope *ℤ x) <ℤ bound) → (b ≤ℤ x) × (x ≤ℤ high))
bottom_then low high slope bound b x e l = (λ h. let a = h.0 in ((omega (arith, linear), h.1), e.1 h.0), λ h. (e.0 h.1, h.0.1))

bottom_else : (low high slope bound b x : ℤ) → ((slope *ℤ x) <ℤ bound) ↔ (b ≤ℤ x) → b ≤ℤ low → ((low ≤ℤ x) × (x ≤ℤ high) → ((low ≤ℤ x) × (x ≤ℤ high)) × ((slope *ℤ x) <ℤ bound)) × (((low ≤ℤ x) × (x ≤ℤ high)) × ((slope *ℤ x) <ℤ bound) → (low ≤ℤ x) × (x ≤ℤ high))
bottom_else low high slope bound b x e l = (λ h. let a = h.0 in (h, e.1 (omega (arith, linear))), λ h. h.0)

pub returns-then-s-bottom : goal.returns-then-s-bottom
returns-then-s-bottom c = λ x.
    let fs = c.ranges.slope in
    let fb = c.ranges.bound in
    let f1 : FitsSigned w32 c.args.s.low = search rules in
    let f2 : FitsSigned w32 c.args.s.high = search rules in
    let fq : FitsSigned w32 c.quotient-bottom.result = record { sfits = c.quotient-bottom.type_inv } in
    let fl = less_fits c.args.bound c.requires.bound in
    let fn = slope_fits c.args.slope c.requires.slope in
    let fr = negated_fits c.quotient-bottom.result c.quotient-bottom.ensures.small in
    let e = simp to_z-of_z at (c.quotient-bottom.ensures.is (neg_ℤ x)) in
    let t = simp to_z-of_z at c.if-s-bottom.true in
    simp to_z-of_z (bottom_then c.args.s.low c.args.s.high c.args.slope c.args.bound (pos 0 -ℤ c.quotient-bottom.result) x (bottom_is c.args.slope c.args.bound c.quotient-bottom.result x e) (omega (arith, ints, t)))

pub returns-else-s-bottom : goal.returns-else-s-bottom
returns-else-s-bottom c = λ x.
    let fs = c.ranges.slope in
    let fb = c.ranges.bound in
    let f1 : FitsSigned w32 c.args.s.low = search rules in
    let fq : FitsSigned w32 c.quotient-bottom.result = record { sfits = c.quotient-bottom.type_inv } in
    let fl = less_fits c.args.bound c.requires.bound in
    let fn = slope_fits c.args.slope c.requires.slope in
    let fr = negated_fits c.quotient-bottom.result c.quotient-bottom.ensures.small in
    let e = simp to_z-of_z at (c.quotient-bottom.ensures.is (neg_ℤ x)) in
    let t = simp to_z-of_z at c.if-s-bottom.false in
    bottom_else c.args.s.low c.args.s.high c.args.slope c.args.bound (pos 0 -ℤ c.quotient-bottom.result) x (bottom_is c.args.slope c.args.bound c.quotient-bottom.result x e) (omega (arith, ints, t))
