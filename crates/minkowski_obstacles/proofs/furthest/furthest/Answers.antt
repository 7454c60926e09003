use Rattle.std.proofs.Common.{ℤ, pos, ◌≡◌, ◌∙◌, ◌+◌, ◌≤ℤ◌, w32, FitsSigned, true, false, arith, take, get_or, sym, ap, subst}
use lib.Signed.{lt_z}
use Rattle.std.specs.List.{All, Contains}
use Rattle.std.proofs.lemmas.Int.{to_z-of_z}
use Rattle.std.proofs.lemmas.List.Elements.{All-more, All-weaker, Contains-get_or}
use Rattle.std.proofs.lemmas.List.{take_all}
use Rattle.shape_exact.proofs.RingLaws.{linear}
use Rattle.shape_exact.specs.declared.point.Point.{Point}
use Rattle.shape_exact.specs.Shapes.{cross}
use Rattle.minkowski_obstacles.proofs.furthest.furthest.Goals as goal
use Rattle.minkowski_obstacles.proofs.furthest.furthest.Goals.{then-height-other, else-height-other}

trans : (a b c : ℤ) → a ≤ℤ b → b ≤ℤ c → a ≤ℤ c
trans a b c h k = omega (arith, linear)

same : (a : ℤ) → a ≤ℤ a
same a = omega (arith, linear)

higher : (a b p q : ℤ) → lt_z a b ≡ true → a ≡ p → b ≡ q → p ≤ℤ q
higher a b p q t e f = omega (arith, linear)

not_higher : (a b p q : ℤ) → lt_z a b ≡ false → a ≡ p → b ≡ q → q ≤ℤ p
not_higher a b p q t e f = omega (arith, linear)

pub loop-v-preserved : goal.loop-v-preserved
loop-v-preserved c =
    let vs = c.args.vertices.now in
    let i = c.loop-v.v-index in
    let o : Point = record { x = pos 0; y = pos 0 } in
    let s : Point → ℤ = λ v. cross c.args.e.from c.args.e.to v in
    let v = get_or vs i o in
    let best = c.loop-v.best in
    let f : FitsSigned w32 c.height-other.result = record { sfits = c.height-other.type_inv } in
    let other = to_z-of_z w32 c.height-other.result f ∙ c.height-other.ensures in
    let known = c.loop-v.invariant.height in
    elim c.if-height-other.branch [
      | then-height-other w ↦
          let h = higher _ _ (s best) (s v) w.if-height-other.true known other in
          record {
            member = subst (λ (p : Point). Contains vs p) (sym w.best-is) (Contains-get_or vs i o c.loop-v-test.true);
            furthest = subst (λ (p : Point). All (λ u. s u ≤ℤ s p) (take (i + 1) vs)) (sym w.best-is)
                (All-more (λ u. s u ≤ℤ s v) vs i o c.loop-v-test.true
                (All-weaker (λ u. s u ≤ℤ s best) (λ u. s u ≤ℤ s v) (λ u k. trans (s u) (s best) (s v) k h) (take i vs) c.loop-v.invariant.furthest) (same (s v)));
            height = w.height-is ∙ other ∙ ap (λ (p : Point). s p) (sym w.best-is);
          }
      | else-height-other w ↦
          let h = not_higher _ _ (s best) (s v) w.if-height-other.false known other in
          record {
            member = subst (λ (p : Point). Contains vs p) (sym w.best-is) c.loop-v.invariant.member;
            furthest = subst (λ (p : Point). All (λ u. s u ≤ℤ s p) (take (i + 1) vs)) (sym w.best-is)
                (All-more (λ u. s u ≤ℤ s best) vs i o c.loop-v-test.true c.loop-v.invariant.furthest h);
            height = w.height-is ∙ known ∙ ap (λ (p : Point). s p) (sym w.best-is);
          }
    ]

pub returns-clause-furthest : goal.returns-clause-furthest
returns-clause-furthest c =
    let whole = take_all c.loop-v.v-index c.args.vertices.now c.loop-v-test.false in
    subst (λ xs. All (λ v. cross c.args.e.from c.args.e.to v ≤ℤ cross c.args.e.from c.args.e.to c.loop-v.best) xs) whole c.loop-v.invariant.furthest
