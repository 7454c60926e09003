use Rattle.std.proofs.Common.{◌<◌, ◌≤◌, List, ap, sym, ◌∙◌, subst, ℕ, ◌+◌, take}
use Rattle.shape_exact.specs.declared.point.Point.{Point}
use Rattle.minkowski_obstacles.specs.Pairs.{Pair}
use Rattle.lattice_free.specs.declared.forbidden.Forbidden.{Forbidden}
use Rattle.lattice_free.specs.Clear.{AreForbidden, IsClear}
use Rattle.lattice_free.specs.Gaps.{Misses}
use Rattle.lattice_free.specs.Runs.{place}
use Rattle.lattice_free.proofs.ForbidLaws.{forbidden_past, forbidden_more}
use Rattle.lattice_free.proofs.forbidden.gather.Goals as goal
use Rattle.lattice_free.proofs.forbidden.gather.Goals.{in-Some+in_ok-push, in_default}

pub loop-o-preserved : goal.loop-o-preserved
loop-o-preserved c =
    let fs = c.args.fixed.now in
    let i = c.loop-o.o-index in
    let d = c.o-item.result in
    let ss = c.loop-o.forbidden.items in
    elim c.match-forbidden_of.branch [
      | in-Some+in_ok-push w ↦
          let s = w.in-Some.s in
          let e = w.in-Some.ensures in
          let h = subst (λ (o : Pair × Point). (k : ℕ) → k < c.args.columns → s.from ≤ k → k < s.to → IsClear (place c.args.pitch c.args.row k) o.0 o.1 → ⊥) c.o-item.is e.held in
          let g = subst (λ (o : Pair × Point). (k : ℕ) → k < c.args.columns → Misses k s → IsClear (place c.args.pitch c.args.row k) o.0 o.1) c.o-item.is e.clear in
          subst (λ (ts : List Forbidden). AreForbidden (take (i + 1) fs) c.args.pitch c.args.row c.args.columns ts) (sym w.in_ok-push.ensures.items ∙ sym (ap (λ v. v.items) w.forbidden-is))
          (forbidden_more c.args.pitch c.args.row c.args.columns fs i d ss s c.loop-o-test.true c.loop-o.invariant e.fits h g)
      | in_default w ↦
          let n = subst (λ (o : Pair × Point). (k : ℕ) → k < c.args.columns → IsClear (place c.args.pitch c.args.row k) o.0 o.1) c.o-item.is w.in_default.ensures.none in
          subst (λ (ts : List Forbidden). AreForbidden (take (i + 1) fs) c.args.pitch c.args.row c.args.columns ts) (sym (ap (λ v. v.items) w.forbidden-is))
          (forbidden_past c.args.pitch c.args.row c.args.columns fs i d ss c.loop-o-test.true c.loop-o.invariant n)
    ]
