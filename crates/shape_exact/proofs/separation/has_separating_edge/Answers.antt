use Rattle.std.proofs.Common.{pos, ◌<ℤ◌, ◌<◌, ◌≤◌, ◌∙◌, arith, length, get_or, sym, subst}
use Rattle.std.specs.List.{All, Any}
use Rattle.std.proofs.lemmas.List.Elements.{All-more}
use Rattle.std.proofs.lemmas.List.{take_all, get_or_default}
use Rattle.shape_exact.specs.declared.point.Point.{Point}
use Rattle.shape_exact.specs.Shapes.{cross, edges}
use Rattle.shape_exact.specs.Separation.{moved}
use Rattle.shape_exact.proofs.BridgeLaws.{length-edges}
use Rattle.shape_exact.proofs.separation.has_separating_edge.Goals as goal

pub returns-then-not-sees-clause-some : goal.returns-then-not-sees-clause-some
returns-then-not-sees-clause-some c = λ u.
    let n = length-edges c.args.a.now in
    let o : Point = record { x = pos 0; y = pos 0 } in
    let e : Point × Point = (get_or c.args.a.now c.loop-i.i o, c.end_of.result) in
    let l : c.loop-i.i < length (edges c.args.a.now) = omega arith in
    (c.loop-i.i, e, l, get_or_default (edges c.args.a.now) c.loop-i.i e (o, o) l ∙ c.end_of.ensures.edge (o, o), c.sees.ensures.unseen c.if-not-sees.true)

pub loop-i-preserved : goal.loop-i-preserved
loop-i-preserved c =
    let n = length-edges c.args.a.now in
    let o : Point = record { x = pos 0; y = pos 0 } in
    let P : Point × Point → Type 0 = λ e. Any (λ v. pos 0 <ℤ cross e.0 e.1 (moved c.args.by v)) c.args.b.now in
    let lt : c.loop-i.i < length (edges c.args.a.now) = omega arith in
    All-more P (edges c.args.a.now) c.loop-i.i (o, o) lt c.loop-i.invariant (subst P (sym (c.end_of.ensures.edge (o, o))) (c.sees.ensures.seen c.if-not-sees.false))

pub returns-clause-none : goal.returns-clause-none
returns-clause-none c = λ u.
    let n = length-edges c.args.a.now in
    let le : length (edges c.args.a.now) ≤ c.loop-i.i = omega arith in
    let P : Point × Point → Type 0 = λ e. Any (λ v. pos 0 <ℤ cross e.0 e.1 (moved c.args.by v)) c.args.b.now in
    subst (λ es. All P es) (take_all c.loop-i.i (edges c.args.a.now) le) c.loop-i.invariant
