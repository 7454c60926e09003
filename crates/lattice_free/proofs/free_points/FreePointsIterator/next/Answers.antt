use Rattle.std.proofs.Common.{◌≡◌, ℕ, ◌+◌, List, ◌∷◌, sym, ap, subst, ◌∙◌, arith, length}
use Rattle.shape_exact.specs.declared.point.Point.{Point}
use Rattle.lattice_free.specs.declared.run.Run.{Run}
use Rattle.std.specs.List.{All}
use Rattle.std.proofs.lemmas.List.Elements.{All-tail}
use Rattle.lattice_free.specs.Runs.{IsRun, place}
use Rattle.lattice_free.specs.Left.{left_of, AreLeft, IsWithinFirst}
use Rattle.lattice_free.proofs.LeftLaws.{left_more, left_whole}
use Rattle.lattice_free.proofs.free_points.FreePointsIterator.next.Goals as goal

pub invariant_of-self : goal.invariant_of-self
invariant_of-self c =
    let rs = c.in_ok-run.later.now in
    let all : All IsRun (c.in_ok-run.run'.now ∷ rs) = subst (All IsRun) c.in_ok-run.ensures.cases.0 c.self.invariant.each in
    subst (λ (k : ℕ). AreLeft c.self.inside.pitch k rs) (sym c.first_column-self-inside.ensures) (left_whole c.self.inside.pitch rs c.self.invariant.steps (All-tail IsRun c.in_ok-run.run'.now rs all))

next_of : (pitch column : ℕ) (runs : List Run) (r : Run) (rs : List Run) (p : Point) → runs ≡ r ∷ rs → IsWithinFirst column runs → p ≡ place pitch r.row column → left_of pitch column runs ≡ p ∷ left_of pitch (column + 1) runs
next_of pitch column runs r rs p e w f =
    ap (left_of pitch column) e
    ∙ left_more pitch column r rs (subst (IsWithinFirst column) e w)
    ∙ ap (λ (q : Point). q ∷ left_of pitch (column + 1) (r ∷ rs)) (sym f)
    ∙ ap (λ (ss : List Run). p ∷ left_of pitch (column + 1) ss) (sym e)

pub returns-else-self-run-clause-steps : goal.returns-else-self-run-clause-steps
returns-else-self-run-clause-steps c =
    let i = c.self.inside in
    sym c.self.view_is ∙ next_of i.pitch i.column i.runs.now c.in_ok-run.run'.now c.in_ok-run.later.now c.place-position.result c.in_ok-run.ensures.cases.0 c.self.invariant.within c.place-position.ensures

pub returns-else-self-run-clause-goes : goal.returns-else-self-run-clause-goes
returns-else-self-run-clause-goes c =
    let i = c.self.inside in
    let e = sym c.self.view_is ∙ next_of i.pitch i.column i.runs.now c.in_ok-run.run'.now c.in_ok-run.later.now c.place-position.result c.in_ok-run.ensures.cases.0 c.self.invariant.within c.place-position.ensures in
    let l = ap (length {A = Point}) e in
    record { on = λ f. (tt, tt, omega arith); keeps = tt; rests = λ f. tt }
