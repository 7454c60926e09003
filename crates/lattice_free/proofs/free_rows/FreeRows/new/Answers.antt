use Rattle.std.proofs.Common.{ℕ, ◌+◌, ◌*◌, ◌<◌, ◌≤◌, ◌↔◌, subst}
use Rattle.lattice_free.proofs.GridLaws.{free_from}
use Rattle.lattice_free.proofs.free_rows.FreeRows.new.Goals as goal

pub returns : goal.returns
returns c =
    let plate = c.args.plate.now in
    let x = subst (λ (r : ℕ). (k : ℕ) → (k < c.steps-columns.result) ↔ (k * plate.pitch + r ≤ plate.width)) c.reach-width.ensures.x c.steps-columns.ensures.within in
    let y = subst (λ (r : ℕ). (k : ℕ) → (k < c.steps-rows.result) ↔ (k * plate.pitch + r ≤ plate.height)) c.reach-width.ensures.y c.steps-rows.ensures.within in
    free_from plate c.args.shape.now c.args.fixed.now c.steps-columns.result c.steps-rows.result c.in_ok-runs.runs.items c.requires.moving x y c.in_ok-runs.ensures
