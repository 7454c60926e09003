use Rattle.std.proofs.Common.{◌≡◌, ℕ, true, refl, sym, subst}
use Rattle.plan_rule.specs.Yards.{choices}
use Rattle.branch_kernel.proofs.NodeLaws.{ready_later}
use Rattle.branch_kernel.specs.Marks.{has}
use Rattle.branch_search.proofs.CycleLaws.{covered_done}
use Rattle.branch_search.proofs.ViewLaws.{view_more}
use Rattle.branch_search.proofs.covering.cover_known.Goals as goal
use Rattle.branch_search.proofs.covering.cover_known.Goals.{in-Some+in_default-cover_by_box, in_default}

pub returns-in-Done-clause-covered : goal.returns-in-Done-clause-covered
returns-in-Done-clause-covered g c =
    covered_done (choices c.args.codes.now) c.args.job _ _ c.args.side.now _ c.args.block c.args.code _ c.in-Done.covered c.in_ok-covered.ensures.covered c.in-Done.is

pub returns-in-Some-cover_by_box-clause-covered : goal.returns-in-Some-cover_by_box-clause-covered
returns-in-Some-cover_by_box-clause-covered g c =
    c.in-Some-cover_by_box.ensures.covered _ _ refl (ready_later (choices c.args.codes.now) _ _ _ c.requires.ready c.cover_sparing.ensures.runs) c.requires.node c.cover_sparing.ensures.runs.grows

pub returns-in-Some-cover_by_box-clause-view : goal.returns-in-Some-cover_by_box-clause-view
returns-in-Some-cover_by_box-clause-view g c =
    view_more c.args.codes.now c.args.side.now (has c.cover_sparing.new.needs) (has c.cover_by_box.new.needs) c.args.block c.cover_sparing.new.view c.cover_by_box.ensures.needs c.cover_sparing.ensures.view

pub returns-clause-view : goal.returns-clause-view
returns-clause-view g c =
    view_more c.args.codes.now c.args.side.now (has c.cover_sparing.new.needs) (has c.match-find.needs) c.args.block c.cover_sparing.new.view
    (elim c.match-find.branch [
      | in-Some+in_default-cover_by_box w ↦ subst (λ n. (x : ℕ) → has c.cover_sparing.new.needs x ≡ true → has n x ≡ true) (sym w.needs-is) w.cover_by_box.ensures.needs
      | in_default w ↦ subst (λ n. (x : ℕ) → has c.cover_sparing.new.needs x ≡ true → has n x ≡ true) (sym w.needs-is) (λ x h. h)
    ])
    c.cover_sparing.ensures.view
