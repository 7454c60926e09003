use Rattle.std.proofs.Common.{ap, refl, ◌∙◌}
use Rattle.branch_workers.proofs.RoundLaws.{written}
use Rattle.branch_workers.proofs.WorkLaws.{work_begins, worked_on_slice, worked_out_slice}
use Rattle.branch_workers.proofs.LoggedLaws.{none_logged}
use Rattle.branch_workers.proofs.StockLaws.{stocked_none}
use Rattle.branch_workers.proofs.working.work_all.Goals as goal

pub loop-job-init : goal.loop-job-init
loop-job-init g c = record {
  place = record { number = refl; seat = c.offer_first.ensures; owner = (refl, refl); reaches = refl };
  working = work_begins _ _ _ _ _ _ refl c.requires.fresh.reports c.requires.fresh.reaches;
  logged = none_logged _ _ _ _ c.requires.fresh.log c.requires.fresh.reports;
  stocked = stocked_none _ _ _ _ c.requires.fresh.store.0 c.requires.fresh.store.1;
}

pub loop-job-preserved : goal.loop-job-preserved
loop-job-preserved g c =
    let p = c.loop-job.invariant.place in
    let w = worked_on_slice _ _ _ _ _ _ _ _ _ _ _ _ _ _ _ c.in-Some.job c.as_mut_slice.ensures.value
    (λ m. ap (λ v. v.items) c.take_job.ensures.place.1 ∙ written c.loop-job.worker.reaches.items c.next_job.new.reaches _ c.loop-job.worker.reaches.len c.loop-job.worker.reaches.ok.0 m)
    c.loop-job.invariant.working c.in-Some.ensures.next c.take_job.ensures.owner.0 c.take_job.ensures.owner.1 c.take_job.ensures.made
    c.in_ok-take_job.ensures.reported c.in_ok-take_job.ensures.count in
    record {
      place = record { number = c.take_job.ensures.place.0.number ∙ p.number; seat = c.take_job.ensures.place.0.seat ∙ p.seat; owner = w.same; reaches = w.places };
      working = w;
      logged = c.in_ok-take_job.ensures.logged;
      stocked = c.in_ok-take_job.ensures.stocked;
    }

pub returns-clause-worked : goal.returns-clause-worked
returns-clause-worked g c =
    worked_out_slice _ _ _ _ _ _ _ _ _ _ _ _ _ c.as_mut_slice.ensures.value
    (λ m. written c.loop-job.worker.reaches.items c.next_job.new.reaches _ c.loop-job.worker.reaches.len c.loop-job.worker.reaches.ok.0 m)
    c.loop-job.invariant.working c.in_default.ensures.next c.in_default.ensures.none
