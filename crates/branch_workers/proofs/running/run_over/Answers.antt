use Rattle.std.proofs.Common.{rules, ◌∙◌}
use Rattle.branch_workers.proofs.CrewLaws.{spots_kept, still_fresh, numbers_fit, room_is, ready, told_if, run_sizes, all_jobs, still_honest, still_seated, on_ok}
use Rattle.branch_workers.proofs.TraceLaws.{dealt_pushed, done_honest, traced_by}
use Rattle.branch_workers.proofs.running.run_over.Goals as goal

pub deal_out-requires-clause-jobs : goal.deal_out-requires-clause-jobs
deal_out-requires-clause-jobs g c = all_jobs _ c.args.split _ c.requires.dealt

pub run_all-ran-requires-clause-fresh : goal.run_all-ran-requires-clause-fresh
run_all-ran-requires-clause-fresh g c κs within = still_fresh _ _ _ c.deal_out.ensures.rest c.requires.made.fresh

pub gather-requires-clause-numbers : goal.gather-requires-clause-numbers
gather-requires-clause-numbers g c = numbers_fit _ _ _ _ (c.run_all-ran.ensures.spots ∙ spots_kept _ _ c.deal_out.ensures.rest) c.requires.made

pub gather-requires-clause-room : goal.gather-requires-clause-room
gather-requires-clause-room g c = room_is _ _ _ _ (c.run_all-ran.ensures.spots ∙ spots_kept _ _ c.deal_out.ensures.rest) c.requires.made

pub returns-clause-sizes : goal.returns-clause-sizes
returns-clause-sizes g c = run_sizes _ _ _ _ _ _ c.deal_out.ensures.rest c.run_all-ran.ensures.spots c.gather.ensures.gathered

pub returns-clause-ready : goal.returns-clause-ready
returns-clause-ready g c = ready _ _ _ _ _ _ c.requires.made (c.run_all-ran.ensures.spots ∙ spots_kept _ _ c.deal_out.ensures.rest) c.run_all-ran.ensures.idle c.gather.ensures.gathered

pub returns-clause-told : goal.returns-clause-told
returns-clause-told g c = told_if c.run_all-ran.result _ _ c.args.split c.args.jobs.now c.args.workers.now c.deal_out.new.workers c.run_all-ran.new.workers _ _ _ (search rules) c.requires.dealt c.requires.once c.requires.made c.deal_out.ensures.given
    c.run_all-ran.ensures.accounted c.gather.ensures.gathered

pub returns-clause-honest : goal.returns-clause-honest
returns-clause-honest g c = on_ok _ _ _ (λ all. still_honest _ _ _ c.gather.ensures.gathered.rest (done_honest _ _ _ all)) c.run_all-ran.ensures.done

pub run_all-ran-requires-clause-dealt : goal.run_all-ran-requires-clause-dealt
run_all-ran-requires-clause-dealt g c κs within = dealt_pushed _ _ _ _ c.requires.dealt c.deal_out.ensures.given

pub returns-clause-traced : goal.returns-clause-traced
returns-clause-traced g c = on_ok _ _ _ (λ all. traced_by _ _ _ _ _ _ _ _ c.requires.made all c.gather.ensures.gathered) c.run_all-ran.ensures.done

pub returns-clause-seated : goal.returns-clause-seated
returns-clause-seated g c = still_seated _ _ _ _ _ c.deal_out.ensures.rest c.run_all-ran.ensures.spots c.gather.ensures.gathered.rest c.requires.made.fresh
