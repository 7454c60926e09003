-- What a worker keeps from one job to the next.
use Rattle.std.proofs.Common.{◌≡◌, ℕ, ◌+◌, List, [], ◌∷◌, map, Some, None, ◌⊎◌, refl, sym, ap, ◌∙◌, subst, inl, inr, arith}
use Rattle.std.specs.List.{sum_by, All}
use Rattle.std.proofs.lemmas.List.Sums.{sum_by-cons}
use Rattle.std.proofs.lemmas.List.Elements.{All-nil, All-append, All-weaker, All-head, All-tail}
use Rattle.plan_rule.specs.declared.job.Job.{Job}
use Rattle.plan_rule.specs.Choices.{Choices}
use Rattle.branch_core.specs.declared.report.Report.{Report}
use Rattle.steal_rule.specs.Deques.{Owned, Reaching}
use Rattle.log_merge.specs.Tiles.{has, times}
use Rattle.branch_workers.specs.Work.{robbed, steals_of, place_of, IsMade, Grown, IsSound, IsSameOwner, IsTakenSince, IsNext, IsIdle, IsWorking, HasWorked, job_of_report, may_steal}
use Rattle.branch_workers.proofs.WeighLaws.{grown_none, grown_more}

-- reaches that have made no steal
none_robbed : (reaches : List Reaching) → All (λ (r : Reaching). (r.steals ≡ 0) × (r.stolen ≡ [])) reaches → (steals_of reaches ≡ 0) × ((h : Job → ℕ) → robbed h reaches ≡ 0)
none_robbed [] all = (refl, λ h. refl)
none_robbed (r ∷ reaches) all =
    let i = none_robbed reaches (All-tail (λ (r : Reaching). (r.steals ≡ 0) × (r.stolen ≡ [])) r reaches all) in
    let head = All-head (λ (r : Reaching). (r.steals ≡ 0) × (r.stolen ≡ [])) r reaches all in (
      let a = sum_by-cons (λ (r : Reaching). r.steals) r reaches in let b = head.0 in let d = i.0 in omega arith,
      λ h. let a = sum_by-cons (λ (r : Reaching). sum_by h r.stolen) r reaches in let b : sum_by h r.stolen ≡ 0 = ap (sum_by h) head.1 in let d = i.1 h in omega arith,
    )

pub work_begins : (c : Choices) (split : ℕ) (owner : Owned) (reaches : List Reaching) (reports : List Report) (left : ℕ) → left ≡ may_steal → reports ≡ []
    → All (λ (r : Reaching). (r.steals ≡ 0) × (r.stolen ≡ [])) reaches → IsWorking c split owner owner reaches reaches reports left
work_begins c split owner reaches reports left full nothing fresh =
    subst (λ (reports : List Report). IsWorking c split owner owner reaches reaches reports left) (sym nothing) record {
      same = (refl, refl);
      places = refl;
      made = grown_none (IsMade c split) owner.pushed;
      count = λ x. let a = (none_robbed reaches fresh).1 (has x) in omega arith;
      reported = All-nil (λ r. IsSound c r × (IsTakenSince owner owner reaches r.job ⊎ IsMade c split r.job));
      since = λ h. omega arith;
      pace = λ k d l. let a = (fresh k d l).0 in omega arith;
      steals = let a = (none_robbed reaches fresh).0 in omega arith;
    }

-- a job was taken and reported, whole or in part
pub worked_on : (c : Choices) (split : ℕ) (old owner owner' owner'' : Owned) (first reaches reaches' : List Reaching) (reports reports' : List Report) (left left' : ℕ) (job : Job)
    → IsWorking c split old owner first reaches reports left → IsNext owner owner' reaches reaches' left left' (Some job)
    → IsSameOwner owner' owner'' → owner''.popped ≡ owner'.popped → Grown (IsMade c split) owner'.pushed owner''.pushed
    → Grown (λ r. IsSound c r × ((r.job ≡ job) ⊎ IsMade c split r.job)) reports reports'
    → ((x : ℕ) → sum_by (has x) owner''.pushed + times x (map job_of_report reports') ≡ has x job + sum_by (has x) owner'.pushed + times x (map job_of_report reports))
    → IsWorking c split old owner'' first reaches' reports' left'
worked_on c split old owner owner' owner'' first reaches reaches' reports reports' left left' job w n same popped made (more, is, all) count = record {
  same = (same.0 ∙ n.same.0 ∙ w.same.0, same.1 ∙ n.same.1 ∙ w.same.1);
  places = n.places ∙ w.places;
  made = grown_more (IsMade c split) old.pushed owner.pushed owner''.pushed w.made
      (subst (λ (l : List Job). Grown (IsMade c split) l owner''.pushed) n.pushed made);
  count = λ x.
      let a = w.count x in let b = n.taken (has x) in let d = count x in
      let e : sum_by (has x) owner''.popped ≡ sum_by (has x) owner'.popped = ap (sum_by (has x)) popped in
      let f : sum_by (has x) owner'.pushed ≡ sum_by (has x) owner.pushed = ap (sum_by (has x)) n.pushed in omega arith;
  reported = subst (All Good) (sym is) (All-append Good reports more
      (All-weaker (λ r. IsSound c r × (IsTakenSince old owner reaches r.job ⊎ IsMade c split r.job)) Good (λ r h. (h.0, still r.job h.1)) reports w.reported)
      (All-weaker (λ r. IsSound c r × ((r.job ≡ job) ⊎ IsMade c split r.job)) Good (λ r h. (h.0, now r.job h.1)) more all));
  since = λ h. let a = w.since h in let b = grows h in omega arith;
  pace = n.pace;
  steals = let a = w.steals in let b = n.steals in omega arith;
}
  where
    Good : Report → Type 0
    Good r = IsSound c r × (IsTakenSince old owner'' reaches' r.job ⊎ IsMade c split r.job)

    grows : (h : Job → ℕ) → sum_by h owner''.popped + robbed h reaches' ≡ sum_by h owner.popped + robbed h reaches + h job
    grows h = let a = n.taken h in let e : sum_by h owner''.popped ≡ sum_by h owner'.popped = ap (sum_by h) popped in omega arith

    still : (j : Job) → IsTakenSince old owner reaches j ⊎ IsMade c split j → IsTakenSince old owner'' reaches' j ⊎ IsMade c split j
    still j h = elim h [ inl taken ↦ inl (λ f. let a = taken f in let b = grows f in omega arith) | inr made ↦ inr made ]

    now : (j : Job) → (j ≡ job) ⊎ IsMade c split j → IsTakenSince old owner'' reaches' j ⊎ IsMade c split j
    now j h = elim h [ inl same ↦ inl (λ f. let a = w.since f in let b = grows f in let e : f j ≡ f job = ap f same in omega arith) | inr made ↦ inr made ]

-- no job was left to take
pub worked_out : (c : Choices) (split : ℕ) (old owner owner' : Owned) (first reaches reaches' : List Reaching) (reports : List Report) (left left' : ℕ)
    → IsWorking c split old owner first reaches reports left → IsNext owner owner' reaches reaches' left left' None → IsIdle owner' reaches' left'
    → HasWorked c split old owner' first reaches' reports
worked_out c split old owner owner' first reaches reaches' reports left left' w n idle = record {
  made = subst (λ (l : List Job). Grown (IsMade c split) old.pushed l) (sym n.pushed) w.made;
  count = λ x.
      let a = w.count x in let b = n.taken (has x) in
      let f : sum_by (has x) owner'.pushed ≡ sum_by (has x) owner.pushed = ap (sum_by (has x)) n.pushed in omega arith;
  reported = All-weaker (λ r. IsSound c r × (IsTakenSince old owner reaches r.job ⊎ IsMade c split r.job)) (λ r. IsSound c r × (IsTakenSince old owner' reaches' r.job ⊎ IsMade c split r.job))
      (λ r h. (h.0, still r.job h.1)) reports w.reported;
  pace = n.pace;
  tried = elim idle.others [ inl none_left ↦ inl (let a = w.steals in let b = n.steals in omega arith) | inr all ↦ inr all ];
}
  where
    still : (j : Job) → IsTakenSince old owner reaches j ⊎ IsMade c split j → IsTakenSince old owner' reaches' j ⊎ IsMade c split j
    still j h = elim h [ inl taken ↦ inl (λ f. let a = taken f in let b = n.taken f in omega arith) | inr made ↦ inr made ]

-- the same, where the reaches are lent as a slice of a Vec
pub worked_on_slice : (c : Choices) (split : ℕ) (old owner owner' owner'' : Owned) (first reaches slice reaches' back : List Reaching) (reports reports' : List Report) (left left' : ℕ) (job : Job)
    → slice ≡ reaches → ((m : map place_of reaches' ≡ map place_of reaches) → back ≡ reaches')
    → IsWorking c split old owner first reaches reports left → IsNext owner owner' slice reaches' left left' (Some job)
    → IsSameOwner owner' owner'' → owner''.popped ≡ owner'.popped → Grown (IsMade c split) owner'.pushed owner''.pushed
    → Grown (λ r. IsSound c r × ((r.job ≡ job) ⊎ IsMade c split r.job)) reports reports'
    → ((x : ℕ) → sum_by (has x) owner''.pushed + times x (map job_of_report reports') ≡ has x job + sum_by (has x) owner'.pushed + times x (map job_of_report reports))
    → IsWorking c split old owner'' first back reports' left'
worked_on_slice c split old owner owner' owner'' first reaches slice reaches' back reports reports' left left' job lent given w n same popped made reported count =
    let n' = subst (λ (l : List Reaching). IsNext owner owner' l reaches' left left' (Some job)) lent n in
    subst (λ (l : List Reaching). IsWorking c split old owner'' first l reports' left') (sym (given n'.places))
    (worked_on c split old owner owner' owner'' first reaches reaches' reports reports' left left' job w n' same popped made reported count)

pub worked_out_slice : (c : Choices) (split : ℕ) (old owner owner' : Owned) (first reaches slice reaches' back : List Reaching) (reports : List Report) (left left' : ℕ)
    → slice ≡ reaches → ((m : map place_of reaches' ≡ map place_of reaches) → back ≡ reaches')
    → IsWorking c split old owner first reaches reports left → IsNext owner owner' slice reaches' left left' None → IsIdle owner' reaches' left'
    → HasWorked c split old owner' first back reports
worked_out_slice c split old owner owner' first reaches slice reaches' back reports left left' lent given w n idle =
    let n' = subst (λ (l : List Reaching). IsNext owner owner' l reaches' left left' None) lent n in
    subst (λ (l : List Reaching). HasWorked c split old owner' first l reports) (sym (given n'.places))
    (worked_out c split old owner owner' first reaches reaches' reports left left' w n' idle)
