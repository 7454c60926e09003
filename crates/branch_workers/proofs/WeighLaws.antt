-- What jobs weigh as they are pushed, popped, stolen and reported.
use Rattle.std.proofs.Common.{◌≡◌, ℕ, ◌+◌, ◌<◌, ◌≤◌, List, [], ◌∷◌, ◌++◌, map, ◌⊎◌, refl, sym, ap, ◌∙◌, subst, inl, inr, arith, append_assoc, append-nil}
use Rattle.std.specs.List.{sum_by}
use Rattle.std.proofs.lemmas.List.Sums.{sum_by-cons, sum_by_push}
use Rattle.std.proofs.lemmas.List.Elements.{All-nil, All-append, All-push}
use Rattle.plan_rule.specs.declared.job.Job.{Job}
use Rattle.plan_rule.specs.Choices.{Choices}
use Rattle.branch_core.specs.declared.report.Report.{Report}
use Rattle.steal_rule.specs.Deques.{Owned, pushing}
use Rattle.log_merge.specs.Tiles.{has, times}
use Rattle.plan_rule.specs.Jobs.{IsJob, lower, upper}
use Rattle.plan_rule.proofs.JobLaws.{halves_are}
use Rattle.log_merge.proofs.Chains.{halves_have}
use Rattle.branch_workers.specs.Work.{IsSplit, IsMade, Grown, IsInHand, IsSound, job_of_report}

pub grown_none : {X : Type 0} (P : X → Type 0) (xs : List X) → Grown P xs xs
grown_none P xs = ([], sym (append-nil xs), All-nil P)

pub grown_push : {X : Type 0} (P : X → Type 0) (old new : List X) (x : X) → Grown P old new → P x → Grown P old (new ++ x ∷ [])
grown_push P old new x (more, is, all) h = (more ++ x ∷ [], ap (λ l. l ++ x ∷ []) is ∙ append_assoc old more (x ∷ []), All-push P more x all h)

pub grown_more : {X : Type 0} (P : X → Type 0) (a b c : List X) → Grown P a b → Grown P b c → Grown P a c
grown_more P a b c (more, is, all) (more', is', all') =
    (more ++ more', is' ∙ ap (λ l. l ++ more') is ∙ append_assoc a more more', All-append P more more' all all')

-- an upper half is pushed, and the lower one stays in hand
pub half_pushed : (x : ℕ) (job part : Job) (old now : List Job) → part.length < 32
    → sum_by (has x) now + has x part ≡ has x job + sum_by (has x) old
    → sum_by (has x) (now ++ upper part ∷ []) + has x (lower part) ≡ has x job + sum_by (has x) old
half_pushed x job part old now l e =
    let a = sum_by_push (has x) now (upper part) in
    let c = halves_have x part l in omega arith

-- the report is pushed
pub reported : (x : ℕ) (job part : Job) (old now : List Job) (before after : List Report) (r : Report) → r.job ≡ part → after ≡ before ++ r ∷ []
    → sum_by (has x) now + has x part ≡ has x job + sum_by (has x) old
    → sum_by (has x) now + times x (map job_of_report after) ≡ has x job + sum_by (has x) old + times x (map job_of_report before)
reported x job part old now before after r same is e =
    let a = ap (λ (l : List Report). times x (map job_of_report l)) is ∙ pushed_report before ∙ ap (λ j. times x (map job_of_report before) + has x j) same in omega arith
  where
    pushed_report : (l : List Report) → times x (map job_of_report (l ++ r ∷ [])) ≡ times x (map job_of_report l) + has x r.job
    pushed_report [] = refl
    pushed_report (s ∷ l) =
        let i = pushed_report l in
        let a = sum_by-cons (has x) s.job (map job_of_report (l ++ r ∷ [])) in
        let b = sum_by-cons (has x) s.job (map job_of_report l) in omega arith

-- the job as it was taken is in hand
pub taken_in : (c : Choices) (split : ℕ) (job : Job) (owner : Owned) → IsJob job → IsInHand c split job owner owner job
taken_in c split job owner l = record {
  job_is = l;
  same = (refl, refl);
  popped = refl;
  made = grown_none (IsMade c split) owner.pushed;
  part_is = inl refl;
  count = λ x. omega arith;
}

-- after a half was pushed the other half is in hand
pub halved : (c : Choices) (split : ℕ) (job part low high : Job) (old now next : Owned) → IsInHand c split job old now part
    → IsSplit c part → part.length < 32 → part.length < split → low ≡ lower part → high ≡ upper part → next ≡ pushing now high
    → IsInHand c split job old next low
halved c split job part low high old now next h is l m low_is high_is next_is =
    subst (λ (low : Job). IsInHand c split job old next low) (sym low_is)
    (subst (λ (next : Owned). IsInHand c split job old next (lower part)) (sym (next_is ∙ ap (pushing now) high_is))
    record {
      job_is = (halves_are part l h.job_is).0;
      same = h.same;
      popped = h.popped;
      made = grown_push (IsMade c split) old.pushed now.pushed (upper part) h.made (below, (part, h.job_is, l, is, inr refl));
      part_is = inr (below, (part, h.job_is, l, is, inl refl));
      count = λ x. half_pushed x job part old.pushed now.pushed l (h.count x);
    })
  where
    below : part.length + 1 ≤ split
    below = omega arith

-- the report of the part in hand
pub report_grown : (c : Choices) (split : ℕ) (job part : Job) (before after : List Report) (r : Report) → (part ≡ job) ⊎ IsMade c split part → r.job ≡ part → IsSound c r → after ≡ before ++ r ∷ []
    → Grown (λ r. IsSound c r × ((r.job ≡ job) ⊎ IsMade c split r.job)) before after
report_grown c split job part before after r part_is same sound is = (
  r ∷ [],
  is,
  All-push (λ r. IsSound c r × ((r.job ≡ job) ⊎ IsMade c split r.job)) [] r (All-nil (λ r. IsSound c r × ((r.job ≡ job) ⊎ IsMade c split r.job)))
      (sound, elim part_is [ inl a ↦ inl (same ∙ a) | inr b ↦ inr (subst (IsMade c split) (sym same) b) ]),
)
