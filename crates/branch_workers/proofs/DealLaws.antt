-- The jobs that are dealt.
use Rattle.std.proofs.Common.{◌≡◌, ℕ, zero, suc, ◌+◌, ◌*◌, ◌^◌, ◌<◌, ◌≤◌, List, [], ◌∷◌, ◌++◌, length, take, drop, set, get_or, length-set, get_or-set_same, get_or-set_other, refl, sym, ap, ◌∙◌, subst, inl, inr, arith, length-append}
use Rattle.std.specs.List.{sum_by, All}
use Rattle.std.proofs.lemmas.List.Sums.{sum_by_push, sum_by_more, sum_by-set, sum_by-drop_more, sum_by-cons}
use Rattle.std.proofs.lemmas.List.Elements.{All-nil, All-push, All-get_or, All-head, All-tail}
use Rattle.std.proofs.Math.Nat.{pow-suc}
use Rattle.common_lists.proofs.ListLaws.{get_or-default}
use Rattle.plan_rule.specs.declared.job.Job.{Job}
use Rattle.plan_rule.specs.Choices.{Choices}
use Rattle.log_merge.specs.Tiles.{has, times, root}
use Rattle.log_merge.proofs.Chains.{halves_have}
use Rattle.std.proofs.lemmas.Bool.{cases_eq}
use Rattle.steal_rule.specs.Deques.{Owned, pushing}
use Rattle.branch_workers.specs.declared.worker.Worker.{Worker}
use Rattle.branch_workers.specs.Work.{IsSplit}
use Rattle.branch_workers.specs.Deal.{IsDealt, IsHalvedOnto, IsRound, unpushed, with_pushed, pushed_by}
use Rattle.plan_rule.specs.Jobs.{IsJob, lower, upper}
use Rattle.plan_rule.proofs.JobLaws.{halves_are}
use Rattle.branch_workers.proofs.RoundLaws.{map-set}

abbrev pub Part : Choices → ℕ → List Job → List Job → ℕ → Type 0
Part c level jobs done i = All (IsDealt c (level + 1)) done × ((x : ℕ) → times x done ≡ times x (take i jobs)) × (length done ≤ 2 * i)

-- a job is kept as it is
pub kept : (c : Choices) (level : ℕ) (jobs done next : List Job) (i : ℕ) (job : Job) → All (IsDealt c level) jobs → i < length jobs → job ≡ get_or jobs i job
    → Part c level jobs done i → next ≡ done ++ job ∷ [] → Part c level jobs next (i + 1)
kept c level jobs done next i job all l at (good, count, few) is = subst (λ next. Part c level jobs next (i + 1)) (sym is) (
  All-push (IsDealt c (level + 1)) done job good
      (let d = subst (IsDealt c level) (sym at) (All-get_or (IsDealt c level) jobs i job l all) in record { job_is = d.job_is; short = (let s = d.short in omega arith); root_or_half = d.root_or_half }),
  (λ x. let a = count x in let b = sum_by_push (has x) done job in let e = sum_by_more (has x) jobs i job l in
      let g : has x job ≡ has x (get_or jobs i job) = ap (has x) at in omega arith),
  (let a = length-append done (job ∷ []) in omega arith),
)

-- a job is halved
pub cut_in_two : (c : Choices) (level : ℕ) (jobs done middle next : List Job) (i : ℕ) (job low high : Job) → All (IsDealt c level) jobs → i < length jobs → job ≡ get_or jobs i job
    → IsSplit c job → job.length < 32 → low ≡ lower job → high ≡ upper job
    → Part c level jobs done i → middle ≡ done ++ low ∷ [] → next ≡ middle ++ high ∷ [] → Part c level jobs next (i + 1)
cut_in_two c level jobs done middle next i job low high all l at splits short low_is high_is (good, count, few) middle_is next_is =
    subst (λ next. Part c level jobs next (i + 1)) (sym (next_is ∙ (λ j. (middle_is ∙ ap (λ low. done ++ low ∷ []) low_is) j ++ high_is j ∷ []))) (
      All-push (IsDealt c (level + 1)) (done ++ lower job ∷ []) (upper job)
          (All-push (IsDealt c (level + 1)) done (lower job) good (record { job_is = (halves_are job short whole).0; short = deeper; root_or_half = inr (job, whole, short, splits, inl refl) }))
          (record { job_is = (halves_are job short whole).1; short = deeper; root_or_half = inr (job, whole, short, splits, inr refl) }),
      (λ x. let a = count x in let b = sum_by_push (has x) done (lower job) in let b' = sum_by_push (has x) (done ++ lower job ∷ []) (upper job) in
          let e = sum_by_more (has x) jobs i job l in let h = halves_have x job short in
          let g : has x job ≡ has x (get_or jobs i job) = ap (has x) at in omega arith),
      (let a = length-append done (lower job ∷ []) in let b = length-append (done ++ lower job ∷ []) (upper job ∷ []) in omega arith),
    )
  where
    whole : IsJob job
    whole = (subst (IsDealt c level) (sym at) (All-get_or (IsDealt c level) jobs i job l all)).job_is

    deeper : job.length + 1 ≤ level + 1
    deeper = let d = (subst (IsDealt c level) (sym at) (All-get_or (IsDealt c level) jobs i job l all)).short in omega arith

pub root_dealt : (c : Choices) → All (IsDealt c 0) (root ∷ [])
root_dealt c = All-push (IsDealt c 0) [] root (All-nil (IsDealt c 0)) (record { job_is = record { length = omega arith; bits = omega arith; low = refl }; short = omega arith; root_or_half = inl refl })

abbrev pub Level : Choices → ℕ → List Job → Type 0
Level c n jobs = All (IsDealt c n) jobs × ((x : ℕ) → times x jobs ≡ has x root) × (length jobs ≤ 2 ^ n)

pub cut_begins : (c : Choices) (before items : List Job) (job : Job) → before ≡ [] → items ≡ before ++ job ∷ [] → job ≡ root → Level c 0 items
cut_begins c before items job none is same = subst (Level c 0) (sym (is ∙ (λ i. none i ++ same i ∷ []))) (root_dealt c, (λ x. let e : times x (root ∷ []) ≡ has x root = omega arith in e), omega arith)

pub cut_goes_on : (c : Choices) (n : ℕ) (jobs slice next : List Job) → Level c n jobs → slice ≡ jobs → All (IsDealt c (n + 1)) next → ((x : ℕ) → times x next ≡ times x slice) → length next ≤ 2 * length slice
    → Level c (n + 1) next
cut_goes_on c n jobs slice next (good, count, few) same good' count' few' = (
  good',
  λ x. count' x ∙ ap (times x) same ∙ count x,
  (let p : 2 ^ (n + 1) ≡ 2 * 2 ^ n = ap (λ m. 2 ^ m) (let e : n + 1 ≡ suc n = omega arith in e) ∙ (let h = pow-suc 2 n in omega arith) in
      let l = ap length same in omega arith),
)

-- the worker at i gets the next job
pub one_given : (jobs : List Job) (from next i : ℕ) (old now : List Worker) (d w : Worker) (job : Job) → IsRound jobs from next old now i → i < length now → next < length jobs → job ≡ get_or jobs next job
    → w ≡ with_pushed (get_or now i d) ((get_or now i d).owner.pushed ++ job ∷ []) → IsRound jobs from (next + 1) old (set now i w) (i + 1)
one_given jobs from next i old now d w job h l m at is = record {
  size = length-set now i w ∙ h.size;
  rest = map-set unpushed now i w d l (ap unpushed is) ∙ h.rest;
  within = omega arith;
  next_is = elim h.next_is [ inl a ↦ inl (omega arith) | inr b ↦ absurd (omega arith) ];
  given = λ f.
      let a = sum_by-set (λ (w : Worker). sum_by f w.owner.pushed) now i w d l in
      let b : sum_by f w.owner.pushed ≡ sum_by f (get_or now i d).owner.pushed + f job =
      ap (λ (w : Worker). sum_by f w.owner.pushed) is ∙ sum_by_push f (get_or now i d).owner.pushed job in
      let e = sum_by-drop_more f jobs next job m in
      let g : f job ≡ f (get_or jobs next job) = ap f at in
      let k = h.given f in omega arith;
  one = λ k e o. elim (cases_eq k i) [
    | inl here ↦ subst (λ (k : ℕ). length (get_or (set now i w) k e).owner.pushed ≤ length (get_or old k e).owner.pushed + 1) (sym here)
        (let a = ap (λ (w : Worker). length w.owner.pushed) (get_or-set_same now i w e l ∙ is) in
        let b = length-append (get_or now i d).owner.pushed (job ∷ []) in
        let g : length (get_or now i d).owner.pushed ≡ length (get_or old i e).owner.pushed = ap (λ (w : Worker). length w.owner.pushed) (get_or-default now i d e l ∙ h.untouched i e (omega arith)) in omega arith)
    | inr other ↦
        (let a = ap (λ (w : Worker). length w.owner.pushed) (get_or-set_other now i k w e other) in
        let b = h.one k e (ne_less k i o other) in omega arith)
  ];
  untouched = λ k e o. get_or-set_other now i k w e (λ z. omega arith) ∙ h.untouched k e (omega arith);
}
  where
    ne_less : (k i : ℕ) → k < i + 1 → (k ≡ i → ⊥) → k < i
    ne_less k i m other = omega arith

-- no job is left
pub none_given : (jobs : List Job) (from next i : ℕ) (old now : List Worker) → IsRound jobs from next old now i → i < length now → length jobs ≤ next → IsRound jobs from next old now (i + 1)
none_given jobs from next i old now h l m = record {
  size = h.size;
  rest = h.rest;
  within = h.within;
  next_is = inr (let w = h.within in omega arith);
  given = h.given;
  one = λ k e o. elim (cases_eq k i) [
    | inl here ↦ (let a : length (get_or now k e).owner.pushed ≡ length (get_or old k e).owner.pushed = ap (λ (w : Worker). length w.owner.pushed) (h.untouched k e (omega arith)) in omega arith)
    | inr other ↦ h.one k e (ne_less k i o other)
  ];
  untouched = λ k e o. h.untouched k e (omega arith);
}
  where
    ne_less : (k i : ℕ) → k < i + 1 → (k ≡ i → ⊥) → k < i
    ne_less k i m other = omega arith

pub round_is : (jobs : List Job) (from next next' i : ℕ) (old now now' : List Worker) → IsRound jobs from next old now i → next' ≡ next → now' ≡ now → IsRound jobs from next' old now' i
round_is jobs from next next' i old now now' h a b = subst (λ now. IsRound jobs from next' old now i) (sym b) (subst (λ n. IsRound jobs from n old now i) (sym a) h)

abbrev pub with_owner : Worker → Owned → Worker
with_owner w owner = record { number = w.number; seat = w.seat; owner = owner; reaches = w.reaches; store = w.store; reports = w.reports; log = w.log; capsules = w.capsules }

-- the same, by what the push ensures
pub given_to : (jobs : List Job) (from next next' i : ℕ) (old now now' : List Worker) (d : Worker) (owner : Owned) (e : Job) → IsRound jobs from next old now i → i < length now → next < length jobs
    → owner ≡ pushing (get_or now i d).owner (get_or jobs next e) → next' ≡ next + 1 → now' ≡ set now i (with_owner (get_or now i d) owner) → IsRound jobs from next' old now' (i + 1)
given_to jobs from next next' i old now now' d owner e h l m is next_is now_is =
    round_is jobs from (next + 1) next' (i + 1) old (set now i (with_owner (get_or now i d) owner)) now'
    (one_given jobs from next i old now d (with_owner (get_or now i d) owner) (get_or jobs next e) h l m (get_or-default jobs next e (get_or jobs next e) m) (ap (with_owner (get_or now i d)) is))
    next_is now_is

drop-all : {X : Type 0} (xs : List X) (n : ℕ) → length xs ≤ n → drop n xs ≡ []
drop-all [] zero l = refl
drop-all [] (suc n) l = refl
drop-all (x ∷ xs) zero l = absurd (omega arith)
drop-all (x ∷ xs) (suc n) l = drop-all xs n (omega arith)

none_pushed : (h : Job → ℕ) (workers : List Worker) → All (λ (w : Worker). length w.owner.pushed ≡ 0) workers → pushed_by h workers ≡ 0
none_pushed h [] all = refl
none_pushed h (w ∷ ws) all =
    let a = sum_by-cons (λ (w : Worker). sum_by h w.owner.pushed) w ws in
    let b = empty w.owner.pushed (All-head (λ (w : Worker). length w.owner.pushed ≡ 0) w ws all) in
    let c = none_pushed h ws (All-tail (λ (w : Worker). length w.owner.pushed ≡ 0) w ws all) in omega arith
  where
    empty : (xs : List Job) → length xs ≡ 0 → sum_by h xs ≡ 0
    empty [] e = refl
    empty (x ∷ xs) e = absurd (omega arith)

pub all_given : (jobs : List Job) (a b c d n : ℕ) (w0 w1 w2 w3 w4 : List Worker) (h : Job → ℕ) → n ≡ length w0 → length jobs ≤ 4 * length w0 → All (λ (w : Worker). length w.owner.pushed ≡ 0) w0
    → IsRound jobs 0 a w0 w1 (length w0) → IsRound jobs a b w1 w2 (length w1) → IsRound jobs b c w2 w3 (length w2) → IsRound jobs c d w3 w4 (length w3)
    → pushed_by h w4 ≡ sum_by h jobs
all_given jobs a b c d n w0 w1 w2 w3 w4 h n_is few none r1 r2 r3 r4 =
    let z = none_pushed h w0 none in
    let g1 = r1.given h in let g2 = r2.given h in let g3 = r3.given h in let g4 = r4.given h in
    let l1 = r1.size in let l2 = r2.size in let l3 = r3.size in
    let k1 = r1.within in let k2 = r2.within in let k3 = r3.within in
    let done : length jobs ≤ d = elim r4.next_is [ inr e ↦ (omega arith) | inl e4 ↦ elim r3.next_is [ inr e ↦ (omega arith) | inl e3 ↦ elim r2.next_is [ inr e ↦ (omega arith) | inl e2 ↦ elim r1.next_is [ inr e ↦ (omega arith) | inl e1 ↦ (omega arith) ] ] ] ] in
    let last : sum_by h (drop d jobs) ≡ 0 = ap (sum_by h) (drop-all jobs d done) in
    omega arith

-- a job or its halves are added
pub halved_onto : (c : Choices) (level : ℕ) (jobs done next : List Job) (i : ℕ) (job : Job) → level < 20 → All (IsDealt c level) jobs → i < length jobs → job ≡ get_or jobs i job
    → Part c level jobs done i → IsHalvedOnto c done next job → Part c level jobs next (i + 1)
halved_onto c level jobs done next i job low all l at part onto = elim onto [
  | inl whole ↦ kept c level jobs done next i job all l at part whole
  | inr (splits, two) ↦ cut_in_two c level jobs done (done ++ lower job ∷ []) next i job (lower job) (upper job) all l at splits
      (let d = (subst (IsDealt c level) (sym at) (All-get_or (IsDealt c level) jobs i job l all)).short in omega arith) refl refl part refl two
]
