-- Where the reported jobs come from, and what the logs show of them.
use Rattle.std.proofs.Common.{◌≡◌, ℕ, ◌+◌, ◌-◌, ◌<◌, ◌≤◌, List, [], ◌∷◌, ◌++◌, length, map, take, drop, set, get_or, length-set, get_or-set_same, get_or-set_other, Ok, Err, OnOk, ◌⊎◌, refl, sym, ap, ◌∙◌, subst, inl, inr, arith}
use Rattle.std.specs.declared.result.Result.{Result}
use Rattle.std.specs.Prelude.{replicate}
use Rattle.std.specs.List.{All, Contains, sum_by}
use Rattle.std.proofs.lemmas.Bool.{cases_eq}
use Rattle.std.proofs.lemmas.List.{length-replicate}
use Rattle.std.proofs.lemmas.List.Elements.{All-append, All-contains, All-contains_itself, All-cons, All-head, All-nil, All-tail, All-weaker, Contains-get_or}
use Rattle.std.proofs.lemmas.List.Sums.{sum_by-cons}
use Rattle.std.proofs.lemmas.Option.{none-some}
use Rattle.common_lists.proofs.ListLaws.{take_own}
use Rattle.plan_rule.specs.declared.job.Job.{Job}
use Rattle.plan_rule.specs.Choices.{Choices, blocks, count}
use Rattle.plan_rule.specs.Fronts.{HasCodes}
use Rattle.plan_rule.specs.Jobs.{IsJob}
use Rattle.plan_rule.specs.Paths.{IsInRegion}
use Rattle.plan_rule.specs.Plans.{IsPlan, code_of}
use Rattle.plan_rule.specs.Regions.{Follows, middle}
use Rattle.plan_rule.specs.Yards.{choices}
use Rattle.plan_rule.proofs.JobLaws.{halves_are}
use Rattle.plan_rule.proofs.PathLaws.{path-below}
use Rattle.shape_exact.specs.Yards.{PlainYard}
use Rattle.plan_rule.proofs.RegionPartLaws.{zeros}
use Rattle.refutation_log.specs.declared.record.Record.{Record}
use Rattle.refutation_log.specs.declared.record.Record.TheVariants.{Branch, Fit, Energy}
use Rattle.refutation_log.specs.Logs.{AreSteps}
use Rattle.branch_core.specs.declared.report.Report.{Report}
use Rattle.branch_core.specs.Proper.{NamesBlocks}
use Rattle.incumbent_word.specs.Sittings.{Place, Sitting}
use Rattle.steal_rule.specs.Deques.{Owned, Reaching}
use Rattle.log_merge.specs.declared.merging.Leaf.{Leaf}
use Rattle.log_merge.specs.Closing.{AllExist, ExistsIn}
use Rattle.log_merge.specs.Leaves.{AreLeavesOf, job_of}
use Rattle.log_merge.specs.Merging.{HasTwo, IsRootOrHalf, RefutesJob}
use Rattle.log_merge.specs.Tiles.{has, root, times}
use Rattle.branch_workers.specs.declared.worker.Worker.{Worker}
use Rattle.branch_workers.specs.Deal.{IsDealt, pushed_by}
use Rattle.branch_workers.specs.Gather.{AreCollected, AreTraced, AreTracedBy, HasDealt, HasPlan, IsBalanced, IsDone, IsGathering, IsHonest, IsMadeFor, Pile, held, owner_of, popped_by, reports_by, stolen_from, unreached}
use Rattle.branch_workers.specs.Taken.{AreShown, AreTaken, CanBeTaken}
use Rattle.branch_workers.specs.Work.{HasWorked, IsHalf, IsLogged, IsMade, IsProved, IsSound, IsSplit, IsTakenSince, job_of_report, robbed}
use Rattle.branch_workers.proofs.CrewLaws.{all_via, at_via, drop_all, length_via, nothing_piled, sum_via}
use Rattle.branch_workers.proofs.WeightLaws.{all_by_weight, is_job, is_self, member_weighs, same_is, some_weighs}

-- a job that was made is one that may be dealt
pub made_dealt : (c : Choices) (split : ℕ) (job : Job) → IsMade c split job → IsDealt c split job
made_dealt c split job (short, (whole, is, l, splits, which)) = record {
  job_is = elim which [ inl e ↦ subst IsJob (sym e) (halves_are whole l is).0 | inr e ↦ subst IsJob (sym e) (halves_are whole l is).1 ];
  short = short;
  root_or_half = inr (whole, is, l, splits, which);
}

one_done : (c : Choices) (split : ℕ) (old w : Worker) → All (IsDealt c split) old.owner.pushed
    → HasWorked c split old.owner w.owner old.reaches.items w.reaches.items w.reports → IsLogged c w.log w.seat.seen w.reports → IsDone c split w
one_done c split old w dealt worked logged =
    let (more, is, all) = worked.made in record {
      honest = record {
        sound = All-weaker (λ r. IsSound c r × (IsTakenSince old.owner w.owner w.reaches.items r.job ⊎ IsMade c split r.job)) (IsSound c) (λ r h. h.0) w.reports worked.reported;
        logged = logged;
      };
      traced = record {
        jobs = All-weaker (λ r. IsSound c r × (IsTakenSince old.owner w.owner w.reaches.items r.job ⊎ IsMade c split r.job))
            (λ (r : Report). ((h : Job → ℕ) → h r.job ≤ sum_by h w.owner.popped + robbed h w.reaches.items) ⊎ IsMade c split r.job)
            (λ r h. elim (h.1) [ inl taken ↦ inl (λ f. let a = taken f in omega arith) | inr made ↦ inr made ]) w.reports worked.reported;
        pushed = subst (All (IsDealt c split)) (sym is) (All-append (IsDealt c split) old.owner.pushed more dealt (All-weaker (IsMade c split) (IsDealt c split) (made_dealt c split) more all));
      };
    }

-- one worker of a list
pub all_done : {X E : Type 0} (r : Result X E) (brd : Place) (c : Choices) (split : ℕ) (ws : List Worker) (d w : Worker) → length ws ≡ 1
    → All (HasDealt c split) ws
    → OnOk r (HasWorked c split (get_or ws 0 d).owner w.owner (get_or ws 0 d).reaches.items w.reaches.items w.reports)
    → OnOk r (IsLogged c w.log w.seat.seen w.reports) → OnOk r (All (IsDone c split) (set ws 0 w))
all_done r brd c split [] d w one dealt worked logged = absurd (omega arith)
all_done (Ok x) brd c split (v ∷ []) d w one dealt worked logged =
    All-cons (IsDone c split) w [] (one_done c split v w (All-head (HasDealt c split) v [] dealt).pushed worked logged) (All-nil (IsDone c split))
all_done (Err e) brd c split (v ∷ []) d w one dealt worked logged = tt
all_done r brd c split (v ∷ (u ∷ ws)) d w one dealt worked logged = absurd (omega arith)

pub done_honest : (c : Choices) (split : ℕ) (ws : List Worker) → All (IsDone c split) ws → All (IsHonest c) ws
done_honest c split ws all = All-weaker (IsDone c split) (IsHonest c) (λ w h. h.honest) ws all

-- after the deal each pushed job is one that was dealt
pub dealt_pushed : (c : Choices) (split : ℕ) (jobs : List Job) (ws : List Worker) → All (IsDealt c split) jobs → ((h : Job → ℕ) → pushed_by h ws ≡ sum_by h jobs)
    → All (HasDealt c split) ws
dealt_pushed c split jobs ws all given = All-weaker (Contains ws) (HasDealt c split)
    (λ w i. record { pushed = all_by_weight (IsDealt c split) w.owner.pushed jobs (λ h. let a = given h in let b = member_weighs (λ (w : Worker). sum_by h w.owner.pushed) ws w i in omega arith) all })
    ws (All-contains_itself ws)

-- after the gathering each reported job was popped or stolen by one of the crew, or made
pub traced_by : (brd : Place) (c : Choices) (split : ℕ) (ws0 ws2 ws3 : List Worker) (piles0 piles3 : List Pile) → IsMadeFor brd ws0 piles0 → All (IsDone c split) ws2
    → IsGathering ws2 ws3 piles0 piles3 (length ws2) → AreTracedBy c split ws3 piles3
traced_by brd c split ws0 ws2 ws3 piles0 piles3 made done g = record {
  jobs = λ k d l.
      let in2 : k < length ws2 = let n = length_via unreached ws3 ws2 g.rest in omega arith in
      let v = get_or ws2 k d in
      let same = at_via unreached ws3 ws2 k d d g.rest l in
      let own = (done k d in2).traced in
      subst (λ (rs : List Report). All (λ (r : Report). ((h : Job → ℕ) → h r.job ≤ popped_by h ws3 + stolen_from h piles3) ⊎ IsMade c split r.job) rs)
      (sym (ap (λ (u : ℕ × Owned × List Report × List Record × Sitting). u.2) same))
      (All-weaker (λ (r : Report). ((h : Job → ℕ) → h r.job ≤ sum_by h v.owner.popped + robbed h v.reaches.items) ⊎ IsMade c split r.job)
      (λ (r : Report). ((h : Job → ℕ) → h r.job ≤ popped_by h ws3 + stolen_from h piles3) ⊎ IsMade c split r.job)
      (λ r o. elim o [ inl f ↦ inl (λ h. whole h r.job v (Contains-get_or ws2 k d in2) (f h)) | inr m ↦ inr m ]) v.reports own.jobs);
  pushed = all_via unreached (λ (u : ℕ × Owned × List Report × List Record × Sitting). All (IsDealt c split) u.1.pushed) ws3 ws2 g.rest
      (All-weaker (IsDone c split) (λ (w : Worker). All (IsDealt c split) w.owner.pushed) (λ w h. h.traced.pushed) ws2 done);
}
  where
    whole : (h : Job → ℕ) (j : Job) (v : Worker) → Contains ws2 v → h j ≤ sum_by h v.owner.popped + robbed h v.reaches.items → h j ≤ popped_by h ws3 + stolen_from h piles3
    whole h j v i low =
        let a = member_weighs (λ (w : Worker). sum_by h w.owner.popped) ws2 v i in
        let b = member_weighs (λ (w : Worker). sum_by (λ (r : Reaching). sum_by h r.stolen) w.reaches.items) ws2 v i in
        let f = g.total (λ (r : Reaching). sum_by h r.stolen) in
        let z = nothing_piled brd ws0 piles0 h made in
        let y : held (λ (r : Reaching). sum_by h r.stolen) (drop (length ws2) ws2) ≡ 0 = ap (held (λ (r : Reaching). sum_by h r.stolen)) (drop_all ws2) in
        let q : popped_by h ws3 ≡ popped_by h ws2 = sum_via unreached (λ (u : ℕ × Owned × List Report × List Record × Sitting). sum_by h u.1.popped) ws3 ws2 g.rest in
        omega arith

-- the same of the reports, once they are taken
pub traced : (c : Choices) (split : ℕ) (ws3 ws4 : List Worker) (piles : List Pile) (all : List Report) → AreTracedBy c split ws3 piles → map owner_of ws4 ≡ map owner_of ws3
    → ((r : Report) → Contains all r → (w : Worker) × Contains ws3 w × Contains w.reports r) → AreTraced c split all ws4 piles
traced c split ws3 ws4 piles all h same from = record {
  jobs = All-weaker (Contains all) (λ (r : Report). ((h : Job → ℕ) → h r.job ≤ popped_by h ws4 + stolen_from h piles) ⊎ IsMade c split r.job)
      (λ r i. let (w, j, k) = from r i in
      elim (All-contains (λ (r : Report). ((h : Job → ℕ) → h r.job ≤ popped_by h ws3 + stolen_from h piles) ⊎ IsMade c split r.job) w.reports r
      (All-contains (λ (w : Worker). All (λ (r : Report). ((h : Job → ℕ) → h r.job ≤ popped_by h ws3 + stolen_from h piles) ⊎ IsMade c split r.job) w.reports) ws3 w h.jobs j) k) [
        | inl f ↦ inl (λ g. let a = f g in let q : popped_by g ws4 ≡ popped_by g ws3 = sum_via owner_of (λ (o : Owned × Sitting). sum_by g o.0.popped) ws4 ws3 same in omega arith)
        | inr m ↦ inr m
      ]) all (All-contains_itself all);
  pushed = all_via owner_of (λ (o : Owned × Sitting). All (IsDealt c split) o.0.pushed) ws4 ws3 same h.pushed;
}

-- once the deques are ended, each reported job is one that may be dealt
all_dealt : (c : Choices) (split : ℕ) (ws : List Worker) (piles : List Pile) (all : List Report) → AreTraced c split all ws piles
    → ((h : Job → ℕ) → pushed_by h ws ≡ popped_by h ws + stolen_from h piles) → All (λ (r : Report). IsDealt c split r.job) all
all_dealt c split ws piles all h paid = All-weaker (λ (r : Report). ((h : Job → ℕ) → h r.job ≤ popped_by h ws + stolen_from h piles) ⊎ IsMade c split r.job) (λ (r : Report). IsDealt c split r.job)
    (λ r o. elim o [
      | inl f ↦
          (let j = r.job in let a = f (is_job j) in let b = paid (is_job j) in let s = is_self j in
          let (w, in_ws, some) = some_weighs (λ (w : Worker). sum_by (is_job j) w.owner.pushed) ws (omega arith) in
          let (i, in_w, is) = some_weighs (is_job j) w.owner.pushed some in
          subst (IsDealt c split) (same_is j i is)
          (All-contains (IsDealt c split) w.owner.pushed i (All-contains (λ (w : Worker). All (IsDealt c split) w.owner.pushed) ws w h.pushed in_ws) in_w))
      | inr m ↦ made_dealt c split r.job m
    ]) all h.jobs

pub dealt_back : (c : Choices) (split : ℕ) (ws : List Worker) (piles : List Pile) (n m : ℕ) (zs : List Worker) (qs : List Pile) (all : List Report) → length ws ≡ n → length piles ≡ m → AreTraced c split all ws piles
    → ((h : Job → ℕ) → pushed_by h (take n (ws ++ zs)) ≡ popped_by h (take n (ws ++ zs)) + stolen_from h (take m (piles ++ qs))) → All (λ (r : Report). IsDealt c split r.job) all
dealt_back c split ws piles n m zs qs all e f h paid = all_dealt c split ws piles all h (λ h.
    let a = paid h in
    let p = ap (pushed_by h) (take_own n ws zs e) in let q = ap (popped_by h) (take_own n ws zs e) in let r = ap (stolen_from h) (take_own m piles qs f) in omega arith)

pub all_short : (c : Choices) (split most : ℕ) (all : List Report) → most ≤ split → All (λ (r : Report). IsDealt c most r.job) all → All (λ (r : Report). r.job.length ≤ split) all
all_short c split most all l h = All-weaker (λ (r : Report). IsDealt c most r.job) (λ (r : Report). r.job.length ≤ split) (λ r d. let s = d.short in omega arith) all h

-- the plan with another code for a block
changed_plan : (c : Choices) (p : List ℕ) (b x : ℕ) → IsPlan c p → b < blocks c → x < count c b → IsPlan c (set p b x)
changed_plan c p b x plan l m = record {
  one_each = length-set p b x ∙ plan.one_each;
  in_range = λ a n. elim (cases_eq a b) [
    | inl here ↦ subst (λ a. code_of (set p b x) a < count c a) (sym here) (let e = get_or-set_same p b x 0 (let k = plan.one_each in omega arith) in omega arith)
    | inr other ↦ (let e = get_or-set_other p b a x 0 other in let r = plan.in_range a n in omega arith)
  ];
}

changed_follows : (c : Choices) (codes : List ℕ) (lo hi lo' hi' : ℕ) (p : List ℕ) (x : ℕ) → IsPlan c p → length codes < blocks c → Follows c codes lo hi p → lo' ≤ x → x < hi'
    → Follows c codes lo' hi' (set p (length codes) x)
changed_follows c codes lo hi lo' hi' p x plan l (extends, range) low high = (
  λ b m. extends b m ∙ sym (get_or-set_other p (length codes) b x 0 (λ e. omega arith)),
  λ m. let e = get_or-set_same p (length codes) x 0 (let k = plan.one_each in omega arith) in (omega arith, omega arith),
)

-- a job whose region is a part with a range has two plans, and so has each half a plan
split_two : (c : Choices) (whole : Job) → IsSplit c whole → HasTwo c whole
split_two c whole (codes, lo, hi, part, l) = elim part.range [
  | inl (few, wide, within) ↦
      (let p = part.some.0 in let plan = part.some.1.0 in
      let follows = (part.plans p plan).0 part.some.1 in
      let q : ℕ → List ℕ = λ x. set p (length codes) x in
      let inside = λ (x : ℕ) (a : lo ≤ x) (b : x < hi). (part.plans (q x) (changed_plan c p (length codes) x plan l (omega arith))).1 (changed_follows c codes lo hi lo hi p x plan l follows a b) in
      let k = plan.one_each in
      let at = λ (x : ℕ). get_or-set_same p (length codes) x 0 (omega arith) in (
        q lo,
        q (lo + 1),
        inside lo (omega arith) (omega arith),
        inside (lo + 1) (omega arith) (omega arith),
        λ e. let a = ap (λ r. code_of r (length codes)) e in let b = at lo in let d = at (lo + 1) in omega arith,
      ))
  | inr gone ↦ (let e = gone.0 in absurd (omega arith))
]

half_plan : (c : Choices) (job : Job) → IsHalf c job → HasPlan c job
half_plan c job (whole, is, short, (codes, lo, hi, part, l), which) = elim part.range [
  | inl (few, wide, within) ↦
      (let p = part.some.0 in let plan = part.some.1.0 in
      let follows = (part.plans p plan).0 part.some.1 in
      let halves = part.halves l short in
      let mid = middle lo hi in
      let q : ℕ → List ℕ = λ x. set p (length codes) x in
      elim which [
        | inl e ↦ (
          q lo,
          subst (λ (j : Job). IsInRegion c j (q lo)) (sym e)
              ((halves.low (q lo) (changed_plan c p (length codes) lo plan l (omega arith))).1 (changed_follows c codes lo hi lo mid p lo plan l follows (omega arith) (omega arith))),
        )
        | inr e ↦ (
          q mid,
          subst (λ (j : Job). IsInRegion c j (q mid)) (sym e)
              ((halves.high (q mid) (changed_plan c p (length codes) mid plan l (omega arith))).1 (changed_follows c codes lo hi mid hi p mid plan l follows (omega arith) (omega arith))),
        )
      ])
  | inr gone ↦ (let e = gone.0 in absurd (omega arith))
]

root_plan : (c : Choices) → HasCodes c → HasPlan c root
root_plan c some_codes = (p, (plan, omega arith, (let b = path-below c p in omega arith)))
  where
    p : List ℕ
    p = replicate (blocks c) 0

    plan : IsPlan c p
    plan = record { one_each = length-replicate (blocks c) 0; in_range = λ b l. let z = zeros (blocks c) b in let s = some_codes b l in omega arith }

dealt_plan : (c : Choices) (n : ℕ) (job : Job) → HasCodes c → IsDealt c n job → HasPlan c job
dealt_plan c n job some_codes h = elim h.root_or_half [ inl e ↦ subst (HasPlan c) (sym e) (root_plan c some_codes) | inr half ↦ half_plan c job half ]

dealt_half : (c : Choices) (n : ℕ) (job : Job) → IsDealt c n job → IsRootOrHalf c job
dealt_half c n job h = elim h.root_or_half [
  | inl e ↦ inl e
  | inr (whole, is, l, splits, which) ↦ inr (whole, is, l, split_two c whole splits, which)
]

over_jobs : (P : Job → Type 0) (all : List Report) → All (λ (r : Report). P r.job) all → All P (map job_of_report all)
over_jobs P [] h = All-nil P
over_jobs P (r ∷ all) h = All-cons P r.job (map job_of_report all) (All-head (λ (r : Report). P r.job) r all h) (over_jobs P all (All-tail (λ (r : Report). P r.job) r all h))

over_leaves : (P : Job → Type 0) (all : List Leaf) → All P (map job_of all) → All (λ (l : Leaf). P l.job) all
over_leaves P [] h = All-nil (λ (l : Leaf). P l.job)
over_leaves P (l ∷ all) h = All-cons (λ (l : Leaf). P l.job) l all (All-head P l.job (map job_of all) h) (over_leaves P all (All-tail P l.job (map job_of all) h))

-- the leaves of all reports can be merged
pub leaves_of : (c : Choices) (n : ℕ) (reports : List Report) (log : List Record) (leaves : List Leaf) → AreCollected c reports log leaves → All (λ (r : Report). IsDealt c n r.job) reports
    → ((x : ℕ) → times x (map job_of_report reports) ≡ has x root) → AreLeavesOf c log leaves
leaves_of c n reports log leaves h dealt once = record {
  once = λ x. h.weighed (has x) ∙ once x;
  jobs = over_leaves (λ j. IsJob j × IsRootOrHalf c j) leaves
      (all_by_weight (λ j. IsJob j × IsRootOrHalf c j) (map job_of leaves) (map job_of_report reports) (λ f. let a = h.weighed f in omega arith)
      (over_jobs (λ j. IsJob j × IsRootOrHalf c j) reports (All-weaker (λ (r : Report). IsDealt c n r.job) (λ (r : Report). IsJob r.job × IsRootOrHalf c r.job) (λ r d. (d.job_is, dealt_half c n r.job d)) reports dealt)));
  shown = λ some_codes. h.shown (All-weaker (λ (r : Report). IsDealt c n r.job) (λ (r : Report). HasPlan c r.job) (λ r d. dealt_plan c n r.job some_codes d) reports dealt);
  exist = h.exist;
}

pub once_back : (ws : List Worker) (piles : List Pile) (n m : ℕ) (zs : List Worker) (qs : List Pile) (all : List Report) → length ws ≡ n → length piles ≡ m → IsBalanced all ws piles
    → ((h : Job → ℕ) → pushed_by h (take n (ws ++ zs)) ≡ popped_by h (take n (ws ++ zs)) + stolen_from h (take m (piles ++ qs))) → (x : ℕ) → times x (map job_of_report all) ≡ has x root
once_back ws piles n m zs qs all e f b paid x =
    let a = paid (has x) in let t = b x in
    let p = ap (pushed_by (has x)) (take_own n ws zs e) in let q = ap (popped_by (has x)) (take_own n ws zs e) in let r = ap (stolen_from (has x)) (take_own m piles qs f) in omega arith

named_exists : (c : Choices) (r : Record) → NamesBlocks c r → ExistsIn c r
named_exists c (Branch b lo hi side cites) h = h.0
named_exists c (Fit side) h = tt
named_exists c (Energy from to side) h = tt

-- a log that is proper can be taken
pub can_be_taken : (c : Choices) (ws : List Worker) → All (IsHonest c) ws → All CanBeTaken ws
can_be_taken c ws all = All-weaker (IsHonest c) CanBeTaken
    (λ w h i r at. (h.logged.proper i r (omega arith) at).earlier) ws all

-- the logs of all, put together
pub collected : (yard : PlainYard) (ws : List Worker) (all : List Report) (log : List Record) (leaves : List Leaf) → All (IsHonest (choices yard)) ws → AreTaken [] [] ws log leaves
    → ((h : Job → ℕ) → sum_by h (map job_of_report all) ≡ reports_by h ws) → AreCollected (choices yard) all log leaves
collected yard ws all log leaves honest taken weighed = record {
  weighed = λ h. let a = taken.weighed h in let b = weighed h in omega arith;
  shown = λ plans. taken.shown yard (All-nil (λ (l : Leaf). RefutesJob c [] l.record l.job))
      (All-weaker (Contains ws) (λ (w : Worker). AreShown c w.log w.reports) (λ w i.
      All-weaker (Contains w.reports) (λ (r : Report). RefutesJob c w.log r.refutation r.job) (λ r k.
      let (p, inside) = planned w r i k plans in
      (All-contains (IsProved c w.log) w.reports r (All-contains (IsHonest c) ws w honest i).logged.proved k).shown p inside) w.reports (All-contains_itself w.reports)) ws (All-contains_itself ws));
  exist = taken.exist yard (λ i r at. absurd (none-some r at))
      (All-weaker (IsHonest c) (λ (w : Worker). AllExist c w.log) (λ w h i r at. named_exists c r (h.logged.proper i r (omega arith) at).names) ws honest);
  steps = λ t best. taken.steps yard t (λ i l. absurd (omega arith)) (All-weaker (IsHonest c) (λ (w : Worker). AreSteps c t w.log) (λ w h. h.logged.steps t best) ws honest);
}
  where
    c : Choices
    c = choices yard

    planned : (w : Worker) (r : Report) → Contains ws w → Contains w.reports r → All (λ (r : Report). HasPlan c r.job) all → HasPlan c r.job
    planned w r i k plans =
        let j = r.job in
        let a = member_weighs (λ (w : Worker). sum_by (is_job j) (map job_of_report w.reports)) ws w i in
        let b = member_weighs (λ (r : Report). is_job j r.job) w.reports r k in
        let d = mapped (is_job j) w.reports in
        let e = weighed (is_job j) in let s = is_self j in
        let (m, inside, some) = some_weighs (is_job j) (map job_of_report all) (omega arith) in
        subst (HasPlan c) (same_is j m some) (All-contains (HasPlan c) (map job_of_report all) m (over_jobs (HasPlan c) all plans) inside)
      where
        mapped : (h : Job → ℕ) (rs : List Report) → sum_by h (map job_of_report rs) ≡ sum_by (λ (r : Report). h r.job) rs
        mapped h [] = refl
        mapped h (r ∷ rs) = let a = sum_by-cons h r.job (map job_of_report rs) in let b = sum_by-cons (λ (r : Report). h r.job) r rs in let d = mapped h rs in omega arith

pub collected_from : (yard : PlainYard) (ws : List Worker) (all : List Report) (log0 log : List Record) (leaves0 leaves : List Leaf) → log0 ≡ [] → leaves0 ≡ [] → All (IsHonest (choices yard)) ws
    → AreTaken log0 leaves0 ws log leaves → ((h : Job → ℕ) → sum_by h (map job_of_report all) ≡ reports_by h ws) → AreCollected (choices yard) all log leaves
collected_from yard ws all log0 log leaves0 leaves no_log no_leaves honest taken weighed =
    collected yard ws all log leaves honest (subst (λ (l : List Leaf). AreTaken [] l ws log leaves) no_leaves (subst (λ (l : List Record). AreTaken l leaves0 ws log leaves) no_log taken)) weighed
