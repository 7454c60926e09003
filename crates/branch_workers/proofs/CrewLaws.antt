-- From workers as they are made to settled deques.
use Rattle.std.proofs.Common.{◌≡◌, ℕ, zero, suc, ◌+◌, ◌-◌, ◌*◌, ◌^◌, ◌<◌, ◌≤◌, List, [], ◌∷◌, ◌++◌, length, map, take, drop, set, get_or, length-set, get_or-set_other, refl, sym, ap, ◌∙◌, subst, inl, inr, arith, vec_capacity, OnOk, Ok, Err}
use Rattle.std.specs.declared.result.Result.{Result}
use Rattle.std.specs.Prelude.{if◌then◌else◌, ◌==◌}
use Rattle.std.proofs.lemmas.Nat.{pow_pos, pow-add, mul-le}
use Rattle.std.specs.List.{sum_by, All, Contains}
use Rattle.std.proofs.lemmas.List.Sums.{sum_by-cons, sum_by-drop_more}
use Rattle.std.proofs.lemmas.List.Elements.{Contains-append_cases, All-append, All-head, All-tail, All-cons, All-nil, All-contains, All-contains_itself, All-weaker, Contains-get_or}
use Rattle.atomic_table.specs.Seated.{TableId}
use Rattle.common_lists.proofs.ListLaws.{take_own, map_length}
use Rattle.plan_rule.specs.declared.job.Job.{Job}
use Rattle.plan_rule.specs.Choices.{Choices}
use Rattle.branch_core.specs.declared.report.Report.{Report}
use Rattle.steal_rule.specs.Deques.{Owned, Reaching}
use Rattle.log_merge.specs.Tiles.{has, times, root}
use Rattle.plan_rule.specs.Paths.{Tile}
use Rattle.log_merge.proofs.Chains.{tile}
use Rattle.branch_workers.specs.declared.worker.Worker.{Worker}
use Rattle.branch_workers.specs.Work.{place_of, job_of_report, robbed, HasWorked, IsSound, IsLogged}
use Rattle.branch_workers.specs.Deal.{pushed_by, unpushed, IsDealt}
use Rattle.incumbent_word.specs.Sittings.{Place, Sitting}
use Rattle.refutation_log.specs.declared.record.Record.{Record}
use Rattle.plan_rule.specs.Jobs.{IsJob}
use Rattle.branch_workers.proofs.RoundLaws.{map-set}
use Rattle.branch_workers.specs.Gather.{only, held, Pile, IsHeld, IsGathering, unreached, IsReady, AreReady, popped_by, stolen_from, IsFresh, spot_of, reported_by, IsAccounted, IsHonest, IsIdleWorker, IsMadeFor, IsTold, IsReporting, owner_of, IsBalanced, AreTold}

-- lists that look the same through a map look the same through what is read off it
map_via : {X U Y : Type 0} (u : X → U) (g : U → Y) (xs : List X) (ys : List X) → map u xs ≡ map u ys → map (λ x. g (u x)) xs ≡ map (λ x. g (u x)) ys
map_via u g xs ys e = split xs ∙ ap (map g) e ∙ sym (split ys)
  where
    split : (l : List _) → map (λ x. g (u x)) l ≡ map g (map u l)
    split [] = refl
    split (x ∷ l) = ap (λ t. g (u x) ∷ t) (split l)

pub sum_via : {X U : Type 0} (u : X → U) (f : U → ℕ) (xs ys : List X) → map u xs ≡ map u ys → sum_by (λ x. f (u x)) xs ≡ sum_by (λ x. f (u x)) ys
sum_via u f xs ys e = split xs ∙ ap (sum_by f) e ∙ sym (split ys)
  where
    split : (l : List _) → sum_by (λ x. f (u x)) l ≡ sum_by f (map u l)
    split [] = refl
    split (x ∷ l) = let a = sum_by-cons (λ x. f (u x)) x l in let b = sum_by-cons f (u x) (map u l) in let c = split l in omega arith

pub all_via : {X U : Type 0} (u : X → U) (P : U → Type 0) (xs ys : List X) → map u xs ≡ map u ys → All (λ x. P (u x)) ys → All (λ x. P (u x)) xs
all_via u P xs ys e all = back xs (subst (All P) (sym e) (there ys all))
  where
    there : (l : List _) → All (λ x. P (u x)) l → All P (map u l)
    there [] h = All-nil P
    there (x ∷ l) h = All-cons P (u x) (map u l) (All-head (λ x. P (u x)) x l h) (there l (All-tail (λ x. P (u x)) x l h))

    back : (l : List _) → All P (map u l) → All (λ x. P (u x)) l
    back [] h = All-nil (λ x. P (u x))
    back (x ∷ l) h = All-cons (λ x. P (u x)) x l (All-head P (u x) (map u l) h) (back l (All-tail P (u x) (map u l) h))

pub length_via : {X U : Type 0} (u : X → U) (xs ys : List X) → map u xs ≡ map u ys → length xs ≡ length ys
length_via u xs ys e = sym (map_length u xs) ∙ ap length e ∙ map_length u ys

pub at_via : {X U : Type 0} (u : X → U) (xs ys : List X) (k : ℕ) (d e : X) → map u xs ≡ map u ys → k < length xs → u (get_or xs k d) ≡ u (get_or ys k e)
at_via u xs ys k d e same l = sym (at xs k d (u d) l) ∙ ap (λ t. get_or t k (u d)) same ∙ at ys k e (u d) (let n = length_via u xs ys same in omega arith)
  where
    at : (l : List _) (k : ℕ) (d : _) (v : _) → k < length l → get_or (map u l) k v ≡ u (get_or l k d)
    at [] k d v i = absurd (omega arith)
    at (x ∷ l) zero d v i = refl
    at (x ∷ l) (suc k) d v i = at l k d v (omega arith)

held_via : (f : TableId × ℕ × ℕ → ℕ) (xs ys : List Worker) → map spot_of xs ≡ map spot_of ys → held (λ r. f (place_of r)) xs ≡ held (λ r. f (place_of r)) ys
held_via f xs ys e = over xs ∙ ap (sum_by (λ (s : ℕ × TableId × ℕ × List (TableId × ℕ × ℕ) × Place). sum_by f s.3)) e ∙ sym (over ys)
  where
    inner : (rs : List Reaching) → sum_by (λ r. f (place_of r)) rs ≡ sum_by f (map place_of rs)
    inner [] = refl
    inner (r ∷ rs) = let a = sum_by-cons (λ r. f (place_of r)) r rs in let b = sum_by-cons f (place_of r) (map place_of rs) in let c = inner rs in omega arith

    over : (ws : List Worker) → held (λ r. f (place_of r)) ws ≡ sum_by (λ (s : ℕ × TableId × ℕ × List (TableId × ℕ × ℕ) × Place). sum_by f s.3) (map spot_of ws)
    over [] = refl
    over (w ∷ ws) =
        let a = sum_by-cons (λ (w : Worker). sum_by (λ r. f (place_of r)) w.reaches.items) w ws in
        let b = sum_by-cons (λ (s : ℕ × TableId × ℕ × List (TableId × ℕ × ℕ) × Place). sum_by f s.3) (spot_of w) (map spot_of ws) in
        let c = over ws in let d = inner w.reaches.items in omega arith

-- a reach that is held now was held before, in the same place
held_before : (xs ys : List Worker) (r : Reaching) → map spot_of xs ≡ map spot_of ys → IsHeld xs r → (r' : Reaching) × IsHeld ys r' × (place_of r ≡ place_of r')
held_before xs ys r e (w, (k, l, at), (j, m, is)) =
    let w' = get_or ys k w in
    let s = at_via spot_of xs ys k w w e l in
    let places : map place_of w.reaches.items ≡ map place_of w'.reaches.items = ap (λ (x : Worker). map place_of x.reaches.items) (sym at) ∙ ap (λ (s : ℕ × TableId × ℕ × List (TableId × ℕ × ℕ) × Place). s.3) s in
    let r' = get_or w'.reaches.items j r in
    let n = length_via place_of w.reaches.items w'.reaches.items places in
    let in_ys : k < length ys = let t = length_via spot_of xs ys e in omega arith in (
      r',
      (w', Contains-get_or ys k w in_ys, Contains-get_or w'.reaches.items j r (omega arith)),
      ap place_of (sym is) ∙ at_via place_of w.reaches.items w'.reaches.items j r r places m,
    )

pub spots_kept : (xs ys : List Worker) → map unpushed xs ≡ map unpushed ys → map spot_of xs ≡ map spot_of ys
spots_kept xs ys e = map_via unpushed spot_of xs ys e

pub still_fresh : (brd : Place) (xs ys : List Worker) → map unpushed xs ≡ map unpushed ys → All (IsFresh brd) ys → All (IsFresh brd) xs
still_fresh brd xs ys e all = All-weaker (λ w. IsFresh brd (unpushed w)) (IsFresh brd) (λ w h. record { seat = h.seat; start = record { number = h.start.number; reports = h.start.reports; log = h.start.log; store = h.start.store; reaches = h.start.reaches }; popped = h.popped }) xs
    (all_via unpushed (IsFresh brd) xs ys e (All-weaker (IsFresh brd) (λ w. IsFresh brd (unpushed w)) (λ w h. record { seat = h.seat; start = record { number = h.start.number; reports = h.start.reports; log = h.start.log; store = h.start.store; reaches = h.start.reaches }; popped = h.popped }) ys all))

pub numbers_fit : (brd : Place) (xs ys : List Worker) (piles : List Pile) → map spot_of xs ≡ map spot_of ys → IsMadeFor brd ys piles → All (λ (w : Worker). All (λ (r : Reaching). r.number < length piles) w.reaches.items) xs
numbers_fit brd xs ys piles e m = All-weaker (Contains xs) (λ (w : Worker). All (λ (r : Reaching). r.number < length piles) w.reaches.items)
    (λ w i. All-weaker (Contains w.reaches.items) (λ (r : Reaching). r.number < length piles)
    (λ r j. let (r', h, p) = held_before xs ys r e (w, i, j) in
    let n = (m.named r' h).0 in let s = m.sizes in let q = ap (λ (t : TableId × ℕ × ℕ). t.1) p in omega arith)
    w.reaches.items (All-contains_itself w.reaches.items)) xs (All-contains_itself xs)

pub room_is : (brd : Place) (xs ys : List Worker) (piles : List Pile) → map spot_of xs ≡ map spot_of ys → IsMadeFor brd ys piles → (k : ℕ) (d : Pile) → k < length piles
    → length (get_or piles k d).items + held (only k (λ _. 1)) xs ≤ vec_capacity (get_or piles k d)
room_is brd xs ys piles e m k d l =
    let a = m.room k d (let s = m.sizes in omega arith) in
    let b : held (only k (λ _. 1)) xs ≡ held (only k (λ _. 1)) ys = held_via (λ (t : TableId × ℕ × ℕ). flag k t.1) xs ys e in omega arith
  where
    flag : ℕ → ℕ → ℕ
    flag k n = if n == k then 1 else 0

zero_sum : {X : Type 0} (f : X → ℕ) (xs : List X) → All (λ x. f x ≡ 0) xs → sum_by f xs ≡ 0
zero_sum f [] all = refl
zero_sum f (x ∷ xs) all =
    let a = sum_by-cons f x xs in let h = All-head (λ x. f x ≡ 0) x xs all in let i = zero_sum f xs (All-tail (λ x. f x ≡ 0) x xs all) in omega arith

some_worker : (ws : List Worker) (k : ℕ) → k < length ws → Worker
some_worker [] k l = absurd (omega arith)
some_worker (w ∷ ws) k l = w

pub nothing_piled : (brd : Place) (ws : List Worker) (piles : List Pile) (h : Job → ℕ) → IsMadeFor brd ws piles → stolen_from h piles ≡ 0
nothing_piled brd ws piles h m = zero_sum (λ (p : Pile). sum_by (λ (r : Reaching). sum_by h r.stolen) p.items) piles (λ k e l.
    let i : k < length ws = (let s = m.sizes in omega arith) in
    zero_sum (λ (r : Reaching). sum_by h r.stolen) (get_or piles k e).items
    (All-weaker (λ (r : Reaching). (r.deque ≡ (get_or ws k (some_worker ws k i)).owner.deque) × (r.stolen ≡ [])) (λ (r : Reaching). sum_by h r.stolen ≡ 0)
    (λ r g. ap (sum_by h) g.1) (get_or piles k e).items (m.own k (some_worker ws k i) e i)))

pub drop_all : {X : Type 0} (xs : List X) → drop (length xs) xs ≡ []
drop_all [] = refl
drop_all (x ∷ xs) = drop_all xs

pub ready : (brd : Place) (ws0 ws2 ws3 : List Worker) (piles0 piles3 : List Pile) → IsMadeFor brd ws0 piles0 → map spot_of ws2 ≡ map spot_of ws0 → All IsIdleWorker ws2 → IsGathering ws2 ws3 piles0 piles3 (length ws2)
    → AreReady ws3 piles3 × (length ws3 ≡ length piles3)
ready brd ws0 ws2 ws3 piles0 piles3 m spots idle g =
    ((λ k d e l. one k d e l), (let a = g.workers_are in let b = g.size in let c = m.sizes in let n = length_via spot_of ws2 ws0 spots in omega arith))
  where
    one : (k : ℕ) (d : Worker) (e : Pile) → k < length ws3 → IsReady (get_or ws3 k d) (get_or piles3 k e)
    one k d e l =
        let in2 : k < length ws2 = (let a = g.workers_are in omega arith) in
        let in0 : k < length ws0 = (let n = length_via spot_of ws2 ws0 spots in omega arith) in
        let in_piles : k < length piles0 = (let c = m.sizes in omega arith) in
        let owner_is = ap (λ (u : ℕ × Owned × List Report × List Record × Sitting). u.1) (at_via unreached ws3 ws2 k d d g.rest l) in
        let deque_is : (get_or ws3 k d).owner.deque ≡ (get_or ws0 k d).owner.deque =
        ap (λ (o : Owned). o.deque) owner_is ∙ ap (λ (s : ℕ × TableId × ℕ × List (TableId × ℕ × ℕ) × Place). s.1) (at_via spot_of ws2 ws0 k d d spots in2) in
        record {
          idle = ap (λ (o : Owned). o.idle) owner_is ∙ idle k d in2;
          same = All-weaker (Contains (get_or piles3 k e).items) (λ (r : Reaching). r.deque ≡ (get_or ws3 k d).owner.deque)
              (λ r i. elim (g.named k e r in_piles i) [
                | inl old ↦ (All-contains (λ (r : Reaching). (r.deque ≡ (get_or ws0 k d).owner.deque) × (r.stolen ≡ [])) (get_or piles0 k e).items r (m.own k d e in0) old).0 ∙ sym deque_is
                | inr new ↦
                    (let (r', h, p) = held_before ws2 ws0 r spots new.0 in
                    let q = ap (λ (t : TableId × ℕ × ℕ). t.1) p in
                    let n : r'.number ≡ k = sym q ∙ new.1 in
                    ap (λ (t : TableId × ℕ × ℕ). t.0) p ∙ (m.named r' h).1 d ∙ ap (λ k. (get_or ws0 k d).owner.deque) n ∙ sym deque_is)
              ])
              (get_or piles3 k e).items (All-contains_itself (get_or piles3 k e).items);
          parts =
              (let a = g.each (λ (r : Reaching). r.parts) k e in_piles in
              let b : held (only k (λ (r : Reaching). r.parts)) ws2 ≡ held (only k (λ (r : Reaching). r.parts)) ws0 = held_via (λ (t : TableId × ℕ × ℕ). part k t) ws2 ws0 spots in
              let c = m.parts k e in0 in
              let z = ap (held (only k (λ (r : Reaching). r.parts))) (drop_all ws2) in omega arith);
        }
      where
        part : ℕ → TableId × ℕ × ℕ → ℕ
        part k t = if t.1 == k then t.2 else 0

pub told : (brd : Place) (c : Choices) (n : ℕ) (jobs : List Job) (ws0 ws1 ws2 ws3 : List Worker) (piles0 piles3 : List Pile) → n ≤ 32 → All (IsDealt c n) jobs → ((x : ℕ) → times x jobs ≡ has x root) → IsMadeFor brd ws0 piles0
    → ((h : Job → ℕ) → pushed_by h ws1 ≡ sum_by h jobs) → IsAccounted ws1 ws2 → IsGathering ws2 ws3 piles0 piles3 (length ws2) → IsTold ws3 piles3
told brd c n jobs ws0 ws1 ws2 ws3 piles0 piles3 short dealt once m given accounted g x =
    let a = accounted x in
    let b = given (has x) in
    let e = once x in
    let f = g.total (λ (r : Reaching). sum_by (has x) r.stolen) in
    let z = nothing_piled brd ws0 piles0 (has x) m in
    let y : held (λ (r : Reaching). sum_by (has x) r.stolen) (drop (length ws2) ws2) ≡ 0 = ap (held (λ (r : Reaching). sum_by (has x) r.stolen)) (drop_all ws2) in
    let r : reported_by x ws3 ≡ reported_by x ws2 = sum_via unreached (λ (u : ℕ × Owned × List Report × List Record × Sitting). times x (map job_of_report u.2)) ws3 ws2 g.rest in
    let p : pushed_by (has x) ws3 ≡ pushed_by (has x) ws2 = sum_via unreached (λ (u : ℕ × Owned × List Report × List Record × Sitting). sum_by (has x) u.1.pushed) ws3 ws2 g.rest in
    let q : popped_by (has x) ws3 ≡ popped_by (has x) ws2 = sum_via unreached (λ (u : ℕ × Owned × List Report × List Record × Sitting). sum_by (has x) u.1.popped) ws3 ws2 g.rest in
    omega arith

pub still_honest : (c : Choices) (xs ys : List Worker) → map unreached xs ≡ map unreached ys → All (IsHonest c) ys → All (IsHonest c) xs
still_honest c xs ys e all =
    All-weaker (λ (w : Worker). All (IsSound c) w.reports × IsLogged c w.log w.seat.seen w.reports) (IsHonest c) (λ w h. record { sound = h.0; logged = h.1 }) xs
    (all_via unreached (λ (u : ℕ × Owned × List Report × List Record × Sitting). All (IsSound c) u.2 × IsLogged c u.3 u.4.seen u.2) xs ys e
    (All-weaker (IsHonest c) (λ (w : Worker). All (IsSound c) w.reports × IsLogged c w.log w.seat.seen w.reports) (λ w h. (h.sound, h.logged)) ys all))

pub on_ok : {X E : Type 0} (r : Result X E) (P Q : Type 0) → (P → Q) → OnOk r P → OnOk r Q
on_ok (Ok x) P Q f h = f h
on_ok (Err e) P Q f h = tt

pub told_if : {X E : Type 0} (r : Result X E) (brd : Place) (c : Choices) (n : ℕ) (jobs : List Job) (ws0 ws1 ws2 ws3 : List Worker) (piles0 piles3 : List Pile) → n ≤ 32 → All (IsDealt c n) jobs → ((x : ℕ) → times x jobs ≡ has x root)
    → IsMadeFor brd ws0 piles0 → ((h : Job → ℕ) → pushed_by h ws1 ≡ sum_by h jobs) → OnOk r (IsAccounted ws1 ws2)
    → IsGathering ws2 ws3 piles0 piles3 (length ws2) → OnOk r (IsTold ws3 piles3)
told_if r brd c n jobs ws0 ws1 ws2 ws3 piles0 piles3 short dealt once m given accounted g =
    on_ok r (IsAccounted ws1 ws2) (IsTold ws3 piles3) (λ a. told brd c n jobs ws0 ws1 ws2 ws3 piles0 piles3 short dealt once m given a g) accounted

pub all_jobs : (c : Choices) (n : ℕ) (jobs : List Job) → All (IsDealt c n) jobs → All IsJob jobs
all_jobs c n jobs all = All-weaker (IsDealt c n) IsJob (λ j h. h.job_is) jobs all

pub all_deeper : (c : Choices) (n m : ℕ) (jobs slice : List Job) → n ≤ m → slice ≡ jobs → All (IsDealt c n) jobs → All (IsDealt c m) slice
all_deeper c n m jobs slice l same all = subst (All (IsDealt c m)) (sym same)
    (All-weaker (IsDealt c n) (IsDealt c m) (λ j h. record { job_is = h.job_is; short = (let s = h.short in omega arith); root_or_half = h.root_or_half }) jobs all)

weigh-append : (h : Job → ℕ) (xs ys : List Report) → sum_by h (map job_of_report (xs ++ ys)) ≡ sum_by h (map job_of_report xs) + sum_by h (map job_of_report ys)
weigh-append h [] ys = omega arith
weigh-append h (r ∷ xs) ys =
    let a = sum_by-cons h r.job (map job_of_report (xs ++ ys)) in let b = sum_by-cons h r.job (map job_of_report xs) in let i = weigh-append h xs ys in omega arith

pub one_reported : (old now : List Worker) (all next : List Report) (i : ℕ) (d w : Worker) → IsReporting old now all i → i < length now → next ≡ all ++ (get_or now i d).reports
    → owner_of w ≡ owner_of (get_or now i d) → IsReporting old (set now i w) next (i + 1)
one_reported old now all next i d w h l is same = record {
  workers_are = length-set now i w ∙ h.workers_are;
  owners = map-set owner_of now i w d l same ∙ h.owners;
  weighed = λ f.
      (let a = h.weighed f in
      let b = ap (λ (l : List Report). sum_by f (map job_of_report l)) is ∙ weigh-append f all (get_or now i d).reports in
      let c = sum_by-drop_more (λ (w : Worker). sum_by f (map job_of_report w.reports)) old i d (let n = h.workers_are in omega arith) in
      let u = ap (λ (w : Worker). sum_by f (map job_of_report w.reports)) (h.untouched i d (omega arith)) in omega arith);
  from = λ r c. elim (Contains-append_cases all (get_or now i d).reports r (subst (λ (l : List Report). Contains l r) is c)) [
    | inl was ↦ h.from r was
    | inr new ↦ (get_or old i d, Contains-get_or old i d (let n = h.workers_are in omega arith), subst (λ (w : Worker). Contains w.reports r) (h.untouched i d (omega arith)) new)
  ];
  untouched = λ k e o. get_or-set_other now i k w e (λ z. omega arith) ∙ h.untouched k e (omega arith);
}

pub none_reported : (old now : List Worker) (all : List Report) (i : ℕ) (d w : Worker) → IsReporting old now all i → i < length now → owner_of w ≡ owner_of (get_or now i d) → map owner_of (set now i w) ≡ map owner_of old
none_reported old now all i d w h l same = map-set owner_of now i w d l same ∙ h.owners

pub run_sizes : (ws0 ws1 ws2 ws3 : List Worker) (piles0 piles3 : List Pile) → map unpushed ws1 ≡ map unpushed ws0 → map spot_of ws2 ≡ map spot_of ws1 → IsGathering ws2 ws3 piles0 piles3 (length ws2)
    → (length ws3 ≡ length ws0) × (length piles3 ≡ length piles0)
run_sizes ws0 ws1 ws2 ws3 piles0 piles3 e f g = ((let a = g.workers_are in let b = length_via unpushed ws1 ws0 e in let c = length_via spot_of ws2 ws1 f in omega arith), g.size)

pub balanced : (ws3 ws4 : List Worker) (piles : List Pile) (all : List Report) → IsTold ws3 piles → map owner_of ws4 ≡ map owner_of ws3 → ((x : ℕ) → times x (map job_of_report all) ≡ reported_by x ws3) → IsBalanced all ws4 piles
balanced ws3 ws4 piles all t e r x =
    let a = t x in let b = r x in
    let p : pushed_by (has x) ws4 ≡ pushed_by (has x) ws3 = sum_via owner_of (λ (o : Owned × Sitting). sum_by (has x) o.0.pushed) ws4 ws3 e in
    let q : popped_by (has x) ws4 ≡ popped_by (has x) ws3 = sum_via owner_of (λ (o : Owned × Sitting). sum_by (has x) o.0.popped) ws4 ws3 e in
    omega arith

pub ready_still : (ws3 ws4 : List Worker) (piles : List Pile) → map owner_of ws4 ≡ map owner_of ws3 → AreReady ws3 piles × (length ws3 ≡ length piles) → AreReady ws4 piles × (length ws4 ≡ length piles)
ready_still ws3 ws4 piles e (r, n) = (
  (λ k d f l.
      let i : k < length ws3 = (let m = length_via owner_of ws4 ws3 e in omega arith) in
      let o = at_via owner_of ws4 ws3 k d d e l in
      let h = r k d f i in
      record {
        idle = ap (λ (o : Owned × Sitting). o.0.idle) o ∙ h.idle;
        same = subst (λ (t : TableId). All (λ (r : Reaching). r.deque ≡ t) (get_or piles k f).items) (sym (ap (λ (o : Owned × Sitting). o.0.deque) o)) h.same;
        parts = h.parts;
      }),
  (let m = length_via owner_of ws4 ws3 e in omega arith),
)

pub tiled : (ws : List Worker) (piles : List Pile) (all : List Report) → IsBalanced all ws piles → ((h : Job → ℕ) → pushed_by h ws ≡ popped_by h ws + stolen_from h piles) → Tile (map job_of_report all)
tiled ws piles all b paid = tile (map job_of_report all) (λ x. let a = b x in let c = paid (has x) in omega arith)

pub back_ready : (ws : List Worker) (piles : List Pile) (n m : ℕ) (zs : List Worker) (qs : List Pile) → length ws ≡ n → length piles ≡ m → AreReady ws piles × (length ws ≡ length piles)
    → AreReady (take n (ws ++ zs)) (take m (piles ++ qs)) × (length (take n (ws ++ zs)) ≡ length (take m (piles ++ qs)))
back_ready ws piles n m zs qs e f r =
    subst (λ (l : List Worker). AreReady l (take m (piles ++ qs)) × (length l ≡ length (take m (piles ++ qs)))) (sym (take_own n ws zs e))
    (subst (λ (l : List Pile). AreReady ws l × (length ws ≡ length l)) (sym (take_own m piles qs f)) r)

pub back_tiled : (ws : List Worker) (piles : List Pile) (n m : ℕ) (zs : List Worker) (qs : List Pile) (all : List Report) → length ws ≡ n → length piles ≡ m → IsBalanced all ws piles
    → ((h : Job → ℕ) → pushed_by h (take n (ws ++ zs)) ≡ popped_by h (take n (ws ++ zs)) + stolen_from h (take m (piles ++ qs))) → Tile (map job_of_report all)
back_tiled ws piles n m zs qs all e f b paid =
    tiled ws piles all b (λ h.
    let a = paid h in
    let p = ap (pushed_by h) (take_own n ws zs e) in let q = ap (popped_by h) (take_own n ws zs e) in let r = ap (stolen_from h) (take_own m piles qs f) in omega arith)

-- one worker's work, as that of a list
pub one_worked : {X E : Type 0} (r : Result X E) (brd : Place) (c : Choices) (split : ℕ) (ws : List Worker) (d w : Worker) → length ws ≡ 1 → All (IsFresh brd) ws
    → OnOk r (HasWorked c split (get_or ws 0 d).owner w.owner (get_or ws 0 d).reaches.items w.reaches.items w.reports) → OnOk r (IsAccounted ws (set ws 0 w))
one_worked r brd c split [] d w one fresh h = absurd (omega arith)
one_worked r brd c split (v ∷ []) d w one fresh h = on_ok r (HasWorked c split v.owner w.owner v.reaches.items w.reaches.items w.reports) (IsAccounted (v ∷ []) (w ∷ [])) (λ worked x.
    let none : sum_by (has x) v.owner.popped ≡ 0 = ap (sum_by (has x)) (All-head (IsFresh brd) v [] fresh).popped in
    let a = worked.count x in
    let r1 : reported_by x (w ∷ []) ≡ times x (map job_of_report w.reports) = single (λ (w : Worker). times x (map job_of_report w.reports)) w in
    let r2 : pushed_by (has x) (w ∷ []) ≡ sum_by (has x) w.owner.pushed = single (λ (w : Worker). sum_by (has x) w.owner.pushed) w in
    let r3 : popped_by (has x) (w ∷ []) ≡ sum_by (has x) w.owner.popped = single (λ (w : Worker). sum_by (has x) w.owner.popped) w in
    let r4 : held (λ (r : Reaching). sum_by (has x) r.stolen) (w ∷ []) ≡ robbed (has x) w.reaches.items = single (λ (w : Worker). sum_by (λ (r : Reaching). sum_by (has x) r.stolen) w.reaches.items) w in
    let r5 : pushed_by (has x) (v ∷ []) ≡ sum_by (has x) v.owner.pushed = single (λ (w : Worker). sum_by (has x) w.owner.pushed) v in
    omega arith) h
  where
    single : (f : Worker → ℕ) (w : Worker) → sum_by f (w ∷ []) ≡ f w
    single f w = let a = sum_by-cons f w [] in omega arith
one_worked r brd c split (v ∷ (u ∷ ws)) d w one fresh h = absurd (omega arith)

-- both halves did their work
pub both_honest : {X E : Type 0} (lo hi : Result X E) (x : X) (A B : Type 0) (P : Worker → Type 0) (xs ys : List Worker) → lo ≡ Ok x → OnOk lo (A × All P xs) → OnOk hi (B × All P ys) → OnOk hi (All P (xs ++ ys))
both_honest lo hi x A B P xs ys is low high =
    let first : A × All P xs = subst (λ r. OnOk r (A × All P xs)) is low in
    on_ok hi (B × All P ys) (All P (xs ++ ys)) (λ h. All-append P xs ys first.1 h.1) high

-- the seats stay at the board
pub still_seated : (brd : Place) (ws0 ws1 ws2 ws3 : List Worker) → map unpushed ws1 ≡ map unpushed ws0 → map spot_of ws2 ≡ map spot_of ws1 → map unreached ws3 ≡ map unreached ws2 → All (IsFresh brd) ws0 → All (λ (w : Worker). w.seat.place ≡ brd) ws3
still_seated brd ws0 ws1 ws2 ws3 e f g fresh =
    all_via unreached (λ (u : ℕ × Owned × List Report × List Record × Sitting). u.4.place ≡ brd) ws3 ws2 g
    (all_via spot_of (λ (s : ℕ × TableId × ℕ × List (TableId × ℕ × ℕ) × Place). s.4 ≡ brd) ws2 ws1 f
    (all_via unpushed (λ (w : Worker). w.seat.place ≡ brd) ws1 ws0 e (All-weaker (IsFresh brd) (λ (w : Worker). w.seat.place ≡ brd) (λ w h. h.seat) ws0 fresh)))

pub none_yet : (ws : List Worker) (all : List Report) → all ≡ [] → IsReporting ws ws all 0
none_yet ws all none = record {
  workers_are = refl;
  owners = refl;
  weighed = λ f. let a = ap (λ (l : List Report). sum_by f (map job_of_report l)) none in omega arith;
  from = λ r c. absurd (let (k, l, e) = c in let z = ap length none in omega arith);
  untouched = λ k d l. refl;
}

pub all_told : (c : Choices) (ws3 ws4 : List Worker) (all : List Report) → All (IsHonest c) ws3 → ((r : Report) → Contains all r → (w : Worker) × Contains ws3 w × Contains w.reports r) → map owner_of ws4 ≡ map owner_of ws3 → AreTold c all ws4
all_told c ws3 ws4 all honest from same = record {
  sound = All-weaker (Contains all) (IsSound c) (λ r i. let (w, j, k) = from r i in All-contains (IsSound c) w.reports r (All-contains (IsHonest c) ws3 w honest j).sound k) all (All-contains_itself all);
  seen = λ r i.
      let (w, (j, l, at), k) = from r i in
      let had = All-contains (λ (r : Report). Contains w.seat.seen r.seen) w.reports r (All-contains (IsHonest c) ws3 w honest (j, l, at)).logged.seen_is k in
      let in4 : j < length ws4 = let n = length_via owner_of ws4 ws3 same in omega arith in
      let seat_is : (get_or ws4 j w).seat ≡ w.seat = ap (λ (o : Owned × Sitting). o.1) (at_via owner_of ws4 ws3 j w w same in4) ∙ ap (λ (u : Worker). u.seat) at in
      (get_or ws4 j w, Contains-get_or ws4 j w in4, subst (λ (s : Sitting). Contains s.seen r.seen) (sym seat_is) had);
}

pub still_seated_too : (brd : Place) (ws3 ws4 : List Worker) → map owner_of ws4 ≡ map owner_of ws3 → All (λ (w : Worker). w.seat.place ≡ brd) ws3 → All (λ (w : Worker). w.seat.place ≡ brd) ws4
still_seated_too brd ws3 ws4 e all = all_via owner_of (λ (o : Owned × Sitting). o.1.place ≡ brd) ws4 ws3 e all

-- the board's word is below each report's bar
pub below_all : (c : Choices) (all : List Report) (ws : List Worker) (seen : List ℕ) (word : ℕ) → AreTold c all ws → ((w : Worker) (k : ℕ) → Contains ws w → Contains w.seat.seen k → Contains seen k) → All (λ n. word ≤ n) seen → All (λ (r : Report). word ≤ r.seen) all
below_all c all ws seen word told joined low = All-weaker (Contains all) (λ (r : Report). word ≤ r.seen)
    (λ r i. let (w, j, k) = told.seen r i in All-contains (λ n. word ≤ n) seen r.seen low (joined w r.seen j k)) all (All-contains_itself all)

pub below_back : (c : Choices) (all : List Report) (ws : List Worker) (n : ℕ) (zs : List Worker) (seen : List ℕ) (word : ℕ) → length ws ≡ n → AreTold c all ws
    → ((w : Worker) (k : ℕ) → Contains (take n (ws ++ zs)) w → Contains w.seat.seen k → Contains seen k) → All (λ n. word ≤ n) seen → All (λ (r : Report). word ≤ r.seen) all
below_back c all ws n zs seen word e told joined low =
    below_all c all ws seen word told (λ w k i. joined w k (subst (λ (l : List Worker). Contains l w) (sym (take_own n ws zs e)) i)) low

pub back_seated : (brd : Place) (ws : List Worker) (n : ℕ) (zs : List Worker) → length ws ≡ n → All (λ (w : Worker). w.seat.place ≡ brd) ws → All (λ (w : Worker). w.seat.place ≡ brd) (take n (ws ++ zs))
back_seated brd ws n zs e all = subst (All (λ (w : Worker). w.seat.place ≡ brd)) (sym (take_own n ws zs e)) all

pub pow_le : (a b : ℕ) → a ≤ b → 2 ^ a ≤ 2 ^ b
pow_le a b l =
    let e : 2 ^ b ≡ 2 ^ (b - a) * 2 ^ a = ap (λ n. 2 ^ n) (let f : b ≡ (b - a) + a = omega arith in f) ∙ pow-add 2 (b - a) a in
    let o = mul-le 1 (2 ^ a) (2 ^ (b - a)) (2 ^ a) (let x = pow_pos (b - a) in omega arith) (omega arith) in omega arith
