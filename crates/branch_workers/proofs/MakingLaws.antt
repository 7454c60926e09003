-- The making of a crew.
use Rattle.std.proofs.Common.{◌≡◌, ℕ, zero, suc, ◌+◌, ◌-◌, ◌*◌, ◌<◌, ◌≤◌, List, [], ◌∷◌, ◌++◌, length, take, set, get_or, ◌⊎◌, refl, sym, ap, ◌∙◌, subst, inl, inr, arith, length-set, length-append, get_or-set_same, get_or-set_other, vec_capacity, Bool}
use Rattle.std.specs.Prelude.{if◌then◌else◌}
use Rattle.std.specs.List.{sum_by, All, Contains}
use Rattle.std.proofs.lemmas.Bool.{cases_eq, eq-eqb, ne_eqb}
use Rattle.std.proofs.lemmas.List.Sums.{sum_by-cons, sum_by_push, sum_by-set, sum_by_more}
use Rattle.std.proofs.lemmas.List.Elements.{All-get_or, All-weaker, All-contains_itself, Contains-push_cases, Contains-get_or}
use Rattle.common_lists.proofs.ListLaws.{take_own, get_or-default}
use Rattle.nogood_store.specs.Hits.{PlainStore}
use Rattle.steal_rule.specs.Deques.{Owned, Reaching, whole_reach, new_reach}
use Rattle.incumbent_word.specs.Sittings.{Place, Sitting}
use Rattle.branch_core.specs.declared.report.Report.{Report}
use Rattle.refutation_log.specs.declared.record.Record.{Record}
use Rattle.branch_workers.specs.Gather.{only, held, Pile, IsHeld, IsGathered, IsFresh, IsMadeFor}
use Rattle.branch_workers.specs.Making.{IsHired, AreHired, reachless, IsLent, IsShared, AreShared, AreEmpty}
use Rattle.branch_workers.specs.declared.worker.Worker.{Worker}
use Rattle.branch_workers.proofs.RoundLaws.{map-set}
use Rattle.branch_workers.proofs.CrewLaws.{at_via}

-- where a worker is held at a place of a changed list
held_set : (ws : List Worker) (j : ℕ) (w : Worker) (r : Reaching) → IsHeld (set ws j w) r → IsHeld ws r ⊎ Contains w.reaches.items r
held_set ws j w r (u, (k, l, at), i) = elim (cases_eq k j) [
  | inl here ↦ inr (subst (λ (u : Worker). Contains u.reaches.items r) (sym at ∙ ap (λ k. get_or (set ws j w) k u) here ∙ get_or-set_same ws j w u (let n = length-set ws j w in omega arith)) i)
  | inr other ↦ inl (u, (k, (let n = length-set ws j w in omega arith), sym (get_or-set_other ws j k w u other) ∙ at), i)
]

-- one more worker has a reach
pub one_lent : (first main main' : Reaching) (old now : List Worker) (n j : ℕ) (d w : Worker) → IsShared first main old now n → j < length now → IsLent main main' (get_or now j d) w → n < first.parts
    → IsShared first main' old (set now j w) (n + 1)
one_lent first main main' old now n j d w h l t low =
    let same : new_reach main ≡ new_reach first = λ i. record { deque = h.deque i; number = h.number i; parts = 1; stolen = []; finds = Rattle.steal_rule.specs.Views.no_finds; steals = 0; empty = Rattle.std.proofs.Common.false } in
    let given : w.reaches.items ≡ (get_or now j d).reaches.items ++ new_reach first ∷ [] = t.reaches ∙ ap (λ r. (get_or now j d).reaches.items ++ r ∷ []) same in
    record {
      deque = ap (λ (r : Reaching). r.deque) t.main_is ∙ h.deque;
      number = ap (λ (r : Reaching). r.number) t.main_is ∙ h.number;
      stolen = ap (λ (r : Reaching). r.stolen) t.main_is ∙ h.stolen;
      parts = let a = ap (λ (r : Reaching). r.parts) t.main_is in let b = h.parts in omega arith;
      size = length-set now j w ∙ h.size;
      rest = map-set reachless now j w d l t.rest ∙ h.rest;
      held_is = λ g.
          let a = h.held_is g in
          let b = sum_by-set (λ (w : Worker). sum_by g w.reaches.items) now j w d l in
          let c = ap (sum_by g) given ∙ sum_by_push g (get_or now j d).reaches.items (new_reach first) in
          let e : (n + 1) * g (new_reach first) ≡ n * g (new_reach first) + g (new_reach first) = omega arith in omega arith;
      from = λ r i. elim (held_set now j w r i) [
        | inl was ↦ h.from r was
        | inr new ↦ elim (Contains-push_cases (get_or now j d).reaches.items (new_reach first) r (subst (λ (l : List Reaching). Contains l r) given new)) [
          | inl was ↦ h.from r (get_or now j d, Contains-get_or now j d l, was)
          | inr is ↦ inr (sym is)
        ]
      ];
    }

-- one more reach is shared
pub one_shared : (mains now_mains : List Reaching) (old now now' : List Worker) (k : ℕ) (d main' : Reaching) → AreShared mains now_mains old now k → k < length now_mains → All (λ (r : Reaching). r.parts ≡ 16) mains
    → IsShared (get_or now_mains k d) main' now now' (length now - 1) → AreShared mains (set now_mains k main') old now' (k + 1)
one_shared mains now_mains old now now' k d main' h l whole s =
    let in_mains : k < length mains = let n = h.sizes in omega arith in
    let was : get_or now_mains k d ≡ get_or mains k d = h.untouched k d (omega arith) in
    let n : length now - 1 ≡ length old - 1 = ap (λ m. m - 1) h.sizes.1 in
    record {
      sizes = (length-set now_mains k main' ∙ h.sizes.0, s.size ∙ h.sizes.1);
      rest = s.rest ∙ h.rest;
      held_is = λ g.
          let f : Reaching → ℕ = λ m. g (new_reach m) in
          let a = h.held_is g in
          let b = s.held_is g in
          let c = sum_by_more f mains k d in_mains in
          let e : f (get_or now_mains k d) ≡ f (get_or mains k d) = ap f was in
          let p : (length now - 1) * f (get_or now_mains k d) ≡ (length old - 1) * f (get_or mains k d) = λ i. n i * e i in
          let q : (length old - 1) * (sum_by f (take k mains) + f (get_or mains k d)) ≡ (length old - 1) * sum_by f (take k mains) + (length old - 1) * f (get_or mains k d) = times_sum (length old - 1) (sum_by f (take k mains)) (f (get_or mains k d)) in
          let t : (length old - 1) * sum_by f (take (k + 1) mains) ≡ (length old - 1) * (sum_by f (take k mains) + f (get_or mains k d)) = ap (λ x. (length old - 1) * x) c in
          omega (arith, a, b, p, q, t);
      from = λ r i. elim (s.from r i) [
        | inl earlier ↦ elim (h.from r earlier) [
          | inl first ↦ inl first
          | inr (j, low, is) ↦ inr (j, omega arith, is)
        ]
        | inr is ↦ inr (k, omega arith, λ e. is ∙ ap new_reach (was ∙ get_or-default mains k d e in_mains))
      ];
      done = λ i e low. elim (cases_eq i k) [
        | inl here ↦ subst (λ i. ((get_or (set now_mains k main') i e).deque ≡ (get_or mains i e).deque) × ((get_or (set now_mains k main') i e).number ≡ (get_or mains i e).number) × ((get_or (set now_mains k main') i e).stolen ≡ (get_or mains i e).stolen) × ((get_or (set now_mains k main') i e).parts + (length old - 1) ≡ 16)) (sym here)
            (subst (λ (x : Reaching). (x.deque ≡ (get_or mains k e).deque) × (x.number ≡ (get_or mains k e).number) × (x.stolen ≡ (get_or mains k e).stolen) × (x.parts + (length old - 1) ≡ 16)) (sym (get_or-set_same now_mains k main' e l))
            (let same = was ∙ get_or-default mains k d e in_mains in (
              s.deque ∙ ap (λ (r : Reaching). r.deque) same,
              s.number ∙ ap (λ (r : Reaching). r.number) same,
              s.stolen ∙ ap (λ (r : Reaching). r.stolen) same,
              (let a = s.parts in let b = ap (λ (r : Reaching). r.parts) was in let c = All-get_or (λ (r : Reaching). r.parts ≡ 16) mains k d in_mains whole in omega (arith, a, b, c, n)),
            )))
        | inr other ↦ subst (λ (x : Reaching). (x.deque ≡ (get_or mains i e).deque) × (x.number ≡ (get_or mains i e).number) × (x.stolen ≡ (get_or mains i e).stolen) × (x.parts + (length old - 1) ≡ 16)) (sym (get_or-set_other now_mains k i main' e other)) (h.done i e (less i other low))
      ];
      untouched = λ i e low. get_or-set_other now_mains k i main' e (λ z. omega arith) ∙ h.untouched i e (omega arith);
    }
  where
    times_sum : (n a b : ℕ) → n * (a + b) ≡ n * a + n * b
    times_sum n a b = omega arith

    less : (i : ℕ) → (i ≡ k → ⊥) → i < k + 1 → i < k
    less i other low = omega arith

-- one more worker is hired
pub one_hired : (board : Place) (ws : List Worker) (ms : List Reaching) (w : Worker) (m : Reaching) (n : ℕ) → AreHired board ws ms n → IsHired board n w m → AreHired board (ws ++ w ∷ []) (ms ++ m ∷ []) (n + 1)
one_hired board ws ms w m n h one = record {
  sizes = ((let a = length-append ws (w ∷ []) in let b = h.sizes.0 in omega arith), (let a = length-append ms (m ∷ []) in let b = h.sizes.1 in omega arith));
  each = λ k d e low. elim (cases_eq k n) [
    | inl last ↦ subst (λ k. IsHired board k (get_or (ws ++ w ∷ []) k d) (get_or (ms ++ m ∷ []) k e)) (sym last)
        (subst (λ (x : Worker). IsHired board n x (get_or (ms ++ m ∷ []) n e)) (sym (last_of ws w d n (sym h.sizes.0)))
        (subst (IsHired board n w) (sym (last_of ms m e n (sym h.sizes.1))) one))
    | inr other ↦
        (let front : k < n = less k other low in
        subst (λ (x : Worker). IsHired board k x (get_or (ms ++ m ∷ []) k e)) (sym (front_of ws (w ∷ []) k d (let a = h.sizes.0 in omega arith)))
        (subst (IsHired board k (get_or ws k d)) (sym (front_of ms (m ∷ []) k e (let a = h.sizes.1 in omega arith))) (h.each k d e front)))
  ];
}
  where
    less : (k : ℕ) → (k ≡ n → ⊥) → k < n + 1 → k < n
    less k other low = omega arith

    front_of : {X : Type 0} (xs ys : List X) (k : ℕ) (d : X) → k < length xs → get_or (xs ++ ys) k d ≡ get_or xs k d
    front_of [] ys k d l = absurd (omega arith)
    front_of (x ∷ xs) ys zero d l = refl
    front_of (x ∷ xs) ys (suc k) d l = front_of xs ys k d (omega arith)

    last_of : {X : Type 0} (xs : List X) (x d : X) (k : ℕ) → k ≡ length xs → get_or (xs ++ x ∷ []) k d ≡ x
    last_of [] x d zero e = refl
    last_of [] x d (suc k) e = absurd (omega arith)
    last_of (y ∷ xs) x d zero e = absurd (omega arith)
    last_of (y ∷ xs) x d (suc k) e = last_of xs x d k (omega arith)

pub one_hired_as : (board : Place) (ws ws' : List Worker) (ms ms' : List Reaching) (w : Worker) (m : Reaching) (n : ℕ) → AreHired board ws ms n → IsHired board n w m → ws' ≡ ws ++ w ∷ [] → ms' ≡ ms ++ m ∷ [] → AreHired board ws' ms' (n + 1)
one_hired_as board ws ws' ms ms' w m n h one e f = subst (λ (l : List Worker). AreHired board l ms' (n + 1)) (sym e) (subst (λ (l : List Reaching). AreHired board (ws ++ w ∷ []) l (n + 1)) (sym f) (one_hired board ws ms w m n h one))

-- the count of what was shared, written otherwise
pub shared_as : (main main' : Reaching) (old now : List Worker) (n k : ℕ) → n ≡ k → IsShared main main' old now n → IsShared main main' old now k
shared_as main main' old now n k e h = subst (IsShared main main' old now) e h

some_worker : (ws : List Worker) (k : ℕ) → k < length ws → Worker
some_worker [] k l = absurd (omega arith)
some_worker (w ∷ ws) k l = w

take_all : {X : Type 0} (xs : List X) (n : ℕ) → length xs ≡ n → take n xs ≡ xs
take_all [] zero e = refl
take_all [] (suc n) e = refl
take_all (x ∷ xs) zero e = absurd (omega arith)
take_all (x ∷ xs) (suc n) e = ap (λ l. x ∷ l) (take_all xs n (omega arith))

-- no reach of the list has the number
only_none : (g : Reaching → ℕ) (k o : ℕ) (ms : List Reaching) → ((i : ℕ) (d : Reaching) → i < length ms → (get_or ms i d).number ≡ o + i) → k < o → sum_by (only k g) ms ≡ 0
only_none g k o [] numbers l = refl
only_none g k o (m ∷ ms) numbers l =
    let a = sum_by-cons (only k g) m ms in
    let b : only k g m ≡ 0 = ap (λ (b : Bool). if b then g m else 0) (ne_eqb m.number k (λ e. let n = numbers 0 m (omega arith) in absurd (omega arith))) in
    let c = only_none g k (suc o) ms (λ i d l. let n = numbers (suc i) d (omega arith) in omega arith) (omega arith) in omega arith

-- one reach of the list has it
only_one : (g : Reaching → ℕ) (k o j : ℕ) (d : Reaching) (ms : List Reaching) → ((i : ℕ) (d : Reaching) → i < length ms → (get_or ms i d).number ≡ o + i) → k ≡ o + j → j < length ms → sum_by (only k g) ms ≡ g (get_or ms j d)
only_one g k o j d [] numbers e l = absurd (omega arith)
only_one g k o zero d (m ∷ ms) numbers e l =
    let a = sum_by-cons (only k g) m ms in
    let b : only k g m ≡ g m = ap (λ (b : Bool). if b then g m else 0) (eq-eqb m.number k (let n = numbers 0 m (omega arith) in omega arith)) in
    let c = only_none g k (suc o) ms (λ i d l. let n = numbers (suc i) d (omega arith) in omega arith) (omega arith) in omega arith
only_one g k o (suc j) d (m ∷ ms) numbers e l =
    let a = sum_by-cons (only k g) m ms in
    let b : only k g m ≡ 0 = ap (λ (b : Bool). if b then g m else 0) (ne_eqb m.number k (λ z. let n = numbers 0 m (omega arith) in absurd (omega arith))) in
    let c = only_one g k (suc o) j d ms (λ i d l. let n = numbers (suc i) d (omega arith) in omega arith) (omega arith) (omega arith) in omega arith

-- the reaches of new deques hold all parts
pub all_whole : (board : Place) (ws : List Worker) (ms : List Reaching) (n : ℕ) → AreHired board ws ms n → All (λ (r : Reaching). r.parts ≡ 16) ms
all_whole board ws ms n h = λ k d l.
    let m = h.sizes.1 in let s = h.sizes.0 in
    ap (λ (r : Reaching). r.parts) (h.each k (some_worker ws k (omega arith)) d (omega arith)).main_is

module _ (board : Place) (ws0 ws : List Worker) (ms0 ms : List Reaching) (ps0 ps : List Pile) (n : ℕ) (hired : AreHired board ws0 ms0 n) (empty : AreEmpty ps0 n) (shared : AreShared ms0 ms ws0 ws n) (gathered : IsGathered ms [] ps0 ps) (few : n ≤ 16) where
  abbrev main_at : ℕ → Reaching
  main_at k = get_or ms0 k (new_reach (whole_reach record { words = 0; slots = 0; views_name = 0; atom = 0; block = 0; offset = 0; slot_names = [] } 0))

  one : (k : ℕ) (d : Worker) (e : Reaching) → k < n → IsHired board k (get_or ws0 k d) (get_or ms0 k e)
  one k d e l = hired.each k d e l

  length_is : length ws ≡ n
  length_is = shared.sizes.1 ∙ hired.sizes.0

  mains_are : length ms ≡ n
  mains_are = shared.sizes.0 ∙ hired.sizes.1

  -- a worker's own things stay
  kept : (k : ℕ) (d e : Worker) → k < n → reachless (get_or ws k d) ≡ reachless (get_or ws0 k e)
  kept k d e l = at_via reachless ws ws0 k d e shared.rest (let a = length_is in omega arith)

  deque_at : (k : ℕ) (d : Worker) (e : Reaching) → k < n → (get_or ms0 k e).deque ≡ (get_or ws k d).owner.deque
  deque_at k d e l = ap (λ (r : Reaching). r.deque) (one k d e l).main_is ∙ sym (ap (λ (u : ℕ × Sitting × Owned × List Report × List Record × PlainStore). u.2.deque) (kept k d d l))

  numbers : (i : ℕ) (d : Reaching) → i < length ms → (get_or ms i d).number ≡ 0 + i
  numbers i d l =
      let m = mains_are in
      (shared.done i d (omega arith)).1 ∙ ap (λ (r : Reaching). r.number) (one i (worker i (omega arith)) d (omega arith)).main_is ∙ (let e : i ≡ 0 + i = omega arith in e)
    where
      worker : (i : ℕ) → i < n → Worker
      worker i l = some_worker ws0 i (let s = hired.sizes.0 in omega arith)

  numbers0 : (i : ℕ) (d : Reaching) → i < length ms0 → (get_or ms0 i d).number ≡ 0 + i
  numbers0 i d l =
      let m = hired.sizes.1 in let s = hired.sizes.0 in
      ap (λ (r : Reaching). r.number) (one i (some_worker ws0 i (omega arith)) d (omega arith)).main_is ∙ (let e : i ≡ 0 + i = omega arith in e)

  -- a reach that a worker holds
  lent_is : (r : Reaching) → IsHeld ws r → (i : ℕ) × (i < n) × ((d : Reaching) → r ≡ new_reach (get_or ms0 i d))
  lent_is r h = elim (shared.from r h) [
    | inl (w, (k, l, at), (j, m, is)) ↦
        (let none = ap (λ (u : Worker). length u.reaches.items) (sym at) ∙ ap length (one k w (main_at k) (let s = hired.sizes.0 in omega arith)).reaches in absurd (omega arith))
    | inr found ↦ found
  ]

  own_is : (k : ℕ) (d : Worker) (e : Pile) (r : Reaching) → k < n → Contains (get_or ps k e).items r → (r.deque ≡ (get_or ws k d).owner.deque) × (r.stolen ≡ [])
  own_is k d e r l i = elim (gathered.named k e r (let s = empty.size in omega arith) i) [
    | inl (j, m, at) ↦ (let none = ap length (empty.empty k e l) in absurd (omega arith))
    | inr ((j, m, at), number) ↦
        (let len = mains_are in
        let same : j ≡ k = (let a = numbers j r m in let b = ap (λ (r : Reaching). r.number) at in omega arith) in
        let done = shared.done j r (omega arith) in
        let in_n : j < n = omega arith in (
          ap (λ (r : Reaching). r.deque) (sym at) ∙ done.0 ∙ deque_at j d r in_n ∙ ap (λ k. (get_or ws k d).owner.deque) same,
          ap (λ (r : Reaching). r.stolen) (sym at) ∙ done.2 ∙ ap (λ (r : Reaching). r.stolen) (one j d r in_n).main_is,
        ))
  ]

  piled_is : (g : Reaching → ℕ) (k : ℕ) (e : Pile) (d : Reaching) → k < n → sum_by g (get_or ps k e).items ≡ g (get_or ms k d)
  piled_is g k e d l =
      let a = gathered.each g k e (let s = empty.size in omega arith) in
      let b : sum_by g (get_or ps0 k e).items ≡ 0 = ap (sum_by g) (empty.empty k e l) in
      let c = only_one g k 0 k d ms numbers (omega arith) (let m = mains_are in omega arith) in omega arith

  held_only : (g : Reaching → ℕ) (k : ℕ) → k < n → ((m : Reaching) → g (new_reach m) ≡ 1) → held (only k g) ws ≡ n - 1
  held_only g k l ones =
      let a = shared.held_is (only k g) in
      let z : held (only k g) ws0 ≡ 0 = nothing ws0 (λ j d m. (one j d (main_at j) (let s = hired.sizes.0 in omega arith)).reaches) in
      let t : sum_by (λ (m : Reaching). only k g (new_reach m)) (take n ms0) ≡ sum_by (λ (m : Reaching). only k g (new_reach m)) ms0 = ap (sum_by (λ (m : Reaching). only k g (new_reach m))) (take_all ms0 n hired.sizes.1) in
      let c : sum_by (only k (λ (m : Reaching). g (new_reach m))) ms0 ≡ g (new_reach (main_at k)) = only_one (λ (m : Reaching). g (new_reach m)) k 0 k _ ms0 numbers0 (omega arith) (let m = hired.sizes.1 in omega arith) in
      let u : sum_by (λ (m : Reaching). only k g (new_reach m)) (take n ms0) ≡ 1 = t ∙ c ∙ ones (main_at k) in
      let p : (length ws0 - 1) * sum_by (λ (m : Reaching). only k g (new_reach m)) (take n ms0) ≡ (n - 1) * 1 = λ i. (hired.sizes.0 i - 1) * u i in
      omega (arith, a, z, p)
    where
      nothing : (l : List Worker) → ((j : ℕ) (d : Worker) → j < length l → (get_or l j d).reaches.items ≡ []) → held (only k g) l ≡ 0
      nothing [] none = refl
      nothing (w ∷ l) none =
          let a = sum_by-cons (λ (w : Worker). sum_by (only k g) w.reaches.items) w l in
          let b : sum_by (only k g) w.reaches.items ≡ 0 = ap (sum_by (only k g)) (none 0 w (omega arith)) in
          let c = nothing l (λ j d m. none (suc j) d (omega arith)) in omega arith

  fresh_at : (k : ℕ) (d : Worker) → k < length ws → IsFresh board (get_or ws k d)
  fresh_at k d l =
      let in_n : k < n = let a = length_is in omega arith in
      let same = kept k d d in_n in
      let h = one k d (main_at k) in_n in
      record {
        seat = ap (λ (u : ℕ × Sitting × Owned × List Report × List Record × PlainStore). u.1.place) same ∙ h.seat;
        start = record {
          number = let i = ap (λ (u : ℕ × Sitting × Owned × List Report × List Record × PlainStore). u.0) same ∙ h.number in omega arith;
          reports = ap (λ (u : ℕ × Sitting × Owned × List Report × List Record × PlainStore). u.3) same ∙ h.reports;
          log = ap (λ (u : ℕ × Sitting × Owned × List Report × List Record × PlainStore). u.4) same ∙ h.log;
          reaches = All-weaker (Contains (get_or ws k d).reaches.items) (λ (r : Reaching). (r.steals ≡ 0) × (r.stolen ≡ []))
              (λ r i. let (j, m, is) = lent_is r (get_or ws k d, Contains-get_or ws k d l, i) in
              (ap (λ (r : Reaching). r.steals) (is r), ap (λ (r : Reaching). r.stolen) (is r)))
              (get_or ws k d).reaches.items (All-contains_itself (get_or ws k d).reaches.items);
          store = (
            ap (λ (u : ℕ × Sitting × Owned × List Report × List Record × PlainStore). u.5.nogoods) same ∙ h.store.0,
            ap (λ (u : ℕ × Sitting × Owned × List Report × List Record × PlainStore). u.5.prefix) same ∙ h.store.1,
          );
        };
        popped = ap (λ (u : ℕ × Sitting × Owned × List Report × List Record × PlainStore). u.2.popped) same ∙ ap (λ (o : Owned). o.popped) h.owner;
      }

  pub made_for : IsMadeFor board ws ps
  made_for = record {
    sizes = let a = length_is in let b = gathered.size in let c = empty.size in omega arith;
    fresh = λ k d l. fresh_at k d l;
    unpushed_is = λ k d l.
        let in_n : k < n = let a = length_is in omega arith in
        ap (λ (u : ℕ × Sitting × Owned × List Report × List Record × PlainStore). length u.2.pushed) (kept k d d in_n) ∙ ap (λ (o : Owned). length o.pushed) (one k d (main_at k) in_n).owner;
    own = λ k d e l. All-weaker (Contains (get_or ps k e).items) (λ (r : Reaching). (r.deque ≡ (get_or ws k d).owner.deque) × (r.stolen ≡ []))
        (λ r i. own_is k d e r (let a = length_is in omega arith) i) (get_or ps k e).items (All-contains_itself (get_or ps k e).items);
    named = λ r h.
        let (j, l, is) = lent_is r h in
        let m = hired.sizes.1 in
        let number : r.number ≡ j = ap (λ (r : Reaching). r.number) (is r) ∙ numbers0 j r (omega arith) ∙ (let e : 0 + j ≡ j = omega arith in e) in (
          (let a = length_is in omega arith),
          λ d. ap (λ (r : Reaching). r.deque) (is r) ∙ deque_at j d r l ∙ ap (λ k. (get_or ws k d).owner.deque) (sym number),
        );
    parts = λ k e l.
        let in_n : k < n = let a = length_is in omega arith in
        let a = piled_is (λ (r : Reaching). r.parts) k e (main_at k) in_n in
        let b = held_only (λ (r : Reaching). r.parts) k in_n (λ m. refl) in
        let c = (shared.done k (main_at k) in_n).3 in let s = hired.sizes.0 in omega (arith, a, b, c, s);
    room = λ k e l.
        let in_n : k < n = let a = length_is in omega arith in
        let a = piled_is (λ _. 1) k e (main_at k) in_n in
        let b = held_only (λ _. 1) k in_n (λ m. refl) in
        let c = gathered.capacity k e (let s = empty.size in omega arith) in
        let d = empty.room k e in_n in
        let f = ones (get_or ps k e).items in omega (arith, a, b, c, d, f, few);
  }
    where
      ones : {A : Type 0} (xs : List A) → sum_by (λ (x : A). 1) xs ≡ length xs
      ones [] = refl
      ones (x ∷ xs) = let a = sum_by-cons (λ (y : _). 1) x xs in let b = ones xs in omega arith

numbers_of : (board : Place) (ws0 ws : List Worker) (ms0 ms : List Reaching) (n : ℕ) → AreHired board ws0 ms0 n → AreShared ms0 ms ws0 ws n → (i : ℕ) (d : Reaching) → i < length ms → (get_or ms i d).number ≡ 0 + i
numbers_of board ws0 ws ms0 ms n hired shared i d l =
    let m = shared.sizes.0 ∙ hired.sizes.1 in let s = hired.sizes.0 in
    (shared.done i d (omega arith)).1 ∙ ap (λ (r : Reaching). r.number) (hired.each i (some_worker ws0 i (omega arith)) d (omega arith)).main_is ∙ (let e : i ≡ 0 + i = omega arith in e)

-- the parts of `make`, as its slices show them
pub record AreParts (board : Place) (ws0 sw ws : List Worker) (ms0 sm ms mv : List Reaching) (ps0 sp : List Pile) (n : ℕ) : Type 0 where
  pub sw_is : sw ≡ ws0
  pub sm_is : sm ≡ ms0
  pub sp_is : sp ≡ ps0
  pub hired : AreHired board ws0 ms0 n
  pub empty : AreEmpty ps0 n
  pub shared : AreShared sm ms sw ws (length sw)
  pub mv_is : mv ≡ ms
  pub few : n ≤ 16

shared_is : (board : Place) (ws0 sw ws : List Worker) (ms0 sm ms mv : List Reaching) (ps0 sp : List Pile) (n : ℕ) → AreParts board ws0 sw ws ms0 sm ms mv ps0 sp n → AreShared ms0 ms ws0 ws n
shared_is board ws0 sw ws ms0 sm ms mv ps0 sp n h =
    subst (λ (k : ℕ). AreShared ms0 ms ws0 ws k) (ap length h.sw_is ∙ h.hired.sizes.0)
    (subst (λ (l : List Worker). AreShared ms0 ms l ws (length sw)) h.sw_is (subst (λ (l : List Reaching). AreShared l ms sw ws (length sw)) h.sm_is h.shared))

pub numbers_back : (board : Place) (ws0 sw ws : List Worker) (ms0 sm ms mv : List Reaching) (ps0 sp : List Pile) (n : ℕ) → AreParts board ws0 sw ws ms0 sm ms mv ps0 sp n → All (λ (r : Reaching). r.number < length sp) mv
numbers_back board ws0 sw ws ms0 sm ms mv ps0 sp n h = subst (All (λ (r : Reaching). r.number < length sp)) (sym h.mv_is) (λ k d l.
    let s = shared_is board ws0 sw ws ms0 sm ms mv ps0 sp n h in
    let a = numbers_of board ws0 ws ms0 ms n h.hired s k d l in
    let b = s.sizes.0 ∙ h.hired.sizes.1 in let c = ap length h.sp_is ∙ h.empty.size in omega arith)

pub room_back : (board : Place) (ws0 sw ws : List Worker) (ms0 sm ms mv : List Reaching) (ps0 sp : List Pile) (n : ℕ) → AreParts board ws0 sw ws ms0 sm ms mv ps0 sp n
    → (k : ℕ) (d : Pile) → k < length sp → length (get_or sp k d).items + sum_by (only k (λ _. 1)) mv ≤ vec_capacity (get_or sp k d)
room_back board ws0 sw ws ms0 sm ms mv ps0 sp n h k d l =
    let s = shared_is board ws0 sw ws ms0 sm ms mv ps0 sp n h in
    let in_n : k < n = let c = ap length h.sp_is ∙ h.empty.size in omega arith in
    let m = s.sizes.0 ∙ h.hired.sizes.1 in
    let r = main_of ms k (omega arith) in
    let a : sum_by (only k (λ _. 1)) mv ≡ 1 = ap (sum_by (only k (λ _. 1))) h.mv_is ∙ only_one (λ _. 1) k 0 k r ms (numbers_of board ws0 ws ms0 ms n h.hired s) (omega arith) (omega arith) in
    let b : length (get_or sp k d).items ≡ 0 = ap (λ (l : List Pile). length (get_or l k d).items) h.sp_is ∙ ap length (h.empty.empty k d in_n) in
    let e : vec_capacity (get_or sp k d) ≡ vec_capacity (get_or ps0 k d) = ap (λ (l : List Pile). vec_capacity (get_or l k d)) h.sp_is in
    let f = h.empty.room k d in_n in omega (arith, a, b, e, f)
  where
    main_of : (ms : List Reaching) (k : ℕ) → k < length ms → Reaching
    main_of [] k l = absurd (omega arith)
    main_of (m ∷ ms) k l = m

pub made_back : (board : Place) (ws0 sw ws wz : List Worker) (ms0 sm ms mv : List Reaching) (ps0 sp ps pz : List Pile) (n wn pn : ℕ) → AreParts board ws0 sw ws ms0 sm ms mv ps0 sp n → IsGathered mv [] sp ps → wn ≡ length ws0 → pn ≡ length ps0
    → IsMadeFor board (take wn (ws ++ wz)) (take pn (ps ++ pz)) × (length (take wn (ws ++ wz)) ≡ n)
made_back board ws0 sw ws wz ms0 sm ms mv ps0 sp ps pz n wn pn h gathered wn_is pn_is =
    let s = shared_is board ws0 sw ws ms0 sm ms mv ps0 sp n h in
    let g : IsGathered ms [] ps0 ps = subst (λ (l : List Reaching). IsGathered l [] ps0 ps) h.mv_is (subst (λ (l : List Pile). IsGathered mv [] l ps) h.sp_is gathered) in
    let a = take_own wn ws wz (s.sizes.1 ∙ sym wn_is) in
    let b = take_own pn ps pz (g.size ∙ sym pn_is) in (
      subst (λ (l : List Worker). IsMadeFor board l (take pn (ps ++ pz))) (sym a) (subst (IsMadeFor board ws) (sym b) (made_for board ws0 ws ms0 ms ps0 ps n h.hired h.empty s g h.few)),
      ap length a ∙ s.sizes.1 ∙ h.hired.sizes.0,
    )

pub written_back : (n : ℕ) (old new zs : List Reaching) → n ≡ length old → length new ≡ length old → take n (new ++ zs) ≡ new
written_back n old new zs e l = take_own n new zs (l ∙ sym e)
