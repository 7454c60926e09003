-- How a crew is made.
use Rattle.std.specs.Prelude.{slice_index_or as get_or, ◌≡◌, ℕ, ◌+◌, ◌-◌, ◌*◌, ◌<◌, ◌≤◌, ◌⊎◌, List, [], ◌∷◌, ◌++◌, length, map, take, vec_capacity}
use Rattle.std.specs.List.{sum_by}
use Rattle.branch_core.specs.declared.report.Report.{Report}
use Rattle.incumbent_word.specs.Sittings.{Place, Sitting}
use Rattle.refutation_log.specs.declared.record.Record.{Record}
use Rattle.nogood_store.specs.Hits.{PlainStore}
use Rattle.steal_rule.specs.Deques.{Owned, Reaching, new_owner, whole_reach, new_reach, one_part_less}
use Rattle.branch_workers.specs.Gather.{held, IsHeld, Pile}
use Rattle.branch_workers.specs.declared.worker.Worker.{Worker}

-- a worker with an empty deque and no reach, and the reach that holds all parts of its deque
pub record IsHired (board : Place) (n : ℕ) (w : Worker) (main : Reaching) : Type 0 where
  pub number : w.number ≡ n
  pub seat : w.seat.place ≡ board
  pub owner : w.owner ≡ new_owner w.owner.deque n
  pub reaches : w.reaches.items ≡ []
  pub reports : w.reports ≡ []
  pub log : w.log ≡ []
  pub store : (w.store.nogoods ≡ []) × (w.store.prefix ≡ [])
  pub main_is : main ≡ whole_reach w.owner.deque n

-- each worker, and the reach of its deque
pub record AreHired (board : Place) (workers : List Worker) (mains : List Reaching) (n : ℕ) : Type 0 where
  pub sizes : (length workers ≡ n) × (length mains ≡ n)
  pub each : (k : ℕ) (d : Worker) (e : Reaching) → k < n → IsHired board k (get_or workers k d) (get_or mains k e)

-- all of a worker but its reaches
abbrev pub reachless : Worker → ℕ × Sitting × Owned × List Report × List Record × PlainStore
reachless w = (w.number, w.seat, w.owner, w.reports, w.log, w.store)

-- a reach was split off and given to a worker
pub record IsLent (main main' : Reaching) (w w' : Worker) : Type 0 where
  pub main_is : main' ≡ one_part_less main
  pub rest : reachless w' ≡ reachless w
  pub reaches : w'.reaches.items ≡ w.reaches.items ++ new_reach main ∷ []

-- n new reaches were split off one and given to workers
pub record IsShared (main main' : Reaching) (old now : List Worker) (n : ℕ) : Type 0 where
  pub deque : main'.deque ≡ main.deque
  pub number : main'.number ≡ main.number
  pub stolen : main'.stolen ≡ main.stolen
  pub parts : main'.parts + n ≡ main.parts
  pub size : length now ≡ length old
  pub rest : map reachless now ≡ map reachless old
  pub held_is : (g : Reaching → ℕ) → held g now ≡ held g old + n * g (new_reach main)
  pub from : (r : Reaching) → IsHeld now r → IsHeld old r ⊎ (r ≡ new_reach main)

-- the first k reaches were shared among the workers
pub record AreShared (mains mains' : List Reaching) (old now : List Worker) (k : ℕ) : Type 0 where
  pub sizes : (length mains' ≡ length mains) × (length now ≡ length old)
  pub rest : map reachless now ≡ map reachless old
  pub held_is : (g : Reaching → ℕ) → held g now ≡ held g old + (length old - 1) * sum_by (λ (m : Reaching). g (new_reach m)) (take k mains)
  pub from : (r : Reaching) → IsHeld now r → IsHeld old r ⊎ ((i : ℕ) × (i < k) × ((d : Reaching) → r ≡ new_reach (get_or mains i d)))
  pub done : (i : ℕ) (d : Reaching) → i < k → ((get_or mains' i d).deque ≡ (get_or mains i d).deque) × ((get_or mains' i d).number ≡ (get_or mains i d).number) × ((get_or mains' i d).stolen ≡ (get_or mains i d).stolen) × ((get_or mains' i d).parts + (length old - 1) ≡ 16)
  pub untouched : (i : ℕ) (d : Reaching) → k ≤ i → get_or mains' i d ≡ get_or mains i d

-- empty piles with room for 16 reaches each
pub record AreEmpty (piles : List Pile) (n : ℕ) : Type 0 where
  pub size : length piles ≡ n
  pub empty : (k : ℕ) (e : Pile) → k < n → (get_or piles k e).items ≡ []
  pub room : (k : ℕ) (e : Pile) → k < n → 16 ≤ vec_capacity (get_or piles k e)
