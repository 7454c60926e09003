-- Owners and reaches as contracts see them, and what each call makes of them.
use Rattle.std.specs.Prelude.{◌≡◌, ℕ, ◌+◌, ◌-◌, ◌<◌, Bool, true, false, List, [], ◌∷◌, ◌++◌, map, take, drop, Option, Some, None, ⊤}
use Rattle.std.specs.List.{sum_by}
use Rattle.atomic_table.specs.Seated.{TableId}
use Rattle.plan_rule.specs.declared.job.Job.{Job}
use Rattle.steal_rule.specs.declared.rule.View.{View}
use Rattle.steal_rule.specs.declared.reach.Stolen.{Stolen}
use Rattle.steal_rule.specs.declared.reach.Stolen.TheVariants.{Got, Empty}
use Rattle.steal_rule.specs.Views.{no_finds}

-- an owner: its deque and the number that names it, the jobs that it has pushed and popped, for each cell how often
-- it has found it empty, and whether its last pop answered None with nothing pushed since
pub record Owned : Type 0 where
  pub deque : TableId
  pub number : ℕ
  pub pushed : List Job
  pub popped : List Job
  pub finds : List ℕ
  pub idle : Bool

-- a reach: its deque and the number that names it, its parts, the jobs that it has stolen, for each cell how often
-- it has found it empty, how many steals it has made, and whether the last answered Empty
pub record Reaching : Type 0 where
  pub deque : TableId
  pub number : ℕ
  pub parts : ℕ
  pub stolen : List Job
  pub finds : List ℕ
  pub steals : ℕ
  pub empty : Bool

-- the jobs of the emptied cells
abbrev pub jobs_taken : View → List Job
jobs_taken v = map (λ (e : ℕ × Job). e.1) v.emptied

-- an owner's view as contracts see it
abbrev pub owned : TableId → ℕ → View → Owned
owned deque number v = record {
  deque = deque;
  number = number;
  pushed = v.pushed;
  popped = jobs_taken v;
  finds = v.finds;
  idle = v.idle;
}

-- a reach's view as contracts see it
abbrev pub reaching : TableId → ℕ → View → Reaching
reaching deque number v = record {
  deque = deque;
  number = number;
  parts = v.parts;
  stolen = jobs_taken v;
  finds = v.finds;
  steals = v.looks;
  empty = v.idle;
}

-- the owner of a new deque
abbrev pub new_owner : TableId → ℕ → Owned
new_owner deque number = record {
  deque = deque;
  number = number;
  pushed = [];
  popped = [];
  finds = no_finds;
  idle = false;
}

-- the reach that holds all parts of a new deque
abbrev pub whole_reach : TableId → ℕ → Reaching
whole_reach deque number = record {
  deque = deque;
  number = number;
  parts = 16;
  stolen = [];
  finds = no_finds;
  steals = 0;
  empty = false;
}

-- a new reach of the same deque, with one part
abbrev pub new_reach : Reaching → Reaching
new_reach r = record r { parts = 1; stolen = []; finds = no_finds; steals = 0; empty = false }

-- the reach that gave a part to a new one
abbrev pub one_part_less : Reaching → Reaching
one_part_less r = record r { parts = r.parts - 1 }

-- the numbers of finds, with one more for each cell below k
abbrev pub raised : ℕ → List ℕ → List ℕ
raised k finds = map (λ n. n + 1) (take k finds) ++ drop k finds

-- the job was pushed
abbrev pub pushing : Owned → Job → Owned
pushing o job = record o { pushed = o.pushed ++ job ∷ []; idle = false }

-- the job was popped from the cell k, and the cells below were found empty
abbrev pub popping : Owned → ℕ → Job → Owned
popping o k job = record o { popped = o.popped ++ job ∷ []; finds = raised k o.finds; idle = false }

-- the owner found all 64 cells empty
abbrev pub found_none : Owned → Owned
found_none o = record o { finds = raised 64 o.finds; idle = true }

-- the job was stolen from the cell k, and the cells below were found empty
abbrev pub stealing : Reaching → ℕ → Job → Reaching
stealing r k job = record r {
  stolen = r.stolen ++ job ∷ [];
  finds = raised k r.finds;
  steals = r.steals + 1;
  empty = false;
}

-- the reach found all 64 cells empty
abbrev pub stole_none : Reaching → Reaching
stole_none r = record r { finds = raised 64 r.finds; steals = r.steals + 1; empty = true }

-- what a pop tells: None where all 64 cells were found empty, else a job, and the cells before its own were
abbrev pub IsPopped : Owned → Option Job → Owned → Type 0
IsPopped old None new = new ≡ found_none old
IsPopped old (Some job) new = (k : ℕ) × (k < 64) × (new ≡ popping old k job)

-- what a steal tells: Empty where all 64 cells were found empty, else a job, and the cells before its own were
abbrev pub IsStolen : Reaching → Stolen → Reaching → Type 0
IsStolen old Empty new = new ≡ stole_none old
IsStolen old (Got job) new = (k : ℕ) × (k < 64) × (new ≡ stealing old k job)

-- the job that was stolen, if one was, is one of these
abbrev pub IfGot : Stolen → (Job → Type 0) → Type 0
IfGot Empty P = ⊤
IfGot (Got job) P = P job

-- the weight of the jobs that reaches have stolen
abbrev pub weight_stolen : (Job → ℕ) → List Reaching → ℕ
weight_stolen h reaches = sum_by (λ (r : Reaching). sum_by h r.stolen) reaches
