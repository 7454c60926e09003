-- What an owner or a reach knows, and how a step changes it.
use Rattle.std.specs.Prelude.{ℕ, zero, suc, ◌+◌, ◌-◌, ◌/◌, ◌%◌, ◌==◌, Bool, true, false, List, [], ◌∷◌, ◌++◌, length, replicate, ◌&&◌, if◌then◌else◌, nat_lt, slice_index, slice_set}
use Rattle.plan_rule.specs.declared.job.Job.{Job}
use Rattle.steal_rule.specs.declared.rule.View.{View}

-- no find in any of the 64 cells
abbrev pub no_finds : List ℕ
no_finds = replicate 64 0

-- the job with this word
abbrev pub job_of : ℕ → Job
job_of word = record { front = word / 64; length = word % 64 }

-- one that has taken no step yet
abbrev pub newcomer : Bool → ℕ → View
newcomer owns parts = record {
  live = true;
  owns = owns;
  parts = parts;
  pushed = [];
  gone = [];
  emptied = [];
  finds = no_finds;
  looks = 0;
  idle = false;
}

-- the owner of a new deque
abbrev pub opening : View
opening = newcomer true 16

-- a new reach
abbrev pub reach_of : ℕ → View
reach_of parts = newcomer false parts

-- a reach that was taken in
abbrev pub spent : View
spent = record {
  live = false;
  owns = false;
  parts = 0;
  pushed = [];
  gone = [];
  emptied = [];
  finds = [];
  looks = 0;
  idle = false;
}

-- n parts were given away
abbrev pub without_parts : View → ℕ → View
without_parts v n = record v { parts = v.parts - n }

-- the owner takes in a reach
abbrev pub gathered : View → View → View
gathered v w = record v { parts = v.parts + w.parts; emptied = v.emptied ++ w.emptied }

-- a job was pushed
abbrev pub filled : View → Job → View
filled v job = record v { pushed = v.pushed ++ job ∷ []; idle = false }

-- the cell held a job, which ends the look
abbrev pub took : ℕ → Job → View → View
took k job v = record v { emptied = v.emptied ++ (k, job) ∷ []; looks = v.looks + 1; idle = false }

-- the cells that the owner has pushed to and found empty, with one more
abbrev pub gone_after : View → ℕ → List ℕ
gone_after v k = if v.owns && nat_lt k (length v.pushed) then v.gone ++ k ∷ [] else v.gone

-- the cell was found empty; after the last cell the look has found none
abbrev pub passed : ℕ → View → View
passed k v = record v {
  gone = gone_after v k;
  finds = slice_set v.finds k (slice_index v.finds k + 1);
  looks = if k == 63 then v.looks + 1 else v.looks;
  idle = if k == 63 then true else v.idle;
}

-- the cells below k were found empty, one after another
unfoldable pub swept : ℕ → View → View
swept zero v = v
swept (suc k) v = passed k (swept k v)
