-- For which block a box waits as codes are entered. No public clause speaks of this.
use Rattle.std.specs.Prelude.{ℕ, suc, ◌<◌, ◌≤◌, List, [], ◌∷◌, length, slice_index, slice_index_or, Bool, cond, ◌&&◌, ◌||◌, nat_lt, nat_le, nat_eq}
use Rattle.plan_rule.specs.declared.literal.Literal.{Literal}
use Rattle.nogood_store.specs.declared.nogood.Nogood.{Nogood}

-- the box that stands for one past the end
abbrev pub no_nogood : Nogood
no_nogood = record { part = []; tag = 0 }

-- the box of an entry
abbrev pub box_of : List Nogood → ℕ → List Literal
box_of list e = (slice_index_or list e no_nogood).part

-- the tag of an entry
abbrev pub tag_of : List Nogood → ℕ → ℕ
tag_of list e = (slice_index_or list e no_nogood).tag

-- whether the literal is on one of the first blocks and holds the code of its block
abbrev pub is_matched : List ℕ → Literal → Bool
is_matched codes l = nat_lt l.block (length codes) && (nat_le l.lo (slice_index codes l.block) && nat_lt (slice_index codes l.block) l.hi)

-- the block of the first literal that is not matched; 32 where all are
abbrev pub waits : List ℕ → List Literal → ℕ
waits codes [] = 32
waits codes (l ∷ box) = cond (is_matched codes l) (waits codes box) l.block

-- the blocks rise, from `low` on, and are below 32
abbrev pub Rising : ℕ → List Literal → Type 0
Rising low [] = Unit {0}
Rising low (l ∷ box) = (low ≤ l.block) × (l.block < 32) × Rising (suc l.block) box

-- whether a literal is not matched, where blocks before b are and block b has this code
abbrev pub stops : ℕ → ℕ → Literal → Bool
stops b code l = nat_lt b l.block || (nat_eq l.block b && (nat_lt code l.lo || nat_le l.hi code))

-- the block of the first literal that is not matched then
abbrev pub past : ℕ → ℕ → List Literal → ℕ
past b code [] = 32
past b code (l ∷ box) = cond (stops b code l) l.block (past b code box)
