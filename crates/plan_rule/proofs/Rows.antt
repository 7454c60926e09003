-- Path numbers, keys, jobs and boxes of small yards.
use Rattle.std.proofs.Common.{◌≡◌, ℕ, List, [], ◌∷◌, Some, None, true, false, refl}
use Rattle.std.specs.Prelude.{pos}
use Rattle.shape_exact.specs.Yards.{PlainYard}
use Rattle.shape_exact.specs.declared.block.Block.{Block}
use Rattle.shape_exact.specs.declared.point.Point.{Point}
use Rattle.plan_rule.specs.declared.job.Job.{Job}
use Rattle.plan_rule.specs.Choices.{Choices}
use Rattle.plan_rule.specs.Plans.{total}
use Rattle.plan_rule.specs.Paths.{path, key}
use Rattle.plan_rule.specs.Jobs.{word, lower, upper}
use Rattle.plan_rule.specs.Boxes.{exact, exact_code}
use Rattle.plan_rule.specs.Bounds.{demand, used}
use Rattle.code_table.specs.Placements.{cost_on}
use Rattle.plan_rule.specs.Yards.{choices, capacity, taken, standing}

abbrev at : ℕ → ℕ → Point
at x y = record { x = pos x; y = pos y }

-- a block of two days, due on day 1, with weight 5
abbrev block : List ℕ → Block
block name = record {
  name = name;
  shape = at 0 0 ∷ at 3 0 ∷ at 3 3 ∷ at 0 3 ∷ [];
  turns = true ∷ false ∷ false ∷ false ∷ [];
  duration = 2;
  release = 0;
  due = 1;
  weight = 5;
  early = 0;
}

-- two squares of side 3 on a plate of 4 by 3, in 10 days
abbrev squares : PlainYard
squares = record {
  days = 10;
  plates = record { name = 80 ∷ []; width = 4; height = 3; pitch = 1; closed = [] } ∷ [];
  blocks = block (65 ∷ []) ∷ block (66 ∷ []) ∷ [];
  fixed = [];
}

-- a block on a plate of 3 by 2, due on day 1, one turn
abbrev small : List Point → ℕ → ℕ → Block
small shape duration weight = record {
  name = 65 ∷ [];
  shape = shape;
  turns = true ∷ false ∷ false ∷ false ∷ [];
  duration = duration;
  release = 0;
  due = 1;
  weight = weight;
  early = 0;
}

-- three blocks whose work does not fit two days
abbrev three : PlainYard
three = record {
  days = 10;
  plates = record { name = 80 ∷ []; width = 3; height = 2; pitch = 1; closed = [] } ∷ [];
  blocks =
      small (at 0 0 ∷ at 2 0 ∷ at 2 2 ∷ at 0 2 ∷ []) 2 2
      ∷ small (at 0 0 ∷ at 1 0 ∷ at 1 2 ∷ at 0 2 ∷ []) 2 3
      ∷ small (at 0 0 ∷ at 1 0 ∷ at 1 1 ∷ at 0 1 ∷ []) 1 4
      ∷ [];
  fixed = [];
}

demand_of_three : demand (choices three) [] 0 1 ≡ 13
unfolding choices
demand_of_three = refl

supply_of_three : (choices three).capacity 0 1 ≡ 12
unfolding choices capacity
supply_of_three = refl

-- the smallest block on day 0 takes its one cell once, and works no more
one_cell_taken : used (choices three) (exact 2 0 ∷ []) 0 1 ≡ 1
unfolding choices taken standing
one_cell_taken = refl

demand_without_the_smallest : demand (choices three) (exact 2 0 ∷ []) 0 1 ≡ 12
unfolding choices
demand_without_the_smallest = refl

-- two right triangles on one plate and one day, as drawn or turned by half: two codes each
abbrev triangle : Block
triangle = record {
  name = 65 ∷ [];
  shape = at 0 0 ∷ at 4 0 ∷ at 0 4 ∷ [];
  turns = true ∷ false ∷ true ∷ false ∷ [];
  duration = 1;
  release = 0;
  due = 0;
  weight = 1;
  early = 0;
}

abbrev triangles : PlainYard
triangles = record {
  days = 1;
  plates = record { name = 80 ∷ []; width = 4; height = 4; pitch = 1; closed = [] } ∷ [];
  blocks = triangle ∷ triangle ∷ [];
  fixed = [];
}

path_of_triangles : path (choices triangles) (0 ∷ 1 ∷ []) ≡ 1073741824
unfolding choices path
path_of_triangles = refl

eighteen_codes_each : (choices squares).counts ≡ 18 ∷ 18 ∷ []
unfolding choices
eighteen_codes_each = refl

second_waits : total (choices squares) (0 ∷ 4 ∷ []) ≡ 10
unfolding choices
second_waits = refl

path_of_second_waits : path (choices squares) (0 ∷ 4 ∷ []) ≡ 67108864
unfolding choices path
path_of_second_waits = refl

key_of_second_waits : key (choices squares) (0 ∷ 4 ∷ []) ≡ 43016781824
unfolding choices path
key_of_second_waits = refl

key_of_first_waits : key (choices squares) (4 ∷ 0 ∷ []) ≡ 44023414784
unfolding choices path
key_of_first_waits = refl

-- blocks with so many codes, and nothing else to tell them by
abbrev of_counts : List ℕ → Choices
of_counts counts = record {
  counts = counts;
  cost = λ b code. 0;
  Clash = λ a x b y. ⊥;
  Meets = λ b x i. ⊥;
  days = 1;
  release = λ b. 0;
  due = λ b. 0;
  weight = λ b. 0;
  work = λ b. 0;
  capacity = λ first last. 0;
  taken = λ first last b code. 0;
  standing = λ first last. 0;
}

two_triangles : path (of_counts (2 ∷ 2 ∷ [])) (0 ∷ 1 ∷ []) ≡ 1073741824
unfolding path
two_triangles = refl

-- a block of one code has no bit
one_code : path (of_counts (1 ∷ 2 ∷ 1 ∷ 2 ∷ [])) (0 ∷ 0 ∷ 0 ∷ 1 ∷ []) ≡ path (of_counts (2 ∷ 2 ∷ [])) (0 ∷ 1 ∷ [])
unfolding path
one_code = refl

-- of seven blocks of 32 codes the seventh has two bits left, so different plans share a path number
abbrev seven : Choices
seven = of_counts (32 ∷ 32 ∷ 32 ∷ 32 ∷ 32 ∷ 32 ∷ 32 ∷ [])

bits_run_out : path seven (0 ∷ 0 ∷ 0 ∷ 0 ∷ 0 ∷ 0 ∷ 8 ∷ []) ≡ path seven (0 ∷ 0 ∷ 0 ∷ 0 ∷ 0 ∷ 0 ∷ 15 ∷ [])
unfolding path
bits_run_out = refl

last_bit : path seven (0 ∷ 0 ∷ 0 ∷ 0 ∷ 0 ∷ 0 ∷ 8 ∷ []) ≡ 1
unfolding path
last_bit = refl

abbrev root : Job
root = record { front = 0; length = 0 }

-- the first and the last plan of a job's interval, on two blocks of 18 codes, and the plans beside them
abbrev two : Choices
two = of_counts (18 ∷ 18 ∷ [])

-- job (0, 4): code 0 of the first block, and every code of the second
last_of_code_0 : path two (0 ∷ 17 ∷ []) ≡ 260046848
unfolding path
last_of_code_0 = refl

first_of_code_1 : path two (1 ∷ 0 ∷ []) ≡ 268435456
unfolding path
first_of_code_1 = refl

-- job (134217728, 5): code 0, and the codes 9 to 17
first_of_upper_codes : path two (0 ∷ 9 ∷ []) ≡ 134217728
unfolding path
first_of_upper_codes = refl

last_of_lower_codes : path two (0 ∷ 8 ∷ []) ≡ 125829120
unfolding path
last_of_lower_codes = refl

-- job (67108864, 8) has the plan 0, 4 alone, and job (75497472, 9) none
next_after_code_4 : path two (0 ∷ 5 ∷ []) ≡ 83886080
unfolding path
next_after_code_4 = refl

lower_half_of_root : word (lower root) ≡ 1
lower_half_of_root = refl

upper_half_of_root : word (upper root) ≡ 137438953473
upper_half_of_root = refl

-- a box fixes a block by a literal of one code alone
fixes_one : exact_code (exact 0 7 ∷ record { block = 2; lo = 3; hi = 5 } ∷ []) 0 ≡ Some 7
fixes_one = refl

fixes_no_range : exact_code (exact 0 7 ∷ record { block = 2; lo = 3; hi = 5 } ∷ []) 2 ≡ None
fixes_no_range = refl

-- the same three blocks with the smallest due a day later, and one cell of the plate taken on day 0
abbrev pinned : PlainYard
pinned = record {
  days = 10;
  plates = record { name = 80 ∷ []; width = 3; height = 2; pitch = 1; closed = [] } ∷ [];
  blocks =
      small (at 0 0 ∷ at 2 0 ∷ at 2 2 ∷ at 0 2 ∷ []) 2 2
      ∷ small (at 0 0 ∷ at 1 0 ∷ at 1 2 ∷ at 0 2 ∷ []) 2 3
      ∷ record {
        name = 65 ∷ [];
        shape = at 0 0 ∷ at 1 0 ∷ at 1 1 ∷ at 0 1 ∷ [];
        turns = true ∷ false ∷ false ∷ false ∷ [];
        duration = 1;
        release = 0;
        due = 2;
        weight = 4;
        early = 0;
      }
      ∷ [];
  fixed = record { plate = 0; shape = at 0 0 ∷ at 1 0 ∷ at 1 1 ∷ at 0 1 ∷ []; x = 0; y = 0; from = 0; to = 0 } ∷ [];
}

demand_of_pinned : demand (choices pinned) [] 0 1 ≡ 12
unfolding choices
demand_of_pinned = refl

-- the supply is 12 less what the piece takes
piece_takes_one : used (choices pinned) [] 0 1 ≡ 1
unfolding choices standing
piece_takes_one = refl

-- a piece takes nothing after its days
piece_takes_none : used (choices pinned) [] 1 5 ≡ 0
unfolding choices standing
piece_takes_none = refl

-- a block that costs 2 for each day before its due day 5 and 1 for each day after it
abbrev soon : Block
soon = record {
  name = 65 ∷ [];
  shape = at 0 0 ∷ at 2 0 ∷ at 2 2 ∷ at 0 2 ∷ [];
  turns = true ∷ false ∷ false ∷ false ∷ [];
  duration = 2;
  release = 0;
  due = 5;
  weight = 1;
  early = 2;
}

early_costs : cost_on soon 3 ≡ 4
early_costs = refl

due_costs_nothing : cost_on soon 5 ≡ 0
due_costs_nothing = refl

late_costs : cost_on soon 7 ≡ 2
late_costs = refl
