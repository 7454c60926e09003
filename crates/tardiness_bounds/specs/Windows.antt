-- Windows of days: what they hold, and what is put into them.
use Rattle.std.specs.Prelude.{◌≡◌, ℕ, ◌+◌, ◌*◌, ◌<◌, ◌≤◌, true, false, List, Option, Some, None, slice_get, if◌then◌else◌}
use Rattle.std.specs.Option.{option_map_or}
use Rattle.shape_exact.specs.Yards.{PlainYard}
use Rattle.plan_rule.specs.declared.literal.Literal.{Literal}
use Rattle.plan_rule.specs.Boxes.{exact_code}
use Rattle.plan_rule.specs.Choices.{Choices, blocks}
use Rattle.plan_rule.specs.Bounds.{IsRaise, demand, presses, used}
use Rattle.plan_rule.specs.Yards.{plate_days, stood_by}

-- the cells of the plate with this number, once for each open day in a window
abbrev pub plate_room : PlainYard → ℕ → ℕ → ℕ → ℕ
plate_room yard first last p =
    option_map_or (λ plate. plate_days yard first last plate * (plate.height * plate.width)) (slice_get yard.plates p) 0

-- what the piece with this number takes in a window
abbrev pub stood_at : PlainYard → ℕ → ℕ → ℕ → ℕ
stood_at yard first last i = option_map_or (stood_by yard first last) (slice_get yard.fixed i) 0

-- the work of the block, where it presses
abbrev pub work_in : Choices → List Literal → ℕ → ℕ → ℕ → ℕ
work_in c side first last b = if presses c side first last b then c.work b else 0

-- what the code takes in the window that the side sets the block to, if it does
abbrev pub used_by : Choices → List Literal → ℕ → ℕ → ℕ → ℕ
used_by c side first last b = option_map_or (c.taken first last b) (exact_code side b) 0

-- the window holds the work of the blocks that press, beside what the pieces and the exact codes take
abbrev pub HasRoom : Choices → List Literal → ℕ → ℕ → Type 0
HasRoom c side first last = demand c side first last + used c side first last ≤ c.capacity first last

-- the raise of the block, where it presses
abbrev pub IsRaiseIn : Choices → List Literal → ℕ → ℕ → ℕ → Option ℕ → Type 0
IsRaiseIn c side first last b None = presses c side first last b ≡ false
IsRaiseIn c side first last b (Some v) = (presses c side first last b ≡ true) × IsRaise c last b v

-- the least raise of the first n blocks that press; none where none of them presses
abbrev pub IsLeastRaiseBelow : Choices → List Literal → ℕ → ℕ → ℕ → Option ℕ → Type 0
IsLeastRaiseBelow c side first last n None = (b : ℕ) → b < n → presses c side first last b ≡ false
IsLeastRaiseBelow c side first last n (Some v) =
    ((b : ℕ) × (b < n) × (presses c side first last b ≡ true) × IsRaise c last b v)
    × ((b w : ℕ) → b < n → presses c side first last b ≡ true → IsRaise c last b w → v ≤ w)

-- the least raise of all blocks that press
abbrev pub IsLeastRaiseOf : Choices → List Literal → ℕ → ℕ → Option ℕ → Type 0
IsLeastRaiseOf c side first last o = IsLeastRaiseBelow c side first last (blocks c) o
