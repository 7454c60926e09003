-- Bounds of a box, and when one refutes it.
use Rattle.std.specs.Option.{option_map_or}
use Rattle.common_lists.specs.Each.{sum_below}
use Rattle.std.specs.Prelude.{◌-◌, ◌*◌, Bool, true, false, ◌&&◌, nat_le, is_none, if◌then◌else◌, ◌≡◌, ℕ, zero, suc, ◌+◌, ◌<◌, ◌≤◌, List, Option, Some, None, ◌⊎◌, Any}
use Rattle.plan_rule.specs.declared.literal.Literal.{Literal}
use Rattle.plan_rule.specs.Choices.{Choices, MeetsSome, blocks, count}
use Rattle.plan_rule.specs.Plans.{code_of, total}
use Rattle.plan_rule.specs.Boxes.{HasExact, exact_code}

-- the least value of the numbers with a property; none where no number has it
abbrev pub IsLeastOf : (ℕ → Type 0) → (ℕ → ℕ) → Option ℕ → Type 0
IsLeastOf P value None = (x : ℕ) → P x → ⊥
IsLeastOf P value (Some n) = ((x : ℕ) × P x × (value x ≡ n)) × ((x : ℕ) → P x → n ≤ value x)

-- the sum, over the blocks below n, of the least cost of the codes that a block may take
abbrev pub IsSumOfLeast : (ℕ → ℕ → Type 0) → (ℕ → ℕ → ℕ) → ℕ → ℕ → Type 0
IsSumOfLeast May cost zero k = k ≡ 0
IsSumOfLeast May cost (suc n) k =
    (s : ℕ) × (m : ℕ) × IsSumOfLeast May cost n s × IsLeastOf (May n) (cost n) (Some m) × (k ≡ s + m)

-- that sum; none, which stands for Never, where some block may take no code
abbrev pub IsBound : (ℕ → ℕ → Type 0) → (ℕ → ℕ → ℕ) → ℕ → Option ℕ → Type 0
IsBound May cost n None = (b : ℕ) × (b < n) × ((code : ℕ) → May b code → ⊥)
IsBound May cost n (Some k) = IsSumOfLeast May cost n k

-- a code of the block; where the block is exact in the box, its exact code
abbrev pub MayTake : Choices → List Literal → ℕ → ℕ → Type 0
MayTake c box b code = (code < count c b) × ((d : ℕ) → HasExact box b d → code ≡ d)

-- besides, where the block is not exact in the box, the code clashes with no exact code of the box, and meets no piece
abbrev pub MayFit : Choices → List Literal → ℕ → ℕ → Type 0
MayFit c box b code =
    MayTake c box b code
    × (exact_code box b ≡ None → (a d : ℕ) → HasExact box a d → c.Clash a d b code → ⊥)
    × (exact_code box b ≡ None → MeetsSome c b code → ⊥)

-- the number, or Never, that is the base of the box
abbrev pub IsBase : Choices → List Literal → Option ℕ → Type 0
IsBase c box r = IsBound (MayTake c box) c.cost (blocks c) r

-- the number, or Never, that is the fit of the box
abbrev pub IsFit : Choices → List Literal → Option ℕ → Type 0
IsFit c box r = IsBound (MayFit c box) c.cost (blocks c) r

-- the block is not exact, is released in the window or later, and is due in it or earlier
abbrev pub presses : Choices → List Literal → ℕ → ℕ → ℕ → Bool
presses c box first last b = is_none (exact_code box b) && nat_le first (c.release b) && nat_le (c.due b) last

-- the work of the blocks that press
abbrev pub demand : Choices → List Literal → ℕ → ℕ → ℕ
demand c box first last = sum_below (blocks c) (λ b. if presses c box first last b then c.work b else 0)

-- what the pieces and the exact codes take in the window
abbrev pub used : Choices → List Literal → ℕ → ℕ → ℕ
used c box first last = c.standing first last + sum_below (blocks c) (λ b. option_map_or (c.taken first last b) (exact_code box b) 0)

-- what a block that ends after the window costs at least, above its least own cost
abbrev pub IsRaise : Choices → ℕ → ℕ → ℕ → Type 0
IsRaise c last b v =
    (m : ℕ) × IsLeastOf (λ code. code < count c b) (c.cost b) (Some m) × (v ≡ c.weight b * (last + 1 - c.due b) - m)

-- the window holds the work, or no block presses
abbrev pub IsCalm : Choices → List Literal → ℕ → ℕ → Type 0
IsCalm c box first last =
    ((b : ℕ) → b < blocks c → presses c box first last b ≡ false)
    ⊎ (demand c box first last + used c box first last ≤ c.capacity first last)

-- a block presses, and the window does not hold the work
pub record IsTight (c : Choices) (box : List Literal) (first last : ℕ) : Type 0 where
  pub some : (b : ℕ) × (b < blocks c) × (presses c box first last b ≡ true)
  pub above : c.capacity first last < demand c box first last + used c box first last

-- the least raise of the blocks that press
abbrev pub IsLeastRaise : Choices → List Literal → ℕ → ℕ → ℕ → Type 0
IsLeastRaise c box first last v =
    ((b : ℕ) × (b < blocks c) × (presses c box first last b ≡ true) × IsRaise c last b v)
    × ((b w : ℕ) → b < blocks c → presses c box first last b ≡ true → IsRaise c last b w → v ≤ w)

-- the base, and in a tight window the least raise besides; Never where the base is, and in a tight window that ends with the last day
abbrev pub IsEnergy : Choices → ℕ → ℕ → List Literal → Option ℕ → Type 0
IsEnergy c first last box None = IsBase c box None ⊎ (IsTight c box first last × (last + 1 ≡ c.days))
IsEnergy c first last box (Some r) =
    (k : ℕ) × IsBase c box (Some k)
    × ((IsCalm c box first last × (r ≡ k))
    ⊎ (IsTight c box first last × (last + 1 < c.days) × ((v : ℕ) × IsLeastRaise c box first last v × (r ≡ k + v))))

-- among n blocks, the first ones are exact in the box with the codes of the plan p, up to one whose codes in the box are
-- above p's, or every block is exact so; then every plan in it is p, or lexicographically after it
abbrev pub IsBehindOn : ℕ → List Literal → List ℕ → Type 0
IsBehindOn n box p =
    ((j : ℕ) × (j < n) × ((b : ℕ) → b < j → HasExact box b (code_of p b)) × Any (λ l. (l.block ≡ j) × (code_of p j < l.lo)) box)
    ⊎ ((b : ℕ) → b < n → HasExact box b (code_of p b))

-- the same among all blocks
abbrev pub IsBehind : Choices → List Literal → List ℕ → Type 0
IsBehind c box p = IsBehindOn (blocks c) box p

-- the bound shows that no feasible plan of the box is before the plan, or that there is none
abbrev pub Refutes : Choices → Option (List ℕ) → List Literal → Option ℕ → Type 0
Refutes c t box None = Unit {0}
Refutes c None box (Some k) = ⊥
Refutes c (Some p) box (Some k) = (total c p < k) ⊎ ((k ≡ total c p) × IsBehind c box p)

-- the bound is at most the number; Never is above every number
abbrev pub IsAtMost : Option ℕ → ℕ → Type 0
IsAtMost None m = ⊥
IsAtMost (Some k) m = k ≤ m
