-- What the first bits of a path number leave to choose.
use Rattle.std.specs.Prelude.{◌≡◌, ◌≢◌, ℕ, suc, ◌+◌, ◌*◌, ◌^◌, ◌<◌, ◌≤◌, Bool, true, List, [], ◌∷◌, ◌++◌, length, drop, Option, Some, None, ◌⊎◌, if◌then◌else◌}
use Rattle.plan_rule.specs.declared.region.Left.{Left}
use Rattle.plan_rule.specs.Choices.{Choices, blocks, count}
use Rattle.plan_rule.specs.Plans.{IsPlan, code_of}
use Rattle.plan_rule.specs.Paths.{halvings, all_halvings, number_of, path}

-- codes for the blocks that are left, below their counts
abbrev pub AreCodes : List ℕ → List ℕ → Type 0
AreCodes [] [] = Unit {0}
AreCodes [] (code ∷ q) = ⊥
AreCodes (count ∷ counts) [] = ⊥
AreCodes (count ∷ counts) (code ∷ q) = (code < count) × AreCodes counts q

-- the next block's code is in the range, where a block is left
abbrev pub InRange : ℕ → ℕ → List ℕ → Type 0
InRange lo hi [] = Unit {0}
InRange lo hi (code ∷ q) = (lo ≤ code) × (code < hi)

-- the bits of the codes that are left: at most m of the next block, within the range, and at most n of each later one
abbrev pub tail_of : ℕ → ℕ → ℕ → ℕ → List ℕ → List ℕ → List Bool
tail_of n m lo hi [] q = []
tail_of n m lo hi (count ∷ counts) [] = []
tail_of n m lo hi (count ∷ counts) (code ∷ q) = halvings m lo hi code ++ all_halvings n counts q

-- the plans of an interval are those with this front and a next code in this range; `value` is the path number
pub record IsPart (value : List ℕ → ℕ) (all : List ℕ) (n front w : ℕ) (exact : List ℕ) (m lo hi : ℕ) (counts : List ℕ) : Type 0 where
  pub inside : (q : List ℕ) → AreCodes counts q → InRange lo hi q
      → value (exact ++ q) ≡ front + number_of w (tail_of n m lo hi counts q)
  pub only : (p : List ℕ) → AreCodes all p → front ≤ value p → value p < front + 2 ^ w
      → (q : List ℕ) × (p ≡ exact ++ q) × AreCodes counts q × InRange lo hi q

-- each block has a code
abbrev pub HasCodes : Choices → Type 0
HasCodes c = (b : ℕ) → b < blocks c → 0 < count c b

-- the range is some of the next block's codes; it is empty where no block is left
abbrev pub IsRange : Choices → Left → Type 0
IsRange c left =
    ((length left.exact < blocks c) × (left.lo < left.hi) × (left.hi ≤ count c (length left.exact)))
    ⊎ ((length left.exact ≡ blocks c) × (left.lo ≡ 0) × (left.hi ≡ 0))

-- the range has more than one code, where a block is left
abbrev pub IsSettled : Left → Type 0
IsSettled left = left.hi ≢ left.lo + 1

-- the plans with a path number among the 2 ^ w from the front on are those that the range leaves
pub record IsLeft (c : Choices) (front w : ℕ) (left : Left) : Type 0 where
  pub m : ℕ
  pub enough : w ≤ m
  pub few : w ≤ 32
  pub are_codes : (b : ℕ) → b < length left.exact → code_of left.exact b < count c b
  pub part : IsPart (path c) c.counts 32 front w left.exact m left.lo left.hi (drop (length left.exact) c.counts)

-- what the next bit leaves; none where it leaves no plan
abbrev pub IsHalf : Choices → ℕ → ℕ → Bool → Option Left → Type 0
IsHalf c front w upper (Some half) = IsLeft c (if upper then front + 2 ^ w else front) w half
IsHalf c front w upper None =
    (upper ≡ true) × ((q : List ℕ) → IsPlan c q → front + 2 ^ w ≤ path c q → path c q < front + 2 ^ w * 2 → ⊥)

-- what was left of the plans of an interval is left still
abbrev pub KeepsLeft : Choices → Left → Left → Type 0
KeepsLeft c old new = (front w : ℕ) → IsLeft c front w old → IsLeft c front w new

-- the half is what the next bit leaves of the plans of an interval
abbrev pub HalvesLeft : Choices → Bool → Left → Option Left → Type 0
HalvesLeft c upper old half = (front w : ℕ) → IsLeft c front (suc w) old → IsHalf c front w upper half
