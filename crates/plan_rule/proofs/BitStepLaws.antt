-- One bit of a job's front: whether it is 1, and what is left of the front.
use Rattle.std.proofs.Common.{◌≡◌, ℕ, ◌+◌, ◌-◌, ◌*◌, ◌%◌, ◌^◌, ◌<◌, ◌≤◌, List, Bool, true, false, ◌⊎◌, ap, ◌∙◌, subst, inl, inr, arith}
use Rattle.std.specs.Prelude.{if◌then◌else◌}
use Rattle.std.proofs.lemmas.Nat.{pow_pos}
use Rattle.common_lists.proofs.NumberLaws.{power_step}
use Rattle.plan_rule.specs.declared.job.Job.{Job}
use Rattle.plan_rule.specs.declared.region.Left.{Left}
use Rattle.plan_rule.specs.Choices.{Choices}
use Rattle.plan_rule.specs.Plans.{IsPlan}
use Rattle.plan_rule.specs.Paths.{path, IsInRegion}
use Rattle.plan_rule.specs.Fronts.{IsLeft}
use Rattle.plan_rule.proofs.MultipleLaws.{multiple_room, multiple_less, power_multiple}

-- the bit of value p is 1, and is taken from the rest; or it is 0
abbrev pub IsBit : ℕ → ℕ → ℕ → Bool → Type 0
IsBit p rest next upper =
    ((upper ≡ true) × (p ≤ rest) × (next ≡ rest - p)) ⊎ ((upper ≡ false) × (rest < p) × (next ≡ rest))

pub next_left : (c : Choices) (front rest next t p : ℕ) (upper : Bool) (half : Left) → t < 32 → rest ≤ front → p ≡ 2 ^ (31 - t) → IsBit p rest next upper
    → IsLeft c (if upper then front - rest + 2 ^ (31 - t) else front - rest) (31 - t) half → IsLeft c (front - next) (32 - (t + 1)) half
next_left c front rest next t p upper half l low e (inl (up, le, is)) left =
    let one : IsLeft c (front - rest + 2 ^ (31 - t)) (31 - t) half = subst (λ u. IsLeft c (if u then front - rest + 2 ^ (31 - t) else front - rest) (31 - t) half) up left in
    subst (λ f. IsLeft c f (32 - (t + 1)) half) (let g : front - rest + 2 ^ (31 - t) ≡ front - next = omega arith in g)
    (subst (λ w. IsLeft c (front - rest + 2 ^ (31 - t)) w half) (let g : 31 - t ≡ 32 - (t + 1) = omega arith in g) one)
next_left c front rest next t p upper half l low e (inr (down, less, is)) left =
    let one : IsLeft c (front - rest) (31 - t) half = subst (λ u. IsLeft c (if u then front - rest + 2 ^ (31 - t) else front - rest) (31 - t) half) down left in
    subst (λ f. IsLeft c f (32 - (t + 1)) half) (let g : front - rest ≡ front - next = omega arith in g)
    (subst (λ w. IsLeft c (front - rest) w half) (let g : 31 - t ≡ 32 - (t + 1) = omega arith in g) one)

pub next_rest : (front rest next t p length : ℕ) (upper : Bool) → t < length → length ≤ 32 → rest ≤ front → rest < 2 ^ (32 - t) → rest % 2 ^ (32 - length) ≡ 0
    → p ≡ 2 ^ (31 - t) → IsBit p rest next upper
    → (next ≤ front) × (next < 2 ^ (32 - (t + 1))) × (next % 2 ^ (32 - length) ≡ 0)
next_rest front rest next t p length upper l m low short whole e (inl (up, le, is)) =
    let twice = power_step t (omega arith) in
    let same : 2 ^ (31 - t) ≡ 2 ^ (32 - (t + 1)) = ap (λ n. 2 ^ n) (let g : 31 - t ≡ 32 - (t + 1) = omega arith in g) in
    let power : p % 2 ^ (32 - length) ≡ 0 = ap (λ p. p % 2 ^ (32 - length)) e ∙ power_multiple (32 - length) (31 - t) (omega arith) in
    (omega arith, omega arith, ap (λ n. n % 2 ^ (32 - length)) is ∙ multiple_less rest p (2 ^ (32 - length)) (pow_pos (32 - length)) whole power le)
next_rest front rest next t p length upper l m low short whole e (inr (down, less, is)) =
    let same : 2 ^ (31 - t) ≡ 2 ^ (32 - (t + 1)) = ap (λ n. 2 ^ n) (let g : 31 - t ≡ 32 - (t + 1) = omega arith in g) in
    (omega arith, omega arith, ap (λ n. n % 2 ^ (32 - length)) is ∙ whole)

-- a bit that is 1 past the last block leaves no plan
pub none_left : (c : Choices) (job : Job) (rest t p : ℕ) → t < job.length → job.length ≤ 32 → rest ≤ job.front → rest < 2 ^ (32 - t) → rest % 2 ^ (32 - job.length) ≡ 0
    → p ≡ 2 ^ (31 - t) → p ≤ rest
    → ((q : List ℕ) → IsPlan c q → job.front - rest + 2 ^ (31 - t) ≤ path c q → path c q < job.front - rest + 2 ^ (31 - t) * 2 → ⊥)
    → (q : List ℕ) → IsInRegion c job q → ⊥
none_left c job rest t p l m low short whole e le none q (plan, a, b) =
    let twice = power_step t (omega arith) in
    let room = multiple_room rest (2 ^ (32 - t)) (2 ^ (32 - job.length)) whole (power_multiple (32 - job.length) (32 - t) (omega arith)) short in
    none q plan (omega arith) (omega arith)
