-- A bound above a bar refutes its box against every answer within the bar, and holds no plan at or below it.
use Rattle.std.proofs.Common.{ℕ, ◌^◌, ◌<◌, List, Option, Some, None, inl, arith}
use Rattle.std.proofs.lemmas.Nat.{le-div}
use Rattle.plan_rule.specs.declared.literal.Literal.{Literal}
use Rattle.plan_rule.specs.Choices.{Choices}
use Rattle.plan_rule.specs.Plans.{total}
use Rattle.plan_rule.specs.Paths.{key, IsWithin, IsAboveBar}
use Rattle.plan_rule.specs.Bounds.{Refutes, IsAtMost}

-- a bound that fits a u32
abbrev pub FitsBound : Option ℕ → Type 0
FitsBound None = Unit {0}
FitsBound (Some k) = k < 2 ^ 32

pub refutes_within : (c : Choices) (t : Option (List ℕ)) (box : List Literal) (r : Option ℕ) (bar : ℕ)
    → IsWithin c t bar → FitsBound r → IsAboveBar r bar → Refutes c t box r
refutes_within c t box None bar w f a = tt
refutes_within c None box (Some k) bar w f a = absurd (omega arith)
refutes_within c (Some p) box (Some k) bar w f a =
    let low = w.1 in let h = le-div (total c p) bar (2 ^ 32) (omega arith) (omega arith) in inl (omega arith)

-- a plan that the bound does not exceed has a key above the bar
pub key_above : (c : Choices) (q : List ℕ) (r : Option ℕ) (bar : ℕ) → IsAtMost r (total c q) → IsAboveBar r bar → bar < key c q
key_above c q None bar m a = absurd m
key_above c q (Some k) bar m a = omega arith
