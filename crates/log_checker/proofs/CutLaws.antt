-- Which codes of a block the base refutes beside a side.
use Rattle.std.proofs.Common.{◌≡◌, ℕ, ◌+◌, ◌<◌, List, Option, Some, None, subst, inl, inr, arith}
use Rattle.plan_rule.specs.declared.literal.Literal.{Literal}
use Rattle.plan_rule.specs.Choices.{Choices, blocks}
use Rattle.plan_rule.specs.Plans.{total}
use Rattle.plan_rule.specs.Boxes.{exact, with_literal}
use Rattle.plan_rule.specs.Bounds.{IsBase, MayTake, Refutes}
use Rattle.plan_rule.proofs.UniqueLaws.{bound_unique}
use Rattle.log_checker.specs.declared.cut.Cut.TheVariants.{Every, Nothing, Above}
use Rattle.log_checker.specs.Cuts.{IsRefuted, IsCut, IsRest}
use Rattle.log_checker.specs.Ties.{IsFirstTie}

-- the base with a code is one
refuted_by : (c : Choices) (t : Option (List ℕ)) (side : List Literal) (b code : ℕ) (k : Option ℕ) → IsBase c (with_literal side (exact b code)) k
    → IsRefuted c t side b code → Refutes c t (with_literal side (exact b code)) k
refuted_by c t side b code k is (j, base, ref) =
    subst (Refutes c t (with_literal side (exact b code)))
    (bound_unique (MayTake c (with_literal side (exact b code))) c.cost (blocks c) j k base is) ref

-- where another block has no code, each code is refuted
pub every_never : (c : Choices) (t : Option (List ℕ)) (side : List Literal) (b : ℕ) → IsRest c side b None → IsCut c t side b Every
every_never c t side b rest code is = (λ t. (None, rest code is, tt), λ h. tt)

-- where no plan is claimed and each block has a code, none is
pub nothing_cut : (c : Choices) (side : List Literal) (b rest : ℕ) → IsRest c side b (Some rest) → IsCut c None side b Nothing
nothing_cut c side b rest is code exist =
    (λ none. absurd none, λ h. refuted_by c None side b code (Some (rest + c.cost b code)) (is code exist) h)

-- where the other blocks alone cost more than the plan, each code is
pub every_above : (c : Choices) (p : List ℕ) (side : List Literal) (b rest : ℕ) → IsRest c side b (Some rest) → total c p < rest → IsCut c (Some p) side b Every
every_above c p side b rest is less code exist = (λ t. (Some (rest + c.cost b code), is code exist, inl (omega arith)), λ h. tt)

-- else those that cost more than what is left, or as much, where the box is behind the plan
pub above_cut : (c : Choices) (p : List ℕ) (side : List Literal) (b rest limit tie : ℕ) → IsRest c side b (Some rest) → rest + limit ≡ total c p
    → IsFirstTie c side p b tie → IsCut c (Some p) side b (Above limit tie)
above_cut c p side b rest limit tie is left ties code exist = (
  λ taken. (
    Some (rest + c.cost b code),
    is code exist,
    elim taken [
      | inl more ↦ inl (omega arith)
      | inr same ↦ let e = same.0 in inr (omega arith, (ties code exist).0 same.1)
    ],
  ),
  λ h. elim (refuted_by c (Some p) side b code (Some (rest + c.cost b code)) (is code exist) h) [
    | inl more ↦ inl (omega arith)
    | inr same ↦ let e = same.0 in inr (omega arith, (ties code exist).1 same.1)
  ],
)
