-- Days that are marked for the blocks that are not exact in a box.
use Rattle.std.proofs.Common.{◌≡◌, ℕ, ◌+◌, ◌<◌, List, Some, None, Bool, true, false, get_or, length, sym, ap, ◌∙◌, subst, inl, inr, arith}
use Rattle.std.specs.Prelude.{◌↔◌}
use Rattle.std.proofs.lemmas.Bool.{cases_lt, cases_order, false≢true}
use Rattle.std.proofs.lemmas.Option.{none-some}
use Rattle.std.proofs.Math.ListN.{set}
use Rattle.std.proofs.lemmas.List.{get_or-set_other, get_or-set_same}
use Rattle.plan_rule.specs.declared.literal.Literal.{Literal}
use Rattle.plan_rule.specs.Choices.{Choices}
use Rattle.plan_rule.specs.Boxes.{exact_code}

-- one of the first n blocks is not exact, and its figure is this day
abbrev pub HasBlock : Choices → List Literal → (ℕ → ℕ) → ℕ → ℕ → Type 0
HasBlock c box figure n d = (b : ℕ) × (b < n) × (exact_code box b ≡ None) × (figure b ≡ d)

pub mark_none : (c : Choices) (box : List Literal) (figure : ℕ → ℕ) (marks : List Bool) → ((d : ℕ) → d < 400 → get_or marks d false ≡ false)
    → (d : ℕ) → d < 400 → (get_or marks d false ≡ true) ↔ HasBlock c box figure 0 d
mark_none c box figure marks none d l = (
  λ t. absurd (false≢true (sym (none d l) ∙ t)),
  λ h. let (b, below, free, is) = h in absurd (omega arith),
)

-- a block that is not exact
pub mark_more : (c : Choices) (box : List Literal) (figure : ℕ → ℕ) (n at : ℕ) (marks : List Bool) → exact_code box n ≡ None → figure n ≡ at → length marks ≡ 400 → at < 400
    → ((d : ℕ) → d < 400 → (get_or marks d false ≡ true) ↔ HasBlock c box figure n d)
    → (d : ℕ) → d < 400 → (get_or (set marks at true) d false ≡ true) ↔ HasBlock c box figure (n + 1) d
mark_more c box figure n at marks free is long small h d l = elim (cases_order d at) [
  | inl same ↦ (
    λ t. (n, omega arith, free, is ∙ sym same),
    λ has. subst (λ d. get_or (set marks at true) d false ≡ true) (sym same) (get_or-set_same marks at true false (omega arith)),
  )
  | inr other ↦
      let differs : d ≡ at → ⊥ = λ e. elim other [ inl a ↦ absurd (omega arith) | inr a ↦ absurd (omega arith) ] in
      let kept : get_or (set marks at true) d false ≡ get_or marks d false = get_or-set_other marks at d true false differs in (
        λ t. let (b, below, f, e) = (h d l).0 (sym kept ∙ t) in (b, omega arith, f, e),
        λ has. let (b, below, f, e) = has in elim (cases_lt b n) [
          | inl less ↦ kept ∙ (h d l).1 (b, less, f, e)
          | inr here ↦ absurd (differs (sym e ∙ ap figure (let q : b ≡ n = omega arith in q) ∙ is))
        ],
      )
]

-- a block that is exact
pub mark_past : (c : Choices) (box : List Literal) (figure : ℕ → ℕ) (n code : ℕ) (marks : List Bool) → exact_code box n ≡ Some code
    → ((d : ℕ) → d < 400 → (get_or marks d false ≡ true) ↔ HasBlock c box figure n d)
    → (d : ℕ) → d < 400 → (get_or marks d false ≡ true) ↔ HasBlock c box figure (n + 1) d
mark_past c box figure n code marks fixed h d l = (
  λ t. let (b, below, f, e) = (h d l).0 t in (b, omega arith, f, e),
  λ has. let (b, below, f, e) = has in elim (cases_lt b n) [
    | inl less ↦ (h d l).1 (b, less, f, e)
    | inr here ↦ absurd (none-some code (sym f ∙ ap (exact_code box) (let q : b ≡ n = omega arith in q) ∙ fixed))
  ],
)
