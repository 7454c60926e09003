-- The least cost of a block's codes, code by code.
use Rattle.std.proofs.Common.{◌≡◌, ℕ, ◌<◌, ◌≤◌, List, Option, Some, None, refl, sym, ◌∙◌, subst, inl, inr, arith, true, false}
use Rattle.std.specs.Prelude.{Bool, if◌then◌else◌, nat_le}
use Rattle.std.proofs.lemmas.Bool.{cases_lt, leb-true, leb-false, ltb-true, ltb-false, le-leb, lt-ltb}
use Rattle.std.proofs.lemmas.Option.{none-some}
use Rattle.shape_exact.specs.Yards.{PlainYard}
use Rattle.code_table.specs.Placements.{own_cost}
use Rattle.plan_rule.specs.declared.literal.Literal.{Literal}
use Rattle.plan_rule.specs.Boxes.{HasExact, IsBox}
use Rattle.plan_rule.specs.Bounds.{IsLeastOf, MayFit}
use Rattle.plan_rule.specs.Yards.{choices}
use Rattle.plan_rule.proofs.RestLaws.{least_exact}
use Rattle.log_checker.specs.Leasts.{Below, IsLeastFit, IsLeastUpTo, is_better}

-- some numbers of one value, which is better, and one of them with the property: that value is the new least
pub least_take : (P : ℕ → Type 0) (value : ℕ → ℕ) (limit n m v : ℕ) (best : Option ℕ) → IsLeastUpTo (Below P n) value limit best
    → ((x : ℕ) → n ≤ x → x < m → value x ≡ v) → (found : ℕ) → n ≤ found → found < m → P found → is_better v best limit ≡ true
    → IsLeastUpTo (Below P m) value limit (Some v)
least_take P value limit n m v None h same found from below p better =
    let le : v ≤ limit = leb-true v limit better in (
      (
        (found, (below, p), same found from below),
        λ x w. elim (cases_lt x n) [
          | inl l ↦ let a = h x (l, w.1) in omega arith
          | inr l ↦ let a = same x l w.0 in omega arith
        ],
      ),
      le,
    )
least_take P value limit n m v (Some b) h same found from below p better =
    let less : v < b = ltb-true v b better in let le = h.1 in (
      (
        (found, (below, p), same found from below),
        λ x w. elim (cases_lt x n) [
          | inl l ↦ let a = h.0.1 x (l, w.1) in omega arith
          | inr l ↦ let a = same x l w.0 in omega arith
        ],
      ),
      omega arith,
    )

-- some numbers of one value that have not the property, or no better value, change nothing
pub least_keep : (P : ℕ → Type 0) (value : ℕ → ℕ) (limit n m v : ℕ) (best : Option ℕ) → n ≤ m → IsLeastUpTo (Below P n) value limit best
    → ((x : ℕ) → n ≤ x → x < m → value x ≡ v) → ((x : ℕ) → n ≤ x → x < m → P x → is_better v best limit ≡ true → ⊥)
    → IsLeastUpTo (Below P m) value limit best
least_keep P value limit n m v None le h same worse = λ x w. elim (cases_lt x n) [
  | inl l ↦ h x (l, w.1)
  | inr l ↦ elim (cases_lt limit v) [
    | inl above ↦ let a = same x l w.0 in omega arith
    | inr better ↦ absurd (worse x l w.0 w.1 (le-leb v limit better))
  ]
]
least_keep P value limit n m v (Some b) le h same worse = (
  (
    (let (x, w, is) = h.0.0 in let l = w.0 in (x, (omega arith, w.1), is)),
    λ x w. elim (cases_lt x n) [
      | inl l ↦ h.0.1 x (l, w.1)
      | inr l ↦ elim (cases_lt v b) [
        | inl better ↦ absurd (worse x l w.0 w.1 (lt-ltb v b better))
        | inr above ↦ let a = same x l w.0 in omega arith
      ]
    ],
  ),
  h.1,
)

-- where no later number with the property has a better value, the least so far is the least
pub least_done : (P : ℕ → Type 0) (value : ℕ → ℕ) (limit n floor : ℕ) (best : Option ℕ) → IsLeastUpTo (Below P n) value limit best
    → ((x : ℕ) → n ≤ x → P x → floor ≤ value x) → is_better floor best limit ≡ false → IsLeastUpTo P value limit best
least_done P value limit n floor None h later worse =
    let above : limit < floor = leb-false floor limit worse in
    λ x p. elim (cases_lt x n) [ inl l ↦ h x (l, p) | inr l ↦ let a = later x l p in omega arith ]
least_done P value limit n floor (Some b) h later worse =
    let above : b ≤ floor = ltb-false floor b worse in (
      (
        (let (x, w, is) = h.0.0 in (x, w.1, is)),
        λ x p. elim (cases_lt x n) [ inl l ↦ h.0.1 x (l, p) | inr l ↦ let a = later x l p in omega arith ],
      ),
      h.1,
    )

-- the least of the numbers with a property is that of the numbers with the same one in other words
pub least_same : (P Q : ℕ → Type 0) (value : ℕ → ℕ) (limit : ℕ) (o : Option ℕ) → ((x : ℕ) → P x → Q x) → ((x : ℕ) → Q x → P x)
    → IsLeastUpTo P value limit o → IsLeastUpTo Q value limit o
least_same P Q value limit None there back h = λ x q. h x (back x q)
least_same P Q value limit (Some n) there back h = (((let (x, p, is) = h.0.0 in (x, there x p, is)), λ x q. h.0.1 x (back x q)), h.1)

-- the only code of a block that a side fixes fits
exact_fits : (yard : PlainYard) (side : List Literal) (b d m : ℕ) → IsBox (choices yard) side → HasExact side b d → m ≡ own_cost yard b d
    → IsLeastOf (MayFit (choices yard) side b) ((choices yard).cost b) (Some m)
exact_fits yard side b d m box fix is =
    let ((x, may, e), low) = least_exact yard side b d m box fix is in
    ((x, (may, λ free. absurd (none-some d (sym free ∙ fix)), λ free. absurd (none-some d (sym free ∙ fix))), e), λ y fits. low y fits.0)

-- its cost, where it is at most the limit
pub fits_exact : (yard : PlainYard) (side : List Literal) (b d m limit : ℕ) (o : Option ℕ) → IsBox (choices yard) side → HasExact side b d → m ≡ own_cost yard b d
    → o ≡ (if nat_le m limit then Some m else None) → IsLeastFit (choices yard) side b limit o
fits_exact yard side b d m limit o box fix is e = subst (IsLeastFit (choices yard) side b limit) (sym e) (within (nat_le m limit) refl)
  where
    least : IsLeastOf (MayFit (choices yard) side b) ((choices yard).cost b) (Some m)
    least = exact_fits yard side b d m box fix is

    within : (t : Bool) → nat_le m limit ≡ t → IsLeastFit (choices yard) side b limit (if t then Some m else None)
    within true t = (least, leb-true m limit t)
    within false t = λ x may. let a = leb-false m limit t in let l = least.1 x may in omega arith
