-- When one box contains another.
use Rattle.std.proofs.Common.{◌≡◌, ◌≢◌, ℕ, ◌<◌, ◌≤◌, List, get_or, ◌⊎◌, refl, sym, ap, ◌∙◌, inl, inr, arith}
use Rattle.std.specs.List.{All, Any, Contains}
use Rattle.std.proofs.lemmas.List.Elements.{All-contains, All-contains_itself, All-weaker}
use Rattle.plan_rule.specs.declared.literal.Literal.{Literal}
use Rattle.plan_rule.specs.Choices.{Choices, blocks, count}
use Rattle.plan_rule.specs.Boxes.{IsBox, IsLiteral, IsWhole, LeavesFree, Covers, exact, with_literal}
use Rattle.plan_rule.proofs.WithLaws.{with_self}
use Rattle.branch_kernel.proofs.WithLaws.{contains_with, with_contains}

-- the blocks of a box exist
pub exist-box : (c : Choices) (box : List Literal) → IsBox c box → All (λ l. l.block < blocks c) box
exist-box c box w = All-weaker (IsLiteral c) (λ l. l.block < blocks c) (λ l h. h.block) box w.each

contains_any : (box : List Literal) (a : Literal) → Contains box a → Any (λ b. (b.block ≡ a.block) × (a.lo ≤ b.lo) × (b.hi ≤ a.hi)) box
contains_any box a (k, l, e) = (k, a, l, e, (refl, omega arith, omega arith))

-- a box whose literals stand in another contains it
pub covers_by : (c : Choices) (outer inner : List Literal) → All (Contains inner) outer → Covers c outer inner
covers_by c outer inner h k d l = inr (contains_any inner (get_or outer k d) (h k d l))

pub covers_self : (c : Choices) (box : List Literal) → Covers c box box
covers_self c box = covers_by c box box (All-contains_itself box)

-- what contains a box contains what that box contains
pub covers_trans : (c : Choices) (outer mid inner : List Literal) → IsBox c outer → Covers c outer mid → Covers c mid inner → Covers c outer inner
covers_trans c outer mid inner is cover more k d l = elim (cover k d l) [
  | inl whole ↦ inl whole
  | inr some ↦
      let (j, m, within, here, (at, lo, hi)) = some in
      let a = get_or outer k d in
      let top : a.hi ≤ count c a.block = let x = is.each k d l in x.codes in
      elim (All-contains (λ a. IsWhole c a ⊎ Any (λ b. (b.block ≡ a.block) × (a.lo ≤ b.lo) × (b.hi ≤ a.hi)) inner) mid m more (j, within, here)) [
        | inl whole ↦ let e : count c m.block ≡ count c a.block = ap (count c) at in let x = whole.0 in let y = whole.1 in inl (omega arith, omega arith)
        | inr held ↦ let (i, n, v, f, (at', lo', hi')) = held in inr (i, n, v, f, (at' ∙ at, omega arith, omega arith))
      ]
]

-- what contains a box contains each box that has its literals
pub covers_more : (c : Choices) (outer mid inner : List Literal) → All (Contains inner) mid → Covers c outer mid → Covers c outer inner
covers_more c outer mid inner all cover k d l = elim (cover k d l) [
  | inl whole ↦ inl whole
  | inr some ↦
      let (j, m, within, here, p) = some in
      let (i, v, e) = All-contains (Contains inner) mid m all (j, within, here) in
      inr (i, m, v, e, p)
]

-- a result that contains the side with a range contains the side with each code of it
pub covers_narrow : (c : Choices) (outer side : List Literal) (b x y code : ℕ) → LeavesFree side b → x ≤ code → code < y
    → Covers c outer (with_literal side (record { block = b; lo = x; hi = y })) → Covers c outer (with_literal side (exact b code))
covers_narrow c outer side b x y code free l h cover k d w = elim (cover k d w) [
  | inl whole ↦ inl whole
  | inr some ↦
      let (j, m, within, is, (at, lo, hi)) = some in
      elim (with_contains side (record { block = b; lo = x; hi = y }) m (j, within, is)) [
        | inl same ↦
            let (i, v, e) = with_self side (exact b code) in
            let f = ap (λ (l : Literal). l.lo) same in
            let g = ap (λ (l : Literal). l.hi) same in
            inr (i, exact b code, v, e, (ap (λ (l : Literal). l.block) (sym same) ∙ at, omega arith, omega arith))
        | inr inside ↦
            let (i, v, e) = All-contains (Contains (with_literal side (exact b code))) side m (contains_with side (exact b code) free) inside in
            inr (i, m, v, e, (at, lo, hi))
      ]
]

-- a result that contains the side with a code, and names no range of the block, contains the side: a node may answer with its child's record
pub covers_jump : (c : Choices) (outer side : List Literal) (b code : ℕ) → All (λ l. IsWhole c l ⊎ (l.block ≢ b)) outer
    → Covers c outer (with_literal side (exact b code)) → Covers c outer side
covers_jump c outer side b code names cover k d w = elim (cover k d w) [
  | inl whole ↦ inl whole
  | inr some ↦ elim (names k d w) [
    | inl whole ↦ inl whole
    | inr other ↦
        let (j, m, within, is, (at, lo, hi)) = some in
        elim (with_contains side (exact b code) m (j, within, is)) [
          | inl same ↦ absurd (other (sym at ∙ ap (λ (l : Literal). l.block) same))
          | inr (i, v, e) ↦ inr (i, m, v, e, (at, lo, hi))
        ]
  ]
]
