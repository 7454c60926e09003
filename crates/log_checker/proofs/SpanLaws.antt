-- With which codes of a block a box covers a side.
use Rattle.std.proofs.Common.{◌≡◌, ◌≢◌, ℕ, ◌+◌, ◌<◌, ◌≤◌, List, ◌∷◌, length, get_or, Bool, true, false, Option, Some, None, ◌⊎◌, refl, sym, ap, ◌∙◌, subst, inl, inr, arith}
use Rattle.std.specs.Prelude.{◌↔◌, nat_lt, ◌==◌, ◌&&◌, if◌then◌else◌}
use Rattle.std.specs.List.{All, Contains, filter}
use Rattle.std.proofs.lemmas.Bool.{cases_eq, cases_order, lt-ltb, eqb-true, and_parts}
use Rattle.std.proofs.lemmas.Option.{slice_get-get_or}
use Rattle.std.proofs.lemmas.List.Elements.{All-append, All-cons, All-filter, All-contains, Contains-get_or, Contains-append_left, Contains-append_right}
use Rattle.common_lists.proofs.ListLaws.{contains_filter, contains_there}
use Rattle.plan_rule.specs.declared.literal.Literal.{Literal}
use Rattle.plan_rule.specs.Choices.{Choices, count, IsCode}
use Rattle.plan_rule.specs.Boxes.{IsAscending, IsWhole, LeavesFree, Covers, exact, with_literal}
use Rattle.plan_rule.proofs.BehindLaws.{one_literal}
use Rattle.plan_rule.proofs.WithLaws.{with_self}
use Rattle.log_checker.specs.declared.span.Span.{Span}
use Rattle.log_checker.specs.Spans.{IsWithin, IsSpanOf, HoldsOne, HoldOthers, HaveCode}

all_with : (box : List Literal) (l : Literal) → All (λ m. (l ≡ m) ⊎ Contains box m) (with_literal box l)
all_with box l =
    let P : Literal → Type 0 = λ m. (l ≡ m) ⊎ Contains box m in
    let each : All P box = λ k d within. inr (Contains-get_or box k d within) in
    All-append P (filter (λ m. nat_lt m.block l.block) box) (l ∷ filter (λ m. nat_lt l.block m.block) box)
    (All-filter (λ m. nat_lt m.block l.block) P box each)
    (All-cons P l (filter (λ m. nat_lt l.block m.block) box) (inl refl) (All-filter (λ m. nat_lt l.block m.block) P box each))

pub with_cases : (box : List Literal) (l m : Literal) → Contains (with_literal box l) m → (l ≡ m) ⊎ Contains box m
with_cases box l m h = All-contains (λ m. (l ≡ m) ⊎ Contains box m) (with_literal box l) m (all_with box l) h

-- it keeps the literals of a box that leaves the block free
pub with_keeps : (box : List Literal) (l m : Literal) → LeavesFree box l.block → Contains box m → Contains (with_literal box l) m
with_keeps box l m free h =
    let front = filter (λ m. nat_lt m.block l.block) box in
    let back = filter (λ m. nat_lt l.block m.block) box in
    let other : m.block ≢ l.block = All-contains (λ m. m.block ≢ l.block) box m free h in
    elim (cases_order m.block l.block) [
      | inl e ↦ absurd (other e)
      | inr o ↦ elim o [
        | inl less ↦ Contains-append_left front (l ∷ back) m (contains_filter (λ m. nat_lt m.block l.block) box m (lt-ltb m.block l.block less) h)
        | inr more ↦ Contains-append_right front (l ∷ back) m
            (contains_there l back m (contains_filter (λ m. nat_lt l.block m.block) box m (lt-ltb l.block m.block more) h))
      ]
    ]

-- what holds of each literal of a box with a literal more
pub all_of_with : (P : Literal → Type 0) (box : List Literal) (l : Literal) → LeavesFree box l.block
    → All P (with_literal box l) ↔ (P l × All P box)
all_of_with P box l free = (
  λ h. (
    All-contains P (with_literal box l) l h (with_self box l),
    λ k d within. All-contains P (with_literal box l) (get_or box k d) h (with_keeps box l (get_or box k d) free (Contains-get_or box k d within)),
  ),
  λ h k d within. elim (with_cases box l (get_or (with_literal box l) k d) (Contains-get_or (with_literal box l) k d within)) [
    | inl e ↦ subst P e h.0
    | inr inside ↦ All-contains P box (get_or (with_literal box l) k d) h.1 inside
  ],
)

-- the literal holds the code where it is on the block, and elsewhere is whole or holds one of the side
abbrev pub HoldsBeside : Choices → List Literal → ℕ → ℕ → Literal → Type 0
HoldsBeside c side b code a = (a.block ≡ b → (a.lo ≤ code) × (code < a.hi)) × (a.block ≢ b → HoldsOne c side a)

held_here : (c : Choices) (side : List Literal) (b code : ℕ) (a : Literal) → LeavesFree side b → IsCode c b code
    → HoldsOne c (with_literal side (exact b code)) a → a.block ≡ b → (a.lo ≤ code) × (code < a.hi)
held_here c side b code a free is (inl whole) here =
    let lo = whole.0 in let hi = whole.1 in let below = is.1 in let same : count c a.block ≡ count c b = ap (count c) here in
    (omega arith, omega arith)
held_here c side b code a free is (inr some) here =
    let (k, m, within, at, (block, lo, hi)) = some in
    elim (with_cases side (exact b code) m (k, within, at)) [
      | inl e ↦
          let low : code ≡ m.lo = ap (λ (m : Literal). m.lo) e in let high : code + 1 ≡ m.hi = ap (λ (m : Literal). m.hi) e in
          (omega arith, omega arith)
      | inr inside ↦ absurd (All-contains (λ m. m.block ≢ b) side m free inside (block ∙ here))
    ]

held_there : (c : Choices) (side : List Literal) (b code : ℕ) (a : Literal)
    → HoldsOne c (with_literal side (exact b code)) a → a.block ≢ b → HoldsOne c side a
held_there c side b code a (inl whole) other = inl whole
held_there c side b code a (inr some) other =
    let (k, m, within, at, (block, lo, hi)) = some in
    elim (with_cases side (exact b code) m (k, within, at)) [
      | inl e ↦ let same : b ≡ m.block = ap (λ (m : Literal). m.block) e in absurd (other (sym block ∙ sym same))
      | inr inside ↦ let (j, here, is) = inside in inr (j, m, here, is, (block, lo, hi))
    ]

held_any : (c : Choices) (side : List Literal) (b code : ℕ) (a : Literal) → LeavesFree side b → HoldsOne c side a
    → HoldsOne c (with_literal side (exact b code)) a
held_any c side b code a free (inl whole) = inl whole
held_any c side b code a free (inr some) =
    let (k, m, within, at, held) = some in
    let (j, here, is) = with_keeps side (exact b code) m free (k, within, at) in inr (j, m, here, is, held)

held_code : (c : Choices) (side : List Literal) (b code : ℕ) (a : Literal) → a.block ≡ b → (a.lo ≤ code) × (code < a.hi)
    → HoldsOne c (with_literal side (exact b code)) a
held_code c side b code a here (low, high) =
    let (j, within, is) = with_self side (exact b code) in
    inr (j, exact b code, within, is, (sym here, low, omega arith))

-- a literal beside a side with a code more
pub held_beside : (c : Choices) (side : List Literal) (b code : ℕ) (a : Literal) → LeavesFree side b → IsCode c b code
    → HoldsOne c (with_literal side (exact b code)) a ↔ HoldsBeside c side b code a
held_beside c side b code a free is = (
  λ h. (held_here c side b code a free is h, held_there c side b code a h),
  λ h. elim (cases_eq a.block b) [
    | inl e ↦ held_code c side b code a e (h.0 e)
    | inr ne ↦ held_any c side b code a free (h.1 ne)
  ],
)

-- a box covers a side with a code more where its literals on the block have the code and the others hold the side's
pub covers_beside : (c : Choices) (box side : List Literal) (b code : ℕ) → LeavesFree side b → IsCode c b code
    → Covers c box (with_literal side (exact b code)) ↔ (HaveCode box b code × HoldOthers c side b box)
covers_beside c box side b code free is = (
  λ h. (
    λ k d within. ((held_beside c side b code (get_or box k d) free is).0 (h k d within)).0,
    λ k d within. ((held_beside c side b code (get_or box k d) free is).0 (h k d within)).1,
  ),
  λ h k d within. (held_beside c side b code (get_or box k d) free is).1 (h.0 k d within, h.1 k d within),
)

-- no span where a literal on another block holds none of the side
pub no_span : (c : Choices) (box side : List Literal) (b : ℕ) → LeavesFree side b → (HoldOthers c side b box → ⊥) → IsSpanOf c box side b None
no_span c box side b free none code is = (
  λ h. absurd h,
  λ h. none ((covers_beside c box side b code free is).0 h).1,
)

-- the span of the codes that the literals on the block have
pub some_span : (c : Choices) (box side : List Literal) (b : ℕ) (span : Span) → LeavesFree side b → HoldOthers c side b box
    → ((code : ℕ) → IsCode c b code → IsWithin span code ↔ HaveCode box b code) → IsSpanOf c box side b (Some span)
some_span c box side b span free others has code is = (
  λ h. (covers_beside c box side b code free is).1 ((has code is).0 h, others),
  λ h. (has code is).1 ((covers_beside c box side b code free is).0 h).0,
)

-- no literal is on a block that is free
free_has : (box : List Literal) (b code : ℕ) → LeavesFree box b → HaveCode box b code
free_has box b code free k d within = λ e. absurd (free k d within e)

-- the codes of the one literal on the block
pub one_literal_span : (box items : List Literal) (b i : ℕ) (d : Literal) → items ≡ box → IsAscending items → i < length items
    → (get_or items i d).block ≡ b → (code : ℕ)
    → IsWithin (record { lo = (get_or items i d).lo; hi = (get_or items i d).hi }) code ↔ HaveCode box b code
one_literal_span box items b i d same up within here code = (
  λ h. subst (λ ls. HaveCode ls b code) same (λ k e inside on.
      let one : get_or items k e ≡ get_or items i d =
      one_literal items i (get_or items k e) (get_or items i d) up (Contains-get_or items k e inside) (slice_get-get_or items i d within) (on ∙ sym here) in
      subst (λ (l : Literal). (l.lo ≤ code) × (code < l.hi)) (sym one) h),
  λ h. subst (λ ls. HaveCode ls b code) (sym same) h i d within here,
)

-- each code, where no literal is on the block
pub no_literal_span : (c : Choices) (box items : List Literal) (b i n : ℕ) → items ≡ box → length items ≤ i
    → ((k : ℕ) (d : Literal) → k < i → (get_or items k d).block ≡ b → ⊥) → n ≡ count c b → (code : ℕ)
    → IsCode c b code → IsWithin (record { lo = 0; hi = n }) code ↔ HaveCode box b code
no_literal_span c box items b i n same past none long code is = (
  λ h. subst (λ ls. HaveCode ls b code) same (λ k d inside on. absurd (none k d (omega arith) on)),
  λ h. let below = is.1 in (omega arith, omega arith),
)

-- a box with a literal more on the block itself
pub own_span : (c : Choices) (box side : List Literal) (l : Literal) (b : ℕ) → LeavesFree side b → LeavesFree box l.block → l.block ≡ b
    → HoldOthers c side b box → IsSpanOf c (with_literal box l) side b (Some (record { lo = l.lo; hi = l.hi }))
own_span c box side l b free left here others code is =
    let split = all_of_with (HoldsOne c (with_literal side (exact b code))) box l left in (
      λ h. split.1 (
        held_code c side b code l here h,
        (covers_beside c box side b code free is).1 (free_has box b code (subst (LeavesFree box) here left), others),
      ),
      λ h. held_here c side b code l free is (split.0 h).0 here,
    )

pub no_own_span : (c : Choices) (box side : List Literal) (l : Literal) (b : ℕ) → LeavesFree side b → LeavesFree box l.block
    → (HoldOthers c side b box → ⊥) → IsSpanOf c (with_literal box l) side b None
no_own_span c box side l b free left none code is = (
  λ h. absurd h,
  λ h. none ((covers_beside c box side b code free is).0 ((all_of_with (HoldsOne c (with_literal side (exact b code))) box l left).0 h).1).1,
)

-- a box with a literal more on another block
pub other_span : (c : Choices) (box side : List Literal) (l : Literal) (b : ℕ) (span : Option Span) → LeavesFree side b → LeavesFree box l.block
    → HoldsOne c side l → IsSpanOf c box side b span → IsSpanOf c (with_literal box l) side b span
other_span c box side l b span free left held of' code is =
    let split = all_of_with (HoldsOne c (with_literal side (exact b code))) box l left in (
      λ h. split.1 (held_any c side b code l free held, (of' code is).0 h),
      λ h. (of' code is).1 (split.0 h).1,
    )

pub no_other_span : (c : Choices) (box side : List Literal) (l : Literal) (b : ℕ) → LeavesFree box l.block → l.block ≢ b
    → (HoldsOne c side l → ⊥) → IsSpanOf c (with_literal box l) side b None
no_other_span c box side l b left other none code is = (
  λ h. absurd h,
  λ h. none (held_there c side b code l ((all_of_with (HoldsOne c (with_literal side (exact b code))) box l left).0 h).0 other),
)

-- a box has the span that it has with a whole literal more
pub whole_span : (c : Choices) (box side : List Literal) (l : Literal) (b : ℕ) (span : Option Span) → LeavesFree box l.block → IsWhole c l
    → IsSpanOf c (with_literal box l) side b span → IsSpanOf c box side b span
whole_span c box side l b span left whole of' code is =
    let split = all_of_with (HoldsOne c (with_literal side (exact b code))) box l left in (
      λ h. (split.0 ((of' code is).0 h)).1,
      λ h. (of' code is).1 (split.1 (inl whole, h)),
    )

-- a branch over all codes of its block has its side as result
pub branch_span : (c : Choices) (box side : List Literal) (l : Literal) (b : ℕ) (span : Option Span) → LeavesFree box l.block
    → IsSpanOf c (with_literal box l) side b span
    → IsSpanOf c (if (l.lo == 0) && (l.hi == count c l.block) then box else with_literal box l) side b span
branch_span c box side l b span left of' = go ((l.lo == 0) && (l.hi == count c l.block)) refl
  where
    go : (t : Bool) → ((l.lo == 0) && (l.hi == count c l.block)) ≡ t → IsSpanOf c (if t then box else with_literal box l) side b span
    go true e =
        let two = and_parts (l.lo == 0) (l.hi == count c l.block) e in
        whole_span c box side l b span left (eqb-true l.lo 0 two.0, eqb-true l.hi (count c l.block) two.1) of'
    go false e = of'
