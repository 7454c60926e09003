-- What a box fixes, and which literals it has, with a literal more.
use Rattle.std.proofs.Common.{◌≡◌, ◌≢◌, ℕ, ◌+◌, ◌<◌, List, [], ◌∷◌, Bool, true, false, cond, Option, Some, None, ◌⊎◌, refl, sym, ap, ◌∙◌, inl, inr, arith}
use Rattle.std.specs.Prelude.{nat_lt, ◌==◌, ◌↔◌, if◌then◌else◌}
use Rattle.std.specs.List.{All, Contains, filter}
use Rattle.std.proofs.lemmas.Bool.{cases_Bool, cases_order, lt-ltb, le-ltb, eq-eqb, ne_eqb, cond-true, cond-false, true≢false}
use Rattle.std.proofs.lemmas.List.Elements.{All-contains, All-contains_itself, All-filter, All-cons, All-nil, All-weaker, filter_passes, Contains-append_left, Contains-append_right, Contains-append_cases}
use Rattle.plan_rule.specs.declared.literal.Literal.{Literal}
use Rattle.plan_rule.specs.Boxes.{LeavesFree, exact_code, exact, with_literal}
use Rattle.plan_rule.proofs.ExactLaws.{passed, in_front}
use Rattle.plan_rule.proofs.WithLaws.{with_self}
use Rattle.log_checker.specs.Ties.{IsAbove}

-- the code of a literal of one code
abbrev code_alone : Literal → Option ℕ
code_alone l = if l.hi == l.lo + 1 then Some l.lo else None

-- a filter that keeps the literals on a block keeps what is exact there
kept : (test : ℕ → Bool) (box : List Literal) (a : ℕ) → test a ≡ true → exact_code (filter (λ m. test m.block) box) a ≡ exact_code box a
kept test [] a t = refl
kept test (m ∷ box) a t = elim (cases_Bool (test m.block)) [
  | inl stays ↦
      ap (λ xs. exact_code xs a) (cond-true (test m.block) (m ∷ filter (λ m. test m.block) box) (filter (λ m. test m.block) box) stays)
      ∙ ap (λ o. if m.block == a then code_alone m else o) (kept test box a t)
  | inr goes ↦
      ap (λ xs. exact_code xs a) (cond-false (test m.block) (m ∷ filter (λ m. test m.block) box) (filter (λ m. test m.block) box) goes)
      ∙ kept test box a t
      ∙ sym (cond-false (m.block == a) (code_alone m) (exact_code box a) (ne_eqb m.block a (λ e. true≢false (sym t ∙ ap test (sym e) ∙ goes))))
]

-- a filter that drops the literals on a block leaves it free
dropped : (test : ℕ → Bool) (box : List Literal) (a : ℕ) → test a ≡ false → LeavesFree (filter (λ m. test m.block) box) a
dropped test box a t =
    All-weaker (λ m. test m.block ≡ true) (λ m. m.block ≢ a) (λ m h e. true≢false (sym h ∙ ap test e ∙ t))
    (filter (λ m. test m.block) box) (filter_passes (λ m. test m.block) box)

-- a literal more changes nothing on the other blocks
pub exact_other : (box : List Literal) (l : Literal) (a : ℕ) → a ≢ l.block → exact_code (with_literal box l) a ≡ exact_code box a
exact_other box l a ne =
    let front : List Literal = filter (λ m. nat_lt m.block l.block) box in
    let back : List Literal = filter (λ m. nat_lt l.block m.block) box in
    elim (cases_order a l.block) [
      | inl e ↦ absurd (ne e)
      | inr differ ↦ elim differ [
        | inl less ↦
            in_front front (l ∷ back) a
            (All-cons (λ m. m.block ≢ a) l back (λ e. ne (sym e)) (dropped (λ x. nat_lt l.block x) box a (le-ltb l.block a (omega arith))))
            ∙ kept (λ x. nat_lt x l.block) box a (lt-ltb a l.block less)
        | inr more ↦
            passed front (l ∷ back) a (dropped (λ x. nat_lt x l.block) box a (le-ltb a l.block (omega arith)))
            ∙ cond-false (l.block == a) (code_alone l) (exact_code back a) (ne_eqb l.block a (λ e. ne (sym e)))
            ∙ kept (λ x. nat_lt l.block x) box a (lt-ltb l.block a more)
      ]
    ]

-- the literal of one code fixes its block
pub exact_same : (box : List Literal) (b code : ℕ) → exact_code (with_literal box (exact b code)) b ≡ Some code
exact_same box b code =
    let front : List Literal = filter (λ m. nat_lt m.block b) box in
    let back : List Literal = filter (λ m. nat_lt b m.block) box in
    passed front (exact b code ∷ back) b (dropped (λ x. nat_lt x b) box b (le-ltb b b (omega arith)))
    ∙ cond-true (b == b) (code_alone (exact b code)) (exact_code back b) (eq-eqb b b refl)
    ∙ cond-true (code + 1 == code + 1) (Some code) None (eq-eqb (code + 1) (code + 1) refl)

-- the box has each literal that its part has
filter_from : (test : Literal → Bool) (box : List Literal) (m : Literal) → Contains (filter test box) m → Contains box m
filter_from test box m inside =
    All-contains (Contains box) (filter test box) m (All-filter test (Contains box) box (All-contains_itself box)) inside

had_before : (box : List Literal) (l m : Literal) → Contains (with_literal box l) m → Contains box m ⊎ (l ≡ m)
had_before box l m inside =
    let front : List Literal = filter (λ m. nat_lt m.block l.block) box in
    let back : List Literal = filter (λ m. nat_lt l.block m.block) box in
    elim (Contains-append_cases front (l ∷ back) m inside) [
      | inl first ↦ inl (filter_from (λ m. nat_lt m.block l.block) box m first)
      | inr rest ↦ elim (Contains-append_cases (l ∷ []) back m rest) [
        | inl new ↦ inr (All-contains (λ m. l ≡ m) (l ∷ []) m (All-cons (λ m. l ≡ m) l [] refl (All-nil (λ m. l ≡ m))) new)
        | inr last ↦ inl (filter_from (λ m. nat_lt l.block m.block) box m last)
      ]
    ]

-- a filter keeps what passes its test
later : (keep : Bool) (m x : Literal) (xs : List Literal) → Contains xs x → Contains (cond keep (m ∷ xs) xs) x
later true m x xs inside = Contains-append_right (m ∷ []) xs x inside
later false m x xs inside = inside

first : (keep : Bool) (m : Literal) (xs : List Literal) → keep ≡ true → Contains (cond keep (m ∷ xs) xs) m
first true m xs e = (0, omega arith, refl)
first false m xs e = absurd (true≢false (sym e))

passes : (test : Literal → Bool) (box : List Literal) → All (λ x. test x ≡ true → Contains (filter test box) x) box
passes test [] = All-nil (λ x. test x ≡ true → Contains [] x)
passes test (m ∷ box) =
    All-cons (λ x. test x ≡ true → Contains (filter test (m ∷ box)) x) m box
    (first (test m) m (filter test box))
    (All-weaker (λ x. test x ≡ true → Contains (filter test box) x) (λ x. test x ≡ true → Contains (filter test (m ∷ box)) x)
    (λ x h t. later (test m) m x (filter test box) (h t)) box (passes test box))

has_still : (box : List Literal) (l m : Literal) → Contains box m → m.block ≢ l.block → Contains (with_literal box l) m
has_still box l m inside ne =
    let front : List Literal = filter (λ m. nat_lt m.block l.block) box in
    let back : List Literal = filter (λ m. nat_lt l.block m.block) box in
    elim (cases_order m.block l.block) [
      | inl e ↦ absurd (ne e)
      | inr differ ↦ elim differ [
        | inl less ↦
            Contains-append_left front (l ∷ back) m
            (All-contains (λ x. nat_lt x.block l.block ≡ true → Contains front x) box m (passes (λ m. nat_lt m.block l.block) box) inside (lt-ltb m.block l.block less))
        | inr more ↦
            Contains-append_right front (l ∷ back) m (Contains-append_right (l ∷ []) back m
            (All-contains (λ x. nat_lt l.block x.block ≡ true → Contains back x) box m (passes (λ m. nat_lt l.block m.block) box) inside (lt-ltb l.block m.block more)))
      ]
    ]

-- a literal more is above no code of another block
pub above_other : (box : List Literal) (l : Literal) (a d : ℕ) → a ≢ l.block → IsAbove (with_literal box l) a d ↔ IsAbove box a d
above_other box l a d ne = (
  λ h. let (k, m, within, is, (at, above)) = h in elim (had_before box l m (k, within, is)) [
    | inl old ↦ (old.0, m, old.1, old.2, (at, above))
    | inr new ↦ absurd (ne (sym at ∙ ap (λ (x : Literal). x.block) (sym new)))
  ],
  λ h. let (k, m, within, is, (at, above)) = h in
      let still = has_still box l m (k, within, is) (λ e. ne (sym at ∙ e)) in
      (still.0, m, still.1, still.2, (at, above)),
)

-- on a block that was free, the literal of one code is above the lower codes
pub above_same : (box : List Literal) (b code d : ℕ) → LeavesFree box b → IsAbove (with_literal box (exact b code)) b d ↔ (d < code)
above_same box b code d free = (
  λ h. let (k, m, within, is, (at, above)) = h in elim (had_before box (exact b code) m (k, within, is)) [
    | inl old ↦ absurd (All-contains (λ l. l.block ≢ b) box m free old at)
    | inr new ↦ let e : code ≡ m.lo = ap (λ (x : Literal). x.lo) new in omega arith
  ],
  λ less. let new = with_self box (exact b code) in (new.0, exact b code, new.1, new.2, (refl, less)),
)
