-- With which codes of a block a side is behind a plan.
use Rattle.std.proofs.Common.{◌≡◌, ◌≢◌, ℕ, ◌+◌, ◌<◌, List, length, Some, ◌⊎◌, sym, ap, ◌∙◌, subst, inl, inr, arith}
use Rattle.std.specs.Prelude.{◌↔◌}
use Rattle.std.proofs.lemmas.Bool.{cases_lt, cases_order}
use Rattle.std.proofs.lemmas.Option.{same_Some, slice_get-get_or}
use Rattle.plan_rule.specs.declared.literal.Literal.{Literal}
use Rattle.plan_rule.specs.Choices.{Choices, blocks, count}
use Rattle.plan_rule.specs.Plans.{code_of, IsPlan}
use Rattle.plan_rule.specs.Boxes.{IsBox, IsAscending, LeavesFree, HasExact, exact, with_literal}
use Rattle.plan_rule.specs.Bounds.{IsBehindOn, IsBehind}
use Rattle.plan_rule.proofs.BehindLaws.{exact_has, one_literal}
use Rattle.log_checker.specs.Ties.{IsAbove, IsFirstApart, IsBehindFrom, IsFirstTie}
use Rattle.log_checker.proofs.BesideLaws.{exact_other, exact_same, above_other, above_same}

-- a box that fixes a block to a code is not above that code there
not_both : (box : List Literal) (a d : ℕ) → IsAscending box → IsAbove box a d → HasExact box a d → ⊥
not_both box a d up (k, l, within, is, (at, above)) f =
    let e : exact a d ≡ l =
    one_literal box k (exact a d) l up (exact_has box a d f) (slice_get-get_or box k l within ∙ ap Some is) (sym at) in
    let g : d ≡ l.lo = ap (λ (l : Literal). l.lo) e in
    absurd (omega arith)

-- the side with the code is not above the plan on a block that the side fixes to the plan's code
not_above : (side : List Literal) (p : List ℕ) (b code a : ℕ) → IsAscending side → a ≢ b → HasExact side a (code_of p a)
    → IsAbove (with_literal side (exact b code)) a (code_of p a) → ⊥
not_above side p b code a up ne f above =
    not_both side a (code_of p a) up ((above_other side (exact b code) a (code_of p a) ne).0 above) f

-- nor does it fix another block to the plan's code than the side does
not_exact : (side : List Literal) (p : List ℕ) (b code j : ℕ) → IsFirstApart side p b j → j < length p
    → HasExact (with_literal side (exact b code)) j (code_of p j) → ⊥
not_exact side p b code j apart less f = apart.here less (sym (exact_other side (exact b code) j apart.other) ∙ f)

still_exact : (side : List Literal) (p : List ℕ) (b code j a : ℕ) → IsFirstApart side p b j → a < j → a ≢ b
    → HasExact (with_literal side (exact b code)) a (code_of p a)
still_exact side p b code j a apart less ne = exact_other side (exact b code) a ne ∙ apart.before a less ne

-- where the side leaves the plan before the block, each code is behind or none
tie_before : (side : List Literal) (p : List ℕ) (b code j : ℕ) → IsAscending side → b < length p → IsFirstApart side p b j → j < b
    → IsBehindOn (length p) (with_literal side (exact b code)) p ↔ IsBehindFrom side p j
tie_before side p b code j up exist apart less =
    let there : j < length p = omega arith in (
      λ behind. elim behind [
        | inr all ↦ absurd (not_exact side p b code j apart there (all j there))
        | inl one ↦ let (k, lk, exacts, above) = one in elim (cases_order k j) [
          | inl e ↦ inr ((above_other side (exact b code) j (code_of p j) apart.other).0
              (subst (λ k. IsAbove (with_literal side (exact b code)) k (code_of p k)) e above))
          | inr differ ↦ elim differ [
            | inl before ↦
                let ne : k ≢ b = λ e. absurd (omega arith) in
                absurd (not_above side p b code k up ne (apart.before k before ne) above)
            | inr after ↦ absurd (not_exact side p b code j apart there (exacts j after))
          ]
        ]
      ],
      λ from. elim from [
        | inl e ↦ absurd (omega arith)
        | inr above ↦ inl (
          j,
          there,
          λ a l. still_exact side p b code j a apart l (λ e. absurd (omega arith)),
          (above_other side (exact b code) j (code_of p j) apart.other).1 above,
        )
      ],
    )

-- the code is above the plan's, or it is the plan's, and the rest of the side is behind
abbrev IsTie : List Literal → List ℕ → ℕ → ℕ → ℕ → Type 0
IsTie side p b code j = (code_of p b < code) ⊎ ((code ≡ code_of p b) × IsBehindFrom side p j)

tie_found : (side : List Literal) (p : List ℕ) (b code j : ℕ) → IsAscending side → LeavesFree side b → b < length p → IsFirstApart side p b j → b < j
    → IsBehindOn (length p) (with_literal side (exact b code)) p → IsTie side p b code j
tie_found side p b code j up free exist apart less (inr all) =
    let e : code ≡ code_of p b = same_Some code (code_of p b) (sym (exact_same side b code) ∙ all b exist) in
    inr (
      e,
      elim (cases_lt j (length p)) [
        | inl there ↦ absurd (not_exact side p b code j apart there (all j there))
        | inr past ↦ let w = apart.within in inl (omega arith)
      ],
    )
tie_found side p b code j up free exist apart less (inl (k, lk, exacts, above)) = elim (cases_order k b) [
  | inl e ↦ inl ((above_same side b code (code_of p b) free).0
      (subst (λ k. IsAbove (with_literal side (exact b code)) k (code_of p k)) e above))
  | inr differ ↦ elim differ [
    | inl before ↦
        let ne : k ≢ b = λ e. absurd (omega arith) in
        absurd (not_above side p b code k up ne (apart.before k (omega arith) ne) above)
    | inr after ↦
        let ne : k ≢ b = λ e. absurd (omega arith) in
        let e : code ≡ code_of p b = same_Some code (code_of p b) (sym (exact_same side b code) ∙ exacts b after) in
        inr (
          e,
          elim (cases_order k j) [
            | inl same ↦ inr ((above_other side (exact b code) j (code_of p j) apart.other).0
                (subst (λ k. IsAbove (with_literal side (exact b code)) k (code_of p k)) same above))
            | inr other ↦ elim other [
              | inl sooner ↦ absurd (not_above side p b code k up ne (apart.before k sooner ne) above)
              | inr later ↦ absurd (not_exact side p b code j apart (omega arith) (exacts j later))
            ]
          ],
        )
  ]
]

-- up to the first block apart the side with the plan's code is the plan
exact_below : (side : List Literal) (p : List ℕ) (b code j : ℕ) → IsFirstApart side p b j → code ≡ code_of p b
    → (a : ℕ) → a < j → HasExact (with_literal side (exact b code)) a (code_of p a)
exact_below side p b code j apart same a less = elim (cases_order a b) [
  | inl e ↦
      subst (λ a. HasExact (with_literal side (exact b code)) a (code_of p a)) (sym e) (exact_same side b code ∙ ap Some same)
  | inr differ ↦ still_exact side p b code j a apart less (λ e. elim differ [ inl l ↦ absurd (omega arith) | inr l ↦ absurd (omega arith) ])
]

tie_counts : (side : List Literal) (p : List ℕ) (b code j : ℕ) → LeavesFree side b → b < length p → IsFirstApart side p b j → b < j
    → IsTie side p b code j → IsBehindOn (length p) (with_literal side (exact b code)) p
tie_counts side p b code j free exist apart less (inl above) =
    inl (
      b,
      exist,
      λ a l. still_exact side p b code j a apart (omega arith) (λ e. absurd (omega arith)),
      (above_same side b code (code_of p b) free).1 above,
    )
tie_counts side p b code j free exist apart less (inr (same, from)) = elim (cases_lt j (length p)) [
  | inr past ↦ inr (λ a l. exact_below side p b code j apart same a (omega arith))
  | inl there ↦ elim from [
    | inl end ↦ absurd (omega arith)
    | inr above ↦ inl (
      j,
      there,
      exact_below side p b code j apart same,
      (above_other side (exact b code) j (code_of p j) apart.other).1 above,
    )
  ]
]

-- where the block comes first, the codes above the plan's are behind, and the plan's own one where the rest is
tie_after : (side : List Literal) (p : List ℕ) (b code j : ℕ) → IsAscending side → LeavesFree side b → b < length p → IsFirstApart side p b j → b < j
    → IsBehindOn (length p) (with_literal side (exact b code)) p ↔ IsTie side p b code j
tie_after side p b code j up free exist apart less =
    (tie_found side p b code j up free exist apart less, tie_counts side p b code j free exist apart less)

-- the blocks of a plan are those that there are
among_all : (c : Choices) (side : List Literal) (p : List ℕ) (b code : ℕ) → IsPlan c p
    → IsBehindOn (length p) (with_literal side (exact b code)) p ↔ IsBehind c (with_literal side (exact b code)) p
among_all c side p b code is = (
  subst (λ n. IsBehindOn n (with_literal side (exact b code)) p) is.one_each,
  subst (λ n. IsBehindOn n (with_literal side (exact b code)) p) (sym is.one_each),
)

-- the side leaves the plan before the block, for what is behind it: each code is
pub tie_each : (c : Choices) (side : List Literal) (p : List ℕ) (b j : ℕ) → IsPlan c p → IsBox c side → b < blocks c → IsFirstApart side p b j → j < b
    → IsBehindFrom side p j → IsFirstTie c side p b 0
tie_each c side p b j is box exist apart less from code here =
    let n = is.one_each in
    let law = tie_before side p b code j box.ascending (omega arith) apart less in
    (λ l. (among_all c side p b code is).0 (law.1 from), λ h. omega arith)

-- it does so for what is not: no code is
pub tie_none : (c : Choices) (side : List Literal) (p : List ℕ) (b j tie : ℕ) → IsPlan c p → IsBox c side → b < blocks c → IsFirstApart side p b j → j < b
    → (IsBehindFrom side p j → ⊥) → tie ≡ count c b → IsFirstTie c side p b tie
tie_none c side p b j tie is box exist apart less from e code here =
    let n = is.one_each in
    let law = tie_before side p b code j box.ascending (omega arith) apart less in
    let below = here.1 in
    (λ l. absurd (omega arith), λ h. absurd (from (law.0 ((among_all c side p b code is).1 h))))

-- the block comes first, and the rest is behind: the plan's code is, and the later ones
pub tie_own : (c : Choices) (side : List Literal) (p : List ℕ) (b j : ℕ) → IsPlan c p → IsBox c side → LeavesFree side b → b < blocks c
    → IsFirstApart side p b j → b < j → IsBehindFrom side p j → IsFirstTie c side p b (code_of p b)
tie_own c side p b j is box free exist apart less from code here =
    let n = is.one_each in
    let law = tie_after side p b code j box.ascending free (omega arith) apart less in (
      λ l. (among_all c side p b code is).0 (law.1 (elim (cases_lt (code_of p b) code) [
        | inl above ↦ inl above
        | inr low ↦ inr (omega arith, from)
      ])),
      λ h. elim (law.0 ((among_all c side p b code is).1 h)) [ inl above ↦ omega arith | inr own ↦ let e = own.0 in omega arith ],
    )

-- it comes first, and the rest is not: the codes after the plan's are
pub tie_next : (c : Choices) (side : List Literal) (p : List ℕ) (b j : ℕ) → IsPlan c p → IsBox c side → LeavesFree side b → b < blocks c
    → IsFirstApart side p b j → b < j → (IsBehindFrom side p j → ⊥) → IsFirstTie c side p b (code_of p b + 1)
tie_next c side p b j is box free exist apart less from code here =
    let n = is.one_each in
    let law = tie_after side p b code j box.ascending free (omega arith) apart less in (
      λ l. (among_all c side p b code is).0 (law.1 (inl (omega arith))),
      λ h. elim (law.0 ((among_all c side p b code is).1 h)) [ inl above ↦ omega arith | inr own ↦ absurd (from own.1) ],
    )
