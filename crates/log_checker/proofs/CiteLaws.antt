-- The spans of the codes that cited records cover, record by record.
use Rattle.std.proofs.Common.{◌≡◌, ℕ, ◌<◌, ◌≤◌, List, [], ◌∷◌, ◌++◌, ◌+◌, length, get_or, take, refl, Option, Some, ◌⊎◌, sym, ap, ◌∙◌, subst, inl, inr}
use Rattle.std.specs.Prelude.{◌↔◌, slice_get}
use Rattle.std.specs.List.{All}
use Rattle.std.specs.List.Sorted.{IsPermutation}
use Rattle.std.proofs.lemmas.Option.{same_Some, slice_get_read}
use Rattle.std.proofs.lemmas.List.{take_all, take_more}
use Rattle.std.proofs.lemmas.List.Elements.{Contains-append_left, Contains-push, Contains-push_cases}
use Rattle.std.proofs.lemmas.List.Sorted.{IsPermutation-sym}
use Rattle.common_lists.proofs.ListLaws.{any_permuted}
use Rattle.plan_rule.specs.declared.literal.Literal.{Literal}
use Rattle.plan_rule.specs.Choices.{Choices}
use Rattle.plan_rule.specs.Boxes.{Covers, exact, with_literal}
use Rattle.refutation_log.specs.declared.record.Record.{Record}
use Rattle.refutation_log.specs.Steps.{result_of}
use Rattle.refutation_log.specs.declared.record.Record.TheVariants.{Branch}
use Rattle.log_checker.specs.Forms.{HasForm}
use Rattle.log_checker.proofs.SpanLaws.{branch_span}
use Rattle.log_checker.specs.declared.span.Span.{Span}
use Rattle.log_checker.specs.Spans.{InOne, AreCited, Has, IsSpanOf}

-- a record more is cited
cited_more : (c : Choices) (earlier : List Record) (cites : List ℕ) (side : List Literal) (b : ℕ) (spans more : List Span) (k : ℕ) (r : Record)
    (span : Option Span) → slice_get earlier k ≡ Some r → IsSpanOf c (result_of c r) side b span
    → ((code : ℕ) → InOne more code ↔ (InOne spans code ⊎ Has span code)) → AreCited c earlier cites side b spans
    → AreCited c earlier (cites ++ k ∷ []) side b more
cited_more c earlier cites side b spans more k r span at of' grows are code is = (
  λ h. elim ((grows code).0 h) [
    | inl old ↦ let (j, s, has, here, covers) = (are code is).0 old in (j, s, Contains-append_left cites (k ∷ []) j has, here, covers)
    | inr new ↦ (k, r, Contains-push cites k, at, (of' code is).0 new)
  ],
  λ h. let (j, s, has, here, covers) = h in elim (Contains-push_cases cites k j has) [
    | inl old ↦ (grows code).1 (inl ((are code is).1 (j, s, old, here, covers)))
    | inr same ↦
        let record_is : s ≡ r = same_Some s r (sym here ∙ subst (λ j. slice_get earlier j ≡ Some r) same at) in
        (grows code).1 (inr ((of' code is).1 (subst (λ r. Covers c (result_of c r) (with_literal side (exact b code))) record_is covers)))
  ],
)

-- the step of a walk over citations
pub cited_next : (c : Choices) (earlier : List Record) (all cites : List ℕ) (side : List Literal) (b : ℕ) (spans more : List Span) (i : ℕ) (r : Record)
    (span : Option Span) → cites ≡ all → All (λ k. k < length earlier) all → i < length cites → r ≡ get_or earlier (get_or cites i 0) r
    → IsSpanOf c (result_of c r) side b span → ((code : ℕ) → InOne more code ↔ (InOne spans code ⊎ Has span code))
    → AreCited c earlier (take i cites) side b spans → AreCited c earlier (take (i + 1) cites) side b more
cited_next c earlier all cites side b spans more i r span same below within read of' grows are =
    let exists : get_or cites i 0 < length earlier = subst (All (λ k. k < length earlier)) (sym same) below i 0 within in
    let at = slice_get_read earlier (length earlier) (get_or cites i 0) r refl exists read in
    subst (λ ks. AreCited c earlier ks side b more) (sym (take_more cites i 0 within))
    (cited_more c earlier (take i cites) side b spans more (get_or cites i 0) r span at of' grows are)

-- in another order
pub cited_same : (c : Choices) (earlier : List Record) (cites : List ℕ) (side : List Literal) (b : ℕ) (spans others : List Span)
    → IsPermutation spans others → AreCited c earlier cites side b spans → AreCited c earlier cites side b others
cited_same c earlier cites side b spans others same are code is = (
  λ h. (are code is).0 (any_permuted _ others spans (IsPermutation-sym spans others same) h),
  λ h. any_permuted _ spans others same ((are code is).1 h),
)

-- all citations, in another order
pub all_cited : (c : Choices) (earlier : List Record) (all cites : List ℕ) (side : List Literal) (b i : ℕ) (spans others : List Span)
    → cites ≡ all → length cites ≤ i → IsPermutation spans others → AreCited c earlier (take i cites) side b spans
    → AreCited c earlier all side b others
all_cited c earlier all cites side b i spans others same past moved are =
    cited_same c earlier all side b spans others moved
    (subst (λ ks. AreCited c earlier ks side b spans) (take_all i cites past ∙ same) are)

-- a branch's box has the span of its side with its range
pub covered_branch : (c : Choices) (entry : Record) (of' lo hi : ℕ) (outer : List Literal) (cites : List ℕ) (side : List Literal) (b : ℕ)
    (span : Option Span) → entry ≡ Branch of' lo hi outer cites → HasForm c entry
    → IsSpanOf c (with_literal outer (record { block = of'; lo = lo; hi = hi })) side b span → IsSpanOf c (result_of c entry) side b span
covered_branch c entry of' lo hi outer cites side b span is form h =
    let parts = subst (HasForm c) is form in
    subst (λ e. IsSpanOf c (result_of c e) side b span) (sym is)
    (branch_span c outer side (record { block = of'; lo = lo; hi = hi }) b span parts.2 h)

-- the box of another record is its side
pub covered_side : (c : Choices) (entry other : Record) (outer side : List Literal) (b : ℕ) (span : Option Span) → entry ≡ other
    → result_of c other ≡ outer → IsSpanOf c outer side b span → IsSpanOf c (result_of c entry) side b span
covered_side c entry other outer side b span is result h =
    subst (λ box. IsSpanOf c box side b span) (sym (ap (result_of c) is ∙ result)) h
