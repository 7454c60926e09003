-- What is hindered beside some exact blocks is so beside more of them.
use Rattle.std.proofs.Common.{◌≡◌, ℕ, ◌+◌, ◌<◌, ◌≤◌, List, [], length, get_or, replicate, ◌⊎◌, sym, ap, ◌∙◌, subst, inl, inr, arith}
use Rattle.std.specs.Prelude.{All, Contains, None, slice_index, slice_set}
use Rattle.std.proofs.lemmas.Bool.{cases_eq, cases_lt}
use Rattle.std.proofs.lemmas.List.{get_or-replicate, get_or-set_other, get_or-set_same, get_or_default}
use Rattle.std.proofs.lemmas.List.Elements.{All-contains}
use Rattle.shape_exact.specs.Yards.{PlainYard}
use Rattle.log_checker.specs.declared.exact.Exact.{Exact}
use Rattle.log_checker.specs.ExactBlocks.{IsStanding}
use Rattle.log_checker.specs.Leasts.{IsLeastClearBelow}
use Rattle.log_checker.specs.PassedCodes.{AreHinderedTo}
use Rattle.log_checker.specs.Spans.{InOne}
use Rattle.log_checker.specs.Walks.{IsHindered}
use Rattle.log_checker.proofs.FreeLaws.{not_clear}
use Rattle.log_checker.proofs.WalkLaws.{in_no_span}

-- a code that some exact blocks or a piece hinder is hindered beside more of them
pub hindered_more : (yard : PlainYard) (list exacts : List Exact) (b k : ℕ) → All (Contains exacts) list → IsHindered yard list b k → IsHindered yard exacts b k
hindered_more yard list exacts b k among hindered = elim hindered [
  | inl met ↦
      let (p, at, here) = met in
      let (i, f, within, is, clash) = here in
      let (j, inside, has) = All-contains (Contains exacts) list f among (i, within, is) in
      inl (p, at, (j, f, inside, has, clash))
  | inr met ↦ inr met
]

pub hindered_all : (yard : PlainYard) (list exacts : List Exact) (b n : ℕ) → All (Contains exacts) list → AreHinderedTo yard list b n
    → AreHinderedTo yard exacts b n
hindered_all yard list exacts b n among all k below = hindered_more yard list exacts b k among (all k below)

-- the limits hold for each of them
pub standing_among : (yard : PlainYard) (list exacts : List Exact) → All (Contains exacts) list → All (IsStanding yard) exacts → All (IsStanding yard) list
standing_among yard list exacts among standing k d within =
    All-contains (IsStanding yard) exacts (get_or list k d) standing (among k d within)

-- a count more that is right
pub passed_more : (yard : PlainYard) (list : List Exact) (counts : List ℕ) (b n : ℕ) → b < length counts
    → ((a : ℕ) → a < 32 → AreHinderedTo yard list a (slice_index counts a)) → AreHinderedTo yard list b n
    → (a : ℕ) → a < 32 → AreHinderedTo yard list a (slice_index (slice_set counts b n) a)
passed_more yard list counts b n within all here a low = elim (cases_eq a b) [
  | inl same ↦
      let at : slice_index (slice_set counts b n) a ≡ n = ap (slice_index (slice_set counts b n)) same ∙ get_or-set_same counts b n 0 within in
      subst (AreHinderedTo yard list a) (sym at) (subst (λ a. AreHinderedTo yard list a n) (sym same) here)
  | inr differ ↦
      let at : slice_index (slice_set counts b n) a ≡ slice_index counts a = get_or-set_other counts b a n 0 differ in
      subst (AreHinderedTo yard list a) (sym at) (all a low)
]

-- below codes that are all hindered no code is clear
pub none_below : (yard : PlainYard) (exacts : List Exact) (b n limit : ℕ) → AreHinderedTo yard exacts b n → IsLeastClearBelow yard exacts b n limit None
none_below yard exacts b n limit all = λ x w. absurd (not_clear yard exacts b x (all x w.0) w.1)

-- a walk goes on over codes that are all hindered
pub hindered_on : (yard : PlainYard) (exacts : List Exact) (b n code next : ℕ) → AreHinderedTo yard exacts b n
    → ((k : ℕ) → n ≤ k → k < code → InOne [] k ⊎ IsHindered yard exacts b k) → next ≤ code → AreHinderedTo yard exacts b next
hindered_on yard exacts b n code next before after within k below = elim (cases_lt k n) [
  | inl less ↦ before k less
  | inr more ↦ elim (after k more (omega arith)) [ inl inside ↦ absurd (in_no_span k inside) | inr hindered ↦ hindered ]
]

-- no code is below the count of no codes
pub none_yet : (yard : PlainYard) (list : List Exact) (a : ℕ) → a < 32 → AreHinderedTo yard list a (slice_index (replicate 32 0) a)
none_yet yard list a less k below =
    let zero : slice_index (replicate 32 0) a ≡ 0 = get_or-replicate 32 a 0 0 less in absurd (omega arith)

-- one more of a list is among the others
pub among_more : (list others : List Exact) (i : ℕ) (e : Exact) → i < length list → Contains others (get_or list i e)
    → ((k : ℕ) (d : Exact) → k < i → Contains others (get_or list k d)) → (k : ℕ) (d : Exact) → k < i + 1 → Contains others (get_or list k d)
among_more list others i e within here before k d below = elim (cases_lt k i) [
  | inl less ↦ before k d less
  | inr more ↦
      let same : k ≡ i = omega arith in
      let at : get_or list k d ≡ get_or list i e = ap (λ k. get_or list k d) same ∙ get_or_default list i d e within in
      subst (Contains others) (sym at) here
]
