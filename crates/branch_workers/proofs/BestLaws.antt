-- The best of the reported plans is the best plan.
use Rattle.std.proofs.Common.{◌≡◌, ℕ, zero, suc, ◌+◌, ◌<◌, ◌≤◌, List, [], ◌∷◌, ◌++◌, length, map, take, get_or, Option, Some, None, refl, sym, ap, ◌∙◌, subst, inl, inr, arith, All}
use Rattle.std.specs.Option.{IfSome}
use Rattle.std.proofs.lemmas.List.{map-append}
use Rattle.std.proofs.lemmas.List.Elements.{All-push, All-nil, All-cons, All-head, All-tail, All-contains, All-weaker, Contains-push, Contains-push_cases, Contains-append_left}
use Rattle.std.proofs.lemmas.Option.{none-some, same_Some}
use Rattle.plan_rule.proofs.SearchLaws.{before_self}
use Rattle.branch_core.specs.declared.report.Report.{Report}
use Rattle.branch_core.specs.Solved.{report_of}
use Rattle.plan_rule.specs.Choices.{Choices}
use Rattle.plan_rule.specs.Laws.{AreSmall}
use Rattle.plan_rule.specs.Paths.{key, Tile}
use Rattle.plan_rule.specs.Plans.{IsPlan, IsBefore, IsBest}
use Rattle.plan_rule.specs.Reports.{JobReport, IsBar, IsReached, IsLeast, IsBestOf, ReportsGiveBest}
use Rattle.plan_rule.proofs.OrderLaws.{before_trans}
use Rattle.branch_workers.specs.Best.{IsConsidered}
use Rattle.branch_workers.specs.Last.{IsLast}
use Rattle.branch_workers.specs.Work.{IsSound, job_of_report}
use Rattle.branch_workers.proofs.LastLaws.{told_of}
use Rattle.branch_workers.proofs.ReportLaws.{best_within}

-- one report more is considered
best_push : (c : Choices) (ts : List JobReport) (t : JobReport) (b old new : Option (List ℕ)) → t.best ≡ b → IsBestOf c ts old → IsConsidered c old b new → IsBestOf c (ts ++ t ∷ []) new
best_push c ts t None None new e of is = subst (IsBestOf c (ts ++ t ∷ [])) (sym is) (All-push (λ (r : JobReport). r.best ≡ None) ts t of e)
best_push c ts t None (Some q) new e ((r, inside, at), others) is = subst (IsBestOf c (ts ++ t ∷ [])) (sym is) (
  (r, Contains-append_left ts (t ∷ []) r inside, at),
  λ s m i f before. elim (Contains-push_cases ts t s i) [
    | inl earlier ↦ others s m earlier f before
    | inr same ↦ none-some m (sym e ∙ ap (λ (t : JobReport). t.best) same ∙ f)
  ],
)
best_push c ts t (Some p) None new e of (n, is, better) = subst (IsBestOf c (ts ++ t ∷ [])) (sym (is ∙ ap (λ (n : List ℕ). Some n) better)) (
  (t, Contains-push ts t, e),
  λ s m i f before. elim (Contains-push_cases ts t s i) [
    | inl earlier ↦ none-some m (sym (All-contains (λ (r : JobReport). r.best ≡ None) ts s of earlier) ∙ f)
    | inr same ↦ before_self c p (subst (λ m. IsBefore c m p) (sym (same_Some p m (sym e ∙ ap (λ (t : JobReport). t.best) same ∙ f))) before)
  ],
)
best_push c ts t (Some p) (Some q) new e ((r, inside, at), others) (n, is, better) = elim better [
  | inl (n_is, not_before) ↦ subst (IsBestOf c (ts ++ t ∷ [])) (sym (is ∙ ap (λ (n : List ℕ). Some n) n_is)) (
    (r, Contains-append_left ts (t ∷ []) r inside, at),
    λ s m i f before. elim (Contains-push_cases ts t s i) [
      | inl earlier ↦ others s m earlier f before
      | inr same ↦ not_before (subst (λ m. IsBefore c m q) (sym (same_Some p m (sym e ∙ ap (λ (t : JobReport). t.best) same ∙ f))) before)
    ],
  )
  | inr (n_is, first) ↦ subst (IsBestOf c (ts ++ t ∷ [])) (sym (is ∙ ap (λ (n : List ℕ). Some n) n_is)) (
    (t, Contains-push ts t, e),
    λ s m i f before. elim (Contains-push_cases ts t s i) [
      | inl earlier ↦ others s m earlier f (before_trans c m p q before first)
      | inr same ↦ before_self c p (subst (λ m. IsBefore c m p) (sym (same_Some p m (sym e ∙ ap (λ (t : JobReport). t.best) same ∙ f))) before)
    ],
  )
]

take_push : (rs : List Report) (i : ℕ) (d : Report) → i < length rs → take (i + 1) rs ≡ take i rs ++ get_or rs i d ∷ []
take_push rs i d l = subst (λ n. take n rs ≡ take i rs ++ get_or rs i d ∷ []) (let e : suc i ≡ i + 1 = omega arith in e) (go rs i l)
  where
    go : (rs : List Report) (i : ℕ) → i < length rs → take (suc i) rs ≡ take i rs ++ get_or rs i d ∷ []
    go [] i l = absurd (omega arith)
    go (r ∷ rs) zero l = refl
    go (r ∷ rs) (suc i) l = ap (λ l. r ∷ l) (go rs i (omega arith))

pub considered : (c : Choices) (rs : List Report) (i : ℕ) (d : Report) (old new : Option (List ℕ)) → i < length rs → IsBestOf c (map report_of (take i rs)) old → IsConsidered c old (get_or rs i d).best new → IsBestOf c (map report_of (take (i + 1) rs)) new
considered c rs i d old new l of is =
    let r = get_or rs i d in
    subst (λ (ts : List JobReport). IsBestOf c ts new) (sym (ap (map report_of) (take_push rs i d l) ∙ map-append report_of (take i rs) (r ∷ []))) (best_push c (map report_of (take i rs)) (report_of r) r.best old new refl of is)

-- and so is the best so far
pub best_plan : (c : Choices) (rs : List Report) (i : ℕ) (b : Option (List ℕ)) → All (λ (r : Report). IsReached c (report_of r)) rs → IsBestOf c (map report_of (take i rs)) b → IfSome b (IsPlan c)
best_plan c rs i None reached of = tt
best_plan c rs i (Some p) reached ((t, (k, l, at), is), others) =
    let (s, inside, same) = told_of (take i rs) t k l at in
    (All-contains (λ (r : Report). IsReached c (report_of r)) (take i rs) s (front rs i reached) inside p (ap (λ (t : JobReport). t.best) same ∙ is)).0.is_plan
  where
    front : (rs : List Report) (i : ℕ) → All (λ (r : Report). IsReached c (report_of r)) rs → All (λ (r : Report). IsReached c (report_of r)) (take i rs)
    front [] zero all = All-nil (λ (r : Report). IsReached c (report_of r))
    front [] (suc i) all = All-nil (λ (r : Report). IsReached c (report_of r))
    front (r ∷ rs) zero all = All-nil (λ (r : Report). IsReached c (report_of r))
    front (r ∷ rs) (suc i) all = All-cons (λ (r : Report). IsReached c (report_of r)) r (take i rs) (All-head (λ (r : Report). IsReached c (report_of r)) r rs all) (front rs i (All-tail (λ (r : Report). IsReached c (report_of r)) r rs all))

all_told : (P : JobReport → Type 0) (rs : List Report) → All (λ (r : Report). P (report_of r)) rs → All P (map report_of rs)
all_told P [] all = All-nil P
all_told P (r ∷ rs) all = All-cons P (report_of r) (map report_of rs) (All-head (λ (r : Report). P (report_of r)) r rs all) (all_told P rs (All-tail (λ (r : Report). P (report_of r)) r rs all))

jobs_told : (rs : List Report) → map (λ (r : JobReport). r.job) (map report_of rs) ≡ map job_of_report rs
jobs_told [] = refl
jobs_told (r ∷ rs) = ap (λ l. r.job ∷ l) (jobs_told rs)

pub best_is : (c : Choices) (rs : List Report) (t : Option (List ℕ)) → ReportsGiveBest c → Tile (map job_of_report rs) → All (IsSound c) rs → IsBestOf c (map report_of rs) t → IsBest c t
best_is c rs t law tile sound of = law (map report_of rs) t record {
  tile = subst Tile (sym (jobs_told rs)) tile;
  reached = all_told (IsReached c) rs (All-weaker (IsSound c) (λ (r : Report). IsReached c (report_of r)) (λ r h. h.reached) rs sound);
  least = all_told (IsLeast c) rs (All-weaker (IsSound c) (λ (r : Report). IsLeast c (report_of r)) (λ r h. h.least) rs sound);
  bars = all_told (λ r. IsBar c r.seen) rs (All-weaker (IsSound c) (λ (r : Report). IsBar c r.seen) (λ r h. h.bar) rs sound);
} of

-- the word with which the board ends is the best plan's key
pub last_is : (c : Choices) (best : Option (List ℕ)) (word : ℕ) (rs : List Report) → AreSmall c → IsBest c best → IsBestOf c (map report_of rs) best → All (IsSound c) rs → IsBar c word → All (λ (r : Report). word ≤ r.seen) rs → IsLast c best word
last_is c None word rs small best of sound bar low = best_within c None word small best bar
last_is c (Some p) word rs small best ((t, (k, l, at), is), others) sound bar low =
    let (s, inside, same) = told_of rs t k l at in
    let at_most = ((All-contains (IsSound c) rs s sound inside).reached p (ap (λ (t : JobReport). t.best) same ∙ is)).2 in
    let below = All-contains (λ (r : Report). word ≤ r.seen) rs s low inside in
    let above = (best_within c (Some p) word small best bar).1 in
    omega arith

pub sound_reached : (c : Choices) (rs : List Report) → All (IsSound c) rs → All (λ (r : Report). IsReached c (report_of r)) rs
sound_reached c rs sound = All-weaker (IsSound c) (λ (r : Report). IsReached c (report_of r)) (λ r h. h.reached) rs sound

pub considered_old : (c : Choices) (best b : Option (List ℕ)) (plan old : List ℕ) → b ≡ Some plan → best ≡ Some old → (IsBefore c plan old → ⊥) → IsConsidered c best b (Some old)
considered_old c best b plan old b_is best_is not_before =
    subst (λ (z : Option (List ℕ) × Option (List ℕ)). IsConsidered c z.0 z.1 (Some old)) (λ i. (sym best_is i, sym b_is i)) (old, refl, inl (refl, not_before))

pub considered_item : (c : Choices) (rs : List Report) (i : ℕ) (r : Report) (old new : Option (List ℕ)) → i < length rs → r ≡ get_or rs i r → IsBestOf c (map report_of (take i rs)) old → IsConsidered c old r.best new → IsBestOf c (map report_of (take (i + 1) rs)) new
considered_item c rs i r old new l at of is = considered c rs i r old new l of (subst (λ (s : Report). IsConsidered c old s.best new) at is)
