-- A log that is appended to another keeps its steps: its citations only move.
use Rattle.std.proofs.Common.{◌≡◌, ℕ, zero, suc, ◌+◌, ◌-◌, ◌<◌, ◌≤◌, List, [], ◌∷◌, ◌++◌, length, map, take, Option, Some, ◌⊎◌, refl, sym, ap, ◌∙◌, subst, inl, inr, arith, length-append, append-nil}
use Rattle.std.specs.Prelude.{slice_get}
use Rattle.std.specs.List.{All, Contains}
use Rattle.std.proofs.lemmas.List.Elements.{All-head, All-tail, All-nil, All-cons}
use Rattle.std.proofs.lemmas.Bool.{cases_lt}
use Rattle.common_lists.proofs.ListLaws.{get_before, map_length, get_map, take_before, get_within}
use Rattle.plan_rule.specs.declared.literal.Literal.{Literal}
use Rattle.plan_rule.specs.Choices.{Choices}
use Rattle.plan_rule.specs.Boxes.{Covers, with_literal, exact}
use Rattle.refutation_log.specs.declared.record.Record.{Record}
use Rattle.refutation_log.specs.declared.record.Record.TheVariants.{Branch, Fit, Energy}
use Rattle.refutation_log.specs.Steps.{result_of, IsCited, IsStep, IsStepAt}
use Rattle.refutation_log.specs.Logs.{raised, appended, AreSteps}

pub same_result : (c : Choices) (n : ℕ) (r : Record) → result_of c (raised n r) ≡ result_of c r
same_result c n (Branch b lo hi side cites) = refl
same_result c n (Fit side) = refl
same_result c n (Energy from to side) = refl

get_from : {X : Type 0} (xs ys : List X) (k n : ℕ) (x : X) → n ≡ length xs + k → slice_get ys k ≡ Some x → slice_get (xs ++ ys) n ≡ Some x
get_from [] ys k n x e at = let same : k ≡ n = omega arith in subst (λ i. slice_get ys i ≡ Some x) same at
get_from (y ∷ xs) ys k zero x e at = absurd (omega arith)
get_from (y ∷ xs) ys k (suc n) x e at = get_from xs ys k n x (omega arith) at

pub get_after : {X : Type 0} (xs ys : List X) (k : ℕ) (x : X) → slice_get ys k ≡ Some x → slice_get (xs ++ ys) (length xs + k) ≡ Some x
get_after xs ys k x at = get_from xs ys k (length xs + k) x refl at

take_from : {X : Type 0} (xs ys : List X) (i n : ℕ) → n ≡ length xs + i → take n (xs ++ ys) ≡ xs ++ take i ys
take_from [] ys i n e = let same : n ≡ i = omega arith in ap (λ i. take i ys) same
take_from (x ∷ xs) ys i zero e = absurd (omega arith)
take_from (x ∷ xs) ys i (suc n) e = ap (λ l. x ∷ l) (take_from xs ys i n (omega arith))

take_after : {X : Type 0} (xs ys : List X) (i : ℕ) → take (length xs + i) (xs ++ ys) ≡ xs ++ take i ys
take_after xs ys i = take_from xs ys i (length xs + i) refl

take_map : {X Y : Type 0} (f : X → Y) (xs : List X) (i : ℕ) → take i (map f xs) ≡ map f (take i xs)
take_map f xs zero = refl
take_map f [] (suc i) = refl
take_map f (x ∷ xs) (suc i) = ap (λ l. f x ∷ l) (take_map f xs i)

contains_map : {X Y : Type 0} (f : X → Y) (xs : List X) (x : X) → Contains xs x → Contains (map f xs) (f x)
contains_map f [] x (k, l, e) = absurd (omega arith)
contains_map f (y ∷ xs) x (zero, l, e) = (0, omega arith, ap f e)
contains_map f (y ∷ xs) x (suc k, l, e) = let (j, m, d) = contains_map f xs x (k, omega arith, e) in (suc j, omega arith, d)

all_raised : (n m : ℕ) (cites : List ℕ) → All (λ k. k < m) cites → All (λ k. k < n + m) (map (λ k. k + n) cites)
all_raised n m [] all = All-nil (λ k. k < n + m)
all_raised n m (k ∷ cites) all = let h = All-head (λ k. k < m) k cites all in
    All-cons (λ k. k < n + m) (k + n) (map (λ k. k + n) cites) (omega arith) (all_raised n m cites (All-tail (λ k. k < m) k cites all))

cited_after : (c : Choices) (log earlier : List Record) (cites : List ℕ) (box : List Literal) → IsCited c earlier cites box → IsCited c (appended log earlier) (map (λ k. k + length log) cites) box
cited_after c log earlier cites box (k, r, inside, at, cover) = (
  k + length log,
  raised (length log) r,
  contains_map (λ k. k + length log) cites k inside,
  (let e : length log + k ≡ k + length log = omega arith in
      subst (λ i. slice_get (appended log earlier) i ≡ Some (raised (length log) r)) e
      (get_after log (map (raised (length log)) earlier) k (raised (length log) r) (get_map (raised (length log)) earlier k r at))),
  subst (λ box'. Covers c box' box) (sym (same_result c (length log) r)) cover,
)

step_after : (c : Choices) (t : Option (List ℕ)) (log earlier : List Record) (r : Record) → IsStep c t earlier r → IsStep c t (appended log earlier) (raised (length log) r)
step_after c t log earlier (Branch b lo hi side cites) s = record {
  side_is = s.side_is;
  block = s.block;
  free = s.free;
  range = s.range;
  earlier_only = subst (λ n. All (λ k. k < n) (map (λ k. k + length log) cites))
      (ap (λ n. length log + n) (sym (map_length (raised (length log)) earlier)) ∙ sym (length-append log (map (raised (length log)) earlier)))
      (all_raised (length log) (length earlier) cites s.earlier_only);
  covered = λ code a e. elim (s.covered code a e) [
    | inl clash ↦ inl clash
    | inr others ↦ elim others [
      | inl meets ↦ inr (inl meets)
      | inr more ↦ elim more [
        | inl bound ↦ inr (inr (inl bound))
        | inr cited ↦ inr (inr (inr (cited_after c log earlier cites (with_literal side (exact b code)) cited)))
      ]
    ]
  ];
}
step_after c t log earlier (Fit side) s = s
step_after c t log earlier (Energy from to side) s = s

-- a step of the second log is one of the whole
pub later_step : (c : Choices) (t : Option (List ℕ)) (log other : List Record) (i : ℕ) → IsStepAt c t other i → IsStepAt c t (appended log other) (length log + i)
later_step c t log other i (r, at, step) = (
  raised (length log) r,
  get_after log (map (raised (length log)) other) i (raised (length log) r) (get_map (raised (length log)) other i r at),
  subst (λ earlier. IsStep c t earlier (raised (length log) r))
      (sym (take_after log (map (raised (length log)) other) i ∙ ap (λ l. log ++ l) (take_map (raised (length log)) other i)))
      (step_after c t log (take i other) r step),
)

-- a step of the first log is one of the whole, whatever follows
pub earlier_step : (c : Choices) (t : Option (List ℕ)) (log more : List Record) (i : ℕ) → IsStepAt c t log i → IsStepAt c t (log ++ more) i
earlier_step c t log more i (r, at, step) =
    (r, get_before log more i r at, subst (λ earlier. IsStep c t earlier r) (sym (take_before log more i (let w = get_within log i r at in omega arith))) step)

-- both logs' steps are steps of the whole
pub appended_steps : (c : Choices) (t : Option (List ℕ)) (log other : List Record) → AreSteps c t log → AreSteps c t other → AreSteps c t (appended log other)
appended_steps c t log other steps more i l = by_place (cases_lt i (length log))
  where
    by_place : (i < length log) ⊎ (length log ≤ i) → IsStepAt c t (appended log other) i
    by_place (inl here) = earlier_step c t log (map (raised (length log)) other) i (steps i here)
    by_place (inr after) =
        let n = length-append log (map (raised (length log)) other) in let m = map_length (raised (length log)) other in
        let e : length log + (i - length log) ≡ i = omega arith in
        subst (IsStepAt c t (appended log other)) e (later_step c t log other (i - length log) (more (i - length log) (omega arith)))

-- a record pushed after a log of steps
pub pushed_steps : (c : Choices) (t : Option (List ℕ)) (log : List Record) (r : Record) → AreSteps c t log → IsStep c t log r → AreSteps c t (log ++ r ∷ [])
pushed_steps c t log r steps step i l = by_place (cases_lt i (length log))
  where
    by_place : (i < length log) ⊎ (length log ≤ i) → IsStepAt c t (log ++ r ∷ []) i
    by_place (inl here) = earlier_step c t log (r ∷ []) i (steps i here)
    by_place (inr after) =
        let n = length-append log (r ∷ []) in
        let e : length log + 0 ≡ i = omega arith in
        subst (IsStepAt c t (log ++ r ∷ [])) e
        (r, get_after log (r ∷ []) 0 r refl, subst (λ earlier. IsStep c t earlier r) (sym (take_after log (r ∷ []) 0 ∙ append-nil log)) step)
