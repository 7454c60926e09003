-- The steps of a chain as it is walked, and the steps that are known with a box more.
use Rattle.std.proofs.Common.{◌≡◌, ◌≢◌, ℕ, ◌+◌, ◌-◌, ◌<◌, ◌≤◌, List, [], ◌∷◌, ◌++◌, length, refl, sym, ap, ◌∙◌, subst, inl, inr, arith, ◌⊎◌}
use Rattle.std.specs.List.{All}
use Rattle.std.proofs.lemmas.Bool.{cases_lt}
use Rattle.std.proofs.lemmas.List.{map-append, length_push}
use Rattle.std.proofs.lemmas.List.Elements.{All-cons, All-head, All-tail, All-nil, All-append, All-weaker}
use Rattle.watch_chains.proofs.SoundLaws.{lacks_if}
use Rattle.nogood_store.specs.declared.nogood.Nogood.{Nogood}
use Rattle.nogood_store.specs.declared.step.Step.{Step}
use Rattle.nogood_store.specs.Waits.{box_of, waits, Rising}
use Rattle.nogood_store.specs.Places.{AreFor, to_match}
use Rattle.nogood_store.specs.Steps.{entries_in, IsStep, AreSteps}
use Rattle.nogood_store.proofs.AmongLaws.{has_push, has_left, has_right}
use Rattle.nogood_store.proofs.AddLaws.{box_old}
use Rattle.nogood_store.proofs.PlaceLaws.{lacks_has}
use Rattle.nogood_store.proofs.StepLaws.{are_open, steps_fit}
use Rattle.watch_chains.specs.Lists.{Has, Lacks, AreDistinct}

lacks_push : (y e : ℕ) (xs : List ℕ) → e ≢ y → Lacks y xs → Lacks y (xs ++ e ∷ [])
lacks_push y e [] other lacks = (other, tt)
lacks_push y e (x ∷ xs) other lacks = (lacks.0, lacks_push y e xs other lacks.1)

distinct_push : (xs : List ℕ) (e : ℕ) → AreDistinct xs → Lacks e xs → AreDistinct (xs ++ e ∷ [])
distinct_push [] e distinct lacks = (tt, tt)
distinct_push (x ∷ xs) e distinct lacks = (lacks_push x e xs (λ same. lacks.0 (sym same)) distinct.0, distinct_push xs e distinct.1 lacks.1)

entries_push : (steps : List Step) (s : Step) → entries_in (steps ++ s ∷ []) ≡ entries_in steps ++ s.entry ∷ []
entries_push steps s = map-append (λ (t : Step). t.entry) steps (s ∷ [])

all_push : (list : List Nogood) (codes : List ℕ) (code : ℕ) (steps : List Step) (s : Step) → All (IsStep list codes code) steps → IsStep list codes code s
    → All (IsStep list codes code) (steps ++ s ∷ [])
all_push list codes code steps s all is =
    All-append (IsStep list codes code) steps (s ∷ []) all (All-cons (IsStep list codes code) s [] is (All-nil (IsStep list codes code)))

-- the steps of the entries that were walked over
pub record AreGathered (list : List Nogood) (codes : List ℕ) (code : ℕ) (before : List ℕ) (steps : List Step) : Type 0 where
  pub each : All (IsStep list codes code) steps
  pub distinct : AreDistinct (entries_in steps)
  pub from : (e : ℕ) → Has e (entries_in steps) → Has e before
  pub all : (e : ℕ) → Has e before → waits (codes ++ code ∷ []) (box_of list e) ≢ length codes → Has e (entries_in steps)

pub gather_none : (list : List Nogood) (codes : List ℕ) (code : ℕ) → AreGathered list codes code [] []
gather_none list codes code = record {
  each = All-nil (IsStep list codes code);
  distinct = tt;
  from = λ e has. has;
  all = λ e has goes. has;
}

pub gather_stay : (list : List Nogood) (codes : List ℕ) (code e : ℕ) (before : List ℕ) (steps : List Step) → AreGathered list codes code before steps
    → waits (codes ++ code ∷ []) (box_of list e) ≡ length codes → AreGathered list codes code (before ++ e ∷ []) steps
gather_stay list codes code e before steps is stays = record {
  each = is.each;
  distinct = is.distinct;
  from = λ x has. has_left x before (e ∷ []) (is.from x has);
  all = λ x has goes. elim (has_push x e before has) [
    | inl old ↦ is.all x old goes
    | inr same ↦ absurd (goes (ap (λ j. waits (codes ++ code ∷ []) (box_of list j)) same ∙ stays))
  ];
}

pub gather_go : (list : List Nogood) (codes : List ℕ) (code : ℕ) (before : List ℕ) (steps : List Step) (s : Step) → AreGathered list codes code before steps
    → IsStep list codes code s → Lacks s.entry before
    → AreGathered list codes code (before ++ s.entry ∷ []) (steps ++ s ∷ [])
gather_go list codes code before steps s is step lacks = record {
  each = all_push list codes code steps s is.each step;
  distinct = subst AreDistinct (sym (entries_push steps s))
      (distinct_push (entries_in steps) s.entry is.distinct (lacks_if s.entry (entries_in steps) (λ has. lacks_has s.entry s.entry before lacks (is.from s.entry has) refl)));
  from = λ x has. elim (has_push x s.entry (entries_in steps) (subst (Has x) (entries_push steps s) has)) [
    | inl old ↦ has_left x before (s.entry ∷ []) (is.from x old)
    | inr same ↦ has_right x before (s.entry ∷ []) (inl (sym same))
  ];
  all = λ x has goes. subst (Has x) (sym (entries_push steps s)) (elim (has_push x s.entry before has) [
    | inl old ↦ has_left x (entries_in steps) (s.entry ∷ []) (is.all x old goes)
    | inr same ↦ has_right x (entries_in steps) (s.entry ∷ []) (inl (sym same))
  ]);
}

-- a box more leaves the steps of the others
step_old : (list : List Nogood) (n : Nogood) (codes : List ℕ) (code : ℕ) (s : Step) → IsStep list codes code s → IsStep (list ++ n ∷ []) codes code s
step_old list n codes code s is =
    let same = box_old list n s.entry is.known in
    let size = length_push list n in
    let known = is.known in
    record {
      known = omega arith;
      waited = ap (waits codes) same ∙ is.waited;
      goes = ap (waits (codes ++ code ∷ [])) same ∙ is.goes;
      other = is.other;
    }

steps_old : (list : List Nogood) (n : Nogood) (codes : List ℕ) (code : ℕ) (steps : List Step) → All (IsStep list codes code) steps
    → All (IsStep (list ++ n ∷ []) codes code) steps
steps_old list n codes code steps each =
    All-weaker (IsStep list codes code) (IsStep (list ++ n ∷ []) codes code) (λ s is. step_old list n codes code s is) steps each

-- a box is one of the others, or the new one
old_or_new : (list : List Nogood) (n : Nogood) (e : ℕ) → e < length (list ++ n ∷ []) → (e < length list) ⊎ (e ≡ length list)
old_or_new list n e within = elim (cases_lt e (length list)) [
  | inl less ↦ inl less
  | inr more ↦ inr (let size = length_push list n in omega arith)
]

entries_below : (list : List Nogood) (codes : List ℕ) (code e : ℕ) (steps : List Step) → All (IsStep list codes code) steps → Has e (entries_in steps) → e < length list
entries_below list codes code e [] each has = absurd has
entries_below list codes code e (s ∷ steps) each has = elim has [
  | inl same ↦ subst (λ j. j < length list) same (All-head (IsStep list codes code) s steps each).known
  | inr rest ↦ entries_below list codes code e steps (All-tail (IsStep list codes code) s steps each) rest
]

-- the new box moves on
pub known_go : (list : List Nogood) (n : Nogood) (codes : List ℕ) (code : ℕ) (steps : List Step) (s : Step) → AreSteps list codes code steps
    → IsStep (list ++ n ∷ []) codes code s → s.entry ≡ length list → AreSteps (list ++ n ∷ []) codes code (steps ++ s ∷ [])
known_go list n codes code steps s is step last = record {
  each = all_push (list ++ n ∷ []) codes code steps s (steps_old list n codes code steps is.each) step;
  distinct = subst AreDistinct (sym (entries_push steps s)) (distinct_push (entries_in steps) s.entry is.distinct
      (lacks_if s.entry (entries_in steps) (λ has. let below = entries_below list codes code s.entry steps is.each has in omega arith)));
  all = λ e within here goes. subst (Has e) (sym (entries_push steps s)) (elim (old_or_new list n e within) [
    | inl old ↦ let same = box_old list n e old in has_left e (entries_in steps) (s.entry ∷ [])
        (is.all e old (ap (waits codes) (sym same) ∙ here) (λ stay. goes (ap (waits (codes ++ code ∷ [])) same ∙ stay)))
    | inr new ↦ has_right e (entries_in steps) (s.entry ∷ []) (inl (last ∙ sym new))
  ]);
}

-- the last box moves on
pub all_go : (list front : List Nogood) (n : Nogood) (codes : List ℕ) (code : ℕ) (known : List Step) (s : Step) → list ≡ front ++ n ∷ []
    → AreSteps front codes code known → IsStep list codes code s → s.entry ≡ length list - 1 → AreSteps list codes code (known ++ s ∷ [])
all_go list front n codes code known s is steps step last =
    let size : length list ≡ length front + 1 = ap length is ∙ length_push front n in
    subst (λ t. AreSteps t codes code (known ++ s ∷ [])) (sym is)
    (known_go front n codes code known s steps (subst (λ t. IsStep t codes code s) is step) (omega arith))

-- there is room for the steps that can be made
pub steps_room : (list : List Nogood) (codes : List ℕ) (code : ℕ) (lists : List (List ℕ)) (steps : List Step) → AreFor list codes lists
    → length codes < 32 → ((e : ℕ) → e < length list → Rising 0 (box_of list e)) → All (IsStep list codes code) steps → AreDistinct (entries_in steps)
    → length steps ≤ to_match list 0 lists
steps_room list codes code lists steps stand few rising each distinct =
    let fit = steps_fit list codes code lists steps few rising (are_open list codes code lists steps stand each distinct) in omega arith

pub known_room : (list front : List Nogood) (n : Nogood) (codes : List ℕ) (code : ℕ) (lists : List (List ℕ)) (known : List Step) → list ≡ front ++ n ∷ []
    → AreFor list codes lists → length codes < 32 → ((e : ℕ) → e < length list → Rising 0 (box_of list e)) → AreSteps front codes code known
    → length known ≤ to_match list 0 lists
known_room list front n codes code lists known is stand few rising steps =
    steps_room list codes code lists known stand few rising
    (subst (λ t. All (IsStep t codes code) known) (sym is) (steps_old front n codes code known steps.each)) steps.distinct
