-- The boxes as the steps of a code are made: where they stand, and how many literals are left to match.
use Rattle.std.proofs.Common.{◌≡◌, ◌≢◌, ℕ, ◌+◌, ◌<◌, ◌≤◌, List, [], ◌∷◌, ◌++◌, length, ◌⊎◌, refl, sym, ap, ◌∙◌, subst, inl, inr, arith}
use Rattle.std.specs.List.{All}
use Rattle.std.proofs.lemmas.Bool.{cases_eq}
use Rattle.std.proofs.lemmas.List.Elements.{All-head, All-tail, All-weaker}
use Rattle.plan_rule.specs.declared.literal.Literal.{Literal}
use Rattle.nogood_store.specs.declared.nogood.Nogood.{Nogood}
use Rattle.nogood_store.specs.declared.step.Step.{Step}
use Rattle.nogood_store.specs.Waits.{box_of, past, waits, Rising}
use Rattle.nogood_store.specs.Places.{to_match, AreFor}
use Rattle.nogood_store.specs.Steps.{entries_in, lists_after, IsStep, AreSteps}
use Rattle.nogood_store.proofs.PlaceLaws.{lacks_has, moved_has, has_moved, has_there, length-moved, to_match-moved}
use Rattle.nogood_store.proofs.WaitLaws.{past_is, past_ge, waits_else, waits_le, later_lt}
use Rattle.watch_chains.specs.Lists.{Has, AreDistinct, entries_of, moved}

-- steps that can be made, one after another: their entries stand in the next block's chain
pub record AreOpen (list : List Nogood) (codes : List ℕ) (code : ℕ) (lists : List (List ℕ)) (steps : List Step) : Type 0 where
  pub chains : length lists ≡ 33
  pub each : All (IsStep list codes code) steps
  pub distinct : AreDistinct (entries_in steps)
  pub here : (e : ℕ) → Has e (entries_in steps) → Has e (entries_of lists (length codes))

-- a box that no longer waits for a block waits for a later one
goes_on : (codes : List ℕ) (code to : ℕ) (box : List Literal) → Rising 0 box → waits codes box ≡ length codes → length codes < 32
    → waits (codes ++ code ∷ []) box ≡ to → to ≢ length codes → length codes < to
goes_on codes code to box rising is few goes other =
    let at : waits (codes ++ code ∷ []) box ≡ past (length codes) code box = past_is codes code 0 box rising (inl is) few in
    let ge = past_ge (length codes) code box (omega arith) in
    omega arith

-- the step's chain is one of the 33
pub chain_below : (list : List Nogood) (codes : List ℕ) (code : ℕ) (s : Step) → Rising 0 (box_of list s.entry) → IsStep list codes code s → s.chain < 33
chain_below list codes code s rising is =
    let below = waits_le (codes ++ code ∷ []) 0 (box_of list s.entry) rising in let goes = is.goes in omega arith

pub chains_below : (list : List Nogood) (codes : List ℕ) (code n : ℕ) (steps : List Step) → n ≡ 33
    → ((e : ℕ) → e < length list → Rising 0 (box_of list e)) → All (IsStep list codes code) steps → All (λ s. s.chain < n) steps
chains_below list codes code n steps all rising each = All-weaker (IsStep list codes code) (λ s. s.chain < n)
    (λ s is. let below = chain_below list codes code s (rising s.entry is.known) is in omega arith) steps each

-- once the first step is made the others can be made
open_next : (list : List Nogood) (codes : List ℕ) (code : ℕ) (lists : List (List ℕ)) (s : Step) (steps : List Step)
    → Rising 0 (box_of list s.entry) → AreOpen list codes code lists (s ∷ steps) → AreOpen list codes code (moved lists s.entry s.chain) steps
open_next list codes code lists s steps rising is =
    let first = All-head (IsStep list codes code) s steps is.each in
    let below = chain_below list codes code s rising first in
    let within : s.chain < length lists = let c = is.chains in omega arith in
    record {
      chains = length-moved lists s.entry s.chain ∙ is.chains;
      each = All-tail (IsStep list codes code) s steps is.each;
      distinct = is.distinct.1;
      here = λ e has. has_moved lists s.entry s.chain (length codes) e within (lacks_has s.entry e (entries_in steps) is.distinct.0 has) (is.here e (inr has));
    }

-- each step leaves fewer literals to match
pub steps_fit : (list : List Nogood) (codes : List ℕ) (code : ℕ) (lists : List (List ℕ)) (steps : List Step) → length codes < 32
    → ((e : ℕ) → e < length list → Rising 0 (box_of list e)) → AreOpen list codes code lists steps
    → to_match list 0 (lists_after lists steps) + length steps ≤ to_match list 0 lists
steps_fit list codes code lists [] few rising is = omega arith
steps_fit list codes code lists (s ∷ steps) few rising is =
    let first = All-head (IsStep list codes code) s steps is.each in
    let box = rising s.entry first.known in
    let next = open_next list codes code lists s steps box is in
    let rest = steps_fit list codes code (moved lists s.entry s.chain) steps few rising next in
    let below = chain_below list codes code s box first in
    let on = goes_on codes code s.chain (box_of list s.entry) box first.waited few first.goes first.other in
    let less = to_match-moved list lists s.entry (length codes) s.chain (is.here s.entry (inl refl)) (let c = is.chains in omega arith)
    (later_lt codes (length codes) s.chain (box_of list s.entry) first.waited few on) in
    omega arith

-- where the entries stand while steps are still to be made
record AreBetween (list : List Nogood) (codes : List ℕ) (code : ℕ) (lists : List (List ℕ)) (rest : List Step) : Type 0 where
  steps : AreOpen list codes code lists rest
  known : (i e : ℕ) → Has e (entries_of lists i) → e < length list
  only : (i e : ℕ) → Has e (entries_of lists i) → (waits (codes ++ code ∷ []) (box_of list e) ≡ i) ⊎ (Has e (entries_in rest) × (i ≡ length codes))
  there : (e : ℕ) → e < length list → Has e (entries_of lists (waits (codes ++ code ∷ []) (box_of list e))) ⊎ Has e (entries_in rest)

-- the steps of a code can be made where the entries stand for the codes before it
has_entry : (list : List Nogood) (codes : List ℕ) (code e : ℕ) (lists : List (List ℕ)) (steps : List Step) → AreFor list codes lists
    → All (IsStep list codes code) steps → Has e (entries_in steps) → Has e (entries_of lists (length codes))
has_entry list codes code e lists [] stand each has = absurd has
has_entry list codes code e lists (s ∷ steps) stand each has = elim has [
  | inl same ↦ let first = All-head (IsStep list codes code) s steps each in
      subst (λ j. Has j (entries_of lists (length codes))) same
      (subst (λ i. Has s.entry (entries_of lists i)) first.waited (stand.there s.entry first.known))
  | inr rest ↦ has_entry list codes code e lists steps stand (All-tail (IsStep list codes code) s steps each) rest
]

pub are_open : (list : List Nogood) (codes : List ℕ) (code : ℕ) (lists : List (List ℕ)) (steps : List Step) → AreFor list codes lists
    → All (IsStep list codes code) steps → AreDistinct (entries_in steps) → AreOpen list codes code lists steps
are_open list codes code lists steps stand each distinct = record {
  chains = stand.chains;
  each = each;
  distinct = distinct;
  here = λ e has. has_entry list codes code e lists steps stand each has;
}

-- a box that moves on is in the steps, and any other stays
goes_or_stays : (list : List Nogood) (codes : List ℕ) (code e : ℕ) (steps : List Step) → AreSteps list codes code steps → e < length list
    → Has e (entries_in steps) ⊎ (waits (codes ++ code ∷ []) (box_of list e) ≡ waits codes (box_of list e))
goes_or_stays list codes code e steps is within = elim (cases_eq (waits codes (box_of list e)) (length codes)) [
  | inr other ↦ inr (waits_else codes code (box_of list e) other)
  | inl here ↦ elim (cases_eq (waits (codes ++ code ∷ []) (box_of list e)) (length codes)) [
    | inl stays ↦ inr (stays ∙ sym here)
    | inr goes ↦ inl (is.all e within here goes)
  ]
]

between_start : (list : List Nogood) (codes : List ℕ) (code : ℕ) (lists : List (List ℕ)) (steps : List Step) → AreFor list codes lists
    → AreSteps list codes code steps → AreBetween list codes code lists steps
between_start list codes code lists steps stand is =
    let open_steps = are_open list codes code lists steps stand is.each is.distinct in
    record {
      steps = open_steps;
      known = stand.known;
      only = λ i e has. elim (goes_or_stays list codes code e steps is (stand.known i e has)) [
        | inl goes ↦ inr (goes, sym (stand.only i e has) ∙ stand.only (length codes) e (open_steps.here e goes))
        | inr stays ↦ inl (stays ∙ stand.only i e has)
      ];
      there = λ e within. elim (goes_or_stays list codes code e steps is within) [
        | inl goes ↦ inr goes
        | inr stays ↦ inl (subst (λ i. Has e (entries_of lists i)) (sym stays) (stand.there e within))
      ];
    }

between_next : (list : List Nogood) (codes : List ℕ) (code : ℕ) (lists : List (List ℕ)) (s : Step) (rest : List Step) → Rising 0 (box_of list s.entry)
    → AreBetween list codes code lists (s ∷ rest) → AreBetween list codes code (moved lists s.entry s.chain) rest
between_next list codes code lists s rest rising now =
    let first = All-head (IsStep list codes code) s rest now.steps.each in
    let below = chain_below list codes code s rising first in
    let within : s.chain < length lists = let c = now.steps.chains in omega arith in
    let here = now.steps.here s.entry (inl refl) in
    record {
      steps = open_next list codes code lists s rest rising now.steps;
      known = λ i x has. elim (moved_has lists s.entry s.chain i x within has) [
        | inl is ↦ subst (λ j. j < length list) (sym is.0) (now.known (length codes) s.entry here)
        | inr was ↦ now.known i x was.1
      ];
      only = λ i x has. elim (moved_has lists s.entry s.chain i x within has) [
        | inl is ↦ inl (ap (λ j. waits (codes ++ code ∷ []) (box_of list j)) is.0 ∙ first.goes ∙ sym is.1)
        | inr was ↦ elim (now.only i x was.1) [
          | inl done ↦ inl done
          | inr todo ↦ elim todo.0 [ inl same ↦ absurd (was.0 (sym same)) | inr later ↦ inr (later, todo.1) ]
        ]
      ];
      there = λ x in_list. elim (cases_eq x s.entry) [
        | inl same ↦ inl (subst (λ j. Has j (entries_of (moved lists s.entry s.chain) (waits (codes ++ code ∷ []) (box_of list j)))) (sym same)
            (subst (λ i. Has s.entry (entries_of (moved lists s.entry s.chain) i)) (sym first.goes) (has_there lists s.entry s.chain within)))
        | inr other ↦ elim (now.there x in_list) [
          | inl done ↦ inl (has_moved lists s.entry s.chain (waits (codes ++ code ∷ []) (box_of list x)) x within other done)
          | inr todo ↦ elim todo [ inl same ↦ absurd (other (sym same)) | inr later ↦ inr later ]
        ]
      ];
    }

between_end : (list : List Nogood) (codes : List ℕ) (code : ℕ) (lists : List (List ℕ)) (steps : List Step)
    → ((e : ℕ) → e < length list → Rising 0 (box_of list e)) → AreBetween list codes code lists steps
    → AreFor list (codes ++ code ∷ []) (lists_after lists steps)
between_end list codes code lists [] rising now = record {
  chains = now.steps.chains;
  there = λ e within. elim (now.there e within) [ inl done ↦ done | inr todo ↦ absurd todo ];
  known = now.known;
  only = λ i e has. elim (now.only i e has) [ inl done ↦ done | inr todo ↦ absurd todo.0 ];
}
between_end list codes code lists (s ∷ steps) rising now =
    let first = All-head (IsStep list codes code) s steps now.steps.each in
    between_end list codes code (moved lists s.entry s.chain) steps rising (between_next list codes code lists s steps (rising s.entry first.known) now)

-- once all steps are made each entry stands where it waits
pub stepped_for : (list : List Nogood) (codes : List ℕ) (code : ℕ) (lists : List (List ℕ)) (steps : List Step)
    → ((e : ℕ) → e < length list → Rising 0 (box_of list e)) → AreFor list codes lists → AreSteps list codes code steps
    → AreFor list (codes ++ code ∷ []) (lists_after lists steps)
stepped_for list codes code lists steps rising stand is = between_end list codes code lists steps rising (between_start list codes code lists steps stand is)
