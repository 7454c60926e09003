-- The record that closes a log.
use Rattle.std.proofs.Common.{◌≡◌, ℕ, zero, suc, ◌+◌, ◌<◌, List, [], ◌∷◌, ◌++◌, length, Bool, Option, Some, Result, Ok, Err, IfOk, refl, sym, ap, ap₂, ◌∙◌, subst, inl, inr, arith, length-append}
use Rattle.std.specs.Prelude.{slice_get, ◌&&◌, if◌then◌else◌}
use Rattle.std.proofs.lemmas.Bool.{cases_lt, eq-eqb}
use Rattle.std.proofs.lemmas.List.Elements.{All-nil, All-cons}
use Rattle.std.proofs.lemmas.Option.{none-some}
use Rattle.common_lists.proofs.ListLaws.{get_within}
use Rattle.plan_rule.specs.Boxes.{IsBox, IsLiteral, with_literal, exact}
use Rattle.plan_rule.specs.Choices.{Choices, blocks, count}
use Rattle.plan_rule.specs.Fronts.{HasCodes}
use Rattle.plan_rule.specs.Plans.{IsAnswer}
use Rattle.plan_rule.specs.declared.literal.Literal.{Literal}
use Rattle.plan_rule.proofs.PathLaws.{path-below}
use Rattle.plan_rule.proofs.EmptyLaws.{empty_box}
use Rattle.refutation_log.specs.declared.record.Record.{Record}
use Rattle.refutation_log.specs.declared.record.Record.TheVariants.{Branch}
use Rattle.refutation_log.specs.Logs.{AreSteps}
use Rattle.refutation_log.specs.Steps.{result_of, IsStep, IsAccepted}
use Rattle.refutation_log.proofs.AppendedLaws.{get_after, pushed_steps}
use Rattle.log_merge.specs.Closing.{AllExist, CoversRoot}
use Rattle.log_merge.specs.Merging.{RefutesJob, IsMerged}
use Rattle.log_merge.specs.declared.merging.Leaf.{Leaf}
use Rattle.log_merge.specs.Tiles.{root}
use Rattle.log_merge.proofs.Covering.{covers_held}

-- the box of one code of block 0
one_box : (c : Choices) (code : ℕ) → 0 < blocks c → code < count c 0 → IsBox c (with_literal [] (exact 0 code))
one_box c code some_block m = record {
  ascending = λ i j l n less e d. absurd (no_two i j n less d);
  each = All-cons (IsLiteral c) (exact 0 code) [] (record { block = some_block; some = omega arith; codes = omega arith; part = λ w. (let a = w.0 in let b = w.1 in omega arith) }) (All-nil (IsLiteral c));
}
  where
    no_two : (i j : ℕ) (n : Literal) → i < j → slice_get (exact 0 code ∷ []) j ≡ Some n → ⊥
    no_two i zero n less d = omega arith
    no_two i (suc j) n less d = none-some n d

-- a record that shows the root covers each code of block 0
pub shown_covers : (c : Choices) (log : List Record) (k : ℕ) → 0 < blocks c → HasCodes c → RefutesJob c log k root → AllExist c log → CoversRoot c log k
shown_covers c log k some_block some_codes (r, at, is, holds) exist = record {
  root = r;
  at = at;
  covers = λ code m. covers_held c (with_literal [] (exact 0 code)) (result_of c r) some_codes (one_box c code some_block m) is (λ p plan h. holds p (plan, omega arith, (let b = path-below c p in omega arith)));
  exist = exist;
}

closing_is_step : (c : Choices) (t : Option (List ℕ)) (log : List Record) (k : ℕ) → 0 < blocks c → CoversRoot c log k → IsStep c t log (Branch 0 0 (count c 0) [] (k ∷ []))
closing_is_step c t log k some_block h = record {
  side_is = empty_box c;
  block = some_block;
  free = All-nil (λ l. l.block ≡ 0 → ⊥);
  range = elim (cases_lt 0 (count c 0)) [ inl some ↦ inl (some, omega arith) | inr none ↦ inr (refl, (omega arith), (omega arith)) ];
  earlier_only = All-cons (λ k. k < length log) k [] (get_within log k h.root h.at) (All-nil (λ k. k < length log));
  covered = λ code l m. inr (inr (inr (k, h.root, (0, omega arith, refl), h.at, h.covers code m)));
}

closed_result : (c : Choices) (k : ℕ) → result_of c (Branch 0 0 (count c 0) [] (k ∷ [])) ≡ []
closed_result c k = ap (λ (b : Bool). if b then [] else with_literal [] (record { block = 0; lo = 0; hi = count c 0 })) (ap₂ ◌&&◌ (eq-eqb 0 0 refl) (eq-eqb (count c 0) (count c 0) refl))

-- a log whose last record refutes every plan is accepted
pub last_refutes : (c : Choices) (t : Option (List ℕ)) (log : List Record) (i : ℕ) (r : Record) → i + 1 ≡ length log → slice_get log i ≡ Some r → result_of c r ≡ [] → IsAnswer c t → AreSteps c t log → IsAccepted c t log
last_refutes c t log i r last at empty answer steps = record { answer = answer; steps = steps; last = (i, r, last, at, empty) }

-- so is a log that was closed
pub closed_accepted : (c : Choices) (t : Option (List ℕ)) (log log' : List Record) (k : ℕ) (rec : Record) → 0 < blocks c → CoversRoot c log k → rec ≡ Branch 0 0 (count c 0) [] (k ∷ []) → log' ≡ log ++ rec ∷ []
    → IsAnswer c t → AreSteps c t log → IsAccepted c t log'
closed_accepted c t log log' k rec some_block h is grown answer steps =
    let step = subst (IsStep c t log) (sym is) (closing_is_step c t log k some_block h) in
    let at : slice_get (log ++ rec ∷ []) (length log) ≡ Some rec = subst (λ n. slice_get (log ++ rec ∷ []) n ≡ Some rec) (let e : length log + 0 ≡ length log = omega arith in e) (get_after log (rec ∷ []) 0 rec refl) in
    let long = length-append log (rec ∷ []) in
    subst (IsAccepted c t) (sym grown) (last_refutes c t (log ++ rec ∷ []) (length log) rec (omega arith) at (ap (result_of c) is ∙ closed_result c k) answer (pushed_steps c t log rec steps step))

pub branch_is : (c : Choices) (n k : ℕ) (side : List Literal) (cites : List ℕ) → n ≡ count c 0 → side ≡ [] → cites ≡ k ∷ [] → Branch 0 0 n side cites ≡ Branch 0 0 (count c 0) [] (k ∷ [])
branch_is c n k side cites a b d = λ i. Branch 0 0 (a i) (b i) (d i)

-- the merged log can be closed
pub merged_covers : (c : Choices) (log log' : List Record) (leaves : List Leaf) (record' next : ℕ) → 0 < blocks c → HasCodes c → AllExist c log → IsMerged c root leaves log log' record' next → CoversRoot c log' record'
merged_covers c log log' leaves record' next some_block some_codes all h = shown_covers c log' record' some_block some_codes h.shown (h.exist all)

pub merged_accepted : {X E : Type 0} (r : Result X E) (c : Choices) (log log1 log2 : List Record) (leaves : List Leaf) (k n : ℕ) → IsMerged c root leaves log log1 k n
    → IfOk r (λ _. (t : Option (List ℕ)) → IsAnswer c t → AreSteps c t log1 → IsAccepted c t log2) → IfOk r (λ _. (t : Option (List ℕ)) → IsAnswer c t → AreSteps c t log → IsAccepted c t log2)
merged_accepted (Ok x) c log log1 log2 leaves k n merged accept = λ t answer steps. accept t answer (merged.steps t steps)
merged_accepted (Err e) c log log1 log2 leaves k n merged accept = tt
