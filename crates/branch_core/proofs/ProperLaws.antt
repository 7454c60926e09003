-- Records that are steps can be written, and there is always an answer against which they are steps.
use Rattle.std.proofs.Common.{◌≡◌, ℕ, ◌+◌, ◌<◌, ◌≤◌, List, [], ◌∷◌, length, take, get_or, Option, Some, None, sym, ap, ◌∙◌, subst, inl, inr, arith}
use Rattle.std.specs.Prelude.{slice_get}
use Rattle.std.specs.List.{All}
use Rattle.std.proofs.lemmas.Bool.{cases_lt}
use Rattle.std.proofs.lemmas.List.{length-take-le}
use Rattle.std.proofs.lemmas.List.Elements.{All-head, All-weaker, All-nil, recursion_from_All}
use Rattle.std.proofs.lemmas.Option.{same_Some, get_or_from_slice_get}
use Rattle.common_lists.proofs.ListLaws.{get_within}
use Rattle.plan_rule.specs.declared.literal.Literal.{Literal}
use Rattle.plan_rule.specs.Choices.{Choices}
use Rattle.plan_rule.specs.Boxes.{IsBox, IsLiteral}
use Rattle.plan_rule.specs.Paths.{key}
use Rattle.plan_rule.specs.Reports.{IsBar}
use Rattle.plan_rule.proofs.PathLaws.{key-before}
use Rattle.plan_rule.proofs.SearchLaws.{before_self}
use Rattle.refutation_log.specs.declared.record.Record.{Record}
use Rattle.refutation_log.specs.declared.record.Record.TheVariants.{Branch, Fit, Energy}
use Rattle.refutation_log.specs.Citations.{Ascend, AreCites}
use Rattle.refutation_log.specs.Logs.{cites_of}
use Rattle.refutation_log.specs.Spelling.{IsSide, IsLiteral as HasSpan}
use Rattle.refutation_log.specs.Steps.{IsStep, IsStepAt}
use Rattle.branch_kernel.specs.Known.{AreKnown}
use Rattle.branch_kernel.specs.Rivals.{IsRival}
use Rattle.branch_kernel.specs.States.{State, IsHeld}
use Rattle.branch_kernel.specs.Growth.{Ends}
use Rattle.branch_kernel.proofs.CoverLaws.{exist-box}
use Rattle.branch_kernel.proofs.WithLaws.{Rises, rises_from}
use Rattle.branch_core.specs.Proper.{IsProper, AreProper}

-- literals that rise by block ascend by it
ascends : (n : ℕ) (box : List Literal) → Rises box → All (λ l. n ≤ l.block) box → Ascend (λ (l : Literal). l.block) n box
ascends n [] rises low = tt
ascends n (l ∷ box) rises low = (
  All-head (λ l. n ≤ l.block) l box low,
  ascends (l.block + 1) box rises.1 (All-weaker (λ m. l.block < m.block) (λ m. l.block + 1 ≤ m.block) (λ m h. omega arith) box rises.0),
)

-- a box has a text
side_text : (c : Choices) (side : List Literal) → AreKnown c → IsBox c side → IsSide side
side_text c side known is = (
  ascends 0 side (rises_from side is.ascending) (λ k d l. omega arith),
  recursion_from_All HasSpan side (All-weaker (IsLiteral c) HasSpan one side is.each),
)
  where
    one : (l : Literal) → IsLiteral c l → HasSpan l
    one l h = record {
      block = (let b = h.block in let f = known.few in omega arith);
      span = h.some;
      hi = (let t = h.codes in let n = known.counts l.block in omega arith);
    }

-- a step whose citations ascend is proper
step_is_proper : (c : Choices) (t : Option (List ℕ)) (earlier : List Record) (r : Record) → AreKnown c → c.days ≤ 400
    → AreCites (cites_of r) → IsStep c t earlier r → IsProper c (length earlier) r
step_is_proper c t earlier (Branch b lo hi side cites) known days ascend step = record {
  text = (
    (let e = step.block in let f = known.few in omega arith),
    elim step.range [ inl some ↦ (let l = some.0 in omega arith) | inr none ↦ (let l = none.0 in omega arith) ],
    (let n = known.counts b in elim step.range [ inl some ↦ (let h = some.1 in omega arith) | inr none ↦ (let h = none.1 in omega arith) ]),
    side_text c side known step.side_is,
    ascend,
  );
  earlier = step.earlier_only;
  names = (step.block, exist-box c side step.side_is);
}
step_is_proper c t earlier (Fit side) known days ascend step = record {
  text = side_text c side known step.0;
  earlier = All-nil (λ k. k < length earlier);
  names = exist-box c side step.0;
}
step_is_proper c t earlier (Energy from to side) known days ascend (box, order, inside, some) = record {
  text = (order, omega arith, side_text c side known box);
  earlier = All-nil (λ k. k < length earlier);
  names = exist-box c side box;
}

-- so are the records of a log from a number on
pub proper_from : (c : Choices) (t : Option (List ℕ)) (log : List Record) (from : ℕ) → AreKnown c → c.days ≤ 400
    → ((i : ℕ) (r : Record) → from ≤ i → slice_get log i ≡ Some r → AreCites (cites_of r))
    → ((i : ℕ) → from ≤ i → i < length log → IsStepAt c t log i) → AreProper c from log
proper_from c t log from known days ascend steps i r low at =
    let inside = get_within log i r at in
    let (s, there, step) = steps i low inside in
    let same : s ≡ r = same_Some s r (sym there ∙ at) in
    let size : length (take i log) ≡ i = length-take-le i log (omega arith) in
    subst (λ i. IsProper c i r) size (step_is_proper c t (take i log) r known days (ascend i r low at) (subst (IsStep c t (take i log)) same step))

-- there is an answer within a bar that is not after the best
pub rival_exists : (c : Choices) (bar : ℕ) (best : Option (List ℕ)) → IsBar c bar → IsHeld c bar best → (t : Option (List ℕ)) × IsRival c bar best t
rival_exists c bar best (inl greatest) held = (None, greatest)
rival_exists c bar None (inr (p, feasible, e)) held = (Some p, (feasible.is_plan, omega arith, tt))
rival_exists c bar (Some m) (inr (p, feasible, e)) (good, low) = elim (cases_lt bar (key c m)) [
  | inl above ↦ (Some p, (feasible.is_plan, omega arith, λ worse. (let k = key-before c m p good.is_plan feasible.is_plan worse in absurd (omega arith))))
  | inr same ↦ (Some m, (good.is_plan, same, before_self c m))
]

-- the records of a search from a number on are proper
pub proper_found : (c : Choices) (bar : ℕ) (best : Option (List ℕ)) (log : List Record) (from : ℕ) → IsBar c bar → IsHeld c bar best
    → ((i : ℕ) → from ≤ i → i < length log → (t : Option (List ℕ)) → IsRival c bar best t → IsStepAt c t log i)
    → ((t : Option (List ℕ)) → ((i : ℕ) → from ≤ i → i < length log → IsStepAt c t log i) → AreProper c from log)
    → AreProper c from log
proper_found c bar best log from is held good proper =
    let (t, rival) = rival_exists c bar best is held in proper t (λ i low less. good i low less t rival)

-- the citations of one record more ascend
pub ascend_more : (log items : List Record) (from i : ℕ) (d e : Record) → items ≡ log → e ≡ get_or items i d → AreCites (cites_of e)
    → ((k : ℕ) (r : Record) → from ≤ k → k < i → slice_get log k ≡ Some r → AreCites (cites_of r))
    → (k : ℕ) (r : Record) → from ≤ k → k < i + 1 → slice_get log k ≡ Some r → AreCites (cites_of r)
ascend_more log items from i d e same is ascend before k r low less here = elim (cases_lt k i) [
  | inl earlier ↦ before k r low earlier here
  | inr last ↦
      let f : k ≡ i = omega arith in
      let g : get_or log k d ≡ r = get_or_from_slice_get log k r d here in
      let h : e ≡ r = is ∙ ap (λ items. get_or items i d) same ∙ ap (λ i. get_or log i d) (sym f) ∙ g in
      subst (λ r. AreCites (cites_of r)) h ascend
]

-- at the end those of each record do
pub ascend_all : (log : List Record) (from i : ℕ) → length log ≤ i
    → ((k : ℕ) (r : Record) → from ≤ k → k < i → slice_get log k ≡ Some r → AreCites (cites_of r))
    → (k : ℕ) (r : Record) → from ≤ k → slice_get log k ≡ Some r → AreCites (cites_of r)
ascend_all log from i far before k r low here = before k r low (let w = get_within log k r here in omega arith) here

-- the new records of a search are proper
pub proper_ends : (c : Choices) (old new : State) (seen from : ℕ) (log' : List Record) → Ends c old new → IsHeld c new.bar new.best → IsBar c seen → seen ≡ new.bar → log' ≡ old.log → from ≡ length log'
    → ((t : Option (List ℕ)) → ((i : ℕ) → from ≤ i → i < length new.log → IsStepAt c t new.log i) → AreProper c from new.log)
    → AreProper c (length old.log) new.log
proper_ends c old new seen from log' ends held is e same f proper =
    let first : from ≡ length old.log = f ∙ ap length same in
    subst (λ n. AreProper c n new.log) first
    (proper_found c new.bar new.best new.log from (subst (IsBar c) e is) held (λ i low less t rival. ends.good i (subst (λ n. n ≤ i) first low) less t rival) proper)

-- no record is new
pub proper_none : (c : Choices) (log : List Record) → AreProper c (length log) log
proper_none c log i r low here = absurd (let w = get_within log i r here in omega arith)
