-- The free codes of a block, one after another.
use Rattle.std.proofs.Common.{◌≡◌, ℕ, ◌+◌, ◌-◌, ◌<◌, List, length, Option, Some, None, refl, sym, ap, ◌∙◌, arith}
use Rattle.std.specs.Prelude.{IfNone, IfSome}
use Rattle.std.specs.Iterator.{MakesProgress, at_most}
use Rattle.shape_exact.specs.Yards.{PlainYard}
use Rattle.code_table.specs.Placements.{placements}
use Rattle.plan_rule.specs.Choices.{count}
use Rattle.plan_rule.specs.Yards.{choices}
use Rattle.plan_rule.proofs.CountLaws.{blocks-length, count-length}
use Rattle.tardiness_bounds.specs.declared.standing.Standing.{Standing}
use Rattle.tardiness_bounds.specs.declared.walk.Walk.{Walk}
use Rattle.tardiness_bounds.specs.Firsts.{IsFirst}
use Rattle.tardiness_bounds.specs.FreeCodes.{AreFreeCodes, GivesNext, PlainFreeCodes, after}
use Rattle.tardiness_bounds.specs.Nexts.{IsCheap}
use Rattle.tardiness_bounds.specs.Standings.{literals_of}
use Rattle.tardiness_bounds.proofs.CheapLaws.{first_fits}

-- what is left from a code on
abbrev pub left_from : PlainYard → List Standing → ℕ → ℕ → ℕ → PlainFreeCodes
left_from yard list b most from = record { yard = yard; literals = literals_of list; block = b; most = most; from = from }

left_after : (yard : PlainYard) (list : List Standing) (b most from new : ℕ) (r : Option ℕ) → b < length yard.blocks → IfSome r (λ c. new ≡ c + 1)
    → IfNone r (new ≡ length (placements yard b)) → left_from yard list b most new ≡ after (left_from yard list b most from) r
left_after yard list b most from new None l some none = ap (left_from yard list b most) (none ∙ sym (count-length yard b l))
left_after yard list b most from new (Some c) l some none = ap (left_from yard list b most) some

-- an answer is the next one
pub gives : (yard : PlainYard) (list : List Standing) (b most : ℕ) (w new : Walk) (r : Option ℕ) → AreFreeCodes yard list b most w
    → IsFirst (IsCheap yard list b most) w.from (length (placements yard b)) r → IfSome r (λ c. new.from ≡ c + 1) → IfNone r (new.from ≡ length (placements yard b))
    → GivesNext (left_from yard list b most w.from) r (left_from yard list b most new.from)
gives yard list b most w new r are first some none =
    let n = blocks-length yard in
    let l = are.block in (
      first_fits yard list b most w.from (count (choices yard) b) r (omega arith) are.standing are.once are.free refl first,
      left_after yard list b most w.from new.from r l some none,
    )

-- each answer leaves fewer codes
pub progress : (s t : PlainFreeCodes) (r : Option ℕ) → GivesNext s r t
    → MakesProgress {A = ℕ} (λ _. Unit {0}) (λ (s : PlainFreeCodes). at_most (count (choices s.yard) s.block - s.from)) s r t
progress s t None h = record { on = λ f. tt; keeps = tt; rests = λ f. tt }
progress s t (Some c) h =
    let (first, e) = h in
    let left : count (choices t.yard) t.block - t.from ≡ count (choices s.yard) s.block - (c + 1) = ap (λ (s : PlainFreeCodes). count (choices s.yard) s.block - s.from) e in
    let low = first.0 in
    let high = first.1 in
    record { on = λ f. (tt, tt, omega arith); keeps = tt; rests = λ f. tt }
