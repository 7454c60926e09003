-- What a block costs at least of what is left to it.
use Rattle.std.proofs.Common.{◌≡◌, ℕ, ◌+◌, ◌<◌, ◌≤◌, List, [], length, get_or, Option, Some, None, subst, arith}
use Rattle.std.specs.Prelude.{slice_get, All, IfSome}
use Rattle.std.proofs.lemmas.Option.{slice_get-get_or, slice_get_within}
use Rattle.shape_exact.specs.Yards.{PlainYard, IsYard}
use Rattle.shape_exact.specs.declared.block.Block.{Block}
use Rattle.plan_rule.specs.declared.literal.Literal.{Literal}
use Rattle.plan_rule.specs.Bounds.{IsLeastOf, MayFit}
use Rattle.plan_rule.specs.Choices.{blocks}
use Rattle.plan_rule.specs.Yards.{choices}
use Rattle.plan_rule.proofs.CountLaws.{cost_is}
use Rattle.plan_rule.proofs.LimitLaws.{cost-le}
use Rattle.tardiness_bounds.specs.declared.left.Left.{Left}
use Rattle.tardiness_bounds.specs.declared.left.Left.TheVariants.{Stands, Free, Never}
use Rattle.tardiness_bounds.specs.declared.slot.Slot.{Slot}
use Rattle.tardiness_bounds.specs.declared.standing.Standing.{Standing}
use Rattle.tardiness_bounds.specs.Lefts.{AreFirstLefts, AreLefts, IsLeft, cost_of_left}
use Rattle.tardiness_bounds.specs.Tables.{PlainTables}
use Rattle.tardiness_bounds.specs.Slots.{AreSlots}
use Rattle.tardiness_bounds.specs.Standings.{StandOnce, IsStanding, literals_of}
use Rattle.tardiness_bounds.proofs.FitLaws.{never_least, stands_least, witness_least}

-- the cost of what is left is the least of the codes that fit
pub left_least : (t : PlainTables) (list : List Standing) (b : ℕ) (x : Left) → IsYard t.yard → b < length t.yard.blocks → All (IsStanding t.yard) list → StandOnce list
    → ((slots : List Slot) (block : Block) → slice_get t.slots b ≡ Some slots → slice_get t.yard.blocks b ≡ Some block → AreSlots t.yard block slots)
    → IsLeft t list b x → IsLeastOf (MayFit (choices t.yard) (literals_of list) b) ((choices t.yard).cost b) (cost_of_left x)
left_least t list b (Stands cost) y l stand once slots (code, fix, exist, e) = stands_least t.yard list b code cost fix exist e
left_least t list b (Free w) y l stand once slots (free, is) = witness_least t list b w y l stand once free slots is
left_least t list b Never y l stand once slots (free, none) = never_least t list b l stand once free none

-- it is small
pub least_few : (yard : PlainYard) (box : List Literal) (b : ℕ) (o : Option ℕ) → IsYard yard → b < blocks (choices yard)
    → IsLeastOf (MayFit (choices yard) box b) ((choices yard).cost b) o → IfSome o (λ n. n ≤ 400000)
least_few yard box b None y l h = tt
least_few yard box b (Some n) y l ((x, may, is), least) =
    let few = cost-le yard b x y l may.0.0 in
    let e = cost_is yard b x in
    omega arith

-- what is left to each block where none stands, as a list of its own
pub first_lefts_are : (t : PlainTables) (lefts : List Left) → AreLefts t [] lefts 0 → length lefts ≡ length t.yard.blocks → AreFirstLefts t lefts
first_lefts_are t lefts are long b x at =
    let within = slice_get_within lefts b x at in
    let e : b ≡ 0 + b = omega arith in
    are.each b x (omega arith) (subst (λ k. slice_get lefts k ≡ Some x) e at)

-- one of them that was read
pub first_read : (t u : PlainTables) (lefts here : List Left) (b : ℕ) (d : Left) → t ≡ u → here ≡ lefts → AreFirstLefts t lefts → b < length here
    → IsLeft u [] b (get_or here b d)
first_read t u lefts here b d same read are within =
    subst (λ (t : PlainTables). IsLeft t [] b (get_or here b d)) same
    (are b (get_or here b d) (subst (λ ls. slice_get ls b ≡ Some (get_or here b d)) read (slice_get-get_or here b d within)))
