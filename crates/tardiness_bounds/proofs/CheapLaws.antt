-- Open codes are those that fit and cost at most so much.
use Rattle.std.proofs.Common.{◌≡◌, ℕ, ◌<◌, List, length, min, Option, Some, None, arith}
use Rattle.std.specs.Prelude.{All}
use Rattle.std.proofs.lemmas.Option.{slice_get_within}
use Rattle.shape_exact.specs.Yards.{PlainYard}
use Rattle.code_table.specs.Placements.{placements}
use Rattle.plan_rule.specs.Boxes.{LeavesFree}
use Rattle.plan_rule.specs.Choices.{blocks, count}
use Rattle.plan_rule.specs.Yards.{choices}
use Rattle.plan_rule.proofs.CountLaws.{block_exists, count-length}
use Rattle.plan_rule.proofs.YardLaws.{coded}
use Rattle.tardiness_bounds.specs.declared.standing.Standing.{Standing}
use Rattle.tardiness_bounds.specs.Firsts.{IsFirst}
use Rattle.tardiness_bounds.specs.Nexts.{IsCheap, MayFitUpTo}
use Rattle.tardiness_bounds.specs.Standings.{StandOnce, IsStanding, literals_of}
use Rattle.tardiness_bounds.proofs.FitLaws.{clear_fits, cost_is_at, fits_clear}

cheap_fits : (yard : PlainYard) (list : List Standing) (b most x : ℕ) → b < blocks (choices yard) → All (IsStanding yard) list → LeavesFree (literals_of list) b
    → IsCheap yard list b most x → MayFitUpTo (choices yard) (literals_of list) b most x
cheap_fits yard list b most x l stand free (p, at, is) =
    let n = count-length yard b (block_exists yard b l) in
    let within = slice_get_within (placements yard b) x p at in
    let cost = cost_is_at yard b x is.block p is.block_is at in
    let cheap = is.cheap in
    (clear_fits yard list b x p stand free (omega arith) at is.clear, omega arith)

fits_cheap : (yard : PlainYard) (list : List Standing) (b most x : ℕ) → b < blocks (choices yard) → All (IsStanding yard) list → StandOnce list
    → LeavesFree (literals_of list) b → MayFitUpTo (choices yard) (literals_of list) b most x → IsCheap yard list b most x
fits_cheap yard list b most x l stand once free (may, low) =
    let c = coded yard b x l may.0.0 in
    let cost = cost_is_at yard b x c.block c.p c.block_is c.p_is in (
      c.p,
      c.p_is,
      record {
        block = c.block;
        block_is = c.block_is;
        placement = c.is;
        clear = fits_clear yard list b x c.p stand once free c.p_is may;
        cheap = omega arith;
      },
    )

-- the first open code is the first that fits and costs at most so much
pub first_fits : (yard : PlainYard) (list : List Standing) (b most code end : ℕ) (r : Option ℕ) → b < blocks (choices yard) → All (IsStanding yard) list → StandOnce list
    → LeavesFree (literals_of list) b → end ≡ count (choices yard) b
    → IsFirst (IsCheap yard list b most) code (length (placements yard b)) r → IsFirst (MayFitUpTo (choices yard) (literals_of list) b most) code end r
first_fits yard list b most code end None l stand once free e h = λ k low high fits.
    let n = count-length yard b (block_exists yard b l) in
    h k low (omega arith) (fits_cheap yard list b most k l stand once free fits)
first_fits yard list b most code end (Some x) l stand once free e (low, high, cheap, none) =
    let n = count-length yard b (block_exists yard b l) in (
      low,
      omega arith,
      cheap_fits yard list b most x l stand free cheap,
      λ k from before fits. none k from before (fits_cheap yard list b most k l stand once free fits),
    )

-- the first number from one that is cut off at the end of the range
pub first_min : (P : ℕ → Type 0) (code end from : ℕ) (r : Option ℕ) → from ≡ min code end → IsFirst P from end r → IsFirst P code end r
first_min P code end from None e h = λ k low high is. h k (omega arith) high is
first_min P code end from (Some x) e (low, high, is, none) = (omega arith, high, is, λ k above below here. none k (omega arith) below here)
