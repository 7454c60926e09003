-- The rule of a deque says that no job is taken twice, and that an idle owner has left none.
use Rattle.std.proofs.Common.{ℕ, ◌≤◌, List, length, sym, ap, ◌∙◌, arith}
use Rattle.std.specs.List.{sum_by}
use native.Mathlib.Decide.{dec_le}
use Rattle.steal_rule.specs.declared.rule.View.{View}
use Rattle.steal_rule.specs.Rule.{IsDeque, times_emptied}
use Rattle.steal_rule.specs.Laws.{JobsAreTakenOnce, IdleOwnersLeaveNone}
use Rattle.steal_rule.proofs.SettleLaws.{none_left}

-- a cell is emptied at most once
at_most_once : (cells : List ℕ) (views : List View) (k : ℕ) → (h : IsDeque cells views) → sum_by (times_emptied k) views ≤ 1
at_most_once cells views k h = by_place (dec_le (length h.pushed) k)
  where
    by_place : Dec (length h.pushed ≤ k) → sum_by (times_emptied k) views ≤ 1
    by_place (yes far) = let e = h.never k far in omega arith
    by_place (no near) = let e = h.once k (omega arith) in omega arith

pub taken_once : JobsAreTakenOnce
taken_once cells views owner v h at owns' = record {
  once = λ k. at_most_once cells views k h;
  weighed = λ f. h.weighed f ∙ ap (sum_by f) (sym ((h.fits owner v at).owner owns').1);
}

pub idle_leaves_none : IdleOwnersLeaveNone
idle_leaves_none cells views owner v h at is idle = none_left cells views owner v h at is.owns (is.gone idle)
