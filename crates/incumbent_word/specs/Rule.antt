-- The rule of a board: what holds between any two steps of any seats.
-- Word 0 is the best key, and word i, from 1 to 16, is the turn of slot i - 1.
use Rattle.std.specs.Prelude.{◌≡◌, ◌≢◌, ℕ, ◌-◌, ◌^◌, ◌<◌, ◌≤◌, ◌⊎◌, ◌==◌, true, List, length, if◌then◌else◌, All, Contains, Option, Some, slice_index}
use Rattle.std.specs.List.{sum_by}
use Rattle.std.specs.Option.{option_map_or}
use mathlib.Core.Option.{some, none}
use lib.ListN.{get_elem?, get_or}
use Rattle.atomic_table.specs.Table.{State}
use Rattle.shape_exact.specs.Yards.{PlainYard}
use Rattle.plan_rule.specs.Plans.{IsFeasible}
use Rattle.plan_rule.specs.Paths.{key}
use Rattle.plan_rule.specs.Yards.{choices}
use Rattle.refutation_log.specs.Logs.{PlainCapsule}
use Rattle.incumbent_word.specs.declared.rule.View.{View}
use Rattle.incumbent_word.specs.Sharing.{IsShareable}

-- what a slot holds
abbrev pub Content : Type 0
Content = Option PlainCapsule

-- a slot's content where the slot is at home; none where a seat has taken it out
abbrev pub Home : Type 0
Home = mathlib.Core.Option.Option Content

-- the best key
abbrev pub best_key : State Content View → ℕ
best_key s = slice_index s.words 0

-- the home of a slot
abbrev pub home_of : List Home → ℕ → Home
home_of homes slot = get_or homes slot none

-- each view: of every seat, also of one that was dropped or joined to another
abbrev pub EachView : List View → (View → Type 0) → Type 0
EachView views P = (id : ℕ) (v : View) → get_elem? views id ≡ some v → P v

-- a view that is not spent has the board's yard, and the plans that it has offered are feasible in it
pub record HasYard (yard : PlainYard) (v : View) : Type 0 where
  pub same : v.live ≡ true → v.yard ≡ yard
  pub feasible : All (IsFeasible (choices yard)) v.offered

-- the number is the key of a plan that some view has offered
abbrev pub WasOffered : PlainYard → List View → ℕ → Type 0
WasOffered yard views n =
    (id : ℕ) × (v : View) × (get_elem? views id ≡ some v) × ((p : List ℕ) × Contains v.offered p × (key (choices yard) p ≡ n))

-- the number is the greatest u64, or the key of a plan that some view has offered
abbrev pub IsOffered : PlainYard → List View → ℕ → Type 0
IsOffered yard views n = (n ≡ 2 ^ 64 - 1) ⊎ WasOffered yard views n

-- the number is at most each key that the view has seen, and the key of each plan that it has offered
pub record IsLeast (yard : PlainYard) (n : ℕ) (v : View) : Type 0 where
  pub seen : All (λ k. n ≤ k) v.seen
  pub offered : All (λ p. n ≤ key (choices yard) p) v.offered

-- 1 where the view holds the turn of a word
abbrev pub holds_turn : ℕ → View → ℕ
holds_turn i v = option_map_or (λ k. if k == i then 1 else 0) v.turn 0

-- A turn word is the number of the views that hold the turn, and at most 1: so it is 1 exactly where some view holds the
-- turn, and no two views hold it. The slot is at home exactly where the word is 0.
pub record IsTurn (views : List View) (i turn : ℕ) (home : Home) : Type 0 where
  pub holders : sum_by (holds_turn i) views ≡ turn
  pub one : turn ≤ 1
  pub free : turn ≡ 0 → (y : Content) × (home ≡ some y)
  pub taken : turn ≢ 0 → home ≡ none

-- a capsule at home: it may be shared, and its bar is not below the best key
pub record IsGood (yard : PlainYard) (best : ℕ) (capsule : PlainCapsule) : Type 0 where
  pub shareable : IsShareable yard capsule
  pub bar : best ≤ capsule.bar

-- the words from 1 to 16
abbrev pub IsTurnWord : ℕ → Type 0
IsTurnWord i = (0 < i) × (i < 17)

pub record IsKept (yard : PlainYard) (s : State Content View) : Type 0 where
  pub words : length s.words ≡ 17
  pub slots : length s.homes ≡ 16
  pub number : best_key s ≤ 2 ^ 64 - 1
  -- every view has the same yard, and every offered plan is feasible in it
  pub yards : EachView s.views (HasYard yard)
  -- the best key is the greatest u64, or the key of a plan that was offered
  pub best : IsOffered yard s.views (best_key s)
  -- the best key is at most each key that was seen, and the key of each plan that was offered
  pub least : EachView s.views (IsLeast yard (best_key s))
  -- each turn is held by one view at most, and a slot is at home exactly where its turn is free
  pub turns : (i : ℕ) → IsTurnWord i → IsTurn s.views i (slice_index s.words i) (home_of s.homes (i - 1))
  -- each capsule at home may be shared, and its bar is not below the best key
  pub capsules : (i : ℕ) → IsTurnWord i → (c : PlainCapsule) → home_of s.homes (i - 1) ≡ some (Some c) → IsGood yard (best_key s) c
