-- What a step tells the seat that takes it.
use Rattle.std.specs.Prelude.{◌≡◌, ℕ, ◌-◌, ◌≤◌, ◌==◌, List, [], ◌∷◌, min, All, MatchBool, Some, None, IfSome}
use Rattle.atomic_table.specs.Table.{Me}
use Rattle.plan_rule.specs.Paths.{key}
use Rattle.plan_rule.specs.Reports.{IsBar}
use Rattle.plan_rule.specs.Yards.{choices}
use Rattle.incumbent_word.specs.declared.rule.View.{View}
use Rattle.incumbent_word.specs.Rule.{Content}
use Rattle.incumbent_word.specs.Sharing.{IsShareable}
use Rattle.incumbent_word.specs.Views.{saw, offered_too, at_turn, found_taken, found_empty}

-- a seat: its view, and the slots that it has taken out
abbrev pub Mine : Type 0
Mine = Me Content View

-- the number is the greatest u64 or a feasible plan's key, and at most each key that was seen
abbrev pub IsLow : View → ℕ → Type 0
IsLow v n = All (λ k. n ≤ k) v.seen × IsBar (choices v.yard) n

-- the best key was found, and is seen
abbrev pub Saw : Mine → ℕ → Mine → Type 0
Saw m found n = (n ≡ (saw m.0 found, m.1)) × IsLow m.0 found

-- the plan was offered, and the lesser of the best key and the plan's is seen
abbrev pub Offered : List ℕ → Mine → ℕ → Mine → Type 0
Offered plan m found n =
    let low = min found (key (choices m.0.yard) plan) in
    (n ≡ (saw (offered_too m.0 plan) low, m.1)) × IsLow m.0 low

-- the turn was free, and is held with what the slot holds; or it was found taken
abbrev pub Took : ℕ → Mine → ℕ → Mine → Type 0
Took word m found n = MatchBool (found == 0)
    ((y : Content) × (n ≡ (at_turn m.0 (Some word), (word - 1, y) ∷ m.1)) × IfSome y (IsShareable m.0.yard))
    (n ≡ (found_taken m.0 (word - 1), m.1))

-- the turn and its slot were given back
abbrev pub Gave : Mine → Mine → Type 0
Gave m n = n ≡ (at_turn m.0 None, [])

-- the same, and the slot had been found empty
abbrev pub GaveEmpty : ℕ → Mine → Mine → Type 0
GaveEmpty word m n = n ≡ (found_empty (at_turn m.0 None) (word - 1), [])
