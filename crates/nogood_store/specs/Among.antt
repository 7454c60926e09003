-- The least tag among some entries, and a walk along a chain. No public clause speaks of this.
use Rattle.std.specs.Prelude.{◌≡◌, ℕ, ◌≤◌, List, [], ◌∷◌, Option, Some, None, cond, nat_eq}
use Rattle.nogood_store.specs.declared.nogood.Nogood.{Nogood}
use Rattle.nogood_store.specs.Hits.{Matches}
use Rattle.nogood_store.specs.Waits.{box_of, tag_of}
use Rattle.watch_chains.specs.Lists.{Has}

-- the least tag among some entries whose boxes contain the box of these exact codes
abbrev pub IsHitAmong : List Nogood → List ℕ → List ℕ → Option ℕ → Type 0
IsHitAmong list codes es None = (e : ℕ) → Has e es → Matches codes (box_of list e) → ⊥
IsHitAmong list codes es (Some tag) =
    ((e : ℕ) × Has e es × Matches codes (box_of list e) × (tag_of list e ≡ tag))
    × ((e : ℕ) → Has e es → Matches codes (box_of list e) → tag ≤ tag_of list e)

-- the rest of a list from the entry at which a walk stands
abbrev pub rest_from : Option ℕ → List ℕ → List ℕ
rest_from None es = []
rest_from (Some e) [] = []
rest_from (Some e) (x ∷ xs) = cond (nat_eq x e) (x ∷ xs) (rest_from (Some e) xs)
