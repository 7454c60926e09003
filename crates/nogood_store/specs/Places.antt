-- How the chains stand to the boxes, and how many literals are left to match. No public clause speaks of this.
use Rattle.std.specs.Prelude.{◌≡◌, ℕ, suc, ◌+◌, ◌<◌, List, [], ◌∷◌, length, cond, nat_le, sum_by}
use Rattle.plan_rule.specs.declared.literal.Literal.{Literal}
use Rattle.nogood_store.specs.declared.nogood.Nogood.{Nogood}
use Rattle.nogood_store.specs.Waits.{box_of, waits}
use Rattle.watch_chains.specs.Lists.{Has, entries_of}

-- each entry stands in the chain for which its box waits, and no chain has another
pub record AreFor (list : List Nogood) (codes : List ℕ) (lists : List (List ℕ)) : Type 0 where
  pub chains : length lists ≡ 33
  pub there : (e : ℕ) → e < length list → Has e (entries_of lists (waits codes (box_of list e)))
  pub known : (i e : ℕ) → Has e (entries_of lists i) → e < length list
  pub only : (i e : ℕ) → Has e (entries_of lists i) → waits codes (box_of list e) ≡ i

-- how many literals are on block i or later
abbrev pub later_in : ℕ → List Literal → ℕ
later_in i [] = 0
later_in i (l ∷ box) = cond (nat_le i l.block) 1 0 + later_in i box

-- the same for an entry's box
abbrev pub later : List Nogood → ℕ → ℕ → ℕ
later list i e = later_in i (box_of list e)

-- the same, over a chain's entries
abbrev pub weight : List Nogood → ℕ → List ℕ → ℕ
weight list i [] = 0
weight list i (e ∷ es) = later list i e + weight list i es

-- the same over all chains, each from its own block on: the literals that are left to match
abbrev pub to_match : List Nogood → ℕ → List (List ℕ) → ℕ
to_match list i [] = 0
to_match list i (es ∷ lists) = weight list i es + to_match list (suc i) lists

-- the literals of all boxes
abbrev pub literals_of : List Nogood → ℕ
literals_of list = sum_by (λ n. length n.part) list
