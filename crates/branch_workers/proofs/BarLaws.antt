-- The last of the keys that a seat has seen.
use Rattle.std.proofs.Common.{◌≡◌, ℕ, ◌-◌, ◌^◌, ◌≤◌, List, [], ◌∷◌, ◌++◌, refl, sym, ap, ◌∙◌, subst, All}
use Rattle.std.proofs.lemmas.List.Elements.{All-head, All-tail}
use Rattle.plan_rule.specs.Reports.{IsBar}
use Rattle.plan_rule.specs.Yards.{choices}
use Rattle.incumbent_word.specs.Sittings.{Place}
use Rattle.branch_workers.specs.Bars.{last_from, last_seen}

last_push : (n : ℕ) (xs : List ℕ) (k : ℕ) → last_from n (xs ++ k ∷ []) ≡ k
last_push n [] k = refl
last_push n (x ∷ xs) k = last_push x xs k

below_from : (n k : ℕ) (xs : List ℕ) → k ≤ n → All (λ m. k ≤ m) xs → k ≤ last_from n xs
below_from n k [] low all = low
below_from n k (x ∷ xs) low all = below_from x k xs (All-head (λ m. k ≤ m) x xs all) (All-tail (λ m. k ≤ m) x xs all)

-- what was seen last is the bar
pub seen_last : (seen new : List ℕ) (k : ℕ) → new ≡ seen ++ k ∷ [] → k ≡ last_seen new
seen_last seen new k is = sym (ap last_seen is ∙ last_push (2 ^ 64 - 1) seen k)

-- and it is at most what was seen last before
pub seen_falls : (seen new : List ℕ) (k : ℕ) → k ≤ 2 ^ 64 - 1 → All (λ m. k ≤ m) seen → new ≡ seen ++ k ∷ [] → last_seen new ≤ last_seen seen
seen_falls seen new k low all is = subst (λ n. n ≤ last_seen seen) (seen_last seen new k is) (below_from (2 ^ 64 - 1) k seen low all)

-- what was seen last is at most what the seat had seen from which this one was split
pub below_seen : (seen own next : List ℕ) (n : ℕ) → own ≡ seen → next ≡ own ++ n ∷ [] → All (λ k. n ≤ k) own → All (λ k. last_seen next ≤ k) seen
below_seen seen own next n same is low =
    subst (λ k. All (λ m. k ≤ m) seen) (seen_last own next n is) (subst (All (λ k. n ≤ k)) same low)

pub last_is_bar : (a b : Place) (own next : List ℕ) (n : ℕ) → a ≡ b → next ≡ own ++ n ∷ [] → IsBar (choices b.yard) n → IsBar (choices a.yard) (last_seen next)
last_is_bar a b own next n same is bar =
    subst (λ (p : Place). IsBar (choices p.yard) (last_seen next)) (sym same) (subst (IsBar (choices b.yard)) (seen_last own next n is) bar)
