-- Citations that are raised stay citations.
use Rattle.std.proofs.Common.{◌≡◌, ℕ, ◌+◌, ◌<◌, ◌≤◌, ◌^◌, List, [], ◌∷◌, map, arith}
use Rattle.std.specs.Prelude.{All}
use Rattle.std.specs.List.{AllByRecursion}
use Rattle.std.proofs.lemmas.List.Elements.{All-head, All-tail}
use Rattle.refutation_log.specs.Citations.{Ascend, AreCites}

raised-ascend : (n by m : ℕ) (cites : List ℕ) → m ≤ n + by → Ascend (λ k. k) n cites → Ascend (λ k. k) m (map (λ k. k + by) cites)
raised-ascend n by m [] le a = tt
raised-ascend n by m (k ∷ ks) le a = let h = a.0 in (omega arith, raised-ascend (k + 1) by (k + by + 1) ks (omega arith) a.1)

raised-below : (by : ℕ) (cites : List ℕ) → All (λ k. k + by < 10 ^ 18) cites → AllByRecursion (λ k. k < 10 ^ 18) (map (λ k. k + by) cites)
raised-below by [] h = tt
raised-below by (k ∷ ks) h = (All-head (λ k. k + by < 10 ^ 18) k ks h, raised-below by ks (All-tail (λ k. k + by < 10 ^ 18) k ks h))

pub raised-are : (by : ℕ) (cites : List ℕ) → AreCites cites → All (λ k. k + by < 10 ^ 18) cites → AreCites (map (λ k. k + by) cites)
raised-are by cites are small = (raised-ascend 0 by 0 cites (omega arith) are.0, raised-below by cites small)
