-- What one obstacle after another forbids.
use Rattle.std.proofs.Common.{ℕ, suc, ◌+◌, ◌<◌, ◌≤◌, List, [], ◌∷◌, ◌++◌, length, take, get_or, subst, arith}
use Rattle.std.specs.List.Sorted.{IsPermutation, IsNonDecreasingBy}
use Rattle.std.proofs.lemmas.List.{take_more}
use Rattle.std.proofs.lemmas.List.Elements.{All-more, All-push}
use Rattle.std.proofs.lemmas.List.Sorted.{All-permutation, IsPermutation-sym}
use Rattle.shape_exact.specs.declared.point.Point.{Point}
use Rattle.shape_exact.proofs.BridgeLaws.{every_from_All}
use Rattle.minkowski_obstacles.specs.Pairs.{Pair}
use Rattle.minkowski_obstacles.proofs.ObstacleLaws.{all_push_back}
use Rattle.lattice_free.specs.declared.forbidden.Forbidden.{Forbidden}
use Rattle.lattice_free.specs.Gaps.{FitsWithin, Misses}
use Rattle.lattice_free.specs.Runs.{place}
use Rattle.lattice_free.specs.Clear.{IsClear, AreClear, AreForbidden}
use Rattle.lattice_free.proofs.GapLaws.{Ascends}

clear_back : (fs : List (Pair × Point)) (i : ℕ) (d : Pair × Point) (p : Point) → i < length fs → AreClear (take (i + 1) fs) p → AreClear (take i fs) p × IsClear p (get_or fs i d).0 (get_or fs i d).1
clear_back fs i d p l h = all_push_back (λ o. IsClear p o.0 o.1) (take i fs) (get_or fs i d) (subst (λ (os : List (Pair × Point)). AreClear os p) (take_more fs i d l) h)

-- an obstacle that forbids no column
pub forbidden_past : (pitch row columns : ℕ) (fs : List (Pair × Point)) (i : ℕ) (d : Pair × Point) (ss : List Forbidden) → i < length fs → AreForbidden (take i fs) pitch row columns ss
    → ((k : ℕ) → k < columns → IsClear (place pitch row k) (get_or fs i d).0 (get_or fs i d).1) → AreForbidden (take (i + 1) fs) pitch row columns ss
forbidden_past pitch row columns fs i d ss l a c = record {
  fits = a.fits;
  clear = λ k m h. All-more (λ o. IsClear (place pitch row k) o.0 o.1) fs i d l (a.clear k m h) (c k m);
  missed = λ k m h. a.missed k m (clear_back fs i d (place pitch row k) l h).0;
}

-- an obstacle that forbids columns
pub forbidden_more : (pitch row columns : ℕ) (fs : List (Pair × Point)) (i : ℕ) (d : Pair × Point) (ss : List Forbidden) (s : Forbidden) → i < length fs → AreForbidden (take i fs) pitch row columns ss → FitsWithin columns s
    → ((k : ℕ) → k < columns → s.from ≤ k → k < s.to → IsClear (place pitch row k) (get_or fs i d).0 (get_or fs i d).1 → ⊥)
    → ((k : ℕ) → k < columns → Misses k s → IsClear (place pitch row k) (get_or fs i d).0 (get_or fs i d).1) → AreForbidden (take (i + 1) fs) pitch row columns (ss ++ s ∷ [])
forbidden_more pitch row columns fs i d ss s l a w h c = record {
  fits = All-push (FitsWithin columns) ss s a.fits w;
  clear = λ k m q. let r = all_push_back (Misses k) ss s q in All-more (λ o. IsClear (place pitch row k) o.0 o.1) fs i d l (a.clear k m r.0) (c k m r.1);
  missed = λ k m q. let r = clear_back fs i d (place pitch row k) l q in All-push (Misses k) ss s (a.missed k m r.0) (λ f t. h k m f t r.1);
}

pub forbidden_permuted : (pitch row columns : ℕ) (fs : List (Pair × Point)) (ss ts : List Forbidden) → IsPermutation ss ts → AreForbidden fs pitch row columns ss → AreForbidden fs pitch row columns ts
forbidden_permuted pitch row columns fs ss ts p a = record {
  fits = All-permutation (FitsWithin columns) ss ts p a.fits;
  clear = λ k m h. a.clear k m (All-permutation (Misses k) ts ss (IsPermutation-sym ss ts p) h);
  missed = λ k m h. All-permutation (Misses k) ss ts p (a.missed k m h);
}

-- forbidden columns in order, in the words of the gaps
pub ascends_from : (ss : List Forbidden) → IsNonDecreasingBy (λ s. s.from) ss → Ascends ss
ascends_from [] h = tt
ascends_from (s ∷ ss) h = (
  every_from_All (λ t. s.from ≤ t.from) ss (λ k d l. h 0 (suc k) d (omega arith) (omega arith)),
  ascends_from ss (λ i j d a b. h (suc i) (suc j) d (omega arith) (omega arith)),
)
