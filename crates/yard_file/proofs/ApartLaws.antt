-- The test of two footprints decides whether they are apart.
use Rattle.std.proofs.Common.{◌≡◌, ◌↔◌, zero, suc, ℤ, pos, ◌≤ℤ◌, ◌<ℤ◌, Bool, true, false, List, [], ◌∷◌, get_or, refl, inl, inr, subst, arith}
use Rattle.std.specs.Prelude.{IsTrue, int_lt, not}
use Rattle.std.specs.List.{All, Any, list_all, list_any}
use Rattle.std.proofs.lemmas.Bool.{cases_Bool, false≢true}
use Rattle.std.proofs.lemmas.Int.{ints}
use Rattle.std.proofs.lemmas.List.Elements.{All-cons}
use Rattle.std.proofs.lemmas.List.Folds.{Any-from_list_any}
use Rattle.std.proofs.lemmas.List.Sums.{AllPass-from_list_all}
use Rattle.shape_exact.specs.declared.point.Point.{Point}
use Rattle.shape_exact.specs.Shapes.{AreApart, IsShape, cross, edges}
use Rattle.shape_exact.specs.Separation.{EachEdgeSees, HasSeparatingEdge, moved, way}
use Rattle.shape_exact.proofs.ApartLaws.{above_from, separation, apart_both, shared, shared_not_apart}
use Rattle.yard_file.specs.Clashes.{each_edge_sees, overlap, sees}

-- an element that fails the test, where not all pass it
fails : {A : Type 0} (p : A → Bool) (xs : List A) → list_all p xs ≡ false → Any (λ x. p x ≡ false) xs
fails p [] h = absurd (let e : true ≡ false = h in cc)
fails p (x ∷ xs) h =
    elim (cases_Bool (p x)) [
      | inl passes ↦
          let t = fails p xs (rw passes at h) in
          let l = t.2 in (suc t.0, t.1, omega arith, t.3, t.4)
      | inr not ↦ (zero, x, omega arith, refl, not)
    ]

-- every element fails the test, where none passes it
all_fail : {A : Type 0} (p : A → Bool) (xs : List A) → list_any p xs ≡ false → All (λ x. p x ≡ false) xs
all_fail p [] h = λ k d l. absurd (omega arith)
all_fail p (x ∷ xs) h =
    elim (cases_Bool (p x)) [
      | inl passes ↦ absurd (let t : true ≡ false = rw passes at h in cc)
      | inr not ↦ All-cons (λ x. p x ≡ false) x xs not (all_fail p xs (rw not at h))
    ]

not_above : (a : ℤ) → int_lt (pos 0) a ≡ false → a ≤ℤ pos 0
not_above a h = omega (arith, ints)

seen : (e : Point × Point) (b : List Point) (by : Point) → sees e b by ≡ true → Any (λ v. pos 0 <ℤ cross e.0 e.1 (moved by v)) b
seen e b by h =
    let a = Any-from_list_any (λ v. int_lt (pos 0) (cross e.0 e.1 (moved by v))) b h in
    (a.0, a.1, a.2, a.3, above_from (cross e.0 e.1 (moved by a.1)) a.4)

unseen : (e : Point × Point) (b : List Point) (by : Point) → sees e b by ≡ false → All (λ v. cross e.0 e.1 (moved by v) ≤ℤ pos 0) b
unseen e b by h = λ k d l.
    not_above (cross e.0 e.1 (moved by (get_or b k d))) (all_fail (λ v. int_lt (pos 0) (cross e.0 e.1 (moved by v))) b h k d l)

each_sees : (a b : List Point) (by : Point) → each_edge_sees a b by ≡ true → EachEdgeSees a b by
each_sees a b by h = λ k d l. seen (get_or (edges a) k d) b by (AllPass-from_list_all (λ e. sees e b by) (edges a) h k d l)

some_separates : (a b : List Point) (by : Point) → each_edge_sees a b by ≡ false → HasSeparatingEdge a b by
some_separates a b by h =
    let s = fails (λ e. sees e b by) (edges a) h in (s.0, s.1, s.2, s.3, unseen s.1 b by s.4)

-- shapes of which each edge sees the other have a point in common
overlap_not_apart : (a b : List Point) (at_a at_b : Point) → IsShape a → IsShape b → each_edge_sees a b (way at_a at_b) ≡ true
    → each_edge_sees b a (way at_b at_a) ≡ true → AreApart a at_a b at_b → ⊥
overlap_not_apart a b at_a at_b s t f g =
    shared_not_apart a b at_a at_b (shared a b at_a at_b s t (each_sees a b (way at_a at_b) f) (each_sees b a (way at_b at_a) g))

-- the test decides whether two footprints are apart
pub record Decided (overlap : Bool) (apart : Type 0) : Type 0 where
  pub yes : overlap ≡ true → apart → ⊥
  pub no : overlap ≡ false → apart

pub overlap_decides : (a b : List Point) (at_a at_b : Point) → IsShape a → IsShape b
    → Decided (overlap a at_a b at_b) (AreApart a at_a b at_b)
overlap_decides a b at_a at_b s t = by (each_edge_sees a b (way at_a at_b)) (each_edge_sees b a (way at_b at_a)) refl refl
  where
    by : (p q : Bool) → each_edge_sees a b (way at_a at_b) ≡ p → each_edge_sees b a (way at_b at_a) ≡ q
        → Decided (overlap a at_a b at_b) (AreApart a at_a b at_b)
    by true true f g = record {
      yes = λ o. overlap_not_apart a b at_a at_b s t f g;
      no = λ o. absurd (let e : true ≡ false = rw (f, g) at o in cc);
    }
    by false q f g =
        let apart = separation a b at_a at_b (let n = t.some in omega arith) (some_separates a b (way at_a at_b) f) in record {
          yes = λ o. absurd (let e : false ≡ true = rw f at o in cc);
          no = λ o. apart;
        }
    by true false f g =
        let apart = apart_both b a at_b at_a (separation b a at_b at_a (let n = s.some in omega arith) (some_separates b a (way at_b at_a) g)) in record {
          yes = λ o. absurd (let e : false ≡ true = rw (f, g) at o in cc);
          no = λ o. apart;
        }

-- an answer that tells whether they are apart is the other answer of the test
pub overlap_told : (a b : List Point) (p q p' q' : Point) (apart : Bool) → IsShape a → IsShape b → p ≡ p' → q ≡ q'
    → (IsTrue apart ↔ AreApart a p b q) → not apart ≡ overlap a p' b q'
overlap_told a b p q p' q' apart s t at_a at_b told =
    let same : IsTrue apart ↔ AreApart a p' b q' = subst (λ q. IsTrue apart ↔ AreApart a p' b q) at_b (subst (λ p. IsTrue apart ↔ AreApart a p b q) at_a told) in
    by apart (overlap a p' b q') same (overlap_decides a b p' q' s t)
  where
    by : (r o : Bool) → (IsTrue r ↔ AreApart a p' b q') → Decided o (AreApart a p' b q') → not r ≡ o
    by true true told d = absurd (d.yes refl (told.0 refl))
    by true false told d = refl
    by false true told d = refl
    by false false told d = absurd (false≢true (told.1 (d.no refl)))
