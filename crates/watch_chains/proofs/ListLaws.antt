-- Lists without an entry, and the lists of all chains after an entry is put or moved.
use Rattle.std.proofs.Common.{◌≡◌, ◌≢◌, ℕ, zero, suc, ◌+◌, ◌<◌, ◌≤◌, List, [], ◌∷◌, length, map, cond, refl, sym, ap, ◌∙◌, subst, inl, inr, arith}
use Rattle.std.specs.Prelude.{sum_by}
use Rattle.std.proofs.lemmas.Bool.Decides.{eqb_tells}
use Rattle.std.proofs.lemmas.List.{get_or-set_same, get_or-set_other, length-map}
use Rattle.std.proofs.lemmas.List.Sums.{sum_by-cons}
use Rattle.watch_chains.specs.Lists.{without, Has, Lacks, entries_of, put_first, moved}

-- a list without an entry, by whether its first is that entry
pub without_same : (e y : ℕ) (es : List ℕ) → y ≡ e → without e (y ∷ es) ≡ without e es
without_same e y es same = elim (eqb_tells y e) [
  | inl t ↦ ap (λ b. cond b (without e es) (y ∷ without e es)) t.0
  | inr f ↦ absurd (f.1 same)
]

pub without_other : (e y : ℕ) (es : List ℕ) → y ≢ e → without e (y ∷ es) ≡ y ∷ without e es
without_other e y es other = elim (eqb_tells y e) [
  | inl t ↦ absurd (other t.1)
  | inr f ↦ ap (λ b. cond b (without e es) (y ∷ without e es)) f.0
]

-- the entry is gone, and the others stay
pub without_lacks : (e : ℕ) (es : List ℕ) → Lacks e (without e es)
without_lacks e [] = tt
without_lacks e (y ∷ es) = elim (eqb_tells y e) [
  | inl t ↦ subst (Lacks e) (sym (without_same e y es t.1)) (without_lacks e es)
  | inr f ↦ subst (Lacks e) (sym (without_other e y es f.1)) (f.1, without_lacks e es)
]

pub without_has : (e z : ℕ) (es : List ℕ) → z ≢ e → Has z es → Has z (without e es)
without_has e z [] ne h = h
without_has e z (y ∷ es) ne h = elim (eqb_tells y e) [
  | inl t ↦ subst (Has z) (sym (without_same e y es t.1))
      (elim h [ inl same ↦ absurd (ne (sym same ∙ t.1)) | inr rest ↦ without_has e z es ne rest ])
  | inr f ↦ subst (Has z) (sym (without_other e y es f.1))
      (elim h [ inl same ↦ inl same | inr rest ↦ inr (without_has e z es ne rest) ])
]

-- a list without an entry is no longer, and shorter where it had the entry
pub length-without-le : (e : ℕ) (es : List ℕ) → length (without e es) ≤ length es
length-without-le e [] = omega arith
length-without-le e (y ∷ es) = elim (eqb_tells y e) [
  | inl t ↦ rw (without_same e y es t.1) (omega (arith, length-without-le e es))
  | inr f ↦ rw (without_other e y es f.1) (omega (arith, length-without-le e es))
]

pub length-without-lt : (e : ℕ) (es : List ℕ) → Has e es → length (without e es) + 1 ≤ length es
length-without-lt e [] h = absurd h
length-without-lt e (y ∷ es) h = elim (eqb_tells y e) [
  | inl t ↦ rw (without_same e y es t.1) (omega (arith, length-without-le e es))
  | inr f ↦ rw (without_other e y es f.1) (elim h [
    | inl same ↦ absurd (f.1 same)
    | inr rest ↦ omega (arith, length-without-lt e es rest)
  ])
]

-- the lists with an entry put first in one
pub entries_put : (e : ℕ) (lists : List (List ℕ)) (b : ℕ) → b < length lists → entries_of (put_first lists e b) b ≡ e ∷ entries_of lists b
entries_put e lists b h = get_or-set_same lists b _ [] h

pub entries_put_off : (e : ℕ) (lists : List (List ℕ)) (b i : ℕ) → i ≢ b → entries_of (put_first lists e b) i ≡ entries_of lists i
entries_put_off e lists b i ne = get_or-set_other lists b i _ [] ne

-- the lists after a move, chain by chain
pub entries_without : (e : ℕ) (lists : List (List ℕ)) (i : ℕ) → entries_of (map (without e) lists) i ≡ without e (entries_of lists i)
entries_without e [] i = refl
entries_without e (l ∷ lists) zero = refl
entries_without e (l ∷ lists) (suc i) = entries_without e lists i

pub entries_at : (e : ℕ) (lists : List (List ℕ)) (b : ℕ) → b < length lists → entries_of (moved lists e b) b ≡ e ∷ without e (entries_of lists b)
entries_at e lists b h = get_or-set_same (map (without e) lists) b _ [] (rw length-map h) ∙ ap (λ l. e ∷ l) (entries_without e lists b)

pub entries_off : (e : ℕ) (lists : List (List ℕ)) (b i : ℕ) → i ≢ b → entries_of (moved lists e b) i ≡ without e (entries_of lists i)
entries_off e lists b i ne = get_or-set_other (map (without e) lists) b i _ [] ne ∙ entries_without e lists i

-- how many entries all lists have without one
pub sum-without-le : (e : ℕ) (lists : List (List ℕ)) → sum_by length (map (without e) lists) ≤ sum_by length lists
sum-without-le e [] = omega arith
sum-without-le e (l ∷ lists) =
    rw (sum_by-cons length (without e l) (map (without e) lists), sum_by-cons length l lists)
    (omega (arith, length-without-le e l, sum-without-le e lists))

pub sum-without-lt : (e : ℕ) (lists : List (List ℕ)) (i : ℕ) → Has e (entries_of lists i) → sum_by length (map (without e) lists) + 1 ≤ sum_by length lists
sum-without-lt e [] i h = absurd h
sum-without-lt e (l ∷ lists) zero h =
    rw (sum_by-cons length (without e l) (map (without e) lists), sum_by-cons length l lists)
    (omega (arith, length-without-lt e l h, sum-without-le e lists))
sum-without-lt e (l ∷ lists) (suc i) h =
    rw (sum_by-cons length (without e l) (map (without e) lists), sum_by-cons length l lists)
    (omega (arith, length-without-le e l, sum-without-lt e lists i h))
