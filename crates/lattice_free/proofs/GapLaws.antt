-- The gaps that forbidden columns leave of a row hold exactly the columns that is not forbidden, ascending.
use Rattle.std.proofs.Common.{◌≡◌, ℕ, zero, suc, ◌+◌, ◌-◌, ◌*◌, ◌<◌, ◌≤◌, max, List, [], ◌∷◌, ◌++◌, length, map, refl, sym, ap, ◌∙◌, subst, arith, ⊎_elim, inl, inr}
use Rattle.std.specs.List.{range_with_len}
use Rattle.std.specs.Prelude.{nat_lt, pos}
use Rattle.std.proofs.lemmas.Bool.{cases_lt, cond-true, cond-false, lt-ltb, le-ltb}
use Rattle.std.proofs.lemmas.List.{length-append, length-map, append-nil}
use Rattle.std.proofs.lemmas.List.FromFn.{length-range_with_len}
use Rattle.std.proofs.lemmas.List.Concat.{flat_map-append}
use Rattle.std.proofs.lemmas.Int.{ints}
use Rattle.std.proofs.Math.Nat.{mul-le-mul_right}
use lib.Signed.{◌<ℤ◌}
use Rattle.shape_exact.specs.declared.point.Point.{Point}
use Rattle.shape_exact.specs.Plane.{Every, Some_of}
use Rattle.shape_exact.proofs.LineLaws.{every_then}
use Rattle.shape_exact.proofs.SumLaws.{every_map, some_then}
use Rattle.shape_exact.proofs.MoveLaws.{some_map}
use Rattle.shape_exact.proofs.MeetLaws.{every_append}
use Rattle.minkowski_obstacles.proofs.SideLaws.{some_left, some_right}
use Rattle.lattice_free.specs.declared.run.Run.{Run}
use Rattle.lattice_free.specs.declared.forbidden.Forbidden.{Forbidden}
use Rattle.lattice_free.specs.Order.{IsBefore}
use Rattle.lattice_free.specs.Runs.{place, run_points, points_of, IsRun}
use Rattle.lattice_free.specs.Grid.{Rises}
use Rattle.lattice_free.specs.Gaps.{run_between, gaps, FitsWithin, Misses}

-- ---- lists
pub rises-append : (xs ys : List Point) → Rises xs → Rises ys → Every (λ x. Every (IsBefore x) ys) xs → Rises (xs ++ ys)
rises-append [] ys h k b = k
rises-append (x ∷ xs) ys h k b = (every_append (IsBefore x) xs ys h.0 b.0, rises-append xs ys h.1 k b.1)

-- ---- the columns of a run
range_sound : (a n : ℕ) → Every (λ k. (a ≤ k) × (k < a + n)) (range_with_len a n)
range_sound a zero = tt
range_sound a (suc n) = ((omega arith, omega arith), every_then (λ k. (a + 1 ≤ k) × (k < a + 1 + n)) (λ k. (a ≤ k) × (k < a + suc n)) (λ k h. (let l = h.0 in omega arith, let l = h.1 in omega arith)) (range_with_len (a + 1) n) (range_sound (a + 1) n))

range_complete : (a n k : ℕ) → a ≤ k → k < a + n → Some_of (λ j. j ≡ k) (range_with_len a n)
range_complete a zero k l h = absurd (omega arith)
range_complete a (suc n) k l h = ⊎_elim (λ o. inr (range_complete (a + 1) n k (omega arith) (omega arith))) (λ o. inl (omega arith)) (cases_lt a k)

-- of two columns of a row the lesser comes before
before_in_row : (pitch row j k : ℕ) → 1 ≤ pitch → j < k → IsBefore (place pitch row j) (place pitch row k)
before_in_row pitch row j k p l = inr (refl, by (j * pitch) (k * pitch) (less j k l))
  where
    by : (a b : ℕ) → a < b → pos a <ℤ pos b
    by a b h = omega (arith, ints)

    less : (j k : ℕ) → j < k → j * pitch < k * pitch
    less j k l = let h = mul-le-mul_right pitch l in omega arith

range_rises : (pitch row a n : ℕ) → 1 ≤ pitch → Rises (map (place pitch row) (range_with_len a n))
range_rises pitch row a zero p = tt
range_rises pitch row a (suc n) p = (
  every_map (place pitch row) (IsBefore (place pitch row a)) (range_with_len (a + 1) n)
      (every_then (λ k. (a + 1 ≤ k) × (k < a + 1 + n)) (λ k. IsBefore (place pitch row a) (place pitch row k)) (λ k h. before_in_row pitch row a k p (let l = h.0 in omega arith)) (range_with_len (a + 1) n) (range_sound (a + 1) n)),
  range_rises pitch row (a + 1) n p,
)

-- the positions of the columns from a to b, if any
strip : ℕ → ℕ → ℕ → ℕ → List Point
strip pitch row a b = map (place pitch row) (range_with_len a (b - a))

strip_is : (pitch row a b : ℕ) → points_of pitch (run_between row a b) ≡ strip pitch row a b
unfolding strip
strip_is pitch row a b = ⊎_elim some none (cases_lt a b)
  where
    one : Run
    one = record { row = row; from = a; to = b }

    some : a < b → points_of pitch (run_between row a b) ≡ map (place pitch row) (range_with_len a (b - a))
    some l = ap (points_of pitch) (cond-true (nat_lt a b) (one ∷ []) [] (lt-ltb a b l)) ∙ append-nil (run_points pitch one)

    none : b ≤ a → points_of pitch (run_between row a b) ≡ map (place pitch row) (range_with_len a (b - a))
    none l = ap (points_of pitch) (cond-false (nat_lt a b) (one ∷ []) [] (le-ltb a b l)) ∙ ap (λ (n : ℕ). map (place pitch row) (range_with_len a n)) (zero_is a b l)
      where
        zero_is : (a b : ℕ) → b ≤ a → 0 ≡ b - a
        zero_is a b l = omega arith

gaps_more : (pitch row from columns : ℕ) (s : Forbidden) (ss : List Forbidden) → points_of pitch (gaps row from columns (s ∷ ss)) ≡ strip pitch row from s.from ++ points_of pitch (gaps row (max from s.to) columns ss)
gaps_more pitch row from columns s ss = flat_map-append (run_points pitch) (run_between row from s.from) (gaps row (max from s.to) columns ss) ∙ ap (λ (ps : List Point). ps ++ points_of pitch (gaps row (max from s.to) columns ss)) (strip_is pitch row from s.from)

-- ---- forbidden columns in order
abbrev pub Ascends : List Forbidden → Type 0
Ascends [] = Unit {0}
Ascends (s ∷ ss) = Every (λ t. s.from ≤ t.from) ss × Ascends ss

-- a column of the row from the first one on that is not forbidden
pub record IsGap (columns from : ℕ) (ss : List Forbidden) (k : ℕ) : Type 0 where
  pub low : from ≤ k
  pub high : k < columns
  pub free : Every (Misses k) ss

strip_sound : (pitch row a b : ℕ) → Every (λ p. (k : ℕ) × (a ≤ k) × (k < b) × (p ≡ place pitch row k)) (strip pitch row a b)
unfolding strip
strip_sound pitch row a b = every_map (place pitch row) (λ p. (k : ℕ) × (a ≤ k) × (k < b) × (p ≡ place pitch row k)) (range_with_len a (b - a))
    (every_then (λ k. (a ≤ k) × (k < a + (b - a))) (λ j. (k : ℕ) × (a ≤ k) × (k < b) × (place pitch row j ≡ place pitch row k)) (λ k h. (k, h.0, (let l = h.1 in let m = h.0 in omega arith), refl)) (range_with_len a (b - a)) (range_sound a (b - a)))

strip_complete : (pitch row a b k : ℕ) → a ≤ k → k < b → Some_of (λ q. q ≡ place pitch row k) (strip pitch row a b)
unfolding strip
strip_complete pitch row a b k l h = some_map (place pitch row) (λ q. q ≡ place pitch row k) (range_with_len a (b - a)) (some_then (λ j. j ≡ k) (λ j. place pitch row j ≡ place pitch row k) (λ j e. ap (place pitch row) e) (range_with_len a (b - a)) (range_complete a (b - a) k l (omega arith)))

strip_rises : (pitch row a b : ℕ) → 1 ≤ pitch → Rises (strip pitch row a b)
unfolding strip
strip_rises pitch row a b p = range_rises pitch row a (b - a) p

length-strip : (pitch row a b : ℕ) → length (strip pitch row a b) ≡ b - a
unfolding strip
length-strip pitch row a b = length-map (range_with_len a (b - a)) (place pitch row) ∙ length-range_with_len a (b - a)

-- each position of the gaps is of a column that is not forbidden
abbrev pub Sound : ℕ → ℕ → ℕ → ℕ → List Forbidden → Point → Type 0
Sound pitch row from columns ss p = (k : ℕ) × IsGap columns from ss k × (p ≡ place pitch row k)

pub gaps_sound : (pitch row from columns : ℕ) (ss : List Forbidden) → Ascends ss → Every (FitsWithin columns) ss → Every (Sound pitch row from columns ss) (points_of pitch (gaps row from columns ss))
gaps_sound pitch row from columns [] u w = subst (λ ps. Every (Sound pitch row from columns []) ps) (sym (strip_is pitch row from columns))
    (every_then (λ p. (k : ℕ) × (from ≤ k) × (k < columns) × (p ≡ place pitch row k)) (Sound pitch row from columns []) (λ p h. (h.0, record { low = h.1; high = h.2; free = tt }, h.3)) (strip pitch row from columns) (strip_sound pitch row from columns))
gaps_sound pitch row from columns (s ∷ ss) u w =
    subst (λ ps. Every (Sound pitch row from columns (s ∷ ss)) ps) (sym (gaps_more pitch row from columns s ss))
    (every_append (Sound pitch row from columns (s ∷ ss)) (strip pitch row from s.from) (points_of pitch (gaps row (max from s.to) columns ss))
    (every_then (λ p. (k : ℕ) × (from ≤ k) × (k < s.from) × (p ≡ place pitch row k)) (Sound pitch row from columns (s ∷ ss)) (λ p h. first h.0 h.1 h.2 p h.3) (strip pitch row from s.from) (strip_sound pitch row from s.from))
    (every_then (Sound pitch row (max from s.to) columns ss) (Sound pitch row from columns (s ∷ ss)) (λ p h. (h.0, later h.0 h.1, h.2)) (points_of pitch (gaps row (max from s.to) columns ss)) (gaps_sound pitch row (max from s.to) columns ss u.1 w.1)))
  where
    fits : s.to ≤ columns
    fits = w.0.1

    some : s.from < s.to
    some = w.0.0

    first : (k : ℕ) → from ≤ k → k < s.from → (p : Point) → p ≡ place pitch row k → Sound pitch row from columns (s ∷ ss) p
    first k l h p e = (k, record { low = l; high = (let a = fits in let b = some in omega arith); free = ((λ m n. omega arith), every_then (λ t. s.from ≤ t.from) (Misses k) (λ t o. λ m n. omega arith) ss u.0) }, e)

    later : (k : ℕ) → IsGap columns (max from s.to) ss k → IsGap columns from (s ∷ ss) k
    later k g = record { low = (let l = g.low in omega arith); high = g.high; free = ((λ m n. let l = g.low in omega arith), g.free) }

-- each column that is not forbidden is in the gaps
pub gaps_complete : (pitch row from columns : ℕ) (ss : List Forbidden) (k : ℕ) → IsGap columns from ss k → Some_of (λ q. q ≡ place pitch row k) (points_of pitch (gaps row from columns ss))
gaps_complete pitch row from columns [] k g = subst (λ ps. Some_of (λ q. q ≡ place pitch row k) ps) (sym (strip_is pitch row from columns)) (strip_complete pitch row from columns k g.low g.high)
gaps_complete pitch row from columns (s ∷ ss) k g =
    subst (λ ps. Some_of (λ q. q ≡ place pitch row k) ps) (sym (gaps_more pitch row from columns s ss))
    (⊎_elim (λ o. some_left (λ q. q ≡ place pitch row k) (strip pitch row from s.from) (points_of pitch (gaps row (max from s.to) columns ss)) (strip_complete pitch row from s.from k g.low o))
    (λ o. some_right (λ q. q ≡ place pitch row k) (strip pitch row from s.from) (points_of pitch (gaps row (max from s.to) columns ss)) (gaps_complete pitch row (max from s.to) columns ss k (later o))) (cases_lt k s.from))
  where
    past : s.from ≤ k → s.to ≤ k
    past o = ⊎_elim (λ h. absurd (g.free.0 o h)) (λ h. h) (cases_lt k s.to)

    later : s.from ≤ k → IsGap columns (max from s.to) ss k
    later o = record { low = (let l = g.low in let m = past o in omega arith); high = g.high; free = g.free.1 }

-- the gaps ascend
pub gaps_rise : (pitch row from columns : ℕ) (ss : List Forbidden) → 1 ≤ pitch → Ascends ss → Every (FitsWithin columns) ss → Rises (points_of pitch (gaps row from columns ss))
gaps_rise pitch row from columns [] p u w = subst Rises (sym (strip_is pitch row from columns)) (strip_rises pitch row from columns p)
gaps_rise pitch row from columns (s ∷ ss) p u w =
    subst Rises (sym (gaps_more pitch row from columns s ss))
    (rises-append (strip pitch row from s.from) (points_of pitch (gaps row (max from s.to) columns ss)) (strip_rises pitch row from s.from p) (gaps_rise pitch row (max from s.to) columns ss p u.1 w.1)
    (every_then (λ q. (k : ℕ) × (from ≤ k) × (k < s.from) × (q ≡ place pitch row k)) (λ q. Every (IsBefore q) (points_of pitch (gaps row (max from s.to) columns ss)))
    (λ q h. every_then (Sound pitch row (max from s.to) columns ss) (IsBefore q)
    (λ r g. subst (λ (t : Point). IsBefore t r) (sym h.3) (subst (λ (t : Point). IsBefore (place pitch row h.0) t) (sym g.2) (before_in_row pitch row h.0 g.0 p (let a = h.2 in let b = w.0.0 in let c = g.1.low in omega arith))))
    (points_of pitch (gaps row (max from s.to) columns ss)) (gaps_sound pitch row (max from s.to) columns ss u.1 w.1))
    (strip pitch row from s.from) (strip_sound pitch row from s.from)))

-- and are no more than the columns
pub gaps_few : (pitch row from columns : ℕ) (ss : List Forbidden) → Every (FitsWithin columns) ss → length (points_of pitch (gaps row from columns ss)) ≤ columns - from
gaps_few pitch row from columns [] w = let e = ap (length {A = Point}) (strip_is pitch row from columns) ∙ length-strip pitch row from columns in omega arith
gaps_few pitch row from columns (s ∷ ss) w =
    let e = ap (length {A = Point}) (gaps_more pitch row from columns s ss) ∙ length-append (strip pitch row from s.from) (points_of pitch (gaps row (max from s.to) columns ss)) in
    let f = length-strip pitch row from s.from in
    let h = gaps_few pitch row (max from s.to) columns ss w.1 in
    let a = w.0.0 in
    let b = w.0.1 in
    omega arith

run_is : (row a b : ℕ) → row ≤ 401 → b ≤ 401 → Every IsRun (run_between row a b)
run_is row a b r c = ⊎_elim (λ l. subst (Every IsRun) (sym (cond-true (nat_lt a b) (record { row = row; from = a; to = b } ∷ []) [] (lt-ltb a b l))) (record { some = l; columns = c; row = r }, tt)) (λ l. subst (Every IsRun) (sym (cond-false (nat_lt a b) (record { row = row; from = a; to = b } ∷ []) [] (le-ltb a b l))) tt) (cases_lt a b)

-- each gap is a run
pub gaps_run : (row from columns : ℕ) (ss : List Forbidden) → row ≤ 401 → columns ≤ 401 → Every (FitsWithin columns) ss → Every IsRun (gaps row from columns ss)
gaps_run row from columns [] r c w = run_is row from columns r c
gaps_run row from columns (s ∷ ss) r c w = every_append IsRun (run_between row from s.from) (gaps row (max from s.to) columns ss) (run_is row from s.from r (let a = w.0.0 in let b = w.0.1 in omega arith)) (gaps_run row (max from s.to) columns ss r c w.1)
