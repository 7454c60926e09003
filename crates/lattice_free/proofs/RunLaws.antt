-- The positions of a run, and the first of them at or after a given one.
use Rattle.std.proofs.Common.{◌≡◌, ℕ, zero, suc, ◌+◌, ◌-◌, ◌<◌, ◌≤◌, Bool, true, false, List, [], ◌∷◌, ◌++◌, length, take, drop, get_or, map, Option, Some, None, is_some, arith, refl, sym, ◌∙◌, ap, subst, ⊎_elim}
use Rattle.std.specs.List.{find, range_with_len}
use Rattle.std.proofs.lemmas.Bool.{cases_lt, cases_Bool, cond-true, cond-false}
use Rattle.shape_exact.specs.declared.point.Point.{Point}
use Rattle.lattice_free.specs.declared.run.Run.{Run}
use Rattle.lattice_free.specs.Runs.{place, run_points, points_of}
use Rattle.std.proofs.lemmas.List.FromFn.{length-map-range_with_len}
use Rattle.std.proofs.lemmas.List.{take_more, length-append, append-nil, take-append-drop}
use Rattle.std.proofs.lemmas.List.Concat.{flat_map-append}

-- none of the places from a on passes
pub find_none : (q : Point → Bool) (f : ℕ → Point) (a n : ℕ) → ((k : ℕ) → a ≤ k → k < a + n → q (f k) ≡ false) → find q (map f (range_with_len a n)) ≡ None
find_none q f a zero h = refl
find_none q f a (suc n) h =
    cond-false (q (f a)) _ _ (h a (omega arith) (omega arith))
    ∙ find_none q f (a + 1) n (λ k l r. h k (omega arith) (omega arith))

-- the place j is the first that passes
pub find_at : (q : Point → Bool) (f : ℕ → Point) (a n j : ℕ) → a ≤ j → j < a + n → ((k : ℕ) → a ≤ k → k < j → q (f k) ≡ false) → q (f j) ≡ true → find q (map f (range_with_len a n)) ≡ Some (f j)
find_at q f a zero j l r h t = absurd (omega arith)
find_at q f a (suc n) j l r h t = ⊎_elim (λ o. later o (find_at q f (a + 1) n j (omega arith) (omega arith) (λ k m s. h k (omega arith) s) t)) here (cases_lt a j)
  where
    later : a < j → find q (map f (range_with_len (a + 1) n)) ≡ Some (f j) → find q (map f (range_with_len a (suc n))) ≡ Some (f j)
    later o e = cond-false (q (f a)) _ _ (h a (omega arith) o) ∙ e

    here : j ≤ a → find q (map f (range_with_len a (suc n))) ≡ Some (f j)
    here o = let e : j ≡ a = omega arith in cond-true (q (f a)) _ _ (subst (λ (k : ℕ). q (f k) ≡ true) e t) ∙ ap (λ (k : ℕ). Some (f k)) (sym e)

-- the first that passes of two lists, one after the other
pub find-append_some : (q : Point → Bool) (xs ys : List Point) (p : Point) → find q xs ≡ Some p → find q (xs ++ ys) ≡ Some p
find-append_some q [] ys p e = cc
find-append_some q (x ∷ xs) ys p e = ⊎_elim (λ t. cond-true (q x) _ _ t ∙ sym (cond-true (q x) (Some x) (find q xs) t) ∙ e) (λ t. cond-false (q x) _ _ t ∙ find-append_some q xs ys p (sym (cond-false (q x) (Some x) (find q xs) t) ∙ e)) (cases_Bool (q x))

pub find-append_none : (q : Point → Bool) (xs ys : List Point) → find q xs ≡ None → find q (xs ++ ys) ≡ find q ys
find-append_none q [] ys e = refl
find-append_none q (x ∷ xs) ys e = ⊎_elim (λ t. let f : Some x ≡ None = sym (cond-true (q x) (Some x) (find q xs) t) ∙ e in cc) (λ t. cond-false (q x) _ _ t ∙ find-append_none q xs ys (sym (cond-false (q x) (Some x) (find q xs) t) ∙ e)) (cases_Bool (q x))

-- how many positions a run has
pub length-run_points : (pitch : ℕ) (r : Run) → length (run_points pitch r) ≡ r.to - r.from
length-run_points pitch r = length-map-range_with_len (place pitch r.row) r.from (r.to - r.from)

-- the positions of one more run
pub length_more : (pitch : ℕ) (rs : List Run) (i : ℕ) (d : Run) → i < length rs → length (points_of pitch (take (i + 1) rs)) ≡ length (points_of pitch (take i rs)) + ((get_or rs i d).to - (get_or rs i d).from)
length_more pitch rs i d h =
    ap (λ (ss : List Run). length (points_of pitch ss)) (take_more rs i d h)
    ∙ ap (length {A = Point}) (flat_map-append (run_points pitch) (take i rs) (get_or rs i d ∷ []))
    ∙ length-append (points_of pitch (take i rs)) (run_points pitch (get_or rs i d) ++ [])
    ∙ ap (λ (ps : List Point). length (points_of pitch (take i rs)) + length ps) (append-nil (run_points pitch (get_or rs i d)))
    ∙ ap (λ (n : ℕ). length (points_of pitch (take i rs)) + n) (length-run_points pitch (get_or rs i d))

-- so many positions are within the whole
pub length_more_le : (pitch : ℕ) (rs : List Run) (i : ℕ) (d : Run) → i < length rs → length (points_of pitch (take i rs)) + ((get_or rs i d).to - (get_or rs i d).from) ≤ length (points_of pitch rs)
length_more_le pitch rs i d h = let e = length_more pitch rs i d h in let f = whole in omega arith
  where
    whole : length (points_of pitch rs) ≡ length (points_of pitch (take (i + 1) rs)) + length (points_of pitch (drop (i + 1) rs))
    whole = ap (λ (ss : List Run). length (points_of pitch ss)) (sym (take-append-drop (i + 1) rs)) ∙ ap (length {A = Point}) (flat_map-append (run_points pitch) (take (i + 1) rs) (drop (i + 1) rs)) ∙ length-append (points_of pitch (take (i + 1) rs)) (points_of pitch (drop (i + 1) rs))

-- a search of two lists ends in the first where it finds something there, and else is that of the second
pub found_first : (q : Point → Bool) (r : Option Point) (xs ys : List Point) → r ≡ find q xs → is_some r ≡ true → find q (xs ++ ys) ≡ r
found_first q None xs ys e s = cc
found_first q (Some p) xs ys e s = find-append_some q xs ys p (sym e)

pub found_later : (q : Point → Bool) (r : Option Point) (xs ys : List Point) → r ≡ find q xs → is_some r ≡ false → find q (xs ++ ys) ≡ find q ys
found_later q None xs ys e s = find-append_none q xs ys (sym e)
found_later q (Some p) xs ys e s = cc
