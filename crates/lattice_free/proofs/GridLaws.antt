-- The free runs of the rows of a plate, one row after another.
use Rattle.std.proofs.Common.{◌≡◌, ℕ, zero, suc, ◌+◌, ◌*◌, ◌<◌, ◌≤◌, List, [], ◌∷◌, ◌++◌, length, get_or, sym, ap, ◌∙◌, subst, arith, ⊎_elim, ◌↔◌, inl}
use Rattle.std.specs.List.{All, Contains, AllPairs}
use Rattle.std.specs.List.Sorted.{IsNonDecreasingBy}
use Rattle.std.proofs.lemmas.Bool.{cases_lt}
use Rattle.std.proofs.lemmas.Int.{ints}
use Rattle.std.proofs.lemmas.List.{length-append}
use Rattle.std.proofs.lemmas.List.Concat.{flat_map-append}
use Rattle.std.proofs.lemmas.List.Elements.{All-contains}
use Rattle.shape_exact.specs.declared.point.Point.{Point}
use Rattle.shape_exact.specs.declared.plate.Plate.{Plate}
use Rattle.shape_exact.specs.Shapes.{AreApart, reach_x, reach_y}
use Rattle.shape_exact.specs.Plane.{Every, Some_of}
use Rattle.shape_exact.proofs.LineLaws.{every_then}
use Rattle.shape_exact.proofs.BridgeLaws.{every_from_All}
use Rattle.shape_exact.proofs.MeetLaws.{every_append}
use Rattle.minkowski_obstacles.specs.Pairs.{Pair}
use Rattle.minkowski_obstacles.proofs.SideLaws.{all_from_every, contains_from, some_left, some_right}
use Rattle.lattice_free.specs.declared.run.Run.{Run}
use Rattle.lattice_free.specs.declared.forbidden.Forbidden.{Forbidden}
use Rattle.lattice_free.specs.Order.{IsBefore}
use Rattle.lattice_free.specs.Runs.{place, run_points, points_of, IsRun, IsPitch}
use Rattle.lattice_free.specs.Gaps.{gaps, FitsWithin, Misses}
use Rattle.lattice_free.specs.Clear.{AreClear, AreForbidden}
use Rattle.lattice_free.specs.FreePositions.{IsFree, AreFree}
use Rattle.lattice_free.specs.Grid.{Rises, IsPlaced, IsGrid}
use Rattle.lattice_free.proofs.GapLaws.{Ascends, IsGap, Sound, rises-append, gaps_sound, gaps_complete, gaps_rise, gaps_few, gaps_run}
use Rattle.lattice_free.proofs.ForbidLaws.{ascends_from}
use lib.IntN.{ℤ, pos, ◌+ℤ◌}
use lib.Signed.{◌<ℤ◌, ◌≤ℤ◌}
use Rattle.std.proofs.Math.Nat.{mul-le-mul_right}

points-append : (pitch : ℕ) (rs ts : List Run) → points_of pitch (rs ++ ts) ≡ points_of pitch rs ++ points_of pitch ts
points-append pitch rs ts = flat_map-append (run_points pitch) rs ts

in_row : (fixed : List (Pair × Point)) (pitch row columns : ℕ) (ss : List Forbidden) (p : Point) → AreForbidden fixed pitch row columns ss → Sound pitch row 0 columns ss p → IsPlaced fixed pitch columns (row + 1) p
in_row fixed pitch row columns ss p a s = (row, s.0, omega arith, s.1.high, s.2, subst (AreClear fixed) (sym s.2) (a.clear s.0 s.1.high (all_from_every (Misses s.0) ss s.1.free)))

wider : (fixed : List (Pair × Point)) (pitch columns rows : ℕ) (p : Point) → IsPlaced fixed pitch columns rows p → IsPlaced fixed pitch columns (rows + 1) p
wider fixed pitch columns rows p h = (h.0, h.1, (let l = h.2 in omega arith), h.3, h.4, h.5)

next_row : (row pitch : ℕ) (y : ℤ) → y <ℤ pos (row * pitch) → y <ℤ pos ((row + 1) * pitch)
next_row row pitch y h = by (row * pitch) ((row + 1) * pitch) y (more row pitch) h
  where
    more : (row pitch : ℕ) → row * pitch ≤ (row + 1) * pitch
    more row pitch = let l : row ≤ row + 1 = omega arith in mul-le-mul_right pitch l

    by : (a b : ℕ) (y : ℤ) → a ≤ b → y <ℤ pos a → y <ℤ pos b
    by a b y l h = omega (arith, ints)

this_row : (row pitch : ℕ) → 1 ≤ pitch → pos (row * pitch) <ℤ pos ((row + 1) * pitch)
this_row row pitch h = by (row * pitch) ((row + 1) * pitch) (more row pitch h)
  where
    more : (row pitch : ℕ) → 1 ≤ pitch → row * pitch < (row + 1) * pitch
    more row pitch h = omega arith

    by : (a b : ℕ) → a < b → pos a <ℤ pos b
    by a b l = omega (arith, ints)

-- one more row
pub grid_more : (fixed : List (Pair × Point)) (pitch columns row : ℕ) (runs : List Run) (ss : List Forbidden) → IsPitch pitch → columns ≤ 401 → row ≤ 401 → IsGrid fixed pitch columns row runs → AreForbidden fixed pitch row columns ss → IsNonDecreasingBy (λ s. s.from) ss → IsGrid fixed pitch columns (row + 1) (runs ++ gaps row 0 columns ss)
grid_more fixed pitch columns row runs ss i c r g a n = record {
  each = every_append IsRun runs new g.each (gaps_run row 0 columns ss r c w);
  rises = subst Rises (sym e) (rises-append old added g.rises (gaps_rise pitch row 0 columns ss i.0 u w) (every_then (λ p. p.y <ℤ pos (row * pitch)) (λ p. Every (IsBefore p) added) (λ p h. every_then (Sound pitch row 0 columns ss) (IsBefore p) (λ q s. inl (subst (λ (t : Point). p.y <ℤ t.y) (sym s.2) h)) added f) old g.below));
  below = subst (Every (λ p. p.y <ℤ pos ((row + 1) * pitch))) (sym e) (every_append (λ p. p.y <ℤ pos ((row + 1) * pitch)) old added
      (every_then (λ p. p.y <ℤ pos (row * pitch)) (λ p. p.y <ℤ pos ((row + 1) * pitch)) (λ p h. next_row row pitch p.y h) old g.below)
      (every_then (Sound pitch row 0 columns ss) (λ p. p.y <ℤ pos ((row + 1) * pitch)) (λ p s. subst (λ (t : Point). t.y <ℤ pos ((row + 1) * pitch)) (sym s.2) (this_row row pitch i.0)) added f));
  few = let m = ap (length {A = Point}) e ∙ length-append old added in let k = gaps_few pitch row 0 columns ss w in let o = g.few in omega arith;
  sound = subst (Every (IsPlaced fixed pitch columns (row + 1))) (sym e) (every_append (IsPlaced fixed pitch columns (row + 1)) old added
      (every_then (IsPlaced fixed pitch columns row) (IsPlaced fixed pitch columns (row + 1)) (λ p h. wider fixed pitch columns row p h) old g.sound)
      (every_then (Sound pitch row 0 columns ss) (IsPlaced fixed pitch columns (row + 1)) (λ p s. in_row fixed pitch row columns ss p a s) added f));
  complete = λ j k l m h. subst (Some_of (λ q. q ≡ place pitch j k)) (sym e) (⊎_elim
      (λ o. some_left (λ q. q ≡ place pitch j k) old added (g.complete j k o m h))
      (λ o. some_right (λ q. q ≡ place pitch j k) old added (last j k (omega arith) m h)) (cases_lt j row));
}
  where
    new : List Run
    new = gaps row 0 columns ss

    old : List Point
    old = points_of pitch runs

    added : List Point
    added = points_of pitch (gaps row 0 columns ss)

    e : points_of pitch (runs ++ gaps row 0 columns ss) ≡ points_of pitch runs ++ points_of pitch (gaps row 0 columns ss)
    e = points-append pitch runs (gaps row 0 columns ss)

    u : Ascends ss
    u = ascends_from ss n

    w : Every (FitsWithin columns) ss
    w = every_from_All (FitsWithin columns) ss a.fits

    f : Every (Sound pitch row 0 columns ss) (points_of pitch (gaps row 0 columns ss))
    f = gaps_sound pitch row 0 columns ss u w

    gap : (k : ℕ) → k < columns → AreClear fixed (place pitch row k) → IsGap columns 0 ss k
    gap k m h = record { low = omega arith; high = m; free = every_from_All (Misses k) ss (a.missed k m h) }

    last : (j k : ℕ) → j ≡ row → k < columns → AreClear fixed (place pitch j k) → Some_of (λ q. q ≡ place pitch j k) (points_of pitch (gaps row 0 columns ss))
    last j k o m h = subst (λ (t : ℕ). Some_of (λ q. q ≡ place pitch t k) (points_of pitch (gaps row 0 columns ss))) (sym o) (gaps_complete pitch row 0 columns ss k (gap k m (subst (λ (t : ℕ). AreClear fixed (place pitch t k)) o h)))

-- ---- the runs of the whole plate
pairs_from : (ps : List Point) → Rises ps → AllPairs IsBefore ps
pairs_from [] h = λ i j d a b. absurd (omega arith)
pairs_from (p ∷ ps) h = λ i j d a b. at i j d a b (pairs_from ps h.1)
  where
    at : (i j : ℕ) (d : Point) → i < j → j < length (p ∷ ps) → AllPairs IsBefore ps → IsBefore (get_or (p ∷ ps) i d) (get_or (p ∷ ps) j d)
    at i zero d a b t = absurd (omega arith)
    at zero (suc j) d a b t = all_from_every (IsBefore p) ps h.0 j d (omega arith)
    at (suc i) (suc j) d a b t = t i j d (omega arith) (omega arith)

-- clear of each obstacle is apart from each fixed shape, where all are of the one moving shape
apart_from : (shape : List Point) (fixed : List (Pair × Point)) (p : Point) → All (λ o. o.0.moving ≡ shape) fixed → AreClear fixed p → All (λ o. AreApart o.0.fixed o.1 shape p) fixed
apart_from shape fixed p m c = λ k d l. subst (λ (s : List Point). AreApart (get_or fixed k d).0.fixed (get_or fixed k d).1 s p) (m k d l) (c k d l)

clear_from : (shape : List Point) (fixed : List (Pair × Point)) (p : Point) → All (λ o. o.0.moving ≡ shape) fixed → All (λ o. AreApart o.0.fixed o.1 shape p) fixed → AreClear fixed p
clear_from shape fixed p m c = λ k d l. subst (λ (s : List Point). AreApart (get_or fixed k d).0.fixed (get_or fixed k d).1 s p) (sym (m k d l)) (c k d l)

fits_to : (n r w : ℕ) → n + r ≤ w → (pos n +ℤ pos r) ≤ℤ pos w
fits_to n r w h = omega (arith, ints)

fits_from : (n r w : ℕ) → (pos n +ℤ pos r) ≤ℤ pos w → n + r ≤ w
fits_from n r w h = omega (arith, ints)

pub free_from : (plate : Plate) (shape : List Point) (fixed : List (Pair × Point)) (columns rows : ℕ) (runs : List Run) → All (λ o. o.0.moving ≡ shape) fixed
    → ((k : ℕ) → (k < columns) ↔ (k * plate.pitch + reach_x shape ≤ plate.width)) → ((j : ℕ) → (j < rows) ↔ (j * plate.pitch + reach_y shape ≤ plate.height))
    → IsGrid fixed plate.pitch columns rows runs → AreFree plate shape fixed (points_of plate.pitch runs)
free_from plate shape fixed columns rows runs m x y g = record {
  ascending = pairs_from ps g.rises;
  exact = λ p. (λ c. there p (All-contains (IsPlaced fixed pitch columns rows) ps p (all_from_every (IsPlaced fixed pitch columns rows) ps g.sound) c), λ f. back p f);
}
  where
    pitch : ℕ
    pitch = plate.pitch

    ps : List Point
    ps = points_of plate.pitch runs

    there : (p : Point) → IsPlaced fixed plate.pitch columns rows p → IsFree plate shape fixed p
    there p h = record {
      x_step = (h.1, ap (λ (q : Point). q.x) h.4);
      y_step = (h.0, ap (λ (q : Point). q.y) h.4);
      x_fits = subst (λ (q : Point). (q.x +ℤ pos (reach_x shape)) ≤ℤ pos plate.width) (sym h.4) (fits_to (h.1 * plate.pitch) (reach_x shape) plate.width ((x h.1).0 h.3));
      y_fits = subst (λ (q : Point). (q.y +ℤ pos (reach_y shape)) ≤ℤ pos plate.height) (sym h.4) (fits_to (h.0 * plate.pitch) (reach_y shape) plate.height ((y h.0).0 h.2));
      apart = apart_from shape fixed p m h.5;
    }

    back : (p : Point) → IsFree plate shape fixed p → Contains (points_of plate.pitch runs) p
    back p f = found p (sym e) (contains_from (λ q. q ≡ place plate.pitch f.y_step.0 f.x_step.0) (points_of plate.pitch runs) (g.complete f.y_step.0 f.x_step.0
        ((y f.y_step.0).1 (fits_from (f.y_step.0 * plate.pitch) (reach_y shape) plate.height (subst (λ (t : ℤ). (t +ℤ pos (reach_y shape)) ≤ℤ pos plate.height) f.y_step.1 f.y_fits)))
        ((x f.x_step.0).1 (fits_from (f.x_step.0 * plate.pitch) (reach_x shape) plate.width (subst (λ (t : ℤ). (t +ℤ pos (reach_x shape)) ≤ℤ pos plate.width) f.x_step.1 f.x_fits)))
        (subst (AreClear fixed) e (clear_from shape fixed p m f.apart))))
      where
        e : p ≡ place plate.pitch f.y_step.0 f.x_step.0
        e = ap (λ (t : ℤ). record { x = t; y = p.y }) f.x_step.1 ∙ ap (λ (t : ℤ). record { x = pos (f.x_step.0 * plate.pitch); y = t }) f.y_step.1

        found : (p : Point) → place plate.pitch f.y_step.0 f.x_step.0 ≡ p → (q : Point) × Contains (points_of plate.pitch runs) q × (q ≡ place plate.pitch f.y_step.0 f.x_step.0) → Contains (points_of plate.pitch runs) p
        found p e r = subst (Contains (points_of plate.pitch runs)) (r.2 ∙ e) r.1
