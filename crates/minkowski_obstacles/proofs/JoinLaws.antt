-- Sides of one direction stand for one another.
use Rattle.std.proofs.Common.{◌≡◌, sym, ap, ◌∙◌, subst, arith, ℕ, ◌+◌, ◌<◌, ◌≤◌, true, false, List, [], ◌∷◌, ◌++◌, length, take, get_or, map, append_assoc, ◌⊎◌, inl, inr}
use Rattle.std.specs.List.{All, Any, Contains}
use Rattle.std.specs.List.Sorted.{IsSortedBy, IsPermutation}
use Rattle.std.proofs.lemmas.Bool.{cases_lt}
use Rattle.std.proofs.lemmas.List.{length_push, take_more, get_or_default}
use Rattle.std.proofs.lemmas.List.Elements.{All-push, All-weaker, All-contains, All-contains_itself, Contains-append_left, Contains-push}
use Rattle.std.proofs.lemmas.List.Quantifiers.{Any-push, all_pairs_push}
use Rattle.std.proofs.lemmas.List.Sorted.{sorted_far, All-permutation, Contains-permutation, length_permutation, IsPermutation-append_right, IsPermutation-append_comm, IsPermutation-to_front}
use Rattle.shape_exact.specs.declared.point.Point.{Point}
use Rattle.shape_exact.proofs.RingLaws.{ring, linear}
use Rattle.shape_exact.specs.Plane.{side, rim, Every, Some_of, mark_of}
use Rattle.shape_exact.proofs.LineLaws.{every_then}
use Rattle.shape_exact.proofs.MeetLaws.{Convex}
use Rattle.shape_exact.proofs.ThickLaws.{ends}
use Rattle.shape_exact.specs.Sums.{Side as Wall, value as height, fixed_side as fixed_wall, moving_side as moving_wall, Of_fixed, Of_moving, Is_sum}
use Rattle.shape_exact.proofs.SumLaws.{pick, map_every, fixed_value, parallel_at}
use Rattle.shape_exact.proofs.BridgeLaws.{every_from_All, some_from_Any}
use Rattle.minkowski_obstacles.specs.declared.side.Side.{Side}
use Rattle.minkowski_obstacles.specs.Sums.{wall, value, OneWay, AreJoined}
use Rattle.minkowski_obstacles.specs.Merged.{comes_before, HasDirection, IsAscending, IsKept, IsNext}
use Rattle.minkowski_obstacles.proofs.DirectionLaws.{by_turn, one_way, chain, comes_then, not_itself, tied}
use Rattle.minkowski_obstacles.proofs.SideLaws.{some_before, contains_from, all_from_every, some_from_contains}
use lib.IntN.{ℤ, pos, ◌+ℤ◌, ◌-ℤ◌, ◌*ℤ◌}
use lib.Signed.{◌<ℤ◌, ◌≤ℤ◌}

-- ---- joining, one side after another
-- what is kept of the sides so far
pub record Kept (sides kept : List Side) : Type 0 where
  pub joined : AreJoined sides kept
  pub ascending : IsAscending kept
  pub count : length kept ≤ length sides

any_before : {A : Type 0} (P : A → Type 0) (xs : List A) (y : A) → Any P xs → Any P (xs ++ y ∷ [])
any_before P xs y h = let r = contains_from P (xs ++ y ∷ []) (some_before P xs y (some_from_Any P xs h)) in (r.1.0, r.0, r.1.1, r.1.2, r.2)

-- a side has its own direction
itself : (s : Side) → HasDirection s → OneWay s s
itself s h = tied s.along s.along (not_itself s.along) (not_itself s.along) h

kept_new : (xs ks : List Side) (s : Side) → Kept xs ks → HasDirection s → All (λ k. comes_before k.along s.along ≡ true) ks → Kept (xs ++ s ∷ []) (ks ++ s ∷ [])
kept_new xs ks s j h b = record {
  joined = record {
    among = All-push (Contains (xs ++ s ∷ [])) ks s (All-weaker (Contains xs) (Contains (xs ++ s ∷ [])) (λ k c. Contains-append_left xs (s ∷ []) k c) ks j.joined.among) (Contains-push xs s);
    each = All-push (λ t. Any (λ k. OneWay k t) (ks ++ s ∷ [])) xs s
        (All-weaker (λ t. Any (λ k. OneWay k t) ks) (λ t. Any (λ k. OneWay k t) (ks ++ s ∷ [])) (λ t a. any_before (λ k. OneWay k t) ks s a) xs j.joined.each)
        (Any-push (λ k. OneWay k s) ks s (itself s h));
  };
  ascending = all_pairs_push (λ a c. comes_before a.along c.along ≡ true) ks s j.ascending (λ k d l. b k d l);
  count = let m = length_push xs s in let n = length_push ks s in let l = j.count in omega arith;
}

kept_old : (xs ks : List Side) (s : Side) → Kept xs ks → Any (λ k. OneWay k s) ks → Kept (xs ++ s ∷ []) ks
kept_old xs ks s j a = record {
  joined = record {
    among = All-weaker (Contains xs) (Contains (xs ++ s ∷ [])) (λ k c. Contains-append_left xs (s ∷ []) k c) ks j.joined.among;
    each = All-push (λ t. Any (λ k. OneWay k t) ks) xs s j.joined.each a;
  };
  ascending = j.ascending;
  count = let m = length_push xs s in let l = j.count in omega arith;
}

kept_more : (xs ks ts : List Side) (s : Side) → Kept xs ks → HasDirection s → IsKept ks s ts → Kept (xs ++ s ∷ []) ts
kept_more xs ks ts s j h (inl b) = subst (λ (us : List Side). Kept (xs ++ s ∷ []) us) (sym b.1) (kept_new xs ks s j h b.0)
kept_more xs ks ts s j h (inr a) = subst (λ (us : List Side). Kept (xs ++ s ∷ []) us) (sym a.1) (kept_old xs ks s j a.0)

-- what holds of each that was kept and of the next holds of each that is kept
all_kept : (P : Side → Type 0) (ks ts : List Side) (s : Side) → IsKept ks s ts → All P ks → P s → All P ts
all_kept P ks ts s (inl b) h p = subst (λ (us : List Side). All P us) (sym b.1) (All-push P ks s h p)
all_kept P ks ts s (inr a) h p = subst (λ (us : List Side). All P us) (sym a.1) h

-- the order of the sides does not matter
kept_permuted : (xs ys ks : List Side) → IsPermutation xs ys → Kept xs ks → Kept ys ks
kept_permuted xs ys ks p j = record {
  joined = record {
    among = All-weaker (Contains xs) (Contains ys) (λ k c. Contains-permutation xs ys k p c) ks j.joined.among;
    each = All-permutation (λ t. Any (λ k. OneWay k t) ks) xs ys p j.joined.each;
  };
  ascending = j.ascending;
  count = let n = length_permutation xs ys p in let l = j.count in omega arith;
}

inserted : (xs ys : List Side) (s : Side) → IsPermutation ((xs ++ ys) ++ s ∷ []) ((xs ++ s ∷ []) ++ ys)
inserted xs ys s =
    subst (λ (us : List Side). IsPermutation us ((xs ++ s ∷ []) ++ ys)) (sym (append_assoc xs ys (s ∷ [])))
    (subst (λ (us : List Side). IsPermutation (xs ++ (ys ++ s ∷ [])) us) (sym (append_assoc xs (s ∷ []) ys))
    (IsPermutation-append_right xs (ys ++ s ∷ []) (s ∷ ys) (IsPermutation-to_front ys s)))

-- ---- merging two sorted lists
abbrev IsSorted : List Side → Type 0
IsSorted xs = IsSortedBy (λ a b. comes_before a.along b.along) xs

pub next_turned : (xs ys : List Side) (i j : ℕ) (d : Side) → j < length ys → comes_before (get_or ys j d).along (get_or xs i d).along ≡ true → IsNext ys j xs i
next_turned xs ys i j d l b = (
  l,
  λ e n. subst (λ (s : Side). comes_before (get_or xs i e).along s.along ≡ false) (get_or_default ys j d e l)
      (subst (λ (s : Side). comes_before s.along (get_or ys j d).along ≡ false) (get_or_default xs i d e n) (one_way (get_or ys j d).along (get_or xs i d).along b)),
)

-- i sides of the one list and j of the other are done: no later one comes before one that is kept
pub record Merging (xs ys : List Side) (i j : ℕ) (ks : List Side) : Type 0 where
  pub first : i ≤ length xs
  pub second : j ≤ length ys
  pub kept : Kept (take i xs ++ take j ys) ks
  pub after_first : (k : ℕ) (d : Side) → i ≤ k → k < length xs → All (λ s. comes_before (get_or xs k d).along s.along ≡ false) ks
  pub after_second : (k : ℕ) (d : Side) → j ≤ k → k < length ys → All (λ s. comes_before (get_or ys k d).along s.along ≡ false) ks
  pub directed : All HasDirection ks

pub merging_turned : (xs ys : List Side) (i j : ℕ) (ks : List Side) → Merging xs ys i j ks → Merging ys xs j i ks
merging_turned xs ys i j ks m = record {
  first = m.second;
  second = m.first;
  kept = kept_permuted (take i xs ++ take j ys) (take j ys ++ take i xs) ks (IsPermutation-append_comm (take i xs) (take j ys)) m.kept;
  after_first = m.after_second;
  after_second = m.after_first;
  directed = m.directed;
}

pub merging_more : (xs ys : List Side) (i j : ℕ) (d : Side) (ks ts : List Side) → IsSorted xs → IsSorted ys → All HasDirection xs → Merging xs ys i j ks → IsNext xs i ys j → IsKept ks (get_or xs i d) ts → Merging xs ys (i + 1) j ts
merging_more xs ys i j d ks ts p q h m n k = record {
  first = let l = n.0 in omega arith;
  second = m.second;
  kept = subst (λ (us : List Side). Kept (us ++ take j ys) ts) (sym (take_more xs i d n.0))
      (kept_permuted ((take i xs ++ take j ys) ++ get_or xs i d ∷ []) ((take i xs ++ get_or xs i d ∷ []) ++ take j ys) ts (inserted (take i xs) (take j ys) (get_or xs i d))
      (kept_more (take i xs ++ take j ys) ks ts (get_or xs i d) m.kept (h i d n.0) k));
  after_first = λ l e a b. all_kept (λ s. comes_before (get_or xs l e).along s.along ≡ false) ks ts (get_or xs i d) k (m.after_first l e (omega arith) b) (later l e a b);
  after_second = λ l e a b. all_kept (λ s. comes_before (get_or ys l e).along s.along ≡ false) ks ts (get_or xs i d) k (m.after_second l e a b) (other l e a b);
  directed = all_kept HasDirection ks ts (get_or xs i d) k m.directed (h i d n.0);
}
  where
    later : (l : ℕ) (e : Side) → i + 1 ≤ l → l < length xs → comes_before (get_or xs l e).along (get_or xs i d).along ≡ false
    later l e a b =
        subst (λ (s : Side). comes_before (get_or xs l e).along s.along ≡ false) (get_or_default xs i e d n.0)
        (sorted_far (λ (s t : Side). comes_before s.along t.along) by_turn xs p i l e (omega arith) b)

    other : (l : ℕ) (e : Side) → j ≤ l → l < length ys → comes_before (get_or ys l e).along (get_or xs i d).along ≡ false
    other l e a b =
        subst (λ (s : Side). comes_before (get_or ys l e).along s.along ≡ false) (get_or_default xs i e d n.0)
        (chain (get_or ys l e).along (get_or ys j e).along (get_or xs i e).along (sorted_far (λ (s t : Side). comes_before s.along t.along) by_turn ys q j l e a b) (n.1 e (omega arith)))

-- ---- the last of the ascending sides decides
pub after_last : (ks : List Side) (s : Side) (n : ℕ) (d : Side) → n + 1 ≡ length ks → IsAscending ks → comes_before (get_or ks n d).along s.along ≡ true → All (λ k. comes_before k.along s.along ≡ true) ks
after_last ks s n d e a b = λ k c l. at k c (cases k l (cases_lt k n))
  where
    cases : (k : ℕ) → k < length ks → (k < n) ⊎ (n ≤ k) → (k < n) ⊎ (k ≡ n)
    cases k l (inl m) = inl m
    cases k l (inr m) = inr (omega arith)

    last : (c : Side) → comes_before (get_or ks n c).along s.along ≡ true
    last c = subst (λ (t : Side). comes_before t.along s.along ≡ true) (get_or_default ks n d c (omega arith)) b

    at : (k : ℕ) (c : Side) → (k < n) ⊎ (k ≡ n) → comes_before (get_or ks k c).along s.along ≡ true
    at k c (inl l) = comes_then (get_or ks k c).along (get_or ks n c).along s.along (a k n c l (omega arith)) (last c)
    at k c (inr f) = subst (λ (m : ℕ). comes_before (get_or ks m c).along s.along ≡ true) (sym f) (last c)

pub with_last : (ks : List Side) (s : Side) (n : ℕ) (d : Side) → n + 1 ≡ length ks → All (λ k. comes_before s.along k.along ≡ false) ks → All HasDirection ks → comes_before (get_or ks n d).along s.along ≡ false → Any (λ k. OneWay k s) ks
with_last ks s n d e b h f =
    let l : n < length ks = omega arith in
    (n, get_or ks n d, l, get_or_default ks n (get_or ks n d) d l, tied (get_or ks n d).along s.along f (b n d l) (h n d l))

-- ---- what one side holds, another of its direction holds
-- the side is that of an edge
abbrev pub IsMade : List Point → List Point → Wall → Type 0
IsMade fs ms w = Some_of (λ e. Of_fixed ms e w) (rim fs) ⊎ Some_of (λ f. Of_moving fs f w) (rim ms)

-- the point of a side is a vertex of the fixed shape less one of the moving one
record Corner (fs ms : List Point) (at : Point) : Type 0 where
  p : Point
  q : Point
  fixed : Some_of (λ v. v ≡ p) fs
  moving : Some_of (λ v. v ≡ q) ms
  is : at ≡ record { x = p.x -ℤ q.x; y = p.y -ℤ q.y }

own : (vs : List Point) → Every (λ e. Some_of (λ u. u ≡ e.from) vs × Some_of (λ u. u ≡ e.to) vs) (rim vs)
own vs = ends (λ v. Some_of (λ u. u ≡ v) vs) vs (every_then (Contains vs) (λ v. Some_of (λ u. u ≡ v) vs) (λ v c. some_from_contains vs v c) vs (every_from_All (Contains vs) vs (All-contains_itself vs)))

corner : (fs ms : List Point) (w : Wall) → IsMade fs ms w → Corner fs ms w.at
corner fs ms w (inl h) =
    let r = pick (λ e. Of_fixed ms e w) (λ e. Some_of (λ u. u ≡ e.from) fs × Some_of (λ u. u ≡ e.to) fs) (rim fs) h (own fs) in
    record { p = r.0.from; q = r.1.0; fixed = r.2.0; moving = r.1.1.0; is = ap (λ (v : Wall). v.at) r.1.2 }
corner fs ms w (inr h) =
    let r = pick (λ f. Of_moving fs f w) (λ f. Some_of (λ u. u ≡ f.from) ms × Some_of (λ u. u ≡ f.to) ms) (rim ms) h (own ms) in
    record { p = r.1.0; q = r.0.from; fixed = r.1.1.0; moving = r.2.0; is = ap (λ (v : Wall). v.at) r.1.2 }

at_vertex : (P : Point → Type 0) (vs : List Point) (p : Point) → Some_of (λ v. v ≡ p) vs → Every P vs → P p
at_vertex P vs p h k = let r = pick (λ v. v ≡ p) P vs h k in subst P r.1 r.2

fixed_at : (dx dy ax ay mx my px py qx qy : ℤ) → dx *ℤ ((my +ℤ (py -ℤ qy)) -ℤ pos 1 *ℤ ay) -ℤ dy *ℤ ((mx +ℤ (px -ℤ qx)) -ℤ pos 1 *ℤ ax)
    ≡ (dx *ℤ (py -ℤ pos 1 *ℤ ay) -ℤ dy *ℤ (px -ℤ pos 1 *ℤ ax)) +ℤ ((dx *ℤ (my -ℤ pos 1 *ℤ ay) -ℤ dy *ℤ (mx -ℤ pos 1 *ℤ ax)) -ℤ (dx *ℤ (qy -ℤ pos 1 *ℤ ay) -ℤ dy *ℤ (qx -ℤ pos 1 *ℤ ax)))
fixed_at dx dy ax ay mx my px py qx qy = simp ring (omega (arith, linear))

moving_at : (ax ay bx by ux uy px py qx qy : ℤ) → (ax -ℤ bx) *ℤ ((py -ℤ qy) -ℤ (uy -ℤ ay)) -ℤ (ay -ℤ by) *ℤ ((px -ℤ qx) -ℤ (ux -ℤ ax))
    ≡ ((bx -ℤ ax) *ℤ (qy -ℤ pos 1 *ℤ ay) -ℤ (by -ℤ ay) *ℤ (qx -ℤ pos 1 *ℤ ax)) +ℤ (((bx -ℤ ax) *ℤ (uy -ℤ pos 1 *ℤ ay) -ℤ (by -ℤ ay) *ℤ (ux -ℤ pos 1 *ℤ ax)) -ℤ ((bx -ℤ ax) *ℤ (py -ℤ pos 1 *ℤ ay) -ℤ (by -ℤ ay) *ℤ (px -ℤ pos 1 *ℤ ax)))
moving_at ax ay bx by ux uy px py qx qy = simp ring (omega (arith, linear))

above_sum : (a b d k : ℤ) → k ≡ a +ℤ (b -ℤ d) → pos 0 ≤ℤ a → d ≤ℤ b → pos 0 ≤ℤ k
above_sum a b d k e h l = omega (arith, linear)

-- no corner is on the outer side of a side
supports : (fs ms : List Point) (w : Wall) (at : Point) → Convex fs → Convex ms → IsMade fs ms w → Corner fs ms at → pos 0 ≤ℤ height w at
supports fs ms w at cf cm (inl h) c =
    let r = pick (λ e. Of_fixed ms e w) (λ e. Every (λ v. pos 0 ≤ℤ side e (mark_of v)) fs) (rim fs) h cf in
    let e = r.0 in
    let m = r.1.0 in
    let o : Point = record { x = c.p.x -ℤ c.q.x; y = c.p.y -ℤ c.q.y } in
    let i = at_vertex (λ v. pos 0 ≤ℤ side e (mark_of v)) fs c.p c.fixed r.2 in
    let j = at_vertex (λ v. side e (mark_of v) ≤ℤ side e (mark_of m)) ms c.q c.moving r.1.1.1 in
    let f = fixed_value e m o ∙ fixed_at (e.to.x -ℤ e.from.x) (e.to.y -ℤ e.from.y) e.from.x e.from.y m.x m.y c.p.x c.p.y c.q.x c.q.y in
    let k = above_sum (side e (mark_of c.p)) (side e (mark_of m)) (side e (mark_of c.q)) (height (fixed_wall e m) o) f i j in
    subst (λ (v : Wall). pos 0 ≤ℤ height v at) (sym r.1.2) (subst (λ (p : Point). pos 0 ≤ℤ height (fixed_wall e m) p) (sym c.is) k)
supports fs ms w at cf cm (inr h) c =
    let r = pick (λ f. Of_moving fs f w) (λ f. Every (λ v. pos 0 ≤ℤ side f (mark_of v)) ms) (rim ms) h cm in
    let f = r.0 in
    let u = r.1.0 in
    let o : Point = record { x = c.p.x -ℤ c.q.x; y = c.p.y -ℤ c.q.y } in
    let i = at_vertex (λ v. pos 0 ≤ℤ side f (mark_of v)) ms c.q c.moving r.2 in
    let j = at_vertex (λ v. side f (mark_of v) ≤ℤ side f (mark_of u)) fs c.p c.fixed r.1.1.1 in
    let e = moving_at f.from.x f.from.y f.to.x f.to.y u.x u.y c.p.x c.p.y c.q.x c.q.y in
    let k = above_sum (side f (mark_of c.q)) (side f (mark_of u)) (side f (mark_of c.p)) (height (moving_wall f u) o) e i j in
    subst (λ (v : Wall). pos 0 ≤ℤ height v at) (sym r.1.2) (subst (λ (p : Point). pos 0 ≤ℤ height (moving_wall f u) p) (sym c.is) k)

through : (tx ty ax ay sx sy x y : ℤ) → tx *ℤ (y -ℤ ay) -ℤ ty *ℤ (x -ℤ ax) ≡ (tx *ℤ (y -ℤ sy) -ℤ ty *ℤ (x -ℤ sx)) +ℤ (tx *ℤ (sy -ℤ ay) -ℤ ty *ℤ (sx -ℤ ax))
through tx ty ax ay sx sy x y = simp ring (omega (arith, linear))

holds_too : (s t : Side) (w : Point) → OneWay s t → pos 0 ≤ℤ value t s.at → pos 0 <ℤ value s w → pos 0 <ℤ value t w
holds_too s t w o a h =
    by (t.along.x *ℤ (w.y -ℤ s.at.y) -ℤ t.along.y *ℤ (w.x -ℤ s.at.x)) (value t s.at) (value t w) (through t.along.x t.along.y t.at.x t.at.y s.at.x s.at.y w.x w.y)
    (parallel_at s.along.x s.along.y t.along.x t.along.y (w.x -ℤ s.at.x) (w.y -ℤ s.at.y) o.0 o.1 h) a
  where
    by : (b c k : ℤ) → k ≡ b +ℤ c → pos 0 <ℤ b → pos 0 ≤ℤ c → pos 0 <ℤ k
    by b c k e h l = omega (arith, linear)

-- an offset strictly on the inner side of each side that is kept is so of all
pub all_hold : (fs ms : List Point) (all ss : List Side) (w : Point) → Convex fs → Convex ms → Is_sum fs ms (map wall all) → AreJoined all ss → All (λ s. pos 0 <ℤ value s w) ss → All (λ t. pos 0 <ℤ value t w) all
all_hold fs ms all ss w cf cm u j h = All-weaker (Contains all) (λ t. pos 0 <ℤ value t w) (λ t c. at t c (All-contains (λ t. Any (λ s. OneWay s t) ss) all t j.each c)) all (All-contains_itself all)
  where
    made : All (λ t. IsMade fs ms (wall t)) all
    made = all_from_every (λ t. IsMade fs ms (wall t)) all (map_every wall (IsMade fs ms) all u.sound)

    at : (t : Side) → Contains all t → Any (λ s. OneWay s t) ss → pos 0 <ℤ value t w
    at t c a =
        let s = a.1 in
        let k : Contains ss s = (a.0, a.2, a.3) in
        let m = All-contains (λ s. IsMade fs ms (wall s)) all s made (All-contains (Contains all) ss s j.among k) in
        holds_too s t w a.4 (supports fs ms (wall t) s.at cf cm (All-contains (λ t. IsMade fs ms (wall t)) all t made c) (corner fs ms (wall s) m)) (All-contains (λ s. pos 0 <ℤ value s w) ss s h k)

-- an offset that is not so of one that is kept is not so of one of all
pub any_of_all : (all ss : List Side) (w : Point) → AreJoined all ss → Any (λ s. value s w ≤ℤ pos 0) ss → Any (λ t. value t w ≤ℤ pos 0) all
any_of_all all ss w j a =
    let k : Contains ss a.1 = (a.0, a.2, a.3) in
    let c = All-contains (Contains all) ss a.1 j.among k in
    (c.0, a.1, c.1, c.2, a.4)
