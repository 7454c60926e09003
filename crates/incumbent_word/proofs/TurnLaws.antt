-- Each step on a turn word keeps the rule.
use Rattle.std.proofs.Common.{◌≡◌, ◌≢◌, ℕ, zero, suc, ◌+◌, ◌-◌, ◌^◌, ◌<◌, ◌≤◌, ◌==◌, Bool, true, List, [], ◌∷◌, length, set, get_or, if◌then◌else◌, sym, refl, ap, ◌∙◌, subst, ⊎_elim, arith, All, Contains, MatchBool, Option, Some, None, IfSome, length-set, get_or-set_same, get_or-set_other, le_refl, eq-eqb, ne_eqb}
use Rattle.std.specs.Prelude.{slice_index}
use Rattle.std.specs.List.{sum_by}
use Rattle.std.specs.Option.{option_map_or}
use Rattle.std.proofs.lemmas.List.Elements.{All-contains}
use Rattle.std.proofs.lemmas.List.Sums.{get_or-le-sum_by}
use mathlib.Core.Option.{some, none, some-injective, some-ne-none}
use mathlib.Core.Logic.{dite}
use native.Mathlib.Decide.{ℕ_discrete}
use lib.ListN.{get_elem?}
use prog.Atomic.{either}
use Rattle.atomic_table.specs.Table.{State, Act, keeps, takes, gives, Valid, carried_after, rest, Allows, stepped}
use Rattle.atomic_table.proofs.Lists.{set_again}
use Rattle.common_lists.proofs.ListLaws.{there, sum_set}
use Rattle.shape_exact.specs.Yards.{PlainYard}
use Rattle.refutation_log.specs.Logs.{PlainCapsule}
use Rattle.incumbent_word.specs.declared.rule.View.{View}
use Rattle.incumbent_word.specs.Sharing.{IsShareable, IsPostable}
use Rattle.incumbent_word.specs.Views.{at_turn, found_taken, found_empty}
use Rattle.incumbent_word.specs.Rule.{Content, Home, best_key, home_of, holds_turn, IsOffered, IsLeast, IsTurnWord, IsGood, IsKept}
use Rattle.incumbent_word.specs.Plays.{Mine, Took, Gave, GaveEmpty}
use Rattle.incumbent_word.proofs.ViewLaws.{IsLike, fits, fits_like, fits_set, offered_set}

-- 1 where the turn is that of the word
abbrev one_at : ℕ → Option ℕ → ℕ
one_at i turn = option_map_or (λ k. if k == i then 1 else 0) turn 0

pub has_turn : (i : ℕ) (v : View) → v.turn ≡ Some i → holds_turn i v ≡ 1
has_turn i v e = ap (one_at i) e ∙ ap (λ (b : Bool). if b then 1 else 0) (eq-eqb i i refl)

pub other_turn : (i k : ℕ) (v : View) → v.turn ≡ Some k → k ≢ i → holds_turn i v ≡ 0
other_turn i k v e ne = ap (one_at i) e ∙ ap (λ (b : Bool). if b then 1 else 0) (ne_eqb k i ne)

pub no_turn : (i : ℕ) (v : View) → v.turn ≡ None → holds_turn i v ≡ 0
no_turn i v e = ap (one_at i) e

like_kept : (v w : View) → IsLike v w → (p : List ℕ) → Contains v.offered p → Contains w.offered p
like_kept v w like p c = subst (λ (l : List (List ℕ)). Contains l p) (sym like.offered) c

abbrev TookIf : Bool → ℕ → Mine → Mine → Type 0
TookIf b word m n = MatchBool b ((y : Content) × (n ≡ (at_turn m.0 (Some word), (word - 1, y) ∷ m.1)) × IfSome y (IsShareable m.0.yard)) (n ≡ (found_taken m.0 (word - 1), m.1))

-- a seat may leave this in a slot
abbrev pub MayLeave : View → Content → Type 0
MayLeave v y = IfSome y (IsPostable v.yard v.seen)

-- what the rule says of a slot and its turn word, but for who holds the turn
record IsSlot (yard : PlainYard) (best turn : ℕ) (home : Home) : Type 0 where
  one : turn ≤ 1
  free : turn ≡ 0 → (y : Content) × (home ≡ some y)
  taken : turn ≢ 0 → home ≡ none
  capsule : (c : PlainCapsule) → home ≡ some (Some c) → IsGood yard best c

module _ (yard : PlainYard) where
  slot_is : (s : State Content View) → IsKept yard s → (i : ℕ) → IsTurnWord i → IsSlot yard (best_key s) (slice_index s.words i) (home_of s.homes (i - 1))
  slot_is s h i is = let t = h.turns i is in record { one = t.one; free = t.free; taken = t.taken; capsule = h.capsules i is }

  -- a turn word and its slot change, with the turn of a view
  moved : (s : State Content View) (id i new : ℕ) (v w : View) (home : Home) → IsKept yard s → IsTurnWord i → get_elem? s.views id ≡ some v
      → IsLike v w → IsSlot yard (best_key s) new home → holds_turn i w + slice_index s.words i ≡ holds_turn i v + new
      → ((j : ℕ) → 0 < j → j ≢ i → holds_turn j w ≡ holds_turn j v)
      → IsKept yard record { words = set s.words i new; homes = set s.homes (i - 1) home; views = set s.views id w }
  moved s id i new v w home h word at like slot count others =
      let n = best_key s in
      let words' = set s.words i new in
      let homes' = set s.homes (i - 1) home in
      let views' = set s.views id w in
      let first : slice_index words' 0 ≡ n = get_or-set_other s.words i 0 new 0 (λ z. let p = word.0 in omega arith) in
      let inside : i < length s.words = subst (λ n. i < n) (sym h.words) word.1 in
      let each = fits_set yard n n s.views id w (le_refl n) (fits yard s h) (fits_like yard n v w like (fits yard s h id v at)) in
      let here : slice_index words' i ≡ new = get_or-set_same s.words i new 0 inside in
      let at_home : home_of homes' (i - 1) ≡ home = get_or-set_same s.homes (i - 1) home none (let c = h.slots in let l = word.1 in let p = word.0 in omega arith) in
      let slots' = λ (j : ℕ) (is : IsTurnWord j). dite (ℕ_discrete j i)
      (λ same.
      let d : slice_index words' j ≡ new = ap (slice_index words') same ∙ here in
      let e : home_of homes' (j - 1) ≡ home = ap (λ (k : ℕ). home_of homes' (k - 1)) same ∙ at_home in
      subst (λ (z : ℕ × Home). IsSlot yard n z.0 z.1) (λ k. (sym d k, sym e k)) slot)
      (λ apart.
      let d : slice_index words' j ≡ slice_index s.words j = get_or-set_other s.words i j new 0 apart in
      let e : home_of homes' (j - 1) ≡ home_of s.homes (j - 1) = get_or-set_other s.homes (i - 1) (j - 1) home none (λ z. let p = word.0 in let q = is.0 in apart (omega arith)) in
      subst (λ (z : ℕ × Home). IsSlot yard n z.0 z.1) (λ k. (sym d k, sym e k)) (slot_is s h j is)) in
      let held = λ (j : ℕ) (is : IsTurnWord j). dite (ℕ_discrete j i)
      (λ same.
      let a = sum_set (holds_turn i) s.views id v w at in
      let b = (h.turns i word).holders in
      let f : sum_by (holds_turn i) views' ≡ slice_index words' i = omega (arith, here, a, b, count) in
      subst (λ (k : ℕ). sum_by (holds_turn k) views' ≡ slice_index words' k) (sym same) f)
      (λ apart.
      let a = sum_set (holds_turn j) s.views id v w at in
      let b = (h.turns j is).holders in
      let c = others j is.0 apart in
      let d : slice_index words' j ≡ slice_index s.words j = get_or-set_other s.words i j new 0 apart in
      omega arith) in
      record {
        words = length-set s.words i new ∙ h.words;
        slots = length-set s.homes (i - 1) home ∙ h.slots;
        number = subst (λ n. n ≤ 2 ^ 64 - 1) (sym first) h.number;
        yards = λ j u e. (each j u e).own;
        best = subst (λ (k : ℕ). IsOffered yard views' k) (sym first) (offered_set yard n s.views id v w at (like_kept v w like) h.best);
        least = λ j u e. subst (λ (k : ℕ). IsLeast yard k u) (sym first) (each j u e).low;
        turns = λ j is. let t = slots' j is in record { holders = held j is; one = t.one; free = t.free; taken = t.taken };
        capsules = λ j is c at'. subst (λ (k : ℕ). IsGood yard k c) (sym first) ((slots' j is).capsule c at');
      }

  -- the finds of a view change alone
  viewed : (s : State Content View) (id : ℕ) (v w : View) → IsKept yard s → get_elem? s.views id ≡ some v → IsLike v w → w.turn ≡ v.turn
      → IsKept yard record { words = s.words; homes = s.homes; views = set s.views id w }
  viewed s id v w h at like turn =
      let n = best_key s in
      let each = fits_set yard n n s.views id w (le_refl n) (fits yard s h) (fits_like yard n v w like (fits yard s h id v at)) in
      record {
        words = h.words;
        slots = h.slots;
        number = h.number;
        yards = λ j u e. (each j u e).own;
        best = offered_set yard n s.views id v w at (like_kept v w like) h.best;
        least = λ j u e. (each j u e).low;
        turns = λ j is. let t = h.turns j is in record {
          holders = let a = sum_set (holds_turn j) s.views id v w at in let b = t.holders in let c : holds_turn j w ≡ holds_turn j v = ap (one_at j) turn in omega arith;
          one = t.one;
          free = t.free;
          taken = t.taken;
        };
        capsules = h.capsules;
      }

  abbrev Stepped : State Content View → ℕ → Mine → ℕ → Bool → View → Act Content → Type 0
  Stepped s id me i b w a =
      Valid s.homes me.1 a × IsKept yard (stepped s i (either b 1 (slice_index s.words i)) id me.1 w a) × TookIf b i me (w, carried_after me.1 a)

  at_there : {A : Type 0} (l : List A) (i : ℕ) (a d : A) → i < length l → get_or l i d ≡ a → get_elem? l i ≡ some a
  at_there [] i a d low e = absurd (omega arith)
  at_there (x ∷ xs) zero a d low e = ap some e
  at_there (x ∷ xs) (suc i) a d low e = at_there xs i a d (omega arith) e

  -- what a slot at home holds may be shared
  shareable : (best turn : ℕ) (home : Home) (y : Content) → IsSlot yard best turn home → home ≡ some y → IfSome y (IsShareable yard)
  shareable best turn home (Some c) slot is = (slot.capsule c is).shareable
  shareable best turn home None slot is = tt

  -- a slot that is out with a seat
  slot_out : (best : ℕ) → IsSlot yard best 1 none
  slot_out best = record { one = omega arith; free = λ z. absurd (omega arith); taken = λ _. refl; capsule = λ c e. absurd (some-ne-none (Some c) (sym e)) }

  -- a turn is taken where its word is 0
  pub takes_turn : (slots id i : ℕ) (me : Mine) → IsTurnWord i → me.0.live ≡ true → me.0.turn ≡ None → Allows (IsKept yard) slots id me i (λ n. either (n == 0) 1 n) (Took i me)
  takes_turn slots id i me word live idle s h _ at _ = dite (ℕ_discrete (slice_index s.words i) 0)
      (λ free.
      let home = (h.turns i word).free free in
      let w = at_turn me.0 (Some i) in
      let y = home.0 in
      let inside : i - 1 < length s.homes = let c = h.slots in let l = word.1 in let p = word.0 in omega arith in
      let done : Stepped s id me i (slice_index s.words i == 0) w (takes (i - 1) y) = subst (λ b. Stepped s id me i b w (takes (i - 1) y)) (sym (eq-eqb (slice_index s.words i) 0 free)) (
        at_there s.homes (i - 1) (some y) none inside home.1,
        moved s id i 1 me.0 w none h word at record { live = refl; yard = refl; seen = refl; offered = refl } (slot_out (best_key s))
            (let a = has_turn i w refl in let b = no_turn i me.0 idle in omega arith)
            (λ j p apart. other_turn j i w refl (λ z. apart (sym z)) ∙ sym (no_turn j me.0 idle)),
        (y, refl, subst (λ (k : PlainYard). IfSome y (IsShareable k)) (sym ((h.yards id me.0 at).same live)) (shareable _ _ _ y (slot_is s h i word) home.1)),
      ) in
      (w, takes (i - 1) y, done.0, done.1, done.2))
      (λ busy.
      let w = found_taken me.0 (i - 1) in
      let inside : i < length s.words = subst (λ n. i < n) (sym h.words) word.1 in
      let same : set s.words i (slice_index s.words i) ≡ s.words = set_again s.words i (slice_index s.words i) (at_there s.words i (slice_index s.words i) 0 inside refl) in
      let done : Stepped s id me i (slice_index s.words i == 0) w keeps = subst (λ b. Stepped s id me i b w keeps) (sym (ne_eqb (slice_index s.words i) 0 busy)) (
        tt,
        subst (λ ws. IsKept yard record { words = ws; homes = s.homes; views = set s.views id w }) (sym same) (viewed s id me.0 w h at record { live = refl; yard = refl; seen = refl; offered = refl } refl),
        refl,
      ) in
      (w, keeps, done.0, done.1, done.2))

  -- what a seat leaves is good at home
  left_good : (best : ℕ) (v : View) (y : Content) → v.yard ≡ yard → best ≤ 2 ^ 64 - 1 → All (λ n. best ≤ n) v.seen → MayLeave v y
      → (c : PlainCapsule) → some y ≡ some (Some c) → IsGood yard best c
  left_good best v y same top seen may c e = good (subst (MayLeave v) (some-injective y (Some c) e) may)
    where
      good : MayLeave v (Some c) → IsGood yard best c
      good may = record {
        shareable = subst (λ (k : PlainYard). IsShareable k c) same may.shareable;
        bar = ⊎_elim (λ in'. All-contains (λ n. best ≤ n) v.seen c.bar seen in') (λ is. subst (λ n. best ≤ n) (sym is) top) may.bar;
      }

  gives_turn : (slots id i : ℕ) (v w : View) (y : Content) (tells : ℕ → Mine → Type 0) → IsTurnWord i → v.live ≡ true → v.turn ≡ Some i → MayLeave v y
      → IsLike v w → w.turn ≡ None → ((n : ℕ) → tells n (w, []))
      → Allows (IsKept yard) slots id (v, (i - 1, y) ∷ []) i (λ _. 0) tells
  gives_turn slots id i v w y tells word live mine may like turn told s h _ at _ =
      let fit = fits yard s h id v at in
      let t = h.turns i word in
      let r = there s.views id v at in
      let m = get_or-le-sum_by (holds_turn i) s.views id v r.0 in
      let one : holds_turn i (get_or s.views id v) ≡ 1 = ap (holds_turn i) r.1 ∙ has_turn i v mine in
      let was : slice_index s.words i ≡ 1 = let a = t.holders in let b = t.one in omega arith in (
        w,
        gives,
        tt,
        moved s id i 0 v w (some y) h word at like
            record { one = omega arith; free = λ _. (y, refl); taken = λ z. absurd (z refl); capsule = left_good (best_key s) v y (fit.own.same live) h.number fit.low.seen may }
            (let a = has_turn i v mine in let b = no_turn i w turn in omega arith)
            (λ j p apart. no_turn j w turn ∙ sym (other_turn j i v mine (λ z. apart (sym z)))),
        told (slice_index s.words i),
      )

  -- a turn is given back, and the slot with what the seat leaves there
  pub gives_back : (slots id i : ℕ) (me : Mine) (y : Content) → IsTurnWord i → me.0.live ≡ true → me.0.turn ≡ Some i → me.1 ≡ (i - 1, y) ∷ [] → MayLeave me.0 y → Allows (IsKept yard) slots id me i (λ _. 0) (λ _ n. Gave me n)
  gives_back slots id i me y word live mine has may = subst (λ (x : Mine). Allows (IsKept yard) slots id x i (λ _. 0) (λ _ n. Gave x n)) (λ k. (me.0, sym has k))
      (gives_turn slots id i me.0 (at_turn me.0 None) y (λ _ n. Gave (me.0, (i - 1, y) ∷ []) n) word live mine may record { live = refl; yard = refl; seen = refl; offered = refl } refl (λ _. refl))

  -- the same, and the slot had been found empty
  pub gives_empty : (slots id i : ℕ) (me : Mine) (y : Content) → IsTurnWord i → me.0.live ≡ true → me.0.turn ≡ Some i → me.1 ≡ (i - 1, y) ∷ [] → MayLeave me.0 y → Allows (IsKept yard) slots id me i (λ _. 0) (λ _ n. GaveEmpty i me n)
  gives_empty slots id i me y word live mine has may = subst (λ (x : Mine). Allows (IsKept yard) slots id x i (λ _. 0) (λ _ n. GaveEmpty i x n)) (λ k. (me.0, sym has k))
      (gives_turn slots id i me.0 (found_empty (at_turn me.0 None) (i - 1)) y (λ _ n. GaveEmpty i (me.0, (i - 1, y) ∷ []) n) word live mine may record { live = refl; yard = refl; seen = refl; offered = refl } refl (λ _. refl))

-- what a seat has after it took a turn and put a value into the slot
pub record IsHeld (slot : ℕ) (m e : Mine) (old new : Content) : Type 0 where
  pub view : e.0 ≡ at_turn m.0 (Some (slot + 1))
  pub carried : e.1 ≡ (slot + 1 - 1, new) ∷ []
  pub shareable : IfSome old (IsShareable m.0.yard)

pub held : (slot : ℕ) (m n e : Mine) (found : ℕ) (old new : Content) → m.1 ≡ [] → found ≡ 0 → TookIf (found == 0) (slot + 1) m n → n.1 ≡ (slot, old) ∷ rest n.1 → e ≡ (n.0, (slot, new) ∷ rest n.1) → IsHeld slot m e old new
held slot m n e found old new empty free told was is =
    let t : TookIf true (slot + 1) m n = subst (λ b. TookIf b (slot + 1) m n) (eq-eqb found 0 free) told in
    let all : n.1 ≡ (slot + 1 - 1, t.0) ∷ [] = ap (λ (x : Mine). x.1) t.1 ∙ ap (λ l. (slot + 1 - 1, t.0) ∷ l) empty in
    record {
      view = ap (λ (x : Mine). x.0) is ∙ ap (λ (x : Mine). x.0) t.1;
      carried = ap (λ (x : Mine). x.1) is ∙ (λ k. ((let q : slot ≡ slot + 1 - 1 = omega arith in q) k, new) ∷ rest (all k));
      shareable = subst (λ (y : Content). IfSome y (IsShareable m.0.yard)) (same_value (sym all ∙ was)) t.2;
    }
  where
    same_value : {x : ℕ} {y z : Content} {k : ℕ} {l r : List (ℕ × Content)} → (k, y) ∷ l ≡ (x, z) ∷ r → y ≡ z
    same_value {y = y} p = ap (λ l. value_of l y) p
      where
        value_of : List (ℕ × Content) → Content → Content
        value_of [] d = d
        value_of (x ∷ xs) d = x.1

-- what a seat may post it may leave in the slot whose turn it holds
pub may_leave : (slot : ℕ) (m e : Mine) (old new : Content) (yard : PlainYard) (seen : List ℕ) → IsHeld slot m e old new → m.0.yard ≡ yard → m.0.seen ≡ seen → IfSome new (IsPostable yard seen) → MayLeave e.0 new
may_leave slot m e old new yard seen h yard' seen' may = subst (λ (v : View). MayLeave v new) (sym h.view)
    (subst (λ (z : PlainYard × List ℕ). IfSome new (IsPostable z.0 z.1)) (λ k. (sym yard' k, sym seen' k)) may)
