-- Each step on the best key keeps the rule.
use Rattle.std.proofs.Common.{◌≡◌, ℕ, ◌-◌, ◌^◌, ◌≤◌, ◌==◌, true, List, [], ◌∷◌, ◌++◌, min, set, if◌then◌else◌, sym, refl, ap, ◌∙◌, subst, inr, le_trans, le_refl, arith, Contains, Option, length-set, get_or-set_same, get_or-set_other}
use Rattle.std.specs.Prelude.{slice_index}
use Rattle.std.specs.Option.{option_map_or}
use Rattle.std.proofs.lemmas.List.Elements.{All-push, Contains-append_left, Contains-push}
use mathlib.Core.Option.{some, some-ne-none, some-injective}
use mathlib.Core.Logic.{dite}
use native.Mathlib.Decide.{dec_le}
use lib.ListN.{get_elem?}
use Rattle.atomic_table.specs.Table.{State, Allows, keeps}
use Rattle.common_lists.proofs.ListLaws.{sum_set}
use Rattle.shape_exact.specs.Yards.{PlainYard}
use Rattle.plan_rule.specs.Plans.{IsFeasible}
use Rattle.plan_rule.specs.Paths.{key}
use Rattle.plan_rule.specs.Reports.{IsBar}
use Rattle.plan_rule.specs.Yards.{choices}
use Rattle.incumbent_word.specs.declared.rule.View.{View}
use Rattle.incumbent_word.specs.Views.{saw, offered_too}
use Rattle.incumbent_word.specs.Rule.{Content, best_key, home_of, holds_turn, IsOffered, IsTurn, IsKept}
use Rattle.incumbent_word.specs.Plays.{Mine, Saw, Offered, IsLow}
use Rattle.incumbent_word.proofs.ViewLaws.{at_here, lower, fits, fits_set, offered_set, is_bar, Fits}

module _ (yard : PlainYard) where
  -- the best key falls, or stays
  lowered : (s : State Content View) (id new : ℕ) (v w : View) → IsKept yard s → get_elem? s.views id ≡ some v → new ≤ best_key s → Fits yard new w → w.turn ≡ v.turn
      → IsOffered yard (set s.views id w) new
      → IsKept yard record { words = set s.words 0 new; homes = s.homes; views = set s.views id w }
  lowered s id new v w h at le fit turn offered =
      let n = best_key s in
      let first : slice_index (set s.words 0 new) 0 ≡ new = get_or-set_same s.words 0 new 0 (let z = h.words in omega arith) in
      let each = fits_set yard n new s.views id w le (fits yard s h) fit in
      record {
        words = length-set s.words 0 new ∙ h.words;
        slots = h.slots;
        number = subst (λ m. m ≤ 2 ^ 64 - 1) (sym first) (le_trans le h.number);
        yards = λ j u e. (each j u e).own;
        best = subst (λ (k : ℕ). IsOffered yard (set s.views id w) k) (sym first) offered;
        least = λ j u e. subst (λ (k : ℕ). Rattle.incumbent_word.specs.Rule.IsLeast yard k u) (sym first) (each j u e).low;
        turns = λ j is. let t = h.turns j is in
            let d : slice_index (set s.words 0 new) j ≡ slice_index s.words j = get_or-set_other s.words 0 j new 0 (λ z. let p = is.0 in omega arith) in
            subst (λ (k : ℕ). IsTurn (set s.views id w) j k (home_of s.homes (j - 1))) (sym d) record {
              holders = let a = sum_set (holds_turn j) s.views id v w at in let b = t.holders in
                  let c : holds_turn j w ≡ holds_turn j v = ap (λ (o : Option ℕ). option_map_or (λ k. if k == j then 1 else 0) o 0) turn in omega arith;
              one = t.one;
              free = t.free;
              taken = t.taken;
            };
        capsules = λ j is c at'. let g = h.capsules j is c at' in
            record { shareable = g.shareable; bar = subst (λ (k : ℕ). k ≤ c.bar) (sym first) (le_trans le g.bar) };
      }

  -- a load of the best key
  pub sees : (slots id : ℕ) (me : Mine) → me.0.live ≡ true → Allows (IsKept yard) slots id me 0 (λ n. n) (Saw me)
  sees slots id me live s h _ at _ =
      let n = best_key s in
      let v = me.0 in
      let w = saw v n in
      let fit = fits yard s h id v at in
      let fit' : Fits yard n w = record {
        own = record { same = λ _. fit.own.same live; feasible = fit.own.feasible };
        low = record { seen = All-push (λ x. n ≤ x) v.seen n fit.low.seen (le_refl n); offered = fit.low.offered };
      } in (
        w,
        keeps,
        tt,
        lowered s id n v w h at (le_refl n) fit' refl (offered_set yard n s.views id v w at (λ p c. c) h.best),
        (refl, (fit.low.seen, subst (λ (y : PlainYard). IsBar (choices y) n) (sym (fit.own.same live)) (is_bar yard n s.views (fits yard s h) h.best))),
      )

  -- the lesser of the best key and the plan's was offered
  either_way : (n low own : ℕ) (plan : List ℕ) (views : List View) (id : ℕ) (v w : View) → get_elem? views id ≡ some v → low ≡ min n own → own ≡ key (choices yard) plan
      → w.offered ≡ v.offered ++ plan ∷ [] → IsOffered yard views n → IsOffered yard (set views id w) low
  either_way n low own plan views id v w at is own_is more was = dite (dec_le n own)
      (λ le. let e : low ≡ n = omega arith in subst (IsOffered yard (set views id w)) (sym e) (offered_set yard n views id v w at (λ p c. subst (λ (l : List (List ℕ)). Contains l p) (sym more) (Contains-append_left v.offered (plan ∷ []) p c)) was))
      (λ gt. let e : low ≡ own = omega arith in inr (id, w, at_here views id v w at, (plan, subst (λ (l : List (List ℕ)). Contains l plan) (sym more) (Contains-push v.offered plan), sym own_is ∙ sym e)))

  abbrev Tells : List ℕ → Mine → ℕ → ℕ → PlainYard → Mine → Type 0
  Tells plan m found own y n = (n ≡ (saw (offered_too m.0 plan) (min found own), m.1)) × IsLow m.0 (min found own)

  -- an offer
  pub offers : (plan : List ℕ) (slots id : ℕ) (me : Mine) (own : ℕ) → me.0.live ≡ true → IsFeasible (choices yard) plan → own ≡ key (choices yard) plan → me.0.yard ≡ yard → Allows (IsKept yard) slots id me 0 (λ n. min n own) (Offered plan me)
  offers plan slots id me own live can is same s h _ at _ =
      let n = best_key s in
      let v = me.0 in
      let low : ℕ = min n own in
      let w = saw (offered_too v plan) low in
      let fit = fits yard s h id v at in
      let le : low ≤ n = omega arith in
      let down = lower yard n low v le fit in
      let fit' : Fits yard low w = record {
        own = record { same = λ _. same; feasible = All-push (IsFeasible (choices yard)) v.offered plan fit.own.feasible can };
        low = record {
          seen = All-push (λ x. low ≤ x) v.seen low down.low.seen (le_refl low);
          offered = All-push (λ p. low ≤ key (choices yard) p) v.offered plan down.low.offered (omega arith);
        };
      } in
      let offered = either_way n low own plan s.views id v w at refl is refl h.best in
      let kept = lowered s id low v w h at le fit' refl offered in
      let bar : IsBar (choices yard) low = is_bar yard low (set s.views id w) (fits_set yard n low s.views id w le (fits yard s h) fit') offered in
      let own' : own ≡ key (choices v.yard) plan = is ∙ ap (λ (y : PlainYard). key (choices y) plan) (sym same) in
      let told : Tells plan me n own yard (w, me.1) = (refl, (down.low.seen, subst (λ (y : PlainYard). IsBar (choices y) low) (sym same) bar)) in
      (w, keeps, tt, kept, subst (λ (k : ℕ). Tells plan me n k yard (w, me.1)) own' told)

-- the word with which a board ends is the greatest u64, or the key of a feasible plan
pub ends_with : (yard yard' : PlainYard) (s : State Content View) (words : List ℕ) (n : ℕ) → IsKept yard s → s.words ≡ words → get_elem? words 0 ≡ some n → yard ≡ yard' → IsBar (choices yard') n
ends_with yard yard' s words n h same at there =
    subst (λ (y : PlainYard). IsBar (choices y) n) there
    (subst (λ (k : ℕ). IsBar (choices yard) k) (ap (λ (ws : List ℕ). slice_index ws 0) same ∙ first words at) (is_bar yard (best_key s) s.views (fits yard s h) h.best))
  where
    first : (ws : List ℕ) → get_elem? ws 0 ≡ some n → slice_index ws 0 ≡ n
    first [] e = absurd (some-ne-none n (sym e))
    first (x ∷ ws) e = some-injective x n e
