-- The steps of a walk over the codes of one block, while the codes of the blocks before it stand.
use Rattle.std.proofs.Common.{◌≡◌, ◌≢◌, ℕ, ◌+◌, ◌<◌, ◌≤◌, Bool, true, false, List, [], ◌∷◌, ◌++◌, length, Option, Some, None, ◌⊎◌, refl, sym, ap, ◌∙◌, subst, inl, inr, arith, length-append}
use Rattle.std.proofs.lemmas.Bool.{cases_lt, cases_order, ltb-true, ltb-false}
use Rattle.std.specs.Prelude.{IsTrue}
use Rattle.plan_rule.specs.Choices.{Choices, MeetsSome, blocks, count}
use Rattle.plan_rule.specs.Plans.{code_of, IsFeasible, total, IsNotBefore, Extends, IsLeastOn, Improves}
use Rattle.plan_rule.proofs.SearchLaws.{children_cover, leaf_takes, improves_first, improves_takes, child}
use Rattle.plain_search.specs.declared.hand.Hand.{Hand}
use Rattle.plain_search.specs.Fronts.{cost_below, IsFloor, IsClear}
use Rattle.plain_search.specs.Hands.{plan_of, IsKept, can_beat, IsEarlier, StartsWith, Searched}
use Rattle.plain_search.proofs.FrontLaws.{old_code, new_code, lex_extends, lex_more, lex_next, lex_later, not_before_later, floor_holds}

-- what is in hand once the first codes of a block have been searched
pub record Walked (c : Choices) (front : List ℕ) (old new : Option Hand) (code : ℕ) : Type 0 where
  pub kept : IsKept c new
  pub better : Improves c (plan_of old) (plan_of new)
  pub each : (k : ℕ) → k < code → IsLeastOn c (front ++ k ∷ []) (plan_of new)
  pub from : (new ≡ old) ⊎ StartsWith front new
  pub earlier : IsEarlier new (front ++ code ∷ [])

earlier_more : (hand : Option Hand) (front : List ℕ) (code : ℕ) → IsEarlier hand front → IsEarlier hand (front ++ code ∷ [])
earlier_more None front code h = tt
earlier_more (Some hand) front code h = lex_more hand.plan front code h

earlier_later : (hand : Option Hand) (front : List ℕ) (code later : ℕ) → code ≤ later → IsEarlier hand (front ++ code ∷ []) → IsEarlier hand (front ++ later ∷ [])
earlier_later None front code later l h = tt
earlier_later (Some hand) front code later l h = lex_later hand.plan front code later l h

-- no code has been searched
pub walk_begins : (c : Choices) (front : List ℕ) (hand : Option Hand) → IsKept c hand → IsEarlier hand front → Walked c front hand hand 0
walk_begins c front hand kept earlier = record {
  kept = kept;
  better = λ q n. n;
  each = λ k l. absurd (omega arith);
  from = inl refl;
  earlier = earlier_more hand front 0 earlier;
}

each_more : (c : Choices) (front : List ℕ) (old new : Option (List ℕ)) (code : ℕ) → Improves c old new
    → ((k : ℕ) → k < code → IsLeastOn c (front ++ k ∷ []) old) → IsLeastOn c (front ++ code ∷ []) new
    → (k : ℕ) → k < code + 1 → IsLeastOn c (front ++ k ∷ []) new
each_more c front old new code better below here k l = elim (cases_order k code) [
  | inl e ↦ subst (λ n. IsLeastOn c (front ++ n ∷ []) new) (sym e) here
  | inr differ ↦ elim differ [ inl m ↦ λ q p x. better q (below k m q p x) | inr m ↦ absurd (omega arith) ]
]

-- a code that leads to no better plan
pub walk_skips : (c : Choices) (front : List ℕ) (old new : Option Hand) (code : ℕ) → Walked c front old new code
    → IsLeastOn c (front ++ code ∷ []) (plan_of new) → Walked c front old new (code + 1)
walk_skips c front old new code w here = record {
  kept = w.kept;
  better = w.better;
  each = each_more c front (plan_of new) (plan_of new) code (λ q n. n) w.each here;
  from = w.from;
  earlier = earlier_later new front code (code + 1) (omega arith) w.earlier;
}

shorter : (front : List ℕ) (code : ℕ) (hand : Option Hand) → StartsWith (front ++ code ∷ []) hand → StartsWith front hand
shorter front code None x = x
shorter front code (Some hand) x = λ b l.
    let n = length-append front (code ∷ []) in
    sym (old_code front code b l) ∙ x b (omega arith)

starts_earlier : (front : List ℕ) (code : ℕ) (hand : Option Hand) → StartsWith (front ++ code ∷ []) hand → IsEarlier hand (front ++ (code + 1) ∷ [])
starts_earlier front code None x = absurd x
starts_earlier front code (Some hand) x =
    let n = length-append front (code ∷ []) in
    let e : code_of hand.plan (length front) ≡ code = sym (x (length front) (omega arith)) ∙ new_code front code (length front) refl in
    lex_next hand.plan front (code + 1) (shorter front code (Some hand) x) (omega arith)

-- a code whose plans have been searched
pub walk_takes : (c : Choices) (front : List ℕ) (old hand new : Option Hand) (code : ℕ) → Walked c front old hand code
    → Searched c (front ++ code ∷ []) hand new → Walked c front old new (code + 1)
walk_takes c front old hand new code w s = record {
  kept = s.kept;
  better = λ q n. s.better q (w.better q n);
  each = each_more c front (plan_of hand) (plan_of new) code s.better w.each s.least;
  from = elim s.from [
    | inl same ↦ subst (λ h. (h ≡ old) ⊎ StartsWith front h) (sym same) w.from
    | inr starts ↦ inr (shorter front code new starts)
  ];
  earlier = elim s.from [
    | inl same ↦ subst (λ h. IsEarlier h (front ++ (code + 1) ∷ [])) (sym same) (earlier_later hand front code (code + 1) (omega arith) w.earlier)
    | inr starts ↦ starts_earlier front code new starts
  ];
}

-- all codes have been searched
pub walk_ends : (c : Choices) (front : List ℕ) (old new : Option Hand) (code : ℕ) → Walked c front old new code
    → length front < blocks c → code ≡ count c (length front) → Searched c front old new
walk_ends c front old new code w l e = record {
  kept = w.kept;
  better = w.better;
  least = children_cover c front (plan_of new) l (λ k m. w.each k (omega arith));
  from = w.from;
}

worse_on : (c : Choices) (front q : List ℕ) (hand : Option Hand) (sum floor : ℕ) → IsKept c hand → can_beat hand (sum + floor) ≡ false
    → IsEarlier hand q → sum + floor ≤ total c q → IsNotBefore c q (plan_of hand)
worse_on c front q None sum floor kept no_better earlier l = cc
worse_on c front q (Some hand) sum floor kept no_better earlier l =
    let m : hand.total ≤ sum + floor = ltb-false _ _ no_better in
    let e = kept.1 in
    not_before_later c hand.plan q earlier (omega arith)

earlier_on : (hand : Option Hand) (front q : List ℕ) → IsEarlier hand front → Extends front q → IsEarlier hand q
earlier_on None front q h x = tt
earlier_on (Some hand) front q h x = lex_extends hand.plan front q h x

-- no plan with this front can cost less than the plan in hand
pub front_is_dear : (c : Choices) (front : List ℕ) (hand : Option Hand) (sum floor : ℕ) → IsKept c hand → IsEarlier hand front
    → sum ≡ cost_below c (length front) front → IsFloor c (length front) floor → can_beat hand (sum + floor) ≡ false
    → IsLeastOn c front (plan_of hand)
front_is_dear c front hand sum floor kept earlier e least no_better q p x =
    worse_on c front q hand sum floor kept no_better (earlier_on hand front q earlier x) (floor_holds c front q sum floor e least p.is_plan x)

-- the rest of the codes can't lead to a better plan
pub walk_stops : (c : Choices) (front : List ℕ) (old new : Option Hand) (code sum floor : ℕ) → Walked c front old new code
    → sum ≡ cost_below c (length front) front → IsFloor c (length front) floor → can_beat new (sum + floor) ≡ false
    → Searched c front old new
walk_stops c front old new code sum floor w e least no_better = record {
  kept = w.kept;
  better = w.better;
  least = λ q p x. elim (cases_lt (code_of q (length front)) code) [
    | inl before ↦ w.each (code_of q (length front)) before q p (child front q x)
    | inr later ↦ worse_on c front q new sum floor w.kept no_better
        (earlier_on new (front ++ code_of q (length front) ∷ []) q
        (earlier_later new front code (code_of q (length front)) later w.earlier) (child front q x))
        (floor_holds c front q sum floor e least p.is_plan x)
  ];
  from = w.from;
}

-- a feasible plan's next code clashes with none of its front, and meets no piece
clear_in : (c : Choices) (front q : List ℕ) (code : ℕ) → length front < blocks c → IsFeasible c q → Extends (front ++ code ∷ []) q → IsClear c front code
clear_in c front q code l f x =
    let n = length-append front (code ∷ []) in
    let new : code ≡ code_of q (length front) = sym (new_code front code (length front) refl) ∙ x (length front) (omega arith) in
    record {
      apart = λ a m clash.
          let ne : a ≢ length front = λ e. absurd (omega arith) in
          let old : code_of front a ≡ code_of q a = sym (old_code front code a m) ∙ x a (omega arith) in
          f.clear a (length front) (omega arith) l ne
          (subst (λ k. c.Clash a (code_of q a) (length front) k) new (subst (λ k. c.Clash a k (length front) code) old clash));
      unmet = λ meets. f.unmet (length front) l (subst (λ k. MeetsSome c (length front) k) new meets);
    }

-- a code that clashes with one before it, or with which no plan can cost less than the plan in hand
pub idle_skips : (c : Choices) (front : List ℕ) (hand : Option Hand) (code sum floor : ℕ) (better : Bool) → length front < blocks c
    → can_beat hand (sum + floor) ≡ better → (IsTrue better → IsClear c front code → ⊥)
    → IsKept c hand → IsEarlier hand (front ++ code ∷ []) → sum ≡ cost_below c (length (front ++ code ∷ [])) (front ++ code ∷ [])
    → IsFloor c (length (front ++ code ∷ [])) floor → IsLeastOn c (front ++ code ∷ []) (plan_of hand)
idle_skips c front hand code sum floor true l e idle kept earlier cost least q f x = absurd (idle refl (clear_in c front q code l f x))
idle_skips c front hand code sum floor false l e idle kept earlier cost least q f x =
    front_is_dear c (front ++ code ∷ []) hand sum floor kept earlier cost least e q f x

improves_taken : (c : Choices) (old : Option Hand) (p : List ℕ) → IsKept c old → can_beat old (total c p) ≡ true → Improves c (plan_of old) (Some p)
improves_taken c None p kept better = improves_first c p
improves_taken c (Some hand) p kept better =
    let l : total c p < hand.total = ltb-true _ _ better in
    let e = kept.1 in
    improves_takes c hand.plan p (inl (omega arith))

-- a whole plan that is better than the plan in hand
pub whole_taken : (c : Choices) (front : List ℕ) (old : Option Hand) (hand : Hand) → IsFeasible c front → length front ≡ blocks c → IsKept c old
    → hand.plan ≡ front → hand.total ≡ total c front → can_beat old (total c front) ≡ true → Searched c front old (Some hand)
whole_taken c front old hand f e kept same sum better = record {
  kept = (subst (IsFeasible c) (sym same) f, sum ∙ ap (total c) (sym same));
  better = subst (λ p. Improves c (plan_of old) (Some p)) (sym same) (improves_taken c old front kept better);
  least = subst (λ p. IsLeastOn c front (Some p)) (sym same) (leaf_takes c front e);
  from = inr (λ b l. ap (λ p. code_of p b) (sym same));
}
