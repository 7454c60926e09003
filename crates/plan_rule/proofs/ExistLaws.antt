-- Where a plan is feasible there is a best one, if it can be told which codes clash and which meet a piece.
use Rattle.std.proofs.Common.{◌≡◌, ◌≢◌, ℕ, zero, suc, ◌+◌, ◌<◌, List, [], ◌∷◌, ◌++◌, length, Option, Some, None, ◌⊎◌, sym, subst, inl, inr, arith, length-append}
use Rattle.std.proofs.lemmas.Bool.{cases_lt, cases_order}
use Rattle.common_lists.proofs.NumberLaws.{all_or_not}
use Rattle.plan_rule.specs.Choices.{Choices, MeetsSome, blocks, count}
use Rattle.plan_rule.specs.Plans.{code_of, IsFeasible, IsBefore, IsBest, IsAnswer, IsLeastOn, Improves}
use Rattle.plan_rule.proofs.OrderLaws.{before_cases, before_trans}
use Rattle.plan_rule.proofs.SearchLaws.{children_cover, leaf, leaf_keeps, leaf_takes, before_self, improves_first, improves_takes, least_is_best}

-- it can be told which codes clash, and which meet a piece
pub record IsDecided (c : Choices) : Type 0 where
  pub clash : (a x b y : ℕ) → c.Clash a x b y ⊎ (c.Clash a x b y → ⊥)
  pub meets : (b x : ℕ) → MeetsSome c b x ⊎ (MeetsSome c b x → ⊥)

-- two codes of a plan do not clash
abbrev AreClear : Choices → List ℕ → ℕ → ℕ → Type 0
AreClear c plan a b = a ≢ b → c.Clash a (code_of plan a) b (code_of plan b) → ⊥

clear_or_not : (c : Choices) → IsDecided c → (plan : List ℕ) (a b : ℕ) → AreClear c plan a b ⊎ (AreClear c plan a b → ⊥)
clear_or_not c told plan a b = elim (cases_order a b) [
  | inl e ↦ inl (λ ne clash. ne e)
  | inr differ ↦
      let ne : a ≢ b = λ e. elim differ [ inl l ↦ absurd (omega arith) | inr l ↦ absurd (omega arith) ] in
      elim (told.clash a (code_of plan a) b (code_of plan b)) [
        | inl clash ↦ inr (λ h. h ne clash)
        | inr free ↦ inl (λ ne clash. free clash)
      ]
]

-- a code of a plan meets no piece
abbrev IsUnmet : Choices → List ℕ → ℕ → Type 0
IsUnmet c plan b = MeetsSome c b (code_of plan b) → ⊥

unmet_or_not : (c : Choices) → IsDecided c → (plan : List ℕ) (b : ℕ) → IsUnmet c plan b ⊎ (IsUnmet c plan b → ⊥)
unmet_or_not c told plan b = elim (told.meets b (code_of plan b)) [
  | inl met ↦ inr (λ h. h met)
  | inr free ↦ inl free
]

lt_or_not : (m n : ℕ) → (m < n) ⊎ (m < n → ⊥)
lt_or_not m n = elim (cases_lt m n) [ inl l ↦ inl l | inr l ↦ inr (λ k. absurd (omega arith)) ]

-- whether a list with a code for each block is a feasible plan
feasible_or_not : (c : Choices) → IsDecided c → (plan : List ℕ) → length plan ≡ blocks c → IsFeasible c plan ⊎ (IsFeasible c plan → ⊥)
feasible_or_not c told plan e = elim (all_or_not (λ b. code_of plan b < count c b) (blocks c) (λ b. lt_or_not (code_of plan b) (count c b))) [
  | inr broken ↦ inr (λ f. broken f.is_plan.in_range)
  | inl in_range ↦
      elim (all_or_not (λ a. (b : ℕ) → b < blocks c → AreClear c plan a b) (blocks c)
      (λ a. all_or_not (AreClear c plan a) (blocks c) (clear_or_not c told plan a))) [
        | inr broken ↦ inr (λ f. broken (λ a l b m. f.clear a b l m))
        | inl clear ↦ elim (all_or_not (IsUnmet c plan) (blocks c) (unmet_or_not c told plan)) [
          | inr broken ↦ inr (λ f. broken f.unmet)
          | inl unmet ↦ inl (record {
            is_plan = record { one_each = e; in_range = in_range };
            clear = λ a b l m. clear a l b m;
            unmet = unmet;
          })
        ]
      ]
]

-- an answer that is not worse than the old one, and least on the front
record Found (c : Choices) (front : List ℕ) (old : Option (List ℕ)) : Type 0 where
  new : Option (List ℕ)
  answer : IsAnswer c new
  better : Improves c old new
  least : IsLeastOn c front new

-- an answer that is least on the first children of the front
record FoundBelow (c : Choices) (front : List ℕ) (k : ℕ) (old : Option (List ℕ)) : Type 0 where
  new : Option (List ℕ)
  answer : IsAnswer c new
  better : Improves c old new
  each : (code : ℕ) → code < k → IsLeastOn c (front ++ code ∷ []) new

keeps : (c : Choices) (front : List ℕ) (old : Option (List ℕ)) → IsAnswer c old → IsLeastOn c front old → Found c front old
keeps c front old a h = record { new = old; answer = a; better = λ q n. n; least = h }

whole : (c : Choices) (front : List ℕ) (old : Option (List ℕ)) → length front ≡ blocks c → IsAnswer c old → IsFeasible c front → Found c front old
whole c front None e a f = record { new = Some front; answer = f; better = improves_first c front; least = leaf_takes c front e }
whole c front (Some r) e a f = elim (before_cases c front r f.is_plan a.is_plan) [
  | inl same ↦ keeps c front (Some r) a (leaf_keeps c front r e (subst (λ p. IsBefore c p r → ⊥) (sym same) (before_self c r)))
  | inr differ ↦ elim differ [
    | inl better ↦ record { new = Some front; answer = f; better = improves_takes c r front better; least = leaf_takes c front e }
    | inr worse ↦ keeps c front (Some r) a (leaf_keeps c front r e (λ better. before_self c r (before_trans c r front r worse better)))
  ]
]

each_child : (c : Choices) (front : List ℕ) (child : (code : ℕ) (old : Option (List ℕ)) → IsAnswer c old → Found c (front ++ code ∷ []) old)
    → (k : ℕ) (old : Option (List ℕ)) → IsAnswer c old → FoundBelow c front k old
each_child c front child zero old a = record { new = old; answer = a; better = λ q n. n; each = λ code l. absurd (omega arith) }
each_child c front child (suc k) old a =
    let f = each_child c front child k old a in
    let g = child k f.new f.answer in
    record {
      new = g.new;
      answer = g.answer;
      better = λ q n. g.better q (f.better q n);
      each = λ code l. elim (cases_order code k) [
        | inl e ↦ subst (λ n. IsLeastOn c (front ++ n ∷ []) g.new) (sym e) g.least
        | inr differ ↦ elim differ [ inl m ↦ λ q p x. g.better q (f.each code m q p x) | inr m ↦ absurd (omega arith) ]
      ];
    }

best_on : (c : Choices) → IsDecided c → (n : ℕ) (front : List ℕ) → length front + n ≡ blocks c → (old : Option (List ℕ)) → IsAnswer c old → Found c front old
best_on c told zero front e old a =
    let d : length front ≡ blocks c = omega arith in
    elim (feasible_or_not c told front d) [
      | inl f ↦ whole c front old d a f
      | inr broken ↦ keeps c front old a (λ q p x. absurd (broken (subst (IsFeasible c) (leaf c front q d p.is_plan x) p)))
    ]
best_on c told (suc n) front e old a =
    let h = each_child c front
    (λ code old a. best_on c told n (front ++ code ∷ []) (let m = length-append front (code ∷ []) in omega arith) old a)
    (count c (length front)) old a in
    record { new = h.new; answer = h.answer; better = h.better; least = children_cover c front h.new (omega arith) h.each }

found_best : (c : Choices) (p : List ℕ) (t : Option (List ℕ)) → IsFeasible c p → IsBest c t → (best : List ℕ) × IsBest c (Some best)
found_best c p None f b = absurd (b p f)
found_best c p (Some t) f b = (t, b)

-- where a plan is feasible there is a best one
pub best_exists : (c : Choices) → IsDecided c → (p : List ℕ) → IsFeasible c p → (best : List ℕ) × IsBest c (Some best)
best_exists c told p f =
    let h = best_on c told (blocks c) [] (omega arith) None tt in
    found_best c p h.new f (least_is_best c h.new h.answer h.least)
