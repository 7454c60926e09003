-- What holds of the rivals of a bar and a best, and when a bound beats them all.
use Rattle.std.proofs.Common.{◌≡◌, ℕ, suc, ◌+◌, ◌-◌, ◌*◌, ◌/◌, ◌^◌, ◌<◌, ◌≤◌, List, [], ◌∷◌, Option, Some, None, ◌⊎◌, refl, sym, ap, ◌∙◌, subst, inl, inr, arith, Bool, true, false}
use Rattle.std.specs.Prelude.{◌==◌, if◌then◌else◌}
use Rattle.std.specs.List.{Any}
use Rattle.std.proofs.lemmas.Bool.{cases_lt, cases_order, eqb-true}
use Rattle.std.proofs.lemmas.Option.{none-some, same_Some}
use Rattle.plan_rule.specs.declared.literal.Literal.{Literal}
use Rattle.plan_rule.specs.Choices.{Choices, blocks}
use Rattle.plan_rule.specs.Plans.{code_of, IsPlan, IsFeasible, total, IsLexLess, IsBefore, IsNotBefore}
use Rattle.plan_rule.specs.Boxes.{HasExact, exact_code}
use Rattle.plan_rule.specs.Bounds.{Refutes, IsBehind}
use Rattle.plan_rule.specs.Paths.{key, IsAboveBar}
use Rattle.plan_rule.proofs.BoundLaws.{refuted, code_past}
use Rattle.plan_rule.proofs.BarLaws.{FitsBound, refutes_within, key_above}
use Rattle.plan_rule.proofs.OrderLaws.{before_cases, before_trans}
use Rattle.plan_rule.proofs.PathLaws.{path-below}
use Rattle.branch_kernel.specs.Rivals.{IsNotAfter, IsRival, IsSettled, IsNoWorse, IsLater, Beats}

-- later is in order
pub later_self : (c : Choices) (bar : ℕ) (best : Option (List ℕ)) → IsLater c bar best bar best
later_self c bar None = record { falls = omega arith; no_worse = tt }
later_self c bar (Some m) = record { falls = omega arith; no_worse = inl refl }

pub no_worse_trans : (c : Choices) (a b d : Option (List ℕ)) → IsNoWorse c a b → IsNoWorse c b d → IsNoWorse c a d
no_worse_trans c None b d h k = tt
no_worse_trans c (Some m) None d h k = absurd h
no_worse_trans c (Some m) (Some n) None h k = absurd k
no_worse_trans c (Some m) (Some n) (Some o) h k = elim h [
  | inl e ↦ subst (λ m. (o ≡ m) ⊎ IsBefore c o m) e k
  | inr l ↦ elim k [
    | inl f ↦ inr (subst (λ o. IsBefore c o m) (sym f) l)
    | inr w ↦ inr (before_trans c o n m w l)
  ]
]

pub later_trans : (c : Choices) (b1 b2 b3 : ℕ) (m1 m2 m3 : Option (List ℕ)) → IsLater c b1 m1 b2 m2 → IsLater c b2 m2 b3 m3 → IsLater c b1 m1 b3 m3
later_trans c b1 b2 b3 m1 m2 m3 h k =
    let x = h.falls in let y = k.falls in
    record { falls = omega arith; no_worse = no_worse_trans c m1 m2 m3 h.no_worse k.no_worse }

-- what is shown against no best at all is shown against any
pub later_none : (c : Choices) (bar : ℕ) (best : Option (List ℕ)) → IsLater c bar None bar best
later_none c bar best = record { falls = omega arith; no_worse = tt }

not_after_later : (c : Choices) (m n : Option (List ℕ)) (p : List ℕ) → IsNoWorse c m n → IsNotAfter c n p → IsNotAfter c m p
not_after_later c None n p h k = tt
not_after_later c (Some m) None p h k = absurd h
not_after_later c (Some m) (Some n) p h k = elim h [
  | inl e ↦ subst (λ m. IsBefore c m p → ⊥) e k
  | inr l ↦ λ w. k (before_trans c n m p l w)
]

-- a later rival was a rival before
pub rival_later : (c : Choices) (bar bar' : ℕ) (best best' t : Option (List ℕ)) → bar < 2 ^ 64 → IsLater c bar best bar' best'
    → IsRival c bar' best' t → IsRival c bar best t
rival_later c bar bar' best best' None b h r = let x = h.falls in omega arith
rival_later c bar bar' best best' (Some p) b h (plan, within, not_after) =
    let x = h.falls in (plan, omega arith, not_after_later c best best' p h.no_worse not_after)

not_before_later : (c : Choices) (m n : Option (List ℕ)) (q : List ℕ) → IsNoWorse c m n → IsNotBefore c q m → IsNotBefore c q n
not_before_later c None n q h k = absurd k
not_before_later c (Some m) None q h k = absurd h
not_before_later c (Some m) (Some n) q h k = elim h [
  | inl e ↦ subst (λ n. IsBefore c q n → ⊥) (sym e) k
  | inr l ↦ λ w. k (before_trans c q n m w l)
]

-- what is settled stays settled
pub settled_later : (c : Choices) (bar bar' : ℕ) (best best' : Option (List ℕ)) (q : List ℕ) → IsLater c bar best bar' best'
    → IsSettled c bar best q → IsSettled c bar' best' q
settled_later c bar bar' best best' q h s = elim s [
  | inl l ↦ let x = h.falls in inl (omega arith)
  | inr w ↦ inr (not_before_later c best best' q h.no_worse w)
]

-- a bound that beats all rivals still does so later
pub beats_later : (c : Choices) (bar bar' : ℕ) (best best' : Option (List ℕ)) (box : List Literal) (r : Option ℕ) → bar < 2 ^ 64
    → IsLater c bar best bar' best' → Beats c bar best box r → Beats c bar' best' box r
beats_later c bar bar' best best' box r b h k = record {
  refutes = λ t rival. k.refutes t (rival_later c bar bar' best best' t b h rival);
  settles = λ q f held most. settled_later c bar bar' best best' q h (k.settles q f held most);
}

-- a bound above the bar beats all
pub beats_above : (c : Choices) (bar : ℕ) (box : List Literal) (r : Option ℕ) → FitsBound r → IsAboveBar r bar → Beats c bar None box r
beats_above c bar box r f a = record {
  refutes = refutes;
  settles = λ q feasible held most. inl (key_above c q r bar most a);
}
  where
    refutes : (t : Option (List ℕ)) → IsRival c bar None t → Refutes c t box r
    refutes None rival = refutes_within c None box r bar rival f a
    refutes (Some p) rival = refutes_within c (Some p) box r bar (rival.0, rival.1) f a

-- a block that is exact in a box has a literal there, of that code
pub exact_any : (box : List Literal) (b d : ℕ) → HasExact box b d → Any (λ l. (l.block ≡ b) × (l.lo ≡ d)) box
exact_any [] b d e = absurd (none-some d e)
exact_any (l ∷ box) b d e = go l box b d (l.block == b) (l.hi == l.lo + 1) (eqb-true l.block b) (λ f. exact_any box b d f) e
  where
    go : (l : Literal) (box : List Literal) (b d : ℕ) (at one : Bool) → (at ≡ true → l.block ≡ b)
        → (exact_code box b ≡ Some d → Any (λ l. (l.block ≡ b) × (l.lo ≡ d)) box)
        → (if at then (if one then Some l.lo else None) else exact_code box b) ≡ Some d → Any (λ l. (l.block ≡ b) × (l.lo ≡ d)) (l ∷ box)
    go l box b d true true is rest e = (0, l, omega arith, refl, (is refl, same_Some l.lo d e))
    go l box b d true false is rest e = absurd (none-some d e)
    go l box b d false one is rest e = let (k, m, within, at, p) = rest e in (suc k, m, omega arith, at, p)

above_exact : (box : List Literal) (j d e : ℕ) → e < d → HasExact box j d → Any (λ l. (l.block ≡ j) × (e < l.lo)) box
above_exact box j d e less exacts =
    let (k, l, within, is, (at, lo)) = exact_any box j d exacts in (k, l, within, is, (at, omega arith))

above_lower : (box : List Literal) (j d e : ℕ) → e ≤ d → Any (λ l. (l.block ≡ j) × (d < l.lo)) box → Any (λ l. (l.block ≡ j) × (e < l.lo)) box
above_lower box j d e less (k, l, within, is, (at, lo)) = (k, l, within, is, (at, omega arith))

-- a box behind a plan is behind each plan that is lexicographically less
pub behind_less : (c : Choices) (box : List Literal) (p q : List ℕ) → IsPlan c p → IsBehind c box p → IsLexLess q p → IsBehind c box q
behind_less c box p q plan h less = elim h [
  | inl one ↦
      let (j, exists, exacts, above) = one in
      elim (cases_order less.place j) [
        | inl e ↦
            let l : code_of q j < code_of p j = subst (λ i. code_of q i < code_of p i) e less.less in
            inl (j, exists, λ b k. subst (HasExact box b) (sym (less.same b (omega arith))) (exacts b k), above_lower box j _ _ (omega arith) above)
        | inr o ↦ elim o [
          | inl l ↦ inl (
            less.place,
            omega arith,
            λ b k. subst (HasExact box b) (sym (less.same b k)) (exacts b (omega arith)),
            above_exact box less.place _ _ less.less (exacts less.place l),
          )
          | inr l ↦
              let e = less.same j l in
              inl (j, exists, λ b k. subst (HasExact box b) (sym (less.same b (omega arith))) (exacts b k), above_lower box j _ _ (omega arith) above)
        ]
      ]
  | inr all ↦ elim (cases_lt less.place (blocks c)) [
    | inl l ↦ inl (
      less.place,
      l,
      λ b k. subst (HasExact box b) (sym (less.same b k)) (all b (omega arith)),
      above_exact box less.place _ _ less.less (all less.place l),
    )
    | inr l ↦ let e = code_past c p less.place plan l in let m = less.less in absurd (omega arith)
  ]
]

-- a bound that equals the total of the best beats all, at a box behind the best
pub beats_tie : (c : Choices) (bar : ℕ) (m : List ℕ) (box : List Literal) (k : ℕ) → IsFeasible c m → key c m < 2 ^ 64 - 1 → bar ≤ key c m
    → k ≡ total c m → IsBehind c box m → Beats c bar (Some m) box (Some k)
beats_tie c bar m box k good fits low same behind = record {
  refutes = refutes;
  settles = λ q feasible held most. inr (refuted c (Some m) box q (Some k) good feasible.is_plan held most (inr (same, behind)));
}
  where
    refutes : (t : Option (List ℕ)) → IsRival c bar (Some m) t → Refutes c t box (Some k)
    refutes None rival = absurd (omega arith)
    refutes (Some p) rival = elim (before_cases c m p good.is_plan rival.0) [
      | inl e ↦ inr (same ∙ ap (total c) e, subst (IsBehind c box) e behind)
      | inr o ↦ elim o [
        | inl w ↦ absurd (rival.2 w)
        | inr w ↦ elim w [
          | inl l ↦ inl (omega arith)
          | inr tie ↦ inr (same ∙ sym tie.0, behind_less c box m p good.is_plan behind tie.1)
        ]
      ]
    ]

-- of two plans, the one that is not before the other is that plan or after it
pub not_before_cases : (c : Choices) (q m : List ℕ) → IsPlan c q → IsPlan c m → (IsBefore c q m → ⊥) → (m ≡ q) ⊎ IsBefore c m q
not_before_cases c q m hq hm not = elim (before_cases c q m hq hm) [
  | inl e ↦ inl (sym e)
  | inr o ↦ elim o [ inl w ↦ absurd (not w) | inr w ↦ inr w ]
]

-- a whole plan that is no better than the best is beaten by its own total
pub beats_leaf : (c : Choices) (bar : ℕ) (m q : List ℕ) (box : List Literal) → IsFeasible c m → IsPlan c q → key c m < 2 ^ 64 - 1 → total c q < 2 ^ 32 → bar ≤ key c m
    → ((b : ℕ) → b < blocks c → HasExact box b (code_of q b)) → (IsBefore c q m → ⊥) → Beats c bar (Some m) box (Some (total c q))
beats_leaf c bar m q box good plan fits small low all not = elim (not_before_cases c q m plan good.is_plan not) [
  | inl e ↦ beats_tie c bar m box (total c q) good fits low (ap (total c) (sym e)) (inr (λ b l. subst (HasExact box b) (ap (λ p. code_of p b) (sym e)) (all b l)))
  | inr w ↦ elim w [
    | inl less ↦
        let p = path-below c m in
        let h : bar / 2 ^ 32 < total c q = omega arith in
        beats_later c bar bar None (Some m) box (Some (total c q)) (omega arith) (later_none c bar (Some m)) (beats_above c bar box (Some (total c q)) small h)
    | inr tie ↦ beats_tie c bar m box (total c q) good fits low (sym tie.0) (behind_less c box q m plan (inr all) tie.1)
  ]
]
