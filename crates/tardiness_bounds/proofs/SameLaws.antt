-- Boxes with the same exact codes have one fit, and the exact literals of a box have the exact codes of the box.
use Rattle.std.proofs.Common.{◌≡◌, ◌≢◌, ℕ, zero, suc, ◌+◌, ◌<◌, ◌≤◌, List, [], ◌∷◌, ◌++◌, length, get_or, take, Option, Some, None, refl, sym, ap, ◌∙◌, subst, inl, inr, arith, length-append}
use Rattle.std.specs.Prelude.{slice_get, All, Contains, ◌==◌, if◌then◌else◌}
use Rattle.std.proofs.lemmas.Bool.{cases_Bool, eqb-true, eq-eqb, ne_eqb, cond-false, true≢false}
use Rattle.std.proofs.lemmas.List.{take_more}
use Rattle.std.proofs.lemmas.Option.{none-some, slice_get-get_or, slice_get_within, get_or_from_slice_get}
use Rattle.std.proofs.lemmas.List.Elements.{All-cons, All-nil, All-push}
use Rattle.plan_rule.specs.declared.literal.Literal.{Literal}
use Rattle.shape_exact.specs.Yards.{PlainYard}
use Rattle.plan_rule.specs.Boxes.{IsAscending, IsBox, IsLiteral, LeavesFree, exact, exact_code}
use Rattle.plan_rule.specs.Yards.{choices}
use Rattle.tardiness_bounds.specs.Besides.{HaveSameExacts}
use Rattle.tardiness_bounds.specs.Stacks.{CanPush, PlainFrontier}
use Rattle.plan_rule.specs.Bounds.{IsBound, IsFit, IsLeastOf, IsSumOfLeast, MayFit}
use Rattle.plan_rule.specs.Choices.{Choices, IsCode, blocks}
use Rattle.plan_rule.proofs.ExactLaws.{in_front, nothing_exact, passed, place-le-block}

pub same_may : (c : Choices) (xs ys : List Literal) → HaveSameExacts xs ys → (b code : ℕ) → MayFit c xs b code → MayFit c ys b code
same_may c xs ys same b code may = (
  (may.0.0, λ d f. may.0.1 d (same b ∙ f)),
  λ none a d f clash. may.1 (same b ∙ none) a d (same a ∙ f) clash,
  λ none. may.2 (same b ∙ none),
)

same_least : (P Q : ℕ → Type 0) (value : ℕ → ℕ) (m : ℕ) → ((x : ℕ) → P x → Q x) → ((x : ℕ) → Q x → P x) → IsLeastOf P value (Some m) → IsLeastOf Q value (Some m)
same_least P Q value m there back ((x, p, is), low) = ((x, there x p, is), λ y q. low y (back y q))

same_sum : (May Can : ℕ → ℕ → Type 0) (cost : ℕ → ℕ → ℕ) (n k : ℕ) → ((b x : ℕ) → May b x → Can b x) → ((b x : ℕ) → Can b x → May b x)
    → IsSumOfLeast May cost n k → IsSumOfLeast Can cost n k
same_sum May Can cost zero k there back h = h
same_sum May Can cost (suc n) k there back (s, m, hs, hm, e) =
    (s, m, same_sum May Can cost n s there back hs, same_least (May n) (Can n) (cost n) m (there n) (back n) hm, e)

same_bound : (May Can : ℕ → ℕ → Type 0) (cost : ℕ → ℕ → ℕ) (n : ℕ) (r : Option ℕ) → ((b x : ℕ) → May b x → Can b x) → ((b x : ℕ) → Can b x → May b x)
    → IsBound May cost n r → IsBound Can cost n r
same_bound May Can cost n None there back (b, l, none) = (b, l, λ x can. none x (back b x can))
same_bound May Can cost n (Some k) there back h = same_sum May Can cost n k there back h

-- they have one fit
pub same_fit : (c : Choices) (xs ys : List Literal) (r : Option ℕ) → HaveSameExacts xs ys → IsFit c xs r → IsFit c ys r
same_fit c xs ys r same h =
    same_bound (MayFit c xs) (MayFit c ys) c.cost (blocks c) r (same_may c xs ys same) (same_may c ys xs (λ b. sym (same b))) h

-- the exact literals of the first literals of a box
pub record AreExacts (c : Choices) (box : List Literal) (n : ℕ) (exacts : List Literal) : Type 0 where
  pub same : HaveSameExacts exacts (take n box)
  pub from : All (λ m. (j : ℕ) × (j < n) × (slice_get box j ≡ Some m)) exacts
  pub few : length exacts ≤ n

pub exacts_none : (c : Choices) (box : List Literal) → AreExacts c box 0 []
exacts_none c box = record {
  same = λ b. refl;
  from = All-nil (λ m. (j : ℕ) × (j < 0) × (slice_get box j ≡ Some m));
  few = omega arith;
}

-- the next literal is on a block that they leave free
pub exacts_free : (c : Choices) (box exacts : List Literal) (n : ℕ) (l : Literal) → IsAscending box → AreExacts c box n exacts → slice_get box n ≡ Some l
    → LeavesFree exacts l.block
exacts_free c box exacts n l up h at = λ k d within e.
    let (j, below, is) = h.from k d within in
    let less = up j n (get_or exacts k d) l below is at in
    omega arith

taken_free : (box : List Literal) (n : ℕ) (l : Literal) → IsAscending box → slice_get box n ≡ Some l → LeavesFree (take n box) l.block
taken_free box n l up at = λ k d within e.
    let (below, is) = get_taken box n k (get_or (take n box) k d) (slice_get-get_or (take n box) k d within) in
    let less = up k n (get_or (take n box) k d) l below is at in
    omega arith
  where
    get_taken : {A : Type 0} (xs : List A) (n k : ℕ) (x : A) → slice_get (take n xs) k ≡ Some x → (k < n) × (slice_get xs k ≡ Some x)
    get_taken [] zero k x e = absurd (none-some x e)
    get_taken [] (suc n) k x e = absurd (none-some x e)
    get_taken (y ∷ xs) zero k x e = absurd (none-some x e)
    get_taken (y ∷ xs) (suc n) zero x e = (omega arith, e)
    get_taken (y ∷ xs) (suc n) (suc k) x e = let (l, at) = get_taken xs n k x e in (omega arith, at)

alone : (l : Literal) (b : ℕ) → l.block ≢ b → LeavesFree (l ∷ []) b
alone l b ne = All-cons (λ (m : Literal). m.block ≢ b) l [] ne (All-nil (λ (m : Literal). m.block ≢ b))

weaker : (box exacts : List Literal) (n : ℕ) → All (λ m. (j : ℕ) × (j < n) × (slice_get box j ≡ Some m)) exacts
    → All (λ m. (j : ℕ) × (j < n + 1) × (slice_get box j ≡ Some m)) exacts
weaker box exacts n h = λ k d within. let (j, below, is) = h k d within in (j, omega arith, is)

-- a literal of one code more
pub exacts_more : (c : Choices) (box exacts more : List Literal) (n : ℕ) (l : Literal) → IsAscending box → AreExacts c box n exacts → slice_get box n ≡ Some l
    → more ≡ exacts ++ l ∷ [] → AreExacts c box (n + 1) more
exacts_more c box exacts more n l up h at pushed =
    let within = slice_get_within box n l at in
    let here : get_or box n l ≡ l = get_or_from_slice_get box n l l at in
    let taken : take (n + 1) box ≡ take n box ++ l ∷ [] = take_more box n l within ∙ ap (λ m. take n box ++ m ∷ []) here in
    let free = exacts_free c box exacts n l up h at in
    record {
      same = λ b.
          ap (λ xs. exact_code xs b) pushed
          ∙ elim (cases_Bool (l.block == b)) [
            | inl on ↦
                let e : l.block ≡ b = eqb-true l.block b on in
                passed exacts (l ∷ []) b (subst (LeavesFree exacts) e free)
                ∙ sym (passed (take n box) (l ∷ []) b (subst (LeavesFree (take n box)) e (taken_free box n l up at)))
            | inr off ↦
                let ne : l.block ≢ b = λ e. true≢false (sym (eq-eqb l.block b e) ∙ off) in
                in_front exacts (l ∷ []) b (alone l b ne) ∙ h.same b ∙ sym (in_front (take n box) (l ∷ []) b (alone l b ne))
          ]
          ∙ ap (λ xs. exact_code xs b) (sym taken);
      from = subst (All (λ m. (j : ℕ) × (j < n + 1) × (slice_get box j ≡ Some m))) (sym pushed)
          (All-push (λ m. (j : ℕ) × (j < n + 1) × (slice_get box j ≡ Some m)) exacts l (weaker box exacts n h.from) (n, omega arith, at));
      few = (let f = h.few in let e = ap length pushed ∙ length-append exacts (l ∷ []) in omega arith);
    }

-- a literal of several codes
pub exacts_past : (c : Choices) (box exacts : List Literal) (n : ℕ) (l : Literal) → IsAscending box → AreExacts c box n exacts → slice_get box n ≡ Some l
    → (l.hi ≡ l.lo + 1 → ⊥) → AreExacts c box (n + 1) exacts
exacts_past c box exacts n l up h at several =
    let within = slice_get_within box n l at in
    let here : get_or box n l ≡ l = get_or_from_slice_get box n l l at in
    let taken : take (n + 1) box ≡ take n box ++ l ∷ [] = take_more box n l within ∙ ap (λ m. take n box ++ m ∷ []) here in
    let free = exacts_free c box exacts n l up h at in
    record {
      same = λ b.
          elim (cases_Bool (l.block == b)) [
            | inl on ↦
                let e : l.block ≡ b = eqb-true l.block b on in
                nothing_exact exacts b (subst (LeavesFree exacts) e free)
                ∙ sym (passed (take n box) (l ∷ []) b (subst (LeavesFree (take n box)) e (taken_free box n l up at)) ∙ wide l b several)
            | inr off ↦
                let ne : l.block ≢ b = λ e. true≢false (sym (eq-eqb l.block b e) ∙ off) in
                h.same b ∙ sym (in_front (take n box) (l ∷ []) b (alone l b ne))
          ]
          ∙ ap (λ xs. exact_code xs b) (sym taken);
      from = weaker box exacts n h.from;
      few = (let f = h.few in omega arith);
    }
  where
    wide : (l : Literal) (b : ℕ) → (l.hi ≡ l.lo + 1 → ⊥) → exact_code (l ∷ []) b ≡ None
    wide l b several = elim (cases_Bool (l.block == b)) [
      | inl on ↦
          ap (λ t. if t then (if l.hi == l.lo + 1 then Some l.lo else None) else None) on
          ∙ cond-false (l.hi == l.lo + 1) (Some l.lo) None (ne_eqb l.hi (l.lo + 1) several)
      | inr off ↦ ap (λ t. if t then (if l.hi == l.lo + 1 then Some l.lo else None) else None) off
    ]

-- the next literal may be pushed, where it has one code
pub may_push : (yard : PlainYard) (box : List Literal) (p : PlainFrontier) (n : ℕ) (l : Literal) → IsBox (choices yard) box → p.yard ≡ yard
    → AreExacts (choices yard) box n p.literals → slice_get box n ≡ Some l → CanPush p l.block l.lo
may_push yard box p n l is same h at =
    let within = slice_get_within box n l at in
    let here : get_or box n l ≡ l = get_or_from_slice_get box n l l at in
    let literal : IsLiteral (choices yard) l = subst (IsLiteral (choices yard)) here (is.each n l within) in
    let few = h.few in
    let low = place-le-block box n l is.ascending at in
    let exist = literal.block in
    let some = literal.some in
    let codes = literal.codes in
    record {
      is_code = subst (λ y. IsCode (choices y) l.block l.lo) (sym same) (exist, omega arith);
      free = exacts_free (choices yard) box p.literals n l is.ascending h at;
    }

-- a literal whose end is the next code is of one code
pub one_code : (l : Literal) → l.hi ≡ l.lo + 1 → l ≡ exact l.block l.lo
one_code l e = ap (λ h. (let m : Literal = record { block = l.block; lo = l.lo; hi = h } in m)) e

-- they are literals of the box
pub exacts_inside : (c : Choices) (box exacts : List Literal) (n : ℕ) → AreExacts c box n exacts → All (Contains box) exacts
exacts_inside c box exacts n h = λ k d within. let (j, below, is) = h.from k d within in let l = get_or exacts k d in (j, slice_get_within box j l is, get_or_from_slice_get box j l l is)
