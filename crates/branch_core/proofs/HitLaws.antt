-- The box of a prefix is the list of its exact literals.
use Rattle.std.proofs.Common.{◌≡◌, ℕ, zero, suc, ◌+◌, ◌/◌, ◌^◌, ◌<◌, ◌≤◌, List, [], ◌∷◌, length, get_or, take, Option, Some, None, ◌⊎◌, refl, sym, ap, ◌∙◌, subst, inl, inr, arith}
use Rattle.std.specs.Prelude.{Result, Ok, Err, IfOk}
use Rattle.std.specs.List.{All, Contains}
use Rattle.std.proofs.lemmas.Bool.{cases_order}
use Rattle.std.proofs.lemmas.List.Elements.{All-contains, All-contains_itself, All-head, All-tail, All-cons, All-nil, All-weaker}
use Rattle.plan_rule.specs.declared.literal.Literal.{Literal}
use Rattle.plan_rule.specs.Choices.{Choices, blocks}
use Rattle.plan_rule.specs.Plans.{code_of}
use Rattle.plan_rule.specs.Boxes.{exact}
use Rattle.plan_rule.specs.Bounds.{IsAtMost, MayFit}
use Rattle.plan_rule.specs.Paths.{IsAboveBar}
use Rattle.plan_rule.proofs.UniqueLaws.{bound_unique}
use Rattle.shape_exact.specs.declared.memory.NoMemory.{NoMemory}
use Rattle.refutation_log.specs.declared.record.Record.{Record}
use Rattle.refutation_log.specs.Logs.{cites_of}
use Rattle.nogood_store.specs.declared.nogood.Nogood.{Nogood}
use Rattle.nogood_store.specs.Hits.{IsHit, Matches}
use Rattle.branch_kernel.specs.declared.steps.Shown.{Shown}
use Rattle.branch_core.specs.Beaten.{exact_box, IsBeaten}
use Rattle.branch_core.specs.Hits.{GainsOneCiting, HasNoHit, IsFirstHit}
use Rattle.branch_kernel.specs.Boxes.{IsFront}
use Rattle.branch_kernel.specs.Unbeaten.{IsUnbeaten}
use Rattle.branch_kernel.proofs.WithLaws.{Rises, rises_from}

-- an element of a list is its first one or one of the rest
first_or_rest : (x : Literal) (xs : List Literal) (y : Literal) → Contains (x ∷ xs) y → (x ≡ y) ⊎ Contains xs y
first_or_rest x xs y (zero, l, e) = inl e
first_or_rest x xs y (suc k, l, e) = inr (k, omega arith, e)

-- two lists that rise by block and have the same literals are one
same_list : (xs ys : List Literal) → Rises xs → Rises ys → All (Contains ys) xs → All (Contains xs) ys → xs ≡ ys
same_list [] [] r s h k = refl
same_list [] (y ∷ ys) r s h k = let (i, l, e) = All-head (Contains []) y ys k in absurd (omega arith)
same_list (x ∷ xs) [] r s h k = let (i, l, e) = All-head (Contains []) x xs h in absurd (omega arith)
same_list (x ∷ xs) (y ∷ ys) r s h k =
    ap (λ l. l ∷ xs) head ∙ ap (λ rest. y ∷ rest) (same_list xs ys r.1 s.1
    (λ i d l. left (get_or xs i d) (All-contains_itself xs i d l))
    (λ i d l. right (get_or ys i d) (All-contains_itself ys i d l)))
  where
    head : x ≡ y
    head = elim (first_or_rest y ys x (All-head (Contains (y ∷ ys)) x xs h)) [
      | inl e ↦ sym e
      | inr later ↦ elim (first_or_rest x xs y (All-head (Contains (x ∷ xs)) y ys k)) [
        | inl e ↦ e
        | inr after ↦
            let a = All-contains (λ m. y.block < m.block) ys x s.0 later in
            let b = All-contains (λ m. x.block < m.block) xs y r.0 after in absurd (omega arith)
      ]
    ]

    left : (m : Literal) → Contains xs m → Contains ys m
    left m inside = elim (first_or_rest y ys m (All-contains (Contains (y ∷ ys)) xs m (All-tail (Contains (y ∷ ys)) x xs h) inside)) [
      | inl e ↦ (let a = All-contains (λ m. x.block < m.block) xs m r.0 inside in let b : x.block ≡ m.block = ap (λ (l : Literal). l.block) (head ∙ e) in absurd (omega arith))
      | inr there ↦ there
    ]

    right : (m : Literal) → Contains ys m → Contains xs m
    right m inside = elim (first_or_rest x xs m (All-contains (Contains (x ∷ xs)) ys m (All-tail (Contains (x ∷ xs)) y ys k) inside)) [
      | inl e ↦ (let a = All-contains (λ m. y.block < m.block) ys m s.0 inside in let b : y.block ≡ m.block = ap (λ (l : Literal). l.block) (sym head ∙ e) in absurd (omega arith))
      | inr there ↦ there
    ]

exact_from : (b : ℕ) (codes : List ℕ) → All (λ l. b ≤ l.block) (exact_box b codes)
exact_from b [] = All-nil (λ l. b ≤ l.block)
exact_from b (code ∷ codes) = All-cons (λ l. b ≤ l.block) (exact b code) (exact_box (suc b) codes) (omega arith)
    (All-weaker (λ l. suc b ≤ l.block) (λ l. b ≤ l.block) (λ l h. omega arith) (exact_box (suc b) codes) (exact_from (suc b) codes))

exact_rises : (b : ℕ) (codes : List ℕ) → Rises (exact_box b codes)
exact_rises b [] = tt
exact_rises b (code ∷ codes) =
    (All-weaker (λ l. suc b ≤ l.block) (λ l. b < l.block) (λ l h. omega arith) (exact_box (suc b) codes) (exact_from (suc b) codes), exact_rises (suc b) codes)

exact_has : (b : ℕ) (codes : List ℕ) (i : ℕ) → i < length codes → Contains (exact_box b codes) (exact (b + i) (code_of codes i))
exact_has b [] i l = absurd (omega arith)
exact_has b (code ∷ codes) zero l = let e : b + 0 ≡ b = omega arith in subst (λ x. Contains (exact_box b (code ∷ codes)) (exact x code)) (sym e) (0, omega arith, refl)
exact_has b (code ∷ codes) (suc i) l =
    let e : suc b + i ≡ b + suc i = omega arith in
    let (k, w, f) = exact_has (suc b) codes i (omega arith) in
    subst (λ x. Contains (exact_box b (code ∷ codes)) (exact x (code_of codes i))) e (suc k, omega arith, f)

exact_only : (b : ℕ) (codes : List ℕ) (P : Literal → Type 0) → ((i : ℕ) → i < length codes → P (exact (b + i) (code_of codes i))) → All P (exact_box b codes)
exact_only b [] P h = All-nil P
exact_only b (code ∷ codes) P h = All-cons P (exact b code) (exact_box (suc b) codes)
    (let e : b + 0 ≡ b = omega arith in subst (λ x. P (exact x code)) e (h 0 (omega arith)))
    (exact_only (suc b) codes P (λ i l. let e : b + suc i ≡ suc b + i = omega arith in subst (λ x. P (exact x (code_of codes i))) e (h (suc i) (omega arith))))

pub front_is : (c : Choices) (codes : List ℕ) (side : List Literal) → IsFront c codes (length codes) side → side ≡ exact_box 0 codes
front_is c codes side front = same_list side (exact_box 0 codes) (rises_from side front.is.ascending) (exact_rises 0 codes)
    (All-weaker (λ l. (l.block < length codes) × (l ≡ exact l.block (code_of codes l.block))) (Contains (exact_box 0 codes)) inside side front.only)
    (exact_only 0 codes (Contains side) (λ i l. let e : 0 + i ≡ i = omega arith in subst (λ x. Contains side (exact x (code_of codes i))) (sym e) (front.has i l)))
  where
    inside : (m : Literal) → (m.block < length codes) × (m ≡ exact m.block (code_of codes m.block)) → Contains (exact_box 0 codes) m
    inside m (below, e) =
        let z : 0 + m.block ≡ m.block = omega arith in
        subst (Contains (exact_box 0 codes)) (sym e) (subst (λ x. Contains (exact_box 0 codes) (exact x (code_of codes m.block))) z (exact_has 0 codes m.block below))

above_least : (r : Option ℕ) (total bar : ℕ) → IsAtMost r total → total ≤ bar / 2 ^ 32 → IsAboveBar r bar → ⊥
above_least None total bar m l a = m
above_least (Some k) total bar m l a = absurd (omega arith)

-- a box that its bounds do not beat is not beaten
pub not_beaten : (c : Choices) (codes : List ℕ) (side : List Literal) (total bar : ℕ) → IsFront c codes (length codes) side → IsUnbeaten c side total → total ≤ bar / 2 ^ 32 → IsBeaten c (exact_box 0 codes) bar → ⊥
not_beaten c codes side total bar front unbeaten l beaten = go (subst (λ box. IsBeaten c box bar) (sym (front_is c codes side front)) beaten)
  where
    go : IsBeaten c side bar → ⊥
    go (inl (r, fit, above)) =
        let e : Some unbeaten.fit ≡ r = bound_unique (MayFit c side) c.cost (blocks c) (Some unbeaten.fit) r unbeaten.fit_is fit in
        above_least r total bar (subst (λ r. IsAtMost r total) e unbeaten.low) l above
    go (inr (u, e, r, window, energy, above)) = above_least r total bar (unbeaten.energy u e r window energy) l above

-- no hit and a hit do not go together
no_both : (store : List Nogood) (codes : List ℕ) (tag : ℕ) → IsHit store codes None → IsHit store codes (Some tag) → ⊥
no_both store codes tag none ((k, n, within, at, (meets, same)), least) = All-contains (λ n. Matches codes n.part → ⊥) store n none (k, within, at) meets

-- a first hit is a hit
pub hit_or_none : (store : List Nogood) (codes : List ℕ) (place tag : ℕ) → HasNoHit store codes → IsFirstHit store codes place tag → ⊥
hit_or_none store codes place tag none is = no_both store (take (place + 1) codes) tag (none place (omega arith) is.within) is.hit

least_tag : (store : List Nogood) (codes : List ℕ) (tag other : ℕ) → IsHit store codes (Some tag) → IsHit store codes (Some other) → tag ≤ other
least_tag store codes tag other (some, least) ((k, n, within, at, (meets, same)), also) =
    let l = All-contains (λ n. Matches codes n.part → tag ≤ n.tag) store n least (k, within, at) meets in omega arith

-- there is one first hit
pub first_hit_unique : (store : List Nogood) (codes : List ℕ) (p q tag other : ℕ) → IsFirstHit store codes p tag → IsFirstHit store codes q other → tag ≡ other
first_hit_unique store codes p q tag other one two = elim (cases_order p q) [
  | inl e ↦
      let hit : IsHit store (take (p + 1) codes) (Some other) = subst (λ q. IsHit store (take (q + 1) codes) (Some other)) (sym e) two.hit in
      let a = least_tag store (take (p + 1) codes) tag other one.hit hit in
      let b = least_tag store (take (p + 1) codes) other tag hit one.hit in omega arith
  | inr o ↦ elim o [
    | inl l ↦ absurd (no_both store (take (p + 1) codes) tag (two.first p (omega arith) l) one.hit)
    | inr l ↦ absurd (no_both store (take (q + 1) codes) other (one.first q (omega arith) l) two.hit)
  ]
]

-- where the first hit is cited, each first hit is
pub cites_first : (store : List Nogood) (codes : List ℕ) (p tag : ℕ) (old new : List Record) (result : Result Shown NoMemory) → IsFirstHit store codes p tag → IfOk result (λ _. GainsOneCiting old new tag)
    → (q other : ℕ) → IsFirstHit store codes q other → IfOk result (λ _. GainsOneCiting old new other)
cites_first store codes p tag old new (Err e) one cites q other two = tt
cites_first store codes p tag old new (Ok shown) one (r, grown, cited) q other two =
    (r, grown, subst (Contains (cites_of r)) (first_hit_unique store codes p q tag other one two) cited)
