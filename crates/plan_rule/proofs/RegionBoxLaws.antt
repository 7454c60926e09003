-- The box of a region holds the region's plans.
use Rattle.std.proofs.Common.{◌≡◌, ℕ, zero, suc, ◌+◌, ◌<◌, ◌≤◌, List, [], ◌∷◌, length, Bool, true, false, ◌⊎◌, refl, sym, ap, ◌∙◌, subst, inl, inr, arith}
use Rattle.std.specs.Prelude.{◌==◌, ◌&&◌, if◌then◌else◌}
use Rattle.std.proofs.lemmas.Bool.{cases_Bool, and_parts, eqb-true, eq-eqb, true≢false}
use Rattle.std.proofs.lemmas.List.Elements.{All-append, All-cons, All-head, All-nil}
use Rattle.plan_rule.specs.declared.job.Job.{Job}
use Rattle.plan_rule.specs.declared.literal.Literal.{Literal}
use Rattle.plan_rule.specs.Choices.{Choices, blocks, count}
use Rattle.plan_rule.specs.Plans.{IsPlan, code_of}
use Rattle.plan_rule.specs.Boxes.{exact, Holds}
use Rattle.plan_rule.specs.Regions.{Follows, IsRegionPart}
use Rattle.plan_rule.specs.RegionBoxes.{exact_literals, range_literal, region_box, RegionBoxHolds}
use Rattle.plan_rule.proofs.BoxLaws.{HoldsCode, All-front, All-back}

-- the codes of the blocks from b on agree with the plan
abbrev AgreesFrom : ℕ → List ℕ → List ℕ → Type 0
AgreesFrom b codes q = (i : ℕ) → i < length codes → code_of codes i ≡ code_of q (b + i)

-- a code of one is 0
only_code : (t : Bool) (n x y : ℕ) → (t ≡ true → n ≡ 1) → x < n → y < n → t ≡ true → x ≡ y
only_code t n x y one l m e = let f = one e in omega arith

first_agrees : (t : Bool) (b code : ℕ) (q : List ℕ) → Holds (if t then [] else exact b code ∷ []) q → (t ≡ true → code ≡ code_of q b) → code ≡ code_of q b
first_agrees true b code q h one = one refl
first_agrees false b code q h one = let two : HoldsCode q (exact b code) = All-head (HoldsCode q) (exact b code) [] h in omega (arith, two)

first_held : (t : Bool) (b code : ℕ) (q : List ℕ) → code ≡ code_of q b → Holds (if t then [] else exact b code ∷ []) q
first_held true b code q e = All-nil (HoldsCode q)
first_held false b code q e = All-cons (HoldsCode q) (exact b code) [] (omega arith, omega arith) (All-nil (HoldsCode q))

exacts_agree : (c : Choices) (b : ℕ) (codes q : List ℕ)
    → ((i : ℕ) → i < length codes → code_of codes i < count c (b + i)) → ((i : ℕ) → i < length codes → code_of q (b + i) < count c (b + i))
    → Holds (exact_literals c b codes) q → AgreesFrom b codes q
exacts_agree c b [] q are_codes within h i l = absurd (omega arith)
exacts_agree c b (code ∷ codes) q are_codes within h zero l =
    let e : b + 0 ≡ b = omega arith in
    let one : code < count c b = subst (λ n. code < count c n) e (are_codes 0 (omega arith)) in
    let two : code_of q b < count c b = subst (λ n. code_of q n < count c n) e (within 0 (omega arith)) in
    first_agrees (count c b == 1) b code q
    (All-front (HoldsCode q) (if count c b == 1 then [] else exact b code ∷ []) (exact_literals c (suc b) codes) h)
    (only_code (count c b == 1) (count c b) code (code_of q b) (eqb-true (count c b) 1) one two)
    ∙ ap (code_of q) (sym e)
exacts_agree c b (code ∷ codes) q are_codes within h (suc i) l =
    let next : (i : ℕ) → b + suc i ≡ suc b + i = λ i. omega arith in
    exacts_agree c (suc b) codes q
    (λ i l. subst (λ n. code_of codes i < count c n) (next i) (are_codes (suc i) (omega arith)))
    (λ i l. subst (λ n. code_of q n < count c n) (next i) (within (suc i) (omega arith)))
    (All-back (HoldsCode q) (if count c b == 1 then [] else exact b code ∷ []) (exact_literals c (suc b) codes) h) i (omega arith)
    ∙ ap (code_of q) (sym (next i))

agree_exacts : (c : Choices) (b : ℕ) (codes q : List ℕ) → AgreesFrom b codes q → Holds (exact_literals c b codes) q
agree_exacts c b [] q same = All-nil (HoldsCode q)
agree_exacts c b (code ∷ codes) q same =
    All-append (HoldsCode q) (if count c b == 1 then [] else exact b code ∷ []) (exact_literals c (suc b) codes)
    (first_held (count c b == 1) b code q (same 0 (omega arith) ∙ ap (code_of q) (let e : b + 0 ≡ b = omega arith in e)))
    (agree_exacts c (suc b) codes q (λ i l. same (suc i) (omega arith) ∙ ap (code_of q) (let e : b + suc i ≡ suc b + i = omega arith in e)))

-- the range literal holds what has its code in the range
range_held : (none whole : Bool) (l : Literal) (q : List ℕ) → HoldsCode q l → Holds (if none then [] else (if whole then [] else l ∷ [])) q
range_held true whole l q h = All-nil (HoldsCode q)
range_held false true l q h = All-nil (HoldsCode q)
range_held false false l q h = All-cons (HoldsCode q) l [] h (All-nil (HoldsCode q))

held_range : (none whole : Bool) (l : Literal) (q : List ℕ) → none ≡ false → (whole ≡ true → HoldsCode q l)
    → Holds (if none then [] else (if whole then [] else l ∷ [])) q → HoldsCode q l
held_range true whole l q e w h = absurd (true≢false e)
held_range false true l q e w h = w refl
held_range false false l q e w h = All-head (HoldsCode q) l [] h

nothing_held : (none whole : Bool) (l : Literal) (q : List ℕ) → none ≡ true → Holds (if none then [] else (if whole then [] else l ∷ [])) q
nothing_held true whole l q e = All-nil (HoldsCode q)
nothing_held false whole l q e = absurd (true≢false (sym e))

positive : (n : ℕ) → 0 < n → (n == 0) ≡ false
positive n l = elim (cases_Bool (n == 0)) [ inl t ↦ let e = eqb-true n 0 t in absurd (omega arith) | inr f ↦ f ]

-- what the box holds is in the region
held_follows : (c : Choices) (job : Job) (codes : List ℕ) (lo hi : ℕ) (q : List ℕ) → IsRegionPart c job codes lo hi → IsPlan c q
    → Holds (region_box c codes lo hi) q → Follows c codes lo hi q
held_follows c job codes lo hi q part plan h =
    let (p, region) = part.some in
    let (same, next) = (part.plans p region.0).0 region in
    let front = All-front (HoldsCode q) (exact_literals c 0 codes) (range_literal c (length codes) lo hi) h in
    let back = All-back (HoldsCode q) (exact_literals c 0 codes) (range_literal c (length codes) lo hi) h in
    let zero_plus : (i : ℕ) → i ≡ 0 + i = λ i. omega arith in (
      λ b l.
          exacts_agree c 0 codes q
          (λ i m. let e = same i m in let f = region.0.in_range i (below part.range i m) in subst (λ n. code_of codes i < count c n) (zero_plus i) (omega arith))
          (λ i m. subst (λ n. code_of q n < count c n) (zero_plus i) (plan.in_range i (below part.range i m)))
          front b l ∙ ap (code_of q) (sym (zero_plus b)),
      λ exist. elim part.range [
        | inl some ↦
            let two : HoldsCode q (record { block = length codes; lo = lo; hi = hi }) =
            held_range (hi == 0) ((lo == 0) && (hi == count c (length codes))) (record { block = length codes; lo = lo; hi = hi }) q
            (positive hi (let a = some.1 in omega arith))
            (λ w.
            let (a, b) = and_parts (lo == 0) (hi == count c (length codes)) w in
            let e = eqb-true lo 0 a in
            let f = eqb-true hi (count c (length codes)) b in
            let g = plan.in_range (length codes) exist in
            (omega arith, omega arith))
            back in
            two
        | inr gone ↦ let e = gone.0 in absurd (omega arith)
      ],
    )
  where
    below : ((length codes < blocks c) × (lo + 2 ≤ hi) × (hi ≤ count c (length codes))) ⊎ ((length codes ≡ blocks c) × (lo ≡ 0) × (hi ≡ 0))
        → (i : ℕ) → i < length codes → i < blocks c
    below (inl some) i l = let a = some.0 in omega arith
    below (inr gone) i l = let e = gone.0 in omega arith

-- what is in the region is held
follows_held : (c : Choices) (job : Job) (codes : List ℕ) (lo hi : ℕ) (q : List ℕ) → IsRegionPart c job codes lo hi
    → Follows c codes lo hi q → Holds (region_box c codes lo hi) q
follows_held c job codes lo hi q part (same, next) =
    All-append (HoldsCode q) (exact_literals c 0 codes) (range_literal c (length codes) lo hi)
    (agree_exacts c 0 codes q (λ i l. same i l ∙ ap (code_of q) (let e : i ≡ 0 + i = omega arith in e)))
    (elim part.range [
      | inl some ↦ range_held (hi == 0) ((lo == 0) && (hi == count c (length codes))) (record { block = length codes; lo = lo; hi = hi }) q (next some.0)
      | inr gone ↦ nothing_held (hi == 0) ((lo == 0) && (hi == count c (length codes))) (record { block = length codes; lo = lo; hi = hi }) q (eq-eqb hi 0 gone.2)
    ])

pub region_box_holds : (c : Choices) (job : Job) → RegionBoxHolds c job
region_box_holds c job codes lo hi part q plan = (
  λ h. (part.plans q plan).1 (held_follows c job codes lo hi q part plan h),
  λ region. follows_held c job codes lo hi q part ((part.plans q plan).0 region),
)
