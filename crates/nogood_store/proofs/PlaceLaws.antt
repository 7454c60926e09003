-- Which entries stand where as the entries of one chain are moved on, and how many literals are left to match.
use Rattle.std.proofs.Common.{◌≡◌, ◌≢◌, ℕ, zero, suc, ◌+◌, ◌<◌, ◌≤◌, List, [], ◌∷◌, ◌++◌, length, map, ◌⊎◌, Some, cond, refl, sym, ap, ◌∙◌, subst, inl, inr, arith, length-set}
use Rattle.std.proofs.lemmas.Bool.{cases_eq, eq-eqb, ne_eqb}
use Rattle.std.proofs.lemmas.List.{length-map}
use Rattle.nogood_store.specs.declared.nogood.Nogood.{Nogood}
use Rattle.nogood_store.specs.Places.{later, weight, to_match}
use Rattle.nogood_store.specs.Among.{rest_from}
use Rattle.watch_chains.specs.Lists.{Has, Lacks, AreDistinct, entries_of, without, put_first, moved, first_of}
use Rattle.watch_chains.proofs.ListLaws.{without_has, without_same, without_other, entries_at, entries_off}

-- entries and lists
pub lacks_has : (e x : ℕ) (es : List ℕ) → Lacks e es → Has x es → x ≢ e
lacks_has e x [] lacks has = absurd has
lacks_has e x (y ∷ es) lacks has = elim has [ inl same ↦ λ is. lacks.0 (same ∙ is) | inr rest ↦ lacks_has e x es lacks.1 rest ]

has_without : (e x : ℕ) (es : List ℕ) → Has x (without e es) → (x ≢ e) × Has x es
has_without e x [] has = absurd has
has_without e x (y ∷ es) has = elim (cases_eq y e) [
  | inl same ↦ let rest = has_without e x es (subst (Has x) (without_same e y es same) has) in (rest.0, inr rest.1)
  | inr other ↦ elim (subst (Has x) (without_other e y es other) has) [
    | inl is ↦ ((λ xe. other (is ∙ xe)), inl is)
    | inr in_rest ↦ let rest = has_without e x es in_rest in (rest.0, inr rest.1)
  ]
]

lacks_append : (e : ℕ) (before after : List ℕ) → Lacks e (before ++ after) → Lacks e before × Lacks e after
lacks_append e [] after lacks = (tt, lacks)
lacks_append e (y ∷ before) after lacks = let rest = lacks_append e before after lacks.1 in ((lacks.0, rest.0), rest.1)

-- an entry of a list without repetition is not among those before it
pub distinct_before : (e : ℕ) (before after : List ℕ) → AreDistinct (before ++ e ∷ after) → Lacks e before
distinct_before e [] after d = tt
distinct_before e (y ∷ before) after d =
    let parts = lacks_append y before (e ∷ after) d.0 in
    ((λ same. parts.1.0 (sym same)), distinct_before e before after d.1)

-- the rest of a walk
pub rest_is : (before rest : List ℕ) → AreDistinct (before ++ rest) → rest_from (first_of rest) (before ++ rest) ≡ rest
rest_is [] [] d = refl
rest_is [] (e ∷ rest) d = ap (λ t. cond t (e ∷ rest) (rest_from (Some e) rest)) (eq-eqb e e refl)
rest_is (y ∷ before) [] d = refl
rest_is (y ∷ before) (e ∷ rest) d =
    let parts = lacks_append y before (e ∷ rest) d.0 in
    ap (λ t. cond t (y ∷ (before ++ e ∷ rest)) (rest_from (Some e) (before ++ e ∷ rest))) (ne_eqb y e (λ is. parts.1.0 (sym is)))
    ∙ rest_is before (e ∷ rest) d.1

pub moved_has : (lists : List (List ℕ)) (e to i x : ℕ) → to < length lists → Has x (entries_of (moved lists e to) i)
    → ((x ≡ e) × (i ≡ to)) ⊎ ((x ≢ e) × Has x (entries_of lists i))
moved_has lists e to i x within has = elim (cases_eq i to) [
  | inl same ↦ elim (subst (Has x) (ap (entries_of (moved lists e to)) same ∙ entries_at e lists to within) has) [
    | inl is ↦ inl (sym is, same)
    | inr rest ↦ let had = has_without e x (entries_of lists to) rest in
        inr (had.0, subst (λ j. Has x (entries_of lists j)) (sym same) had.1)
  ]
  | inr other ↦ inr (has_without e x (entries_of lists i) (subst (Has x) (entries_off e lists to i other) has))
]

pub has_moved : (lists : List (List ℕ)) (e to i x : ℕ) → to < length lists → x ≢ e → Has x (entries_of lists i) → Has x (entries_of (moved lists e to) i)
has_moved lists e to i x within ne has = elim (cases_eq i to) [
  | inl same ↦ subst (Has x) (sym (ap (entries_of (moved lists e to)) same ∙ entries_at e lists to within))
      (inr (without_has e x (entries_of lists to) ne (subst (λ j. Has x (entries_of lists j)) same has)))
  | inr other ↦ subst (Has x) (sym (entries_off e lists to i other)) (without_has e x (entries_of lists i) ne has)
]

pub has_there : (lists : List (List ℕ)) (e to : ℕ) → to < length lists → Has e (entries_of (moved lists e to) to)
has_there lists e to within = subst (Has e) (sym (entries_at e lists to within)) (inl refl)

pub length-moved : (lists : List (List ℕ)) (e to : ℕ) → length (moved lists e to) ≡ length lists
length-moved lists e to = length-set (map (without e) lists) to _ ∙ length-map lists (without e)

-- how many literals are left
weight-without-le : (list : List Nogood) (i e : ℕ) (es : List ℕ) → weight list i (without e es) ≤ weight list i es
weight-without-le list i e [] = omega arith
weight-without-le list i e (y ∷ es) = elim (cases_eq y e) [
  | inl same ↦ rw (without_same e y es same) (omega (arith, weight-without-le list i e es))
  | inr other ↦ rw (without_other e y es other) (omega (arith, weight-without-le list i e es))
]

weight-without : (list : List Nogood) (i e : ℕ) (es : List ℕ) → Has e es → weight list i (without e es) + later list i e ≤ weight list i es
weight-without list i e [] has = absurd has
weight-without list i e (y ∷ es) has = elim (cases_eq y e) [
  | inl same ↦ let at : later list i y ≡ later list i e = ap (later list i) same in
      rw (without_same e y es same) (omega (arith, weight-without-le list i e es))
  | inr other ↦ rw (without_other e y es other) (elim has [
    | inl is ↦ absurd (other is)
    | inr rest ↦ omega (arith, weight-without list i e es rest)
  ])
]

to_match-without-le : (list : List Nogood) (i e : ℕ) (lists : List (List ℕ)) → to_match list i (map (without e) lists) ≤ to_match list i lists
to_match-without-le list i e [] = omega arith
to_match-without-le list i e (es ∷ lists) = omega (arith, weight-without-le list i e es, to_match-without-le list (suc i) e lists)

to_match-without : (list : List Nogood) (i e j : ℕ) (lists : List (List ℕ)) → Has e (entries_of lists j)
    → to_match list i (map (without e) lists) + later list (i + j) e ≤ to_match list i lists
to_match-without list i e j [] has = absurd has
to_match-without list i e zero (es ∷ lists) has =
    let at : later list (i + 0) e ≡ later list i e = ap (λ k. later list k e) (let z : i + 0 ≡ i = omega arith in z) in
    omega (arith, weight-without list i e es has, to_match-without-le list (suc i) e lists)
to_match-without list i e (suc j) (es ∷ lists) has =
    let at : later list (i + suc j) e ≡ later list (suc i + j) e = ap (λ k. later list k e) (let z : i + suc j ≡ suc i + j = omega arith in z) in
    omega (arith, weight-without-le list i e es, to_match-without list (suc i) e j lists has)

pub to_match-put : (list : List Nogood) (i e b : ℕ) (lists : List (List ℕ)) → b < length lists
    → to_match list i (put_first lists e b) ≡ to_match list i lists + later list (i + b) e
to_match-put list i e b [] within = absurd (omega arith)
to_match-put list i e zero (es ∷ lists) within =
    let at : later list (i + 0) e ≡ later list i e = ap (λ k. later list k e) (let z : i + 0 ≡ i = omega arith in z) in
    omega arith
to_match-put list i e (suc b) (es ∷ lists) within =
    let at : later list (i + suc b) e ≡ later list (suc i + b) e = ap (λ k. later list k e) (let z : i + suc b ≡ suc i + b = omega arith in z) in
    omega (arith, to_match-put list (suc i) e b lists (omega arith))

-- a move leaves fewer
pub to_match-moved : (list : List Nogood) (lists : List (List ℕ)) (e b to : ℕ) → Has e (entries_of lists b) → to < length lists
    → later list to e + 1 ≤ later list b e → to_match list 0 (moved lists e to) + 1 ≤ to_match list 0 lists
to_match-moved list lists e b to has within less =
    let out = to_match-without list 0 e b lists has in
    let put = to_match-put list 0 e to (map (without e) lists) (rw length-map within) in
    let zb : later list (0 + b) e ≡ later list b e = ap (λ k. later list k e) (let z : 0 + b ≡ b = omega arith in z) in
    let zt : later list (0 + to) e ≡ later list to e = ap (λ k. later list k e) (let z : 0 + to ≡ to = omega arith in z) in
    omega arith
