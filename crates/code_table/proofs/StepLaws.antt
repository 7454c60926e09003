-- A grid's rows and columns: how many steps fit, and where they stand.
use Rattle.std.proofs.Common.{◌≡◌, ℕ, ◌+◌, ◌-◌, ◌*◌, ◌/◌, ◌%◌, ◌≤◌, ◌<◌, List, [], ◌∷◌, ◌++◌, length, refl, ap, ◌∙◌, arith, Bool, true, false}
use Rattle.std.specs.Prelude.{nat_le}
use Rattle.std.proofs.lemmas.List.{append-nil}
use Rattle.std.proofs.lemmas.Bool.{le-leb, lt-leb}
use Rattle.std.proofs.lemmas.Nat.{div-add-mod', mod_below, mul-le}
use Rattle.common_lists.specs.Each.{each, when}
use Rattle.common_lists.proofs.EachLaws.{each-add, each_agree, each-nil, length-each, sum_below-const, when_false}
use Rattle.code_table.specs.Placements.{at_step, each_step}

when_true : {A : Type 0} (b : Bool) (xs : List A) → b ≡ true → when b xs ≡ xs
when_true true xs e = refl
when_true false xs e = cc

-- where there is room, the steps are the first multiples
pub each_step-fits : {A : Type 0} (pitch long size : ℕ) (f : ℕ → List A) → 0 < pitch → long ≤ size
    → each_step pitch long size f ≡ each ((size - long) / pitch + 1) (λ k. f (k * pitch))
each_step-fits pitch long size f p room =
    let q : ℕ = (size - long) / pitch in
    let whole : q * pitch + (size - long) % pitch ≡ size - long = div-add-mod' (size - long) pitch in
    let small : (size - long) % pitch < pitch = mod_below (size - long) pitch p in
    let few : q ≤ size = let h = mul-le q 1 q pitch (omega arith) (omega arith) in omega arith in
    let n : ℕ = q + 1 in
    let r : ℕ = size - q in
    let all : size + 1 ≡ n + r = omega arith in
    ap (λ m. each m (at_step pitch long size f)) all
    ∙ each-add n r (at_step pitch long size f)
    ∙ ap (λ xs. each n (at_step pitch long size f) ++ xs)
    (each_agree r (λ i. at_step pitch long size f (n + i)) (λ i. [])
    (λ i l. when_false (nat_le ((n + i) * pitch + long) size) (f ((n + i) * pitch))
    (let h = mul-le n pitch (n + i) pitch (omega arith) (omega arith) in lt-leb _ _ (omega arith)))
    ∙ each-nil r)
    ∙ append-nil (each n (at_step pitch long size f))
    ∙ each_agree n (at_step pitch long size f) (λ k. f (k * pitch))
    (λ i l. when_true (nat_le (i * pitch + long) size) (f (i * pitch))
    (let h = mul-le i pitch q pitch (omega arith) (omega arith) in le-leb _ _ (omega arith)))

-- where there is none, there are no steps
pub each_step-none : {A : Type 0} (pitch long size : ℕ) (f : ℕ → List A) → size < long → each_step pitch long size f ≡ []
each_step-none pitch long size f l =
    each_agree (size + 1) (at_step pitch long size f) (λ k. [])
    (λ k m. when_false (nat_le (k * pitch + long) size) (f (k * pitch)) (lt-leb _ _ (omega arith)))
    ∙ each-nil (size + 1)

pub length-one : {A : Type 0} (n : ℕ) (f : ℕ → A) → length (each n (λ k. f k ∷ [])) ≡ n
length-one n f = length-each n (λ k. f k ∷ []) ∙ sum_below-const n 1 (λ k. length (f k ∷ [])) (λ i l. refl) ∙ (let e : n * 1 ≡ n = omega arith in e)
