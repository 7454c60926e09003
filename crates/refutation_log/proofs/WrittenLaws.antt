-- A list that is written with a comma before each further element.
use Rattle.std.proofs.Common.{◌≡◌, ℕ, ◌-◌, ◌<◌, ◌≤◌, List, [], ◌∷◌, ◌++◌, length, get_or, take, drop, map, refl, sym, ap, ◌∙◌, append_assoc, arith}
use Rattle.std.specs.Fmt.{decimal}
use Rattle.std.specs.List.{flat_map, join_with_byte}
use Rattle.std.proofs.lemmas.List.{append-nil, take_all}
use Rattle.plan_rule.specs.declared.literal.Literal.{Literal}
use Rattle.refutation_log.specs.Spelling.{literal_text, side_text, cites_text}

joined_text : {X : Type 0} (text : X → List ℕ) (x : X) (xs : List X) → join_with_byte 44 (map text (x ∷ xs)) ≡ text x ++ flat_map (λ y. 44 ∷ text y) xs
joined_text text x [] = sym (append-nil (text x))
joined_text text x (y ∷ ys) = ap (λ (s : List ℕ). text x ++ 44 ∷ s) (joined_text text y ys)

pub side_empty : (xs : List Literal) → length xs < 1 → side_text xs ≡ 45 ∷ []
unfolding side_text
side_empty [] none = refl
side_empty (x ∷ xs) none = absurd (omega arith)

pub side_cons : (out : List ℕ) (xs : List Literal) (d : Literal) → 1 ≤ length xs
    → (out ++ literal_text (get_or xs 0 d)) ++ flat_map (λ y. 44 ∷ literal_text y) (take (length xs - 1) (drop 1 xs)) ≡ out ++ side_text xs
unfolding side_text
side_cons out [] d some = absurd (omega arith)
side_cons out (x ∷ xs) d some =
    let all : take (length (x ∷ xs) - 1) xs ≡ xs = take_all (length (x ∷ xs) - 1) xs (omega arith) in
    rw all (append_assoc out (literal_text x) (flat_map (λ y. 44 ∷ literal_text y) xs) ∙ ap (λ (s : List ℕ). out ++ s) (sym (joined_text literal_text x xs)))

pub cites_empty : (xs : List ℕ) → length xs < 1 → cites_text xs ≡ 45 ∷ []
unfolding cites_text
cites_empty [] none = refl
cites_empty (x ∷ xs) none = absurd (omega arith)

pub cites_cons : (out : List ℕ) (xs : List ℕ) (d : ℕ) → 1 ≤ length xs
    → (out ++ decimal (get_or xs 0 d)) ++ flat_map (λ y. 44 ∷ decimal y) (take (length xs - 1) (drop 1 xs)) ≡ out ++ cites_text xs
unfolding cites_text
cites_cons out [] d some = absurd (omega arith)
cites_cons out (x ∷ xs) d some =
    let all : take (length (x ∷ xs) - 1) xs ≡ xs = take_all (length (x ∷ xs) - 1) xs (omega arith) in
    rw all (append_assoc out (decimal x) (flat_map (λ y. 44 ∷ decimal y) xs) ∙ ap (λ (s : List ℕ). out ++ s) (sym (joined_text decimal x xs)))
