-- What is read is spelled so, and what is spelled so is read: fields and lists.
use Rattle.std.proofs.Common.{◌≡◌, ℕ, ◌+◌, ◌%◌, mod-lt, lit<, ◌^◌, ◌<◌, ◌≤◌, List, [], ◌∷◌, ◌++◌, Option, Some, refl, ap, subst, ◌∙◌, arith}
use Rattle.std.specs.Fmt.{decimal}
use Rattle.std.specs.List.{AllByRecursion}
use Rattle.std.proofs.lemmas.Bool.Decides.{nat_tests}
use Rattle.std.proofs.lemmas.Option.{same_Some}
use Rattle.std.proofs.lemmas.Fmt.{decimal_by_steps}
use Rattle.text_parts.specs.Parts.{◌>>=◌, cut, field}
use Rattle.text_parts.proofs.OptionLaws.{bind_some}
use Rattle.text_parts.proofs.CutLaws.{Lacks, cut-takes, cut-again}

-- ---- bytes between two bounds

abbrev pub Within : ℕ → ℕ → List ℕ → Type 0
Within low high text = AllByRecursion (λ b. (low ≤ b) × (b ≤ high)) text

pub within_append : (low high : ℕ) (xs ys : List ℕ) → Within low high xs → Within low high ys → Within low high (xs ++ ys)
within_append low high [] ys h k = k
within_append low high (x ∷ xs) ys h k = (h.0, within_append low high xs ys h.1 k)

pub within_wider : (low high l h : ℕ) (text : List ℕ) → l ≤ low → high ≤ h → Within low high text → Within l h text
within_wider low high l h [] le ge w = tt
within_wider low high l h (b ∷ bs) le ge w = ((omega (arith, w.0), omega (arith, w.0)), within_wider low high l h bs le ge w.1)

pub lacks_below : (sep low high : ℕ) (text : List ℕ) → sep < low → Within low high text → Lacks sep text
lacks_below sep low high [] lt w = tt
lacks_below sep low high (b ∷ bs) lt w = (grind (arith, nat_tests, w.0), lacks_below sep low high bs lt w.1)

pub lacks_above : (sep low high : ℕ) (text : List ℕ) → high < sep → Within low high text → Lacks sep text
lacks_above sep low high [] lt w = tt
lacks_above sep low high (b ∷ bs) lt w = (grind (arith, nat_tests, w.0), lacks_above sep low high bs lt w.1)

pub decimal_within : (n : ℕ) → n < 2 ^ 64 → Within 48 57 (decimal n)
decimal_within n wide = decimal_by_steps (λ m ds. Within 48 57 ds) (λ m small. ((omega arith, omega arith), tt)) (λ m ds large h. within_append 48 57 ds ((48 + m % 10) ∷ []) h ((omega arith, omega (arith, mod-lt m {m = 10} (lit< tt))), tt)) n wide

-- ---- fields

pub field-takes : {X : Type 0} (read : List ℕ → Option X) (text : X → List ℕ) (P : X → Type 0) → ((t : List ℕ) (x : X) → read t ≡ Some x → (t ≡ text x) × P x)
    → (sep : ℕ) (bs : List ℕ) (y : X × List ℕ) → field read sep bs ≡ Some y → (bs ≡ text y.0 ++ sep ∷ y.1) × P y.0
field-takes {X} read text P takes sep bs y e =
    let (p, cuts, more) = bind_some (cut sep bs) (λ p. read p.0 >>= λ x. Some (x, p.1)) y e in
    let (x, found, made) = bind_some (read p.0) (λ x. Some (x, p.1)) y more in
    let t = takes p.0 x found in
    let whole = (cut-takes sep bs p cuts).whole in
    subst (λ (z : X × List ℕ). (bs ≡ text z.0 ++ sep ∷ z.1) × P z.0) (same_Some (x, p.1) y made) (whole ∙ ap (λ (s : List ℕ). s ++ sep ∷ p.1) t.0, t.1)

pub field-again : {X : Type 0} (read : List ℕ → Option X) (front : List ℕ) (x : X) (sep : ℕ) (rest : List ℕ) → Lacks sep front → read front ≡ Some x → field read sep (front ++ sep ∷ rest) ≡ Some (x, rest)
field-again read front x sep rest lacks found = rw (cut-again sep front rest lacks, found) refl
