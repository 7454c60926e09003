-- Which blocks are exact in a box.
use Rattle.std.proofs.Common.{◌≡◌, ◌≢◌, ℕ, zero, suc, ◌+◌, List, [], ◌∷◌, ◌++◌, Option, Some, None, refl, ap, ◌∙◌, arith, ◌≤◌}
use Rattle.std.specs.Prelude.{slice_get, ◌==◌, if◌then◌else◌}
use Rattle.std.specs.List.{AllWithin}
use Rattle.std.proofs.lemmas.Bool.{eq-eqb, ne_eqb, cond-true, cond-false}
use Rattle.std.proofs.lemmas.Option.{none-some, same_Some, slice_get_within}
use Rattle.std.proofs.lemmas.List.Elements.{All-head, All-tail}
use Rattle.common_lists.proofs.ListLaws.{element_at}
use Rattle.plan_rule.specs.declared.literal.Literal.{Literal}
use Rattle.plan_rule.specs.Boxes.{LeavesFree, exact_code, IsAscending}

-- the code of a literal of one code
abbrev code_alone : Literal → Option ℕ
code_alone l = if l.hi == l.lo + 1 then Some l.lo else None

-- literals on other blocks say nothing of a block
pub passed : (xs ys : List Literal) (a : ℕ) → LeavesFree xs a → exact_code (xs ++ ys) a ≡ exact_code ys a
passed [] ys a free = refl
passed (l ∷ xs) ys a free =
    cond-false (l.block == a) (code_alone l) (exact_code (xs ++ ys) a) (ne_eqb l.block a (All-head (λ l. l.block ≢ a) l xs free))
    ∙ passed xs ys a (All-tail (λ l. l.block ≢ a) l xs free)

pub nothing_exact : (xs : List Literal) (a : ℕ) → LeavesFree xs a → exact_code xs a ≡ None
nothing_exact [] a free = refl
nothing_exact (l ∷ xs) a free =
    cond-false (l.block == a) (code_alone l) (exact_code xs a) (ne_eqb l.block a (All-head (λ l. l.block ≢ a) l xs free))
    ∙ nothing_exact xs a (All-tail (λ l. l.block ≢ a) l xs free)

pub in_front : (xs ys : List Literal) (a : ℕ) → LeavesFree ys a → exact_code (xs ++ ys) a ≡ exact_code xs a
in_front [] ys a free = nothing_exact ys a free
in_front (l ∷ xs) ys a free = ap (λ o. if l.block == a then code_alone l else o) (in_front xs ys a free)

-- the first literal on a block says whether it is exact
pub exact_first : (box : List Literal) (i b : ℕ) (l : Literal) → AllWithin (λ m. m.block ≢ b) box 0 i → slice_get box i ≡ Some l → l.block ≡ b
    → exact_code box b ≡ (if l.hi == l.lo + 1 then Some l.lo else None)
exact_first [] i b l none at on = absurd (none-some l at)
exact_first (m ∷ box) zero b l none at on =
    let same : m ≡ l = same_Some m l at in
    cond-true (m.block == b) (code_alone m) (exact_code box b) (eq-eqb m.block b (ap (λ (x : Literal). x.block) same ∙ on)) ∙ ap code_alone same
exact_first (m ∷ box) (suc i) b l none at on =
    cond-false (m.block == b) (code_alone m) (exact_code box b) (ne_eqb m.block b (none 0 m (omega arith) (omega arith)))
    ∙ exact_first box i b l (λ k d low high. none (suc k) d (omega arith) (omega arith)) at on

-- in ascending order no literal is past its block
pub place-le-block : (box : List Literal) (k : ℕ) (l : Literal) → IsAscending box → slice_get box k ≡ Some l → k ≤ l.block
place-le-block box zero l up at = omega arith
place-le-block box (suc k) l up at =
    let within = slice_get_within box (suc k) l at in
    let (m, here) = element_at box k (omega arith) in
    let low = place-le-block box k m up here in
    let less = up k (suc k) m l (omega arith) here at in
    omega arith
