-- Each of the fifty footprints that can be drawn is read as it stands.
use Rattle.std.proofs.Common.{◌≡◌, ℕ, zero, suc, ◌+◌, ◌*◌, ◌<◌, Ok, refl, arith}
use Rattle.shape_exact.specs.Reading.{shape_of}
use Rattle.yard_generator.specs.declared.draws.Drawn.{Drawn}
use Rattle.yard_generator.specs.Yards.{footprint}
use Rattle.yard_generator.proofs.DrawnLaws.{IsDrawn}

-- what holds of each number below 5, and below 2
five : (P : ℕ → Type 0) → P 0 → P 1 → P 2 → P 3 → P 4 → (k : ℕ) → k < 5 → P k
five P a b c d e zero l = a
five P a b c d e (suc zero) l = b
five P a b c d e (suc (suc zero)) l = c
five P a b c d e (suc (suc (suc zero))) l = d
five P a b c d e (suc (suc (suc (suc zero)))) l = e
five P a b c d e (suc (suc (suc (suc (suc k))))) l = absurd (omega arith)

two : (P : ℕ → Type 0) → P 0 → P 1 → (k : ℕ) → k < 2 → P k
two P a b zero l = a
two P a b (suc zero) l = b
two P a b (suc (suc k)) l = absurd (omega arith)

abbrev Reads : ℕ → ℕ → ℕ → Type 0
Reads k l c = shape_of (footprint (4 + 2 * k) (4 + 2 * l) (1 + c)) ≡ Ok (footprint (4 + 2 * k) (4 + 2 * l) (1 + c))

row_0_0 : (l : ℕ) → l < 5 → Reads 0 l 0
unfolding shape_of
row_0_0 = five (λ l. Reads 0 l 0) refl refl refl refl refl

row_1_0 : (l : ℕ) → l < 5 → Reads 1 l 0
unfolding shape_of
row_1_0 = five (λ l. Reads 1 l 0) refl refl refl refl refl

row_2_0 : (l : ℕ) → l < 5 → Reads 2 l 0
unfolding shape_of
row_2_0 = five (λ l. Reads 2 l 0) refl refl refl refl refl

row_3_0 : (l : ℕ) → l < 5 → Reads 3 l 0
unfolding shape_of
row_3_0 = five (λ l. Reads 3 l 0) refl refl refl refl refl

row_4_0 : (l : ℕ) → l < 5 → Reads 4 l 0
unfolding shape_of
row_4_0 = five (λ l. Reads 4 l 0) refl refl refl refl refl

row_0_1 : (l : ℕ) → l < 5 → Reads 0 l 1
unfolding shape_of
row_0_1 = five (λ l. Reads 0 l 1) refl refl refl refl refl

row_1_1 : (l : ℕ) → l < 5 → Reads 1 l 1
unfolding shape_of
row_1_1 = five (λ l. Reads 1 l 1) refl refl refl refl refl

row_2_1 : (l : ℕ) → l < 5 → Reads 2 l 1
unfolding shape_of
row_2_1 = five (λ l. Reads 2 l 1) refl refl refl refl refl

row_3_1 : (l : ℕ) → l < 5 → Reads 3 l 1
unfolding shape_of
row_3_1 = five (λ l. Reads 3 l 1) refl refl refl refl refl

row_4_1 : (l : ℕ) → l < 5 → Reads 4 l 1
unfolding shape_of
row_4_1 = five (λ l. Reads 4 l 1) refl refl refl refl refl

abbrev Row : ℕ → ℕ → Type 0
Row c k = (l : ℕ) → l < 5 → Reads k l c

shape_at : (k l c : ℕ) → k < 5 → l < 5 → c < 2 → Reads k l c
shape_at k l c below_k below_l below_c =
    two (λ c. Reads k l c)
    (five (Row 0) row_0_0 row_1_0 row_2_0 row_3_0 row_4_0 k below_k l below_l)
    (five (Row 1) row_0_1 row_1_1 row_2_1 row_3_1 row_4_1 k below_k l below_l)
    c below_c

-- the footprint of a drawn block
pub shape_drawn : (b : Drawn) → IsDrawn b → shape_of (footprint b.width b.height b.cut) ≡ Ok (footprint b.width b.height b.cut)
shape_drawn b is =
    let (k, below_k, wide) = is.wide in
    let (l, below_l, high) = is.high in
    let (c, below_c, cut) = is.cut in
    rw (wide, high, cut) (shape_at k l c below_k below_l below_c)
