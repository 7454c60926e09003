-- What is drawn of a block is within its limits.
use Rattle.std.proofs.Common.{◌≡◌, ℕ, zero, suc, ◌+◌, ◌*◌, ◌<◌, ◌≤◌, ◌/◌, length, refl, ap, lit<, arith}
use Rattle.std.specs.List.{AllByRecursion}
use Rattle.std.proofs.lemmas.Nat.{mod_below}
use Rattle.yard_generator.specs.declared.draws.Drawn.{Drawn}
use Rattle.yard_generator.specs.Draws.{after, drawn, block_of, block_at, blocks_from}

pub record IsDrawn (b : Drawn) : Type 0 where
  pub wide : (k : ℕ) × (k < 5) × (b.width ≡ 4 + 2 * k)
  pub high : (k : ℕ) × (k < 5) × (b.height ≡ 4 + 2 * k)
  pub cut : (k : ℕ) × (k < 2) × (b.cut ≡ 1 + k)
  pub duration : (1 ≤ b.duration) × (b.duration ≤ 5)
  pub release : b.release < 20
  pub due : b.due < 100
  pub weight : (1 ≤ b.weight) × (b.weight ≤ 9)

block_is : (w h c d r e g : ℕ) → IsDrawn (block_of w h c d r e g)
block_is w h c d r e g =
    let a : drawn w 5 < 5 = mod_below (w / 65536) 5 (lit< tt) in
    let b : drawn h 5 < 5 = mod_below (h / 65536) 5 (lit< tt) in
    let i : drawn c 2 < 2 = mod_below (c / 65536) 2 (lit< tt) in
    let j : drawn d 5 < 5 = mod_below (d / 65536) 5 (lit< tt) in
    let k : drawn r 20 < 20 = mod_below (r / 65536) 20 (lit< tt) in
    let l : drawn e 20 < 20 = mod_below (e / 65536) 20 (lit< tt) in
    let m : drawn g 9 < 9 = mod_below (g / 65536) 9 (lit< tt) in
    record {
      wide = (drawn w 5, a, refl);
      high = (drawn h 5, b, refl);
      cut = (drawn c 2, i, refl);
      duration = (omega arith, omega (arith, j));
      release = k;
      due = omega (arith, k, l);
      weight = (omega arith, omega (arith, m));
    }

at_is : (s : ℕ) → IsDrawn (block_at s)
unfolding block_at
at_is s = block_is (after 1 s) (after 2 s) (after 3 s) (after 4 s) (after 5 s) (after 6 s) (after 7 s)

-- each drawn block is so
pub blocks_are : (n s : ℕ) → AllByRecursion IsDrawn (blocks_from n s)
unfolding blocks_from
blocks_are zero s = tt
blocks_are (suc n) s = (at_is s, blocks_are n (after 7 s))

-- and there are as many as are asked for
pub blocks_count : (n s : ℕ) → length (blocks_from n s) ≡ n
unfolding blocks_from
blocks_count zero s = refl
blocks_count (suc n) s = ap suc (blocks_count n (after 7 s))
