-- Writing drawn blocks one after the other, as a loop does.
use Rattle.std.proofs.Common.{◌≡◌, ℕ, suc, ◌+◌, ◌-◌, ◌<◌, ◌≤◌, List, ◌++◌, refl, sym, ◌∙◌, append_assoc, arith}
use Rattle.std.proofs.lemmas.List.{append-nil}
use Rattle.yard_generator.specs.Draws.{after, block_at, blocks_from}
use Rattle.yard_generator.specs.Texts.{block_text, blocks_text}

pub blocks_more : (front total : List ℕ) (count i s t : ℕ) → i < count → t ≡ after 7 s
    → front ++ blocks_text i (blocks_from (count - i) s) ≡ total
    → (front ++ block_text i (block_at s)) ++ blocks_text (i + 1) (blocks_from (count - (i + 1)) t) ≡ total
unfolding blocks_from
blocks_more front total count i s t below state so_far =
    let left : count - i ≡ suc (count - (i + 1)) = omega arith in
    let rest = blocks_text (i + 1) (blocks_from (count - (i + 1)) (after 7 s)) in
    let one : front ++ blocks_text i (blocks_from (count - i) s) ≡ front ++ (block_text i (block_at s) ++ rest) = rw left refl in
    rw state (append_assoc front (block_text i (block_at s)) rest ∙ sym one ∙ so_far)

pub blocks_all : (front total : List ℕ) (count i s : ℕ) → count ≤ i → front ++ blocks_text i (blocks_from (count - i) s) ≡ total
    → front ≡ total
unfolding blocks_from
blocks_all front total count i s past so_far =
    let left : count - i ≡ 0 = omega arith in
    let one : front ++ blocks_text i (blocks_from (count - i) s) ≡ front = rw left (append-nil front) in
    sym one ∙ so_far
