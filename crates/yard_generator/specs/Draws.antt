-- The numbers that are drawn from a seed, and the blocks that they give.
use Rattle.std.specs.Prelude.{ℕ, zero, suc, ◌+◌, ◌*◌, ◌/◌, ◌%◌, List, [], ◌∷◌}
use Rattle.yard_generator.specs.declared.draws.Drawn.{Drawn}

-- the state after a draw
unfoldable pub next : ℕ → ℕ
next state = (state * 1103515245 + 12345) % 2147483648

-- the state after so many draws
abbrev pub after : ℕ → ℕ → ℕ
after zero state = state
after (suc n) state = next (after n state)

-- the number below m that a state gives
abbrev pub drawn : ℕ → ℕ → ℕ
drawn state m = (state / 65536) % m

-- the block of seven states
abbrev pub block_of : ℕ → ℕ → ℕ → ℕ → ℕ → ℕ → ℕ → Drawn
block_of w h c d r e g = record {
  width = 4 + 2 * drawn w 5;
  height = 4 + 2 * drawn h 5;
  cut = 1 + drawn c 2;
  duration = 1 + drawn d 5;
  release = drawn r 20;
  due = drawn r 20 + 60 + drawn e 20;
  weight = 1 + drawn g 9;
}

-- the block that is drawn from this state on
unfoldable pub block_at : ℕ → Drawn
block_at s = block_of (after 1 s) (after 2 s) (after 3 s) (after 4 s) (after 5 s) (after 6 s) (after 7 s)

-- so many blocks, drawn from this state on
unfoldable pub blocks_from : ℕ → ℕ → List Drawn
blocks_from zero s = []
blocks_from (suc n) s = block_at s ∷ blocks_from n (after 7 s)
