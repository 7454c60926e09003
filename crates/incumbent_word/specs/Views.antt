-- What a seat knows, and how a step changes it.
use Rattle.std.specs.Prelude.{ℕ, ◌+◌, true, false, List, [], ◌∷◌, ◌++◌, Option, None, replicate, slice_index, slice_set}
use Rattle.shape_exact.specs.Yards.{PlainYard}
use Rattle.incumbent_word.specs.declared.rule.View.{View}

-- no find in any of the 16 slots
abbrev pub no_finds : List ℕ
no_finds = replicate 16 0

-- one find more in a slot
abbrev pub one_more : List ℕ → ℕ → List ℕ
one_more finds slot = slice_set finds slot (slice_index finds slot + 1)

-- the finds of two seats, slot by slot
abbrev pub sums : List ℕ → List ℕ → List ℕ
sums [] ys = []
sums (x ∷ xs) [] = x ∷ xs
sums (x ∷ xs) (y ∷ ys) = (x + y) ∷ sums xs ys

-- a seat that knows its yard alone
abbrev pub fresh : PlainYard → View
fresh yard = record { live = true; yard = yard; seen = []; offered = []; turn = None; taken = no_finds; empty = no_finds }

-- a seat that was joined to another
abbrev pub spent : View
spent = record {
  live = false;
  yard = record { days = 0; plates = []; blocks = []; fixed = [] };
  seen = [];
  offered = [];
  turn = None;
  taken = [];
  empty = [];
}

-- one key more was seen
abbrev pub saw : View → ℕ → View
saw v n = record { live = v.live; yard = v.yard; seen = v.seen ++ n ∷ []; offered = v.offered; turn = v.turn; taken = v.taken; empty = v.empty }

-- one plan more was offered
abbrev pub offered_too : View → List ℕ → View
offered_too v plan = record { live = v.live; yard = v.yard; seen = v.seen; offered = v.offered ++ plan ∷ []; turn = v.turn; taken = v.taken; empty = v.empty }

-- the turn of this word is held, or none
abbrev pub at_turn : View → Option ℕ → View
at_turn v turn = record { live = v.live; yard = v.yard; seen = v.seen; offered = v.offered; turn = turn; taken = v.taken; empty = v.empty }

-- the turn of the slot was found taken once more
abbrev pub found_taken : View → ℕ → View
found_taken v slot = record { live = v.live; yard = v.yard; seen = v.seen; offered = v.offered; turn = v.turn; taken = one_more v.taken slot; empty = v.empty }

-- the slot was found empty once more
abbrev pub found_empty : View → ℕ → View
found_empty v slot = record { live = v.live; yard = v.yard; seen = v.seen; offered = v.offered; turn = v.turn; taken = v.taken; empty = one_more v.empty slot }

-- a new seat beside this one
abbrev pub apart_of : View → View
apart_of v = record { live = v.live; yard = v.yard; seen = v.seen; offered = []; turn = None; taken = no_finds; empty = no_finds }

-- what two seats know together
abbrev pub both_of : View → View → View
both_of v w = record {
  live = v.live;
  yard = v.yard;
  seen = v.seen ++ w.seen;
  offered = v.offered ++ w.offered;
  turn = v.turn;
  taken = sums v.taken w.taken;
  empty = sums v.empty w.empty;
}
