-- Which codes of a stretch clash with exact blocks, by bits, and what is kept of it.
use Rattle.std.specs.Prelude.{◌≡◌, ℕ, ◌+◌, ◌-◌, ◌*◌, ◌/◌, ◌%◌, ◌<◌, ◌≤◌, pos, List, All, IfSome, ◌↔◌}
use Rattle.std.specs.Int.{bit_at}
use Rattle.shape_exact.specs.Yards.{PlainYard}
use Rattle.shape_exact.specs.Separation.{way}
use Rattle.code_table.specs.declared.stretch.Stretch.{Stretch}
use Rattle.code_table.specs.Stretches.{nth_place}
use Rattle.log_checker.specs.declared.exact.Exact.{Exact}
use Rattle.log_checker.specs.declared.offset.Offset.{Offset}
use Rattle.log_checker.specs.declared.mask.Beside.{Beside}
use Rattle.log_checker.specs.declared.mask.Mask.{Mask}
use Rattle.log_checker.specs.declared.mask.Masks.{Masks}
use Rattle.log_checker.specs.declared.part.Part.{Part}
use Rattle.log_checker.specs.ExactBlocks.{ClashesWithOne}
use Rattle.log_checker.specs.Offsets.{AreSoApart, offset_of}

-- the codes from one number up to, and without, another, beside an exact block
abbrev pub beside_of : Exact → ℕ → Stretch → ℕ → ℕ → Beside
beside_of f b s lo hi = record {
  first = f.block;
  first_turn = f.place.turn;
  y = f.place.y;
  x = f.place.x;
  second = b;
  second_turn = s.place.turn;
  columns = s.columns;
  pitch = s.pitch;
  skipped = lo - s.lo;
  count = hi - lo;
}

-- the offset of the n-th position from the exact block
abbrev pub nth_offset : Beside → ℕ → Offset
nth_offset o n = record {
  first = o.first;
  first_turn = o.first_turn;
  second = o.second;
  second_turn = o.second_turn;
  way = way (record { x = pos o.x; y = pos o.y }) (record { x = pos (n % o.columns * o.pitch); y = pos (n / o.columns * o.pitch) });
}

-- the bits of so many codes from lo on are 0 where the footprints are apart
abbrev pub TellApart : PlainYard → Exact → ℕ → Stretch → ℕ → ℕ → ℕ → Type 0
TellApart yard f b s lo n bits =
    (i : ℕ) → i < n → (bit_at bits i ≡ 0) ↔ AreSoApart yard (offset_of f b (nth_place s (lo + i)))

-- the bits of so many codes from lo on are 1 where the placement clashes with one of the exact blocks
abbrev pub TellClash : PlainYard → List Exact → ℕ → Stretch → ℕ → ℕ → ℕ → Type 0
TellClash yard exacts b s lo n bits =
    (i : ℕ) → i < n → (bit_at bits i ≡ 1) ↔ ClashesWithOne yard exacts b (nth_place s (lo + i))

-- the codes are of the stretch, at most 64, and the bits tell which of them clash
pub record IsPart (yard : PlainYard) (exacts : List Exact) (b : ℕ) (s : Stretch) (part : Part) : Type 0 where
  pub from : s.lo ≤ part.lo
  pub to : part.hi ≤ s.hi
  pub few : part.hi ≤ part.lo + 64
  pub bits : TellClash yard exacts b s part.lo (part.hi - part.lo) part.bits

-- what a mask tells is so
abbrev pub IsTold : PlainYard → Mask → Type 0
IsTold yard m =
    (i : ℕ) → i < m.of.count → (bit_at m.bits i ≡ 0) ↔ AreSoApart yard (nth_offset m.of (m.of.skipped + i))

-- and so is all that is kept
abbrev pub AreTold : PlainYard → Masks → Type 0
AreTold yard masks = All (λ o. IfSome o (IsTold yard)) masks.found.items
