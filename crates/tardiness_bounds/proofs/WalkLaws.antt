-- The steps of a walk over the free codes of a block.
use Rattle.std.proofs.Common.{◌≡◌, ℕ, ◌+◌, ◌-◌, ◌*◌, ◌/◌, ◌%◌, ◌<◌, ◌≤◌, List, length, Option, Some, None, sym, ap, ◌∙◌, subst, arith, inl, inr, add-one}
use Rattle.std.specs.Prelude.{slice_get, All, IfNone, IfSome, is_some, true, false}
use Rattle.std.proofs.lemmas.Bool.{cases_lt, false≢true}
use Rattle.std.proofs.lemmas.Nat.{div-mul-add, mod-mul-add, mul-le}
use Rattle.std.proofs.lemmas.Option.{same_Some}
use Rattle.common_lists.proofs.ListLaws.{element_at}
use Rattle.shape_exact.specs.Yards.{PlainYard, IsYard}
use Rattle.shape_exact.specs.declared.block.Block.{Block}
use Rattle.code_table.specs.declared.placement.Placement.{Placement}
use Rattle.code_table.specs.declared.stretch.Stretch.{Stretch}
use Rattle.code_table.specs.Orders.{AreAscending, ComesBefore}
use Rattle.code_table.specs.Placements.{cost_at, cost_on, placements}
use Rattle.code_table.specs.Stretches.{IsStretch, nth_place}
use Rattle.code_table.proofs.PlacedLaws.{placed-facts}
use Rattle.code_table.proofs.StandLaws.{placements-of}
use Rattle.code_table.proofs.SpotLaws.{in_range}
use Rattle.code_table.proofs.ReadLaws.{block_limits}
use Rattle.lattice_free.specs.Clear.{AreClear}
use Rattle.lattice_free.specs.Runs.{place}
use Rattle.tardiness_bounds.specs.declared.stand.Stand.{Stand}
use Rattle.tardiness_bounds.specs.declared.standing.Standing.{Standing}
use Rattle.tardiness_bounds.specs.declared.walk.Walk.{Walk}
use Rattle.tardiness_bounds.specs.Firsts.{HasNone, IsFirst, IsOnFrom}
use Rattle.tardiness_bounds.specs.Neighbours.{IsClearOfNear, obstacles_of}
use Rattle.tardiness_bounds.specs.Nexts.{IsCheap}
use Rattle.tardiness_bounds.specs.Stands.{IsGround, IsOnStand, IsStand, code_on, place_on}
use Rattle.tardiness_bounds.specs.Standings.{IsStanding}
use Rattle.tardiness_bounds.specs.Walks.{AreDear, IsAt, IsEntered, IsFound, IsFreeBeside, IsHere, IsPast, IsWalk}
use Rattle.tardiness_bounds.proofs.ClashLaws.{clear_near, near_clear}

-- rows and columns are in the order of their codes
on_code : (c row column j k : ℕ) → column ≤ c → k < c → row * c + column ≤ j * c + k → IsOnFrom row column j k
on_code c row column j k small within l = elim (cases_lt row j) [
  | inl less ↦ inl less
  | inr more ↦ elim (cases_lt j row) [
    | inl before ↦ absurd (let m = mul-le (j + 1) c row c (omega arith) (omega arith) in let e : (j + 1) * c ≡ j * c + c = one_row j c in omega arith)
    | inr other ↦
        let same : row ≡ j = omega arith in
        let e = ap (λ r. r * c) same in
        inr (same, omega arith)
  ]
]
  where
    one_row : (j c : ℕ) → (j + 1) * c ≡ j * c + c
    one_row j c = rw add-one (omega arith)

code_from : (c row column j k : ℕ) → column ≤ c → IsOnFrom row column j k → row * c + column ≤ j * c + k
code_from c row column j k small (inl less) =
    let m = mul-le (row + 1) c j c (omega arith) (omega arith) in let e : (row + 1) * c ≡ row * c + c = next_row row c in omega arith
  where
    next_row : (j c : ℕ) → (j + 1) * c ≡ j * c + c
    next_row j c = rw add-one (omega arith)
code_from c row column j k small (inr (same, l)) = let e = ap (λ r. r * c) same in omega arith

-- a code of a stand is free where its position is clear
free_on : (yard : PlainYard) (b : ℕ) (s : Stand) (j k : ℕ) → IsGround yard b s → IsOnStand s j k
    → AreClear (obstacles_of yard (b * 4 + s.stretch.place.turn) s.near.items) (place s.lattice.pitch j k) → IsFreeBeside yard s.near.items b (code_on s j k)
free_on yard b s j k g on clear = (place_on s j k, g.grid.at j k on, clear)

clear_on : (yard : PlainYard) (b : ℕ) (s : Stand) (j k : ℕ) → IsGround yard b s → IsOnStand s j k → IsFreeBeside yard s.near.items b (code_on s j k)
    → AreClear (obstacles_of yard (b * 4 + s.stretch.place.turn) s.near.items) (place s.lattice.pitch j k)
clear_on yard b s j k g on (p, at, clear) =
    subst (IsClearOfNear yard s.near.items b) (same_Some p (place_on s j k) (sym at ∙ g.grid.at j k on)) clear

-- no position from where the walk is is clear
pub find_none : (yard : PlainYard) (b : ℕ) (w : Walk) → IsGround yard b w.stand → IsAt w
    → ((j k : ℕ) → j < w.stand.lattice.rows → k < w.stand.lattice.columns → IsOnFrom w.row w.column j k
    → AreClear (obstacles_of yard (b * 4 + w.stand.stretch.place.turn) w.stand.near.items) (place w.stand.lattice.pitch j k) → ⊥)
    → HasNone (IsFreeBeside yard w.stand.near.items b) w.from w.stand.stretch.hi
find_none yard b w g at none x low high free =
    let e = at.code in
    let (j, k, on, is) = g.grid.each x (omega arith) high in
    none j k on.0 on.1 (on_code w.stand.lattice.columns w.row w.column j k at.column on.1 (omega arith))
    (clear_on yard b w.stand j k g on (subst (IsFreeBeside yard w.stand.near.items b) is free))

-- the first position that is clear has the next free code
pub find_some : (yard : PlainYard) (b : ℕ) (w : Walk) (row column : ℕ) → IsGround yard b w.stand → IsAt w → IsOnStand w.stand row column
    → IsOnFrom w.row w.column row column
    → AreClear (obstacles_of yard (b * 4 + w.stand.stretch.place.turn) w.stand.near.items) (place w.stand.lattice.pitch row column)
    → ((j k : ℕ) → j < w.stand.lattice.rows → k < w.stand.lattice.columns → IsOnFrom w.row w.column j k
    → AreClear (obstacles_of yard (b * 4 + w.stand.stretch.place.turn) w.stand.near.items) (place w.stand.lattice.pitch j k) → IsOnFrom row column j k)
    → IsFirst (IsFreeBeside yard w.stand.near.items b) w.from w.stand.stretch.hi (Some (code_on w.stand row column))
find_some yard b w row column g at on from clear first =
    let e = at.code in
    let later = code_from w.stand.lattice.columns w.row w.column row column at.column from in (
      omega arith,
      g.grid.within row column on,
      free_on yard b w.stand row column g on clear,
      λ x low high free.
          let inside = g.grid.within row column on in
          let (j, k, spot, is) = g.grid.each x (omega arith) (omega arith) in
          let there = on_code w.stand.lattice.columns w.row w.column j k at.column spot.1 (omega arith) in
          let after = first j k spot.0 spot.1 there (clear_on yard b w.stand j k g spot (subst (IsFreeBeside yard w.stand.near.items b) is free)) in
          let more = code_from w.stand.lattice.columns row column j k (let o = on.1 in omega arith) after in
          omega arith,
    )

-- the codes of a stretch share their start, end, plate and turn
of_stretch : (yard : PlainYard) (b : ℕ) (s : Stand) (x : ℕ) (p : Placement) → IsGround yard b s → s.stretch.lo ≤ x → x < s.stretch.hi
    → slice_get (placements yard b) x ≡ Some p → (j : ℕ) × (k : ℕ) × (p ≡ place_on s j k)
of_stretch yard b s x p g low high at =
    let (j, k, on, is) = g.grid.each x low high in
    (j, k, same_Some p (place_on s j k) (sym at ∙ ap (slice_get (placements yard b)) is ∙ g.grid.at j k on))

-- a free code of a stand whose codes cost little enough is open, and the other way round
pub free_cheap : (yard : PlainYard) (list : List Standing) (b most : ℕ) (w : Walk) (x : ℕ) → b < length yard.blocks → All (IsStanding yard) list
    → IsEntered yard list b most w → w.stand.stretch.lo ≤ x → x < w.stand.stretch.hi
    → IsFreeBeside yard w.stand.near.items b x → IsCheap yard list b most x
free_cheap yard list b most w x l standing h low high (p, at, clear) =
    let (block, block_is) = element_at yard.blocks b l in
    let g = h.stand.ground in
    let (j, k, is) = of_stretch yard b w.stand x p g low high at in
    let facts = placed-facts yard block x p (ap (λ ps. slice_get ps x) (sym (placements-of yard b block block_is)) ∙ at) in
    let end : p.end ≡ w.stand.stretch.place.end = ap (λ (p : Placement). p.end) is in
    let cost : cost_at block p ≡ cost_on block w.stand.stretch.place.end = ap (cost_on block) end in
    let cheap = h.cheap block block_is in (
      p,
      at,
      record {
        block = block;
        block_is = block_is;
        placement = facts;
        clear = near_clear yard list w.stand.near.items b w.stand.stretch.place p h.stand.near standing l facts.turn
            (sym (ap (λ (p : Placement). p.plate) is), sym (ap (λ (p : Placement). p.start) is), sym end) clear;
        cheap = omega arith;
      },
    )

pub cheap_free : (yard : PlainYard) (list : List Standing) (b most : ℕ) (w : Walk) (x : ℕ) → b < length yard.blocks → All (IsStanding yard) list
    → IsEntered yard list b most w → w.stand.stretch.lo ≤ x → x < w.stand.stretch.hi
    → IsCheap yard list b most x → IsFreeBeside yard w.stand.near.items b x
cheap_free yard list b most w x l standing h low high (p, at, open_p) =
    let (j, k, is) = of_stretch yard b w.stand x p h.stand.ground low high at in (
      p,
      at,
      clear_near yard list w.stand.near.items b w.stand.stretch.place p h.stand.near standing l open_p.placement.turn
          (sym (ap (λ (p : Placement). p.plate) is), sym (ap (λ (p : Placement). p.start) is), sym (ap (λ (p : Placement). p.end) is)) open_p.clear,
    )

-- a walk within its stand is at or past the stand's first code
low_at : (w : Walk) → IsAt w → w.stand.stretch.lo ≤ w.from
low_at w at = let e = at.code in omega arith

-- the answers of a step: none of the stand is left
pub step_none : (yard : PlainYard) (list : List Standing) (b most from : ℕ) (w new : Walk) → b < length yard.blocks → All (IsStanding yard) list
    → IsHere yard list b most from w → new.stand ≡ w.stand → new.from ≡ w.stand.stretch.hi
    → HasNone (IsFreeBeside yard w.stand.near.items b) w.from w.stand.stretch.hi → IsPast yard list b most from new
step_none yard list b most from w new l standing h stand end none =
    let same = h.same in
    let within = h.within in
    let hi = ap (λ (s : Stand). s.stretch.hi) stand in
    let all = h.entered.stand.ground.grid.all in
    let low = low_at w h.entered.at in
    record {
      onward = omega arith;
      within = omega arith;
      done = omega arith;
      none = λ x from_x below cheap. none x (omega arith) (omega arith) (cheap_free yard list b most w x l standing h.entered (omega arith) (omega arith) cheap);
    }

-- or a code was found
pub step_some : (yard : PlainYard) (list : List Standing) (b most from c : ℕ) (w new : Walk) → b < length yard.blocks → All (IsStanding yard) list
    → IsHere yard list b most from w → new.stand ≡ w.stand → (new.from ≡ c + 1) × IsAt new
    → IsFirst (IsFreeBeside yard w.stand.near.items b) w.from w.stand.stretch.hi (Some c) → IsFound yard list b most from c new
step_some yard list b most from c w new l standing h stand (next, at) (low, high, free, none) =
    let same = h.same in
    let all = h.entered.stand.ground.grid.all in
    let start = low_at w h.entered.at in
    record {
      first = (
        omega arith,
        omega arith,
        free_cheap yard list b most w c l standing h.entered (omega arith) high free,
        λ x from_x below cheap. none x (omega arith) below (cheap_free yard list b most w x l standing h.entered (omega arith) (omega arith) cheap),
      );
      from_is = next;
      walk = λ inside. record {
        stand = subst (IsStand yard list b) (sym stand) h.entered.stand;
        cheap = subst (λ (s : Stand). (block : Block) → slice_get yard.blocks b ≡ Some block → cost_on block s.stretch.place.end ≤ most) (sym stand) h.entered.cheap;
        at = at;
      };
    }

-- a start after which all codes cost too much
pub dear_start : (yard : PlainYard) (b most : ℕ) (s : Stretch) (block : Block) → IsYard yard → slice_get yard.blocks b ≡ Some block → AreAscending (placements yard b)
    → IsStretch (placements yard b) s → s.lo < s.hi → most < block.weight * (s.place.start - block.due) → AreDear yard b most s.lo (length (placements yard b))
dear_start yard b most s block y block_is up is some dear x p other low high at other_is =
    let same : other ≡ block = same_Some other block (sym other_is ∙ block_is) in
    let facts = placed-facts yard block x p (ap (λ ps. slice_get ps x) (sym (placements-of yard b block block_is)) ∙ at) in
    let order = (in_range yard block p y (block_limits yard b block y block_is) facts).order in
    let cost : cost_at other p ≡ cost_at block p = ap (λ (block : Block). cost_at block p) same in
    let starts : s.place.start ≤ p.start = elim (cases_lt s.lo x) [
      | inl later ↦ started (nth_place s s.lo) p (up s.lo x (nth_place s s.lo) p later (is.each s.lo (omega arith) some) at)
      | inr here ↦
          let e : s.lo ≡ x = omega arith in
          let one : nth_place s s.lo ≡ p = same_Some (nth_place s s.lo) p (sym (is.each s.lo (omega arith) some) ∙ ap (slice_get (placements yard b)) e ∙ at) in
          (let f = ap (λ (p : Placement). p.start) one in omega arith)
    ] in
    let more = mul-le block.weight (s.place.start - block.due) block.weight (p.end - block.due) (omega arith) (omega arith) in
    omega arith
  where
    started : (p q : Placement) → ComesBefore p q → p.start ≤ q.start
    started p q (inl less) = omega arith
    started p q (inr (same, rest)) = omega arith

-- a code of the stretch by its row and its column
pub spot_there : (yard : PlainYard) (list : List Standing) (b from columns : ℕ) (s : Stand) (stretch : Stretch) → IsStand yard list b s → s.stretch ≡ stretch
    → stretch.lo ≤ from → from < stretch.hi → columns ≡ s.lattice.columns
    → (0 < columns) × ((from - stretch.lo) / columns < s.lattice.rows) × ((from - stretch.lo) % columns < s.lattice.columns)
    × (from ≡ code_on s ((from - stretch.lo) / columns) ((from - stretch.lo) % columns))
spot_there yard list b from columns s stretch is same low high long =
    let lo = ap (λ (s : Stretch). s.lo) same in
    let hi = ap (λ (s : Stretch). s.hi) same in
    let (j, k, on, e) = is.ground.grid.each from (omega arith) (omega arith) in
    let some : k < columns = (let o = on.1 in omega arith) in
    let wide : j * s.lattice.columns ≡ j * columns = ap (λ c. j * c) (sym long) in
    let place_is : from - stretch.lo ≡ j * columns + k = omega arith in
    let row : (from - stretch.lo) / columns ≡ j = ap (λ n. n / columns) place_is ∙ div-mul-add j columns k some in
    let column : (from - stretch.lo) % columns ≡ k = ap (λ n. n % columns) place_is ∙ mod-mul-add j columns k some in (
      omega arith,
      (let o = on.0 in omega arith),
      (let o = on.1 in omega arith),
      e ∙ ap (λ j. code_on s j k) (sym row) ∙ ap (λ k. code_on s ((from - stretch.lo) / columns) k) (sym column),
    )

-- the walk enters a stand at its code
pub enter_here : (yard : PlainYard) (list : List Standing) (b most from columns : ℕ) (w : Walk) (stretch : Stretch) → IsStand yard list b w.stand → w.stand.stretch ≡ stretch
    → stretch.lo ≤ from → from < stretch.hi → columns ≡ w.stand.lattice.columns
    → w.from ≡ from → w.row ≡ (from - stretch.lo) / columns → w.column ≡ (from - stretch.lo) % columns
    → ((block : Block) → slice_get yard.blocks b ≡ Some block → cost_on block stretch.place.end ≤ most) → IsHere yard list b most from w
enter_here yard list b most from columns w stretch is same low high long here row column cheap =
    let spot = spot_there yard list b from columns w.stand stretch is same low high long in
    let hi = ap (λ (s : Stretch). s.hi) same in
    record {
      same = here;
      within = omega arith;
      entered = record {
        stand = is;
        cheap = subst (λ (s : Stretch). (block : Block) → slice_get yard.blocks b ≡ Some block → cost_on block s.place.end ≤ most) (sym same) cheap;
        at = record {
          code = here ∙ spot.3 ∙ ap (λ j. code_on w.stand j ((from - stretch.lo) % columns)) (sym row) ∙ ap (λ k. code_on w.stand w.row k) (sym column);
          column = (let c = spot.2 in omega arith);
        };
      };
    }

-- what follows from two facts of an answer
pub both_none : (o : Option ℕ) (P Q R : Type 0) → (P → Q → R) → IfNone o P → IfNone o Q → IfNone o R
both_none None P Q R f p q = f p q
both_none (Some x) P Q R f p q = tt

pub both_some : (o : Option ℕ) (P Q R : ℕ → Type 0) → ((x : ℕ) → P x → Q x → R x) → IfSome o P → IfSome o Q → IfSome o R
both_some None P Q R f p q = tt
both_some (Some x) P Q R f p q = f x p q

-- the first code after some that are not free
pub first_on : (yard : PlainYard) (list : List Standing) (b most from mid : ℕ) (w : Walk) (o : Option ℕ) → is_some o ≡ true → from ≤ mid
    → HasNone (IsCheap yard list b most) from mid → IfSome o (λ c. IsFound yard list b most mid c w)
    → IsFirst (IsCheap yard list b most) from (length (placements yard b)) o
first_on yard list b most from mid w None told low none found = absurd (false≢true told)
first_on yard list b most from mid w (Some c) told low none found =
    let (first, within, cheap, before) = found.first in (
      omega arith,
      within,
      cheap,
      λ x from_x below is. elim (cases_lt x mid) [ inl less ↦ none x from_x less is | inr more ↦ before x more below is ],
    )

-- the walk goes on
pub none_past : (yard : PlainYard) (list : List Standing) (b most mid : ℕ) (w : Walk) (o : Option ℕ) → is_some o ≡ false
    → IfNone o (IsPast yard list b most mid w) → IsPast yard list b most mid w
none_past yard list b most mid w None told past = past
none_past yard list b most mid w (Some c) told past = absurd (false≢true (sym told))

pub none_more : (yard : PlainYard) (list : List Standing) (b most from mid : ℕ) (w : Walk) → HasNone (IsCheap yard list b most) from mid → IsPast yard list b most mid w
    → HasNone (IsCheap yard list b most) from w.from
none_more yard list b most from mid w none past = λ x low below is. elim (cases_lt x mid) [
  | inl less ↦ none x low less is
  | inr more ↦ past.none x more below is
]

pub past_walk : (yard : PlainYard) (list : List Standing) (b most mid : ℕ) (w : Walk) → IsPast yard list b most mid w → IsWalk yard list b most w
past_walk yard list b most mid w past = λ inside. let done = past.done in absurd (omega arith)
