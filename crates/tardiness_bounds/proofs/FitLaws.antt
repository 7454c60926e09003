-- What blocks that stand leave to the others, in the words of the fit.
use Rattle.std.proofs.Common.{◌≡◌, ◌≢◌, ℕ, zero, suc, ◌+◌, ◌<◌, ◌≤◌, List, [], ◌∷◌, ◌++◌, length, get_or, take, Some, None, refl, sym, ap, ◌∙◌, subst, inl, inr, arith}
use Rattle.std.specs.Prelude.{slice_get, All, ◌==◌, if◌then◌else◌}
use Rattle.std.proofs.lemmas.Bool.{cases_Bool, cases_lt, eq-eqb, eqb-true, ne_eqb, cond-true, cond-false, true≢false}
use Rattle.std.proofs.lemmas.Option.{none-some, same_Some, slice_get-get_or, slice_get_within, get_or_from_slice_get}
use Rattle.std.proofs.lemmas.List.Elements.{All-head, All-tail, All-cons, All-nil, All-push}
use Rattle.common_lists.proofs.ListLaws.{element_at}
use Rattle.shape_exact.specs.Yards.{PlainYard, IsYard}
use Rattle.shape_exact.specs.declared.block.Block.{Block}
use Rattle.minkowski_obstacles.proofs.ObstacleLaws.{all_push_back}
use Rattle.code_table.specs.declared.placement.Placement.{Placement}
use Rattle.code_table.specs.Placements.{IsPlacement, cost_at, cost_of, cost_on, placements}
use Rattle.code_table.proofs.ListedLaws.{listed_code}
use Rattle.plan_rule.specs.Clashes.{MeetPiece, PlacementsClash}
use Rattle.plan_rule.specs.declared.literal.Literal.{Literal}
use Rattle.plan_rule.specs.Boxes.{HasExact, LeavesFree, exact, exact_code}
use Rattle.plan_rule.specs.Bounds.{IsLeastOf, MayFit}
use Rattle.plan_rule.specs.Choices.{IsCode, blocks, count}
use Rattle.plan_rule.specs.Yards.{choices}
use Rattle.plan_rule.proofs.CountLaws.{blocks-length, code_exists, cost_is, count-length}
use Rattle.plan_rule.proofs.YardLaws.{coded}
use Rattle.tardiness_bounds.specs.declared.slot.Slot.{Slot}
use Rattle.tardiness_bounds.specs.declared.standing.Standing.{Standing}
use Rattle.tardiness_bounds.specs.declared.witness.Witness.{Witness}
use Rattle.tardiness_bounds.specs.Tables.{PlainTables}
use Rattle.tardiness_bounds.specs.Slots.{AreSlots, IsSlot, IsIn}
use Rattle.tardiness_bounds.specs.Standings.{ClashesAt, IsClear, IsClearAt, IsStanding, MeetsAt, StandOnce, literals_of}
use Rattle.tardiness_bounds.specs.Witnesses.{AreFull, HasNoPlace, IsWitness}
use Rattle.plan_rule.proofs.ExactLaws.{nothing_exact}
use Rattle.tardiness_bounds.proofs.SpotLaws.{same_end}

-- the code of an exact literal, and those after it
first_code : (f : Standing) (list : List Standing) (b : ℕ) → f.block ≡ b → HasExact (literals_of (f ∷ list)) b f.code
first_code f list b e =
    cond-true (f.block == b) (if f.code + 1 == f.code + 1 then Some f.code else None) (exact_code (literals_of list) b) (eq-eqb f.block b e)
    ∙ cond-true (f.code + 1 == f.code + 1) (Some f.code) None (eq-eqb (f.code + 1) (f.code + 1) refl)

later_code : (f : Standing) (list : List Standing) (b : ℕ) → f.block ≢ b → exact_code (literals_of (f ∷ list)) b ≡ exact_code (literals_of list) b
later_code f list b ne =
    cond-false (f.block == b) (if f.code + 1 == f.code + 1 then Some f.code else None) (exact_code (literals_of list) b) (ne_eqb f.block b ne)

-- a block that stands, and none before it in the list, is exact at its code
first_exact : (list : List Standing) (k : ℕ) (f : Standing) → slice_get list k ≡ Some f → LeavesFree (literals_of (take k list)) f.block → HasExact (literals_of list) f.block f.code
first_exact [] k f at free = absurd (none-some f at)
first_exact (g ∷ list) zero f at free =
    subst (λ (f : Standing). HasExact (literals_of (g ∷ list)) f.block f.code) (same_Some g f at) (first_code g list g.block refl)
first_exact (g ∷ list) (suc k) f at free =
    later_code g list f.block (All-head (λ (l : Literal). l.block ≢ f.block) (exact g.block g.code) (literals_of (take k list)) free)
    ∙ first_exact list k f at (All-tail (λ (l : Literal). l.block ≢ f.block) (exact g.block g.code) (literals_of (take k list)) free)

pub exact_at : (list : List Standing) (k : ℕ) (f : Standing) → StandOnce list → slice_get list k ≡ Some f → HasExact (literals_of list) f.block f.code
exact_at list k f once at = first_exact list k f at (once k f at)

-- a block that is exact at a code stands there
pub record StandsAt (list : List Standing) (b code : ℕ) : Type 0 where
  pub place : ℕ
  pub f : Standing
  pub at : slice_get list place ≡ Some f
  pub block : f.block ≡ b
  pub code_is : f.code ≡ code

pub stands_at : (list : List Standing) (b code : ℕ) → HasExact (literals_of list) b code → StandsAt list b code
stands_at [] b code fix = absurd (none-some code fix)
stands_at (g ∷ list) b code fix = elim (cases_Bool (g.block == b)) [
  | inl same ↦
      let e : g.block ≡ b = eqb-true g.block b same in
      record { place = 0; f = g; at = refl; block = e; code_is = same_Some g.code code (sym (first_code g list b e) ∙ fix) }
  | inr other ↦
      let ne : g.block ≢ b = λ e. true≢false (sym (eq-eqb g.block b e) ∙ other) in
      let h = stands_at list b code (sym (later_code g list b ne) ∙ fix) in
      record { place = suc h.place; f = h.f; at = h.at; block = h.block; code_is = h.code_is }
]

-- what is exact stays so with one block more
pub exact_more : (list more : List Standing) (b code : ℕ) → HasExact (literals_of list) b code → HasExact (literals_of (list ++ more)) b code
exact_more [] more b code fix = absurd (none-some code fix)
exact_more (g ∷ list) more b code fix = elim (cases_Bool (g.block == b)) [
  | inl same ↦
      let e : g.block ≡ b = eqb-true g.block b same in
      let c : g.code ≡ code = same_Some g.code code (sym (first_code g list b e) ∙ fix) in
      first_code g (list ++ more) b e ∙ ap Some c
  | inr other ↦
      let ne : g.block ≢ b = λ e. true≢false (sym (eq-eqb g.block b e) ∙ other) in
      later_code g (list ++ more) b ne ∙ exact_more list more b code (sym (later_code g list b ne) ∙ fix)
]

-- one block more is exact at its code
pub exact_new : (list : List Standing) (f : Standing) → LeavesFree (literals_of list) f.block → HasExact (literals_of (list ++ f ∷ [])) f.block f.code
exact_new [] f free = first_code f [] f.block refl
exact_new (g ∷ list) f free =
    later_code g (list ++ f ∷ []) f.block (All-head (λ (l : Literal). l.block ≢ f.block) (exact g.block g.code) (literals_of list) free)
    ∙ exact_new list f (All-tail (λ (l : Literal). l.block ≢ f.block) (exact g.block g.code) (literals_of list) free)

-- and leaves the others free
pub free_more : (list : List Standing) (f : Standing) (b : ℕ) → LeavesFree (literals_of list) b → f.block ≢ b → LeavesFree (literals_of (list ++ f ∷ [])) b
free_more [] f b free ne = All-cons (λ (l : Literal). l.block ≢ b) (exact f.block f.code) [] ne (All-nil (λ (l : Literal). l.block ≢ b))
free_more (g ∷ list) f b free ne =
    All-cons (λ (l : Literal). l.block ≢ b) (exact g.block g.code) (literals_of (list ++ f ∷ []))
    (All-head (λ (l : Literal). l.block ≢ b) (exact g.block g.code) (literals_of list) free)
    (free_more list f b (All-tail (λ (l : Literal). l.block ≢ b) (exact g.block g.code) (literals_of list) free) ne)

-- a code that clashes with a block that stands does so at its placement, and the other way round
clash_at : (yard : PlainYard) (f : Standing) (b code : ℕ) (p : Placement) → IsStanding yard f → slice_get (placements yard b) code ≡ Some p
    → (choices yard).Clash f.block f.code b code → ClashesAt yard f b p
unfolding choices
clash_at yard f b code p s at clash =
    let e : clash.p ≡ f.place = same_Some clash.p f.place (sym clash.p_is ∙ s.code) in
    let g : clash.q ≡ p = same_Some clash.q p (sym clash.q_is ∙ at) in
    record {
      one = clash.one;
      two = clash.two;
      one_is = clash.one_is;
      two_is = clash.two_is;
      clash = subst (λ q. PlacementsClash clash.one f.place clash.two q) g (subst (λ q. PlacementsClash clash.one q clash.two clash.q) e clash.clash);
    }

pub at_clash : (yard : PlainYard) (f : Standing) (b code : ℕ) (p : Placement) → IsStanding yard f → slice_get (placements yard b) code ≡ Some p
    → ClashesAt yard f b p → (choices yard).Clash f.block f.code b code
unfolding choices
at_clash yard f b code p s at m = record {
  one = m.one;
  two = m.two;
  p = f.place;
  q = p;
  one_is = m.one_is;
  two_is = m.two_is;
  p_is = s.code;
  q_is = at;
  clash = m.clash;
}

-- a code that meets a piece does so at its placement, and the other way round
code_meets : (yard : PlainYard) (b code i : ℕ) (p : Placement) → slice_get (placements yard b) code ≡ Some p → (choices yard).Meets b code i → MeetsAt yard b p i
unfolding choices
code_meets yard b code i p at m = record {
  block = m.block;
  piece = m.piece;
  block_is = m.block_is;
  piece_is = m.piece_is;
  meet = subst (λ p. MeetPiece m.block p m.piece) (same_Some m.p p (sym m.p_is ∙ at)) m.meet;
}

pub meets_code : (yard : PlainYard) (b code i : ℕ) (p : Placement) → slice_get (placements yard b) code ≡ Some p → MeetsAt yard b p i → (choices yard).Meets b code i
unfolding choices
meets_code yard b code i p at m = record {
  block = m.block;
  p = p;
  piece = m.piece;
  block_is = m.block_is;
  p_is = at;
  piece_is = m.piece_is;
  meet = m.meet;
}

-- the codes that fit are those whose placements are clear
pub fits_clear : (yard : PlainYard) (list : List Standing) (b code : ℕ) (p : Placement) → All (IsStanding yard) list → StandOnce list
    → LeavesFree (literals_of list) b → slice_get (placements yard b) code ≡ Some p → MayFit (choices yard) (literals_of list) b code → IsClear yard list b p
fits_clear yard list b code p stand once free at may = record {
  apart = λ k d l m.
      may.1 (nothing_exact (literals_of list) b free) (get_or list k d).block (get_or list k d).code
      (exact_at list k (get_or list k d) once (slice_get-get_or list k d l)) (at_clash yard (get_or list k d) b code p (stand k d l) at m);
  unmet = λ i m. may.2 (nothing_exact (literals_of list) b free) (i, meets_code yard b code i p at m);
}

pub clear_fits : (yard : PlainYard) (list : List Standing) (b code : ℕ) (p : Placement) → All (IsStanding yard) list
    → LeavesFree (literals_of list) b → code < count (choices yard) b → slice_get (placements yard b) code ≡ Some p → IsClear yard list b p
    → MayFit (choices yard) (literals_of list) b code
clear_fits yard list b code p stand free within at clear = (
  (within, λ d fix. absurd (none-some d (sym (nothing_exact (literals_of list) b free) ∙ fix))),
  λ none a d fix clash.
      let h = stands_at list a d fix in
      let l = slice_get_within list h.place h.f h.at in
      let e : get_or list h.place h.f ≡ h.f = get_or_from_slice_get list h.place h.f h.f h.at in
      let s : IsStanding yard h.f = subst (IsStanding yard) e (stand h.place h.f l) in
      let c : ClashesAt yard h.f b p → ⊥ = subst (λ (f : Standing). ClashesAt yard f b p → ⊥) e (clear.apart h.place h.f l) in
      c (clash_at yard h.f b code p s at
      (subst (λ a. (choices yard).Clash a h.f.code b code) (sym h.block)
      (subst (λ d. (choices yard).Clash a d b code) (sym h.code_is) clash))),
  λ none some. let (i, m) = some in clear.unmet i (code_meets yard b code i p at m),
)

-- what a code costs, by its placement
pub cost_is_at : (yard : PlainYard) (b code : ℕ) (block : Block) (p : Placement) → slice_get yard.blocks b ≡ Some block → slice_get (placements yard b) code ≡ Some p
    → (choices yard).cost b code ≡ cost_at block p
cost_is_at yard b code block p at is =
    cost_is yard b code ∙ ap (λ o. cost_of o (slice_get (placements yard b) code)) at ∙ ap (cost_of (Some block)) is

-- a placement in a slot costs what the slot costs
pub slot_cost : (yard : PlainYard) (block : Block) (s : Slot) (p : Placement) → IsSlot yard block s → IsPlacement yard block p → IsIn s p → cost_at block p ≡ s.cost
slot_cost yard block s p is placed (start, on) =
    let end = same_end yard block s p is placed (start, on) in
    ap (cost_on block) end ∙ sym is.cost

-- a code of a block that is free, and its placement
pub record Placed (yard : PlainYard) (b : ℕ) (p : Placement) : Type 0 where
  pub code : ℕ
  pub within : code < count (choices yard) b
  pub at : slice_get (placements yard b) code ≡ Some p

pub placed_code : (yard : PlainYard) (b : ℕ) (block : Block) (p : Placement) → IsYard yard → b < length yard.blocks → slice_get yard.blocks b ≡ Some block → IsPlacement yard block p
    → Placed yard b p
placed_code yard b block p y l at is =
    let (code, here) = listed_code yard b block p y at is in
    let n = count-length yard b l in
    let within = slice_get_within (placements yard b) code p here in
    record { code = code; within = omega arith; at = here }

-- the witness is the cheapest
pub witness_least : (t : PlainTables) (list : List Standing) (b : ℕ) (w : Witness) → IsYard t.yard → b < length t.yard.blocks
    → All (IsStanding t.yard) list → StandOnce list → LeavesFree (literals_of list) b
    → ((slots : List Slot) (block : Block) → slice_get t.slots b ≡ Some slots → slice_get t.yard.blocks b ≡ Some block → AreSlots t.yard block slots)
    → IsWitness t list b w → IsLeastOf (MayFit (choices t.yard) (literals_of list) b) ((choices t.yard).cost b) (Some w.cost)
witness_least t list b w y l stand once free slots is =
    let f = is.free in
    let are = slots is.slots f.block is.slots_are f.block_is in
    let here = slice_get_within is.slots w.slot is.slot is.slot_is in
    let same : get_or is.slots w.slot is.slot ≡ is.slot = get_or_from_slice_get is.slots w.slot is.slot is.slot is.slot_is in
    let slot : IsSlot t.yard f.block is.slot = subst (IsSlot t.yard f.block) same (are.each w.slot is.slot here) in
    let c = placed_code t.yard b f.block w.place y l f.block_is f.placement in
    let cost : (choices t.yard).cost b c.code ≡ w.cost =
    cost_is_at t.yard b c.code f.block w.place f.block_is c.at ∙ slot_cost t.yard f.block is.slot w.place slot f.placement f.within ∙ sym is.cost in (
      (c.code, clear_fits t.yard list b c.code w.place stand free c.within c.at f.clear, cost),
      λ x may. least_below t list b w y l stand once free is are slot x may,
    )
  where
    least_below : (t : PlainTables) (list : List Standing) (b : ℕ) (w : Witness) → IsYard t.yard → b < length t.yard.blocks
        → All (IsStanding t.yard) list → StandOnce list → LeavesFree (literals_of list) b
        → (is : IsWitness t list b w) → AreSlots t.yard is.free.block is.slots → IsSlot t.yard is.free.block is.slot
        → (x : ℕ) → MayFit (choices t.yard) (literals_of list) b x → w.cost ≤ (choices t.yard).cost b x
    least_below t list b w y l stand once free is are slot x may =
        let exist : b < blocks (choices t.yard) = (let n = blocks-length t.yard in omega arith) in
        let c = coded t.yard b x exist may.0.0 in
        let same : c.block ≡ is.free.block = same_Some c.block is.free.block (sym c.block_is ∙ is.free.block_is) in
        let placed : IsPlacement t.yard is.free.block c.p = subst (λ block. IsPlacement t.yard block c.p) same c.is in
        let clear = fits_clear t.yard list b x c.p stand once free c.p_is may in
        let (j, s, within, s_is, inside) = are.all c.p placed in
        let s_at : slice_get is.slots j ≡ Some s = slice_get-get_or is.slots j s within ∙ ap Some s_is in
        let s_slot : IsSlot t.yard is.free.block s = subst (IsSlot t.yard is.free.block) s_is (are.each j s within) in
        let cost : (choices t.yard).cost b x ≡ s.cost =
        cost_is_at t.yard b x is.free.block c.p is.free.block_is c.p_is ∙ slot_cost t.yard is.free.block s c.p s_slot placed inside in
        elim (cases_lt j w.slot) [
          | inl before ↦
              absurd (is.before is.slots j s is.slots_are before s_at c.p
              (record { block = is.free.block; block_is = is.free.block_is; placement = placed; within = inside; clear = clear }))
          | inr after ↦
              let up = are.ascending w.slot j s after within in
              let here = slice_get_within is.slots w.slot is.slot is.slot_is in
              let first : (get_or is.slots w.slot s).cost ≡ is.slot.cost =
              ap (λ (s : Slot). s.cost) (get_or_from_slice_get is.slots w.slot is.slot s is.slot_is) in
              let last : (get_or is.slots j s).cost ≡ s.cost = ap (λ (s : Slot). s.cost) s_is in
              let e = is.cost in
              omega arith
        ]

-- a block that has no place has no code that fits
pub never_least : (t : PlainTables) (list : List Standing) (b : ℕ) → b < length t.yard.blocks → All (IsStanding t.yard) list → StandOnce list
    → LeavesFree (literals_of list) b → HasNoPlace t.yard list b → IsLeastOf (MayFit (choices t.yard) (literals_of list) b) ((choices t.yard).cost b) None
never_least t list b l stand once free none = λ x may.
    let exist : b < blocks (choices t.yard) = (let n = blocks-length t.yard in omega arith) in
    let c = coded t.yard b x exist may.0.0 in
    none c.block c.p c.block_is c.is (fits_clear t.yard list b x c.p stand once free c.p_is may)

-- a block that stands costs what its code costs
pub stands_least : (yard : PlainYard) (list : List Standing) (b code cost : ℕ) → HasExact (literals_of list) b code → IsCode (choices yard) b code
    → cost ≡ (choices yard).cost b code → IsLeastOf (MayFit (choices yard) (literals_of list) b) ((choices yard).cost b) (Some cost)
stands_least yard list b code cost fix exist e = (
  (code, ((exist.1, λ d g. same_Some code d (sym fix ∙ g)), λ none. absurd (none-some code (sym none ∙ fix)), λ none. absurd (none-some code (sym none ∙ fix))), sym e),
  λ x may.
      let only : x ≡ code = may.0.1 code fix in
      let same : (choices yard).cost b x ≡ (choices yard).cost b code = ap ((choices yard).cost b) only in
      omega arith,
)

-- what is clear of more blocks is clear of fewer; a slot that is full beside fewer is full beside more
pub clear_back : (yard : PlainYard) (list : List Standing) (f : Standing) (b : ℕ) (p : Placement) → IsClear yard (list ++ f ∷ []) b p → IsClear yard list b p
clear_back yard list f b p clear = record { apart = (all_push_back (λ g. ClashesAt yard g b p → ⊥) list f clear.apart).0; unmet = clear.unmet }

pub full_more : (t : PlainTables) (list : List Standing) (f : Standing) (b n : ℕ) → AreFull t list b n → AreFull t (list ++ f ∷ []) b n
full_more t list f b n h slots i s at l here p free =
    h slots i s at l here p
    (record { block = free.block; block_is = free.block_is; placement = free.placement; within = free.within; clear = clear_back t.yard list f b p free.clear })

pub none_more : (yard : PlainYard) (list : List Standing) (f : Standing) (b : ℕ) → HasNoPlace yard list b → HasNoPlace yard (list ++ f ∷ []) b
none_more yard list f b h block p at placed clear = h block p at placed (clear_back yard list f b p clear)

pub witness_more : (t : PlainTables) (list : List Standing) (f : Standing) (b : ℕ) (w : Witness) → IsWitness t list b w → (ClashesAt t.yard f b w.place → ⊥)
    → IsWitness t (list ++ f ∷ []) b w
witness_more t list f b w is apart =
    let r = is.free in
    record {
      slots = is.slots;
      slot = is.slot;
      slots_are = is.slots_are;
      slot_is = is.slot_is;
      cost = is.cost;
      free = record {
        block = r.block;
        block_is = r.block_is;
        placement = r.placement;
        within = r.within;
        clear = record { apart = All-push (λ g. ClashesAt t.yard g b w.place → ⊥) list f r.clear.apart apart; unmet = r.clear.unmet };
      };
      before = full_more t list f b w.slot is.before;
    }

-- a code whose placement is clear fits, and the other way round
pub clear_code_fits : (yard : PlainYard) (list : List Standing) (b code : ℕ) → All (IsStanding yard) list → IsCode (choices yard) b code
    → LeavesFree (literals_of list) b → IsClearAt yard list b code → MayFit (choices yard) (literals_of list) b code
clear_code_fits yard list b code stand exist free clear =
    let (p, at) = element_at (placements yard b) code (code_exists yard b code exist) in
    clear_fits yard list b code p stand free exist.1 at (clear p at)

pub fits_clear_code : (yard : PlainYard) (list : List Standing) (b code : ℕ) → All (IsStanding yard) list → StandOnce list → LeavesFree (literals_of list) b
    → MayFit (choices yard) (literals_of list) b code → IsClearAt yard list b code
fits_clear_code yard list b code stand once free may = λ p at. fits_clear yard list b code p stand once free at may
