-- The blocks that a side fixes, literal by literal, and what they clash with.
use Rattle.std.proofs.Common.{◌≡◌, ℕ, ◌<◌, ◌≤◌, List, [], ◌∷◌, ◌++◌, length, get_or, take, ◌+◌, Bool, true, false, Some, refl, sym, ap, ◌∙◌, subst, inl, inr, arith}
use Rattle.std.specs.Prelude.{slice_get, IsTrue, not, ◌↔◌, All, Contains}
use Rattle.std.proofs.lemmas.Bool.{false≢true}
use Rattle.std.proofs.lemmas.Option.{same_Some, slice_get-get_or}
use Rattle.std.proofs.lemmas.List.{take_more}
use Rattle.std.proofs.lemmas.List.Elements.{Contains-append_left, Contains-push, Contains-push_cases}
use Rattle.common_lists.proofs.ListLaws.{element_at}
use Rattle.shape_exact.specs.Yards.{PlainYard}
use Rattle.shape_exact.specs.Shapes.{AreApart, turned}
use Rattle.shape_exact.specs.declared.block.Block.{Block}
use Rattle.shape_exact.specs.declared.point.Point.{Point}
use Rattle.code_table.specs.declared.placement.Placement.{Placement}
use Rattle.code_table.specs.Placements.{placements}
use Rattle.plan_rule.specs.declared.literal.Literal.{Literal}
use Rattle.plan_rule.specs.Boxes.{IsAscending, IsBox, IsLiteral, HasExact, exact}
use Rattle.plan_rule.specs.Clashes.{MayClash, PlacementsClash, place_of}
use Rattle.plan_rule.specs.Yards.{choices}
use Rattle.plan_rule.proofs.BehindLaws.{fixes_at, exact_has}
use Rattle.plan_rule.proofs.CountLaws.{block_exists, count-length}
use Rattle.plan_rule.proofs.ExactLaws.{place-le-block}
use Rattle.log_checker.specs.declared.exact.Exact.{Exact}
use Rattle.log_checker.specs.ExactBlocks.{AreExact, ClashesAt, ClashesWithOne}

-- a block at a placement
abbrev pub exact_at : ℕ → Placement → Exact
exact_at b p = record { block = b; place = p }

-- a block with a placement stands in the list exactly where a literal is that placement's code alone
abbrev pub ExactTo : PlainYard → List Literal → List Exact → Type 0
ExactTo yard literals list =
    (f : Exact) → Contains list f ↔ ((d : ℕ) × Contains literals (exact f.block d) × (slice_get (placements yard f.block) d ≡ Some f.place))

-- a literal of one code more
exact_more : (yard : PlainYard) (literals : List Literal) (list : List Exact) (l : Literal) (p : Placement) → l ≡ exact l.block l.lo
    → slice_get (placements yard l.block) l.lo ≡ Some p → ExactTo yard literals list
    → ExactTo yard (literals ++ l ∷ []) (list ++ exact_at l.block p ∷ [])
exact_more yard literals list l p one at h f =
    let new : Exact = exact_at l.block p in (
      λ inside. elim (Contains-push_cases list new f inside) [
        | inl old ↦ let (d, has, is) = (h f).0 old in (d, Contains-append_left literals (l ∷ []) (exact f.block d) has, is)
        | inr same ↦
            subst (λ f. (d : ℕ) × Contains (literals ++ l ∷ []) (exact f.block d) × (slice_get (placements yard f.block) d ≡ Some f.place)) same
            (l.lo, subst (Contains (literals ++ l ∷ [])) one (Contains-push literals l), at)
      ],
      λ told. let (d, has, is) = told in elim (Contains-push_cases literals l (exact f.block d) has) [
        | inl old ↦ Contains-append_left list (new ∷ []) f ((h f).1 (d, old, is))
        | inr same ↦
            let block : l.block ≡ f.block = ap (λ (m : Literal). m.block) same in
            let place : p ≡ f.place = same_Some p f.place (sym at ∙ ap (λ (m : Literal). slice_get (placements yard m.block) m.lo) same ∙ is) in
            subst (Contains (list ++ new ∷ [])) (ap (λ b. exact_at b p) block ∙ ap (exact_at f.block) place) (Contains-push list new)
      ],
    )

-- a literal of several codes more
exact_kept : (yard : PlainYard) (literals : List Literal) (list : List Exact) (l : Literal) → (l ≡ exact l.block l.lo → ⊥)
    → ExactTo yard literals list → ExactTo yard (literals ++ l ∷ []) list
exact_kept yard literals list l several h f = (
  λ inside. let (d, has, is) = (h f).0 inside in (d, Contains-append_left literals (l ∷ []) (exact f.block d) has, is),
  λ told. let (d, has, is) = told in elim (Contains-push_cases literals l (exact f.block d) has) [
    | inl old ↦ (h f).1 (d, old, is)
    | inr same ↦ absurd (several (same ∙ sym (ap (λ (m : Literal). exact m.block m.lo) same)))
  ],
)

-- the step of a walk over a side at a literal of one code
pub exact_next : (yard : PlainYard) (side : List Literal) (list new : List Exact) (i : ℕ) (d : Literal) (p : Placement) → i < length side
    → new ≡ list ++ exact_at (get_or side i d).block p ∷ [] → get_or side i d ≡ exact (get_or side i d).block (get_or side i d).lo
    → slice_get (placements yard (get_or side i d).block) (get_or side i d).lo ≡ Some p → ExactTo yard (take i side) list
    → ExactTo yard (take (i + 1) side) new
exact_next yard side list new i d p within is one at h =
    subst (λ ls. ExactTo yard ls new) (sym (take_more side i d within))
    (subst (ExactTo yard (take i side ++ get_or side i d ∷ [])) (sym is) (exact_more yard (take i side) list (get_or side i d) p one at h))

-- the same at a literal of several codes
pub exact_skip : (yard : PlainYard) (side : List Literal) (list new : List Exact) (i : ℕ) (d : Literal) → i < length side
    → new ≡ list → (get_or side i d ≡ exact (get_or side i d).block (get_or side i d).lo → ⊥) → ExactTo yard (take i side) list
    → ExactTo yard (take (i + 1) side) new
exact_skip yard side list new i d within is several h =
    subst (λ ls. ExactTo yard ls new) (sym (take_more side i d within))
    (subst (ExactTo yard (take i side ++ get_or side i d ∷ [])) (sym is) (exact_kept yard (take i side) list (get_or side i d) several h))

-- the block of a literal exists, its first code too, and there are as many blocks before it as literals
pub literal_facts : (yard : PlainYard) (side items : List Literal) (i : ℕ) (d : Literal) → items ≡ side → IsBox (choices yard) side → i < length items
    → ((get_or items i d).block < length yard.blocks) × ((get_or items i d).lo < length (placements yard (get_or items i d).block))
    × (i ≤ (get_or items i d).block)
literal_facts yard side items i d same is within =
    let each : IsLiteral (choices yard) (get_or items i d) = subst (All (IsLiteral (choices yard))) (sym same) is.each i d within in
    let up : IsAscending items = subst IsAscending (sym same) is.ascending in
    let block = block_exists yard (get_or items i d).block each.block in
    let long = count-length yard (get_or items i d).block block in
    let some = each.some in let codes = each.codes in
    (block, omega arith, place-le-block items i (get_or items i d) up (slice_get-get_or items i d within))

contained_fixes : (side : List Literal) (b d : ℕ) → IsAscending side → Contains side (exact b d) → HasExact side b d
contained_fixes side b d up (k, within, is) = fixes_at side k b d up (slice_get-get_or side k (exact b d) within ∙ ap Some is)

-- all literals of a side
pub all_exact : (yard : PlainYard) (side : List Literal) (list : List Exact) → IsAscending side → ExactTo yard side list → AreExact yard side list
all_exact yard side list up h f = (
  λ inside. let (d, has, is) = (h f).0 inside in (d, contained_fixes side f.block d up has, is),
  λ told. let (d, fixes, is) = told in (h f).1 (d, exact_has side f.block d fixes, is),
)

-- the turned footprints of an exact block and of another at a placement
pub record AreTurned (yard : PlainYard) (f : Exact) (b : ℕ) (p : Placement) (first second : List Point) : Type 0 where
  pub first_block : f.block < length yard.blocks
  pub second_block : b < length yard.blocks
  pub first_is : (one : Block) → slice_get yard.blocks f.block ≡ Some one → first ≡ turned f.place.turn one.shape
  pub second_is : (two : Block) → slice_get yard.blocks b ≡ Some two → second ≡ turned p.turn two.shape

-- placements that may clash, by their footprints
pub met_by_places : (yard : PlainYard) (f : Exact) (b : ℕ) (p : Placement) (first second : List Point) (apart : Bool)
    → AreTurned yard f b p first second → MayClash f.place p → (IsTrue apart ↔ AreApart first (place_of f.place) second (place_of p))
    → IsTrue (not apart) ↔ ClashesAt yard f b p
met_by_places yard f b p first second true s may told = (
  λ t. absurd (false≢true t),
  λ m. let clash = m.clash in
      absurd (clash.shapes (subst (λ g. AreApart g (place_of f.place) (turned p.turn m.two.shape) (place_of p)) (s.first_is m.one m.one_is)
      (subst (λ g. AreApart first (place_of f.place) g (place_of p)) (s.second_is m.two m.two_is) (told.0 refl)))),
)
met_by_places yard f b p first second false s may told =
    let (one, one_is) = element_at yard.blocks f.block s.first_block in
    let (two, two_is) = element_at yard.blocks b s.second_block in (
      λ t. record {
        one = one;
        two = two;
        one_is = one_is;
        two_is = two_is;
        clash = record {
          plate = may.0;
          first_starts = may.1;
          second_starts = may.2;
          shapes = λ apart. false≢true (told.1
              (subst (λ g. AreApart g (place_of f.place) second (place_of p)) (sym (s.first_is one one_is))
              (subst (λ g. AreApart (turned f.place.turn one.shape) (place_of f.place) g (place_of p)) (sym (s.second_is two two_is)) apart)));
        };
      },
      λ m. refl,
    )

-- one of the blocks that a side fixes meets the placement of a code exactly where the side fixes a code that clashes with it
pub met_or_clash : (yard : PlainYard) (side : List Literal) (list : List Exact) (b code : ℕ) (p : Placement) → AreExact yard side list
    → slice_get (placements yard b) code ≡ Some p
    → ClashesWithOne yard list b p ↔ ((a : ℕ) × (d : ℕ) × HasExact side a d × (choices yard).Clash a d b code)
unfolding choices
met_or_clash yard side list b code p exacts at = (
  λ met. let (k, f, within, is, m) = met in
      let (d, fixes, place) = (exacts f).0 (k, within, is) in (
        f.block,
        d,
        fixes,
        record {
          one = m.one;
          two = m.two;
          p = f.place;
          q = p;
          one_is = m.one_is;
          two_is = m.two_is;
          p_is = place;
          q_is = at;
          clash = m.clash;
        },
      ),
  λ clash. let (a, d, fixes, h) = clash in
      let (k, within, is) = (exacts (exact_at a h.p)).1 (d, fixes, h.p_is) in (
        k,
        exact_at a h.p,
        within,
        is,
        record {
          one = h.one;
          two = h.two;
          one_is = h.one_is;
          two_is = h.two_is;
          clash = subst (λ q. PlacementsClash h.one h.p h.two q) (same_Some h.q p (sym h.q_is ∙ at)) h.clash;
        },
      ),
)
