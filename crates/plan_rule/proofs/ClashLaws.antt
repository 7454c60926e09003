-- A clash of two codes is a clash of their placements, and it is mutual.
use Rattle.std.proofs.Common.{◌≡◌, ℕ, ◌<◌, Bool, true, false, List, length, Some, refl, sym, ◌∙◌, subst, inl, inr}
use Rattle.std.specs.Prelude.{◌↔◌, IsTrue, not, slice_get}
use Rattle.std.proofs.lemmas.Option.{same_Some}
use Rattle.std.proofs.lemmas.Bool.{false≢true, cases_order}
use Rattle.common_lists.proofs.ListLaws.{element_at}
use Rattle.shape_exact.specs.Yards.{PlainYard}
use Rattle.shape_exact.specs.Shapes.{AreApart, turned}
use Rattle.shape_exact.specs.declared.block.Block.{Block}
use Rattle.shape_exact.specs.declared.point.Point.{Point}
use Rattle.code_table.specs.declared.placement.Placement.{Placement}
use Rattle.code_table.specs.Placements.{placements, placements_of, IsPlacement}
use Rattle.code_table.proofs.PlacedLaws.{placed-facts}
use Rattle.common_lists.specs.Each.{for_some}
use Rattle.plan_rule.specs.Choices.{blocks}
use Rattle.plan_rule.specs.Plans.{code_of, IsPlan, HasNoClash}
use Rattle.plan_rule.specs.Pairs.{ClashesAfter}
use Rattle.plan_rule.specs.Clashes.{place_of, MayClash, PlacementsClash, Clash}
use Rattle.plan_rule.specs.Yards.{choices}

placements_clash-sym : (one : Block) (p : Placement) (two : Block) (q : Placement) → PlacementsClash one p two q → PlacementsClash two q one p
placements_clash-sym one p two q m = record {
  plate = sym m.plate;
  first_starts = m.second_starts;
  second_starts = m.first_starts;
  shapes = λ apart. m.shapes (λ s n a b. apart s n b a);
}

-- where a code clashes with another, the other clashes with it
pub clash-sym : (yard : PlainYard) (a code_a b code_b : ℕ) → (choices yard).Clash a code_a b code_b → (choices yard).Clash b code_b a code_a
unfolding choices
clash-sym yard a code_a b code_b h = record {
  one = h.two;
  two = h.one;
  p = h.q;
  q = h.p;
  one_is = h.two_is;
  two_is = h.one_is;
  p_is = h.q_is;
  q_is = h.p_is;
  clash = placements_clash-sym h.one h.p h.two h.q h.clash;
}

-- what is at a code is a placement of the block
pub placed : (yard : PlainYard) (b code : ℕ) (block : Block) (p : Placement) → slice_get yard.blocks b ≡ Some block
    → slice_get (placements yard b) code ≡ Some p → IsPlacement yard block p
placed yard b code block p is at =
    placed-facts yard block code p (subst (λ o. slice_get (for_some o (placements_of yard)) code ≡ Some p) is at)

-- the placements of two codes, and their turned footprints
pub record ArePlaced (yard : PlainYard) (a code_a b code_b : ℕ) (p q : Placement) (first second : List Point) : Type 0 where
  pub first_block : a < length yard.blocks
  pub second_block : b < length yard.blocks
  pub p_is : slice_get (placements yard a) code_a ≡ Some p
  pub q_is : slice_get (placements yard b) code_b ≡ Some q
  pub first_is : (one : Block) → slice_get yard.blocks a ≡ Some one → first ≡ turned p.turn one.shape
  pub second_is : (two : Block) → slice_get yard.blocks b ≡ Some two → second ≡ turned q.turn two.shape

clash_at : (yard : PlainYard) (a code_a b code_b : ℕ) (p q : Placement) → slice_get (placements yard a) code_a ≡ Some p
    → slice_get (placements yard b) code_b ≡ Some q → (h : Clash yard a code_a b code_b) → PlacementsClash h.one p h.two q
clash_at yard a code_a b code_b p q p_is q_is h =
    subst (λ p. PlacementsClash h.one p h.two q) (same_Some _ _ (sym h.p_is ∙ p_is))
    (subst (λ q. PlacementsClash h.one h.p h.two q) (same_Some _ _ (sym h.q_is ∙ q_is)) h.clash)

-- placements that are on other plates, or share no day
pub clear_by_place : (yard : PlainYard) (a code_a b code_b : ℕ) (p q : Placement) → slice_get (placements yard a) code_a ≡ Some p
    → slice_get (placements yard b) code_b ≡ Some q → (MayClash p q → IsTrue false) → IsTrue false ↔ (choices yard).Clash a code_a b code_b
unfolding choices
clear_by_place yard a code_a b code_b p q p_is q_is far = (
  λ f. cc,
  λ h. let m = clash_at yard a code_a b code_b p q p_is q_is h in far (m.plate, m.first_starts, m.second_starts),
)

-- placements that may clash, by their footprints
by_places : (yard : PlainYard) (a code_a b code_b : ℕ) (p q : Placement) (first second : List Point) (apart : Bool)
    → ArePlaced yard a code_a b code_b p q first second → MayClash p q → (IsTrue apart ↔ AreApart first (place_of p) second (place_of q))
    → IsTrue (not apart) ↔ (choices yard).Clash a code_a b code_b
unfolding choices
by_places yard a code_a b code_b p q first second true s may told = (
  λ f. cc,
  λ h. let m = clash_at yard a code_a b code_b p q s.p_is s.q_is h in
      absurd (m.shapes (subst (λ f. AreApart f (place_of p) (turned q.turn h.two.shape) (place_of q)) (s.first_is h.one h.one_is)
      (subst (λ g. AreApart first (place_of p) g (place_of q)) (s.second_is h.two h.two_is) (told.0 refl)))),
)
by_places yard a code_a b code_b p q first second false s may told =
    let (one, one_is) = element_at yard.blocks a s.first_block in
    let (two, two_is) = element_at yard.blocks b s.second_block in (
      λ t. record {
        one = one;
        two = two;
        p = p;
        q = q;
        one_is = one_is;
        two_is = two_is;
        p_is = s.p_is;
        q_is = s.q_is;
        clash = record {
          plate = may.0;
          first_starts = may.1;
          second_starts = may.2;
          shapes = λ apart. false≢true (told.1
              (subst (λ f. AreApart f (place_of p) second (place_of q)) (sym (s.first_is one one_is))
              (subst (λ g. AreApart (turned p.turn one.shape) (place_of p) g (place_of q)) (sym (s.second_is two two_is)) apart)));
        };
      },
      λ h. refl,
    )

-- placements that may clash, by their footprints and the points to which these are shifted
pub clash_by_shapes : (yard : PlainYard) (a code_a b code_b : ℕ) (p q : Placement) (first second : List Point) (u v : Point) (apart : Bool)
    → ArePlaced yard a code_a b code_b p q first second → MayClash p q → u ≡ place_of p → v ≡ place_of q
    → (IsTrue apart ↔ AreApart first u second v) → IsTrue (not apart) ↔ (choices yard).Clash a code_a b code_b
clash_by_shapes yard a code_a b code_b p q first second u v apart s may e f told =
    by_places yard a code_a b code_b p q first second apart s may
    (subst (λ w. IsTrue apart ↔ AreApart first w second (place_of q)) e (subst (λ w. IsTrue apart ↔ AreApart first u second w) f told))

-- no two codes of a plan of which none clashes with that of a later block
pub clear_plan : (yard : PlainYard) (plan : List ℕ) → IsPlan (choices yard) plan
    → ((a : ℕ) → a < blocks (choices yard) → ClashesAfter (choices yard) plan a → ⊥) → HasNoClash (choices yard) plan
clear_plan yard plan p none = λ a b l m ne clash. elim (cases_order a b) [
  | inl e ↦ ne e
  | inr differ ↦ elim differ [
    | inl k ↦ none a l (b, k, m, clash)
    | inr k ↦ none b m (a, k, l, clash-sym yard a (code_of plan a) b (code_of plan b) clash)
  ]
]
