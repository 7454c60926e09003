-- Bits that tell which codes of a stretch clash with exact blocks.
use Rattle.std.proofs.Common.{◌≡◌, ℕ, ◌+◌, ◌-◌, ◌*◌, ◌%◌, ◌^◌, ◌<◌, ◌≤◌, List, [], ◌∷◌, ◌++◌, length, get_or, take, Bool, true, false, Option, Some, refl, sym, ap, ◌∙◌, subst, inl, inr, arith}
use Rattle.std.specs.Prelude.{IsTrue, All, IfSome, nat_eq, not, ◌↔◌, ◌⊎◌, ◌&&◌, bit_or, max}
use Rattle.std.specs.Int.{bit_at, w64}
use Rattle.std.proofs.lemmas.Bool.{cases_eq, cases_lt, eqb-true, eq-eqb, false≢true}
use Rattle.std.proofs.lemmas.Nat.Bits.{bit_at_or, bit_at-lt, bit_at-zero, bit_at_set_same, bit_at_set_other}
use Rattle.std.proofs.lemmas.Option.{same_Some}
use Rattle.std.proofs.lemmas.List.{take_more}
use Rattle.std.proofs.lemmas.List.Quantifiers.{Any-push}
use Rattle.std.proofs.lemmas.List.Elements.{Contains-append_left, Contains-push_cases}
use Rattle.common_lists.proofs.ListLaws.{both_true}
use Rattle.shape_exact.specs.Yards.{PlainYard}
use Rattle.code_table.specs.declared.placement.Placement.{Placement}
use Rattle.code_table.specs.declared.stretch.Stretch.{Stretch}
use Rattle.code_table.specs.Placements.{placements}
use Rattle.code_table.specs.Stretches.{IsStretch, nth_place}
use Rattle.plan_rule.specs.Choices.{MeetsSome}
use Rattle.plan_rule.specs.Clashes.{MayClash}
use Rattle.plan_rule.specs.Yards.{choices}
use Rattle.log_checker.specs.declared.exact.Exact.{Exact}
use Rattle.log_checker.specs.declared.mask.Beside.{Beside}
use Rattle.log_checker.specs.declared.mask.Mask.{Mask}
use Rattle.log_checker.specs.declared.part.Part.{Part}
use Rattle.log_checker.specs.ExactBlocks.{ClashesAt, ClashesWithOne}
use Rattle.log_checker.specs.Masks.{IsPart, IsTold, TellApart, TellClash, beside_of, nth_offset}
use Rattle.log_checker.specs.NearPieces.{AreNear}
use Rattle.log_checker.specs.Offsets.{AreSoApart, offset_of}
use Rattle.log_checker.specs.Walks.{CodeClashes}
use Rattle.log_checker.proofs.NearPieceLaws.{met_near}
use Rattle.log_checker.proofs.OffsetLaws.{met_so}

-- bits that tell of the first codes, and are 0 from there on
pub record TellFirst (yard : PlainYard) (f : Exact) (b : ℕ) (s : Stretch) (lo n bits : ℕ) : Type 0 where
  pub told : TellApart yard f b s lo n bits
  pub rest : (i : ℕ) → n ≤ i → bit_at bits i ≡ 0

-- a code more whose footprint is apart
pub first_apart : (yard : PlainYard) (f : Exact) (b : ℕ) (s : Stretch) (lo n m code bits : ℕ) → TellFirst yard f b s lo n bits → code ≡ lo + n → m ≡ n + 1
    → AreSoApart yard (offset_of f b (nth_place s code)) → TellFirst yard f b s lo m bits
first_apart yard f b s lo n m code bits first is more apart = record {
  told = λ i below. elim (cases_lt i n) [
    | inl less ↦ first.told i less
    | inr last ↦ (
      λ e. subst (λ k. AreSoApart yard (offset_of f b (nth_place s k))) (let e : code ≡ lo + i = omega arith in e) apart,
      λ h. first.rest i last,
    )
  ];
  rest = λ i past. first.rest i (omega arith);
}

-- a code more whose footprint is not
pub first_met : (yard : PlainYard) (f : Exact) (b : ℕ) (s : Stretch) (lo n m code bits new : ℕ) → TellFirst yard f b s lo n bits → code ≡ lo + n
    → m ≡ n + 1 → n < 64 → new ≡ bit_or bits (1 * 2 ^ n % 2 ^ 64) → (AreSoApart yard (offset_of f b (nth_place s code)) → ⊥)
    → TellFirst yard f b s lo m new
first_met yard f b s lo n m code bits new first is more few set met =
    let same : bit_at new n ≡ 1 = ap (λ x. bit_at x n) set ∙ bit_at_set_same w64 bits n few in
    let other : (i : ℕ) → (i ≡ n → ⊥) → bit_at new i ≡ bit_at bits i =
    λ i differ. ap (λ x. bit_at x i) set ∙ bit_at_set_other w64 bits n few i differ in
    record {
      told = λ i below. elim (cases_eq i n) [
        | inl here ↦
            let one : bit_at new i ≡ 1 = ap (bit_at new) here ∙ same in
            let at : lo + i ≡ code = omega arith in (
              λ e. absurd (omega arith),
              λ h. absurd (met (subst (λ k. AreSoApart yard (offset_of f b (nth_place s k))) at h)),
            )
        | inr differ ↦
            let e = other i differ in
            let h = first.told i (omega arith) in (λ z. h.0 (sym e ∙ z), λ apart. e ∙ h.1 apart)
      ];
      rest = λ i past. other i (omega arith) ∙ first.rest i (omega arith);
    }

-- where a code of a stretch stands beside an exact block, by its position alone
same_way : (f : Exact) (b i lo hi : ℕ) (s : Stretch) → s.lo ≤ lo
    → offset_of f b (nth_place s (lo + i)) ≡ nth_offset (beside_of f b s lo hi) (lo - s.lo + i)
same_way f b i lo hi s from =
    let e : lo + i - s.lo ≡ lo - s.lo + i = omega arith in ap (nth_offset (beside_of f b s lo hi)) e

-- what is told of codes of a stretch is told of their positions
pub told_so : (yard : PlainYard) (f : Exact) (b lo hi bits : ℕ) (s : Stretch) (o : Beside) → o ≡ beside_of f b s lo hi → s.lo ≤ lo
    → TellApart yard f b s lo (hi - lo) bits → IsTold yard (record { of = o; bits = bits })
told_so yard f b lo hi bits s o is from told =
    subst (λ o. IsTold yard (record { of = o; bits = bits })) (sym is) (λ i below.
    subst (λ w. (bit_at bits i ≡ 0) ↔ AreSoApart yard w) (same_way f b i lo hi s from) (told i below))

-- and the other way round
pub told_back : (yard : PlainYard) (f : Exact) (b lo hi : ℕ) (s : Stretch) (m : Mask) → m.of ≡ beside_of f b s lo hi → s.lo ≤ lo
    → IsTold yard m → TellApart yard f b s lo (hi - lo) m.bits
told_back yard f b lo hi s m is from told i below =
    let there : IsTold yard (record { of = beside_of f b s lo hi; bits = m.bits }) =
    subst (λ o. IsTold yard (record { of = o; bits = m.bits })) is told in
    subst (λ w. (bit_at m.bits i ≡ 0) ↔ AreSoApart yard w) (sym (same_way f b i lo hi s from)) (there i below)

-- what a slot holds
pub kept_here : (yard : PlainYard) (list : List (Option Mask)) (slot : ℕ) (d : Option Mask) (m : Mask) → All (λ o. IfSome o (IsTold yard)) list
    → slot < length list → d ≡ get_or list slot d → d ≡ Some m → IsTold yard m
kept_here yard list slot d m all within at is = subst (λ o. IfSome o (IsTold yard)) (sym at ∙ is) (all slot d within)

-- codes beside an exact block whose parts are equal
pub same_beside : (o p : Beside)
    → (nat_eq o.first p.first && (nat_eq o.first_turn p.first_turn && (nat_eq o.y p.y && (nat_eq o.x p.x && (nat_eq o.second p.second
    && (nat_eq o.second_turn p.second_turn && (nat_eq o.columns p.columns && (nat_eq o.pitch p.pitch
    && (nat_eq o.skipped p.skipped && nat_eq o.count p.count))))))))) ≡ true
    → o ≡ p
same_beside o p e =
    let a = both_true _ _ e in
    let b = both_true _ _ a.1 in
    let c = both_true _ _ b.1 in
    let d = both_true _ _ c.1 in
    let f = both_true _ _ d.1 in
    let g = both_true _ _ f.1 in
    let h = both_true _ _ g.1 in
    let i = both_true _ _ h.1 in
    let j = both_true _ _ i.1 in
    ap (λ n. made n o.first_turn o.y o.x o.second o.second_turn o.columns o.pitch o.skipped o.count) (eqb-true _ _ a.0)
    ∙ ap (λ n. made p.first n o.y o.x o.second o.second_turn o.columns o.pitch o.skipped o.count) (eqb-true _ _ b.0)
    ∙ ap (λ n. made p.first p.first_turn n o.x o.second o.second_turn o.columns o.pitch o.skipped o.count) (eqb-true _ _ c.0)
    ∙ ap (λ n. made p.first p.first_turn p.y n o.second o.second_turn o.columns o.pitch o.skipped o.count) (eqb-true _ _ d.0)
    ∙ ap (λ n. made p.first p.first_turn p.y p.x n o.second_turn o.columns o.pitch o.skipped o.count) (eqb-true _ _ f.0)
    ∙ ap (λ n. made p.first p.first_turn p.y p.x p.second n o.columns o.pitch o.skipped o.count) (eqb-true _ _ g.0)
    ∙ ap (λ n. made p.first p.first_turn p.y p.x p.second p.second_turn n o.pitch o.skipped o.count) (eqb-true _ _ h.0)
    ∙ ap (λ n. made p.first p.first_turn p.y p.x p.second p.second_turn p.columns n o.skipped o.count) (eqb-true _ _ i.0)
    ∙ ap (λ n. made p.first p.first_turn p.y p.x p.second p.second_turn p.columns p.pitch n o.count) (eqb-true _ _ j.0)
    ∙ ap (λ n. made p.first p.first_turn p.y p.x p.second p.second_turn p.columns p.pitch p.skipped n) (eqb-true _ _ j.1)
  where
    made : ℕ → ℕ → ℕ → ℕ → ℕ → ℕ → ℕ → ℕ → ℕ → ℕ → Beside
    made a t y x b u c q s n = record {
      first = a;
      first_turn = t;
      y = y;
      x = x;
      second = b;
      second_turn = u;
      columns = c;
      pitch = q;
      skipped = s;
      count = n;
    }

is_zero : (n : ℕ) → IsTrue (nat_eq n 0) ↔ (n ≡ 0)
is_zero n = (λ t. eqb-true n 0 t, λ e. eq-eqb n 0 e)

is_not : (t : Bool) → IsTrue (not t) ↔ (IsTrue t → ⊥)
is_not true = (λ f t. false≢true f, λ h. absurd (h refl))
is_not false = (λ t f. false≢true f, λ h. refl)

not_zero : (n : ℕ) → n < 2 → IsTrue (not (nat_eq n 0)) ↔ (n ≡ 1)
not_zero n less =
    let no = is_not (nat_eq n 0) in
    let zero = is_zero n in (
      λ t. let differ : n ≡ 0 → ⊥ = λ e. no.0 t (zero.1 e) in elim (cases_eq n 0) [ inl e ↦ absurd (differ e) | inr other ↦ omega arith ],
      λ one. no.1 (λ z. let none = zero.0 z in omega arith),
    )

-- the bit of a code is 1 exactly where its placement clashes with the exact block
clash_bit : (yard : PlainYard) (f : Exact) (b lo n bits i : ℕ) (s : Stretch) → f.block < length yard.blocks → b < length yard.blocks
    → MayClash f.place s.place → TellApart yard f b s lo n bits → i < n → (bit_at bits i ≡ 1) ↔ ClashesAt yard f b (nth_place s (lo + i))
clash_bit yard f b lo n bits i s first second may told below =
    let zero = is_zero (bit_at bits i) in
    let one = not_zero (bit_at bits i) (bit_at-lt bits i) in
    let here = told i below in
    let met = met_so yard f b (nth_place s (lo + i)) (nat_eq (bit_at bits i) 0) first second may
    (λ t. here.0 (zero.0 t), λ h. zero.1 (here.1 h)) in (λ e. met.0 (one.1 e), λ m. one.0 (met.1 m))

-- no bit tells of no exact block
pub clash_none : (yard : PlainYard) (list : List Exact) (b lo n : ℕ) (s : Stretch) → TellClash yard (take 0 list) b s lo n 0
clash_none yard list b lo n s i below = (
  λ e. let none = bit_at-zero i in absurd (omega arith),
  λ m. let (k, f, within, is, met) = m in absurd (not_within list k within),
)
  where
    not_within : (list : List Exact) (k : ℕ) → k < length (take 0 list) → ⊥
    not_within [] k within = omega arith
    not_within (f ∷ list) k within = omega arith

-- one exact block more
one_more : (yard : PlainYard) (list : List Exact) (f : Exact) (b : ℕ) (p : Placement) → ClashesWithOne yard (list ++ f ∷ []) b p
    ↔ (ClashesWithOne yard list b p ⊎ ClashesAt yard f b p)
one_more yard list f b p = (
  λ h. let (k, g, within, is, m) = h in elim (Contains-push_cases list f g (k, within, is)) [
    | inl old ↦ let (j, inside, at) = old in inl (j, g, inside, at, m)
    | inr same ↦ inr (subst (λ g. ClashesAt yard g b p) (sym same) m)
  ],
  λ h. elim h [
    | inl old ↦ let (k, g, within, is, m) = old in
        let (j, inside, at) = Contains-append_left list (f ∷ []) g (k, within, is) in (j, g, inside, at, m)
    | inr new ↦ Any-push (λ f. ClashesAt yard f b p) list f new
  ],
)

joined : (a b c : ℕ) → c ≡ max a b → a < 2 → b < 2 → (c ≡ 1) ↔ ((a ≡ 1) ⊎ (b ≡ 1))
joined a b c is less less' = elim (cases_eq a 1) [
  | inl one ↦ (λ e. inl one, λ h. omega arith)
  | inr other ↦ (λ e. inr (omega arith), λ h. elim h [ inl one ↦ absurd (other one) | inr one ↦ omega arith ])
]

-- the step of a walk over exact blocks at one that is near
pub clash_next : (yard : PlainYard) (list : List Exact) (b lo n k bits more new : ℕ) (s : Stretch) (d : Exact) → k < length list
    → (get_or list k d).block < length yard.blocks → b < length yard.blocks → MayClash (get_or list k d).place s.place
    → TellClash yard (take k list) b s lo n bits → TellApart yard (get_or list k d) b s lo n more → new ≡ bit_or bits more
    → TellClash yard (take (k + 1) list) b s lo n new
clash_next yard list b lo n k bits more new s d within first second may told apart is i below =
    let f : Exact = get_or list k d in
    let p : Placement = nth_place s (lo + i) in
    let join = joined (bit_at bits i) (bit_at more i) (bit_at new i) (ap (λ x. bit_at x i) is ∙ bit_at_or bits more i) (bit_at-lt bits i) (bit_at-lt more i) in
    let one = clash_bit yard f b lo n more i s first second may apart below in
    let all = one_more yard (take k list) f b p in
    subst (λ xs. (bit_at new i ≡ 1) ↔ ClashesWithOne yard xs b p) (sym (take_more list k d within)) (
      λ e. all.1 (elim (join.0 e) [ inl old ↦ inl ((told i below).0 old) | inr new ↦ inr (one.0 new) ]),
      λ m. join.1 (elim (all.0 m) [ inl old ↦ inl ((told i below).1 old) | inr new ↦ inr (one.1 new) ]),
    )

-- and at one that is not
pub clash_skip : (yard : PlainYard) (list : List Exact) (b lo n k bits new : ℕ) (s : Stretch) (d : Exact) → k < length list
    → (MayClash (get_or list k d).place s.place → ⊥) → TellClash yard (take k list) b s lo n bits → new ≡ bits
    → TellClash yard (take (k + 1) list) b s lo n new
clash_skip yard list b lo n k bits new s d within far told is i below =
    let f : Exact = get_or list k d in
    let p : Placement = nth_place s (lo + i) in
    let all = one_more yard (take k list) f b p in
    let e : bit_at new i ≡ bit_at bits i = ap (λ x. bit_at x i) is in
    subst (λ xs. (bit_at new i ≡ 1) ↔ ClashesWithOne yard xs b p) (sym (take_more list k d within)) (
      λ one. all.1 (inl ((told i below).0 (sym e ∙ one))),
      λ m. elim (all.0 m) [
        | inl old ↦ e ∙ (told i below).1 old
        | inr new ↦ let c = new.clash in absurd (far (c.plate, c.first_starts, c.second_starts))
      ],
    )

-- the bit of a code of a part says whether its placement clashes
pub part_clashes : (yard : PlainYard) (exacts : List Exact) (b code : ℕ) (s : Stretch) (part : Part) → IsStretch (placements yard b) s
    → IsPart yard exacts b s part → part.lo ≤ code → code < part.hi → (bit_at part.bits (code - part.lo) ≡ 1) ↔ CodeClashes yard exacts b code
part_clashes yard exacts b code s part stretch is low below =
    let from = is.from in
    let to = is.to in
    let e : part.lo + (code - part.lo) ≡ code = omega arith in
    let told = is.bits (code - part.lo) (omega arith) in
    let at = stretch.each code (omega arith) (omega arith) in (
      λ one. (nth_place s code, at, subst (λ k. ClashesWithOne yard exacts b (nth_place s k)) e (told.0 one)),
      λ met. let (p, p_is, m) = met in
          told.1 (subst (λ k. ClashesWithOne yard exacts b (nth_place s k)) (sym e)
          (subst (ClashesWithOne yard exacts b) (same_Some p (nth_place s code) (sym p_is ∙ at)) m)),
    )

-- where no piece is near, no code of the stretch meets one
pub none_met : (yard : PlainYard) (b code : ℕ) (s : Stretch) (pieces : List ℕ) → IsStretch (placements yard b) s → AreNear yard s.place pieces
    → length pieces ≡ 0 → s.lo ≤ code → code < s.hi → MeetsSome (choices yard) b code → ⊥
none_met yard b code s pieces stretch near none low below met =
    let at = stretch.each code low below in
    let (k, i, within, is, m) = (met_near yard b code (nth_place s code) pieces at near).1 met in omega arith
