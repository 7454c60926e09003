-- What is read is spelled so, and what is spelled so is read: literals, citations and records.
use Rattle.std.proofs.Common.{◌≡◌, ℕ, ◌+◌, ◌-◌, ◌^◌, ◌<◌, ◌≤◌, ◌⊎◌, Bool, true, false, cond, eqb, leb, ◌&&◌, List, [], ◌∷◌, ◌++◌, Option, Some, None, refl, sym, ap, subst, ◌∙◌, inl, inr, arith}
use Rattle.std.specs.Prelude.{codes}
use Rattle.std.specs.Fmt.{decimal}
use Rattle.std.specs.Str.{bytes_eq}
use Rattle.std.proofs.lemmas.Bool.{cases_Bool, and_parts, eqb-true, leb-true, le-leb}
use Rattle.std.proofs.lemmas.Bool.Decides.{nat_tests, eqb_tells}
use Rattle.std.proofs.lemmas.Option.{none-some, same_Some, cond_some, option_and_then_some}
use Rattle.std.proofs.lemmas.Slice.Eq.{bytes_eq-Decides}
use Rattle.code_table.specs.Sizes.{most_placements}
use Rattle.plan_rule.specs.declared.literal.Literal.{Literal}
use Rattle.refutation_log.specs.declared.record.Record.{Record}
use Rattle.refutation_log.specs.declared.record.Record.TheVariants.{Branch, Fit, Energy}
use Rattle.text_parts.specs.Parts.{◌>>=◌, cut, number_of}
use Rattle.refutation_log.specs.Citations.{AreCites}
use Rattle.refutation_log.specs.Spelling.{span_text, literal_text, side_text, cites_text, record_text, IsLiteral, IsSide, HasText}
use Rattle.text_parts.specs.Parts.{field}
use Rattle.refutation_log.specs.Reading.{span_at, span_of, literal_of, cite_of, side_of, cites_of, branch_of, fit_of, energy_of, record_after, record_of}
use Rattle.text_parts.proofs.OptionLaws.{bind_some}
use Rattle.text_parts.proofs.NumberLaws.{number-takes, number-again, if_some}
use Rattle.text_parts.proofs.CutLaws.{Lacks, cut-takes, cut-again, cut-whole}
use Rattle.text_parts.proofs.FieldLaws.{Within, within_append, within_wider, lacks_below, lacks_above, decimal_within, field-takes, field-again}
use Rattle.refutation_log.proofs.SpelledLaws.{Spells, list-takes, list-again, list_within}

-- ---- spans

abbrev lit : ℕ → ℕ → ℕ → Literal
lit block lo hi = record { block = block; lo = lo; hi = hi }

abbrev IsSpan : ℕ → List ℕ → Literal → Type 0
IsSpan block t l = (t ≡ span_text l.lo l.hi) × (l.block ≡ block) × (l.lo < l.hi) × (l.hi ≤ most_placements)

one_code : (block lo : ℕ) (t : List ℕ) → t ≡ decimal lo → lo ≤ most_placements - 1 → IsSpan block t (lit block lo (lo + 1))
one_code block lo t e le =
    let same : eqb (lo + 1) (lo + 1) ≡ true = grind (arith, nat_tests) in
    (rw same e, refl, omega arith, omega arith)

more_codes : (block lo hi : ℕ) (t : List ℕ) → t ≡ decimal lo ++ 46 ∷ 46 ∷ decimal hi → lo + 2 ≤ hi → hi ≤ most_placements → IsSpan block t (lit block lo hi)
more_codes block lo hi t e le top =
    let other : eqb hi (lo + 1) ≡ false = grind (arith, nat_tests) in
    (rw other e, refl, omega arith, top)

span-at : (block : ℕ) (t : List ℕ) (o : Option (List ℕ × List ℕ)) (l : Literal) → cut 46 t ≡ o → span_at block t o ≡ Some l → IsSpan block t l
span-at block t None l cuts e =
    let (lo, found, made) = bind_some (number_of (most_placements - 1) t) (λ lo. Some (lit block lo (lo + 1))) l e in
    let n = number-takes (most_placements - 1) lo t (omega arith) found in
    subst (λ (m : Literal). IsSpan block t m) (same_Some (lit block lo (lo + 1)) l made) (one_code block lo t n.0 n.1)
span-at block t (Some (lo, [])) l cuts e = absurd (none-some l e)
span-at block t (Some (lo, c ∷ hi)) l cuts e =
    let whole = (cut-takes 46 t (lo, c ∷ hi) cuts).whole in
    let (dot, more) = if_some (eqb c 46) (number_of most_placements lo >>= λ a. number_of most_placements hi >>= λ b. cond (leb (a + 2) b) (Some (lit block a b)) None) l e in
    let (a, found_a, rest) = bind_some (number_of most_placements lo) (λ a. number_of most_placements hi >>= λ b. cond (leb (a + 2) b) (Some (lit block a b)) None) l more in
    let (b, found_b, last) = bind_some (number_of most_placements hi) (λ b. cond (leb (a + 2) b) (Some (lit block a b)) None) l rest in
    let (le, made) = cond_some (leb (a + 2) b) (lit block a b) l last in
    let n = number-takes most_placements a lo (omega arith) found_a in
    let m = number-takes most_placements b hi (omega arith) found_b in
    let is : t ≡ decimal a ++ 46 ∷ 46 ∷ decimal b = whole ∙ ap (λ (d : ℕ). lo ++ 46 ∷ d ∷ hi) (eqb-true c 46 dot) ∙ ap (λ (s : List ℕ). s ++ 46 ∷ 46 ∷ hi) n.0 ∙ ap (λ (s : List ℕ). decimal a ++ 46 ∷ 46 ∷ s) m.0 in
    subst (λ (k : Literal). IsSpan block t k) made (more_codes block a b t is (leb-true (a + 2) b le) m.1)

span-again : (block lo hi : ℕ) → lo < hi → hi ≤ most_placements → span_of block (span_text lo hi) ≡ Some (lit block lo hi)
unfolding span_of
span-again block lo hi lt top =
    let number = decimal_within lo (omega arith) in
    let lacks = lacks_below 46 48 57 (decimal lo) (omega arith) number in
    elim (eqb_tells hi (lo + 1)) [
      | inl (t, same) ↦ rw (t, cut-whole 46 (decimal lo) lacks, number-again (most_placements - 1) lo (omega arith) (omega arith)) (ap (λ (h : ℕ). Some (lit block lo h)) (sym same))
      | inr (t, other) ↦
          let le : leb (lo + 2) hi ≡ true = le-leb (lo + 2) hi (omega arith) in
          rw (t, cut-again 46 (decimal lo) (46 ∷ decimal hi) lacks, number-again most_placements lo (omega arith) (omega arith), number-again most_placements hi (omega arith) (omega arith), le) refl
    ]

span_within : (lo hi : ℕ) → lo < hi → hi ≤ most_placements → Within 46 58 (span_text lo hi)
span_within lo hi lt top =
    let a = within_wider 48 57 46 58 (decimal lo) (omega arith) (omega arith) (decimal_within lo (omega arith)) in
    let b = within_wider 48 57 46 58 (decimal hi) (omega arith) (omega arith) (decimal_within hi (omega arith)) in
    elim (cases_Bool (eqb hi (lo + 1))) [
      | inl t ↦ rw t a
      | inr t ↦ rw t (within_append 46 58 (decimal lo) (46 ∷ 46 ∷ decimal hi) a ((omega arith, omega arith), ((omega arith, omega arith), b)))
    ]

-- ---- numbers, literals and citations

number_spells : (limit : ℕ) → limit < 2 ^ 64 → (t : List ℕ) (n : ℕ) → number_of limit t ≡ Some n → (t ≡ decimal n) × (n ≤ limit)
number_spells limit wide t n e = number-takes limit n t wide e

number_field : (limit n sep : ℕ) (rest : List ℕ) → limit < 2 ^ 64 → n ≤ limit → (sep < 48) ⊎ (57 < sep) → field (number_of limit) sep (decimal n ++ sep ∷ rest) ≡ Some (n, rest)
number_field limit n sep rest wide le apart =
    let digits = decimal_within n (omega arith) in
    let lacks : Lacks sep (decimal n) = elim apart [ inl lt ↦ lacks_below sep 48 57 (decimal n) lt digits | inr gt ↦ lacks_above sep 48 57 (decimal n) gt digits ] in
    field-again (number_of limit) (decimal n) n sep rest lacks (number-again limit n wide le)

literal-takes : (t : List ℕ) (l : Literal) → literal_of t ≡ Some l → (t ≡ literal_text l) × IsLiteral l
unfolding literal_of literal_text span_of
literal-takes t l e =
    let (b, found, more) = bind_some (field (number_of 31) 58 t) (λ b. span_of b.0 b.1) l e in
    let f = field-takes (number_of 31) decimal (λ n. n ≤ 31) (number_spells 31 (omega arith)) 58 t b found in
    let s = span-at b.0 b.1 (cut 46 b.1) l refl more in
    (f.0 ∙ ap (λ (n : ℕ). decimal n ++ 58 ∷ b.1) (sym s.1) ∙ ap (λ (r : List ℕ). decimal l.block ++ 58 ∷ r) s.0, record { block = omega (arith, s.1, f.1); span = s.2; hi = s.3 })

literal-again : (l : Literal) → IsLiteral l → literal_of (literal_text l) ≡ Some l
unfolding literal_of literal_text
literal-again l is = rw (number_field 31 l.block 58 (span_text l.lo l.hi) (omega arith) is.block (inr (omega arith))) (span-again l.block l.lo l.hi is.span is.hi)

literal_within : (l : Literal) → IsLiteral l → Within 46 58 (literal_text l)
unfolding literal_text
literal_within l is =
    within_append 46 58 (decimal l.block) (58 ∷ span_text l.lo l.hi) (within_wider 48 57 46 58 (decimal l.block) (omega arith) (omega arith) (decimal_within l.block (omega (arith, is.block))))
    ((omega arith, omega arith), span_within l.lo l.hi is.span is.hi)

literals : Spells literal_of literal_text IsLiteral
literals = record { takes = literal-takes; again = literal-again; bytes = literal_within }

cites : Spells cite_of decimal (λ k. k < 10 ^ 18)
unfolding cite_of
cites = record {
  takes = λ t n e. let h = number-takes 999999999999999999 n t (omega arith) e in (h.0, omega (arith, h.1));
  again = λ n lt. number-again 999999999999999999 n (omega arith) (omega arith);
  bytes = λ n lt. within_wider 48 57 46 58 (decimal n) (omega arith) (omega arith) (decimal_within n (omega arith));
}

abbrev block_of : Literal → ℕ
block_of l = l.block

pub side-takes : (t : List ℕ) (side : List Literal) → side_of t ≡ Some side → (t ≡ side_text side) × IsSide side
unfolding side_of side_text
side-takes t side e = let h = list-takes block_of literal_of literal_text IsLiteral literals t side e in (h.0, (h.1, h.2))

side-again : (side : List Literal) → IsSide side → side_of (side_text side) ≡ Some side
unfolding side_of side_text
side-again side is = list-again block_of literal_of literal_text IsLiteral literals side is.0 is.1

side_within : (side : List Literal) → IsSide side → Within 44 58 (side_text side)
unfolding side_text
side_within side is = list_within block_of literal_of literal_text IsLiteral literals side is.1

pub cites-takes : (t ks : List ℕ) → cites_of t ≡ Some ks → (t ≡ cites_text ks) × AreCites ks
unfolding cites_of cites_text
cites-takes t ks e = let h = list-takes (λ k. k) cite_of decimal (λ k. k < 10 ^ 18) cites t ks e in (h.0, (h.1, h.2))

cites-again : (ks : List ℕ) → AreCites ks → cites_of (cites_text ks) ≡ Some ks
unfolding cites_of cites_text
cites-again ks is = list-again (λ k. k) cite_of decimal (λ k. k < 10 ^ 18) cites ks is.0 is.1

cites_within : (ks : List ℕ) → AreCites ks → Within 44 58 (cites_text ks)
unfolding cites_text
cites_within ks is = list_within (λ k. k) cite_of decimal (λ k. k < 10 ^ 18) cites ks is.1

-- ---- records

below_field : (limit : ℕ) → limit < 2 ^ 64 → (bs : List ℕ) (y : ℕ × List ℕ) → field (number_of limit) 32 bs ≡ Some y → (bs ≡ decimal y.0 ++ 32 ∷ y.1) × (y.0 ≤ limit)
below_field limit wide bs y e = field-takes (number_of limit) decimal (λ n. n ≤ limit) (number_spells limit wide) 32 bs y e

-- a text that begins with a field
abbrev begins : List ℕ → List ℕ → List ℕ
begins front rest = front ++ 32 ∷ rest

branch_parts : (t : List ℕ) (block lo hi : ℕ × List ℕ) (side : List Literal × List ℕ) (ks : List ℕ)
    → field (number_of 31) 32 t ≡ Some block → field (number_of most_placements) 32 block.1 ≡ Some lo → field (number_of most_placements) 32 lo.1 ≡ Some hi
    → field side_of 32 hi.1 ≡ Some side → cites_of side.1 ≡ Some ks → lo.0 ≤ hi.0
    → (begins (codes "branch") t ≡ record_text (Branch block.0 lo.0 hi.0 side.0 ks)) × HasText (Branch block.0 lo.0 hi.0 side.0 ks)
unfolding record_text
branch_parts t block lo hi side ks e1 e2 e3 e4 e5 le =
    let t1 = below_field 31 (omega arith) t block e1 in
    let t2 = below_field most_placements (omega arith) block.1 lo e2 in
    let t3 = below_field most_placements (omega arith) lo.1 hi e3 in
    let t4 = field-takes side_of side_text IsSide side-takes 32 hi.1 side e4 in
    let t5 = cites-takes side.1 ks e5 in
    let whole = t1.0 ∙ ap (begins (decimal block.0)) (t2.0 ∙ ap (begins (decimal lo.0)) (t3.0 ∙ ap (begins (decimal hi.0)) (t4.0 ∙ ap (begins (side_text side.0)) t5.0))) in
    (ap (begins (codes "branch")) whole, (t1.1, le, t3.1, t4.1, t5.1))

branch-takes : (t : List ℕ) (r : Record) → branch_of t ≡ Some r → (begins (codes "branch") t ≡ record_text r) × HasText r
unfolding branch_of
branch-takes t r e =
    option_and_then_some (λ (block : ℕ × List ℕ). field (number_of most_placements) 32 block.1 >>= λ lo. field (number_of most_placements) 32 lo.1 >>= λ hi. field side_of 32 hi.1 >>= λ side. cites_of side.1 >>= λ cites. cond (leb lo.0 hi.0) (Some (Branch block.0 lo.0 hi.0 side.0 cites)) None) (field (number_of 31) 32 t) r e (λ block e1 m1.
    option_and_then_some (λ (lo : ℕ × List ℕ). field (number_of most_placements) 32 lo.1 >>= λ hi. field side_of 32 hi.1 >>= λ side. cites_of side.1 >>= λ cites. cond (leb lo.0 hi.0) (Some (Branch block.0 lo.0 hi.0 side.0 cites)) None) (field (number_of most_placements) 32 block.1) r m1 (λ lo e2 m2.
    option_and_then_some (λ (hi : ℕ × List ℕ). field side_of 32 hi.1 >>= λ side. cites_of side.1 >>= λ cites. cond (leb lo.0 hi.0) (Some (Branch block.0 lo.0 hi.0 side.0 cites)) None) (field (number_of most_placements) 32 lo.1) r m2 (λ hi e3 m3.
    option_and_then_some (λ (side : List Literal × List ℕ). cites_of side.1 >>= λ cites. cond (leb lo.0 hi.0) (Some (Branch block.0 lo.0 hi.0 side.0 cites)) None) (field side_of 32 hi.1) r m3 (λ side e4 m4.
    option_and_then_some (λ (ks : List ℕ). cond (leb lo.0 hi.0) (Some (Branch block.0 lo.0 hi.0 side.0 ks)) None) (cites_of side.1) r m4 (λ ks e5 m5.
    let c = cond_some (leb lo.0 hi.0) (Branch block.0 lo.0 hi.0 side.0 ks) r m5 in
    subst (λ (q : Record). (begins (codes "branch") t ≡ record_text q) × HasText q) c.1 (branch_parts t block lo hi side ks e1 e2 e3 e4 e5 (leb-true lo.0 hi.0 c.0)))))))

fit-takes : (t : List ℕ) (r : Record) → fit_of t ≡ Some r → (begins (codes "fit") t ≡ record_text r) × HasText r
unfolding fit_of record_text
fit-takes t r e =
    let (side, found, made) = bind_some (side_of t) (λ side. Some (Fit side)) r e in
    let h = side-takes t side found in
    subst (λ (q : Record). (begins (codes "fit") t ≡ record_text q) × HasText q) (same_Some (Fit side) r made) (ap (begins (codes "fit")) h.0, h.1)

energy_parts : (t : List ℕ) (from to : ℕ × List ℕ) (side : List Literal) → field (number_of 399) 32 t ≡ Some from → field (number_of 399) 32 from.1 ≡ Some to → side_of to.1 ≡ Some side → from.0 ≤ to.0
    → (begins (codes "energy") t ≡ record_text (Energy from.0 to.0 side)) × HasText (Energy from.0 to.0 side)
unfolding record_text
energy_parts t from to side e1 e2 e3 le =
    let t1 = below_field 399 (omega arith) t from e1 in
    let t2 = below_field 399 (omega arith) from.1 to e2 in
    let t3 = side-takes to.1 side e3 in
    (ap (begins (codes "energy")) (t1.0 ∙ ap (begins (decimal from.0)) (t2.0 ∙ ap (begins (decimal to.0)) t3.0)), (le, t2.1, t3.1))

energy-takes : (t : List ℕ) (r : Record) → energy_of t ≡ Some r → (begins (codes "energy") t ≡ record_text r) × HasText r
unfolding energy_of
energy-takes t r e =
    option_and_then_some (λ (from : ℕ × List ℕ). field (number_of 399) 32 from.1 >>= λ to. side_of to.1 >>= λ side. cond (leb from.0 to.0) (Some (Energy from.0 to.0 side)) None) (field (number_of 399) 32 t) r e (λ from e1 m1.
    option_and_then_some (λ (to : ℕ × List ℕ). side_of to.1 >>= λ side. cond (leb from.0 to.0) (Some (Energy from.0 to.0 side)) None) (field (number_of 399) 32 from.1) r m1 (λ to e2 m2.
    option_and_then_some (λ (side : List Literal). cond (leb from.0 to.0) (Some (Energy from.0 to.0 side)) None) (side_of to.1) r m2 (λ side e3 m3.
    let c = cond_some (leb from.0 to.0) (Energy from.0 to.0 side) r m3 in
    subst (λ (q : Record). (begins (codes "energy") t ≡ record_text q) × HasText q) c.1 (energy_parts t from to side e1 e2 e3 (leb-true from.0 to.0 c.0)))))

pub record-takes : (line : List ℕ) (r : Record) → record_of line ≡ Some r → (line ≡ record_text r) × HasText r
unfolding record_of
record-takes line r e =
    let (p, cuts, more) = bind_some (cut 32 line) (λ p. record_after p.0 p.1) r e in
    let whole = (cut-takes 32 line p cuts).whole in
    elim (cases_Bool (bytes_eq p.0 (codes "branch"))) [
      | inl t ↦ let h = branch-takes p.1 r (rw t at more) in (whole ∙ ap (λ (w : List ℕ). w ++ 32 ∷ p.1) ((bytes_eq-Decides p.0 (codes "branch")).0 t) ∙ h.0, h.1)
      | inr f ↦ elim (cases_Bool (bytes_eq p.0 (codes "fit"))) [
        | inl t ↦ let h = fit-takes p.1 r (rw (f, t) at more) in (whole ∙ ap (λ (w : List ℕ). w ++ 32 ∷ p.1) ((bytes_eq-Decides p.0 (codes "fit")).0 t) ∙ h.0, h.1)
        | inr g ↦ elim (cases_Bool (bytes_eq p.0 (codes "energy"))) [
          | inl t ↦ let h = energy-takes p.1 r (rw (f, g, t) at more) in (whole ∙ ap (λ (w : List ℕ). w ++ 32 ∷ p.1) ((bytes_eq-Decides p.0 (codes "energy")).0 t) ∙ h.0, h.1)
          | inr k ↦ let bad : None ≡ Some r = rw (f, g, k) at more in absurd (none-some r bad)
        ]
      ]
    ]

side_field : (side : List Literal) (rest : List ℕ) → IsSide side → field side_of 32 (side_text side ++ 32 ∷ rest) ≡ Some (side, rest)
side_field side rest is = field-again side_of (side_text side) side 32 rest (lacks_below 32 44 58 (side_text side) (omega arith) (side_within side is)) (side-again side is)

branch-again : (block lo hi : ℕ) (side : List Literal) (ks : List ℕ) → HasText (Branch block lo hi side ks)
    → branch_of (begins (decimal block) (begins (decimal lo) (begins (decimal hi) (begins (side_text side) (cites_text ks))))) ≡ Some (Branch block lo hi side ks)
unfolding branch_of
branch-again block lo hi side ks h =
    rw (
      number_field 31 block 32 (begins (decimal lo) (begins (decimal hi) (begins (side_text side) (cites_text ks)))) (omega arith) h.0 (inl (omega arith)),
      number_field most_placements lo 32 (begins (decimal hi) (begins (side_text side) (cites_text ks))) (omega arith) (omega (arith, h.1, h.2)) (inl (omega arith)),
      number_field most_placements hi 32 (begins (side_text side) (cites_text ks)) (omega arith) h.2 (inl (omega arith)),
      side_field side (cites_text ks) h.3,
      cites-again ks h.4,
      le-leb lo hi h.1,
    ) refl

energy-again : (from to : ℕ) (side : List Literal) → HasText (Energy from to side) → energy_of (begins (decimal from) (begins (decimal to) (side_text side))) ≡ Some (Energy from to side)
unfolding energy_of
energy-again from to side h =
    rw (
      number_field 399 from 32 (begins (decimal to) (side_text side)) (omega arith) (omega (arith, h.0, h.1)) (inl (omega arith)),
      number_field 399 to 32 (side_text side) (omega arith) h.1 (inl (omega arith)),
      side-again side h.2,
      le-leb from to h.0,
    ) refl

pub record-again : (r : Record) → HasText r → record_of (record_text r) ≡ Some r
unfolding record_of record_text fit_of
record-again (Branch block lo hi side ks) h = branch-again block lo hi side ks h
record-again (Fit side) h = rw (side-again side h) refl
record-again (Energy from to side) h = energy-again from to side h

-- ---- lines have no line feed, and are not `end`

spaced : (high : ℕ) (front rest : List ℕ) → 32 ≤ high → Within 32 high front → Within 32 high rest → Within 32 high (begins front rest)
spaced high front rest le f r = within_append 32 high front (32 ∷ rest) f ((omega arith, le), r)

number_line : (n : ℕ) → n < 2 ^ 64 → Within 32 122 (decimal n)
number_line n wide = within_wider 48 57 32 122 (decimal n) (omega arith) (omega arith) (decimal_within n wide)

side_line : (side : List Literal) → IsSide side → Within 32 122 (side_text side)
side_line side is = within_wider 44 58 32 122 (side_text side) (omega arith) (omega arith) (side_within side is)

cites_line : (ks : List ℕ) → AreCites ks → Within 32 122 (cites_text ks)
cites_line ks is = within_wider 44 58 32 122 (cites_text ks) (omega arith) (omega arith) (cites_within ks is)

abbrev is_within : ℕ → ℕ → List ℕ → Bool
is_within low high [] = true
is_within low high (b ∷ bs) = leb low b && (leb b high && is_within low high bs)

within_from : (low high : ℕ) (text : List ℕ) → is_within low high text ≡ true → Within low high text
within_from low high [] e = tt
within_from low high (b ∷ bs) e =
    let (low_is, more) = and_parts (leb low b) (leb b high && is_within low high bs) e in
    let (high_is, rest) = and_parts (leb b high) (is_within low high bs) more in
    ((leb-true low b low_is, leb-true b high high_is), within_from low high bs rest)

pub record_line : (r : Record) → HasText r → Lacks 10 (record_text r)
unfolding record_text
record_line (Branch block lo hi side ks) h =
    lacks_below 10 32 122 (begins (codes "branch") (begins (decimal block) (begins (decimal lo) (begins (decimal hi) (begins (side_text side) (cites_text ks)))))) (omega arith)
    (spaced 122 (codes "branch") (begins (decimal block) (begins (decimal lo) (begins (decimal hi) (begins (side_text side) (cites_text ks))))) (omega arith) (within_from 32 122 (codes "branch") refl)
    (spaced 122 (decimal block) (begins (decimal lo) (begins (decimal hi) (begins (side_text side) (cites_text ks)))) (omega arith) (number_line block (omega (arith, h.0)))
    (spaced 122 (decimal lo) (begins (decimal hi) (begins (side_text side) (cites_text ks))) (omega arith) (number_line lo (omega (arith, h.1, h.2)))
    (spaced 122 (decimal hi) (begins (side_text side) (cites_text ks)) (omega arith) (number_line hi (omega (arith, h.2)))
    (spaced 122 (side_text side) (cites_text ks) (omega arith) (side_line side h.3) (cites_line ks h.4))))))
record_line (Fit side) h =
    lacks_below 10 32 122 (begins (codes "fit") (side_text side)) (omega arith) (spaced 122 (codes "fit") (side_text side) (omega arith) (within_from 32 122 (codes "fit") refl) (side_line side h))
record_line (Energy from to side) h =
    lacks_below 10 32 122 (begins (codes "energy") (begins (decimal from) (begins (decimal to) (side_text side)))) (omega arith)
    (spaced 122 (codes "energy") (begins (decimal from) (begins (decimal to) (side_text side))) (omega arith) (within_from 32 122 (codes "energy") refl)
    (spaced 122 (decimal from) (begins (decimal to) (side_text side)) (omega arith) (number_line from (omega (arith, h.0, h.1)))
    (spaced 122 (decimal to) (side_text side) (omega arith) (number_line to (omega (arith, h.1))) (side_line side h.2))))

pub record_is_no_end : (r : Record) → bytes_eq (record_text r) (codes "end") ≡ false
unfolding record_text
record_is_no_end (Branch block lo hi side ks) = refl
record_is_no_end (Fit side) = refl
record_is_no_end (Energy from to side) = refl
