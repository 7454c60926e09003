-- An accepted log shows that its answer is the best.
use Rattle.std.proofs.Common.{◌≡◌, ◌≢◌, ℕ, zero, suc, ◌<◌, List, ◌∷◌, length, take, Bool, true, false, cond, Option, Some, None, refl, sym, ◌∙◌, subst, inl, inr, arith}
use Rattle.std.specs.Prelude.{◌&&◌, ◌==◌, nat_lt, slice_get}
use Rattle.std.specs.List.{All, filter}
use Rattle.std.proofs.lemmas.Bool.{eqb-true, and_parts, cond_both}
use Rattle.std.proofs.lemmas.List.Elements.{All-nil, All-append, All-cons, All-filter, All-weaker}
use Rattle.std.proofs.lemmas.Option.{same_Some, slice_get_within}
use Rattle.common_lists.proofs.ListLaws.{get_taken}
use Rattle.plan_rule.specs.declared.literal.Literal.{Literal}
use Rattle.plan_rule.specs.Choices.{Choices, blocks, count}
use Rattle.plan_rule.specs.Plans.{code_of, IsPlan, IsFeasible, IsBest, IsAnswer, IsNotBefore}
use Rattle.plan_rule.specs.Boxes.{IsBox, IsLiteral, Holds, LeavesFree, exact, with_literal}
use Rattle.plan_rule.proofs.BoundLaws.{exact-all, base-at_most, fit-at_most, refuted, held_code, held_block}
use Rattle.plan_rule.proofs.EnergyLaws.{IsPacked, energy-at_most}
use Rattle.plan_rule.proofs.BoxLaws.{HoldsCode, held_with, held_without, held_covered}
use Rattle.shape_exact.specs.Yards.{PlainYard, IsYard}
use Rattle.plan_rule.specs.Yards.{choices}
use Rattle.plan_rule.proofs.YardLaws.{packed}
use Rattle.refutation_log.specs.declared.record.Record.{Record}
use Rattle.refutation_log.specs.declared.record.Record.TheVariants.{Branch, Fit, Energy}
use Rattle.refutation_log.specs.Steps.{result_of, IsBranch, IsStep, IsStepAt, IsAccepted}

-- the record's result holds no feasible plan before the answer
abbrev pub Shows : Choices → Option (List ℕ) → Record → Type 0
Shows c t r = (q : List ℕ) → IsFeasible c q → Holds (result_of c r) q → IsNotBefore c q t

-- the record's result has blocks that exist
abbrev pub Exists : Choices → List Literal → Type 0
Exists c box = All (λ l. l.block < blocks c) box

exist-box : (c : Choices) (box : List Literal) → IsBox c box → Exists c box
exist-box c box w = All-weaker (IsLiteral c) (λ l. l.block < blocks c) (λ l h. h.block) box w.each

exist-with : (c : Choices) (box : List Literal) (l : Literal) → Exists c box → l.block < blocks c → Exists c (with_literal box l)
exist-with c box l h k =
    All-append (λ l. l.block < blocks c) (filter (λ m. nat_lt m.block l.block) box) (l ∷ filter (λ m. nat_lt l.block m.block) box)
    (All-filter (λ m. nat_lt m.block l.block) (λ l. l.block < blocks c) box h)
    (All-cons (λ l. l.block < blocks c) l (filter (λ m. nat_lt l.block m.block) box) k (All-filter (λ m. nat_lt l.block m.block) (λ l. l.block < blocks c) box h))

-- the blocks of a result exist
exist-result : (c : Choices) (t : Option (List ℕ)) (earlier : List Record) (r : Record) → IsStep c t earlier r → Exists c (result_of c r)
exist-result c t earlier (Branch b lo hi side cites) s =
    cond_both ((lo == 0) && (hi == count c b)) side (with_literal side (record { block = b; lo = lo; hi = hi })) (Exists c)
    (λ _. exist-box c side s.side_is) (λ _. exist-with c side _ (exist-box c side s.side_is) s.block)
exist-result c t earlier (Fit side) s = exist-box c side s.0
exist-result c t earlier (Energy from to side) s = exist-box c side s.0

-- a plan in a side, or in a side with a literal more, is in the side and has a code in the literal's range
pub either_held : (l : Literal) (side : List Literal) (q : List ℕ) (whole : Bool) → LeavesFree side l.block → (whole ≡ true → HoldsCode q l)
    → Holds (cond whole side (with_literal side l)) q → Holds side q × HoldsCode q l
either_held l side q true free w h = (h, w refl)
either_held l side q false free w h = held_without side l q free h

-- a plan in a branch's result is in its side, with a code in its range
branch_held : (c : Choices) (t : Option (List ℕ)) (earlier : List Record) (b lo hi : ℕ) (side : List Literal) (cites : List ℕ) (q : List ℕ)
    → IsBranch c t earlier b lo hi side cites → IsPlan c q → Holds (result_of c (Branch b lo hi side cites)) q
    → Holds side q × HoldsCode q (record { block = b; lo = lo; hi = hi })
branch_held c t earlier b lo hi side cites q s p h =
    either_held (record { block = b; lo = lo; hi = hi }) side q ((lo == 0) && (hi == count c b)) s.free
    (λ e. let two = and_parts (lo == 0) (hi == count c b) e in
    let z = eqb-true lo 0 two.0 in let w = eqb-true hi (count c b) two.1 in let l = p.in_range b s.block in
    (omega arith, omega arith)) h

-- a step shows its result, where the earlier records show theirs
step_shows : (c : Choices) (t : Option (List ℕ)) (earlier : List Record) (r : Record) → IsPacked c → IsAnswer c t
    → ((k : ℕ) (e : Record) → slice_get earlier k ≡ Some e → Shows c t e × Exists c (result_of c e))
    → IsStep c t earlier r → Shows c t r
step_shows c t earlier (Branch b lo hi side cites) en a before s q p h =
    let (held, range) = branch_held c t earlier b lo hi side cites q s p.is_plan h in
    let inside : Holds (with_literal side (exact b (code_of q b))) q =
    held_with side (exact b (code_of q b)) q held (omega arith, omega arith) in
    elim (s.covered (code_of q b) range.0 range.1) [
      | inl clash ↦
          let (x, d, fixes, clashes) = clash in
          let other : x ≢ b = exact-all (λ l. l.block ≢ b) side x d s.free fixes in
          absurd (p.clear x b (held_block c side x d s.side_is fixes) s.block other
          (subst (λ d. c.Clash x d b (code_of q b)) (sym (held_code side q x d held fixes)) clashes))
      | inr others ↦ elim others [
        | inl meets ↦ absurd (p.unmet b s.block meets)
        | inr more ↦ elim more [
          | inl bound ↦
              let (k, is, ref) = bound in
              refuted c t (with_literal side (exact b (code_of q b))) q k a p.is_plan inside
              (base-at_most c (with_literal side (exact b (code_of q b))) q k p.is_plan inside is) ref
          | inr cited ↦
              let (k, e, cites, at, cover) = cited in
              let (shows, exist) = before k e at in
              shows q p (held_covered c (result_of c e) (with_literal side (exact b (code_of q b))) q exist p.is_plan cover inside)
        ]
      ]
    ]
step_shows c t earlier (Fit side) en a before (w, (k, is, ref)) q p h =
    refuted c t side q k a p.is_plan h (fit-at_most c side q k w p h is) ref
step_shows c t earlier (Energy from to side) en a before (w, first, last, (k, is, ref)) q p h =
    refuted c t side q k a p.is_plan h (energy-at_most c from to side k q en is p h) ref

-- each record of a list of steps shows its result
steps_show : (c : Choices) (t : Option (List ℕ)) (log : List Record) (n : ℕ) → IsPacked c → IsAnswer c t
    → ((i : ℕ) → i < n → i < length log → IsStepAt c t log i) → (i : ℕ) (r : Record) → i < n → slice_get log i ≡ Some r
    → Shows c t r × Exists c (result_of c r)
steps_show c t log zero en a steps i r l e = absurd (omega arith)
steps_show c t log (suc n) en a steps i r l e =
    let (r', f, step) = steps i l (slice_get_within log i r e) in
    let step : IsStep c t (take i log) r = subst (IsStep c t (take i log)) (same_Some r' r (sym f ∙ e)) step in (
      step_shows c t (take i log) r en a
          (λ k e' at. let (m, g) = get_taken log i k e' at in
          steps_show c t log n en a (λ j m'. steps j (omega arith)) k e' (omega arith) g) step,
      exist-result c t (take i log) r step,
    )

-- the answer of an accepted log is the best
best_from : (c : Choices) (t : Option (List ℕ)) → IsAnswer c t → ((q : List ℕ) → IsFeasible c q → IsNotBefore c q t) → IsBest c t
best_from c None a h = h
best_from c (Some p) a h = (a, h)

pub accepted_is_best : (c : Choices) (t : Option (List ℕ)) (log : List Record) → IsPacked c → IsAccepted c t log → IsBest c t
accepted_is_best c t log en h = best_from c t h.answer (λ q p.
    let (i, r, e, at, nil) = h.last in
    (steps_show c t log (length log) en h.answer (λ j _. h.steps j) i r (omega arith) at).0 q p
    (subst (λ box. Holds box q) (sym nil) (All-nil (HoldsCode q))))

-- the same of a yard
pub accepted_of_yard : (yard : PlainYard) (t : Option (List ℕ)) (log : List Record) → IsYard yard → IsAccepted (choices yard) t log → IsBest (choices yard) t
accepted_of_yard yard t log fit h = accepted_is_best (choices yard) t log (packed yard fit) h
