-- The record of a halved job, from the records of its halves.
use Rattle.std.proofs.Common.{◌≡◌, ℕ, zero, suc, ◌<◌, ◌≤◌, List, [], ◌∷◌, ◌++◌, length, Option, ◌⊎◌, refl, sym, subst, inl, inr, arith}
use Rattle.std.specs.Prelude.{nat_lt}
use Rattle.std.specs.List.{All, Any, Contains, filter}
use Rattle.std.proofs.lemmas.List.Elements.{All-weaker}
use Rattle.std.proofs.lemmas.Bool.{cases_lt}
use Rattle.plan_rule.specs.declared.literal.Literal.{Literal}
use Rattle.plan_rule.specs.Choices.{Choices}
use Rattle.plan_rule.specs.Boxes.{IsWhole, Covers, with_literal, exact}
use Rattle.refutation_log.specs.declared.record.Record.{Record}
use Rattle.refutation_log.specs.declared.record.Record.TheVariants.{Branch}
use Rattle.refutation_log.specs.Steps.{result_of, IsStep}
use Rattle.log_merge.specs.Merging.{RefutesBox, IsHalved, literal}

-- a list with an element changed for one of which the fact holds too
any_other : {X : Type 0} (P : X → Type 0) (xs ys : List X) (l m : X) → (P l → P m) → Any P (xs ++ l ∷ ys) → Any P (xs ++ m ∷ ys)
any_other P [] ys l m f (zero, x, i, is, h) = (0, m, omega arith, refl, f (subst P (sym is) h))
any_other P [] ys l m f (suc k, x, i, is, h) = (suc k, x, i, is, h)
any_other P (y ∷ xs) ys l m f (zero, x, i, is, h) = (0, x, omega arith, is, h)
any_other P (y ∷ xs) ys l m f (suc k, x, i, is, h) = let (j, z, i', is', h') = any_other P xs ys l m f (k, x, omega arith, is, h) in (suc j, z, omega arith, is', h')

-- what covers a side with a range covers the side with a code of the range
narrower : (c : Choices) (outer side : List Literal) (b lo hi code : ℕ) → Covers c outer (with_literal side (literal b lo hi)) → lo ≤ code → code < hi
    → Covers c outer (with_literal side (exact b code))
narrower c outer side b lo hi code cover l m =
    All-weaker (λ a. IsWhole c a ⊎ Any (Inside a) (with_literal side (literal b lo hi))) (λ a. IsWhole c a ⊎ Any (Inside a) (with_literal side (exact b code)))
    (λ a h. elim h [
      | inl whole ↦ inl whole
      | inr some_in ↦ inr (any_other (Inside a) (filter (λ m. nat_lt m.block b) side) (filter (λ m. nat_lt b m.block) side)
          (literal b lo hi) (exact b code) (λ i. (i.0, (let x = i.1 in omega arith), (let y = i.2 in omega arith))) some_in)
    ]) outer cover
  where
    Inside : Literal → Literal → Type 0
    Inside a = λ l. (l.block ≡ a.block) × (a.lo ≤ l.lo) × (l.hi ≤ a.hi)

-- the record of a halved job is a step, whatever the answer
pub halved_is_step : (c : Choices) (t : Option (List ℕ)) (log : List Record) (b lo mid hi low high : ℕ) (side : List Literal) (cites : List ℕ)
    → IsHalved c b lo mid hi side → RefutesBox c log low (with_literal side (literal b lo mid)) → RefutesBox c log high (with_literal side (literal b mid hi))
    → All (λ k. k < length log) cites → Contains cites low → Contains cites high
    → IsStep c t log (Branch b lo hi side cites)
halved_is_step c t log b lo mid hi low high side cites h (r, at, cover) (r', at', cover') earlier has_low has_high = record {
  side_is = h.side_is;
  block = h.block;
  free = h.free;
  range = inl ((let x = h.below in let y = h.above in omega arith), h.codes);
  earlier_only = earlier;
  covered = λ code l m. elim (cases_lt code mid) [
    | inl below ↦ inr (inr (inr (low, r, has_low, at, narrower c (result_of c r) side b lo mid code cover l below)))
    | inr above ↦ inr (inr (inr (high, r', has_high, at', narrower c (result_of c r') side b mid hi code cover' above m)))
  ];
}
