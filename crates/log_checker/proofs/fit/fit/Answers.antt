use Rattle.std.proofs.Common.{◌≡◌, ℕ, ◌+◌, ◌-◌, ◌<◌, List, Option, None, sym, subst, inl, inr, arith, refl}
use Rattle.std.proofs.lemmas.Bool.{cases_lt}
use Rattle.plan_rule.specs.declared.literal.Literal.{Literal}
use Rattle.plan_rule.specs.Choices.{Choices, blocks}
use Rattle.plan_rule.specs.Bounds.{MayFit}
use Rattle.plan_rule.specs.Yards.{choices}
use Rattle.plan_rule.proofs.TellLaws.{told}
use Rattle.plan_rule.proofs.RestLaws.{sum_more}
use Rattle.log_checker.specs.ExactBlocks.{AreExact}
use Rattle.log_checker.specs.Leasts.{IsFitUpTo}
use Rattle.log_checker.proofs.FitExistLaws.{fit_exists}
use Rattle.log_checker.proofs.FitLaws.{above_by_next, above_by_rest, never_fits, rest_has, rest_next, rest_start}
use Rattle.log_checker.proofs.fit.fit.Goals as goal

none : (c : Choices) (side : List Literal) (limit : ℕ) (o : Option ℕ) → o ≡ None → IsFitUpTo c side limit None → IsFitUpTo c side limit o
none c side limit o e h = subst (IsFitUpTo c side limit) (sym e) h

pub returns-in_err-rest-clause-value : goal.returns-in_err-rest-clause-value
returns-in_err-rest-clause-value c =
    let (b, l, lacks) = c.in_err-rest.ensures.base in
    none (choices c.args.codes.now) c.args.side.now c.args.limit _ c.from_residual.ensures
    (never_fits (choices c.args.codes.now) c.args.side.now c.args.limit b l lacks)

pub returns-in_err-rest-2-clause-value : goal.returns-in_err-rest-2-clause-value
returns-in_err-rest-2-clause-value c =
    none (choices c.args.codes.now) c.args.side.now c.args.limit _ c.from_residual-in_err-rest-2.ensures
    (never_fits (choices c.args.codes.now) c.args.side.now c.args.limit c.loop-block.block (omega arith) c.in_err-rest-2.ensures.least)

pub overflow_sub-rest : goal.overflow_sub-rest
overflow_sub-rest c =
    rest_has (choices c.args.codes.now) c.args.side.now c.loop-block.block c.loop-block.rest c.in_ok-rest-2.field-0 (omega arith)
    c.loop-block.invariant.rest c.in_ok-rest-2.ensures.least

pub returns-in_err-left-clause-value : goal.returns-in_err-left-clause-value
returns-in_err-left-clause-value c =
    let (k, is) = fit_exists (choices c.args.codes.now) c.args.side.now (told c.args.codes.now c.block_count-block-end.ensures.limits) c.requires.side in
    let above : c.args.limit < c.loop-block.sum + c.loop-block.rest =
    elim (cases_lt c.args.limit (c.loop-block.sum + (c.loop-block.rest - c.in_ok-rest-2.field-0))) [
      | inl l ↦ omega arith
      | inr l ↦ absurd (c.in_err-left.ensures l)
    ] in
    none (choices c.args.codes.now) c.args.side.now c.args.limit _ c.from_residual-in_err-left.ensures (
      k,
      is,
      above_by_rest (choices c.args.codes.now) c.args.side.now c.loop-block.block c.loop-block.sum c.loop-block.rest c.args.limit k (omega arith)
          c.loop-block.invariant.value c.loop-block.invariant.rest above is,
    )

pub returns-in_err-sum-clause-value : goal.returns-in_err-sum-clause-value
returns-in_err-sum-clause-value c =
    let (k, is) = fit_exists (choices c.args.codes.now) c.args.side.now (told c.args.codes.now c.block_count-block-end.ensures.limits) c.requires.side in
    let within : c.loop-block.block < blocks (choices c.args.codes.now) = omega arith in
    let parts = c.in_ok-left.ensures in
    let left : c.in_ok-left.left + (c.loop-block.sum + (c.loop-block.rest - c.in_ok-rest-2.field-0)) ≡ c.args.limit =
    (let l = parts.0 in let e = parts.1 in omega arith) in
    none (choices c.args.codes.now) c.args.side.now c.args.limit _ c.from_residual-in_err-sum.ensures (
      k,
      is,
      above_by_next (choices c.args.codes.now) c.args.side.now c.loop-block.block c.loop-block.sum (c.loop-block.rest - c.in_ok-rest-2.field-0)
          c.in_ok-left.left c.args.limit k within c.loop-block.invariant.value
          (rest_next (choices c.args.codes.now) c.args.side.now c.loop-block.block c.loop-block.rest c.in_ok-rest-2.field-0 _ within
          c.loop-block.invariant.rest c.in_ok-rest-2.ensures.least refl)
          left c.in_err-sum.ensures.value is,
    )

pub least_fit-requires-clause-exacts : goal.least_fit-requires-clause-exacts
least_fit-requires-clause-exacts c =
    subst (AreExact c.args.codes.now c.args.side.now) (sym c.as_slice-exacts.ensures.value) c.exact_of-exacts.ensures.exacts

pub loop-block-preserved : goal.loop-block-preserved
loop-block-preserved c =
    let within : c.loop-block.block < blocks (choices c.args.codes.now) = omega arith in
    let parts = c.in_ok-left.ensures in let most = c.in_ok-sum.ensures.value.1 in
    record {
      value = sum_more (MayFit (choices c.args.codes.now) c.args.side.now) (choices c.args.codes.now).cost c.loop-block.block c.loop-block.sum
          c.in_ok-sum.field-0 c.loop-block.invariant.value c.in_ok-sum.ensures.value.0;
      rest = rest_next (choices c.args.codes.now) c.args.side.now c.loop-block.block c.loop-block.rest c.in_ok-rest-2.field-0 _ within
          c.loop-block.invariant.rest c.in_ok-rest-2.ensures.least refl;
      told = c.in_ok-sum.ensures.told;
      kept = c.in_ok-sum.ensures.kept;
      among = c.in_ok-sum.ensures.among;
      limit = (let l = parts.0 in let e = parts.1 in omega arith);
    }

pub loop-block-init : goal.loop-block-init
loop-block-init c =
    let few = c.in_ok-rest.ensures.few in
    record {
      value = refl;
      rest = rest_start (choices c.args.codes.now) c.args.side.now c.in_ok-rest.rest c.in_ok-rest.ensures.base;
      told = c.requires.told;
      kept = c.turn_to.ensures.kept c.args.codes.now c.requires.kept;
      among = c.turn_to.ensures.among;
      limit = omega arith;
    }
