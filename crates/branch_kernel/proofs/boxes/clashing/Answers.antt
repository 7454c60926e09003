use Rattle.std.proofs.Common.{◌≡◌, ◌+◌, refl}
use Rattle.std.proofs.lemmas.List.Elements.{All-from_all_within, AllWithin-upto}
use Rattle.plan_rule.specs.declared.literal.Literal.{Literal}
use Rattle.plan_rule.specs.Yards.{choices}
use Rattle.branch_kernel.proofs.SplitLaws.{exact_found, no_clash_in}
use Rattle.branch_kernel.proofs.boxes.clashing.Goals as goal

pub returns-then-clash : goal.returns-then-clash
returns-then-clash c = (
  _,
  exact_found c.literals-l-items.result.now _ _ c.loop-l.l-index _ c.literals-l-items.ensures.value c.literals-l-items.ensures.ordered.ascending c.loop-l-test.true refl
      (c.is_exact.ensures.0 c.if-is_exact.true),
  c.clash.ensures.0 c.if-clash.true,
)

pub returns : goal.returns
returns c =
    no_clash_in (choices c.args.codes.now) c.literals-l-items.result.now c.args.side.now c.args.block c.args.code c.literals-l-items.ensures.value
    (All-from_all_within (λ (m : Literal). m.hi ≡ m.lo + 1 → (choices c.args.codes.now).Clash m.block m.lo c.args.block c.args.code → ⊥) c.literals-l-items.result.now
    (AllWithin-upto (λ (m : Literal). m.hi ≡ m.lo + 1 → (choices c.args.codes.now).Clash m.block m.lo c.args.block c.args.code → ⊥) c.literals-l-items.result.now 0 c.loop-l.l-index _
    c.loop-l-test.false c.loop-l.invariant))
