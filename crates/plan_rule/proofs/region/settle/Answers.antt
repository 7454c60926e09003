use Rattle.std.proofs.Common.{◌≡◌, ◌+◌, ◌-◌, ◌++◌, ◌∷◌, [], length, sym, ap, ◌∙◌, subst, inl, inr, arith}
use Rattle.plan_rule.specs.Choices.{count}
use Rattle.plan_rule.specs.Fronts.{IsLeft, IsRange}
use Rattle.plan_rule.specs.Yards.{choices}
use Rattle.plan_rule.proofs.FrontLaws.{settle_left, settle_range}
use Rattle.plan_rule.proofs.region.settle.Goals as goal

pub push-requires : goal.push-requires
push-requires c =
    let one : c.loop-made.made.hi - c.loop-made.made.lo ≡ 1 = c.loop-made-test.true in
    elim c.loop-made.invariant.range [
      | inl some ↦ let l = some.0 in let few = c.requires.few in omega arith
      | inr gone ↦ let h = gone.2 in absurd (omega arith)
    ]

pub loop-made-preserved : goal.loop-made-preserved
loop-made-preserved c =
    let one : c.loop-made.made.hi ≡ c.loop-made.made.lo + 1 = let e : c.loop-made.made.hi - c.loop-made.made.lo ≡ 1 = c.loop-made-test.true in omega arith in
    let high : c.count_of.result ≡ count (choices c.args.codes.now) (length (c.loop-made.made.exact ++ c.loop-made.made.lo ∷ [])) =
    c.count_of.ensures ∙ ap (λ xs. count (choices c.args.codes.now) (length xs)) (c.codes.ensures ∙ c.push.ensures) in
    record {
      range = subst (λ exact. IsRange (choices c.args.codes.now) (record { exact = exact; lo = 0; hi = c.count_of.result })) (sym c.push.ensures)
          (settle_range (choices c.args.codes.now) c.loop-made.made c.count_of.result c.requires.codes c.loop-made.invariant.range one high);
      part = λ front w is. subst (λ exact. IsLeft (choices c.args.codes.now) front w (record { exact = exact; lo = 0; hi = c.count_of.result })) (sym c.push.ensures)
          (settle_left (choices c.args.codes.now) front w c.loop-made.made c.count_of.result (c.loop-made.invariant.part front w is) c.loop-made.invariant.range one high);
    }
