use Rattle.std.proofs.Common.{◌≡◌, ℕ, ◌+◌, ◌<◌, ◌≤◌, ◌++◌, ◌⊎◌, [], ◌∷◌, sym, subst, inl, inr, arith}
use Rattle.std.specs.List.{All, Contains}
use Rattle.std.proofs.lemmas.Bool.{cases_lt}
use Rattle.std.proofs.lemmas.List.Elements.{All-push, Contains-append_left, Contains-push}
use Rattle.plan_rule.specs.declared.literal.Literal.{Literal}
use Rattle.branch_search.specs.Segments.{IsSegment}
use Rattle.branch_search.proofs.order.add_others.Goals as goal

pub loop-code-preserved-then-stands_at : goal.loop-code-preserved-then-stands_at
loop-code-preserved-then-stands_at c = record {
  inside = c.loop-code.invariant.inside;
  each = λ code low high. elim (cases_lt code c.loop-code.code) [
    | inl l ↦ c.loop-code.invariant.each code low l
    | inr not ↦
        let e : c.loop-code.code ≡ code = omega arith in
        subst (λ code. (segment : Literal) × Contains c.loop-code.list.items segment × (segment.lo ≤ code) × (code < segment.hi)) e
        (subst (λ list. (segment : Literal) × Contains list segment × (segment.lo ≤ c.loop-code.code) × (c.loop-code.code < segment.hi)) c.as_slice.ensures.value
        (c.stands_at.ensures.stands c.if-stands_at.true))
  ];
}

pub loop-code-preserved : goal.loop-code-preserved
loop-code-preserved c = record {
  inside = λ old. subst (All (IsSegment c.args.range)) (sym c.in_ok-push.ensures.items)
      (All-push (IsSegment c.args.range) c.loop-code.list.items c.segment_at.result (c.loop-code.invariant.inside old) c.segment_at.ensures.segment);
  each = λ code low high. subst (λ list. (segment : Literal) × Contains list segment × (segment.lo ≤ code) × (code < segment.hi)) (sym c.in_ok-push.ensures.items)
      (go code low (cases_lt code c.loop-code.code) high);
}
  where
    go : (code : ℕ) → c.args.range.lo ≤ code → (code < c.loop-code.code) ⊎ (c.loop-code.code ≤ code) → code < c.loop-code.code + 1
        → (segment : Literal) × Contains (c.loop-code.list.items ++ c.segment_at.result ∷ []) segment × (segment.lo ≤ code) × (code < segment.hi)
    go code low (inl l) high =
        let (segment, inside, from, to) = c.loop-code.invariant.each code low l in
        (segment, Contains-append_left c.loop-code.list.items (c.segment_at.result ∷ []) segment inside, from, to)
    go code low (inr not) high =
        let e : c.loop-code.code ≡ code = omega arith in
        (c.segment_at.result, Contains-push c.loop-code.list.items c.segment_at.result, subst (λ x. c.segment_at.result.lo ≤ x) e c.segment_at.ensures.from, subst (λ x. x < c.segment_at.result.hi) e c.segment_at.ensures.to)
