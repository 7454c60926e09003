use Rattle.std.proofs.Common.{◌≡◌, ◌<◌, ◌+◌, ◌-◌, ◌∙◌, ◌++◌, ◌∷◌, [], true, sym, ap, subst, length, vec_len, arith, refl, rules}
use Rattle.plan_rule.specs.Choices.{blocks}
use Rattle.plan_rule.specs.Yards.{choices}
use Rattle.plan_rule.proofs.CountLaws.{block_exists, is_code}
use Rattle.plan_rule.proofs.ClashLaws.{clash-sym}
use Rattle.plain_search.specs.Fronts.{cost_below, IsFront, IsClear}
use Rattle.plain_search.specs.Hands.{can_beat, IsEarlier}
use Rattle.plain_search.proofs.FrontLaws.{front_more}
use Rattle.plain_search.proofs.WalkLaws.{Walked, walk_begins, walk_ends, whole_taken}
use Rattle.plain_search.proofs.NodeLaws.{IsNode, count_at, count_end, popped, own_is, node_stops, node_skips, node_takes, node_cost, node_small, beats_below, whole_front}
use Rattle.plain_search.proofs.search.+search.Goals as goal
use Rattle.plain_search.proofs.search.+search.Goals.{then-may_lead+in_ok-push+in_ok-search, else-may_lead}

pub returns-then-block-blocks-clause-hand : goal.returns-then-block-blocks-clause-hand
returns-then-block-blocks-clause-hand t c =
    let e : length c.args.front.now.items ≡ blocks (choices c.args.codes.now) = omega arith in
    let sum : c.args.cost ≡ cost_below (choices c.args.codes.now) (blocks (choices c.args.codes.now)) c.args.front.now.items =
    subst (λ n. c.args.cost ≡ cost_below (choices c.args.codes.now) n c.args.front.now.items) e c.requires.cost in
    whole_taken (choices c.args.codes.now) c.args.front.now.items c.args.hand.now _
    (whole_front (choices c.args.codes.now) c.args.front.now.items (clash-sym c.args.codes.now) c.requires.front e) e c.requires.kept
    (c.in_ok-plan.ensures ∙ c.as_slice.ensures.value) sum
    (subst (λ n. can_beat c.args.hand.now n ≡ true) sum c.requires.better)

pub count-code-end-requires : goal.count-code-end-requires
count-code-end-requires t c =
    let l : c.len-block.result < blocks (choices c.args.codes.now) = omega (arith, c.requires.front.few) in
    block_exists _ _ l

pub loop-code-init : goal.loop-code-init
loop-code-init t c = record {
  same = refl;
  walked = walk_begins (choices c.args.codes.now) c.args.front.now.items c.args.hand.now c.requires.kept c.requires.earlier;
}

pub returns-then-not-can_beat-clause-hand : goal.returns-then-not-can_beat-clause-hand
returns-then-not-can_beat-clause-hand t c =
    let n : IsNode (choices c.args.codes.now) c.args.tails.now c.args.front.now.items c.args.cost (c.block_count-blocks.result - c.len-block.result) = record {
      floors = c.requires.tails;
      inside = (let l : length c.args.front.now.items < blocks (choices c.args.codes.now) = omega (arith, c.requires.front.few) in l);
      spent = c.requires.cost;
      rest = (let e : c.block_count-blocks.result - c.len-block.result ≡ blocks (choices c.args.codes.now) - length c.args.front.now.items = omega arith in e);
    } in
    node_stops _ _ _ _ _ _ _ _ n c.loop-code.invariant.walked (sym c.if-not-can_beat.ensures)

pub own_cost-requires-clause-block : goal.own_cost-requires-clause-block
own_cost-requires-clause-block t c =
    let l : c.len-block.result < blocks (choices c.args.codes.now) = omega (arith, c.requires.front.few) in
    block_exists _ _ l

pub may_lead-requires-clause-code : goal.may_lead-requires-clause-code
may_lead-requires-clause-code t c =
    let l : c.len-block.result < blocks (choices c.args.codes.now) = omega (arith, c.requires.front.few) in
    is_code c.args.codes.now c.len-block.result c.loop-code.code l (omega arith)

pub search-requires : goal.search-requires
search-requires t c =
    let n : IsNode (choices c.args.codes.now) c.args.tails.now c.args.front.now.items c.args.cost (c.block_count-blocks.result - c.len-block.result) = record {
      floors = c.requires.tails;
      inside = (let l : length c.args.front.now.items < blocks (choices c.args.codes.now) = omega (arith, c.requires.front.few) in l);
      spent = c.requires.cost;
      rest = (let e : c.block_count-blocks.result - c.len-block.result ≡ blocks (choices c.args.codes.now) - length c.args.front.now.items = omega arith in e);
    } in
    let e : c.len-block.result ≡ length c.args.front.now.items = omega arith in
    let own : c.own_cost.result ≡ (choices c.args.codes.now).cost (length c.args.front.now.items) c.loop-code.code =
    own_is c.args.codes.now c.len-block.result c.loop-code.code (length c.args.front.now.items) c.own_cost.result c.own_cost.ensures.value e in
    let next : c.push.new.self.items ≡ c.args.front.now.items ++ c.loop-code.code ∷ [] =
    c.in_ok-push.ensures.items ∙ ap (λ f. f ++ c.loop-code.code ∷ []) c.loop-code.invariant.same in
    let slice : c.as_slice-in-loop-code.result.now ≡ c.args.front.now.items = c.as_slice-in-loop-code.ensures.value ∙ c.loop-code.invariant.same in
    let may = c.if-may_lead.ensures.0 refl in
    let clear : IsClear (choices c.args.codes.now) c.args.front.now.items c.loop-code.code =
    subst (λ f. IsClear (choices c.args.codes.now) f c.loop-code.code) slice may.1 in (
      search rules,
      (
        subst (IsFront (choices c.args.codes.now)) (sym next)
            (front_more (choices c.args.codes.now) c.args.front.now.items c.loop-code.code c.requires.front n.inside
            (count_at c.args.codes.now c.len-block.result (length c.args.front.now.items) c.loop-code.code e n.inside (omega arith)) clear),
        (
          c.requires.tails,
          (
            node_cost _ _ _ _ _ _ _ _ n next own,
            (
              node_small c.args.front.now.items c.push.new.self.items c.args.cost c.own_cost.result c.loop-code.code c.requires.small c.own_cost.ensures.few next,
              (
                c.loop-code.invariant.walked.kept,
                (
                  subst (IsEarlier c.loop-code.hand) (sym next) c.loop-code.invariant.walked.earlier,
                  beats_below c.loop-code.hand (c.args.cost + c.own_cost.result) _ may.0,
                ),
              ),
            ),
          ),
        ),
      ),
    )

pub loop-code-preserved : goal.loop-code-preserved
loop-code-preserved t c =
    let n : IsNode (choices c.args.codes.now) c.args.tails.now c.args.front.now.items c.args.cost (c.block_count-blocks.result - c.len-block.result) = record {
      floors = c.requires.tails;
      inside = (let l : length c.args.front.now.items < blocks (choices c.args.codes.now) = omega (arith, c.requires.front.few) in l);
      spent = c.requires.cost;
      rest = (let e : c.block_count-blocks.result - c.len-block.result ≡ blocks (choices c.args.codes.now) - length c.args.front.now.items = omega arith in e);
    } in
    let e : c.len-block.result ≡ length c.args.front.now.items = omega arith in
    let own : c.own_cost.result ≡ (choices c.args.codes.now).cost (length c.args.front.now.items) c.loop-code.code =
    own_is c.args.codes.now c.len-block.result c.loop-code.code (length c.args.front.now.items) c.own_cost.result c.own_cost.ensures.value e in
    elim c.if-may_lead.branch [
      | then-may_lead+in_ok-push+in_ok-search w ↦
          let next : w.push.new.self.items ≡ c.args.front.now.items ++ c.loop-code.code ∷ [] =
          w.in_ok-push.ensures.items ∙ ap (λ f. f ++ c.loop-code.code ∷ []) c.loop-code.invariant.same in
          let n : vec_len w.search.new.front ≡ length w.search.new.front.items = omega arith in
          record {
            same = ap (λ v. v.items) w.front-is ∙ w.pop.ensures.rest
                ∙ popped w.search.new.front.items c.args.front.now.items c.loop-code.code _ (w.in_ok-search.ensures.front ∙ next) n;
            walked = subst (λ h. Walked (choices c.args.codes.now) c.args.front.now.items c.args.hand.now h (c.loop-code.code + 1)) (sym w.hand-is)
                (node_takes _ _ _ _ _ _ _ c.loop-code.invariant.walked next w.in_ok-search.ensures.hand);
          }
      | else-may_lead w ↦ record {
        same = ap (λ v. v.items) w.front-is ∙ c.loop-code.invariant.same;
        walked = subst (λ h. Walked (choices c.args.codes.now) c.args.front.now.items c.args.hand.now h (c.loop-code.code + 1)) (sym w.hand-is)
            (node_skips _ _ _ _ _ _ _ _ _ _ n c.loop-code.invariant.walked (c.as_slice-in-loop-code.ensures.value ∙ c.loop-code.invariant.same) own
            w.if-may_lead.ensures);
      }
    ]

pub returns-clause-hand : goal.returns-clause-hand
returns-clause-hand t c =
    let l : c.len-block.result < blocks (choices c.args.codes.now) = omega (arith, c.requires.front.few) in
    let e : c.len-block.result ≡ length c.args.front.now.items = omega arith in
    walk_ends (choices c.args.codes.now) c.args.front.now.items c.args.hand.now c.loop-code.hand c.loop-code.code c.loop-code.invariant.walked
    (omega arith) (count_end c.args.codes.now c.len-block.result (length c.args.front.now.items) c.loop-code.code e (omega arith) (omega arith))
