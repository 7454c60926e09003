use Rattle.std.proofs.Common.{◌≡◌, ◌+◌, ◌∷◌, ◌++◌, [], length, ap, ◌∙◌, sym, subst, refl, arith}
use Rattle.std.specs.Prelude.{All}
use Rattle.std.proofs.lemmas.Bool.{false≢true}
use Rattle.std.proofs.lemmas.List.{take_all}
use Rattle.std.proofs.lemmas.List.Elements.{All-nil}
use Rattle.tardiness_bounds.specs.declared.near.Neighbour.{Neighbour}
use Rattle.tardiness_bounds.specs.Neighbours.{AreNear, IsNeighbour}
use Rattle.tardiness_bounds.proofs.NearLaws.{block_small, near_next, near_none, near_skip, neighbour_block, neighbours_more}
use Rattle.tardiness_bounds.proofs.near.near_blocks.Goals as goal
use Rattle.tardiness_bounds.proofs.near.near_blocks.Goals.{then-may_clash, else-may_clash}

pub loop-f-init : goal.loop-f-init
loop-f-init c = record {
  few = (let e = ap length c.clear.ensures in omega arith);
  near = subst (AreNear c.args.tables.now.yard c.args.place [] 0) (sym c.clear.ensures) (near_none c.args.tables.now.yard c.args.place);
  each = subst (All (IsNeighbour c.args.tables.now.yard)) (sym c.clear.ensures) (All-nil (IsNeighbour c.args.tables.now.yard));
}

pub of_standing-requires-clause-block : goal.of_standing-requires-clause-block
of_standing-requires-clause-block c =
    block_small c.args.tables.now.yard c.codes.result.now c.args.list.now c.loop-f.f-index _ c.limits.ensures.limits c.codes.ensures c.requires.list c.loop-f-test.true

pub of_standing-requires-clause-turn : goal.of_standing-requires-clause-turn
of_standing-requires-clause-turn c = (c.requires.list c.loop-f.f-index _ c.loop-f-test.true).turn

pub loop-f-preserved : goal.loop-f-preserved
loop-f-preserved c =
    let few = c.loop-f.invariant.few in elim c.if-may_clash.branch [
      | then-may_clash w ↦
          let pushed = ap (λ v. v.items) w.near-is ∙ w.push.ensures.items ∙ ap (λ (n : Neighbour). c.loop-f.near.items ++ n ∷ []) w.of_standing.ensures in
          record {
            few = let n : length c.if-may_clash.near.items ≡ length c.loop-f.near.items + 1 = ap (λ v. length v.items) w.near-is ∙ w.push.ensures.len in omega arith;
            near = near_next c.args.tables.now.yard c.args.place c.args.list.now c.loop-f.near.items _ c.loop-f.f-index _ c.loop-f-test.true
                pushed (w.if-may_clash.ensures.0 refl) c.loop-f.invariant.near;
            each = neighbours_more c.args.tables.now.yard c.loop-f.near.items _ _ pushed c.loop-f.invariant.each
                (neighbour_block c.args.tables.now.yard _ (c.requires.list c.loop-f.f-index _ c.loop-f-test.true));
          }
      | else-may_clash w ↦ record {
        few = let n : length c.if-may_clash.near.items ≡ length c.loop-f.near.items = ap (λ v. length v.items) w.near-is in omega arith;
        near = near_skip c.args.tables.now.yard c.args.place c.args.list.now c.loop-f.near.items _ c.loop-f.f-index _ c.loop-f-test.true
            (ap (λ v. v.items) w.near-is) (λ m. false≢true (w.if-may_clash.ensures.1 m)) c.loop-f.invariant.near;
        each = subst (λ v. All (IsNeighbour c.args.tables.now.yard) v.items) (sym w.near-is) c.loop-f.invariant.each;
      }
    ]

pub returns-clause-near : goal.returns-clause-near
returns-clause-near c =
    subst (λ fs. AreNear c.args.tables.now.yard c.args.place fs 0 c.loop-f.near.items) (take_all c.loop-f.f-index c.args.list.now c.loop-f-test.false) c.loop-f.invariant.near
