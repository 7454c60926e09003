use Rattle.std.proofs.Common.{◌≡◌, ◌+◌, length, take, refl, sym, subst, ap, ◌∙◌, arith}
use Rattle.lattice_free.specs.Clear.{AreForbidden}
use Rattle.tardiness_bounds.specs.Neighbours.{obstacles_of}
use Rattle.tardiness_bounds.proofs.RowLaws.{row_more, row_past}
use Rattle.tardiness_bounds.proofs.ground.forbid.Goals as goal
use Rattle.tardiness_bounds.proofs.ground.forbid.Goals.{in-Some, in_default}

pub loop-n-preserved : goal.loop-n-preserved
loop-n-preserved c =
    let few = c.loop-n.invariant.few in elim c.match-forbidden_beside.branch [
      | in-Some w ↦ record {
        few = let n : length c.match-forbidden_beside.forbidden.items ≡ length c.loop-n.forbidden.items + 1 = ap (λ v. length v.items) w.forbidden-is ∙ w.push.ensures.len in omega arith;
        forbidden = row_more c.args.tables.now.yard c.args.near.now c.args.moving c.args.pitch c.args.row c.args.columns c.loop-n.n-index _ _ _
            c.loop-n.forbidden.items _ w.in-Some.s c.loop-n-test.true refl refl c.loop-n.invariant.forbidden
            (ap (λ v. v.items) w.forbidden-is ∙ w.push.ensures.items) w.in-Some.ensures.fits w.in-Some.ensures.held w.in-Some.ensures.clear;
      }
      | in_default w ↦ record {
        few = let n : length c.match-forbidden_beside.forbidden.items ≡ length c.loop-n.forbidden.items = ap (λ v. length v.items) w.forbidden-is in omega arith;
        forbidden = row_past c.args.tables.now.yard c.args.near.now c.args.moving c.args.pitch c.args.row c.args.columns c.loop-n.n-index _ _ _
            c.match-forbidden_beside.forbidden.items c.loop-n-test.true refl refl
            (subst (λ v. AreForbidden (take c.loop-n.n-index (obstacles_of c.args.tables.now.yard c.args.moving c.args.near.now)) c.args.pitch c.args.row c.args.columns v.items) (sym w.forbidden-is) c.loop-n.invariant.forbidden)
            w.in_default.ensures.none;
      }
    ]
