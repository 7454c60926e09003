use Rattle.std.proofs.Common.{◌≡◌, ◌+◌, ◌*◌, ◌/◌, ◌%◌, List, [], ◌∷◌, length, ap, subst, ◌∙◌, length-append}
use Rattle.shape_exact.specs.Yards.{PlainYard}
use Rattle.shape_exact.specs.declared.block.Block.{Block}
use Rattle.tardiness_bounds.specs.Footprints.{turned_count}
use Rattle.tardiness_bounds.specs.Lattices.{IsLatticeAt}
use Rattle.tardiness_bounds.proofs.NextLaws.{each_more}
use Rattle.tardiness_bounds.proofs.lattice.Lattices.new.Goals as goal

pub loop-k-preserved : goal.loop-k-preserved
loop-k-preserved c =
    let codes = c.args.codes.now in
    let turned : length c.blocks-2.result.now * 4 ≡ turned_count codes =
    ap (λ (bs : List Block). length bs * 4) (c.blocks-2.ensures.value ∙ ap (λ (y : PlainYard). y.blocks) c.yard-yard.ensures.value) in
    record {
      len = ap length c.in_ok-push.ensures.items ∙ length-append c.loop-k.list.items (c.lattice_at.result ∷ []) ∙ ap (λ n. n + 1) c.loop-k.invariant.len;
      each = each_more (λ k. IsLatticeAt codes (k / turned_count codes) (k % turned_count codes)) c.loop-k.list.items c.push.new.self.items c.lattice_at.result c.loop-k.k
          c.loop-k.invariant.len c.loop-k.invariant.each
          (subst (λ t. IsLatticeAt codes (c.loop-k.k / t) (c.loop-k.k % t) c.lattice_at.result) turned c.lattice_at.ensures) c.in_ok-push.ensures.items;
    }
