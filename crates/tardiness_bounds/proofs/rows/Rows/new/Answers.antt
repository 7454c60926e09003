use Rattle.std.proofs.Common.{◌+◌, ◌/◌, length, ap, ◌∙◌, [], ◌∷◌, length-append, refl, arith, FitsSigned, w32}
use Rattle.std.proofs.lemmas.Int.{to_z-of_z}
use Rattle.std.proofs.lemmas.Nat.{div_below}
use Rattle.code_table.proofs.ReadLaws.{read_at}
use Rattle.tardiness_bounds.specs.Rows.{span_of}
use Rattle.tardiness_bounds.proofs.KeptLaws.{row_is, rows_more}
use Rattle.tardiness_bounds.proofs.rows.Rows.new.Goals as goal

pub loop-k-preserved : goal.loop-k-preserved
loop-k-preserved c =
    let at = read_at c.args.obstacles.now c.args.obstacles.now (c.loop-k.k / span_of c.reach_of-reach.result) _ refl
    (div_below c.loop-k.k (span_of c.reach_of-reach.result) (length c.args.obstacles.now) (omega arith) c.loop-k-test.true) c.index-obstacles-k.is in
    let fits : FitsSigned w32 c.way-y.result = record { sfits = c.way-y.type_inv } in
    let none = simp to_z-of_z at c.row.ensures.none in
    let some = simp to_z-of_z at c.row.ensures.some in record {
      len = ap length c.in_ok-push.ensures.items ∙ length-append c.loop-k.list.items (c.row.result ∷ []) ∙ ap (λ n. n + 1) c.loop-k.invariant.len;
      each = rows_more c.args.obstacles.now c.reach_of-reach.result c.loop-k.k c.loop-k.list.items c.push.new.self.items c.index-obstacles-k.result c.way-y.result c.row.result
          c.loop-k.invariant.len c.loop-k.invariant.each at c.way-y.ensures
          (row_is c.index-obstacles-k.result c.way-y.result c.row.result none some c.row.ensures.few) c.in_ok-push.ensures.items;
    }
