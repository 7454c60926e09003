use Rattle.std.proofs.Common.{◌≡◌, ℕ, ◌<◌, ◌+◌, Bool, List, true, false, not, replicate, get_or, length, sym, ap, ◌∙◌, subst, arith}
use Rattle.std.specs.Prelude.{◌↔◌}
use Rattle.std.proofs.lemmas.List.{get_or-replicate, length-replicate, length-set}
use Rattle.plan_rule.specs.Choices.{blocks}
use Rattle.plan_rule.specs.Yards.{choices}
use Rattle.plan_rule.proofs.CountLaws.{block_exists}
use Rattle.plan_rule.proofs.WindowLaws.{release_is}
use Rattle.tardiness_bounds.proofs.MarkLaws.{HasBlock, mark_more, mark_none, mark_past}
use Rattle.tardiness_bounds.proofs.SideLaws.{has_entry, no_exact, some_exact}
use Rattle.tardiness_bounds.proofs.best.starts_of.Goals as goal
use Rattle.tardiness_bounds.proofs.best.starts_of.Goals.{then-is_none, else-is_none}

pub loop-block-init : goal.loop-block-init
loop-block-init c = record {
  len = length-replicate 400 false;
  marks = mark_none (choices c.args.codes.now) c.args.side.now.literals (choices c.args.codes.now).release (replicate 400 false) (λ d l. get_or-replicate 400 d false false l);
}

pub block_at-requires : goal.block_at-requires
block_at-requires c = block_exists c.args.codes.now c.loop-block.block (let v = c.block_count-block-end.ensures.value in omega arith)

pub loop-block-preserved : goal.loop-block-preserved
loop-block-preserved c =
    let P : List Bool → Type 0 = λ marks. (d : ℕ) → d < 400 → (get_or marks d false ≡ true) ↔ HasBlock (choices c.args.codes.now) c.args.side.now.literals (choices c.args.codes.now).release (c.loop-block.block + 1) d in
    elim c.if-is_none.branch [
      | then-is_none w ↦
          let block = w.block_at.ensures.limits in
          let small : w.block_at.result.now.release < 400 = (let r = block.release in omega arith) in record {
            len = ap length w.is_start-is ∙ length-set c.loop-block.is_start w.block_at.result.now.release true ∙ c.loop-block.invariant.len;
            marks = subst P (sym w.is_start-is)
                (mark_more (choices c.args.codes.now) c.args.side.now.literals (choices c.args.codes.now).release c.loop-block.block w.block_at.result.now.release c.loop-block.is_start
                (no_exact c.args.codes.now c.args.side.now c.loop-block.block c.place-place.result c.requires c.place-place.ensures (c.is_none.ensures ∙ ap not w.if-is_none.true))
                (release_is c.args.codes.now c.loop-block.block w.block_at.result.now w.block_at.ensures.value) c.loop-block.invariant.len small c.loop-block.invariant.marks);
          }
      | else-is_none w ↦
          let (code, is) = some_exact c.args.codes.now c.args.side.now c.loop-block.block c.place-place.result c.requires c.place-place.ensures (c.is_none.ensures ∙ ap not w.if-is_none.false) in record {
            len = ap length w.is_start-is ∙ c.loop-block.invariant.len;
            marks = subst P (sym w.is_start-is)
                (mark_past (choices c.args.codes.now) c.args.side.now.literals (choices c.args.codes.now).release c.loop-block.block code c.loop-block.is_start
                is c.loop-block.invariant.marks);
          }
    ]

pub returns : goal.returns
returns c =
    let e : c.loop-block.block ≡ blocks (choices c.args.codes.now) = (let v = c.block_count-block-end.ensures.value in omega arith) in
    subst (λ n. (d : ℕ) → d < 400 → (get_or c.loop-block.is_start d false ≡ true) ↔ HasBlock (choices c.args.codes.now) c.args.side.now.literals (choices c.args.codes.now).release n d) e c.loop-block.invariant.marks

pub place-place-requires : goal.place-place-requires
place-place-requires c = has_entry c.args.codes.now c.args.side.now c.loop-block.block c.requires (let v = c.block_count-block-end.ensures.value in omega arith)
