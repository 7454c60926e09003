use Rattle.std.proofs.Common.{◌∙◌, ap, length, get_or, ◌-◌}
use Rattle.code_table.proofs.TableLaws.{count_at}
use Rattle.code_table.proofs.table.table_of.Goals as goal

pub returns : goal.returns
returns c = record {
  turns = c.turns_of-shapes.ensures.len;
  shapes = c.turns_of-shapes.ensures.value;
  cells_are = c.cells.ensures;
  sums = c.in_ok-sums.ensures;
  count =
      c.last_of-count.ensures ∙ ap (λ ns. get_or ns (length ns - 1) 0) c.as_slice-2.ensures.value
      ∙ count_at c.args.yard.now c.args.block.now c.in_ok-sums.sums.items c.in_ok-sums.ensures;
  least_is =
      c.least_of-least.ensures;
  few = c.requires.few;
}
