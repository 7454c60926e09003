use Rattle.std.proofs.Common.{sym, subst}
use Rattle.shape_exact.specs.Yards.{PlainYard}
use Rattle.code_table.specs.Tables.{IsCoded}
use Rattle.code_table.proofs.codes.Codes.new.Goals as goal

pub invariant_of-result : goal.invariant_of-result
invariant_of-result c =
    let family : PlainYard → Type 0 = λ y. IsCoded y c.calendars_of-calendars.result.items c.in_ok-tables.tables.items in
    subst family (sym c.in_ok-yard.ensures)
    (record {
      limits = c.calendars_of-calendars.ensures.limits;
      some_plates = c.requires.plates;
      some_blocks = c.requires.blocks;
      days = c.calendars_of-calendars.ensures.value;
      tables = c.in_ok-tables.ensures;
    })
