use Rattle.code_table.proofs.CodeLaws.{off_rows, off_columns}
use Rattle.code_table.proofs.grid.place_in.Goals as goal

pub returns-then-row-plate-clause-none : goal.returns-then-row-plate-clause-none
returns-then-row-plate-clause-none c = off_rows c.args.plate.now c.args.shape.now c.args.y c.args.x c.requires.pitch c.if-row-plate.true

pub returns-then-column-plate-clause-none : goal.returns-then-column-plate-clause-none
returns-then-column-plate-clause-none c = off_columns c.args.plate.now c.args.shape.now c.args.y c.args.x c.requires.pitch c.if-column-plate.true
