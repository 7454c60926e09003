use Rattle.std.proofs.Common.{◌≡◌, ◌++◌}
use Rattle.std.specs.String.{string_bytes}
use Rattle.common_lists.specs.Each.{each}
use Rattle.plan_text.specs.Texts.{row_text}
use Rattle.plan_text.proofs.print.put_rows.Given as goal

-- the lines of the blocks so far have been written
abbrev pub invariant-loop-block : goal.invariant-loop-block
invariant-loop-block l = string_bytes l.out ≡ string_bytes l.initial.out ++ each l.block (row_text l.codes l.plan)
