use Rattle.std.proofs.Common.{◌≡◌, ◌++◌, take}
use Rattle.std.specs.Prelude.{codes}
use Rattle.std.specs.String.{string_bytes}
use Rattle.std.specs.List.{flat_map}
use Rattle.refutation_log.specs.Spelling.{line_text}
use Rattle.refutation_log.proofs.writing.write_log.Given as goal

abbrev pub invariant-loop-entry : goal.invariant-loop-entry
invariant-loop-entry l = string_bytes l.out ≡ codes "log 1\n" ++ flat_map line_text (take l.entry-index l.entry-items)
