use Rattle.std.proofs.Common.{◌≡◌, ◌-◌, ◌++◌}
use Rattle.std.specs.String.{string_bytes}
use Rattle.yard_generator.specs.Draws.{blocks_from}
use Rattle.yard_generator.specs.Texts.{blocks_text}
use Rattle.yard_generator.proofs.yards.put_blocks.Given as goal

abbrev pub invariant-loop-number : goal.invariant-loop-number
invariant-loop-number l =
    string_bytes l.out ++ blocks_text l.number (blocks_from (l.blocks - l.number) l.draws.state)
    ≡ string_bytes l.fn.out ++ blocks_text 0 (blocks_from l.blocks l.seed)
