use Rattle.std.proofs.Common.{◌≡◌, ◌-◌, ◌≤◌, ◌++◌, length, drop}
use Rattle.std.specs.Str.{chars}
use Rattle.yard_file.specs.Keys.{shown_characters}
use Rattle.yard_file.proofs.keys.shown_word.Given as goal

abbrev pub invariant-loop-c : goal.invariant-loop-c
invariant-loop-c l =
    (length l.word.items ≡ length l.yielded) × (length l.yielded ≤ 32)
    × (l.word.items ++ shown_characters (32 - length l.yielded) (drop (length l.yielded) (chars l.key)) ≡ shown_characters 32 (chars l.key))
