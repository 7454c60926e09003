use Rattle.std.proofs.Common.{◌≡◌, drop}
use Rattle.yard_file.specs.Keys.{is_known}
use Rattle.yard_file.proofs.keys.is_known.Given as goal

abbrev pub invariant-loop-key : goal.invariant-loop-key
invariant-loop-key l = is_known (drop l.key-index l.keys) l.text ≡ is_known l.keys l.text
