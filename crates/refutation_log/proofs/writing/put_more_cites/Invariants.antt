use Rattle.std.proofs.Common.{◌≡◌, ◌++◌, ◌∷◌, take}
use Rattle.std.specs.String.{string_bytes}
use Rattle.std.specs.List.{flat_map}
use Rattle.std.specs.Fmt.{decimal}
use Rattle.refutation_log.proofs.writing.put_more_cites.Given as goal

abbrev pub invariant-loop-cite : goal.invariant-loop-cite
invariant-loop-cite l = string_bytes l.out ≡ string_bytes l.fn.out ++ flat_map (λ x. 44 ∷ decimal x) (take l.cite-index l.cites)
