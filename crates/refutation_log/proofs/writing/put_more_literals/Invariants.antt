use Rattle.std.proofs.Common.{◌≡◌, ◌++◌, ◌∷◌, take}
use Rattle.std.specs.String.{string_bytes}
use Rattle.std.specs.List.{flat_map}
use Rattle.refutation_log.specs.Spelling.{literal_text}
use Rattle.refutation_log.proofs.writing.put_more_literals.Given as goal

abbrev pub invariant-loop-literal : goal.invariant-loop-literal
invariant-loop-literal l = string_bytes l.out ≡ string_bytes l.fn.out ++ flat_map (λ x. 44 ∷ literal_text x) (take l.literal-index l.literals)
