-- Laws that more than one crate cites.
use Rattle.std.proofs.Common.{List, ◌∷◌, refl, arith}
use Rattle.std.specs.Prelude.{nat_lt}
use Rattle.std.specs.List.{Contains, filter}
use Rattle.std.proofs.lemmas.List.Elements.{Contains-append_right}
use Rattle.plan_rule.specs.declared.literal.Literal.{Literal}
use Rattle.plan_rule.specs.Boxes.{with_literal}

-- the literal itself
pub with_self : (box : List Literal) (l : Literal) → Contains (with_literal box l) l
with_self box l =
    Contains-append_right (filter (λ m. nat_lt m.block l.block) box) (l ∷ filter (λ m. nat_lt l.block m.block) box) l (0, omega arith, refl)
