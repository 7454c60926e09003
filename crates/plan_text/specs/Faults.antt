-- The lines that tell why bytes are not the text of a plan.
use Rattle.std.specs.Prelude.{ℕ, List, [], ◌++◌, codes}
use Rattle.std.specs.Fmt.{decimal}
use Rattle.plan_text.specs.declared.fault.PlanFault.{PlanFault}
use Rattle.plan_text.specs.declared.fault.PlanFault.TheVariants.{Line, Name, NotAPlacement, Figure, Rest, Memory}

-- the line that tells a fault, and nothing for want of memory
abbrev pub fault_line : PlanFault → List ℕ
fault_line (Line n) = codes "refused plan 1 Line " ++ (decimal n ++ codes "\n")
fault_line (Name n) = codes "refused plan 2 Name " ++ (decimal n ++ codes "\n")
fault_line (NotAPlacement n) = codes "refused plan 3 NotAPlacement " ++ (decimal n ++ codes "\n")
fault_line (Figure n told is) =
    codes "refused plan 4 Figure "
    ++ (decimal n ++ (codes " " ++ (decimal told ++ (codes " " ++ (decimal is ++ codes "\n")))))
fault_line Rest = codes "refused plan 5 Rest\n"
fault_line Memory = []
