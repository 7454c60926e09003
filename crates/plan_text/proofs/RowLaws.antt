-- The lines of the blocks.
use Rattle.std.proofs.Common.{◌≡◌, ℕ, suc, ◌+◌, ◌<◌, ◌++◌, List, [], length, get_or, Some, sym, ap, ◌∙◌, subst, arith, append_assoc}
use Rattle.std.specs.Prelude.{slice_get, codes}
use Rattle.std.specs.Fmt.{decimal}
use Rattle.std.specs.Option.{option_map_or}
use Rattle.std.proofs.lemmas.Option.{slice_get-get_or}
use Rattle.shape_exact.specs.Yards.{PlainYard}
use Rattle.common_lists.specs.Each.{each}
use Rattle.common_lists.proofs.EachLaws.{each-suc}
use Rattle.shape_exact.specs.declared.block.Block.{Block}
use Rattle.shape_exact.specs.declared.plate.Plate.{Plate}
use Rattle.code_table.specs.declared.placement.Placement.{Placement}
use Rattle.code_table.specs.Placements.{placements}
use Rattle.plan_rule.specs.Plans.{code_of, total}
use Rattle.plan_rule.specs.Yards.{choices}
use Rattle.plan_text.specs.Texts.{tells_early, head, block_line, row_at, row_text, rows_text, plan_text}

-- what an index read
pub read_at : {A : Type 0} (list xs : List A) (i : ℕ) (x : A) → list ≡ xs → i < length list → x ≡ get_or list i x → slice_get xs i ≡ Some x
read_at list xs i x e l is =
    subst (λ ys. slice_get ys i ≡ Some x) e (slice_get-get_or list i x l ∙ ap Some (sym is))

-- the line of a block that has this placement on this plate
pub row_is : (yard : PlainYard) (plan : List ℕ) (b : ℕ) (block : Block) (p : Placement) (plate : Plate) → slice_get yard.blocks b ≡ Some block
    → slice_get (placements yard b) (code_of plan b) ≡ Some p → slice_get yard.plates p.plate ≡ Some plate
    → block_line (tells_early yard) block.name block.due plate.name p ≡ row_text yard plan b
row_is yard plan b block p plate block_is p_is plate_is = sym (
    ap (λ o. row_at yard o (slice_get (placements yard b) (code_of plan b))) block_is
    ∙ ap (λ o. row_at yard (Some block) o) p_is
    ∙ ap (λ o. block_line (tells_early yard) block.name block.due (option_map_or (λ (plate : Plate). plate.name) o []) p) plate_is)

-- one line more
pub rows_more : (yard : PlainYard) (plan : List ℕ) (n : ℕ) (first now next : List ℕ) → now ≡ first ++ each n (row_text yard plan)
    → next ≡ now ++ row_text yard plan n → next ≡ first ++ each (n + 1) (row_text yard plan)
rows_more yard plan n first now next e f =
    let m : suc n ≡ n + 1 = omega arith in
    f ∙ ap (λ t. t ++ row_text yard plan n) e ∙ append_assoc first (each n (row_text yard plan)) (row_text yard plan n)
    ∙ ap (λ t. first ++ t) (sym (each-suc n (row_text yard plan)) ∙ ap (λ k. each k (row_text yard plan)) m)

-- the head, the lines of the blocks and the total
pub whole_text : (yard : PlainYard) (plan out : List ℕ) (sum : ℕ) → sum ≡ total (choices yard) plan
    → ((out ++ (head yard ++ codes "\n")) ++ rows_text yard plan) ++ (codes "total " ++ (decimal sum ++ codes "\n")) ≡ out ++ plan_text yard (Some plan)
unfolding plan_text
whole_text yard plan out sum e =
    ap (λ n. ((out ++ (head yard ++ codes "\n")) ++ rows_text yard plan) ++ (codes "total " ++ (decimal n ++ codes "\n"))) e
    ∙ simp append_assoc
