-- What is read as a plan, or as none, is spelled so, and what is spelled so is read.
use Rattle.std.proofs.Common.{◌≡◌, ℕ, zero, suc, ◌+◌, ◌<◌, ◌≤◌, Bool, true, false, cond, List, [], ◌∷◌, ◌++◌, length, Option, Some, None, Result, Ok, Err, refl, sym, ap, subst, ◌∙◌, inl, inr, append_assoc, arith}
use Rattle.std.specs.Prelude.{slice_get, codes, IfOk, IfSome}
use Rattle.std.specs.Fmt.{decimal}
use Rattle.std.specs.Str.{bytes_eq}
use Rattle.std.specs.List.{flat_map, range_with_len, join_with_byte}
use Rattle.std.proofs.lemmas.Bool.{cases_Bool, eq-eqb}
use Rattle.std.proofs.lemmas.Option.{slice_get_within}
use Rattle.std.proofs.lemmas.Slice.Eq.{bytes_eq-Decides}
use Rattle.std.proofs.lemmas.List.Splits.{join_with_byte-slice_split}
use Rattle.common_lists.proofs.ListLaws.{element_at}
use Rattle.text_parts.specs.Parts.{cut}
use Rattle.text_parts.proofs.CutLaws.{Lacks, cut-again}
use Rattle.shape_exact.specs.Yards.{PlainYard, IsYard, IsBlock}
use Rattle.shape_exact.specs.declared.block.Block.{Block}
use Rattle.code_table.specs.Placements.{placements, placements_of}
use Rattle.code_table.proofs.ReadLaws.{block_limits}
use Rattle.code_table.proofs.StandLaws.{placements-of}
use Rattle.plan_rule.specs.Plans.{code_of, IsPlan, total}
use Rattle.plan_rule.specs.Yards.{choices}
use Rattle.plan_rule.proofs.CountLaws.{blocks-length, count-length}
use Rattle.plan_rule.proofs.LimitLaws.{total-below}
use Rattle.plan_text.specs.declared.fault.PlanFault.{PlanFault}
use Rattle.plan_text.specs.declared.fault.PlanFault.TheVariants.{Line}
use Rattle.plan_text.specs.Texts.{line, tells_early, head, row_at, row_text as row_of_plan, rows_text, plan_text}
use Rattle.plan_text.specs.Rows.{total_in}
use Rattle.plan_text.specs.Reading.{◌>>=◌, or_fault, is_right, line_code, rows_of, closed, total_of, planned, headed, lines, plan_of, Gives}
use Rattle.plan_text.proofs.FormLaws.{begins, row_text, row_line, total-takes, total-again, total_line}
use Rattle.plan_text.proofs.LineLaws.{then_ok, found_ok, right_is, tells, row_is_line, line-takes, line-again, line_fits}
use Rattle.plan_text.proofs.TurnLaws.{Rows, row_turn, total_turn, head_turn}

-- ---- the lines of the blocks

-- the lines of some blocks at codes of theirs
unfoldable rows_at : PlainYard → List Block → List ℕ → List ℕ
rows_at yard (b ∷ bs) (c ∷ cs) = row_at yard (Some b) (slice_get (placements_of yard b) c) ++ rows_at yard bs cs
rows_at yard _ _ = []

-- each block has its code
unfoldable AreCodes : PlainYard → List Block → List ℕ → Type 0
AreCodes yard [] [] = Unit {0}
AreCodes yard (b ∷ bs) (c ∷ cs) = (c < length (placements_of yard b)) × AreCodes yard bs cs
AreCodes yard _ _ = ⊥

-- what rows that were read say of the pieces
record AreRows (yard : PlainYard) (bs : List Block) (ps : List (List ℕ)) (x : Rows) : Type 0 where
  text : join_with_byte 10 ps ≡ rows_at yard bs x.0 ++ join_with_byte 10 x.1
  codes_are : AreCodes yard bs x.0

abbrev read : Rows → Result Rows PlanFault
read x = Ok x

read_is : (x y : Rows) → read x ≡ read y → x ≡ y
read_is x y e = cc

one_more : (yard : PlainYard) (b : Block) (bs : List Block) (n : ℕ) (text next : List ℕ) (more : List (List ℕ)) (code : ℕ) (x : Rows) → line_code yard b n text ≡ Ok code
    → AreRows yard bs (next ∷ more) x → AreRows yard (b ∷ bs) (text ∷ next ∷ more) (code ∷ x.0, x.1)
unfolding rows_at AreCodes
one_more yard b bs n text next more code x found rest =
    let is = line-takes yard b n text code found in
    let others : List ℕ = join_with_byte 10 (next ∷ more) in
    let row : List ℕ = row_at yard (Some b) (Some is.p) in
    record {
      text = sym (append_assoc text (10 ∷ []) others) ∙ ap (λ (s : List ℕ). s ++ others) is.text ∙ ap (λ (s : List ℕ). row ++ s) rest.text
          ∙ sym (append_assoc row (rows_at yard bs x.0) (join_with_byte 10 x.1))
          ∙ ap (λ o. (row_at yard (Some b) o ++ rows_at yard bs x.0) ++ join_with_byte 10 x.1) (sym is.there);
      codes_are = (slice_get_within (placements_of yard b) code is.p is.there, rest.codes_are);
    }

no_more : (yard : PlainYard) (ps : List (List ℕ)) → AreRows yard [] ps ([], ps)
unfolding rows_at AreCodes
no_more yard ps = record { text = refl; codes_are = tt }

rows-take : (yard : PlainYard) (bs : List Block) (n : ℕ) (ps : List (List ℕ)) (x : Rows) → rows_of yard bs n ps ≡ Ok x → AreRows yard bs ps x
unfolding rows_of
rows-take yard [] n ps x e = subst (λ (y : Rows). AreRows yard [] ps y) (read_is ([], ps) x e) (no_more yard ps)
rows-take yard (b ∷ bs) n [] x e = absurd cc
rows-take yard (b ∷ bs) n (p ∷ []) x e = absurd cc
rows-take yard (b ∷ bs) n (text ∷ next ∷ more) x e =
    then_ok (line_code yard b n text) (λ code. rows_of yard bs (n + 1) (next ∷ more) >>= λ rest. Ok (code ∷ rest.0, rest.1)) x e (λ code found m1.
    then_ok (rows_of yard bs (n + 1) (next ∷ more)) (λ rest. Ok (code ∷ rest.0, rest.1)) x m1 (λ rest others m2.
    subst (λ (y : Rows). AreRows yard (b ∷ bs) (text ∷ next ∷ more) y) (read_is (code ∷ rest.0, rest.1) x m2)
    (one_more yard b bs n text next more code rest found (rows-take yard bs (n + 1) (next ∷ more) rest others))))

rows-again : (yard : PlainYard) (bs : List Block) (cs : List ℕ) (n : ℕ) (rest : List ℕ) → IsYard yard → ((j : ℕ) (b : Block) → slice_get bs j ≡ Some b → IsBlock b)
    → AreCodes yard bs cs → rows_of yard bs n (lines (rows_at yard bs cs ++ rest)) ≡ read (cs, lines rest)
unfolding rows_of rows_at AreCodes
rows-again yard [] [] n rest limits fit have = refl
rows-again yard [] (c ∷ cs) n rest limits fit have = absurd have
rows-again yard (b ∷ bs) [] n rest limits fit have = absurd have
rows-again yard (b ∷ bs) (c ∷ cs) n rest limits fit have =
    let (p, there) = element_at (placements_of yard b) c have.0 in
    let first : List ℕ = row_text (tells yard b p) in
    let others : List ℕ = rows_at yard bs cs ++ rest in
    let text : (row_at yard (Some b) (slice_get (placements_of yard b) c) ++ rows_at yard bs cs) ++ rest ≡ first ++ 10 ∷ others =
    ap (λ o. (row_at yard (Some b) o ++ rows_at yard bs cs) ++ rest) there ∙ ap (λ (t : List ℕ). (t ++ rows_at yard bs cs) ++ rest) (row_is_line yard b p)
    ∙ append_assoc (first ++ 10 ∷ []) (rows_at yard bs cs) rest ∙ append_assoc first (10 ∷ []) others in
    let cuts = ap (cut 10) text ∙ cut-again 10 first others (row_line (tells_early yard) (tells yard b p) (line_fits yard b c p limits (fit 0 b refl) there)) in
    row_turn yard b bs n ((row_at yard (Some b) (slice_get (placements_of yard b) c) ++ rows_at yard bs cs) ++ rest) first others cuts
    ∙ rw (line-again yard b n c p limits (fit 0 b refl) there, rows-again yard bs cs (n + 1) rest limits (λ j d at. fit (suc j) d at) have.1) refl

-- ---- by the numbers of the blocks

-- from block k on the blocks of the yard, and the codes of the plan, are these
record AreFrom (yard : PlainYard) (plan : List ℕ) (k : ℕ) (bs : List Block) (cs : List ℕ) : Type 0 where
  blocks_are : (j : ℕ) → slice_get yard.blocks (k + j) ≡ slice_get bs j
  plan_is : (j : ℕ) → code_of plan (k + j) ≡ code_of cs j

from_start : (yard : PlainYard) (plan : List ℕ) → AreFrom yard plan 0 yard.blocks plan
from_start yard plan = record {
  blocks_are = λ j. ap (slice_get yard.blocks) (let e : 0 + j ≡ j = omega arith in e);
  plan_is = λ j. ap (code_of plan) (let e : 0 + j ≡ j = omega arith in e);
}

from_next : (yard : PlainYard) (plan : List ℕ) (k : ℕ) (b : Block) (bs : List Block) (c : ℕ) (cs : List ℕ) → AreFrom yard plan k (b ∷ bs) (c ∷ cs)
    → AreFrom yard plan (k + 1) bs cs
from_next yard plan k b bs c cs from = record {
  blocks_are = λ j. ap (slice_get yard.blocks) (let e : k + 1 + j ≡ k + suc j = omega arith in e) ∙ from.blocks_are (suc j);
  plan_is = λ j. ap (code_of plan) (let e : k + 1 + j ≡ k + suc j = omega arith in e) ∙ from.plan_is (suc j);
}

-- the first of them
first_block : (yard : PlainYard) (plan : List ℕ) (k : ℕ) (b : Block) (bs : List Block) (cs : List ℕ) → AreFrom yard plan k (b ∷ bs) cs → slice_get yard.blocks k ≡ Some b
first_block yard plan k b bs cs from = ap (slice_get yard.blocks) (let e : k ≡ k + 0 = omega arith in e) ∙ from.blocks_are 0

first_code : (yard : PlainYard) (plan : List ℕ) (k : ℕ) (bs : List Block) (c : ℕ) (cs : List ℕ) → AreFrom yard plan k bs (c ∷ cs) → code_of plan k ≡ c
first_code yard plan k bs c cs from = ap (code_of plan) (let e : k ≡ k + 0 = omega arith in e) ∙ from.plan_is 0

rows_from : (yard : PlainYard) (plan : List ℕ) (k : ℕ) (bs : List Block) (cs : List ℕ) → AreFrom yard plan k bs cs → AreCodes yard bs cs
    → flat_map (row_of_plan yard plan) (range_with_len k (length bs)) ≡ rows_at yard bs cs
unfolding rows_at AreCodes
rows_from yard plan k [] [] from have = refl
rows_from yard plan k [] (c ∷ cs) from have = absurd have
rows_from yard plan k (b ∷ bs) [] from have = absurd have
rows_from yard plan k (b ∷ bs) (c ∷ cs) from have =
    let at = first_block yard plan k b bs (c ∷ cs) from in
    let row : row_of_plan yard plan k ≡ row_at yard (Some b) (slice_get (placements_of yard b) c) =
    ap (λ o. row_at yard o (slice_get (placements yard k) (code_of plan k))) at ∙ ap (λ ps. row_at yard (Some b) (slice_get ps (code_of plan k))) (placements-of yard k b at)
    ∙ ap (λ code. row_at yard (Some b) (slice_get (placements_of yard b) code)) (first_code yard plan k (b ∷ bs) c cs from) in
    ap (λ (t : List ℕ). t ++ flat_map (row_of_plan yard plan) (range_with_len (k + 1) (length bs))) row
    ∙ ap (λ (t : List ℕ). row_at yard (Some b) (slice_get (placements_of yard b) c) ++ t) (rows_from yard plan (k + 1) bs cs (from_next yard plan k b bs c cs from) have.1)

-- the lines of a plan, by its codes
rows_same : (yard : PlainYard) (plan : List ℕ) → AreCodes yard yard.blocks plan → rows_text yard plan ≡ rows_at yard yard.blocks plan
unfolding rows_text
rows_same yard plan have = rows_from yard plan 0 yard.blocks plan (from_start yard plan) have

one_code_each : (yard : PlainYard) (bs : List Block) (cs : List ℕ) → AreCodes yard bs cs → length cs ≡ length bs
unfolding AreCodes
one_code_each yard [] [] have = refl
one_code_each yard [] (c ∷ cs) have = absurd have
one_code_each yard (b ∷ bs) [] have = absurd have
one_code_each yard (b ∷ bs) (c ∷ cs) have = ap suc (one_code_each yard bs cs have.1)

code_within : (yard : PlainYard) (plan : List ℕ) (k : ℕ) (bs : List Block) (cs : List ℕ) (j : ℕ) → AreFrom yard plan k bs cs → AreCodes yard bs cs → j < length bs
    → code_of cs j < length (placements yard (k + j))
unfolding AreCodes
code_within yard plan k [] cs j from have l = absurd (omega arith)
code_within yard plan k (b ∷ bs) [] j from have l = absurd have
code_within yard plan k (b ∷ bs) (c ∷ cs) zero from have l =
    subst (λ ps. c < length ps) (sym (placements-of yard (k + 0) b (from.blocks_are 0))) have.0
code_within yard plan k (b ∷ bs) (c ∷ cs) (suc j) from have l =
    let next = code_within yard plan (k + 1) bs cs j (from_next yard plan k b bs c cs from) have.1 (omega arith) in
    subst (λ i. code_of cs j < length (placements yard i)) (let e : k + 1 + j ≡ k + suc j = omega arith in e) next

-- codes of the blocks are a plan
plan_from : (yard : PlainYard) (plan : List ℕ) → AreCodes yard yard.blocks plan → IsPlan (choices yard) plan
plan_from yard plan have =
    let n = blocks-length yard in
    record {
      one_each = one_code_each yard yard.blocks plan have ∙ sym n;
      in_range = λ b l.
          let m : b < length yard.blocks = omega arith in
          let within = code_within yard plan 0 yard.blocks plan b (from_start yard plan) have m in
          let same : 0 + b ≡ b = omega arith in
          let there : code_of plan b < length (placements yard b) = subst (λ i. code_of plan b < length (placements yard i)) same within in
          let counts = count-length yard b m in
          omega arith;
    }

codes_from : (yard : PlainYard) (plan : List ℕ) (k : ℕ) (bs : List Block) (cs : List ℕ) → AreFrom yard plan k bs cs → length cs ≡ length bs
    → ((j : ℕ) → j < length bs → code_of cs j < length (placements yard (k + j))) → AreCodes yard bs cs
unfolding AreCodes
codes_from yard plan k [] [] from one within = tt
codes_from yard plan k [] (c ∷ cs) from one within = absurd (omega arith)
codes_from yard plan k (b ∷ bs) [] from one within = absurd (omega arith)
codes_from yard plan k (b ∷ bs) (c ∷ cs) from one within = (
  subst (λ ps. c < length ps) (placements-of yard (k + 0) b (from.blocks_are 0)) (within 0 (omega arith)),
  codes_from yard plan (k + 1) bs cs (from_next yard plan k b bs c cs from) (omega arith)
      (λ j l. subst (λ i. code_of cs j < length (placements yard i)) (let e : k + suc j ≡ k + 1 + j = omega arith in e) (within (suc j) (omega arith))),
)

-- a plan is codes of the blocks
plan_codes : (yard : PlainYard) (plan : List ℕ) → IsPlan (choices yard) plan → AreCodes yard yard.blocks plan
plan_codes yard plan is =
    let n = blocks-length yard in
    codes_from yard plan 0 yard.blocks plan (from_start yard plan) (is.one_each ∙ n) (λ j l.
    let counts = count-length yard j l in
    let within = is.in_range j (omega arith) in
    let there : code_of plan j < length (placements yard j) = omega arith in
    subst (λ i. code_of plan j < length (placements yard i)) (let e : j ≡ 0 + j = omega arith in e) there)

-- ---- the last line

closed_ok : (ps : List (List ℕ)) (u : Unit {0}) → closed ps ≡ Ok u → ps ≡ [] ∷ []
closed_ok [] u e = absurd cc
closed_ok ([] ∷ []) u e = refl
closed_ok ((b ∷ bs) ∷ ps) u e = absurd cc
closed_ok ([] ∷ p ∷ ps) u e = absurd cc

-- the line of a total
abbrev of_total : ℕ → List ℕ
of_total is = line (codes "total" ∷ decimal is ∷ [])

last-takes : (n is : ℕ) (ps : List (List ℕ)) (u : Unit {0}) → total_of n is ps ≡ Ok u → join_with_byte 10 ps ≡ of_total is
unfolding total_of
last-takes n is [] u e = absurd cc
last-takes n is (p ∷ []) u e = absurd cc
last-takes n is (text ∷ next ∷ more) u e =
    then_ok (or_fault (total_in text) (Line n)) (λ told. is_right n told is >>= λ right. closed (next ∷ more)) u e (λ told h m.
    then_ok (is_right n told is) (λ right. closed (next ∷ more)) u m (λ v right last.
    let spelled = total-takes text told (found_ok (total_in text) (Line n) told h) in
    ap (λ (ps : List (List ℕ)). join_with_byte 10 (text ∷ ps)) (closed_ok (next ∷ more) u last)
    ∙ ap (λ (t : List ℕ). t ++ 10 ∷ []) spelled ∙ ap of_total (right_is n told is v right)))

last-again : (n is : ℕ) → is ≤ 4294967295 → total_of n is (lines (of_total is)) ≡ Ok tt
last-again n is le =
    let cuts = cut-again 10 (begins (codes "total") (decimal is)) [] (total_line is le) in
    total_turn n is (of_total is) (begins (codes "total") (decimal is)) [] cuts ∙ rw (total-again is le, eq-eqb is is refl) refl

-- ---- the text

abbrev planned_as : List ℕ → Result (List ℕ) PlanFault
planned_as plan = Ok plan

planned_is : (p q : List ℕ) → planned_as p ≡ planned_as q → p ≡ q
planned_is p q e = cc

-- what follows the first line of a plan's text
abbrev body : PlainYard → List ℕ → List ℕ
body yard plan = rows_at yard yard.blocks plan ++ of_total (total (choices yard) plan)

planned-takes : (yard : PlainYard) (ps : List (List ℕ)) (plan : List ℕ) → planned yard ps ≡ Ok plan → AreCodes yard yard.blocks plan × (join_with_byte 10 ps ≡ body yard plan)
unfolding planned
planned-takes yard ps plan e =
    then_ok (rows_of yard yard.blocks 2 ps) (λ rows. total_of (length yard.blocks + 2) (total (choices yard) rows.0) rows.1 >>= λ last. planned_as rows.0) plan e (λ rows e1 m1.
    then_ok (total_of (length yard.blocks + 2) (total (choices yard) rows.0) rows.1) (λ last. planned_as rows.0) plan m1 (λ last e2 m2.
    let are = rows-take yard yard.blocks 2 ps rows e1 in
    let end = last-takes (length yard.blocks + 2) (total (choices yard) rows.0) rows.1 last e2 in
    subst (λ (p : List ℕ). AreCodes yard yard.blocks p × (join_with_byte 10 ps ≡ body yard p)) (planned_is rows.0 plan m2)
    (are.codes_are, are.text ∙ ap (λ (t : List ℕ). rows_at yard yard.blocks rows.0 ++ t) end)))

planned-again : (yard : PlainYard) (plan : List ℕ) → IsYard yard → IsPlan (choices yard) plan → planned yard (lines (body yard plan)) ≡ Ok plan
unfolding planned
planned-again yard plan limits is =
    let small = total-below yard plan limits is in
    let end : List ℕ = of_total (total (choices yard) plan) in
    ap (λ r. r >>= λ rows. total_of (length yard.blocks + 2) (total (choices yard) rows.0) rows.1 >>= λ last. planned_as rows.0)
    (rows-again yard yard.blocks plan 2 end limits (λ j b at. block_limits yard j b limits at) (plan_codes yard plan is))
    ∙ ap (λ r. r >>= λ last. planned_as plan) (last-again (length yard.blocks + 2) (total (choices yard) plan) (omega arith))

-- the rows that are read are a plan
pub rows_plan : (yard : PlainYard) (n : ℕ) (ps : List (List ℕ)) (x : Rows) → rows_of yard yard.blocks n ps ≡ Ok x → IsPlan (choices yard) x.0
rows_plan yard n ps x e = plan_from yard x.0 (rows-take yard yard.blocks n ps x e).codes_are

abbrev answer : Option (List ℕ) → Result (Option (List ℕ)) PlanFault
answer t = Ok t

answer_is : (s t : Option (List ℕ)) → answer s ≡ answer t → s ≡ t
answer_is s t e = cc

-- what an answer says of the text
abbrev IsText : PlainYard → Option (List ℕ) → List ℕ → Type 0
IsText yard t bytes = IfSome t (IsPlan (choices yard)) × (bytes ≡ plan_text yard t)

plan_is_text : (yard : PlainYard) (plan : List ℕ) → AreCodes yard yard.blocks plan → head yard ++ 10 ∷ body yard plan ≡ plan_text yard (Some plan)
unfolding plan_text
plan_is_text yard plan have =
    let first : List ℕ = head yard ++ 10 ∷ [] in
    sym (append_assoc (head yard) (10 ∷ []) (body yard plan))
    ∙ sym (append_assoc first (rows_at yard yard.blocks plan) (of_total (total (choices yard) plan)))
    ∙ ap (λ (t : List ℕ). (first ++ t) ++ of_total (total (choices yard) plan)) (sym (rows_same yard plan have))

-- the head has no line feed, and is not the line of no plan
kind_lacks : (told : Bool) → Lacks 10 (cond told (codes "plan 2") (codes "plan 1"))
kind_lacks true = (refl, (refl, (refl, (refl, (refl, (refl, tt))))))
kind_lacks false = (refl, (refl, (refl, (refl, (refl, (refl, tt))))))

kind_other : (told : Bool) → bytes_eq (cond told (codes "plan 2") (codes "plan 1")) (codes "no plan") ≡ false
kind_other true = refl
kind_other false = refl

headed-takes : (yard : PlainYard) (ps : List (List ℕ)) (t : Option (List ℕ)) → headed yard ps ≡ Ok t → IsText yard t (join_with_byte 10 ps)
unfolding plan_text
headed-takes yard [] t e = absurd cc
headed-takes yard (p ∷ []) t e = absurd cc
headed-takes yard (first ∷ next ∷ more) t e =
    elim (cases_Bool (bytes_eq first (codes "no plan"))) [
      | inl none ↦
          let is = (bytes_eq-Decides first (codes "no plan")).0 none in
          then_ok (closed (next ∷ more)) (λ last. answer None) t (rw none at e) (λ u last m.
          subst (λ (s : Option (List ℕ)). IsText yard s (join_with_byte 10 (first ∷ next ∷ more))) (answer_is None t m)
          (tt, ap (λ (ps : List (List ℕ)). join_with_byte 10 (first ∷ ps)) (closed_ok (next ∷ more) u last) ∙ ap (λ (s : List ℕ). s ++ 10 ∷ []) is))
      | inr some ↦ elim (cases_Bool (bytes_eq first (head yard))) [
        | inl same ↦
            let is = (bytes_eq-Decides first (head yard)).0 same in
            then_ok (planned yard (next ∷ more)) (λ plan. answer (Some plan)) t (rw (some, same) at e) (λ plan found m.
            let (have, text) = planned-takes yard (next ∷ more) plan found in
            subst (λ (s : Option (List ℕ)). IsText yard s (join_with_byte 10 (first ∷ next ∷ more))) (answer_is (Some plan) t m)
            (plan_from yard plan have, ap (λ (s : List ℕ). s ++ 10 ∷ join_with_byte 10 (next ∷ more)) is ∙ ap (λ (s : List ℕ). head yard ++ 10 ∷ s) text ∙ plan_is_text yard plan have))
        | inr other ↦ let bad : Err (Line 1) ≡ answer t = rw (some, other) at e in absurd cc
      ]
    ]

pub plan-takes : (yard : PlainYard) (bytes : List ℕ) (t : Option (List ℕ)) → plan_of yard bytes ≡ Ok t → IfSome t (IsPlan (choices yard)) × (bytes ≡ plan_text yard t)
unfolding plan_of
plan-takes yard bytes t e =
    let h = headed-takes yard (lines bytes) t e in
    (h.0, sym (join_with_byte-slice_split 10 bytes) ∙ h.1)

pub plan-again : (yard : PlainYard) (t : Option (List ℕ)) → IsYard yard → IfSome t (IsPlan (choices yard)) → plan_of yard (plan_text yard t) ≡ Ok t
unfolding plan_text
plan-again yard None limits is = head_turn yard (codes "no plan\n") (codes "no plan") [] refl
plan-again yard (Some plan) limits is =
    let cuts = cut-again 10 (head yard) (body yard plan) (kind_lacks (tells_early yard)) in
    let same = (bytes_eq-Decides (head yard) (head yard)).1 refl in
    ap (plan_of yard) (sym (plan_is_text yard plan (plan_codes yard plan is)))
    ∙ head_turn yard (head yard ++ 10 ∷ body yard plan) (head yard) (body yard plan) cuts
    ∙ rw (kind_other (tells_early yard), same) refl
    ∙ ap (λ r. r >>= λ plan. answer (Some plan)) (planned-again yard plan limits is)

-- what is found
pub is_found : (yard : PlainYard) (bytes : List ℕ) (r : Result (Option (List ℕ)) PlanFault) → Gives (λ t. t) r (plan_of yard bytes)
    → IfOk r (λ t. IfSome t (IsPlan (choices yard)) × (bytes ≡ plan_text yard t))
is_found yard bytes (Ok t) given = plan-takes yard bytes t given
is_found yard bytes (Err e) given = tt
