use Rattle.std.proofs.Common.{◌≡◌, ◌++◌, ◌∙◌, ap}
use Rattle.std.specs.Prelude.{codes}
use Rattle.std.specs.Fmt.{decimal}
use Rattle.std.specs.String.{string_bytes}
use Rattle.std.proofs.lemmas.Result.{IfOk-equal}
use Rattle.plan_text.specs.Texts.{head, rows_text}
use Rattle.plan_text.proofs.RowLaws.{whole_text}
use Rattle.plan_text.proofs.print.put_plan.Goals as goal

pub returns : goal.returns
returns c =
    let h : string_bytes c.write.new.self ≡ string_bytes c.args.out.now ++ (c.head-head.result.now ++ codes "\n") = c.in_ok-write.ensures.bytes in
    let s : c.head-head.result.now ≡ head c.args.codes.now = c.head-head.ensures ∙ ap head c.yard.ensures.value in
    let k : string_bytes c.put_rows.new.out ≡ string_bytes c.write.new.self ++ rows_text c.args.codes.now c.args.plan.now = c.in_ok-put_rows.ensures in
    IfOk-equal c.write-2.result _ _ _ c.write-2.ensures.bytes
    (ap (λ t. t ++ (codes "total " ++ (decimal c.total-total.result ++ codes "\n"))) (k ∙ ap (λ t. t ++ rows_text c.args.codes.now c.args.plan.now) (h ∙ ap (λ t. string_bytes c.args.out.now ++ (t ++ codes "\n")) s))
    ∙ whole_text c.args.codes.now c.args.plan.now (string_bytes c.args.out.now) c.total-total.result c.total-total.ensures)
