use Rattle.std.proofs.Common.{◌≡◌, ◌++◌, append_assoc}
use Rattle.std.specs.Prelude.{codes}
use Rattle.std.specs.Fmt.{decimal}
use Rattle.std.specs.String.{string_bytes}
use Rattle.std.proofs.lemmas.Result.{IfOk-equal}
use Rattle.plan_text.specs.Texts.{block_line}
use Rattle.plan_text.proofs.rows.put_row.Goals as goal

pub returns : goal.returns
unfolding block_line
returns c =
    let p = c.args.place in
    let h : string_bytes c.write.new.self ≡ string_bytes c.args.out.now ++ (codes "block " ++ (c.text_of-name.result.now ++ (codes " plate " ++ (c.text_of-plate.result.now ++ (codes " turn " ++ (decimal p.turn ++ codes " ")))))) = c.in_ok-write.ensures.bytes in
    let k : string_bytes c.write-2.new.self ≡ string_bytes c.write.new.self ++ (codes "x " ++ (decimal p.x ++ (codes " y " ++ (decimal p.y ++ (codes " start " ++ (decimal p.start ++ codes " ")))))) = c.in_ok-write-2.ensures.bytes in
    let e : string_bytes c.write-3.new.self ≡ string_bytes c.write-2.new.self ++ (codes "end " ++ (decimal p.end ++ codes " ")) = c.in_ok-write-3.ensures.bytes in
    IfOk-equal c.put_last_words.result _ _ _ c.put_last_words.ensures
    (rw (e, k, h, c.text_of-name.ensures, c.text_of-plate.ensures) (simp append_assoc))
