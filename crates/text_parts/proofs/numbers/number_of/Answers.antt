use Rattle.std.proofs.Common.{◌≡◌, ◌∙◌, ◌<◌, ◌^◌, ap, arith}
use Rattle.text_parts.specs.Parts.{number_of}
use Rattle.text_parts.proofs.NumberLaws.{spelled, number-again}
use Rattle.text_parts.proofs.numbers.number_of.Goals as goal

pub returns-clause-spelled : goal.returns-clause-spelled
returns-clause-spelled c =
    let small : c.args.limit < 2 ^ 64 = omega arith in
    spelled c.args.limit c.args.text.now c.plain_number.result small c.plain_number.ensures.value

pub returns-clause-read : goal.returns-clause-read
returns-clause-read c = λ n within is.
    let small : c.args.limit < 2 ^ 64 = omega arith in
    c.plain_number.ensures.value ∙ ap (number_of c.args.limit) is ∙ number-again c.args.limit n small within
