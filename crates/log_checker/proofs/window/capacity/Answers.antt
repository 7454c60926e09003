use Rattle.std.proofs.Common.{◌≡◌, ◌∙◌, ap, sym, arith, length}
use Rattle.common_lists.specs.Each.{sum_below}
use Rattle.shape_exact.specs.Yards.{PlainYard}
use Rattle.log_checker.specs.Windows.{plate_room}
use Rattle.log_checker.proofs.WindowLaws.{capacity_is}
use Rattle.log_checker.proofs.window.capacity.Goals as goal

pub returns-clause-value : goal.returns-clause-value
returns-clause-value c =
    let n : length c.plates.result.now ≡ length c.args.codes.now.plates =
    ap length (c.plates.ensures.value ∙ ap (λ (y : PlainYard). y.plates) c.yard.ensures.value) in
    let e : c.loop-plate.plate ≡ length c.args.codes.now.plates = omega arith in
    c.loop-plate.invariant.value ∙ ap (λ n. sum_below n (plate_room c.args.codes.now c.args.window.from c.args.window.to)) e
    ∙ sym (capacity_is c.args.codes.now c.args.window.from c.args.window.to)
