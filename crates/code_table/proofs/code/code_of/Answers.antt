use Rattle.std.proofs.Common.{◌≡◌, ◌<◌, ◌+◌, ℕ, List, length, get_or, ap, sym, ◌∙◌, arith}
use Rattle.std.specs.Prelude.{slice_get, Some}
use Rattle.std.proofs.lemmas.Bool.{false≢true}
use Rattle.std.proofs.lemmas.Option.{same_Some, slice_get_within}
use Rattle.code_table.specs.Placements.{placements_of}
use Rattle.code_table.proofs.ReadLaws.{read_at, plate_limits}
use Rattle.code_table.proofs.CodeLaws.{no_stand, no_position, code_at, only_code, plate_within}
use Rattle.code_table.proofs.code.code_of.Goals as goal

pub returns-then-not-has_stand : goal.returns-then-not-has_stand
returns-then-not-has_stand c =
    no_stand c.args.yard.now c.args.block.now c.args.placement.now (λ has. false≢true (sym c.if-not-has_stand.true ∙ c.has_stand.ensures.1 has))

pub bounds-plates-placement : goal.bounds-plates-placement
bounds-plates-placement c =
    let l = plate_within c.args.yard.now c.args.block.now c.args.placement.now (c.has_stand.ensures.0 c.if-not-has_stand.false) in
    let e = ap length c.plates-plates.ensures.value in omega arith

pub place_in-requires : goal.place_in-requires
place_in-requires c =
    let has = c.has_stand.ensures.0 c.if-not-has_stand.false in
    let at = read_at c.args.yard.now.plates _ c.args.placement.now.plate c.index-plates-placement.result c.plates-plates.ensures.value
    (plate_within c.args.yard.now c.args.block.now c.args.placement.now has) c.index-plates-placement.is in
    let limits = plate_limits c.args.yard.now c.args.placement.now.plate c.index-plates-placement.result c.requires.limits at in
    record { pitch = limits.pitch.0; width = limits.width.1; height = limits.height.1 }

pub returns-in_default : goal.returns-in_default
returns-in_default c =
    let has = c.has_stand.ensures.0 c.if-not-has_stand.false in
    let at = read_at c.args.yard.now.plates _ c.args.placement.now.plate c.index-plates-placement.result c.plates-plates.ensures.value
    (plate_within c.args.yard.now c.args.block.now c.args.placement.now has) c.index-plates-placement.is in
    let table = c.requires.table in
    let l : c.args.placement.now.turn < length c.args.table.now.shapes.items = let t = has.turn in omega (arith, table.turns) in
    let shape_is = read_at c.args.table.now.shapes.items _ c.args.placement.now.turn c.index-shapes-placement.result c.as_slice-shapes.ensures.value
    l c.index-shapes-placement.is in
    let shaped = same_Some _ _ (sym shape_is ∙ table.shapes c.args.placement.now.turn has.turn) in
    no_position c.args.yard.now c.args.block.now c.args.placement.now c.index-plates-placement.result c.index-shapes-placement.result
    c.requires.limits at shaped c.in_default.ensures.none

pub number_of-requires-clause-plate : goal.number_of-requires-clause-plate
number_of-requires-clause-plate c =
    plate_within c.args.yard.now c.args.block.now c.args.placement.now (c.has_stand.ensures.0 c.if-not-has_stand.false)

pub overflow_add-result : goal.overflow_add-result
overflow_add-result c =
    let has = c.has_stand.ensures.0 c.if-not-has_stand.false in
    let at = read_at c.args.yard.now.plates _ c.args.placement.now.plate c.index-plates-placement.result c.plates-plates.ensures.value
    (plate_within c.args.yard.now c.args.block.now c.args.placement.now has) c.index-plates-placement.is in
    let table = c.requires.table in
    let l : c.args.placement.now.turn < length c.args.table.now.shapes.items = let t = has.turn in omega (arith, table.turns) in
    let shape_is = read_at c.args.table.now.shapes.items _ c.args.placement.now.turn c.index-shapes-placement.result c.as_slice-shapes.ensures.value
    l c.index-shapes-placement.is in
    let shaped = same_Some _ _ (sym shape_is ∙ table.shapes c.args.placement.now.turn has.turn) in
    let here : slice_get (placements_of c.args.yard.now c.args.block.now) (get_or c.as_slice-sums.result.now c.number_of.result 0 + c.in-Some.place) ≡ Some c.args.placement.now =
    ap (λ (ns : List ℕ). slice_get (placements_of c.args.yard.now c.args.block.now) (get_or ns c.number_of.result 0 + c.in-Some.place)) c.as_slice-sums.ensures.value
    ∙ code_at c.args.yard.now c.args.block.now c.args.table.now.sums.items c.args.placement.now c.index-plates-placement.result
    c.index-shapes-placement.result c.number_of.result c.in-Some.place c.requires.limits table.sums has at shaped c.in-Some.ensures.some
    c.number_of.ensures.value in
    let within = slice_get_within (placements_of c.args.yard.now c.args.block.now) _ c.args.placement.now here in
    let few = table.few in
    let small : get_or c.as_slice-sums.result.now c.number_of.result 0 + c.in-Some.place < 1048577 = omega arith in
    omega arith

pub returns : goal.returns
returns c =
    let has = c.has_stand.ensures.0 c.if-not-has_stand.false in
    let at = read_at c.args.yard.now.plates _ c.args.placement.now.plate c.index-plates-placement.result c.plates-plates.ensures.value
    (plate_within c.args.yard.now c.args.block.now c.args.placement.now has) c.index-plates-placement.is in
    let table = c.requires.table in
    let l : c.args.placement.now.turn < length c.args.table.now.shapes.items = let t = has.turn in omega (arith, table.turns) in
    let shape_is = read_at c.args.table.now.shapes.items _ c.args.placement.now.turn c.index-shapes-placement.result c.as_slice-shapes.ensures.value
    l c.index-shapes-placement.is in
    let shaped = same_Some _ _ (sym shape_is ∙ table.shapes c.args.placement.now.turn has.turn) in
    let here : slice_get (placements_of c.args.yard.now c.args.block.now) (get_or c.as_slice-sums.result.now c.number_of.result 0 + c.in-Some.place) ≡ Some c.args.placement.now =
    ap (λ (ns : List ℕ). slice_get (placements_of c.args.yard.now c.args.block.now) (get_or ns c.number_of.result 0 + c.in-Some.place)) c.as_slice-sums.ensures.value
    ∙ code_at c.args.yard.now c.args.block.now c.args.table.now.sums.items c.args.placement.now c.index-plates-placement.result
    c.index-shapes-placement.result c.number_of.result c.in-Some.place c.requires.limits table.sums has at shaped c.in-Some.ensures.some
    c.number_of.ensures.value in
    only_code c.args.yard.now c.args.block.now c.args.placement.now _ c.requires.limits here
