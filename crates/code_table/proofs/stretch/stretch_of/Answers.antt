use Rattle.std.proofs.Common.{◌-◌, ◌<◌, length, get_or, ap, sym, ◌∙◌, subst, refl, arith}
use Rattle.std.proofs.lemmas.Option.{same_Some}
use Rattle.code_table.specs.Tables.{IsSums}
use Rattle.code_table.proofs.ReadLaws.{read_at}
use Rattle.code_table.proofs.SpotLaws.{some_stand, few_stands, in_stand, not_empty}
use Rattle.code_table.proofs.StretchLaws.{stretch_all, stretch_end, stretch_is}
use Rattle.code_table.proofs.TableLaws.{count_at}
use Rattle.code_table.proofs.stretch.stretch_of.Goals as goal

pub place_of-k-requires-clause-some : goal.place_of-k-requires-clause-some
place_of-k-requires-clause-some c =
    let some = some_stand c.args.yard.now c.args.block.now c.args.code c.requires.code in
    let same = ap length c.as_slice-sums.ensures.value in let long = c.requires.table.sums.len in omega arith

pub place_of-k-requires-clause-last : goal.place_of-k-requires-clause-last
place_of-k-requires-clause-last c =
    let sums : IsSums c.args.yard.now c.args.block.now c.as_slice-sums.result.now =
    subst (IsSums c.args.yard.now c.args.block.now) (sym c.as_slice-sums.ensures.value) c.requires.table.sums in
    let last = count_at c.args.yard.now c.args.block.now c.as_slice-sums.result.now sums in
    let code = c.requires.code in
    let l : c.args.code < get_or c.as_slice-sums.result.now (length c.as_slice-sums.result.now - 1) 0 = omega arith in l

pub overflow_cast-k : goal.overflow_cast-k
overflow_cast-k c =
    let few = few_stands c.args.yard.now c.requires.limits in
    let same = ap length c.as_slice-sums.ensures.value in let long = c.requires.table.sums.len in
    let within = c.place_of-k.ensures.within in omega arith

pub unreachable-requires : goal.unreachable-requires
unreachable-requires c =
    let sums : IsSums c.args.yard.now c.args.block.now c.as_slice-sums.result.now =
    subst (IsSums c.args.yard.now c.args.block.now) (sym c.as_slice-sums.ensures.value) c.requires.table.sums in
    let (k, within, at) = in_stand c.args.yard.now c.args.block.now c.as_slice-sums.result.now c.place_of-k.result c.args.code sums
    c.place_of-k.ensures.within c.place_of-k.ensures.low c.place_of-k.ensures.high in
    not_empty c.args.yard.now c.args.block.now c.place_of-k.result _ _ _ _ c.nth_stand-at.ensures.start c.nth_stand-at.ensures.plate
    c.nth_stand-at.ensures.turn within (c.in_default.ensures.none c.nth_stand-at.result.turn)

pub returns-clause-stretch : goal.returns-clause-stretch
returns-clause-stretch c =
    let sums : IsSums c.args.yard.now c.args.block.now c.as_slice-sums.result.now =
    subst (IsSums c.args.yard.now c.args.block.now) (sym c.as_slice-sums.ensures.value) c.requires.table.sums in
    let table = c.requires.table in
    let plate_at = read_at c.args.yard.now.plates _ c.nth_stand-at.result.plate c.index-plates-at.result c.plates-plates.ensures.value
    c.nth_stand-at.ensures.plate_within c.index-plates-at.is in
    let l : c.nth_stand-at.result.turn < length c.args.table.now.shapes.items = let t = c.nth_stand-at.ensures.turn_within in omega (arith, table.turns) in
    let shape_at = read_at c.args.table.now.shapes.items _ c.nth_stand-at.result.turn c.index-shapes-at.result c.as_slice-shapes.ensures.value
    l c.index-shapes-at.is in
    let low = c.place_of-k.ensures.low in let high = c.place_of-k.ensures.high in
    stretch_is c.args.yard.now c.args.block.now c.as_slice-sums.result.now c.place_of-k.result c.index-plates-at.result c.index-shapes-at.result _
    c.requires.limits c.requires.block sums c.place_of-k.ensures.within
    (record {
      lo_is = refl;
      hi_is = refl;
      start_is = c.nth_stand-at.ensures.start;
      plate_is = c.nth_stand-at.ensures.plate;
      turn_is = c.nth_stand-at.ensures.turn;
      starts = c.nth_stand-at.ensures.start_within;
      turns = c.nth_stand-at.ensures.turn_within;
      ends = c.in-Some.ensures.some;
      plate_at = plate_at;
      shaped = same_Some _ _ (sym shape_at ∙ table.shapes c.nth_stand-at.result.turn c.nth_stand-at.ensures.turn_within);
      columns_are = c.columns.ensures.value;
      pitch_is = refl;
      corner = (refl, refl);
    })
    (omega arith)

pub returns-clause-end : goal.returns-clause-end
returns-clause-end c =
    let sums : IsSums c.args.yard.now c.args.block.now c.as_slice-sums.result.now =
    subst (IsSums c.args.yard.now c.args.block.now) (sym c.as_slice-sums.ensures.value) c.requires.table.sums in
    let table = c.requires.table in
    let plate_at = read_at c.args.yard.now.plates _ c.nth_stand-at.result.plate c.index-plates-at.result c.plates-plates.ensures.value
    c.nth_stand-at.ensures.plate_within c.index-plates-at.is in
    let l : c.nth_stand-at.result.turn < length c.args.table.now.shapes.items = let t = c.nth_stand-at.ensures.turn_within in omega (arith, table.turns) in
    let shape_at = read_at c.args.table.now.shapes.items _ c.nth_stand-at.result.turn c.index-shapes-at.result c.as_slice-shapes.ensures.value
    l c.index-shapes-at.is in
    let low = c.place_of-k.ensures.low in let high = c.place_of-k.ensures.high in
    stretch_end c.args.yard.now c.args.block.now c.as_slice-sums.result.now c.place_of-k.result c.index-plates-at.result c.index-shapes-at.result _
    c.requires.limits c.requires.block sums c.place_of-k.ensures.within
    (record {
      lo_is = refl;
      hi_is = refl;
      start_is = c.nth_stand-at.ensures.start;
      plate_is = c.nth_stand-at.ensures.plate;
      turn_is = c.nth_stand-at.ensures.turn;
      starts = c.nth_stand-at.ensures.start_within;
      turns = c.nth_stand-at.ensures.turn_within;
      ends = c.in-Some.ensures.some;
      plate_at = plate_at;
      shaped = same_Some _ _ (sym shape_at ∙ table.shapes c.nth_stand-at.result.turn c.nth_stand-at.ensures.turn_within);
      columns_are = c.columns.ensures.value;
      pitch_is = refl;
      corner = (refl, refl);
    })
    (omega arith)

pub returns-clause-each : goal.returns-clause-each
returns-clause-each c =
    let sums : IsSums c.args.yard.now c.args.block.now c.as_slice-sums.result.now =
    subst (IsSums c.args.yard.now c.args.block.now) (sym c.as_slice-sums.ensures.value) c.requires.table.sums in
    let table = c.requires.table in
    let plate_at = read_at c.args.yard.now.plates _ c.nth_stand-at.result.plate c.index-plates-at.result c.plates-plates.ensures.value
    c.nth_stand-at.ensures.plate_within c.index-plates-at.is in
    let l : c.nth_stand-at.result.turn < length c.args.table.now.shapes.items = let t = c.nth_stand-at.ensures.turn_within in omega (arith, table.turns) in
    let shape_at = read_at c.args.table.now.shapes.items _ c.nth_stand-at.result.turn c.index-shapes-at.result c.as_slice-shapes.ensures.value
    l c.index-shapes-at.is in
    stretch_all c.args.yard.now c.args.block.now c.as_slice-sums.result.now c.place_of-k.result c.index-plates-at.result c.index-shapes-at.result _
    c.requires.limits sums c.place_of-k.ensures.within
    (record {
      lo_is = refl;
      hi_is = refl;
      start_is = c.nth_stand-at.ensures.start;
      plate_is = c.nth_stand-at.ensures.plate;
      turn_is = c.nth_stand-at.ensures.turn;
      starts = c.nth_stand-at.ensures.start_within;
      turns = c.nth_stand-at.ensures.turn_within;
      ends = c.in-Some.ensures.some;
      plate_at = plate_at;
      shaped = same_Some _ _ (sym shape_at ∙ table.shapes c.nth_stand-at.result.turn c.nth_stand-at.ensures.turn_within);
      columns_are = c.columns.ensures.value;
      pitch_is = refl;
      corner = (refl, refl);
    })
