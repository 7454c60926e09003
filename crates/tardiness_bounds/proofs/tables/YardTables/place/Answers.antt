use Rattle.std.proofs.Common.{◌≡◌, ◌<◌, length, sym, ap, subst, arith, Some}
use Rattle.std.specs.Prelude.{slice_get}
use Rattle.code_table.proofs.ReadLaws.{read_at}
use Rattle.code_table.specs.Placements.{placements}
use Rattle.tardiness_bounds.specs.Tables.{PlainTables}
use Rattle.tardiness_bounds.proofs.tables.YardTables.place.Goals as goal

pub bounds-stretches-block : goal.bounds-stretches-block
bounds-stretches-block c =
    let same = ap (λ (t : PlainTables). length t.yard.blocks) c.self.view_is in
    let long = c.self.invariant.stretches_are.one_each in
    let e = ap length c.as_slice-stretches.ensures.value in
    let l = c.requires.block in
    omega arith

pub place_at-requires-clause-block : goal.place_at-requires-clause-block
place_at-requires-clause-block c = (let same = ap (λ (t : PlainTables). length t.yard.blocks) c.self.view_is in let l = c.requires.block in omega arith)

pub place_at-requires-clause-kept : goal.place_at-requires-clause-kept
place_at-requires-clause-kept c =
    let same = ap (λ (t : PlainTables). length t.yard.blocks) c.self.view_is in
    let long = c.self.invariant.stretches_are.one_each in
    let l = c.requires.block in
    let within : c.args.block < length c.self.inside.stretches.items = omega arith in
    c.self.invariant.stretches_are.each c.args.block c.index-stretches-block.result
    (read_at c.self.inside.stretches.items _ c.args.block c.index-stretches-block.result c.as_slice-stretches.ensures.value within c.index-stretches-block.is)

pub place_at-requires-clause-code : goal.place_at-requires-clause-code
place_at-requires-clause-code c =
    subst (λ (t : PlainTables). c.args.code < length (placements t.yard c.args.block)) (sym c.self.view_is) c.requires.code

pub returns-clause-value : goal.returns-clause-value
returns-clause-value c =
    subst (λ (t : PlainTables). slice_get (placements t.yard c.args.block) c.args.code ≡ Some c.place_at.result) c.self.view_is c.place_at.ensures.value
