use Rattle.std.proofs.Common.{◌<◌, ◌≤◌, List, refl, subst, arith}
use Rattle.std.specs.Prelude.{All}
use Rattle.lattice_free.specs.declared.forbidden.Forbidden.{Forbidden}
use Rattle.lattice_free.specs.Gaps.{Misses}
use Rattle.tardiness_bounds.specs.Firsts.{HasNone}
use Rattle.tardiness_bounds.specs.Neighbours.{obstacles_of}
use Rattle.tardiness_bounds.proofs.RowLaws.{row_first, row_from, rows_begin, rows_more}
use Rattle.tardiness_bounds.proofs.ground.first_clear.Goals as goal

pub loop-row-init : goal.loop-row-init
loop-row-init c = record {
  none = rows_begin (obstacles_of c.args.tables.now.yard c.args.moving c.args.near.now) c.args.lattice.pitch c.args.lattice.columns c.args.from.0 c.args.from.1;
  here = λ e. refl;
  later = λ l. absurd (omega arith);
}

pub loop-row-preserved : goal.loop-row-preserved
loop-row-preserved c = record {
  none = rows_more (obstacles_of c.args.tables.now.yard c.args.moving c.args.near.now) c.args.lattice.pitch c.loop-row.row c.args.lattice.columns c.args.from.0 c.args.from.1
      c.loop-row.column c.forbid.new.forbidden.items c.loop-row.invariant.none c.loop-row.invariant.here c.loop-row.invariant.later c.forbid.ensures
      (subst (λ (ss : List Forbidden). HasNone (λ k. All (Misses k) ss) c.loop-row.column c.args.lattice.columns) c.as_slice.ensures.value c.in_default.ensures);
  here = λ e. (let a = c.loop-row.auto.row in absurd (omega arith));
  later = λ l. refl;
}

pub returns-in-Some-clause-some : goal.returns-in-Some-clause-some
returns-in-Some-clause-some c =
    let h = subst (λ (ss : List Forbidden). (c.loop-row.column ≤ c.in-Some.k) × (c.in-Some.k < c.args.lattice.columns) × All (Misses c.in-Some.k) ss × HasNone (λ k. All (Misses k) ss) c.loop-row.column c.in-Some.k) c.as_slice.ensures.value c.in-Some.ensures in (
      omega arith,
      h.1,
      row_from c.loop-row.row c.args.from.0 c.args.from.1 c.loop-row.column c.in-Some.k (let a = c.loop-row.auto.row in omega arith) c.loop-row.invariant.here h.0,
      c.forbid.ensures.clear c.in-Some.k h.1 h.2,
    )

pub returns-in-Some-clause-first : goal.returns-in-Some-clause-first
returns-in-Some-clause-first c = λ j k lj lk on clear.
    let h = subst (λ (ss : List Forbidden). (c.loop-row.column ≤ c.in-Some.k) × (c.in-Some.k < c.args.lattice.columns) × All (Misses c.in-Some.k) ss × HasNone (λ k. All (Misses k) ss) c.loop-row.column c.in-Some.k) c.as_slice.ensures.value c.in-Some.ensures in
    row_first (obstacles_of c.args.tables.now.yard c.args.moving c.args.near.now) c.args.lattice.pitch c.loop-row.row c.args.lattice.columns c.args.from.0 c.args.from.1
    c.loop-row.column c.in-Some.k c.forbid.new.forbidden.items c.loop-row.invariant.none c.loop-row.invariant.here c.loop-row.invariant.later c.forbid.ensures
    h.3 h.1 j k lk on clear
