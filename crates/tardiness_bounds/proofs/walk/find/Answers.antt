use Rattle.std.proofs.Common.{◌≡◌, ℕ, ◌+◌, ◌*◌, ◌<◌, List, length, Some, ap, ◌∙◌, subst, arith}
use Rattle.code_table.specs.Placements.{placements}
use Rattle.lattice_free.specs.Clear.{AreClear}
use Rattle.lattice_free.specs.Runs.{place}
use Rattle.tardiness_bounds.specs.declared.near.Neighbour.{Neighbour}
use Rattle.tardiness_bounds.specs.Firsts.{IsFirst, IsOnFrom}
use Rattle.tardiness_bounds.specs.Neighbours.{obstacles_of}
use Rattle.tardiness_bounds.specs.Stands.{code_on}
use Rattle.tardiness_bounds.specs.Walks.{IsFreeBeside}
use Rattle.tardiness_bounds.proofs.WalkLaws.{find_none, find_some}
use Rattle.tardiness_bounds.proofs.walk.find.Goals as goal

pub returns-in_default-clause-none : goal.returns-in_default-clause-none
returns-in_default-clause-none c =
    find_none c.args.tables.now.yard c.args.block c.args.walk.now c.requires.ground c.requires.at
    (subst (λ (near : List Neighbour). (j k : ℕ) → j < c.args.walk.now.stand.lattice.rows → k < c.args.walk.now.stand.lattice.columns → IsOnFrom c.args.walk.now.row c.args.walk.now.column j k
    → AreClear (obstacles_of c.args.tables.now.yard (c.args.block * 4 + c.args.walk.now.stand.stretch.place.turn) near) (place c.args.walk.now.stand.lattice.pitch j k) → ⊥)
    c.as_slice.ensures.value c.in_default.ensures.none)

pub overflow_add-code-2 : goal.overflow_add-code-2
overflow_add-code-2 c =
    let some = c.in-Some.ensures.some in
    let inside = c.requires.ground.grid.within c.in-Some.row c.in-Some.column (some.0, some.1) in
    let e : c.from.result * c.from-columns.result ≡ c.in-Some.row * c.args.walk.now.stand.lattice.columns =
    ap (λ r. r * c.from-columns.result) c.from.ensures ∙ ap (λ k. c.in-Some.row * k) c.from-columns.ensures in
    let f = c.from-2.ensures in
    let all = c.requires.ground.grid.all in
    let n = ap (λ y. length (placements y c.args.block)) c.codes-codes.ensures in
    let v = c.count-count.ensures.value in
    let few = c.count-count.ensures.few in
    omega arith

pub overflow_add-walk-2 : goal.overflow_add-walk-2
overflow_add-walk-2 c =
    let some = c.in-Some.ensures.some in
    let inside = c.requires.ground.grid.within c.in-Some.row c.in-Some.column (some.0, some.1) in
    let e : c.from.result * c.from-columns.result ≡ c.in-Some.row * c.args.walk.now.stand.lattice.columns =
    ap (λ r. r * c.from-columns.result) c.from.ensures ∙ ap (λ k. c.in-Some.row * k) c.from-columns.ensures in
    let f = c.from-2.ensures in
    let all = c.requires.ground.grid.all in
    let n = ap (λ y. length (placements y c.args.block)) c.codes-codes.ensures in
    let v = c.count-count.ensures.value in
    let few = c.count-count.ensures.few in
    omega arith

pub returns-clause-some : goal.returns-clause-some
returns-clause-some c =
    let some = c.in-Some.ensures.some in
    let e : c.from.result * c.from-columns.result ≡ c.in-Some.row * c.args.walk.now.stand.lattice.columns =
    ap (λ r. r * c.from-columns.result) c.from.ensures ∙ ap (λ k. c.in-Some.row * k) c.from-columns.ensures in
    let f = c.from-2.ensures in
    let code : code_on c.args.walk.now.stand c.in-Some.row c.in-Some.column
    ≡ c.args.walk.now.stand.stretch.lo + (c.from.result * c.from-columns.result + c.from-2.result) = omega arith in
    subst (λ n. IsFirst (IsFreeBeside c.args.tables.now.yard c.args.walk.now.stand.near.items c.args.block) c.args.walk.now.from c.args.walk.now.stand.stretch.hi (Some n)) code
    (find_some c.args.tables.now.yard c.args.block c.args.walk.now c.in-Some.row c.in-Some.column c.requires.ground c.requires.at (some.0, some.1) some.2
    (subst (λ (near : List Neighbour). AreClear (obstacles_of c.args.tables.now.yard (c.args.block * 4 + c.args.walk.now.stand.stretch.place.turn) near) (place c.args.walk.now.stand.lattice.pitch c.in-Some.row c.in-Some.column))
    c.as_slice.ensures.value some.3)
    (subst (λ (near : List Neighbour). (j k : ℕ) → j < c.args.walk.now.stand.lattice.rows → k < c.args.walk.now.stand.lattice.columns → IsOnFrom c.args.walk.now.row c.args.walk.now.column j k
    → AreClear (obstacles_of c.args.tables.now.yard (c.args.block * 4 + c.args.walk.now.stand.stretch.place.turn) near) (place c.args.walk.now.stand.lattice.pitch j k) → IsOnFrom c.in-Some.row c.in-Some.column j k)
    c.as_slice.ensures.value c.in-Some.ensures.first))
