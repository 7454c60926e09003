use Rattle.std.proofs.Common.{◌≤◌, List, subst, sym}
use Rattle.std.specs.List.{All}
use Rattle.shape_exact.specs.Yards.{IsPiece}
use Rattle.shape_exact.specs.declared.fixed.Fixed.{Fixed}
use Rattle.shape_exact.proofs.YardLaws.{piece_near}
use Rattle.yard_file.proofs.PieceLaws.{of_same, piece_of_yard}
use Rattle.yard_file.proofs.pieces.table_piece.Goals as goal

pub no_clash-requires-clause-earlier : goal.no_clash-requires-clause-earlier
no_clash-requires-clause-earlier c =
    let yard = c.fixed.ensures.limits in
    let Near : List Fixed → Type 0 = λ fs. All (λ f. (f.x ≤ 400) × (f.y ≤ 400)) fs in
    let near : Near c.args.yard.now.fixed = λ k d l. piece_near _ _ _ yard.plates (yard.fixed k d l) in
    subst Near (sym c.fixed.ensures.value) near

pub returns-clause-limits : goal.returns-clause-limits
returns-clause-limits c =
    let piece = piece_of_yard _ _ _ _ c.args.i c.in_ok-piece-2.piece c.in_ok-piece-3.piece c.days.ensures.value c.plates-2.ensures.value c.in_ok-piece-3.ensures.value
    c.in_ok-piece-3.ensures.shape c.in_ok-piece-2.ensures.days in
    of_same c.no_clash.result c.in_ok-piece-3.piece (IsPiece c.args.yard.now.days c.args.yard.now.plates) c.no_clash.ensures.same piece
