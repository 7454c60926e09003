use Rattle.std.proofs.Common.{pos, arith}
use Rattle.shape_exact.proofs.BridgeLaws.{edge_inner, edge_closing}
use Rattle.shape_exact.proofs.separation.end_of.Goals as goal

pub returns-then-i-vertices-clause-edge : goal.returns-then-i-vertices-clause-edge
returns-then-i-vertices-clause-edge c = λ d. edge_inner c.args.vertices.now c.args.i d (record { x = pos 0; y = pos 0 }) (omega arith)

pub returns-else-i-vertices-clause-edge : goal.returns-else-i-vertices-clause-edge
returns-else-i-vertices-clause-edge c = λ d. edge_closing c.args.vertices.now c.args.i d (record { x = pos 0; y = pos 0 }) (omega arith)
