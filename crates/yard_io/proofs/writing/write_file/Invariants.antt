use Rattle.std.proofs.Common.{length, take, ◌-◌, ◌≡◌, ◌≤◌}
use Rattle.yard_io.specs.Desk.{Sets}
use Rattle.yard_io.proofs.writing.write_file.Given as goal

abbrev pub invariant-loop-done : goal.invariant-loop-done
invariant-loop-done g l =
    (l.done ≤ length l.bytes)
    × Sets (g.D.Desk.tells l.fn.desk) (g.D.Desk.file l.fn.desk) (g.D.Desk.file l.desk) l.name (take l.done l.bytes)
    × (g.D.Desk.said l.desk ≡ g.D.Desk.said l.fn.desk)
    × (g.D.Desk.tells l.desk ≡ g.D.Desk.tells l.fn.desk)
    × (g.D.Desk.write_faults l.fn.desk ≤ g.D.Desk.write_faults l.desk)
    × (g.D.Desk.read_faults l.fn.desk ≤ g.D.Desk.read_faults l.desk)

abbrev pub decreases-loop-done : goal.decreases-loop-done
decreases-loop-done g l = length l.bytes - l.done
