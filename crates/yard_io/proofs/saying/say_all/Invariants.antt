use Rattle.std.proofs.Common.{length, take, ◌-◌, ◌≡◌, ◌≤◌}
use Rattle.yard_io.specs.Desk.{then_said, SameFiles}
use Rattle.yard_io.proofs.saying.say_all.Given as goal

abbrev pub invariant-loop-done : goal.invariant-loop-done
invariant-loop-done g l =
    (l.done ≤ length l.bytes)
    × (g.D.Desk.said l.desk ≡ then_said (g.D.Desk.said l.initial.desk) (take l.done l.bytes))
    × SameFiles (g.D.Desk.file l.initial.desk) (g.D.Desk.file l.desk)
    × (g.D.Desk.tells l.desk ≡ g.D.Desk.tells l.initial.desk)
    × (g.D.Desk.write_faults l.initial.desk ≤ g.D.Desk.write_faults l.desk)
    × (g.D.Desk.read_faults l.initial.desk ≤ g.D.Desk.read_faults l.desk)

abbrev pub decreases-loop-done : goal.decreases-loop-done
decreases-loop-done g l = length l.bytes - l.done
