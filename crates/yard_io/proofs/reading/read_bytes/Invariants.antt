use Rattle.std.proofs.Common.{length, take, ◌-◌, ◌≡◌, ◌≤◌, ◌<◌, IfSome, vec_len}
use Rattle.yard_io.specs.Desk.{Same}
use Rattle.yard_io.proofs.reading.read_bytes.Given as goal

abbrev pub invariant-loop-buf : goal.invariant-loop-buf
invariant-loop-buf g l =
    (vec_len l.text ≤ l.total)
    × IfSome (g.D.Desk.file l.fn.desk l.name) (λ bytes. l.total ≡ length bytes → (l.text.items ≡ take (vec_len l.text) bytes))
    × Same (g.D.Desk.file l.fn.desk) (g.D.Desk.said l.fn.desk) (g.D.Desk.file l.desk) (g.D.Desk.said l.desk)
    × (g.D.Desk.tells l.desk ≡ g.D.Desk.tells l.fn.desk)
    × (g.D.Desk.read_faults l.fn.desk ≤ g.D.Desk.read_faults l.desk)
    × (g.D.Desk.write_faults l.fn.desk ≤ g.D.Desk.write_faults l.desk)
    × (0 < length l.buf)

abbrev pub decreases-loop-buf : goal.decreases-loop-buf
decreases-loop-buf g l = l.total - vec_len l.text
