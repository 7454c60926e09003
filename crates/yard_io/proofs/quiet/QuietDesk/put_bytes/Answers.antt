use Rattle.std.proofs.Common.{string_bytes}
use Rattle.yard_io.proofs.Texts.{text_put}
use Rattle.yard_io.proofs.quiet.QuietDesk.put_bytes.Goals as goal

pub returns-in-Ok-insert-clause-made : goal.returns-in-Ok-insert-clause-made
returns-in-Ok-insert-clause-made c = λ k. rw (← c.in-Ok.ensures.ok) (text_put (string_bytes c.in-Ok.key) c.args.self.now.files c.insert.new.self c.args.bytes c.in-Ok-insert.ensures.updates k)
