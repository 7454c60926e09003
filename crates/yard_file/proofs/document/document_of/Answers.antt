use Rattle.std.proofs.Common.{◌≡◌, true}
use Rattle.yard_file.proofs.DocumentLaws.{document_taken, document_refused}
use Rattle.yard_file.proofs.document.document_of.Goals as goal

pub returns-in-Ok : goal.returns-in-Ok
returns-in-Ok c = document_taken _ _ c.in-Ok.ensures.ok.0 c.in-Ok.ensures.ok.1

pub returns-else-is_memory : goal.returns-else-is_memory
returns-else-is_memory c =
    document_refused _ (c.in-Err.ensures.refused (λ m. let yes : c.is_memory.result ≡ true = c.is_memory.ensures.1 m in cc))
