use Rattle.std.proofs.Common.{◌∙◌}
use Rattle.yard_file.specs.Keys.{is_known}
use Rattle.yard_file.proofs.KeyLaws.{keys_in_view}
use Rattle.yard_file.proofs.KeyLaws.{first_is_least, ascend_bytes}
use Rattle.yard_file.proofs.keys.least_unknown.Goals as goal

pub returns : goal.returns
returns c =
    c.first_unknown.ensures ∙ first_is_least (is_known c.args.keys.now) _ (rw (keys_in_view c.args.table.now.entries) (ascend_bytes _ c.len-count.ensures.ordered))
