use Rattle.std.proofs.Common.{◌<◌, length, ap, sym, ◌∙◌, rules}
use Rattle.shape_exact.specs.Reading.{shape_of}
use Rattle.toml.specs.View.{items_view}
use Rattle.yard_file.proofs.FootprintLaws.{many_items}
use Rattle.yard_file.proofs.HeldLaws.{held_shape}
use Rattle.yard_file.proofs.footprints.footprint.Goals as goal

pub returns-then-items-gt16 : goal.returns-then-items-gt16
returns-then-items-gt16 c =
    let many : 16 < length c.args.items.now = search rules in
    sym (many_items c.args.items.now many)

pub returns : goal.returns
returns c =
    c.read.ensures ∙ ap shape_of (c.as_slice.ensures.value ∙ c.held_points.ensures) ∙ held_shape (items_view c.args.items.now)
