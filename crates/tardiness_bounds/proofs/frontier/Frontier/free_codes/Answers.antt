use Rattle.std.proofs.Common.{◌≡◌, ◌<◌, length, min, sym, ap, ◌∙◌, subst}
use Rattle.shape_exact.specs.Yards.{PlainYard}
use Rattle.plan_rule.specs.Choices.{blocks, count}
use Rattle.plan_rule.specs.Yards.{choices}
use Rattle.plan_rule.proofs.CountLaws.{block_exists, count-length}
use Rattle.code_table.specs.Placements.{placements}
use Rattle.tardiness_bounds.specs.Stacks.{PlainFrontier}
use Rattle.tardiness_bounds.proofs.frontier.Frontier.free_codes.Goals as goal

pub count-requires : goal.count-requires
count-requires c =
    subst (λ (y : PlainYard). c.args.block < length y.blocks) (sym c.codes.ensures)
    (block_exists c.self.inside.tables.now.yard c.args.block (subst (λ (p : PlainFrontier). c.args.block < blocks (choices p.yard)) (sym c.self.view_is) c.requires.block))

pub of-requires-clause-block : goal.of-requires-clause-block
of-requires-clause-block c =
    block_exists c.self.inside.tables.now.yard c.args.block (subst (λ (p : PlainFrontier). c.args.block < blocks (choices p.yard)) (sym c.self.view_is) c.requires.block)

pub returns-clause-from : goal.returns-clause-from
returns-clause-from c =
    let l = block_exists c.self.inside.tables.now.yard c.args.block (subst (λ (p : PlainFrontier). c.args.block < blocks (choices p.yard)) (sym c.self.view_is) c.requires.block) in
    let n : c.count.result ≡ count (choices c.args.self.now.yard) c.args.block =
    c.count.ensures.value ∙ ap (λ y. length (placements y c.args.block)) c.codes.ensures ∙ sym (count-length c.self.inside.tables.now.yard c.args.block l)
    ∙ ap (λ (p : PlainFrontier). count (choices p.yard) c.args.block) c.self.view_is in
    c.of.ensures.from ∙ c.min-from.ensures ∙ ap (λ n. min c.args.code n) n
