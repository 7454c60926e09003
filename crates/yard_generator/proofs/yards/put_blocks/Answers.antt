use Rattle.yard_generator.proofs.BlockLaws.{blocks_more, blocks_all}
use Rattle.yard_generator.proofs.yards.put_blocks.Goals as goal

pub loop-number-preserved : goal.loop-number-preserved
loop-number-preserved c =
    let l = c.loop-number in
    rw (c.in_ok-put_block.ensures, c.block.ensures.block)
    (blocks_more _ _ c.args.blocks l.number l.draws.state c.block.new.self.state c.loop-number-test.true c.block.ensures.state l.invariant)

pub returns : goal.returns
returns c =
    let l = c.loop-number in
    blocks_all _ _ c.args.blocks l.number l.draws.state c.loop-number-test.false l.invariant
