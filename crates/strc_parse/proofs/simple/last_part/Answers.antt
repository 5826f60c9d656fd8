use Rattle.strc_parse.proofs.Placed.{step_placed}
use Rattle.strc_parse.proofs.simple.last_part.Goals as goal

pub returns-clause-placed : goal.returns-clause-placed
returns-clause-placed c =
    step_placed c.args.depth c.args.all.now c.args.tokens.now c.in_ok-read.read c.placed.result
    c.with_mark.result c.requires c.in_ok-read.ensures.gives c.placed.ensures.placed
    c.with_mark.ensures
