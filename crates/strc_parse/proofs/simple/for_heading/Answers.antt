use Rattle.strc_parse.proofs.Placed.{heading_placed}
use Rattle.strc_parse.proofs.simple.for_heading.Goals as goal

pub returns-clause-placed : goal.returns-clause-placed
returns-clause-placed c =
    heading_placed c.args.depth c.args.all.now c.in_ok-opened.opened.now c.in_ok-read.read
    c.in_ok-read-2.read c.after_first.result c.both.result c.requires c.in_ok-read.ensures.gives
    c.in_ok-read.ensures.plain c.in_ok-read-2.ensures.same c.in_ok-read-2.ensures.placed
    c.both.ensures c.after_first.ensures.gives c.after_first.ensures.placed
