use Rattle.std.proofs.Common.{◌-◌}
use Rattle.strc_parse.proofs.Placed.{phase_placed}
use Rattle.strc_parse.proofs.control.StatementRules.phase.Goals as goal

pub returns-clause-placed : goal.returns-clause-placed
returns-clause-placed g c =
    phase_placed (c.args.self.now.depth - 1) c.args.self.now.all.now c.in_ok-read.read
    c.braced.result c.both.result c.in_ok-read.ensures.placed c.both.ensures
    c.braced.ensures.gives c.braced.ensures.placed
