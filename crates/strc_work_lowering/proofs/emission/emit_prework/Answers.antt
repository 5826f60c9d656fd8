use Rattle.std.proofs.Common.{rules}
use Rattle.strc_work_meaning.specs.Filters.{members_of}
use Rattle.strc_work_lowering.proofs.Prework.{work_first}
use Rattle.strc_work_lowering.proofs.emission.emit_prework.Goals as goal

pub returns : goal.returns
returns c = work_first c.args.names.now (members_of c.args.members.now) (search rules)
