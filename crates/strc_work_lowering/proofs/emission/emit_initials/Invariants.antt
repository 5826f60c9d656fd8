use Rattle.std.proofs.Common.{◌≡◌, drop}
use Rattle.strc_work_meaning.specs.Filters.{members_of}
use Rattle.strc_work_code.specs.Nodes.{before}
use Rattle.strc_work_code.specs.Lowering.{initials_nodes}
use Rattle.strc_work_lowering.specs.Written.{written}
use Rattle.strc_work_lowering.proofs.emission.emit_initials.Given as goal

abbrev pub invariant-loop-member : goal.invariant-loop-member
invariant-loop-member l = before (written l.code)
    (initials_nodes l.names (members_of (drop l.member-index l.members)))
    ≡ before (written l.initial.code) (initials_nodes l.names (members_of l.members))
