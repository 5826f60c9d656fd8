use Rattle.std.proofs.Common.{◌≡◌, ◌++◌, drop}
use Rattle.strc_stage_cut.specs.Tapes.{tapes_in}
use Rattle.strc_stage_cut.proofs.tapes.tapes_within.Given as goal

abbrev pub invariant-loop-tape : goal.invariant-loop-tape
invariant-loop-tape l =
    l.within.items ++ tapes_in l.first l.next l.tape (drop l.tape l.tapes)
    ≡ tapes_in l.first l.next 0 l.tapes
