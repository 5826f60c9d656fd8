use Rattle.std.proofs.Common.{◌≡◌, drop}
use Rattle.strc_work_writes.specs.Writers.{with_parameters}
use Rattle.strc_work_writes.proofs.helper_writes.declare_parameters.Given as goal

abbrev pub invariant-loop-parameter : goal.invariant-loop-parameter
invariant-loop-parameter l = with_parameters l.names (drop l.parameter-index l.parameters)
    ≡ with_parameters l.initial.names l.parameters
