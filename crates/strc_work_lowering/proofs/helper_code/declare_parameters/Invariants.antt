use Rattle.std.proofs.Common.{◌≡◌, drop}
use Rattle.strc_work_meaning.specs.Scoping.{with_parameters}
use Rattle.strc_work_lowering.proofs.helper_code.declare_parameters.Given as goal

abbrev pub invariant-loop-parameter : goal.invariant-loop-parameter
invariant-loop-parameter l = with_parameters l.names (drop l.parameter-index l.parameters)
    ≡ with_parameters l.initial.names l.parameters
