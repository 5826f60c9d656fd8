use Rattle.std.proofs.Common.{◌≡◌, drop}
use Rattle.strc_work_rules.specs.Signatures.{with_parameters}
use Rattle.strc_work_rules.specs.Resolution.{parameters_resolved}
use Rattle.strc_work_rules.proofs.Resolved.{plain_after}
use Rattle.strc_work_rules.proofs.helpers.resolve_parameters.Given as goal

abbrev pub invariant-loop-parameter : goal.invariant-loop-parameter
invariant-loop-parameter l = record {
  left : plain_after l.resolved.items
      (parameters_resolved l.names l.start (drop l.parameter-index l.parameters))
      ≡ parameters_resolved l.initial.names l.start l.parameters;
  names : with_parameters l.names (drop l.parameter-index l.parameters)
      ≡ with_parameters l.initial.names l.parameters;
}
