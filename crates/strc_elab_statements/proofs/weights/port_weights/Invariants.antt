use Rattle.std.proofs.Common.{◌≡◌, drop}
use Rattle.strc_elab_statements.specs.Weights.{port_weights}
use Rattle.strc_elab_statements.proofs.Dealing.{dealt_before}
use Rattle.strc_elab_statements.proofs.weights.port_weights.Given as goal

abbrev pub invariant-loop-port : goal.invariant-loop-port
invariant-loop-port l =
    dealt_before l.dealt.items (port_weights (drop l.port l.weights) (drop l.port l.sides))
    ≡ port_weights l.weights l.sides
