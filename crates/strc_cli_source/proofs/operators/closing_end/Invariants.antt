use Rattle.std.proofs.Common.{◌≡◌, ◌≤◌, drop}
use Rattle.strc_cli_source.specs.Operators as spec
use Rattle.strc_cli_source.proofs.operators.closing_end.Given as goal

abbrev pub invariant-loop-token : goal.invariant-loop-token
invariant-loop-token l = record {
  same : spec.closing_end l.brackets (drop l.token-index l.tokens)
      ≡ spec.closing_end 0 l.tokens;
  brackets : l.brackets ≤ l.token-index;
}
