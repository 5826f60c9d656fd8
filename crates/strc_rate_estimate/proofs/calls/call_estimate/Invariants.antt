use Rattle.std.proofs.Common.{◌≡◌, drop, map}
use Rattle.strc_rate_estimate.specs.Estimates as spec
use Rattle.strc_rate_estimate.specs.Tables.{helper_view}
use Rattle.strc_rate_estimate.proofs.calls.call_estimate.Given as goal

abbrev pub invariant-loop-helper : goal.invariant-loop-helper
invariant-loop-helper l =
    spec.call_estimate (map helper_view (drop l.helper-index l.helpers)) l.fn.name
    ≡ spec.call_estimate (map helper_view l.helpers) l.fn.name
