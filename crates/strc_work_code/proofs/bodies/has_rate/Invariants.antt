use Rattle.std.proofs.Common.{◌≡◌, drop, map}
use Rattle.strc_parse_tree.specs.View.{rate_view}
use Rattle.strc_work_meaning.specs.Filters.{has_rate}
use Rattle.strc_work_code.proofs.bodies.has_rate.Given as goal

abbrev pub invariant-loop-rate : goal.invariant-loop-rate
invariant-loop-rate l = has_rate l.kind (map rate_view (drop l.rate-index l.rates))
    ≡ has_rate l.kind (map rate_view l.rates)
