use Rattle.std.proofs.Common.{◌≡◌, drop, map}
use Rattle.strc_parse_tree.specs.View.{rate_view}
use Rattle.strc_work_meaning.specs.Filters.{rate_of}
use Rattle.strc_work_code.proofs.bodies.rate_of.Given as goal

abbrev pub invariant-loop-rate : goal.invariant-loop-rate
invariant-loop-rate l = rate_of l.kind (map rate_view (drop l.rate-index l.rates))
    ≡ rate_of l.kind (map rate_view l.rates)
