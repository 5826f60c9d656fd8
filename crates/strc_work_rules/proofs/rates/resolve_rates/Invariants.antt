use Rattle.std.proofs.Common.{◌≡◌, drop, map}
use Rattle.strc_parse_tree.specs.View.{rate_view}
use Rattle.strc_work_rules.specs.Resolution.{rates_resolved}
use Rattle.strc_work_rules.specs.RefusedPlaces.{rates_place}
use Rattle.strc_work_rules.proofs.Resolved.{list_after}
use Rattle.strc_work_rules.proofs.rates.resolve_rates.Given as goal

abbrev pub invariant-loop-rate : goal.invariant-loop-rate
invariant-loop-rate l = record {
  left : list_after rate_view l.resolved.items
      (rates_resolved l.constants l.fields l.input l.output
      (map rate_view (drop l.rate-index l.rates)))
      ≡ rates_resolved l.constants l.fields l.input l.output (map rate_view l.rates);
  here : l.here ≡ l.initial.here;
  place : rates_place l.constants l.fields l.input l.output l.initial.here
      (drop l.rate-index l.rates)
      ≡ rates_place l.constants l.fields l.input l.output l.initial.here l.rates;
}
