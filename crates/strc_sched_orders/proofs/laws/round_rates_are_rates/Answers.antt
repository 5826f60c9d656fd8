use Rattle.strc_sched_orders.proofs.RoundRates.{round_rates_are_rates}
use Rattle.strc_sched_orders.proofs.laws.round_rates_are_rates.Goals as goal

pub returns : goal.returns
returns c = round_rates_are_rates
