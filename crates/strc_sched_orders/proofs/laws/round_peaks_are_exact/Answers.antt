use Rattle.strc_sched_orders.proofs.CopyPeaks.{round_peaks_are_exact}
use Rattle.strc_sched_orders.proofs.laws.round_peaks_are_exact.Goals as goal

pub returns : goal.returns
returns c = round_peaks_are_exact
