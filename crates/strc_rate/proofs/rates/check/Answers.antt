use Rattle.strc_work_meaning.specs.Filters.{filter_of}
use Rattle.strc_rate.specs.Kept.{KeepsRates}
use Rattle.strc_rate.specs.Safe.{HasEntries, HasSafePeeks}
use Rattle.strc_rate.proofs.FilterPeeks.{closed_peeks, each_entry}
use Rattle.strc_rate.proofs.KeptRates.{rates_kept}
use Rattle.strc_rate.proofs.Promised.{promised}
use Rattle.strc_rate.proofs.rates.check.Goals as goal

pub returns-clause-kept : goal.returns-clause-kept
returns-clause-kept c =
    let filter = filter_of c.args.code.now in
    promised filter (λ rates. KeepsRates filter) c.judge.result
    (rates_kept filter c.tree-known.ensures.known) c.judge.ensures.verdict

pub returns-clause-entries : goal.returns-clause-entries
returns-clause-entries c =
    let filter = filter_of c.args.code.now in
    promised filter (HasEntries filter) c.judge.result (each_entry filter) c.judge.ensures.verdict

pub returns-clause-safe : goal.returns-clause-safe
returns-clause-safe c =
    let filter = filter_of c.args.code.now in
    promised filter (HasSafePeeks filter) c.judge.result
    (closed_peeks filter c.tree-known.ensures.known) c.judge.ensures.verdict
