use Rattle.std.proofs.Common.{ap, ◌∙◌, refl, arith}
use Rattle.std.specs.List.{list_any}
use Rattle.strc_balance.specs.Balance.{passes}
use Rattle.strc_balance.proofs.Limits.{passes-within}
use Rattle.strc_balance.proofs.Scales.{count-passes, counts_more}
use Rattle.strc_balance.proofs.Quantifiers.{list_any-push}
use Rattle.strc_balance.proofs.multiples.whole_counts.Goals as goal

pub returns-then-count-gt-COUNT_LIMIT-clause-passes :
    goal.returns-then-count-gt-COUNT_LIMIT-clause-passes
returns-then-count-gt-COUNT_LIMIT-clause-passes c = record {
  is = refl;
  passes = count-passes c.args.scale c.args.fractions.now c.loop-fraction.fraction-index
      c.whole_count-count.result (omega arith) c.whole_count-count.ensures
      c.if-count-gt-COUNT_LIMIT.true;
}

pub loop-fraction-preserved : goal.loop-fraction-preserved
loop-fraction-preserved c =
    let items = c.in_ok-push.ensures.items in
    let count = c.whole_count-count.result in
    record {
      found = items ∙ counts_more c.args.scale c.args.fractions.now c.loop-fraction.fraction-index
          count c.loop-fraction.counts.items (omega arith) c.loop-fraction.invariant.found
          c.whole_count-count.ensures;
      within = ap (list_any passes) items
          ∙ list_any-push passes c.loop-fraction.counts.items count c.loop-fraction.invariant.within
          (passes-within count (omega arith));
    }
