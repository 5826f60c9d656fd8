use Rattle.std.proofs.Common.{◌∙◌, arith, refl, rules, subst}
use Rattle.strc_cli_output.proofs.Sums.{AllFit, one_size_fits, one_size_more, size_all}
use Rattle.strc_cli_output.proofs.totals.add_sizes.Goals as goal

pub loop-number-init : goal.loop-number-init
loop-number-init c = record { fits = λ node. search rules; each = λ node less. refl }

pub loop-number-preserved : goal.loop-number-preserved
loop-number-preserved c = record {
  fits = one_size_fits c.loop-number.sums c.add_size.new.sums c.index-channels-number.result _
      c.add_size.ensures c.loop-number.invariant.fits;
  each = λ node less.
      one_size_more c.loop-number.number c.args.channels.now c.index-channels-number.result
      c.args.sizes.now c.loop-number.sums c.add_size.new.sums _ node c.loop-number-test.true
      c.index-channels-number.is (omega (arith, c.loop-number-test.true, c.requires)) refl
      c.add_size.ensures (search rules)
      ∙ c.loop-number.invariant.each node less;
}

pub returns-clause-each : goal.returns-clause-each
returns-clause-each c = λ node less.
    size_all _ c.loop-number.number _ node c.args.channels.now c.args.sizes.now
    (c.loop-number.invariant.fits node) c.loop-number-test.false
    (c.loop-number.invariant.each node less)
