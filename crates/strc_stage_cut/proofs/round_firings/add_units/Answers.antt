use Rattle.std.proofs.Common.{◌∙◌, arith}
use Rattle.strc_stage_cut.proofs.Repeated.{unit_fits, units_next}
use Rattle.strc_stage_cut.proofs.round_firings.add_units.Goals as goal

pub add_unit-requires-clause-few : goal.add_unit-requires-clause-few
add_unit-requires-clause-few c = λ other. omega (
  arith,
  unit_fits c.args.round.now c.loop-unit.unit-index c.unit-item.result other
      c.loop-unit-test.true c.unit-item.is,
  c.loop-unit.invariant.counts other,
  c.requires.few other,
)

pub loop-unit-preserved : goal.loop-unit-preserved
loop-unit-preserved c =
    let more = units_next c.args.round.now c.loop-unit.unit-index c.unit-item.result in record {
      each = c.add_unit.ensures.each ∙ c.loop-unit.invariant.each;
      counts = λ other. omega (
        arith,
        more other c.loop-unit-test.true c.unit-item.is,
        c.add_unit.ensures.counts other,
        c.loop-unit.invariant.counts other,
      );
    }
