-- What a ring of stages begins with doesn't depend on how large the rings of one machine are.
use Rattle.std.proofs.Common.{ℕ, List}
use Rattle.strc_elab_graph.specs.Graphs.{Graph}
use Rattle.strc_sched_laws.specs.Machine.{CircuitView, MachineView}
use Rattle.strc_sched_orders.specs.Firings.{Firings}
use Rattle.strc_stage_core.specs.Parcels.{Load}
use Rattle.strc_stage_core.specs.States.{Start}
use Rattle.strc_sched_outcome.specs.declared.stop.Stop.{Stop}
use Rattle.strc_stage_steps.specs.Beginnings.{IsBeginning, IsStageOf}
use Rattle.strc_stage_steps.specs.Runnings.{Running}
use Rattle.strc_stage_steps.specs.Steps.{Gathered, StageState}

module _ (graph : Graph) (counts : Firings) (order sizes others : List ℕ) (bound : ℕ → ℕ)
    (last : ℕ) (circuit : CircuitView) (started : MachineView) where
  abbrev before : Running
  before = record { graph = graph; counts = counts; order = order; sizes = sizes }

  abbrev after : Running
  after = record { graph = graph; counts = counts; order = order; sizes = others }

  stage_so : (stage : ℕ) (state : StageState) → IsStageOf before bound last circuit started stage
      state → IsStageOf after bound last circuit started stage state
  stage_so stage state is =
      let own = is.circuit_is in
      let has = is.is_machine in
      record {
        circuit_is = record {
          each = own.each;
          codes = own.codes;
          inputs = own.inputs;
          outputs = own.outputs;
          input = own.input;
        };
        order_is = is.order_is;
        entering_is = is.entering_is;
        leaving_is = is.leaving_is;
        tapes_are = is.tapes_are;
        blocks_are = is.blocks_are;
        tape_count_is = is.tape_count_is;
        machine = is.machine;
        machine_is = is.machine_is;
        is_machine = record {
          each_fields = has.each_fields;
          each_fired = has.each_fired;
          each_ring = has.each_ring;
          each_words = has.each_words;
          fields = has.fields;
          fired = has.fired;
          ending = has.ending;
          leaving = has.leaving;
          words = has.words;
        };
      }

  pub resized : (rounds : ℕ) (start : Start StageState Load Stop Gathered)
      → IsBeginning before bound last circuit started rounds start
      → IsBeginning after bound last circuit started rounds start
  resized rounds start is = record {
    is_start = is.is_start;
    stages = is.stages;
    each = λ number own there.
        let (state, no_stop) = is.each number own there in
        (stage_so number own.inner state, no_stop);
    free = is.free;
    rounds_are = is.rounds_are;
    total = is.total;
    no_stop = is.no_stop;
  }
