-- A ring of stages that comes to the end of the batches has the words of the rounds.
use Rattle.std.proofs.Common.{◌≡◌, refl, sym, ap, ◌∙◌, subst, ℕ, suc, ◌+◌, ◌*◌, true, List, ℤ}
use Rattle.std.proofs.Common.{Option, Some, None, inl, inr, arith}
use Rattle.strc_work_meaning.specs.declared.fault.Cause.{Cause}
use Rattle.strc_work_meaning.specs.declared.word.Word.{Word}
use Rattle.strc_elab_dataflow.specs.Answer.{Outcome, Outcome.Done, Outcome.StartupFault}
use Rattle.strc_elab_dataflow.specs.Answer.{Outcome.RoundFault}
use Rattle.strc_elab_dataflow.specs.Flat as flat
use Rattle.strc_elab_dataflow.specs.Queues.{FifoProgress, FifoProgress.FifoWent, fifo_rounds}
use Rattle.strc_elab_dataflow.specs.Ranges.{stage_within}
use Rattle.strc_elab_dataflow.specs.Staging.{IsStaged}
use Rattle.strc_elab_graph.specs.Graphs.{NodeCode}
use Rattle.strc_elab_graph.specs.Meaning.{node_meaning}
use Rattle.strc_sched_laws.specs.Fits.{Queues}
use Rattle.strc_sched_laws.specs.Machine.{CircuitView, MachineView}
use Rattle.strc_stage_core.specs.Events.{is_over}
use Rattle.strc_stage_core.specs.States.{Start, Core, IsState}
use Rattle.strc_sched_outcome.specs.declared.stop.Stop.{Stop}
use Rattle.strc_sched_outcome.specs.declared.stop.Stop.TheVariants as stop
use Rattle.strc_stage_core.specs.Parcels.{Load}
use Rattle.strc_stage_plan.specs.Cuts.{segment_of}
use Rattle.strc_stage_steps.specs.Beginnings.{IsBeginning}
use Rattle.strc_stage_steps.specs.Laws.{TellsOutcome}
use Rattle.strc_stage_steps.specs.Runnings.{Running, IsRunning}
use Rattle.strc_stage_steps.specs.Steps.{StageState, Gathered, stage_work}
use Rattle.strc_stage_steps.proofs.Alike.{stages_run_alike}
use Rattle.strc_batch_laws.proofs.Again.{resume_law}
use Rattle.strc_batch_laws.proofs.Done.{ends_law, rounds_law}
use Rattle.strc_batch_plans.specs.Batched.{Batching, GoesByBatches, in_batches, order_of}
use Rattle.strc_batch_plans.specs.Rings.{PushesStay, BatchesAreRunning, BatchRingsEnd}
use Rattle.strc_batch_plans.specs.Rings.{BatchRingsTell, WantedAtMostMemory}

module _ (running : Running) (by_source : flat.Graph NodeCode) (from : Queues) (batch : Batching)
    (m n : ℕ) (circuit : CircuitView) (later : MachineView) (bound : (stage : ℕ) → ℕ) (last : ℕ)
    (goes : GoesByBatches running by_source from batch m n circuit later)
    (stays : PushesStay running by_source from)
    (staged : IsStaged by_source (stage_within bound last) (segment_of bound (order_of batch))
    (suc last) (order_of batch)) where
  fired_since : (node : ℕ) → (goes.mid.runs node).fired
      ≡ (from.runs node).fired + m * running.counts node
  fired_since = (resume_law node_meaning by_source from goes.mid batch.group_of batch.segment
      batch.groups running.counts running.order batch.rounds m n goes.are).0.fired

  pub are_running : IsRunning (in_batches running batch) by_source goes.mid n bound last circuit
  are_running = record {
    resumption = record {
      faultless = goes.goes.faultless;
      keeps = goes.goes.keeps;
      takes_within = goes.goes.takes_within;
      schedule = goes.goes.schedule;
      staged = staged;
    };
    joins = goes.goes.joins;
    is_circuit = goes.goes.is_circuit;
    windows = goes.goes.windows;
    nodes = goes.goes.nodes;
    reads = goes.holds.reads;
    pushes = λ number channel there firing after. stays number channel there firing
        (omega (arith, after, fired_since channel.source.node));
    numbered = goes.goes.numbered;
    room = goes.goes.room;
  }

  tells_by : (total : Gathered) (outcome : Outcome Cause Word)
      → fifo_rounds node_meaning by_source circuit.input (order_of batch) n 0 goes.mid ≡ outcome
      → TellsOutcome running.graph.nodes total None outcome
      → TellsOutcome running.graph.nodes total None
      (fifo_rounds node_meaning by_source circuit.input running.order (m + n * batch.rounds) 0 from)
  tells_by total (Done words) e told =
      subst (TellsOutcome running.graph.nodes total None)
      (sym (rounds_law node_meaning by_source circuit.input from goes.mid batch.group_of
      batch.segment batch.groups running.counts running.order batch.rounds m n words goes.are e))
      told
  tells_by total (StartupFault stop) e told = absurd told
  tells_by total (RoundFault q stop words) e told = absurd told

  pub ring_tells : (start : Start StageState Load Stop Gathered)
      (core : Core StageState Load Stop Gathered)
      → IsBeginning (in_batches running batch) bound last circuit later n start
      → IsState stage_work start core → is_over core ≡ true → core.collector.stop ≡ None
      → TellsOutcome running.graph.nodes core.collector.total None
      (fifo_rounds node_meaning by_source circuit.input running.order (m + n * batch.rounds) 0 from)
  ring_tells start core begun state over unstopped =
      tells_by core.collector.total
      (fifo_rounds node_meaning by_source circuit.input (order_of batch) n 0 goes.mid) refl
      (subst (λ (why : Option Stop). TellsOutcome running.graph.nodes core.collector.total why
      (fifo_rounds node_meaning by_source circuit.input (order_of batch) n 0 goes.mid)) unstopped
      (stages_run_alike (in_batches running batch) by_source goes.mid n bound last circuit later
      start core are_running goes.holds begun state over))

  -- ---- where the rounds come to their end

  same_state : (a b : Queues)
      → ◌≡◌ {A = FifoProgress (List ℤ) Cause Word} (FifoWent a) (FifoWent b) → a ≡ b
  same_state a b e = cc

  batches_done : (words : ℕ → List Word)
      → fifo_rounds node_meaning by_source circuit.input running.order (m + n * batch.rounds) 0 from
      ≡ Done words
      → fifo_rounds node_meaning by_source circuit.input (order_of batch) n 0 goes.mid
      ≡ Done words
  batches_done words done =
      let ends = ends_law node_meaning by_source circuit.input from batch.group_of batch.segment
      batch.groups running.counts running.order batch.rounds m n words goes.are.faultless
      goes.are.keeps goes.are.takes_within goes.are.staged goes.are.schedule done in
      let there : goes.mid ≡ ends.mid
      = same_state goes.mid ends.mid (sym goes.are.reaches ∙ ends.reaches) in
      ap (fifo_rounds node_meaning by_source circuit.input (order_of batch) n 0) there ∙ ends.ends

  at_most : (total : Gathered) (why : Option Stop) (words : ℕ → List Word)
      → TellsOutcome running.graph.nodes total why (Done words) → WantedAtMostMemory why
  at_most total None words told = inl refl
  at_most total (Some stop.NoMemory) words told = inr refl
  at_most total (Some (stop.Fault node firing cause)) words told = absurd told

  pub ring_ends : (start : Start StageState Load Stop Gathered)
      (core : Core StageState Load Stop Gathered) (words : ℕ → List Word)
      → IsBeginning (in_batches running batch) bound last circuit later n start
      → IsState stage_work start core → is_over core ≡ true
      → fifo_rounds node_meaning by_source circuit.input running.order (m + n * batch.rounds) 0 from
      ≡ Done words
      → WantedAtMostMemory core.collector.stop
  ring_ends start core words begun state over done =
      at_most core.collector.total core.collector.stop words
      (subst (TellsOutcome running.graph.nodes core.collector.total core.collector.stop)
      (batches_done words done)
      (stages_run_alike (in_batches running batch) by_source goes.mid n bound last circuit later
      start core are_running goes.holds begun state over))

pub batches_are_running : BatchesAreRunning
batches_are_running running by_source from batch m n circuit later bound last goes stays staged =
    are_running running by_source from batch m n circuit later bound last goes stays staged

pub batch_rings_tell : BatchRingsTell
batch_rings_tell running by_source from batch m n circuit later bound last start core goes stays
    staged begun state over unstopped =
    ring_tells running by_source from batch m n circuit later bound last goes stays staged start
    core begun state over unstopped

pub batch_rings_end : BatchRingsEnd
batch_rings_end running by_source from batch m n circuit later bound last start core words goes
    stays staged begun state over done =
    ring_ends running by_source from batch m n circuit later bound last goes stays staged start
    core words begun state over done
