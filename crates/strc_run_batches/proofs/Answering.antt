-- What a plan comes to by batches is the answer of the stream equations.
use Rattle.std.proofs.Common.{◌≡◌, sym, subst, ℕ, suc, ◌+◌, ◌-◌, ◌*◌, ◌/◌, ◌%◌, ◌<◌}
use Rattle.std.proofs.Common.{◌≤◌, ◌^◌, ℤ, List, length, arith, inr, Vec, Option, Some, None}
use Rattle.std.proofs.Common.{Result, Ok, Err, IfOk}
use Rattle.std.specs.Prelude.{IfNone, IfSome}
use Rattle.std.specs.Global.{Global}
use Rattle.strc_elab_dataflow.specs.Streams as trees
use Rattle.strc_lex_names.specs.declared.memory.NoMemory.{NoMemory}
use Rattle.strc_elab_graph.specs.FlatGraphs.{IsProgram}
use Rattle.strc_elab_graph.specs.Graphs.{NodeCode}
use Rattle.strc_elab_stream.specs.Flattening.{tree_of}
use Rattle.strc_sched_laws.specs.Laws.{round_order}
use Rattle.strc_sched_laws.specs.Machine.{Ended, rounds_run}
use Rattle.strc_sched_outcome.specs.declared.outcome.Outcome.TheVariants.{Done}
use Rattle.strc_sched_outcome.specs.declared.outcome.Tape.{Tape}
use Rattle.strc_sched.specs.Plain.{IsEnding}
use Rattle.strc_sched_rings.specs.Circuits.{circuit_view}
use Rattle.strc_sched_rings.specs.declared.circuit.Circuit.{Circuit}
use Rattle.strc_sched_machine.specs.Running.{machine_view}
use Rattle.strc_sched_machine.specs.declared.machine.Machine.{Machine}
use Rattle.strc_stage_plan.specs.Plans.{PlanParts, graph_of, transformed_of}
use Rattle.strc_stage_steps.specs.Plans.{IsCut, need_of}
use Rattle.strc_stage_cut.specs.Startups.{HasLeft}
use Rattle.strc_stage_cut.proofs.Cuts.{bounds_cut}
use Rattle.strc_stage.specs.Answers.{AnswersPlan, IsOutcomeOf}
use Rattle.strc_stage.proofs.Renamed.{told_by, told_so}
use Rattle.strc_batch_plans.specs.Batched.{EndsByBatches}
use Rattle.strc_batch_plans.specs.Plans.{HasStartedIn, IsBatchedRun}
use Rattle.strc_batch_plans.proofs.Plans.{plan_batches_answer, plan_rounds_end_by_batches}
use Rattle.strc_batch.specs.Batches.{BatchParts, IsBatchOf}
use Rattle.strc_batch.specs.Sizes.{group_bound, last_group}
use Rattle.strc_batch.proofs.Sizing.{suffices}
use Rattle.strc_run_batches.specs.Batched.{ComesByBatches, Faults, HasRunBatches, batch_firings}

module _ (plan : PlanParts) (input : List ℤ) (rounds : ℕ) (batch : BatchParts)
    (few : rounds < 2 ^ 32) (supplied : need_of plan rounds ≤ length input)
    (nodes : 0 < length (graph_of plan).nodes) (is : IsBatchOf plan batch)
    (circuit : Circuit) (machine : Machine)
    (left : HasLeft plan batch.sizes input circuit machine) where
  abbrev pub m : ℕ
  m = rounds % batch.rounds

  abbrev pub n : ℕ
  n = rounds / batch.rounds

  pub all_is : m + n * batch.rounds ≡ rounds
  all_is = omega (arith, is.some)

  cut : IsCut plan (group_bound plan) (suc (last_group plan))
  cut = bounds_cut plan (2 ^ 32 - 1) left.ready.is (omega arith) nodes

  pub started : HasStartedIn plan batch.sizes input left.old (circuit_view circuit)
      (machine_view machine)
  started = record {
    first = left.first;
    is_first = left.is_first;
    left = left.left;
    went = left.went;
    circuit_is = left.dealt.circuit_is;
    input_is = left.dealt.input_is;
    dealt = left.dealt.dealt;
  }

  pub run : (tree : trees.Stream NodeCode) → IsProgram tree (graph_of plan)
      → IsBatchedRun tree plan input (group_bound plan) (last_group plan) batch.rounds m n
      batch.sizes left.old (circuit_view circuit) (machine_view machine)
  run tree program = record {
    program = program;
    ready = left.ready;
    enough = record {
      few = omega (arith, all_is, few);
      supplied = subst (λ (k : ℕ). need_of plan k ≤ length input) (sym all_is) supplied;
    };
    cut = cut;
    sizes_are = suffices plan batch.rounds batch.sizes is.sizes_are;
    has = started;
  }

  pub answers : (tapes : Vec Tape Global)
      → HasRunBatches plan batch (circuit_view circuit) (machine_view machine) rounds tapes
      → AnswersPlan plan input rounds (Done tapes)
  answers tapes ran = λ tree program.
      let told = plan_batches_answer tree plan input (group_bound plan) (last_group plan)
      batch.rounds m n batch.sizes left.old (circuit_view circuit) (machine_view machine)
      ran.later ran.words (run tree program) ran.went ran.ends in
      let ending = subst (λ (codes : List NodeCode). IsEnding codes ran.own (Ended ran.words))
      left.dealt.circuit_is.codes ran.ending in
      subst (λ (k : ℕ). IsOutcomeOf tree plan input k (Done tapes)) all_is (record {
        answer = told.comes.answer;
        is_answer = told.comes.is_answer;
        told = told_so plan left.ready.is told.comes.answer told.outcome ran.own (Done tapes)
            told.comes.named
            (told_by (transformed_of plan).nodes told.outcome (Ended ran.words) ran.own told.tells
            ending) ran.renamed;
      })

  pub answers_found : (result : Result (Option (Vec Tape Global)) NoMemory)
      → IfOk result (ComesByBatches plan batch (circuit_view circuit) (machine_view machine) rounds)
      → IfOk result (λ found. IfSome found (λ tapes. AnswersPlan plan input rounds (Done tapes)))
  answers_found (Ok (Some tapes)) comes = answers tapes comes
  answers_found (Ok None) comes = tt
  answers_found (Err refused) comes = tt

  pub faults : (EndsByBatches (circuit_view circuit) (round_order plan.split.schedule)
      (batch_firings plan batch) m n (machine_view machine) → ⊥)
      → Faults plan batch.sizes input rounds
  faults never = let whole = left.ready.is.whole in inr (record {
    old = left.old;
    ready = left.ready;
    circuit = circuit_view circuit;
    started = machine_view machine;
    startup = started;
    no_end = λ words ended. never (plan_rounds_end_by_batches (tree_of whole.stream) plan input
        (group_bound plan) (last_group plan) batch.rounds m n batch.sizes left.old
        (circuit_view circuit) (machine_view machine) words
        (run (tree_of whole.stream) whole.program)
        (subst (λ (k : ℕ). rounds_run (circuit_view circuit) (round_order plan.split.schedule) k 0
        (machine_view machine) ≡ Ended words) (sym all_is) ended));
  })

  pub faults_found : (result : Result (Option (Vec Tape Global)) NoMemory)
      → IfOk result (ComesByBatches plan batch (circuit_view circuit) (machine_view machine) rounds)
      → IfOk result (λ found. IfNone found (Faults plan batch.sizes input rounds))
  faults_found (Ok (Some tapes)) comes = tt
  faults_found (Ok None) comes = faults comes
  faults_found (Err refused) comes = tt
