-- A machine to which a state is dealt out holds the state dealt out.
use Rattle.std.proofs.Common.{◌≡◌, refl, sym, ap, ◌∙◌, ℕ, suc, ◌+◌, ◌<◌, ◌≤◌, ℤ}
use Rattle.std.proofs.Common.{List, length, get_or, Bool, true, false}
use Rattle.std.proofs.Common.{slice_get, Some, arith, drop}
use Rattle.std.proofs.lemmas.Option.{slice_get_within}
use Rattle.std.specs.Prelude.{slice_index}
use Rattle.circular_buffer.specs.Buffer.{buffer}
use Rattle.strc_elab_dataflow.specs.Answer.{words_of}
use Rattle.strc_elab_dataflow.specs.Histories.{Run, initial_run}
use Rattle.strc_elab_dataflow.specs.Streams as trees
use Rattle.strc_elab_dataflow.specs.Streams.{any_code}
use Rattle.strc_work_meaning.specs.declared.fault.Cause.{Cause}
use Rattle.strc_work_meaning.specs.declared.word.Word.{Word}
use Rattle.strc_elab_graph.specs.Graphs.{FileReader}
use Rattle.strc_elab_graph.specs.Graphs.{NodeCode, Graph, Channel, IsGraph, JoinsPorts, input_ports}
use Rattle.strc_elab_graph.specs.Meaning.{node_meaning}
use Rattle.strc_elab_graph.specs.Rates.{fires_by_rounds}
use Rattle.strc_elab_graph.specs.declared.graph.Fission.{Fission}
use Rattle.strc_sched_orders.specs.Schedules.{ScheduleParts}
use Rattle.strc_sched_laws.specs.Circuits.{IsCircuit}
use Rattle.strc_sched_laws.specs.Fits.{Queues}
use Rattle.strc_sched_laws.specs.Machine.{CircuitView, MachineView, words_at}
use Rattle.strc_sched_laws.specs.Planned.{IsPlanned}
use Rattle.strc_sched_laws.specs.Simulation.{Simulates}
use Rattle.strc_sched_laws.specs.Rings.{ring_at}
use Rattle.strc_sched_machine.specs.Keeping.{Kept, kept_at}
use Rattle.strc_fiss.specs.Numbers.{is_dealt, last_part, base}
use Rattle.strc_fiss.specs.Splitting.{code_at, new_code, renamed_channel, to_copy, from_copy}
use Rattle.strc_fiss.specs.Ways.{fission_of}
use Rattle.strc_fiss.proofs.Each.{Each, all_each}
use Rattle.strc_fiss.proofs.Shares.{there_by}
use Rattle.strc_stage_plan.specs.SplitLaws.{new_graph}
use Rattle.strc_stage_plan.specs.Named.{new_origins}
use Rattle.strc_stage_plan.specs.Runs.{dealt_from}
use Rattle.strc_stage_plan.proofs.Members.{In, each_in, each_from}
use Rattle.strc_stage_plan.proofs.NewChannels.{copy_within, each_new, gather_within}
use Rattle.strc_stage_steps.specs.Dealt.{IsDealt, starting, waiting_at}
use Rattle.strc_stage_steps.specs.DealtLaws.{DealtMachinesHold}
use Rattle.strc_stage_steps.proofs.Nodes.{kept}
use Rattle.strc_stage_plan.proofs.NewNumbers.{IsNumber, number_of, code_there, origin_is}
use Rattle.strc_stage_plan.proofs.NewNumbers.{whole_plain}
use Rattle.strc_stage_plan.proofs.NewNumbers.{part_fires, whole_code, whole_part, told_whole}
use Rattle.strc_stage_plan.proofs.NewNumbers.{old_there}
use Rattle.strc_stage_plan.proofs.DealtRuns.{own_run, part_run}
use Rattle.strc_stage_steps.proofs.Waiting.{slice_in, queue_first, queue_later, waiting_is}
use Rattle.strc_stage_steps.proofs.Numbers.{later_inside, first_outside}

-- what a run has come to
abbrev kept_of : Run (List ℤ) Cause Word → Kept
kept_of run = record { fields = run.state; fired = run.fired; words = run.words }

module _ (tree : trees.Stream NodeCode) (old : Graph) (schedule : ScheduleParts)
    (round : List ℕ) (ways : ℕ) (started : Queues) (circuit : CircuitView)
    (old_sizes sizes : List ℕ) (input : List ℤ) (before after : MachineView) (is : IsGraph old)
    (planned : IsPlanned old schedule) (wired : IsCircuit old circuit)
    (holds : Simulates old old_sizes input started before)
    (dealt : IsDealt circuit (new_graph old schedule round ways) (new_origins old round ways) sizes
    before after) where
  abbrev share : ℕ → Fission
  share = fission_of old round ways

  abbrev new : Graph
  new = new_graph old schedule round ways

  abbrev now : Queues
  now = dealt_from tree old schedule round ways started

  abbrev plain : (node : ℕ) (code : NodeCode) → slice_get old.nodes node ≡ Some code
      → fires_by_rounds code ≡ false
  plain = planned.unfissioned

  -- ---- nodes

  old_kept : (node : ℕ) → node < length old.nodes
      → kept_at before node ≡ kept_of (started.runs node)
  unfolding words_of
  old_kept node less =
      ap (λ (l : List ℤ). kept l (get_or before.fired node 0) (words_at before.words node))
      (holds.fields node less)
      ∙ ap (λ (n : ℕ). kept (started.runs node).state n (words_at before.words node))
      (holds.fired node less)
      ∙ ap (kept (started.runs node).state (started.runs node).fired) (holds.words node less)

  module _ (number node part : ℕ) (own : IsNumber share old.nodes plain number node part) where
    starts_as : (code : NodeCode) → starting code ≡ kept_of (initial_run node_meaning code)
    unfolding initial_run
    starts_as code = refl

    kept_number : kept_at after number ≡ kept_of (now.runs number)
    kept_number = by_test (is_dealt (share node)) refl
      where
        by_test : (t : Bool) → is_dealt (share node) ≡ t
            → kept_at after number ≡ kept_of (now.runs number)
        by_test false e =
            dealt.whole number _ (code_there share old.nodes plain number node part own)
            (whole_plain share old.nodes plain number node part own e)
            ∙ ap (kept_at before) (origin_is share old.nodes plain number node part own)
            ∙ old_kept node own.inside
            ∙ ap kept_of (sym (own_run tree old schedule round ways started planned number node
            part own e))
        by_test true e =
            dealt.parts number _ (code_there share old.nodes plain number node part own)
            (part_fires share old.nodes plain number node part own e)
            ∙ starts_as (new_code share old.nodes node part)
            ∙ ap kept_of (sym (part_run tree old schedule round ways started planned number node
            part own e))

  pub kept_now : (number : ℕ) → number < length new.nodes
      → kept_at after number ≡ kept_of (now.runs number)
  kept_now number less =
      let (v, k, own) = number_of share old.nodes plain number less in
      kept_number number v k own

  -- ---- channels

  -- its ring holds its queue, whatever its number
  abbrev HoldsIts : Channel → Type 0
  HoldsIts channel = (number : ℕ) → slice_get new.channels number ≡ Some channel
      → ring_at after.rings number
      ≡ buffer (now.queues channel.target.node channel.target.port) (slice_index sizes number)

  renamed_holds : (own : Channel) → In own old.channels → HoldsIts (renamed_channel share own)
  renamed_holds own there number at =
      let joins = each_in (JoinsPorts old.nodes) own old.channels
      (all_each (JoinsPorts old.nodes) old.channels is.channels) there in
      let node = own.target.node in
      let inside : node < length old.nodes =
      there_by input_ports old.nodes own.target.node own.target.port joins.target in
      let first : IsNumber share old.nodes plain (base share node) node 0 = record {
        inside = inside;
        within = omega arith;
        at = omega arith;
      } in
      dealt.waiting number (renamed_channel share own) _ at
      (code_there share old.nodes plain (base share node) node 0 first)
      (first_outside share old.nodes plain (base share node) node 0 first refl)
      ∙ ap (λ (n : ℕ). buffer (waiting_at circuit before n own.target.port)
      (slice_index sizes number))
      (origin_is share old.nodes plain (base share node) node 0 first)
      ∙ ap (λ (l : List ℤ). buffer l (slice_index sizes number))
      (waiting_is old started circuit old_sizes input before wired holds own there
      ∙ sym (queue_first tree old schedule round ways started node own.target.port))

  inner_holds : (channel : Channel) (node part : ℕ) → node < length old.nodes
      → is_dealt (share node) ≡ true → suc part ≤ last_part share node
      → channel.target.node ≡ base share node + suc part → HoldsIts channel
  inner_holds channel node part inside e within target number at =
      let own : IsNumber share old.nodes plain channel.target.node node (suc part) = record {
        inside = inside;
        within = within;
        at = sym target;
      } in
      dealt.inside number channel _ at
      (code_there share old.nodes plain channel.target.node node (suc part) own)
      (later_inside share old.nodes plain channel.target.node node (suc part) own e part refl)
      ∙ ap (λ (l : List ℤ). buffer l (slice_index sizes number))
      (sym (ap (λ (n : ℕ). now.queues n channel.target.port) target
      ∙ queue_later tree old schedule round ways started node part channel.target.port within))

  each_holds : Each HoldsIts new.channels
  each_holds =
      each_new share old schedule.greatest schedule.last HoldsIts
      (each_from (λ channel. HoldsIts (renamed_channel share channel)) old.channels renamed_holds)
      (λ v i inside e less. inner_holds (to_copy (base share v) i).channel v i inside e
      (copy_within share v i e less) refl)
      (λ v i inside e less. inner_holds (from_copy (base share v) (share v).ways i).channel v
      (share v).ways inside e (gather_within share v e) refl)

  -- a reader is never split
  reads_now : (number : ℕ) (text : List ℕ) → slice_get new.nodes number ≡ Some (FileReader text)
      → now.queues number 0 ≡ drop (now.runs number).fired input
  reads_now number text there =
      let (v, k, own) = number_of share old.nodes plain number
      (slice_get_within new.nodes number (FileReader text) there) in
      let whole = told_whole share old.nodes plain number v k own (FileReader text) there refl in
      let part = whole_part share old.nodes plain number v k own whole in
      let at : base share v ≡ number =
      omega (arith, own.at, part) in
      let code : Some (code_at old.nodes v) ≡ Some (FileReader text) =
      sym (ap Some (whole_code share old.nodes plain number v k own whole))
      ∙ sym (code_there share old.nodes plain number v k own)
      ∙ there in
      let old_reads : slice_get old.nodes v ≡ Some (FileReader text) =
      old_there share old.nodes plain number v k own ∙ code in
      ap (λ (n : ℕ). now.queues n 0) (sym at)
      ∙ queue_first tree old schedule round ways started v 0
      ∙ holds.reads v text old_reads
      ∙ ap (λ (r : Run (List ℤ) Cause Word). drop r.fired input)
      (sym (own_run tree old schedule round ways started planned number v k own whole))

  pub holds_now : Simulates new sizes input now after
  unfolding words_of
  holds_now = record {
    each_fields = dealt.each_fields;
    each_fired = dealt.each_fired;
    each_ring = dealt.each_ring;
    fields = λ node less. ap (λ (k : Kept). k.fields) (kept_now node less);
    fired = λ node less. ap (λ (k : Kept). k.fired) (kept_now node less);
    rings = λ number channel there.
        each_in HoldsIts channel new.channels each_holds
        (slice_in new.channels number channel there) number there;
    reads = reads_now;
    each_words = dealt.each_words;
    words = λ node less. ap (λ (k : Kept). k.words) (kept_now node less);
  }

pub dealt_machines_hold : DealtMachinesHold
dealt_machines_hold tree old schedule round ways started circuit old_sizes sizes input before after
    is planned wired holds dealt =
    holds_now tree old schedule round ways started circuit old_sizes sizes input before after is
    planned wired holds dealt
