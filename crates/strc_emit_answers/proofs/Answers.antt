-- The program of a plan's text ends as the stream equations say.
use Rattle.std.proofs.Common.{◌≡◌, ℕ, ◌+◌, ◌<◌, ◌≤◌, ◌^◌, List, sym, subst, length, arith, ap, ◌∙◌}
use Rattle.std.proofs.lemmas.Option.{slice_get-map}
use Rattle.std.specs.Option.{option_map}
use Rattle.std.specs.Prelude.{slice_get, Some, true, false}
use Rattle.strc_work_meaning.specs.Filters.{filter_of}
use Rattle.strc_elab_graph.specs.Graphs as graphs
use Rattle.strc_elab_graph.specs.declared.graph.Node.{Node}
use Rattle.strc_elab_graph.specs.declared.graph.Node.TheVariants as nodes
use Rattle.strc_elab_graph.specs.NodeView.{node_view}
use Rattle.strc_elab_stream.specs.Flattening.{tree_of}
use Rattle.strc_balance.specs.Balance.{count_at}
use Rattle.strc_startup.specs.Rates.{rates_of}
use Rattle.strc_sched_orders.specs.Schedules.{IsSchedule}
use Rattle.strc_sched_laws.specs.Planned.{AreKnown}
use Rattle.strc_stage_plan.specs.Plans.{PlanParts, IsPlan, graph_of}
use Rattle.strc_emit_moves.specs.Rooms.{total_room}
use Rattle.strc_emit_moves.specs.declared.places.Network.{Network}
use Rattle.strc_emit_program.specs.Programs.{AreTexts, IsNumbered}
use Rattle.strc_emit_runs.specs.Running.{Program}
use Rattle.strc_emit.specs.Emitting.{IsProgramOf}
use Rattle.strc_emit.specs.Networks.{IsNetworkOf}
use Rattle.strc_emit.specs.Slots.{total_slots}
use Rattle.strc_emit_plans.specs.Programs.{IsPlannedProgram, IsProgramFor, AreFunctionsOf}
use Rattle.strc_emit_plans.proofs.Answers.{programs_answer}
use Rattle.strc_emit_answers.specs.Answers.{IsTextProgram, KeepSides, PlansAnswer, PlansSpell}
use Rattle.strc_emit_answers.specs.Fires.{IsFired}
use Rattle.strc_emit_answers.specs.Spelled.{AreClosed, SpellsNodes}
use Rattle.strc_emit_answers.proofs.Drained.{given_goes_on}
use Rattle.strc_emit_answers.proofs.Fires.{fires_spell}
use Rattle.strc_emit_answers.proofs.Spelled.{texts_spell}

module _ (plan : PlanParts) (text : List ℕ) (written : IsProgramOf plan text) (program : Program)
    (of : IsTextProgram plan text written program) (known : AreKnown (graph_of plan)) where
  there : (number : ℕ) (code : Node) → slice_get program.network.nodes.now number ≡ Some code
      → slice_get (graph_of plan).nodes number ≡ Some (node_view code)
  there number code at =
      let same : slice_get plan.graph.nodes number ≡ slice_get program.network.nodes.now number =
      sym (ap (λ (network : Network). slice_get network.nodes.now number) of.network
      ∙ ap (λ (nodes : List Node). slice_get nodes number) written.is.parts.nodes) in
      slice_get-map node_view plan.graph.nodes number ∙ ap (option_map node_view) (same ∙ at)

  closed : AreClosed program
  closed number instance at =
      known (filter_of instance.code)
      (number, instance.name, there number (nodes.Filter instance) at)

  functions : AreFunctionsOf program
  functions = by written.network of.network written.written.0 written.written.1 of.spells closed
    where
      by : (network : Network) → program.network ≡ network → (functions : List ℕ)
          → (are : AreTexts (IsNumbered network) (length network.nodes.now) functions)
          → SpellsNodes program network (length network.nodes.now) functions are
          → AreClosed program → AreFunctionsOf program
      by network same = subst (λ (it : Network). (functions : List ℕ)
          → (are : AreTexts (IsNumbered it) (length it.nodes.now) functions)
          → SpellsNodes program it (length it.nodes.now) functions are
          → AreClosed program → AreFunctionsOf program) same (texts_spell program)

  program_is : IsProgramFor plan.graph plan.startup_counts plan.round_counts plan.schedule program
  program_is = record {
    is = subst (IsNetworkOf plan.graph plan.startup_counts plan.round_counts plan.schedule)
        (sym of.network) written.is;
    functions = functions;
    small = subst (λ network. total_room network < 2 ^ 31) (sym of.network)
        (below_int (total_room written.network)
        (total_slots written.network.nodes.now) written.within);
    fuel = of.fuel;
  }
    where
      below_int : (items slots : ℕ) → items + slots ≤ 268435456 → items < 2 ^ 31
      below_int items slots within = omega (arith, within)

  module _ (is : IsPlan plan) where
    -- its counts are the ones that its graph is planned with
    greedy : IsSchedule (rates_of (graph_of plan)) (count_at is.planned.startup)
        (count_at is.planned.round) plan.schedule
    greedy =
        subst (λ counts. IsSchedule (rates_of (graph_of plan)) (count_at counts)
        (count_at is.planned.round) plan.schedule) (sym is.startup_is)
        (subst (λ counts. IsSchedule (rates_of (graph_of plan)) (count_at plan.startup_counts)
        (count_at counts) plan.schedule) (sym is.round_is) is.schedule.is)

    counted : IsProgramFor plan.graph is.planned.startup is.planned.round plan.schedule program
    counted =
        subst (λ counts. IsProgramFor plan.graph counts is.planned.round plan.schedule program)
        (sym is.startup_is)
        (subst (λ counts. IsProgramFor plan.graph plan.startup_counts counts plan.schedule program)
        (sym is.round_is) program_is)

    planned : KeepSides (graph_of plan)
        → IsPlannedProgram (tree_of is.whole.stream) plan.graph plan.schedule program
    planned sides = record {
      whole = is.whole.program;
      planned = is.planned;
      known = known;
      somewhere = record {
        sides = sides;
        drained = λ node port gives. given_goes_on (graph_of plan) node port is.whole gives;
      };
      greedy = greedy;
      is = counted;
    }

    -- each node is a filter with its functions, or only passes items on
    fired : (number : ℕ) (code : Node) → slice_get program.network.nodes.now number ≡ Some code
        → IsFired program number code
    fired number (nodes.Filter instance) at = (functions number instance at).0
    fired number nodes.Identity at = tt
    fired number (nodes.FileReader text) at = tt
    fired number (nodes.FileWriter text) at = tt
    fired number (nodes.Splitter splitter) at = tt
    fired number (nodes.Joiner weights) at = tt
    fired number (nodes.Scatter fission) at =
        let not : true ≡ false = is.planned.unfissioned number (graphs.Scatter fission)
        (there number (nodes.Scatter fission) at) in
        absurd (cc)
    fired number (nodes.Copy copied fission) at =
        let not : true ≡ false = is.planned.unfissioned number
        (node_view (nodes.Copy copied fission)) (there number (nodes.Copy copied fission) at) in
        absurd (cc)
    fired number (nodes.Gather fission) at =
        let not : true ≡ false = is.planned.unfissioned number (graphs.Gather fission)
        (there number (nodes.Gather fission) at) in
        absurd (cc)

pub plans_answer : PlansAnswer
plans_answer plan text written program rounds first is known sides of few input begins =
    programs_answer (tree_of is.whole.stream) plan.graph plan.schedule program rounds first
    (planned plan text written program of known is sides) few input begins

pub plans_spell : PlansSpell
plans_spell plan text written program when number code is known of at =
    fires_spell program when number code
    (fired plan text written program of known is number code at)
