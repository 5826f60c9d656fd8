-- The text of a node's function spells one that does what the program does in its calls.
use Rattle.std.proofs.Common.{◌≡◌, ℕ, zero, suc, ◌+◌, ◌-◌, Bool, true, false, List, [], ◌++◌}
use Rattle.std.proofs.Common.{Option}
use Rattle.std.proofs.Common.{Some, None, refl, sym, ap, ◌∙◌, is_some}
use Rattle.std.specs.Fmt.{digits}
use Rattle.std.specs.Prelude.{codes, decimal, if◌then◌else◌}
use Rattle.std.specs.Option.{option_map}
use Rattle.strc_lex_names.specs.Results.{result_and_then}
use Rattle.strc_parse_tree.specs.declared.tree.FilterTree.{FilterTree}
use Rattle.strc_work_meaning.specs.Filters.{filter_of, prework_block}
use Rattle.strc_work_code.specs.declared.code.Routine.{Routine}
use Rattle.strc_elab_graph.specs.Graphs as graphs
use Rattle.strc_elab_graph.specs.Graphs.{NodeCode}
use Rattle.strc_elab_graph.specs.declared.graph.Node.{Node}
use Rattle.strc_elab_graph.specs.declared.graph.Node.TheVariants as nodes
use Rattle.strc_elab_graph.specs.declared.instance.Instance.{Instance}
use Rattle.strc_elab_graph.specs.NodeView.{node_view, splitter_view}
use Rattle.strc_emit_moves.specs.declared.places.Phase.{Phase}
use Rattle.strc_emit_moves.specs.declared.places.Phase.TheVariants as phase
use Rattle.strc_emit_passes.specs.Moves.{moves_spelled, node_moves}
use Rattle.strc_emit_passes.specs.Passing.{IsPassing}
use Rattle.strc_emit_passes.proofs.Texts.{moves_are_spelled}
use Rattle.strc_emit_filter.specs.Filters.{IsPreworkOf, has_helpers}
use Rattle.strc_emit_bodies.specs.Spelling.{BodyFunction, FilterFunctions}
use Rattle.strc_emit_program.specs.Fires.{fire_name, first_text, firing_text}
use Rattle.strc_emit_program.specs.Fires.{prework_call}
use Rattle.strc_emit_runs.specs.Running.{Program, Running, firing_of, firings_done}
use Rattle.strc_emit_runs.specs.Running.{prework_done, first_or_all, call_done}
use Rattle.strc_emit_runs.specs.Works.{HasFilter}
use Rattle.strc_emit_answers.specs.Fires.{Turn, Works, Passes, FireFunction}
use Rattle.strc_emit_answers.specs.Fires.{first_spelled, turn_done, turns_done}
use Rattle.strc_emit_answers.specs.Fires.{loop_done, function_done, FiresSpell, SpellsFires}
use Rattle.strc_emit_answers.specs.Fires.{FireRow}
use Rattle.strc_emit_answers.specs.Fires.{prework_called}
use Rattle.strc_emit_answers.proofs.Orders.{then_same}

-- a filter has a prework where its text does
prework_there : (filter : FilterTree) (make : Routine → BodyFunction) (prework : Option Routine)
    → IsPreworkOf filter prework
    → is_some (prework_block (filter_of filter).members) ≡ is_some (option_map make prework)
prework_there filter make None is = is
prework_there filter make (Some routine) is = is.0

module _ (program : Program) (node : ℕ) where
  has_prework : (filter : FilterTree) → HasFilter program node filter
      → is_some (prework_block (filter_of filter).members)
      ≡ is_some (program.functions node).prework
  has_prework filter has =
      prework_there filter _ has.written.prework has.written.prework_is
      ∙ ap (λ (functions : FilterFunctions). is_some functions.prework) (sym has.functions)

  module _ (when : Phase) where
    turns_are : (code : NodeCode) (turn : Turn)
        → ((i : ℕ) (running : Running) → firing_of program when node code i running
        ≡ turn_done program when node turn i running)
        → (count from : ℕ) (running : Running)
        → firings_done program when node code from count running
        ≡ turns_done program when node turn from count running
    turns_are code turn same zero from running = refl
    turns_are code turn same (suc count) from running =
        ap (λ r. result_and_then r (firings_done program when node code (from + 1) count))
        (same from running)
        ∙ then_same (turn_done program when node turn from running)
        (firings_done program when node code (from + 1) count)
        (turns_done program when node turn (from + 1) count)
        (turns_are code turn same count (from + 1))

  -- nodes that pass items on

  abbrev passes : Phase → NodeCode → FireFunction
  passes when code = record {
    prework = None;
    turn = Passes (node_moves program.network when node code);
  }

  passing_text : (when : Phase) (code : Node) → IsPassing (node_view code)
      → firing_text program.network when node code
      ≡ moves_spelled (node_moves program.network when node (node_view code))
  passing_text when nodes.Identity is = (moves_are_spelled program.network when node).identity
  passing_text when (nodes.FileReader text) is =
      (moves_are_spelled program.network when node).reader text
  passing_text when (nodes.FileWriter text) is =
      (moves_are_spelled program.network when node).writer text
  passing_text when (nodes.Splitter splitter) is =
      (moves_are_spelled program.network when node).splitter (splitter_view splitter)
  passing_text when (nodes.Joiner weights) is =
      (moves_are_spelled program.network when node).joiner weights.items
  passing_text when (nodes.Filter instance) is = absurd is
  passing_text when (nodes.Scatter fission) is = absurd is
  passing_text when (nodes.Copy copied fission) is = absurd is
  passing_text when (nodes.Gather fission) is = absurd is

  no_first : (when : Phase) (code : Node) → IsPassing (node_view code)
      → first_text program.network when node code ≡ []
  no_first phase.Round code is = refl
  no_first phase.Startup nodes.Identity is = refl
  no_first phase.Startup (nodes.FileReader text) is = refl
  no_first phase.Startup (nodes.FileWriter text) is = refl
  no_first phase.Startup (nodes.Splitter splitter) is = refl
  no_first phase.Startup (nodes.Joiner weights) is = refl
  no_first phase.Startup (nodes.Filter instance) is = absurd is
  no_first phase.Startup (nodes.Scatter fission) is = absurd is
  no_first phase.Startup (nodes.Copy copied fission) is = absurd is
  no_first phase.Startup (nodes.Gather fission) is = absurd is

  passing_turn : (when : Phase) (code : NodeCode) → IsPassing code → (i : ℕ) (running : Running)
      → firing_of program when node code i running
      ≡ turn_done program when node (Passes (node_moves program.network when node code)) i running
  passing_turn when graphs.Identity is i running = refl
  passing_turn when (graphs.FileReader text) is i running = refl
  passing_turn when (graphs.FileWriter text) is i running = refl
  passing_turn when (graphs.Splitter splitter) is i running = refl
  passing_turn when (graphs.Joiner weights) is i running = refl
  passing_turn when (graphs.Filter name filter) is i running = absurd is
  passing_turn when (graphs.Scatter fission) is i running = absurd is
  passing_turn when (graphs.Copy copied fission) is i running = absurd is
  passing_turn when (graphs.Gather fission) is i running = absurd is

  passing_call : (when : Phase) (code : NodeCode) → IsPassing code → (from count : ℕ)
      → (running : Running) → call_done program when node (Some code) from count running
      ≡ firings_done program when node code from count running
  passing_call phase.Round code is from count running = refl
  passing_call phase.Startup graphs.Identity is from count running = refl
  passing_call phase.Startup (graphs.FileReader text) is from count running = refl
  passing_call phase.Startup (graphs.FileWriter text) is from count running = refl
  passing_call phase.Startup (graphs.Splitter splitter) is from count running = refl
  passing_call phase.Startup (graphs.Joiner weights) is from count running = refl
  passing_call phase.Startup (graphs.Filter name filter) is from count running = absurd is
  passing_call phase.Startup (graphs.Scatter fission) is from count running = absurd is
  passing_call phase.Startup (graphs.Copy copied fission) is from count running = absurd is
  passing_call phase.Startup (graphs.Gather fission) is from count running = absurd is

  abbrev text_of : Phase → (first turn : List ℕ) → List ℕ
  text_of when first turn =
      codes "static void " ++ fire_name when ++ decimal node
      ++ codes "(int32_t from, int32_t to) {\n" ++ first
      ++ codes "    for (int32_t i = from; i < to; i++) {\n" ++ turn ++ codes "    }\n}\n"

  passing_spells : (when : Phase) (code : Node) → IsPassing (node_view code)
      → SpellsFires program when node code
  passing_spells when code is = (
    passes when (node_view code),
    ap (λ text. text_of when text (firing_text program.network when node code))
        (no_first when code is)
        ∙ ap (text_of when []) (passing_text when code is),
    λ from count running. passing_call when (node_view code) is from count running
        ∙ turns_are when (node_view code)
        (Passes (node_moves program.network when node (node_view code)))
        (passing_turn when (node_view code) is) count from running,
  )

  -- filters

  abbrev prework_if : (there enters : Bool) → Option Bool
  prework_if true enters = Some enters
  prework_if false enters = None

  abbrev prework_in : Phase → FilterTree → Option Bool
  prework_in phase.Startup filter =
      prework_if (is_some (prework_block (filter_of filter).members)) (has_helpers filter)
  prework_in phase.Round filter = None

  abbrev fires : Phase → FilterTree → FireFunction
  fires when filter =
      record { prework = prework_in when filter; turn = Works (has_helpers filter) }

  filter_first : (when : Phase) (instance : Instance)
      → first_text program.network when node (nodes.Filter instance)
      ≡ first_spelled program when node (prework_in when instance.code)
  filter_first phase.Round instance = refl
  filter_first phase.Startup instance =
      by (is_some (prework_block (filter_of instance.code).members))
    where
      by : (there : Bool)
          → (if there then prework_call program.network node instance.code else [])
          ≡ first_spelled program phase.Startup node
          (prework_if there (has_helpers instance.code))
      by true = refl
      by false = refl

  module _ (instance : Instance) where
    abbrev code : NodeCode
    code = graphs.Filter instance.name (filter_of instance.code)

    abbrev turn : Turn
    turn = Works (has_helpers instance.code)

    filter_turns : (when : Phase) (count from : ℕ) (running : Running)
        → firings_done program when node code from count running
        ≡ turns_done program when node turn from count running
    filter_turns when = turns_are when code turn (λ i running. refl)

    first_does : (there : Bool) (body : Option BodyFunction) → there ≡ is_some body
        → (count : ℕ) (running : Running)
        → first_or_all program node code count (prework_done program node body running) running
        ≡ loop_done program phase.Startup node (prework_if there (has_helpers instance.code)) body
        turn zero count running
    first_does true None same count running = absurd (cc)
    first_does false (Some body) same count running = absurd (cc)
    first_does false None same count running = filter_turns phase.Startup count zero running
    first_does true (Some body) same count running =
        then_same (prework_called program phase.Startup node (Some body) running)
        (firings_done program phase.Startup node code 1 (count - 1))
        (turns_done program phase.Startup node turn 1 (count - 1))
        (filter_turns phase.Startup (count - 1) 1)

    later_does : (there : Bool) (body : Option BodyFunction) (from count : ℕ) (running : Running)
        → firings_done program phase.Startup node code (suc from) count running
        ≡ loop_done program phase.Startup node (prework_if there (has_helpers instance.code)) body
        turn (suc from) count running
    later_does true body from count running = filter_turns phase.Startup count (suc from) running
    later_does false body from count running = filter_turns phase.Startup count (suc from) running

    filter_does : HasFilter program node instance.code → (when : Phase) (from count : ℕ)
        → (running : Running) → call_done program when node (Some code) from count running
        ≡ function_done program when node (fires when instance.code) from count running
    filter_does has phase.Round from count running = filter_turns phase.Round count from running
    filter_does has phase.Startup zero count running =
        first_does (is_some (prework_block (filter_of instance.code).members))
        (program.functions node).prework (has_prework instance.code has) count running
    filter_does has phase.Startup (suc from) count running =
        later_does (is_some (prework_block (filter_of instance.code).members))
        (program.functions node).prework from count running

  filter_spells : (when : Phase) (instance : Instance) → HasFilter program node instance.code
      → SpellsFires program when node (nodes.Filter instance)
  filter_spells when instance has = (
    fires when instance.code,
    ap (λ text. text_of when text (firing_text program.network when node (nodes.Filter instance)))
        (filter_first when instance),
    filter_does instance has when,
  )

pub fires_spell : FiresSpell
fires_spell program when node (nodes.Filter instance) is =
    filter_spells program node when instance is
fires_spell program when node nodes.Identity is =
    passing_spells program node when nodes.Identity is
fires_spell program when node (nodes.FileReader text) is =
    passing_spells program node when (nodes.FileReader text) is
fires_spell program when node (nodes.FileWriter text) is =
    passing_spells program node when (nodes.FileWriter text) is
fires_spell program when node (nodes.Splitter splitter) is =
    passing_spells program node when (nodes.Splitter splitter) is
fires_spell program when node (nodes.Joiner weights) is =
    passing_spells program node when (nodes.Joiner weights) is
fires_spell program when node (nodes.Scatter fission) is = absurd is
fires_spell program when node (nodes.Copy copied fission) is = absurd is
fires_spell program when node (nodes.Gather fission) is = absurd is

pub fire_row : FireRow
unfolding digits
fire_row program = refl
