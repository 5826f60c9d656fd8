-- The text of a plan of resolved filters spells a program.
use Rattle.std.proofs.Common.{◌≡◌, ℕ, zero, suc, ◌+◌, ◌<◌, ◌≤◌, ◌^◌, ◌==◌, true, false, cond, List}
use Rattle.std.proofs.Common.{length, Option, Some, None, refl, sym, ap, ◌∙◌, arith}
use Rattle.std.proofs.lemmas.Bool.Decides.{nat_tests}
use Rattle.std.proofs.lemmas.Option.{slice_get-map, slice_get_within}
use Rattle.std.specs.Option.{option_map, option_map_or}
use Rattle.std.specs.Prelude.{slice_get, IfSome}
use Rattle.strc_work_meaning.specs.Filters.{Filter, filter_of}
use Rattle.strc_work_code.specs.Lowering.{slot_count}
use Rattle.strc_work_rules.proofs.Resolving.{resolved_closed}
use Rattle.strc_elab_graph.specs.Graphs.{node_name}
use Rattle.strc_elab_graph.specs.NodeView.{node_view}
use Rattle.strc_elab_graph.specs.declared.graph.Node.{Node}
use Rattle.strc_elab_graph.specs.declared.graph.Node.TheVariants as nodes
use Rattle.strc_elab_graph.specs.declared.instance.Instance.{Instance}
use Rattle.strc_sched_laws.specs.Planned.{IsFilterOf, AreKnown}
use Rattle.strc_stage_plan.specs.Plans.{PlanParts, graph_of}
use Rattle.strc_emit_firings.specs.Known.{CallsFit}
use Rattle.strc_emit_bodies.specs.Spelling.{FilterFunctions}
use Rattle.strc_emit_bodies.specs.Bodies.{written_functions}
use Rattle.strc_emit_moves.specs.Rooms.{total_room}
use Rattle.strc_emit_moves.specs.declared.places.Network.{Network}
use Rattle.strc_emit_program.specs.Programs.{AreTexts, IsNodeText, IsNumbered}
use Rattle.strc_emit_runs.specs.Running.{Program}
use Rattle.strc_emit.specs.Emitting.{IsProgramOf}
use Rattle.strc_emit.specs.Slots.{node_slots, slots_at, total_slots}
use Rattle.strc_emit_plans.proofs.Rooms.{below_sum}
use Rattle.strc_emit_answers.specs.Spelled.{SpellsNode, SpellsNodes}
use Rattle.strc_emit_answers.proofs.Answers.{plans_answer}
use Rattle.strc_emit_resolved.specs.Programs.{AreResolved, SpellsProgram}
use Rattle.strc_emit_resolved.specs.Programs.{TextsHavePrograms, ResolvedPlansAnswer}
use Rattle.strc_emit_resolved.proofs.Members.{resolved_calls_fit}
use Rattle.strc_emit_resolved.proofs.Relinked.{links_text}
use Rattle.strc_emit_resolved.proofs.Sides.{resolved_keep_sides}

-- calls fit in a filter, whose slots are numbered within an int
abbrev FitsFilter : Filter → Type 0
FitsFilter filter = CallsFit filter.members × (slot_count filter < 2 ^ 31)

-- so it is in a node that is a filter
abbrev FitsNode : Option Node → Type 0
FitsNode (Some (nodes.Filter instance)) = FitsFilter (filter_of instance.code)
FitsNode _ = Unit {0}

module _ (network : Network) (others : FilterFunctions) where
  abbrev IsText : (number : ℕ) (text : List ℕ) → Option Node → Type 0
  IsText number text code =
      IfSome code (λ it. IsNodeText network number (node_name (node_view it)) it text)

  -- functions that a node's text spells
  record NodeShown (number : ℕ) (text : List ℕ) (code : Option Node) : Type 0 where
    functions : FilterFunctions
    is : IsText number text code
    spells : (program : Program) → program.functions number ≡ functions
        → SpellsNode program network number code text is

  node_shown : (number : ℕ) (text : List ℕ) (code : Option Node) → FitsNode code
      → IsText number text code → NodeShown number text code
  node_shown number text None fits is =
      record { functions = others; is = is; spells = λ program e. tt }
  node_shown number text (Some nodes.Identity) fits is =
      record { functions = others; is = is; spells = λ program e. tt }
  node_shown number text (Some (nodes.FileReader file)) fits is =
      record { functions = others; is = is; spells = λ program e. tt }
  node_shown number text (Some (nodes.FileWriter file)) fits is =
      record { functions = others; is = is; spells = λ program e. tt }
  node_shown number text (Some (nodes.Splitter splitter)) fits is =
      record { functions = others; is = is; spells = λ program e. tt }
  node_shown number text (Some (nodes.Joiner weights)) fits is =
      record { functions = others; is = is; spells = λ program e. tt }
  node_shown number text (Some (nodes.Scatter fission)) fits is =
      record { functions = others; is = is; spells = λ program e. tt }
  node_shown number text (Some (nodes.Copy copied fission)) fits is =
      record { functions = others; is = is; spells = λ program e. tt }
  node_shown number text (Some (nodes.Gather fission)) fits is =
      record { functions = others; is = is; spells = λ program e. tt }
  node_shown number text (Some (nodes.Filter instance)) fits is =
      let linked = links_text is.1.1.2 in
      record {
        functions = written_functions linked.0;
        is = record {
          0 = is.0;
          1 = record {
            0 = is.1.0;
            1 = record { 0 = is.1.1.0; 1 = is.1.1.1; 2 = linked.0 };
            2 = is.1.2;
          };
          2 = is.2;
        };
        spells = λ program e. record {
          functions = e;
          linked = linked.1;
          calls = fits.0;
          small = fits.1;
        };
      }

  -- those of all nodes below one
  record NodesShown (count : ℕ) (text : List ℕ) : Type 0 where
    functions : (number : ℕ) → FilterFunctions
    are : AreTexts (IsNumbered network) count text
    spells : (program : Program)
        → ((number : ℕ) → number < count → program.functions number ≡ functions number)
        → SpellsNodes program network count text are

  nodes_shown : (count : ℕ) (text : List ℕ)
      → ((number : ℕ) → FitsNode (slice_get network.nodes.now number))
      → AreTexts (IsNumbered network) count text → NodesShown count text
  nodes_shown zero text fit are =
      record { functions = λ number. others; are = are; spells = λ program same. tt }
  nodes_shown (suc count) text fit are =
      joined (nodes_shown count are.0 fit are.2)
      (node_shown count are.1 (slice_get network.nodes.now count) (fit count) are.3)
    where
      joined : NodesShown count are.0
          → NodeShown count are.1 (slice_get network.nodes.now count)
          → NodesShown (suc count) text
      joined before last =
          let all : ℕ → FilterFunctions =
          λ number. cond (number == count) last.functions (before.functions number) in
          let below : (number : ℕ) → number < count → (number == count) ≡ false =
          λ number less. grind (arith, nat_tests) in
          let here : (count == count) ≡ true = grind (arith, nat_tests) in
          record {
            functions = all;
            are = record { 0 = are.0; 1 = are.1; 2 = before.are; 3 = last.is; 4 = are.4 };
            spells = λ program same. (
              before.spells program (λ number less.
                  let earlier : number < suc count = omega (arith, less) in
                  same number earlier
                  ∙ ap (λ t. cond t last.functions (before.functions number))
                  (below number less)),
              let one_more : count < suc count = omega arith in
                  last.spells program (same count one_more
                  ∙ ap (λ t. cond t last.functions (before.functions count)) here),
            );
          }

-- each filter has few slots, since all together are few
module _ (plan : PlanParts) (text : List ℕ) (written : IsProgramOf plan text) where
  few_slots : (number : ℕ) (instance : Instance)
      → slice_get plan.graph.nodes number ≡ Some (nodes.Filter instance)
      → slot_count (filter_of instance.code) < 2 ^ 31
  few_slots number instance at =
      let codes = written.network.nodes.now in
      let there : slice_get codes number ≡ Some (nodes.Filter instance) =
      ap (λ (l : List Node). slice_get l number) written.is.parts.nodes ∙ at in
      let same : slots_at codes number ≡ slot_count (filter_of instance.code) =
      ap (λ (o : Option Node). option_map_or node_slots o 0) there in
      by_total (total_room written.network) (total_slots codes) (slots_at codes number)
      (slot_count (filter_of instance.code)) same
      (below_sum (slots_at codes) (length codes) number
      (slice_get_within codes number (nodes.Filter instance) there)) written.within
    where
      by_total : (items slots own count : ℕ) → own ≡ count → own ≤ slots
          → items + slots ≤ 268435456 → count < 2 ^ 31
      by_total items slots own count same part within = omega (arith, same, part, within)

module _ (plan : PlanParts) (text : List ℕ) (written : IsProgramOf plan text)
    (resolved : AreResolved (graph_of plan)) where
  filter_fits : (number : ℕ) (code : Option Node)
      → slice_get plan.graph.nodes number ≡ code → FitsNode code
  filter_fits number None at = tt
  filter_fits number (Some nodes.Identity) at = tt
  filter_fits number (Some (nodes.FileReader file)) at = tt
  filter_fits number (Some (nodes.FileWriter file)) at = tt
  filter_fits number (Some (nodes.Splitter splitter)) at = tt
  filter_fits number (Some (nodes.Joiner weights)) at = tt
  filter_fits number (Some (nodes.Scatter fission)) at = tt
  filter_fits number (Some (nodes.Copy copied fission)) at = tt
  filter_fits number (Some (nodes.Gather fission)) at = tt
  filter_fits number (Some (nodes.Filter instance)) at =
      let of : IsFilterOf (graph_of plan) (filter_of instance.code) = (
        number,
        instance.name,
        slice_get-map node_view plan.graph.nodes number
            ∙ ap (option_map node_view) at,
      ) in (
        resolved_calls_fit (filter_of instance.code)
            (resolved (filter_of instance.code) of),
        few_slots plan text written number instance at,
      )

  pub known : AreKnown (graph_of plan)
  known filter of =
      let is = resolved filter of in resolved_closed is.0 is.1 filter is.2

pub texts_have_programs : TextsHavePrograms
texts_have_programs plan text setting written resolved =
    by_shown (nodes_shown written.network setting.others
    (length written.network.nodes.now) written.written.0 fit written.written.1)
  where
    fit : (number : ℕ) → FitsNode (slice_get written.network.nodes.now number)
    fit number =
        filter_fits plan text written resolved number (slice_get written.network.nodes.now number)
        (ap (λ (nodes : List Node). slice_get nodes number) (sym written.is.parts.nodes))

    by_shown : NodesShown written.network setting.others (length written.network.nodes.now)
        written.written.0
        → (program : Program) × SpellsProgram plan text setting program
        × (program.network ≡ written.network)
    by_shown shown = record {
      0 = record {
        network = written.network;
        functions = shown.functions;
        input = setting.input;
        unset = setting.unset;
        fuel = setting.fuel;
      };
      1 = record {
        written = record written {
          written = record {
            0 = written.written.0;
            1 = shown.are;
            2 = written.written.2;
          };
        };
        is = record {
          network = refl;
          spells = shown.spells _ (λ number less. refl);
          fuel = setting.enough;
        };
        input = refl;
        unset = refl;
        fuel = refl;
      };
      2 = refl;
    }

pub resolved_plans_answer : ResolvedPlansAnswer
resolved_plans_answer plan text setting is written resolved =
    let made = texts_have_programs plan text setting written resolved in
    record {
      0 = made.0;
      1 = made.1;
      2 = λ rounds first few input begins.
          plans_answer plan text made.1.written made.0 rounds first is
          (known plan text written resolved)
          (λ filter of. resolved_keep_sides filter (resolved filter of)) made.1.is few
          input begins;
    }
