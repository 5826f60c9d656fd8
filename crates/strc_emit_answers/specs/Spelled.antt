-- The program that a text of C spells.
use Rattle.std.specs.Prelude.{◌≡◌, ℕ, zero, suc, ◌<◌, ◌^◌, ℤ, List, length, Option, Some, None}
use Rattle.std.specs.Prelude.{IfSome}
use Rattle.std.specs.Prelude.{slice_get}
use Rattle.strc_parse_tree.specs.declared.tree.FilterTree.{FilterTree}
use Rattle.strc_work_meaning.specs.Filters.{filter_of}
use Rattle.strc_work_meaning.specs.Closed.{IsClosedFilter}
use Rattle.strc_work_code.specs.Links.{helper_names, AreLinkedCodes}
use Rattle.strc_work_code.specs.Lowering.{slot_count}
use Rattle.strc_elab_graph.specs.Graphs.{node_name}
use Rattle.strc_elab_graph.specs.NodeView.{node_view}
use Rattle.strc_elab_graph.specs.declared.graph.Node.{Node}
use Rattle.strc_elab_graph.specs.declared.graph.Node.TheVariants as nodes
use Rattle.strc_elab_graph.specs.declared.instance.Instance.{Instance}
use Rattle.strc_emit_filter.specs.Filters.{IsFilterText}
use Rattle.strc_emit_firings.specs.Known.{CallsFit}
use Rattle.strc_emit_bodies.specs.Bodies.{written_functions}
use Rattle.strc_emit_moves.specs.declared.places.Network.{Network}
use Rattle.strc_emit_program.specs.Programs.{AreTexts, IsBodiesText, IsNodeText, IsNumbered}
use Rattle.strc_emit_runs.specs.Running.{Program}
use Rattle.strc_emit_plans.specs.Programs.{AreFunctionsOf}

-- the functions of a node are those that a filter's text spells; calls of helper functions know
-- where these stand, and have as many arguments as they take, and slots are numbered within an int
pub record IsSpelled (program : Program) (number : ℕ) (filter : FilterTree) (values : List ℤ)
    (text : List ℕ) (written : IsFilterText number filter values text) : Type 0 where
  pub functions : program.functions number ≡ written_functions written
  pub linked : AreLinkedCodes (helper_names (filter_of filter).members) written.helpers
  pub calls : CallsFit (filter_of filter).members
  pub small : slot_count (filter_of filter) < 2 ^ 31

module _ (program : Program) where
  -- those of a node with bodies are
  abbrev pub SpellsBodies : (number : ℕ) (code : Node) (text : List ℕ)
      → IsBodiesText number code text → Type 0
  SpellsBodies number (nodes.Filter instance) text is =
      IsSpelled program number instance.code is.1.0 is.0 is.1.2
  SpellsBodies number _ text is = Unit {0}

  -- and those of the node of a number
  abbrev pub SpellsNode : (network : Network) (number : ℕ) (code : Option Node) (text : List ℕ)
      → IfSome code (λ it. IsNodeText network number (node_name (node_view it)) it text) → Type 0
  SpellsNode network number None text is = Unit {0}
  SpellsNode network number (Some code) text is = SpellsBodies number code is.0 is.1

  -- those of all nodes below this one are
  abbrev pub SpellsNodes : (network : Network) (count : ℕ) (text : List ℕ)
      → AreTexts (IsNumbered network) count text → Type 0
  SpellsNodes network zero text are = Unit {0}
  SpellsNodes network (suc count) text are = SpellsNodes network count are.0 are.2
      × SpellsNode network count (slice_get network.nodes.now count) are.1 are.3

-- the names in a program's filters are known
abbrev pub AreClosed : Program → Type 0
AreClosed program = (number : ℕ) (instance : Instance)
    → slice_get program.network.nodes.now number ≡ Some (nodes.Filter instance)
    → IsClosedFilter (filter_of instance.code)

-- these are the functions of the filters' nodes
abbrev pub TextsSpell : Type 0
TextsSpell =
    (program : Program) (text : List ℕ)
    (are : AreTexts (IsNumbered program.network) (length program.network.nodes.now) text)
    → SpellsNodes program program.network (length program.network.nodes.now) text are
    → AreClosed program → AreFunctionsOf program
