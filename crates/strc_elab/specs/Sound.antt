-- What holds of each stream that a program is elaborated to.
use Rattle.std.specs.Prelude.{◌≡◌, List, Option, ℕ, Ok}
use Rattle.std.specs.List.{AllByRecursion}
use Rattle.strc_parse_tree.specs.Tree.{Declaration}
use Rattle.strc_work_meaning.specs.Filters as filters
use Rattle.strc_elab.specs.Elaboration.{instance_of, elaborated}
use Rattle.strc_elab_stream.specs.Flattening.{nodes_of}
use Rattle.strc_elab_graph.specs.Graphs.{NodeCode, Filter, Scatter, Copy, Gather}
use Rattle.strc_elab_stream.specs.Instances.{Stream}
use Rattle.strc_elab_statements.specs.Texts.{Place}
use Rattle.strc_elab_stream.specs.Types.{IsClosed}

-- a filter is an instance of a text; no stream of a program has a node of fission
abbrev pub IsInstance : NodeCode → Type 0
IsInstance (Filter name filter) = (place : Place) × (source : filters.Filter)
    × (instance_of place source ≡ Ok filter)
IsInstance (Scatter fission) = ⊥
IsInstance (Copy copied fission) = ⊥
IsInstance (Gather fission) = ⊥
IsInstance _ = Unit {0}

-- a stream of instances that takes and gives nothing, and whose parts' types fit
pub record IsElaborated (stream : Stream) : Type 0 where
  pub closed : IsClosed stream
  pub instances : AllByRecursion IsInstance (nodes_of stream)

-- each stream that a program means is one
abbrev pub ElaboratedIsSound : Type 0
ElaboratedIsSound =
    (program : List Declaration) (main : Option (List ℕ)) (stream : Stream)
    → elaborated program main ≡ Ok stream → IsElaborated stream
