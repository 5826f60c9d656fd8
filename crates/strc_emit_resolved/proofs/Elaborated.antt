-- The filters of a plan of an elaborated stream are resolved.
use Rattle.std.proofs.Common.{◌≡◌, ℕ, zero, suc, List, [], ◌∷◌, Option, Some, sym, ◌∙◌, subst}
use Rattle.std.specs.Prelude.{slice_get}
use Rattle.std.specs.List.{AllByRecursion}
use Rattle.strc_work_meaning.specs.Filters.{Filter}
use Rattle.strc_elab.specs.Sound.{IsInstance}
use Rattle.strc_elab.proofs.Soundness.{instance_resolved}
use Rattle.strc_elab_graph.specs.Graphs as graphs
use Rattle.strc_elab_graph.specs.Graphs.{NodeCode, Graph}
use Rattle.strc_elab_stream.proofs.Nodes.{nodes_are_codes}
use Rattle.strc_emit_resolved.specs.Resolved.{IsResolved}
use Rattle.strc_emit_resolved.specs.Elaborated.{InstancesAreResolved}

-- the instance at a number
instance_at : (codes : List NodeCode) (number : ℕ) (code : NodeCode)
    → AllByRecursion IsInstance codes → slice_get codes number ≡ Some code → IsInstance code
instance_at [] number code all at = absurd (cc)
instance_at (first ∷ rest) zero code all at =
    let same : first ≡ code = cc in
    subst IsInstance same all.0
instance_at (first ∷ rest) (suc number) code all at = instance_at rest number code all.1 at

instance_is : (name : Option (List ℕ)) (filter : Filter) → IsInstance (graphs.Filter name filter)
    → IsResolved filter
instance_is name filter is = record {
  0 = is.0.constants;
  1 = is.1;
  2 = instance_resolved is.0 is.1 filter is.2;
}

pub instances_are_resolved : InstancesAreResolved
instances_are_resolved graph whole all filter of =
    instance_is of.1 filter
    (instance_at graph.nodes of.0 (graphs.Filter of.1 filter)
    (subst (AllByRecursion IsInstance) (nodes_are_codes whole.stream whole.closed.typed
    ∙ sym whole.program.flat.nodes) all) of.2)
