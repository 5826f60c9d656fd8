-- What a batch's kind says of its node.
use Rattle.std.proofs.Common.{◌≡◌, refl, sym, ℕ, ◌<◌, List, length, get_or}
use Rattle.std.proofs.Common.{subst, ◌≤◌, Bool, true, false}
use Rattle.std.specs.Prelude.{Some}
use Rattle.std.proofs.lemmas.Option.{slice_get-get_or}
use Rattle.strc_elab_graph.specs.Graphs as graphs
use Rattle.strc_elab_graph.specs.Graphs.{NodeCode}
use Rattle.strc_sched_laws.specs.Machine.{CircuitView}
use Rattle.strc_sched_laws.specs.Rings.{Ring, items_at, moved}
use Rattle.strc_sched_laws.specs.Wiring.{ports_at}
use Rattle.strc_sched_machine.specs.Blocks.{HasPassed, PassesOn}
use Rattle.strc_sched_machine.specs.Batches.{FitsKind, IsBatch}
use Rattle.strc_sched_filters.specs.Identities.{KeepsNothing, PassesItems}
use Rattle.strc_sched_machine.specs.declared.batches.Kind.{Kind}
use Rattle.strc_sched_machine.specs.declared.batches.Kind.TheVariants as kinds
use Rattle.strc_sched_machine.proofs.Blocks.{identity_passes}
use Rattle.strc_sched_machine.proofs.TurnFirings.{keeps_nothing}
use Rattle.strc_sched_machine.specs.declared.batches.Batch.{Batch}

-- what is known of a batch's node
pub known_kind : (circuit : CircuitView) (batch : Batch) (kind : Kind) → IsBatch circuit batch
    → batch.kind ≡ kind
    → FitsKind (get_or circuit.codes batch.node graphs.Identity)
    (ports_at circuit.inputs batch.node) (ports_at circuit.outputs batch.node) kind
known_kind circuit batch kind is same =
    let code = get_or circuit.codes batch.node graphs.Identity in
    subst (FitsKind code (ports_at circuit.inputs batch.node) (ports_at circuit.outputs batch.node))
    same
    (is.kind code (slice_get-get_or circuit.codes batch.node graphs.Identity is.node))

-- what passes its items on keeps nothing
passing_keeps : (code : NodeCode) → PassesItems code → KeepsNothing code
passing_keeps graphs.Identity passing = tt
passing_keeps (graphs.Filter name filter) passing = passing.fields
passing_keeps (graphs.FileReader text) passing = absurd passing
passing_keeps (graphs.FileWriter text) passing = absurd passing
passing_keeps (graphs.Splitter splitter) passing = absurd passing
passing_keeps (graphs.Joiner weights) passing = absurd passing
passing_keeps (graphs.Scatter fission) passing = absurd passing
passing_keeps (graphs.Copy copied fission) passing = absurd passing
passing_keeps (graphs.Gather fission) passing = absurd passing

-- what does what an identity does passes its items on
pub passed_between : (circuit : CircuitView) (batch : Batch) (from to : ℕ)
    (before after : List Ring) (all : Bool) → IsBatch circuit batch
    → batch.kind ≡ kinds.Identity from to → from < length before → to < length before
    → (all ≡ true → (batch.turns ≤ length (items_at before (Some from)))
    × (after ≡ moved (Some from) (Some to) batch.turns before))
    → (all ≡ false → after ≡ before)
    → HasPassed circuit batch.node batch.turns all before after
passed_between circuit batch from to before after true is same inner outer moves stays =
    let known = known_kind circuit batch (kinds.Identity from to) is same in
    let code = get_or circuit.codes batch.node graphs.Identity in
    let here = slice_get-get_or circuit.codes batch.node graphs.Identity is.node in (
      keeps_nothing circuit batch.node code here (passing_keeps code known.0),
      subst (PassesOn circuit batch.node batch.turns before) (sym (moves refl).1)
          (identity_passes from to known.3 circuit batch.node code batch.turns before here known.0
          known.1 known.2 inner outer (moves refl).0),
    )
passed_between circuit batch from to before after false is same inner outer moves stays =
    stays refl
