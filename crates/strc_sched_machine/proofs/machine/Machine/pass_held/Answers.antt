use Rattle.std.proofs.Common.{◌≡◌, ◌∙◌, refl, sym, ap, subst, ℕ, ◌<◌, ◌≤◌, ◌+◌, ◌-◌, ◌^◌, min}
use Rattle.std.proofs.Common.{List, length, take, get_or, set, arith}
use Rattle.std.specs.Prelude.{Some}
use Rattle.std.specs.Vec.{with_items}
use Rattle.std.proofs.lemmas.Grind.{get_or_default_zero}
use Rattle.std.proofs.lemmas.List.{with_items_is}
use Rattle.std.proofs.lemmas.Option.{slice_get-get_or}
use Rattle.strc_elab_graph.specs.Graphs as graphs
use Rattle.strc_sched_laws.specs.Machine.{Went}
use Rattle.strc_sched_laws.specs.Rings.{given}
use Rattle.strc_sched_rings.specs.Circuits.{circuit_view}
use Rattle.strc_sched_machine.specs.Blocks.{PassesOn}
use Rattle.strc_sched_machine.specs.Handing.{held_view}
use Rattle.strc_sched_machine.specs.declared.batches.Kind.TheVariants as kind
use Rattle.strc_sched_machine.proofs.Batching.{known_kind}
use Rattle.strc_sched_machine.proofs.ByHand.{identity_held}
use Rattle.strc_sched_machine.proofs.Done.{more_refl, nothing_kept}
use Rattle.strc_sched_machine.proofs.Held.{same_held}
use Rattle.strc_sched_machine.proofs.machine.Machine.pass_held.Goals as goal

pub returns-clause-held : goal.returns-clause-held
returns-clause-held c =
    let rings = c.args.self.now.rings in
    let items = c.args.self.now.items in
    let circuit = circuit_view c.args.circuit.now in
    let batch = c.args.batch.now in
    let to = c.args.to in
    let known = known_kind circuit batch (kind.Identity c.requires.kind.0 to) c.requires.batch
    c.requires.kind.1 in
    let there : to < length rings.items = c.requires.machine.outputs batch.node 0 to known.2 in
    let left = with_items_is rings c.take_up.new.rings
    (c.take_up.ensures.rings ∙ ap length c.deref_mut.ensures.value ∙ sym rings.ok.0) in
    let kept = with_items_is items c.take_up.new.items
    (c.take_up.ensures.items ∙ ap length c.deref_mut-2.ensures.value ∙ sym items.ok.0) in
    let many = c.take_up.ensures.rings ∙ ap length c.deref_mut.ensures.value in
    record {
      port = subst (λ l. to < length l) (sym left) (omega (arith, there, many));
      count = subst (λ l. c.take_up.new.held.count ≤ length l) (sym kept)
          c.take_up.ensures.held.count;
    }

pub returns-clause-gone : goal.returns-clause-gone
returns-clause-gone c =
    let circuit = circuit_view c.args.circuit.now in
    let self = c.args.self.now in
    let before = held_view c.args.held.now self in
    let batch = c.args.batch.now in
    let node = batch.node in
    let turns = batch.turns in
    let to = c.args.to in
    let rings = self.rings in
    let items = self.items in
    let held = c.take_up.new.held in
    let known = known_kind circuit batch (kind.Identity c.requires.kind.0 to) c.requires.batch
    c.requires.kind.1 in
    let many = c.take_up.ensures.rings ∙ ap length c.deref_mut.ensures.value in
    let inner = c.requires.machine.inputs node 0 c.requires.kind.0 known.1 in
    let outer = c.requires.machine.outputs node 0 to known.2 in
    let code = get_or circuit.codes node graphs.Identity in
    let here = slice_get-get_or circuit.codes node graphs.Identity c.requires.batch.node in
    let there : node < length before.fired =
    let less = c.requires.batch.node in
    let each = c.requires.machine.fired in omega arith in
    let firing : ℕ = c.index.result.now in
    let same : firing ≡ get_or before.fired node 0 =
    c.index.ensures ∙ get_or_default_zero before.fired node firing there in
    let passed = identity_held circuit batch c.requires.kind.0 to c.take_up.new.rings held
    c.take_up.new.items c.requires.batch c.requires.kind.1 c.take_up.ensures.held
    (c.if-not-take_up.ensures.all refl) (c.if-not-take_up.ensures.count refl)
    (omega (arith, inner, many)) (omega (arith, outer, many)) in
    let none = nothing_kept circuit.codes self.actors.items c.requires.machine.actors node code here
    (passed.0 code here) in
    let joined = c.take_up.ensures.same
    ∙ same_held c.args.held.now c.deref_mut-2.result.now items.items c.deref_mut.result.now
    rings.items c.deref_mut-2.ensures.value c.deref_mut.ensures.value in
    let left = with_items_is rings c.take_up.new.rings
    (c.take_up.ensures.rings ∙ ap length c.deref_mut.ensures.value ∙ sym rings.ok.0) in
    let kept = with_items_is items c.take_up.new.items
    (c.take_up.ensures.items ∙ ap length c.deref_mut-2.ensures.value ∙ sym items.ok.0) in
    let fired : List ℕ = set before.fired node c.saturating_add.result in
    let after = given (Some to) (take held.count c.take_up.new.items) c.take_up.new.rings in
    λ _. (
      subst (λ r. PassesOn circuit node turns r after) joined passed.1 before.fields before.fired
          before.words none there (let fits = c.index.type_inv in omega arith)
          ∙ ap (λ l. Went (record {
            fields = before.fields;
            fired = l;
            rings = after;
            words = before.words;
          }))
          (ap (λ n. set before.fired node (min (n + turns) (2 ^ 64 - 1))) (sym same)
          ∙ ap (λ n. set before.fired node (min (firing + n) (2 ^ 64 - 1))) (sym c.from.ensures)
          ∙ ap (set before.fired node) (sym c.saturating_add.ensures))
          ∙ ap (λ l. Went (record {
            fields = before.fields;
            fired = fired;
            rings = l;
            words = before.words;
          }))
          (same_held (record { port = Some to; count = held.count }) c.take_up.new.items
          (with_items items c.take_up.new.items).items c.take_up.new.rings
          (with_items rings c.take_up.new.rings).items (sym kept) (sym left)),
      more_refl before.words,
    )
