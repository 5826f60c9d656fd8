use Rattle.std.proofs.Common.{◌≡◌, ◌∙◌, sym, ap, subst, List, ℕ, ◌+◌, suc, map, arith}
use Rattle.std.proofs.Common.{Some, slice_get, false, true}
use Rattle.strc_elab_graph.specs.Graphs.{NodeCode}
use Rattle.strc_elab_graph.specs.NodeView.{node_view}
use Rattle.strc_elab_graph.specs.Rates.{fires_by_rounds}
use Rattle.strc_sched_laws.specs.Machine.{MachineView}
use Rattle.strc_sched_machine.specs.Keeping.{kept_at, with_kept}
use Rattle.strc_sched_machine.specs.Running.{IsMachine, machine_view}
use Rattle.strc_sched_machine.specs.declared.machine.Machine.{Machine}
use Rattle.strc_stage_steps.specs.Handing.{HasHanded}
use Rattle.strc_stage_plan.specs.Named.{old_node}
use Rattle.strc_stage_steps.proofs.Nodes.{node_there, not_whole, skipped, swapped}
use Rattle.strc_stage_steps.proofs.dealt_state.hand_nodes.Goals as goal
use Rattle.strc_stage_steps.proofs.dealt_state.hand_nodes.Goals.{then-not-fires_by_rounds}
use Rattle.strc_stage_steps.proofs.dealt_state.hand_nodes.Goals.{else-not-fires_by_rounds}

pub loop-number-preserved : goal.loop-number-preserved
loop-number-preserved c =
    let nodes = c.args.nodes.now in
    let origins = c.args.origins.now in
    let number = c.loop-number.number in
    let node = c.index-nodes-number.result in
    let less = c.loop-number-test.true in
    let before = machine_view c.args.left.now in
    let after = machine_view c.args.after.now in
    let left = machine_view c.loop-number.left in
    let given = machine_view c.loop-number.after in
    let so_far = c.loop-number.invariant.handed in
    let next : suc number ≡ number + 1 = omega arith in
    let there = node_there nodes number node less c.index-nodes-number.is in
    elim c.if-not-fires_by_rounds.branch [
      | then-not-fires_by_rounds w ↦
          let plain : fires_by_rounds (node_view node) ≡ false =
          sym c.fires_by_rounds.ensures ∙ w.if-not-fires_by_rounds.true in
          record {
            handed = subst (λ (n : ℕ). HasHanded (map node_view nodes) origins n before after
                (machine_view c.if-not-fires_by_rounds.left)
                (machine_view c.if-not-fires_by_rounds.after)) next
                (subst (λ (m : MachineView). HasHanded (map node_view nodes) origins (suc number)
                before after m (machine_view c.if-not-fires_by_rounds.after))
                (sym (ap machine_view w.left-is ∙ w.swap_kept.ensures.other))
                (subst (λ (m : MachineView). HasHanded (map node_view nodes) origins (suc number)
                before after (with_kept (old_node origins number) (kept_at given number) left) m)
                (sym (ap machine_view w.after-is ∙ w.swap_kept.ensures.own))
                (swapped (map node_view nodes) origins before after number left given so_far
                (record {
                  new = λ n under. c.requires.places.new n (omega (arith, under, less));
                  old = λ n under. c.requires.places.old n (omega (arith, under, less));
                }) c.requires.apart
                (record { code = node_view node; there = there; whole = plain }))));
            machines = λ old circuit codes are old_is circuit_is.
                let was = c.loop-number.invariant.machines old circuit codes are old_is
                circuit_is in
                let here : slice_get circuit.codes number ≡ Some (node_view node) =
                ap (λ (l : List NodeCode). slice_get l number) codes ∙ there in
                let both = w.swap_kept.ensures.machines circuit old
                (here ∙ sym (are.kept number (node_view node) here plain)) was.1 was.0 in (
                  subst (IsMachine old) (sym w.left-is) both.1,
                  subst (IsMachine circuit) (sym w.after-is) both.0,
                );
          }
      | else-not-fires_by_rounds w ↦
          let part : fires_by_rounds (node_view node) ≡ true =
          sym c.fires_by_rounds.ensures ∙ w.if-not-fires_by_rounds.false in
          record {
            handed = subst (λ (n : ℕ). HasHanded (map node_view nodes) origins n before after
                (machine_view c.if-not-fires_by_rounds.left)
                (machine_view c.if-not-fires_by_rounds.after)) next
                (subst (λ (m : Machine). HasHanded (map node_view nodes) origins (suc number)
                before after (machine_view m) (machine_view c.if-not-fires_by_rounds.after))
                (sym w.left-is)
                (subst (λ (m : Machine). HasHanded (map node_view nodes) origins (suc number)
                before after left (machine_view m)) (sym w.after-is)
                (skipped (map node_view nodes) origins before after number left given so_far
                (not_whole (map node_view nodes) number (node_view node) there part))));
            machines = λ old circuit codes are old_is circuit_is.
                let was = c.loop-number.invariant.machines old circuit codes are old_is
                circuit_is in (
                  subst (IsMachine old) (sym w.left-is) was.0,
                  subst (IsMachine circuit) (sym w.after-is) was.1,
                );
          }
    ]
