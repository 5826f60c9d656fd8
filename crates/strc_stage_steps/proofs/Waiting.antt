-- What waits at old nodes after start-up, and at nodes after fission.
use Rattle.std.proofs.Common.{◌≡◌, refl, sym, ap, ◌∙◌, ℕ, zero, suc, ◌+◌, ◌≤◌, ℤ}
use Rattle.std.proofs.Common.{List, [], ◌∷◌, map, inl, inr, slice_get, Some, arith}
use Rattle.strc_elab_dataflow.specs.Streams as trees
use Rattle.strc_elab_graph.specs.Graphs.{NodeCode, Graph, Channel}
use Rattle.strc_elab_graph.specs.Meaning.{node_meaning}
use Rattle.strc_elab_graph.specs.declared.graph.Fission.{Fission}
use Rattle.strc_elab_graph.specs.declared.graph.Port.{Port}
use Rattle.strc_sched_orders.specs.Schedules.{ScheduleParts}
use Rattle.strc_sched_laws.specs.Circuits.{IsCircuit}
use Rattle.strc_sched_laws.specs.Fits.{Queues}
use Rattle.strc_sched_laws.specs.Machine.{CircuitView, MachineView}
use Rattle.strc_sched_laws.specs.Rings.{Ring, items_at}
use Rattle.strc_sched_laws.specs.Simulation.{Simulates}
use Rattle.strc_elab_dataflow.specs.Starting.{queues_dealt}
use Rattle.strc_fiss.specs.Numbers.{last_part, base}
use Rattle.strc_fiss.specs.Ways.{fission_of}
use Rattle.strc_stage_plan.specs.Owners.{owner}
use Rattle.strc_stage_plan.specs.Runs.{parts_of, graph_before, dealt_from}
use Rattle.strc_stage_plan.proofs.Members.{In}
use Rattle.strc_stage_plan.proofs.Owners.{owner_is}
use Rattle.strc_stage_steps.specs.Dealt.{waiting_at}
use Rattle.strc_stage_steps.proofs.Nodes.{some_same}

-- ---- lists

-- what is at a place is in the list
pub slice_in : {A : Type 0} (xs : List A) (number : ℕ) (x : A) → slice_get xs number ≡ Some x
    → In x xs
slice_in [] number x there = absurd (cc)
slice_in (y ∷ xs) zero x there = inl (sym (some_same y x there))
slice_in (y ∷ xs) (suc number) x there = inr (slice_in xs number x there)

pub in_slice : {A : Type 0} (xs : List A) (x : A) → In x xs
    → (number : ℕ) × (slice_get xs number ≡ Some x)
in_slice [] x there = absurd there
in_slice (y ∷ xs) x (inl here) = (0, ap Some (sym here))
in_slice (y ∷ xs) x (inr later) =
    let found = in_slice xs x later in
    (suc found.0, found.1)

map_at : {A B : Type 0} (f : A → B) (xs : List A) (number : ℕ) (x : A)
    → slice_get xs number ≡ Some x → slice_get (map f xs) number ≡ Some (f x)
map_at f [] number x there = absurd (cc)
map_at f (y ∷ xs) zero x there = ap (λ a. Some (f a)) (some_same y x there)
map_at f (y ∷ xs) (suc number) x there = map_at f xs number x there

at_map : {A B : Type 0} (f : A → B) (xs : List A) (number : ℕ) (y : B)
    → slice_get (map f xs) number ≡ Some y
    → (x : A) × (slice_get xs number ≡ Some x) × (f x ≡ y)
at_map f [] number y there = absurd (cc)
at_map f (x ∷ xs) zero y there = (x, refl, some_same (f x) y there)
at_map f (x ∷ xs) (suc number) y there = at_map f xs number y there

module _ (old : Graph) (started : Queues) (circuit : CircuitView) (old_sizes : List ℕ)
    (input : List ℤ) (before : MachineView) (wired : IsCircuit old circuit)
    (holds : Simulates old old_sizes input started before) where
  -- the items at a port of an old node where a channel ends
  pub waiting_is : (own : Channel) → In own old.channels
      → waiting_at circuit before own.target.node own.target.port
      ≡ started.queues own.target.node own.target.port
  waiting_is own there =
      let (number, at) = in_slice old.channels own there in
      let (other, found) = wired.inputs.complete number own.target
      (map_at target_of old.channels number own at) in
      let (beside, here, same) = at_map target_of old.channels other
      (record { node = own.target.node; port = own.target.port })
      (wired.inputs.sound own.target.node own.target.port other found) in
      ap (items_at before.rings) found
      ∙ ap (λ (r : Ring). r.items) (holds.rings other beside here)
      ∙ ap (λ (p : Port). started.queues p.node p.port) same
    where
      target_of : Channel → Port
      target_of channel = channel.target

module _ (tree : trees.Stream NodeCode) (old : Graph) (schedule : ScheduleParts)
    (round : List ℕ) (ways : ℕ) (started : Queues) where
  abbrev share : ℕ → Fission
  share = fission_of old round ways

  abbrev now : Queues
  now = dealt_from tree old schedule round ways started

  abbrev queues : (node part : ℕ) → ℕ → List ℤ
  queues node part = queues_dealt (parts_of tree old schedule round ways) node_meaning
      (graph_before tree old schedule round ways) started node part

  pub queue_first : (node port : ℕ)
      → now.queues (base share node) port ≡ started.queues node port
  unfolding queues_dealt
  queue_first node port =
      let at : base share node ≡ base share node + 0 = omega arith in
      let who = owner_is share node 0 (omega arith) in
      ap (λ (n : ℕ). queues (owner share n).node (owner share n).part port) at
      ∙ ap (λ (n : ℕ). queues n (owner share (base share node + 0)).part port) who.0
      ∙ ap (λ (n : ℕ). queues node n port) who.1

  pub queue_later : (node part port : ℕ) → suc part ≤ last_part share node
      → now.queues (base share node + suc part) port ≡ []
  unfolding queues_dealt
  queue_later node part port within =
      let who = owner_is share node (suc part) within in
      ap (λ (n : ℕ). queues n (owner share (base share node + suc part)).part port) who.0
      ∙ ap (λ (n : ℕ). queues node n port) who.1
