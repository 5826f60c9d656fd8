-- The runs of nodes after fission, in the state that is dealt out to them.
use Rattle.std.proofs.Common.{◌≡◌, sym, ap, ◌∙◌, ℕ, zero, suc, ◌+◌, arith}
use Rattle.std.proofs.Common.{List, [], ◌∷◌, get_or, Bool, true, false, cond, Some, slice_get}
use Rattle.strc_elab_dataflow.specs.Histories.{initial_run}
use Rattle.strc_elab_dataflow.specs.Streams as trees
use Rattle.strc_elab_dataflow.specs.Streams.{any_code}
use Rattle.strc_elab_graph.specs.Graphs.{NodeCode, Graph}
use Rattle.strc_elab_graph.specs.Meaning.{node_meaning}
use Rattle.strc_elab_graph.specs.declared.graph.Fission.{Fission}
use Rattle.strc_sched_orders.specs.Schedules.{ScheduleParts}
use Rattle.strc_sched_laws.specs.Fits.{Queues}
use Rattle.strc_sched_laws.specs.Planned.{IsPlanned}
use Rattle.strc_fiss.specs.Numbers.{is_dealt, base}
use Rattle.strc_fiss.specs.Splitting.{new_code}
use Rattle.strc_fiss.specs.Ways.{fission_of}
use Rattle.strc_stage_plan.specs.SplitLaws.{new_graph}
use Rattle.strc_stage_plan.specs.Owners.{owner}
use Rattle.strc_stage_plan.specs.Runs.{graph_after, dealt_from}
use Rattle.strc_stage_plan.proofs.Owners.{owner_is}
use Rattle.strc_stage_plan.proofs.NewNumbers.{IsNumber, code_there}

some_same : {A : Type 0} (one other : A) → Some one ≡ Some other → one ≡ other
some_same one other e = cc

code_got : (codes : List NodeCode) (n : ℕ) (d code : NodeCode) → slice_get codes n ≡ Some code
    → get_or codes n d ≡ code
code_got [] n d code there = absurd (cc)
code_got (first ∷ codes) zero d code there = some_same first code there
code_got (first ∷ codes) (suc n) d code there = code_got codes n d code there

module _ (tree : trees.Stream NodeCode) (old : Graph) (schedule : ScheduleParts)
    (round : List ℕ) (ways : ℕ) (started : Queues) (planned : IsPlanned old schedule) where
  abbrev share : ℕ → Fission
  share = fission_of old round ways

  abbrev now : Queues
  now = dealt_from tree old schedule round ways started

  -- the run of a number whose owner is known
  owned_run : (number node : ℕ) → (owner share number).node ≡ node
      → now.runs number ≡ cond (is_dealt (share node))
      (initial_run node_meaning ((graph_after tree old schedule round ways).code number))
      (started.runs node)
  owned_run number node is =
      ap (λ (n : ℕ). cond (is_dealt (share n))
      (initial_run node_meaning ((graph_after tree old schedule round ways).code number))
      (started.runs n)) is

  kept_run : (number node : ℕ) → (owner share number).node ≡ node
      → is_dealt (share node) ≡ false → now.runs number ≡ started.runs node
  kept_run number node is e =
      owned_run number node is
      ∙ ap (λ (t : Bool). cond t
      (initial_run node_meaning ((graph_after tree old schedule round ways).code number))
      (started.runs node)) e

  -- a node that isn't split goes on
  pub whole_run : (node : ℕ) → is_dealt (share node) ≡ false
      → now.runs (base share node + 0) ≡ started.runs node
  whole_run node e = kept_run (base share node + 0) node (owner_is share node 0 (omega arith)).0 e

  module _ (number node part : ℕ)
      (own : IsNumber share old.nodes planned.unfissioned number node part) where
    owner_node : (owner share number).node ≡ node
    owner_node =
        ap (λ (n : ℕ). (owner share n).node) (sym own.at)
        ∙ (owner_is share node part own.within).0

    pub own_run : is_dealt (share node) ≡ false → now.runs number ≡ started.runs node
    own_run e = kept_run number node owner_node e

    code_after : (graph_after tree old schedule round ways).code number
        ≡ new_code share old.nodes node part
    code_after =
        code_got (new_graph old schedule round ways).nodes number (any_code tree)
        (new_code share old.nodes node part)
        (code_there share old.nodes planned.unfissioned number node part own)

    -- a part of one that is starts as its own code does
    pub part_run : is_dealt (share node) ≡ true
        → now.runs number ≡ initial_run node_meaning (new_code share old.nodes node part)
    part_run e =
        owned_run number node owner_node
        ∙ ap (λ (t : Bool). cond t
        (initial_run node_meaning ((graph_after tree old schedule round ways).code number))
        (started.runs node)) e
        ∙ ap (initial_run node_meaning) code_after
