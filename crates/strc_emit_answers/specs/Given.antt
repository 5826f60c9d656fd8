-- What nodes give goes somewhere.
use Rattle.std.specs.Prelude.{◌≡◌, ℕ, true}
use Rattle.strc_elab_graph.specs.Carriers.{gives_at}
use Rattle.strc_elab_graph.specs.Graphs.{Graph}
use Rattle.strc_stage_plan.specs.Plans.{IsWhole}
use Rattle.strc_emit_plans.specs.Programs.{IsDrained}

-- a channel begins at each output port of a whole program that carries items
abbrev pub GivenGoesOn : Type 0
GivenGoesOn =
    (graph : Graph) (node port : ℕ) → IsWhole graph → gives_at graph.nodes node port ≡ true
    → IsDrained graph node port
