-- Channels by the stages that they join.
use Rattle.std.specs.Prelude.{ℕ, suc, ◌*◌, Bool, ◌&&◌, not, eqb, nat_lt, nat_le, List, [], ◌∷◌, map}
use Rattle.std.specs.Prelude.{if◌then◌else◌}
use Rattle.strc_elab_graph.specs.Graphs.{Channel, Graph}
use Rattle.strc_stage_plan.specs.Plans.{PlanParts, transformed_of}
use Rattle.strc_elab_dataflow.specs.Ranges.{stage_within}
use Rattle.strc_stage_steps.specs.Beginnings.{crosses}
use Rattle.strc_sched_orders.specs.Firings.{Firings}
use Rattle.strc_startup.specs.Rates.{push_at}
use Rattle.strc_stage_steps.specs.Plans.{running_of}
use Rattle.strc_stage_steps.specs.CrossingBlocks.{raised}
use Rattle.strc_stage_steps.specs.declared.crossing_items.Crossing.{Crossing}
use Rattle.strc_stage_steps.specs.declared.stage.Block.{Block}
use Rattle.strc_stage_cut.specs.Bounds.{bound_in, last_of}
use Rattle.strc_stage_cut.specs.declared.links.Link.{Link}
use Rattle.strc_stage_cut.specs.declared.links.Side.{Side}
use Rattle.strc_stage_cut.specs.declared.links.Side.TheVariants as side

-- How many items a channel carries from stage to stage where nodes fire so often. One within a
-- stage needs no room for that.
abbrev pub carried_between : Graph → (counts : Firings) → (bounds : List ℕ) → Channel → ℕ
carried_between graph counts bounds channel =
    if crosses (bound_in bounds) (last_of bounds) channel
    then counts channel.source.node * push_at graph.nodes 1 channel.source else 0

-- So many in a plan's round.
abbrev pub items_between : PlanParts → (bounds : List ℕ) → Channel → ℕ
items_between plan = carried_between (transformed_of plan) (running_of plan).counts

abbrev pub link_of : Graph → (counts : Firings) → (bounds : List ℕ) → Channel → Link
link_of graph counts bounds channel = record {
  from = stage_within (bound_in bounds) (last_of bounds) channel.source.node;
  to = stage_within (bound_in bounds) (last_of bounds) channel.target.node;
  room = carried_between graph counts bounds channel;
}

abbrev pub links_of : Graph → (counts : Firings) → (bounds : List ℕ) → List Link
links_of graph counts bounds = map (link_of graph counts bounds) graph.channels

abbrev pub room_of : Link → ℕ
room_of link = link.room

-- Its ends lie in different stages.
abbrev pub is_crossing : Link → Bool
is_crossing link = not (eqb link.from link.to)

-- The stage at the end that is at a side.
abbrev pub end_at : Side → Link → ℕ
end_at side.Entering link = link.to
end_at side.Leaving link = link.from

abbrev pub is_picked : Side → (stage : ℕ) → Link → Bool
is_picked side stage link = is_crossing link && eqb (end_at side link) stage

-- The channels that cross at a side of a stage, each with its block; the first of these has this
-- number, and this block if it crosses.
abbrev pub crossings_in : Side → (stage block ring : ℕ) → List Link → List Crossing
crossings_in side stage block ring [] = []
crossings_in side stage block ring (link ∷ links) =
    if is_picked side stage link then
    record { block = block; ring = ring }
    ∷ crossings_in side stage (raised (is_crossing link) block) (suc ring) links
    else crossings_in side stage (raised (is_crossing link) block) (suc ring) links

-- The block of a channel before a stage holds the items of a round from the stage after that where
-- the channel begins, up to that where it ends.
abbrev pub block_before : (stage : ℕ) → Link → Block
block_before stage link = record {
  room = link.room;
  held = nat_lt link.from stage && nat_le stage link.to;
}

abbrev pub blocks_in : (stage : ℕ) → List Link → List Block
blocks_in stage [] = []
blocks_in stage (link ∷ links) =
    if is_crossing link then block_before stage link ∷ blocks_in stage links
    else blocks_in stage links
