-- Channels by the stages that they join, as the definitions of a ring have them.
use Rattle.std.proofs.Common.{◌≡◌, refl, sym, ap, ◌∙◌, ℕ, suc, ◌+◌, ◌≤◌, Bool, true}
use Rattle.std.proofs.Common.{false, List, [], ◌∷◌, length, map, arith}
use Rattle.std.specs.Prelude.{eqb, if◌then◌else◌, ◌&&◌}
use Rattle.strc_elab_graph.specs.Graphs.{Channel, NodeCode, gives_words}
use Rattle.strc_elab_graph.specs.Tapes.{tape_nodes_from}
use Rattle.strc_sched_rings.specs.Parts.{is_within}
use Rattle.strc_stage_plan.specs.Plans.{PlanParts, transformed_of}
use Rattle.strc_elab_dataflow.specs.Ranges.{stage_within}
use Rattle.strc_stage_steps.specs.Beginnings.{crosses, crossings_from, entering_at, leaving_at}
use Rattle.strc_stage_steps.specs.Beginnings.{blocks_before, blocks_of, is_under_way}
use Rattle.strc_stage_steps.specs.Beginnings.{ends_in, begins_in, rooms_of, tapes_from}
use Rattle.strc_stage_steps.specs.CrossingBlocks.{raised}
use Rattle.strc_stage_steps.specs.Plans.{IsCut}
use Rattle.strc_stage_steps.specs.Runnings.{Running, round_pushes}
use Rattle.strc_stage_steps.specs.declared.crossing_items.Crossing.{Crossing}
use Rattle.strc_stage_steps.specs.declared.crossing_items.TapeOf.{TapeOf}
use Rattle.strc_stage_steps.specs.Blocks as blocks
use Rattle.strc_stage_steps.specs.Tapes.{AreAfter}
use Rattle.strc_stage_steps.specs.declared.stage.Block.{Block}
use Rattle.strc_stage_cut.specs.Bounds.{bound_in, last_of}
use Rattle.strc_stage_cut.specs.Links.{link_of, links_of, crossings_in, blocks_in}
use Rattle.strc_stage_cut.specs.Tapes.{tapes_in}
use Rattle.strc_stage_cut.specs.declared.links.Link.{Link}
use Rattle.strc_stage_cut.specs.declared.links.Side.TheVariants as side
use Rattle.strc_stage_cut.proofs.Ranges.{same_test}

-- ---- crossings

crossing_step : (cross pick : Bool) (block ring : ℕ) (own others : ℕ → List Crossing)
    → ((block : ℕ) → own block ≡ others block)
    → (if (cross && pick) then record { block = block; ring = ring } ∷ own (raised cross block)
    else own (raised cross block))
    ≡ (if cross then (if pick then record { block = block; ring = ring } ∷ others (suc block)
    else others (suc block)) else others block)
crossing_step true true block ring own others same =
    ap (λ (l : List Crossing). record { block = block; ring = ring } ∷ l) (same (suc block))
crossing_step true false block ring own others same = same (suc block)
crossing_step false pick block ring own others same = same block

block_step : (cross : Bool) (pushes : ℕ) (held : Bool) (own others : List Block) → own ≡ others
    → (if cross then record { room = if cross then pushes else 0; held = held } ∷ own else own)
    ≡ (if cross then record { room = pushes; held = held } ∷ others else others)
block_step true pushes held own others same =
    ap (λ (l : List Block). record { room = pushes; held = held } ∷ l) same
block_step false pushes held own others same = same

room_step : (cross : Bool) (pushes : ℕ) (held : Bool) (own : List Block) (rooms : List ℕ)
    → map blocks.room_of own ≡ rooms
    → map blocks.room_of (if cross then record { room = pushes; held = held } ∷ own else own)
    ≡ (if cross then pushes ∷ rooms else rooms)
room_step true pushes held own rooms same = ap (λ (l : List ℕ). pushes ∷ l) same
room_step false pushes held own rooms same = same

module _ (running : Running) (bounds : List ℕ) (stage : ℕ) where
  abbrev join : Channel → Link
  join = link_of running.graph running.counts bounds

  abbrev links : List Link
  links = links_of running.graph running.counts bounds

  entering_from : (block ring : ℕ) (channels : List Channel)
      → crossings_in side.Entering stage block ring (map join channels)
      ≡ crossings_from (bound_in bounds) (last_of bounds) block ring
      (ends_in (bound_in bounds) (last_of bounds) stage) channels
  entering_from block ring [] = refl
  entering_from block ring (channel ∷ channels) =
      crossing_step (crosses (bound_in bounds) (last_of bounds) channel)
      (ends_in (bound_in bounds) (last_of bounds) stage channel) block ring
      (λ b. crossings_in side.Entering stage b (suc ring) (map join channels))
      (λ b. crossings_from (bound_in bounds) (last_of bounds) b (suc ring)
      (ends_in (bound_in bounds) (last_of bounds) stage) channels)
      (λ b. entering_from b (suc ring) channels)

  leaving_from : (block ring : ℕ) (channels : List Channel)
      → crossings_in side.Leaving stage block ring (map join channels)
      ≡ crossings_from (bound_in bounds) (last_of bounds) block ring
      (begins_in (bound_in bounds) (last_of bounds) stage) channels
  leaving_from block ring [] = refl
  leaving_from block ring (channel ∷ channels) =
      crossing_step (crosses (bound_in bounds) (last_of bounds) channel)
      (begins_in (bound_in bounds) (last_of bounds) stage channel) block ring
      (λ b. crossings_in side.Leaving stage b (suc ring) (map join channels))
      (λ b. crossings_from (bound_in bounds) (last_of bounds) b (suc ring)
      (begins_in (bound_in bounds) (last_of bounds) stage) channels)
      (λ b. leaving_from b (suc ring) channels)

  pub entering_is : crossings_in side.Entering stage 0 0 links
      ≡ entering_at (bound_in bounds) (last_of bounds) stage running.graph.channels
  entering_is = entering_from 0 0 running.graph.channels

  pub leaving_is : crossings_in side.Leaving stage 0 0 links
      ≡ leaving_at (bound_in bounds) (last_of bounds) stage running.graph.channels
  leaving_is = leaving_from 0 0 running.graph.channels

  -- ---- blocks

  blocks_from : (channels : List Channel)
      → blocks_in stage (map join channels)
      ≡ blocks_of (crosses (bound_in bounds) (last_of bounds))
      (is_under_way (bound_in bounds) (last_of bounds) stage) running channels
  blocks_from [] = refl
  blocks_from (channel ∷ channels) =
      block_step (crosses (bound_in bounds) (last_of bounds) channel)
      (round_pushes running channel)
      (is_under_way (bound_in bounds) (last_of bounds) stage channel)
      (blocks_in stage (map join channels))
      (blocks_of (crosses (bound_in bounds) (last_of bounds))
      (is_under_way (bound_in bounds) (last_of bounds) stage) running channels)
      (blocks_from channels)

  pub blocks_are : blocks_in stage links
      ≡ blocks_before running (bound_in bounds) (last_of bounds) stage
  blocks_are = blocks_from running.graph.channels

-- the rooms of the blocks of parcels
module _ (crossing under_way : Channel → Bool) (running : Running) where
  pub rooms_are : (channels : List Channel)
      → map blocks.room_of (blocks_of crossing under_way running channels)
      ≡ rooms_of crossing running channels
  rooms_are [] = refl
  rooms_are (channel ∷ channels) =
      room_step (crossing channel) (round_pushes running channel) (under_way channel)
      (blocks_of crossing under_way running channels) (rooms_of crossing running channels)
      (rooms_are channels)

-- ---- tapes

module _ (first next node : ℕ) (nodes : List ℕ) where
  after_within : (within : Bool) (from tape : ℕ) → from ≤ node
      → AreAfter (suc node) (tapes_in first next (suc tape) nodes)
      → AreAfter from (tapes_in first next (suc tape) nodes)
      → AreAfter from (if within then record { tape = tape; node = node }
      ∷ tapes_in first next (suc tape) nodes else tapes_in first next (suc tape) nodes)
  after_within true from tape less here later = (less, here)
  after_within false from tape less here later = later

  after_tape : (gives : Bool) (from tape : ℕ) → from ≤ node
      → AreAfter (suc node) (tapes_in first next (suc tape) nodes)
      → ((tape : ℕ) → AreAfter from (tapes_in first next tape nodes))
      → AreAfter from (tapes_in first next tape (if gives then node ∷ nodes else nodes))
  after_tape true from tape less here later =
      after_within (is_within first next node) from tape less here (later (suc tape))
  after_tape false from tape less here later = later tape

  same_tape : (gives own : Bool) (tape : ℕ) (others : ℕ → List TapeOf)
      → own ≡ is_within first next node
      → ((tape : ℕ) → tapes_in first next tape nodes ≡ others tape)
      → tapes_in first next tape (if gives then node ∷ nodes else nodes)
      ≡ (if gives then (if own then record { tape = tape; node = node } ∷ others (suc tape)
      else others (suc tape)) else others tape)
  same_tape true own tape others e same =
      ap (λ (t : Bool). if t then record { tape = tape; node = node }
      ∷ tapes_in first next (suc tape) nodes else tapes_in first next (suc tape) nodes) (sym e)
      ∙ ap (λ (l : List TapeOf). if own then record { tape = tape; node = node } ∷ l else l)
      (same (suc tape))
  same_tape false own tape others e same = same tape

-- tapes are in order of their nodes
pub tapes_after : (first next from tape node : ℕ) (codes : List NodeCode) → from ≤ node
    → AreAfter from (tapes_in first next tape (tape_nodes_from node codes))
tapes_after first next from tape node [] less = tt
tapes_after first next from tape node (code ∷ codes) less =
    after_tape first next node (tape_nodes_from (suc node) codes) (gives_words code) from tape less
    (tapes_after first next (suc node) (suc tape) (suc node) codes (omega arith))
    (λ t. tapes_after first next from t (suc node) codes (omega (arith, less)))

-- a stage's are those of its nodes
module _ (plan : PlanParts) (bound : ℕ → ℕ) (last : ℕ) (cut : IsCut plan bound (suc last))
    (stage : ℕ) (most : stage ≤ last) where
  pub tapes_are : (tape node : ℕ) (codes : List NodeCode)
      → node + length codes ≤ length (transformed_of plan).nodes
      → tapes_in (bound stage) (bound (suc stage)) tape (tape_nodes_from node codes)
      ≡ tapes_from bound last tape node stage codes
  tapes_are tape node [] within = refl
  tapes_are tape node (code ∷ codes) within =
      same_tape (bound stage) (bound (suc stage)) node (tape_nodes_from (suc node) codes)
      (gives_words code) (eqb (stage_within bound last node) stage) tape
      (λ t. tapes_from bound last t (suc node) stage codes)
      (same_test plan bound last cut stage node most (omega (arith, within)))
      (λ t. tapes_are t (suc node) codes (omega (arith, within)))
