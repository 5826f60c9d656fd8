-- Which block of a parcel a crossing channel has, which tape a node, and what blocks hold.
use Rattle.std.specs.Prelude.{◌≡◌, ℕ, zero, suc, ◌<◌, ◌≤◌, Bool, true, false, List, [], ◌∷◌}
use Rattle.std.specs.Prelude.{length, Some, slice_get}
use Rattle.strc_elab_graph.specs.Graphs.{NodeCode, Channel, gives_words}
use Rattle.strc_elab_graph.specs.Tapes.{tape_nodes}
use Rattle.strc_stage_core.specs.Parcels.{Load, block_at}
use Rattle.strc_stage_steps.specs.Beginnings.{stage_at, crosses, rooms_of}
use Rattle.strc_stage_steps.specs.Runnings.{Running, round_pushes}

abbrev pub raised : Bool → ℕ → ℕ
raised true n = suc n
raised false n = n

-- How many of the first so many elements pass a test.
abbrev pub passed_before : {A : Type 0} → (test : A → Bool) → List A → ℕ → ℕ
passed_before test [] k = 0
passed_before test (x ∷ xs) zero = 0
passed_before test (x ∷ xs) (suc k) = raised (test x) (passed_before test xs k)

-- The tape of a node that gives words.
abbrev pub tape_of : List NodeCode → (node : ℕ) → ℕ
tape_of codes node = passed_before gives_words codes node

-- The block of a crossing channel.
abbrev pub block_of : (bound : (stage : ℕ) → ℕ) → (last : ℕ) → List Channel → (number : ℕ) → ℕ
block_of bound last channels number = passed_before (crosses bound last) channels number

-- Blocks and tapes are as many as they are to be, and blocks have their rooms.
pub record IsShaped (rooms : List ℕ) (tapes : ℕ) (load : Load) : Type 0 where
  pub blocks : length load.blocks ≡ length rooms
  pub rooms_are : load.rooms ≡ rooms
  pub words : length load.words ≡ tapes

module _ (running : Running) (bound : (stage : ℕ) → ℕ) (last : ℕ) where
  abbrev pub IsLoadOf : Load → Type 0
  IsLoadOf load = IsShaped (rooms_of (crosses bound last) running running.graph.channels)
      (length (tape_nodes running.graph.nodes)) load

  -- What a load has before a stage: of each channel that began in an earlier stage and has not come
  -- to its end a round's items, for which its block has just the room; of all others none.
  pub record FitsBefore (stage : ℕ) (load : Load) : Type 0 where
    pub shaped : IsLoadOf load
    pub moving : (number : ℕ) (channel : Channel)
        → slice_get running.graph.channels number ≡ Some channel
        → stage_at bound last channel.source.node < stage
        → stage ≤ stage_at bound last channel.target.node
        → length (block_at load (block_of bound last running.graph.channels number))
        ≡ round_pushes running channel
    pub not_begun : (number : ℕ) (channel : Channel)
        → slice_get running.graph.channels number ≡ Some channel → crosses bound last channel ≡ true
        → stage ≤ stage_at bound last channel.source.node
        → block_at load (block_of bound last running.graph.channels number) ≡ []
    pub at_end : (number : ℕ) (channel : Channel)
        → slice_get running.graph.channels number ≡ Some channel → crosses bound last channel ≡ true
        → stage_at bound last channel.target.node < stage
        → block_at load (block_of bound last running.graph.channels number) ≡ []
