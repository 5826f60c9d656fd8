-- Batches of rounds (Sermulins, Thies, Rabbah and Amarasinghe 2005: execution scaling; Lee and
-- Messerschmitt 1987: blocking factors): the round's segments in their order, each so many times in
-- place of once.
use Rattle.std.specs.Prelude.{◌≡◌, ℕ, ◌*◌, ◌<◌, ℤ, List}
use Rattle.strc_elab_dataflow.specs.Node.{Meaning}
use Rattle.strc_elab_dataflow.specs.Flat.{Graph}
use Rattle.strc_elab_dataflow.specs.Order.{firing_count, counts_after, IsOrder}
use Rattle.strc_elab_dataflow.specs.Staging.{joined, repeated, IsStaged}

-- Each segment b times over.
abbrev pub batched : (b : ℕ) → (segment : ℕ → List ℕ) → ℕ → List ℕ
batched b segment a = repeated b (segment a)

-- The order of a batch of b rounds: the first segment b times over, then the second one, and so on.
abbrev pub batch_order : (b : ℕ) → (segment : ℕ → List ℕ) → (stages : ℕ) → List ℕ
batch_order b segment stages = joined (batched b segment) stages

-- The firings of a batch of b rounds.
abbrev pub batch_counts : (b : ℕ) → (round : ℕ → ℕ) → ℕ → ℕ
batch_counts b round node = b * round node

-- Where a round's order is valid b times in a row, so is the batch's once, whatever the rates: what
-- a segment takes in its round has been given by then, by earlier segments of more rounds. The
-- batch has the firings of b rounds, and the same stages.
abbrev pub BatchIsOrder : (Code State Cause Word : Type 0) → Type 0
BatchIsOrder Code State Cause Word =
    (meaning : Meaning Code State Cause Word) (graph : Graph Code) (input : List ℤ)
    (stage_of : ℕ → ℕ) (segment : ℕ → List ℕ) (stages : ℕ) (round_order : List ℕ)
    (counts round : ℕ → ℕ) (b : ℕ)
    → IsStaged graph stage_of segment stages round_order
    → ((node : ℕ) → firing_count round_order node ≡ round node)
    → ((t : ℕ) → t < b → IsOrder meaning graph input (counts_after counts round t) round_order)
    → IsOrder meaning graph input counts (batch_order b segment stages)
    × ((node : ℕ) → firing_count (batch_order b segment stages) node ≡ batch_counts b round node)
    × IsStaged graph stage_of (batched b segment) stages (batch_order b segment stages)
