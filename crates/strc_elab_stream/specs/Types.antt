-- What streams take and give (StreamIt specification 2.1, "Streams"): items or nothing, on each
-- side.
use Rattle.std.specs.Prelude.{◌≡◌, ℕ, Bool, true, false, nat_lt, List, [], ◌∷◌, map, Option, Some}
use Rattle.std.specs.Prelude.{None}
use Rattle.std.specs.List.{list_any}
use Rattle.strc_parse_tree.specs.declared.tree.ItemType.{ItemType}
use Rattle.strc_parse_tree.specs.declared.tree.ItemType.TheVariants as item
use Rattle.strc_elab_graph.specs.Graphs.{SplitterCode, Duplicate, Roundrobin, Joiner}
use Rattle.strc_elab_graph.specs.Carriers.{carries_in, splitter_carries}
use Rattle.strc_elab_stream.specs.Instances.{Stream, Streams, Filter, Identity, FileReader}
use Rattle.strc_elab_stream.specs.Instances.{FileWriter}
use Rattle.strc_elab_stream.specs.Instances.{Pipeline, SplitJoin, FeedbackLoop, Done, More}

-- a side with items, or without
abbrev pub side : Bool → ItemType
side true = item.Int
side false = item.Void

abbrev pub is_int : ItemType → Bool
is_int item.Int = true
is_int item.Void = false

-- the side at which a splitter or a joiner is, where there is one
abbrev pub side_at : {A : Type 0} → Option A → ItemType
side_at None = item.Void
side_at (Some node) = item.Int

abbrev mutual
  -- what a stream takes
  pub input_of : Stream → ItemType
  input_of (Filter name filter) = filter.input
  input_of Identity = item.Int
  input_of (FileReader text) = item.Void
  input_of (FileWriter text) = item.Int
  input_of (Pipeline children) = first_input children
  input_of (SplitJoin splitter children joiner) = side_at splitter
  input_of (FeedbackLoop joiner body splitter loop enqueued) = side (carries_in (Joiner joiner) 0)

  -- what the first of streams in a row takes
  pub first_input : Streams → ItemType
  first_input Done = item.Void
  first_input (More first rest) = input_of first

abbrev mutual
  -- what a stream gives
  pub output_of : Stream → ItemType
  output_of (Filter name filter) = filter.output
  output_of Identity = item.Int
  output_of (FileReader text) = item.Int
  output_of (FileWriter text) = item.Void
  output_of (Pipeline children) = last_output item.Void children
  output_of (SplitJoin splitter children joiner) = side_at joiner
  output_of (FeedbackLoop joiner body splitter loop enqueued) = side (splitter_carries splitter 0)

  -- what the last of streams in a row gives, after a stream that gives this
  pub last_output : ItemType → Streams → ItemType
  last_output given Done = given
  last_output given (More first rest) = last_output (output_of first) rest

-- there is a stream
abbrev pub HasFirst : Streams → Type 0
HasFirst Done = ⊥
HasFirst (More first rest) = Unit {0}

-- the first of these streams, where there is one, takes what is given
abbrev pub IsTaken : ItemType → Streams → Type 0
IsTaken given Done = Unit {0}
IsTaken given (More first rest) = input_of first ≡ given

-- what streams side by side take, and what they give
abbrev pub inputs_of : Streams → List ItemType
inputs_of Done = []
inputs_of (More first rest) = input_of first ∷ inputs_of rest

abbrev pub outputs_of : Streams → List ItemType
outputs_of Done = []
outputs_of (More first rest) = output_of first ∷ outputs_of rest

-- which ports of a splitter carry items
abbrev pub splitter_carried : SplitterCode → List Bool
splitter_carried (Duplicate carried) = carried
splitter_carried (Roundrobin weights) = map (nat_lt 0) weights

-- which ports of a joiner do
abbrev pub joiner_carried : List ℕ → List Bool
joiner_carried weights = map (nat_lt 0) weights

-- ports that carry items meet streams that have items on that side, of which there is one
pub record Meets (carried : List Bool) (sides : List ItemType) : Type 0 where
  pub meets : carried ≡ map is_int sides
  pub some : list_any is_int sides ≡ true

-- a splitter's ports meet what the streams after it take; without a splitter they take nothing
abbrev pub IsSplit : Option SplitterCode → List ItemType → Type 0
IsSplit None sides = list_any is_int sides ≡ false
IsSplit (Some splitter) sides = Meets (splitter_carried splitter) sides

-- a joiner's ports meet what the streams before it give
abbrev pub IsJoined : Option (List ℕ) → List ItemType → Type 0
IsJoined None sides = list_any is_int sides ≡ false
IsJoined (Some weights) sides = Meets (joiner_carried weights) sides

-- two ports, of which the second carries items
pub record ComesBack (carried : List Bool) : Type 0 where
  pub outer : Bool
  pub ports : carried ≡ outer ∷ true ∷ []

-- a stream takes items and gives items
abbrev pub PassesItems : Stream → Type 0
PassesItems stream = (input_of stream ≡ item.Int) × (output_of stream ≡ item.Int)

abbrev mutual
  -- a pipeline has a child, and each of its children takes what the one before it gives; the ports
  -- of splitters and joiners carry items where the streams at them have some; body and loop of a
  -- feedback loop take and give items
  pub IsWellTyped : Stream → Type 0
  IsWellTyped (Filter name filter) = Unit {0}
  IsWellTyped Identity = Unit {0}
  IsWellTyped (FileReader text) = Unit {0}
  IsWellTyped (FileWriter text) = Unit {0}
  IsWellTyped (Pipeline children) = HasFirst children × AreWellTyped children
  IsWellTyped (SplitJoin splitter children joiner) = HasFirst children × AreEach children
      × IsSplit splitter (inputs_of children) × IsJoined joiner (outputs_of children)
  IsWellTyped (FeedbackLoop joiner body splitter loop enqueued) =
      ComesBack (joiner_carried joiner) × ComesBack (splitter_carried splitter)
      × PassesItems body × IsWellTyped body × PassesItems loop × IsWellTyped loop

  -- streams in a row
  pub AreWellTyped : Streams → Type 0
  AreWellTyped Done = Unit {0}
  AreWellTyped (More first rest) = IsWellTyped first × IsTaken (output_of first) rest
      × AreWellTyped rest

  -- streams side by side
  pub AreEach : Streams → Type 0
  AreEach Done = Unit {0}
  AreEach (More first rest) = IsWellTyped first × AreEach rest

-- a whole program: a well-typed stream that takes and gives nothing
pub record IsClosed (stream : Stream) : Type 0 where
  pub typed : IsWellTyped stream
  pub input : input_of stream ≡ item.Void
  pub output : output_of stream ≡ item.Void
