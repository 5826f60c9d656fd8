-- A worked row: a source that pushes two numbers and a writer, three rounds a batch, over a ring.
use Rattle.std.specs.Prelude.{◌≡◌, ℕ, pos, true, List, [], ◌∷◌, ◌++◌, get_or, None, Some}
use Rattle.circular_buffer.specs.Buffer.{buffer}
use Rattle.strc_parse_tree.specs.Tree as tree
use Rattle.strc_parse_tree.specs.declared.tree.ItemType.TheVariants as item
use Rattle.strc_parse_tree.specs.declared.tree.RateKind.TheVariants as kind
use Rattle.strc_work_meaning.specs.Filters as filters
use Rattle.strc_work_meaning.specs.declared.word.Word.{Word}
use Rattle.strc_elab_graph.specs.Graphs.{Filter, FileWriter}
use Rattle.strc_sched_laws.specs.Machine.{CircuitView, MachineView, Ended, rounds_run}
use Rattle.strc_batch_plans.specs.Batched.{Batching, EndsByBatches, order_of}
use Rattle.strc_batch_plans.specs.Plans.{size_across}

-- `void->int filter { work push 2 { push(1); push(2); } }`
abbrev pub source : filters.Filter
source = record {
  input = item.Void;
  output = item.Int;
  members = tree.Work (record { kind = kind.Push; rate = tree.Number (pos 2) } ∷ [])
      (tree.row (tree.Push (tree.Number (pos 1)) ∷ tree.Push (tree.Number (pos 2)) ∷ [])) ∷ [];
}

abbrev pub circuit : CircuitView
circuit = record {
  codes = Filter None source ∷ FileWriter [] ∷ [];
  inputs = [] ∷ (Some 0 ∷ []) ∷ [];
  outputs = (Some 0 ∷ []) ∷ [] ∷ [];
  input = [];
}

-- Before any firing, with a ring of this size.
abbrev pub machine : (size : ℕ) → MachineView
machine size = record {
  fields = [] ∷ [] ∷ [];
  fired = 0 ∷ 0 ∷ [];
  rings = buffer [] size ∷ [];
  words = [] ∷ [] ∷ [];
}

abbrev pub round : List ℕ
round = 0 ∷ 1 ∷ 1 ∷ []

-- A group for each node.
abbrev pub batch : Batching
batch = record {
  group_of = λ node. get_or (0 ∷ 1 ∷ []) node 0;
  segment = λ group. get_or ((0 ∷ []) ∷ (1 ∷ 1 ∷ []) ∷ []) group [];
  groups = 2;
  rounds = 3;
}

abbrev pub both : List Word
both = record { value = pos 1; ends_line = true } ∷ record { value = pos 2; ends_line = true } ∷ []

abbrev pub seven_rounds : List (List Word)
seven_rounds = [] ∷ (both ++ (both ++ (both ++ (both ++ (both ++ (both ++ both)))))) ∷ []

-- Seven rounds over a ring for the two items of a round; and one round and two batches of three
-- over one for six items: both print seven times two numbers.
pub record BatchMachineRow : Type 0 where
  pub size : size_across 3 2 2 ≡ 6
  pub order : order_of batch ≡ 0 ∷ 0 ∷ 0 ∷ 1 ∷ 1 ∷ 1 ∷ 1 ∷ 1 ∷ 1 ∷ []
  pub rounds : rounds_run circuit round 7 0 (machine 2) ≡ Ended seven_rounds
  pub batches : EndsByBatches circuit round (order_of batch) 1 2 (machine (size_across 3 2 2))
  pub words : batches.words ≡ seven_rounds
