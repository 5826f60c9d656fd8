-- A worked row: a reader, a filter that adds two items, and a writer, over seven numbers.
use Rattle.std.specs.Prelude.{◌≡◌, ℕ, zero, suc, ℤ, pos, List, [], ◌∷◌, Some, None, length}
use Rattle.std.specs.Prelude.{take, drop, nat_le, if◌then◌else◌}
use Rattle.circular_buffer.specs.Buffer.{buffer}
use Rattle.strc_parse_tree.specs.Tree as tree
use Rattle.strc_parse_tree.specs.declared.tree.ItemType.TheVariants as item
use Rattle.strc_parse_tree.specs.declared.tree.RateKind.{RateKind}
use Rattle.strc_parse_tree.specs.declared.tree.RateKind.TheVariants as kind
use Rattle.strc_parse_tree.specs.declared.tree.BinaryOperator.TheVariants as binary
use Rattle.strc_work_meaning.specs.Filters as filters
use Rattle.strc_work_meaning.specs.declared.word.Word.{Word}
use Rattle.strc_elab_graph.specs.Graphs.{Filter, FileReader, FileWriter}
use Rattle.strc_elab_graph.specs.Meaning.{line_of}
use Rattle.strc_sched_laws.specs.Machine.{CircuitView, MachineView, Progress, Went, Stopped}
use Rattle.strc_sched_laws.specs.Machine.{order_run, rounds_run, words_at, Ended}
use Rattle.strc_live_laws.specs.Live.{renewed, IsLive}
use Rattle.strc_live_laws.specs.Windows.{window}

abbrev rate_of : RateKind → ℤ → tree.Rate
rate_of kind rate = record { kind = kind; rate = tree.Number rate }

-- `int->int filter { work push 1 pop 2 { push(pop() + pop()); } }`
abbrev pub adding : filters.Filter
adding = record {
  input = item.Int;
  output = item.Int;
  members = tree.Work
      (rate_of kind.Push (pos 1) ∷ rate_of kind.Pop (pos 2) ∷ [])
      (tree.row (tree.Push (tree.Binary binary.Add tree.Pop tree.Pop) ∷ [])) ∷ [];
}

abbrev pub numbers : List ℤ
numbers = pos 1 ∷ pos 2 ∷ pos 3 ∷ pos 4 ∷ pos 5 ∷ pos 6 ∷ pos 7 ∷ []

abbrev pub circuit : CircuitView
circuit = record {
  codes = FileReader [] ∷ Filter None adding ∷ FileWriter [] ∷ [];
  inputs = [] ∷ (Some 0 ∷ []) ∷ (Some 1 ∷ []) ∷ [];
  outputs = (Some 0 ∷ []) ∷ (Some 1 ∷ []) ∷ [] ∷ [];
  input = numbers;
}

-- the reader fires twice, the others once
abbrev pub order : List ℕ
order = 0 ∷ 0 ∷ 1 ∷ 2 ∷ []

abbrev pub first : MachineView
first = record {
  fields = [] ∷ [] ∷ [] ∷ [];
  fired = 0 ∷ 0 ∷ 0 ∷ [];
  rings = buffer [] 2 ∷ buffer [] 1 ∷ [];
  words = [] ∷ [] ∷ [] ∷ [];
}

-- after the round of this number, the first one being that of number 1, which wrote a sum
abbrev pub left_by : (round : ℕ) → (sum : ℤ) → MachineView
left_by round sum = record {
  fields = [] ∷ [] ∷ [] ∷ [];
  fired = 2 ∷ round ∷ round ∷ [];
  rings = buffer [] 2 ∷ buffer [] 1 ∷ [];
  words = [] ∷ [] ∷ (line_of sum ∷ []) ∷ [];
}

-- where the run goes on after so many rounds
abbrev pub after_rounds : (rounds : ℕ) → MachineView
after_rounds rounds = record {
  fields = [] ∷ [] ∷ [] ∷ [];
  fired = 0 ∷ rounds ∷ rounds ∷ [];
  rings = buffer [] 2 ∷ buffer [] 1 ∷ [];
  words = [] ∷ [] ∷ [] ∷ [];
}

-- what the writer writes in a round, and then in later ones
abbrev pub written_after : (later : MachineView → List (List Word)) → Progress → List (List Word)
written_after later (Went machine) = words_at machine.words 2 ∷ later (renewed 0 machine)
written_after later (Stopped node firing cause) = []

-- what it writes in each of at most so many live rounds, as long as there are two items for one
unfoldable pub written_live : (rounds : ℕ) → (items : List ℤ) → MachineView → List (List Word)
written_live zero items machine = []
written_live (suc rounds) items machine =
    if nat_le 2 (length items)
    then written_after (written_live rounds (drop 2 items))
    (order_run (window (take 2 items) circuit) order machine)
    else []

-- the words that nodes have written after three rounds
abbrev pub sums : (node : ℕ) → List Word
sums node = words_at
    ([] ∷ [] ∷ (line_of (pos 3) ∷ line_of (pos 7) ∷ line_of (pos 11) ∷ []) ∷ []) node

-- Each round writes the sum of its two numbers, and no other; the seventh number waits for an
-- eighth. The machine after a round goes on from number 0 without words, and the words are those of
-- three rounds over all numbers.
pub record LiveRow : Type 0 where
  pub live : written_live 4 numbers first ≡ (line_of (pos 3) ∷ []) ∷ (line_of (pos 7) ∷ [])
      ∷ (line_of (pos 11) ∷ []) ∷ []
  pub next : order_run (window (pos 3 ∷ pos 4 ∷ []) circuit) order (after_rounds 1)
      ≡ Went (left_by 2 (pos 7))
  pub whole : rounds_run circuit order 3 0 first
      ≡ Ended ([] ∷ [] ∷ (line_of (pos 3) ∷ line_of (pos 7) ∷ line_of (pos 11) ∷ []) ∷ [])
  pub is_live : IsLive circuit order 0 first 3
      (pos 1 ∷ pos 2 ∷ pos 3 ∷ pos 4 ∷ pos 5 ∷ pos 6 ∷ []) sums (after_rounds 3)
