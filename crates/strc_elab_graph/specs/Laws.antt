-- What a run of a flat graph relies on, as laws about all graphs.
use Rattle.std.specs.Prelude.{◌≡◌, ℕ, ◌<◌, Bool, true, false, ℤ, List, [], map, sum}
use Rattle.std.specs.Prelude.{if◌then◌else◌}
use Rattle.strc_elab_dataflow.specs.Flat.{Graph}
use Rattle.strc_elab_dataflow.specs.Node.{ByPort, Fired.Fires}
use Rattle.strc_work_meaning.specs.declared.word.Word.{Word}
use Rattle.strc_elab_dataflow.specs.Answer.{whole_run}
use Rattle.strc_elab_dataflow.specs.RoundRobin.{IsRoundRobinSplitter, IsDuplicateSplitter}
use Rattle.strc_elab_dataflow.specs.RoundRobin.{IsRoundRobinJoiner}
use Rattle.strc_elab_graph.specs.Graphs.{NodeCode, Splitter, Joiner, Duplicate, Roundrobin}
use Rattle.strc_elab_graph.specs.Graphs.{reads_input}
use Rattle.strc_elab_graph.specs.Graphs.{gives_words}
use Rattle.strc_elab_graph.specs.Carriers.{carries_in}
use Rattle.strc_elab_graph.specs.Meaning.{node_fired, node_meaning}

-- Two graphs with the same nodes, and the same sources at the ports that carry items and where the
-- program's input is read, run alike: what is at a joiner's port of weight 0 makes no
-- difference.
abbrev pub OnlyCarriersMatter : Type 0
OnlyCarriersMatter =
    (a b : Graph NodeCode)
    → ((node : ℕ) → a.code node ≡ b.code node)
    → ((node port : ℕ) → carries_in (a.code node) port ≡ true
    → a.source node port ≡ b.source node port)
    → ((node : ℕ) → reads_input (a.code node) ≡ true → a.source node 0 ≡ b.source node 0)
    → (input : List ℤ) (startup_order round_order : List ℕ) (rounds : ℕ)
    → whole_run node_meaning a input round_order startup_order rounds
    ≡ whole_run node_meaning b input round_order startup_order rounds

-- the weight of a port of a duplicating splitter: one where it carries items
abbrev pub carried_weight : Bool → ℕ
carried_weight carries = if carries then 1 else 0

-- Splitters and joiners are those of the generic layer, whose runs over whole lists are formulas on
-- places.
abbrev pub NodesSplitAndJoin : Type 0
NodesSplitAndJoin =
    (weights : List ℕ) (carried : List Bool)
    → (0 < sum weights
    → IsRoundRobinSplitter node_meaning (Splitter (Roundrobin weights)) weights)
    × IsDuplicateSplitter node_meaning (Splitter (Duplicate carried)) (map carried_weight carried)
    × IsRoundRobinJoiner node_meaning (Joiner weights) weights

-- A firing of a node without a tape gives no words.
abbrev pub OnlyTapesGiveWords : Type 0
OnlyTapesGiveWords =
    (code : NodeCode) (firing : ℕ) (fields : List ℤ) (seen : ByPort) (next : List ℤ)
    (pushes : ByPort) (words : List Word) → gives_words code ≡ false
    → node_fired code firing fields seen ≡ Fires next pushes words → words ≡ []
