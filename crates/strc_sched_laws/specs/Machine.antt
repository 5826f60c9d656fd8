-- The machine that fires a graph's nodes over rings.
use Rattle.std.specs.Prelude.{ℕ, zero, suc, ◌-◌, ◌^◌, ℤ, List, [], ◌∷◌, ◌++◌}
use Rattle.std.specs.Prelude.{slice_get, slice_set, slice_index, slice_index_or, nat_lt}
use Rattle.std.specs.Prelude.{if◌then◌else◌}
use Rattle.strc_work_meaning.specs.declared.fault.Cause.{Cause}
use Rattle.strc_work_meaning.specs.declared.word.Word.{Word}
use Rattle.strc_elab_graph.specs.Graphs.{NodeCode}
use Rattle.strc_sched_laws.specs.Rings.{Ring}
use Rattle.strc_sched_laws.specs.Steps.{Step, Stays, Goes, Faults, maybe_step}
use Rattle.strc_sched_laws.specs.Wiring.{PortRings, ports_at}

-- what stays the same in a run: the nodes, for each of them the rings at its ports, and the
-- program's input
pub record CircuitView : Type 0 where
  pub codes : List NodeCode
  pub inputs : PortRings
  pub outputs : PortRings
  pub input : List ℤ

-- what a run has come to: of each node the fields' values, how often it has fired and the words
-- that it gave, and of each channel its ring
pub record MachineView : Type 0 where
  pub fields : List (List ℤ)
  pub fired : List ℕ
  pub rings : List Ring
  pub words : List (List Word)

-- the words of a node
abbrev pub words_at : List (List Word) → (node : ℕ) → List Word
words_at words node = slice_index_or words node []

-- the words of all nodes, where one gives more
abbrev pub more_words : List (List Word) → (node : ℕ) → List Word → List (List Word)
more_words words node more = slice_set words node (words_at words node ++ more)

-- a firing of a node, by its number
abbrev pub step_at : CircuitView → MachineView → (node firing : ℕ) → Step
step_at circuit machine node firing =
    maybe_step (slice_get circuit.codes node) firing (slice_index_or machine.fields node [])
    (ports_at circuit.inputs node) (ports_at circuit.outputs node) circuit.input machine.rings

-- the next one
abbrev pub next_step : CircuitView → MachineView → (node : ℕ) → Step
next_step circuit machine node = step_at circuit machine node (slice_index machine.fired node)

-- firings are numbered within 64 bits
abbrev pub one_more : ℕ → ℕ
one_more firing = if nat_lt firing (2 ^ 64 - 1) then suc firing else firing

-- what firing nodes came to: all fired, or one faulted
pub data Progress : Type 0 where
  Went : MachineView → Progress
  Stopped : (node firing : ℕ) → Cause → Progress

abbrev pub after_step : MachineView → (node : ℕ) → Step → Progress
after_step machine node Stays = Went machine
after_step machine node (Goes fields rings words) =
    Went (record {
      fields = slice_set machine.fields node fields;
      fired = slice_set machine.fired node (one_more (slice_index machine.fired node));
      rings = rings;
      words = more_words machine.words node words;
    })
after_step machine node (Faults cause) = Stopped node (slice_index machine.fired node) cause

abbrev pub then_go : (MachineView → Progress) → Progress → Progress
then_go later (Went machine) = later machine
then_go later (Stopped node firing cause) = Stopped node firing cause

-- the nodes of an order fire, one after another, until one faults
abbrev pub order_run : CircuitView → (order : List ℕ) → MachineView → Progress
order_run circuit [] machine = Went machine
order_run circuit (node ∷ order) machine =
    then_go (order_run circuit order) (after_step machine node (next_step circuit machine node))

-- how a run ends
pub data Ending : Type 0 where
  Ended : (words : List (List Word)) → Ending
  FaultedAtFirst : (node firing : ℕ) → Cause → Ending
  FaultedIn : (round node firing : ℕ) → Cause → (words : List (List Word)) → Ending

abbrev pub after_round : (round : ℕ) → (words : List (List Word)) → (MachineView → Ending)
    → Progress → Ending
after_round round words later (Went machine) = later machine
after_round round words later (Stopped node firing cause) = FaultedIn round node firing cause words

-- so many rounds, from one on
abbrev pub rounds_run : CircuitView → (order : List ℕ) → (left round : ℕ) → MachineView → Ending
rounds_run circuit order zero round machine = Ended machine.words
rounds_run circuit order (suc left) round machine =
    after_round round machine.words (rounds_run circuit order left (suc round))
    (order_run circuit order machine)

abbrev pub after_startup : (MachineView → Ending) → Progress → Ending
after_startup later (Went machine) = later machine
after_startup later (Stopped node firing cause) = FaultedAtFirst node firing cause

-- start-up and so many rounds
abbrev pub whole_run : CircuitView → (startup round : List ℕ) → (rounds : ℕ) → MachineView → Ending
whole_run circuit startup round rounds machine =
    after_startup (rounds_run circuit round rounds 0) (order_run circuit startup machine)
