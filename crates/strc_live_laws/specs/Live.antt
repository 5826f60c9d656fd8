-- Live runs: each round goes over just the items that it reads, as soon as they have come.
use Rattle.std.specs.Prelude.{◌≡◌, ℕ, suc, ◌+◌, ◌<◌, ◌^◌, ℤ, List, [], ◌++◌, length, map}
use Rattle.std.specs.Prelude.{slice_index, slice_set}
use Rattle.strc_elab_dataflow.specs.Answer.{Outcome.Done, Outcome.RoundFault}
use Rattle.strc_work_meaning.specs.declared.fault.Cause.{Cause}
use Rattle.strc_work_meaning.specs.declared.word.Word.{Word}
use Rattle.strc_sched_orders.specs.Order.{firing_count, repeated}
use Rattle.strc_sched_laws.specs.Machine.{CircuitView, MachineView, Went, Stopped, order_run}
use Rattle.strc_sched_laws.specs.Machine.{rounds_run, words_at}
use Rattle.strc_sched_laws.specs.RingAnswer.{Tells}
use Rattle.strc_live_laws.specs.Windows.{window, IsReader, IsShifted}

-- a machine of which the words are written and the items that were read are forgotten: the next
-- item is that of number 0
abbrev pub renewed : (reader : ℕ) → MachineView → MachineView
renewed reader machine = record {
  fields = machine.fields;
  fired = slice_set machine.fired reader 0;
  rings = machine.rings;
  words = map (λ (words : List Word). []) machine.words;
}

-- the words of each node that have been written, and then those of a machine
abbrev pub more_past : (past : ℕ → List Word) → MachineView → ℕ → List Word
more_past past machine node = past node ++ words_at machine.words node

-- A live run after so many rounds from a first machine, with the items that have been read and each
-- node's words that have been written: whatever items come next, so many rounds over all items come
-- to a machine at the same place.
pub record IsLive (circuit : CircuitView) (order : List ℕ) (reader : ℕ) (first : MachineView)
    (done : ℕ) (read : List ℤ) (past : ℕ → List Word) (own : MachineView) : Type 0 where
  pub unread : slice_index own.fired reader ≡ 0
  pub unwritten : (node : ℕ) → words_at own.words node ≡ []
  pub whole : (more : List ℤ) → MachineView
  pub went : (more : List ℤ)
      → order_run (window (read ++ more) circuit) (repeated done order) first ≡ Went (whole more)
  pub alike : (more : List ℤ) → IsShifted reader (length read) past own (whole more)

-- After start-up, over the items that it read, a live run has done no round.
abbrev pub LiveBegins : Type 0
LiveBegins =
    (circuit : CircuitView) (order : List ℕ) (reader : ℕ) (first : MachineView) (read : List ℤ)
    → reader < length first.fired → slice_index first.fired reader ≡ length read
    → IsLive circuit order reader first 0 read (words_at first.words) (renewed reader first)

-- A round over just the items that it reads makes it a live run of one round more.
abbrev pub LiveGoesOn : Type 0
LiveGoesOn =
    (circuit : CircuitView) (order : List ℕ) (reader : ℕ) (first : MachineView) (done : ℕ)
    (read items : List ℤ) (past : ℕ → List Word) (own next : MachineView)
    → IsReader circuit.codes reader
    → length read + length items < 2 ^ 64
    → length items ≡ firing_count order reader
    → IsLive circuit order reader first done read past own
    → order_run (window items circuit) order own ≡ Went next
    → IsLive circuit order reader first (suc done) (read ++ items) (more_past past next)
    (renewed reader next)

-- What has been written are the words of so many rounds, whatever items come next.
abbrev pub LiveEnds : Type 0
LiveEnds =
    (circuit : CircuitView) (order : List ℕ) (reader : ℕ) (first : MachineView) (done : ℕ)
    (read more : List ℤ) (past : ℕ → List Word) (own : MachineView) (count : ℕ)
    → IsLive circuit order reader first done read past own
    → Tells count (Done past) (rounds_run (window (read ++ more) circuit) order done 0 first)

-- A fault of the next round is that of all longer runs, with the words before it, whatever items
-- come next.
abbrev pub LiveFaults : Type 0
LiveFaults =
    (circuit : CircuitView) (order : List ℕ) (reader : ℕ) (first : MachineView) (done left : ℕ)
    (read items more : List ℤ) (past : ℕ → List Word) (own : MachineView) (count : ℕ)
    (node firing : ℕ) (cause : Cause)
    → IsReader circuit.codes reader
    → length read + length items < 2 ^ 64
    → length items ≡ firing_count order reader
    → IsLive circuit order reader first done read past own
    → order_run (window items circuit) order own ≡ Stopped node firing cause
    → Tells count
    (RoundFault done (record { node = node; firing = firing; cause = cause }) past)
    (rounds_run (window (read ++ (items ++ more)) circuit) order (done + suc left) 0 first)
