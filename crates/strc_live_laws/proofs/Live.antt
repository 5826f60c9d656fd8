-- Live runs, round by round.
use Rattle.std.proofs.Common.{◌≡◌, refl, sym, ap, ◌∙◌, subst, ℕ, zero, suc, ◌+◌, ◌<◌, ◌^◌}
use Rattle.std.proofs.Common.{ℤ, List, [], ◌∷◌, ◌++◌, length, map, slice_index, arith}
use Rattle.std.proofs.Common.{length-append, append_assoc}
use Rattle.std.proofs.lemmas.List.{append-nil, get_or-set_same, get_or-set_other, length-set}
use Rattle.std.proofs.lemmas.List.{length-map}
use Rattle.strc_elab_dataflow.specs.Answer.{Outcome.Done, Outcome.RoundFault}
use Rattle.strc_work_meaning.specs.declared.fault.Cause.{Cause}
use Rattle.strc_work_meaning.specs.declared.word.Word.{Word}
use Rattle.strc_sched_orders.specs.Order.{firing_count, repeated}
use Rattle.strc_sched_laws.specs.Machine.{CircuitView, MachineView, Progress, Went, Stopped}
use Rattle.strc_sched_laws.specs.Machine.{then_go, order_run, after_round, rounds_run, words_at}
use Rattle.strc_sched_laws.specs.Machine.{Ended}
use Rattle.strc_sched_laws.specs.RingAnswer.{Tells}
use Rattle.strc_live_laws.specs.Windows.{window, IsReader, IsShifted, GoAlike}
use Rattle.strc_live_laws.specs.Live.{renewed, more_past, IsLive}
use Rattle.strc_live_laws.specs.Live.{LiveBegins, LiveGoesOn, LiveEnds, LiveFaults}
use Rattle.strc_live_laws.proofs.Windows.{windows_law}
use Rattle.strc_live_laws.proofs.Rounds.{order_append, repeated_last, rounds_law}

-- ---- renewal

no_words : (words : List (List Word)) (node : ℕ)
    → words_at (map (λ (own : List Word). []) words) node ≡ []
no_words [] node = refl
no_words (own ∷ words) zero = refl
no_words (own ∷ words) (suc node) = no_words words node

-- what was read and written since is in the past
renewed_shifted : (reader shift count total : ℕ) (past : ℕ → List Word) (own whole : MachineView)
    → IsShifted reader shift past own whole → slice_index own.fired reader ≡ count
    → total ≡ shift + count
    → IsShifted reader total (more_past past own) (renewed reader own) whole
renewed_shifted reader shift count total past own whole shifted number sum = record {
  fields = shifted.fields;
  rings = shifted.rings;
  each_fired = length-set own.fired reader 0 ∙ shifted.each_fired;
  reader_there = omega (arith, length-set own.fired reader 0, shifted.reader_there);
  reads =
      let anew = get_or-set_same own.fired reader 0 0 shifted.reader_there in
      omega (arith, shifted.reads, number, sum, anew);
  fired = λ node differs. shifted.fired node differs
      ∙ sym (get_or-set_other own.fired reader node 0 0 differs);
  each_words = length-map own.words (λ (words : List Word). []) ∙ shifted.each_words;
  words = λ node. shifted.words node ∙ sym (append-nil (more_past past own node))
      ∙ ap (λ (l : List Word). more_past past own node ++ l) (sym (no_words own.words node));
}

-- a machine is at its own place
pub same_place : (reader : ℕ) (machine : MachineView) → reader < length machine.fired
    → IsShifted reader 0 (λ node. []) machine machine
same_place reader machine within = record {
  fields = refl;
  rings = refl;
  each_fired = refl;
  reader_there = within;
  reads = omega arith;
  fired = λ node differs. refl;
  each_words = refl;
  words = λ node. refl;
}

pub begins_law : LiveBegins
begins_law circuit order reader first read within number = record {
  unread = get_or-set_same first.fired reader 0 0 within;
  unwritten = no_words first.words;
  whole = λ more. first;
  went = λ more. refl;
  alike = λ more. renewed_shifted reader 0 (length read) (length read) (λ node. []) first first
      (same_place reader first within) number (omega arith);
}

-- ---- a round

-- the other machine, where both went on
pub both_went : (reader shift : ℕ) (past : ℕ → List Word) (fired : ℕ) (own : MachineView)
    (progress : Progress) → GoAlike reader shift past fired (Went own) progress
    → (whole : MachineView) × (progress ≡ Went whole) × IsShifted reader shift past own whole
    × (slice_index own.fired reader ≡ fired)
both_went reader shift past fired own (Went whole) alike = (whole, refl, alike.0, alike.1)
both_went reader shift past fired own (Stopped node firing cause) alike = absurd alike

module _ (circuit : CircuitView) (order : List ℕ) (reader : ℕ) (first : MachineView) (done : ℕ)
    (read items : List ℤ) (past : ℕ → List Word) (own : MachineView)
    (is : IsReader circuit.codes reader) (few : length read + length items < 2 ^ 64)
    (just : length items ≡ firing_count order reader)
    (live : IsLive circuit order reader first done read past own) where
  abbrev over : List ℤ → CircuitView
  over more = window (read ++ (items ++ more)) circuit

  -- the round over its own items and that over any longer input
  pub round_alike : (more : List ℤ) → GoAlike reader (length read) past (length items)
      (order_run (window items circuit) order own)
      (order_run (over more) order (live.whole (items ++ more)))
  round_alike more =
      let reads : slice_index own.fired reader + firing_count order reader ≡ length items =
      omega (arith, live.unread, just) in
      subst (λ (n : ℕ). GoAlike reader (length read) past n
      (order_run (window items circuit) order own)
      (order_run (over more) order (live.whole (items ++ more)))) reads
      (windows_law circuit order reader read items more past own (live.whole (items ++ more)) is
      few (live.alike (items ++ more)) (omega (arith, reads)))

  module _ (next : MachineView) (went : order_run (window items circuit) order own ≡ Went next)
    where
      found : (more : List ℤ) → (whole : MachineView)
          × (order_run (over more) order (live.whole (items ++ more)) ≡ Went whole)
          × IsShifted reader (length read) past next whole
          × (slice_index next.fired reader ≡ length items)
      found more =
          both_went reader (length read) past (length items) next
          (order_run (over more) order (live.whole (items ++ more)))
          (subst (λ (progress : Progress). GoAlike reader (length read) past (length items)
          progress (order_run (over more) order (live.whole (items ++ more)))) went
          (round_alike more))

      went_on : (more : List ℤ)
          → order_run (window (read ++ items ++ more) circuit) (repeated (suc done) order) first
          ≡ Went (found more).0
      went_on more =
          ap (λ (input : List ℤ). order_run (window input circuit) (repeated (suc done) order)
          first) (append_assoc read items more)
          ∙ ap (λ (l : List ℕ). order_run (over more) l first) (repeated_last done order)
          ∙ order_append (over more) (repeated done order) order first
          ∙ ap (then_go (order_run (over more) order)) (live.went (items ++ more))
          ∙ (found more).1

      pub goes_on : IsLive circuit order reader first (suc done) (read ++ items)
          (more_past past next) (renewed reader next)
      goes_on = record {
        unread = get_or-set_same next.fired reader 0 0 (found []).2.reader_there;
        unwritten = no_words next.words;
        whole = λ more. (found more).0;
        went = went_on;
        alike = λ more. renewed_shifted reader (length read) (length items)
            (length (read ++ items)) past next (found more).0 (found more).2 (found more).3
            (length-append read items);
      }

pub goes_on_law : LiveGoesOn
goes_on_law circuit order reader first done read items past own next is few just live went =
    goes_on circuit order reader first done read items past own is few just live next went

-- ---- ends

-- each node's words of so many rounds are those that have been written
words_past : (circuit : CircuitView) (order : List ℕ) (reader : ℕ) (first : MachineView) (done : ℕ)
    (read : List ℤ) (past : ℕ → List Word) (own : MachineView)
    (live : IsLive circuit order reader first done read past own) (more : List ℤ) (node : ℕ)
    → words_at (live.whole more).words node ≡ past node
words_past circuit order reader first done read past own live more node =
    (live.alike more).words node ∙ ap (λ (l : List Word). past node ++ l) (live.unwritten node)
    ∙ append-nil (past node)

pub ends_law : LiveEnds
ends_law circuit order reader first done read more past own count live =
    let over = window (read ++ more) circuit in
    let all : done + 0 ≡ done = omega arith in
    let ended : rounds_run over order done 0 first ≡ Ended (live.whole more).words =
    ap (λ (n : ℕ). rounds_run over order n 0 first) (sym all)
    ∙ rounds_law over order done 0 0 first (live.whole more) (live.went more) in
    subst (Tells count (Done past)) (sym ended)
    (λ node less. words_past circuit order reader first done read past own live more node)

-- the other machine stopped, too
pub both_stopped : (reader shift : ℕ) (past : ℕ → List Word) (fired node firing : ℕ) (cause : Cause)
    (progress : Progress) → GoAlike reader shift past fired (Stopped node firing cause) progress
    → progress ≡ Stopped node firing cause
both_stopped reader shift past fired node firing cause (Stopped other number why) alike =
    let (a, b, c) = alike in cc
both_stopped reader shift past fired node firing cause (Went whole) alike = absurd alike

pub faults_law : LiveFaults
faults_law circuit order reader first done left read items more past own count node firing cause is
    few just live stopped =
    let over = window (read ++ (items ++ more)) circuit in
    let whole = live.whole (items ++ more) in
    let both : order_run over order whole ≡ Stopped node firing cause =
    both_stopped reader (length read) past (length items) node firing cause
    (order_run over order whole)
    (subst (λ (progress : Progress). GoAlike reader (length read) past (length items)
    progress (order_run over order whole)) stopped
    (round_alike circuit order reader first done read items past own is few just live more)) in
    let number : 0 + done ≡ done = omega arith in
    let ended = rounds_law over order done (suc left) 0 first whole (live.went (items ++ more))
    ∙ ap (after_round (0 + done) whole.words
    (rounds_run over order left (suc (0 + done)))) both in
    subst (Tells count
    (RoundFault done (record { node = node; firing = firing; cause = cause }) past)) (sym ended) (
      sym number,
      refl,
      λ other less. words_past circuit order reader first done read past own live (items ++ more)
          other,
    )
