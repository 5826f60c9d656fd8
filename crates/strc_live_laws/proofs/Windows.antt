-- An order over a window goes as over the whole input, firing by firing.
use Rattle.std.proofs.Common.{◌≡◌, ◌≢◌, refl, sym, ap, ◌∙◌, subst, ℕ, suc, ◌+◌, ◌-◌, ◌<◌, ◌≤◌, ◌^◌}
use Rattle.std.proofs.Common.{ℤ, Bool, List, [], ◌∷◌, ◌++◌, length, take, drop, inl, inr}
use Rattle.std.proofs.Common.{slice_index, arith, length-append, append_assoc}
use Rattle.std.specs.Prelude.{slice_set, if◌then◌else◌}
use Rattle.std.proofs.lemmas.Bool.{cases_eq, cases_lt, lt-ltb}
use Rattle.std.proofs.lemmas.List.{get_or-set_same, get_or-set_other, length-set, set_past}
use Rattle.std.proofs.lemmas.List.{get_or_past}
use Rattle.strc_work_meaning.specs.declared.word.Word.{Word}
use Rattle.strc_sched_orders.specs.Order.{firing_count}
use Rattle.strc_sched_orders.proofs.FiringCounts.{turns_same, turns_other}
use Rattle.strc_sched_laws.specs.Machine.{CircuitView, MachineView, Progress, Went, Stopped}
use Rattle.strc_sched_laws.specs.Machine.{next_step, after_step, then_go, order_run, one_more}
use Rattle.strc_sched_laws.specs.Machine.{words_at, more_words}
use Rattle.strc_sched_laws.specs.Rings.{Ring, at_port, given}
use Rattle.strc_sched_laws.specs.Steps.{Step, Stays, Goes, Faults}
use Rattle.strc_sched_laws.specs.Wiring.{ports_at}
use Rattle.strc_sched_laws.proofs.Advancing.{next_machine}
use Rattle.strc_live_laws.specs.Windows.{window, IsReader, IsShifted, GoAlike, WindowsGoAlike}
use Rattle.strc_live_laws.proofs.Steps.{same_item, reader_goes, other_step}

-- ---- lists after a change at one place

one_more_is : (n : ℕ) → n < 2 ^ 64 - 1 → one_more n ≡ suc n
one_more_is n less =
    ap (λ (test : Bool). if test then suc n else n) (lt-ltb n (2 ^ 64 - 1) less)

set_alike : (own whole : List ℕ) (node value : ℕ) → length own ≡ length whole
    → slice_index (slice_set whole node value) node ≡ slice_index (slice_set own node value) node
set_alike own whole node value each = elim (cases_lt node (length own)) [
  | inl less ↦
      get_or-set_same whole node value 0 (omega (arith, less, each))
      ∙ sym (get_or-set_same own node value 0 less)
  | inr past ↦
      ap (λ (l : List ℕ). slice_index l node)
      (set_past whole node value (omega (arith, past, each)))
      ∙ get_or_past whole node 0 (omega (arith, past, each))
      ∙ sym (ap (λ (l : List ℕ). slice_index l node) (set_past own node value past)
      ∙ get_or_past own node 0 past)
]

module _ (own whole : List (List Word)) (each : length own ≡ length whole) (past : ℕ → List Word)
    (are : (node : ℕ) → words_at whole node ≡ past node ++ words_at own node) (node : ℕ)
    (more : List Word) where
  words_here : words_at (more_words whole node more) node
      ≡ past node ++ words_at (more_words own node more) node
  words_here = elim (cases_lt node (length own)) [
    | inl less ↦
        get_or-set_same whole node (words_at whole node ++ more) [] (omega (arith, less, each))
        ∙ ap (λ (l : List Word). l ++ more) (are node)
        ∙ append_assoc (past node) (words_at own node) more
        ∙ sym (ap (λ (l : List Word). past node ++ l)
        (get_or-set_same own node (words_at own node ++ more) [] less))
    | inr past_end ↦
        ap (λ (l : List (List Word)). words_at l node)
        (set_past whole node (words_at whole node ++ more) (omega (arith, past_end, each)))
        ∙ are node
        ∙ sym (ap (λ (l : List (List Word)). past node ++ words_at l node)
        (set_past own node (words_at own node ++ more) past_end))
  ]

  words_on : (other : ℕ) → words_at (more_words whole node more) other
      ≡ past other ++ words_at (more_words own node more) other
  words_on other = elim (cases_eq other node) [
    | inl same ↦
        subst (λ (place : ℕ). words_at (more_words whole node more) place
        ≡ past place ++ words_at (more_words own node more) place) (sym same) words_here
    | inr differs ↦
        get_or-set_other whole node other (words_at whole node ++ more) [] differs
        ∙ are other
        ∙ sym (ap (λ (l : List Word). past other ++ l)
        (get_or-set_other own node other (words_at own node ++ more) [] differs))
  ]

-- ---- a firing

module _ (reader shift : ℕ) (past : ℕ → List Word) (own whole : MachineView)
    (shifted : IsShifted reader shift past own whole) (node : ℕ) where
  -- other nodes than the reader are at the same firing
  fired_on : (other : ℕ) → other ≢ reader
      → slice_index (slice_set whole.fired node (one_more (slice_index whole.fired node))) other
      ≡ slice_index (slice_set own.fired node (one_more (slice_index own.fired node))) other
  fired_on other apart = elim (cases_eq other node) [
    | inl same ↦
        let number = shifted.fired node (λ e. apart (same ∙ e)) in
        ap (λ (n : ℕ). slice_index (slice_set whole.fired node (one_more n)) other) number
        ∙ subst (λ (place : ℕ).
        slice_index (slice_set whole.fired node (one_more (slice_index own.fired node))) place
        ≡ slice_index (slice_set own.fired node (one_more (slice_index own.fired node))) place)
        (sym same)
        (set_alike own.fired whole.fired node (one_more (slice_index own.fired node))
        shifted.each_fired)
    | inr differs ↦
        get_or-set_other whole.fired node other (one_more (slice_index whole.fired node)) 0 differs
        ∙ shifted.fired other apart
        ∙ sym (get_or-set_other own.fired node other (one_more (slice_index own.fired node)) 0
        differs)
  ]

  shifted_on : (fields : List ℤ) (rings : List Ring) (words : List Word)
      → slice_index (next_machine whole node fields rings words).fired reader
      ≡ shift + slice_index (next_machine own node fields rings words).fired reader
      → IsShifted reader shift past (next_machine own node fields rings words)
      (next_machine whole node fields rings words)
  shifted_on fields rings words reads = record {
    fields = ap (λ (l : List (List ℤ)). slice_set l node fields) shifted.fields;
    rings = refl;
    each_fired = length-set own.fired node (one_more (slice_index own.fired node))
        ∙ shifted.each_fired
        ∙ sym (length-set whole.fired node (one_more (slice_index whole.fired node)));
    reader_there = omega (
      arith,
      length-set own.fired node (one_more (slice_index own.fired node)),
      shifted.reader_there,
    );
    reads = reads;
    fired = fired_on;
    each_words = length-set own.words node (words_at own.words node ++ words)
        ∙ shifted.each_words
        ∙ sym (length-set whole.words node (words_at whole.words node ++ words));
    words = words_on own.words whole.words shifted.each_words past shifted.words node words;
  }

  -- another node than the reader
  other_alike : node ≢ reader → (step : Step)
      → GoAlike reader shift past (slice_index own.fired reader) (after_step own node step)
      (after_step whole node step)
  other_alike differs Stays = (shifted, refl)
  other_alike differs (Goes fields rings words) =
      let own_reads = get_or-set_other own.fired node reader
      (one_more (slice_index own.fired node)) 0 (λ e. differs (sym e)) in (
        shifted_on fields rings words
            (get_or-set_other whole.fired node reader (one_more (slice_index whole.fired node)) 0
            (λ e. differs (sym e))
            ∙ shifted.reads ∙ sym (ap (λ (n : ℕ). shift + n) own_reads)),
        own_reads,
      )
  other_alike differs (Faults cause) = (refl, shifted.fired node differs, refl)

-- the reader
reader_alike : (reader shift : ℕ) (past : ℕ → List Word) (own whole : MachineView)
    → IsShifted reader shift past own whole → (n : ℕ) → slice_index own.fired reader ≡ n
    → shift + n < 2 ^ 64 - 1 → (rings : List Ring)
    → GoAlike reader shift past (suc n) (after_step own reader (Goes [] rings []))
    (after_step whole reader (Goes [] rings []))
reader_alike reader shift past own whole shifted n number few rings =
    let own_reads : slice_index (next_machine own reader [] rings []).fired reader ≡ suc n =
    get_or-set_same own.fired reader (one_more (slice_index own.fired reader)) 0
    shifted.reader_there
    ∙ ap one_more number ∙ one_more_is n (omega (arith, few)) in
    let at : slice_index whole.fired reader ≡ shift + n =
    shifted.reads ∙ ap (λ (m : ℕ). shift + m) number in
    let step : suc (shift + n) ≡ shift + suc n = omega arith in (
      shifted_on reader shift past own whole shifted reader [] rings []
          (get_or-set_same whole.fired reader (one_more (slice_index whole.fired reader)) 0
          (omega (arith, shifted.reader_there, shifted.each_fired))
          ∙ ap one_more at ∙ one_more_is (shift + n) few ∙ step
          ∙ sym (ap (λ (m : ℕ). shift + m) own_reads)),
      own_reads,
    )

-- ---- an order

module _ (circuit : CircuitView) (reader : ℕ) (is : IsReader circuit.codes reader)
    (before items after : List ℤ) (few : length before + length items < 2 ^ 64)
    (past : ℕ → List Word) where
  abbrev piece : CircuitView
  piece = window items circuit

  abbrev all : CircuitView
  all = window (before ++ (items ++ after)) circuit

  abbrev shift : ℕ
  shift = length before

  abbrev Alike : ℕ → Progress → Progress → Type 0
  Alike = GoAlike reader shift past

  step_alike : (own whole : MachineView) → IsShifted reader shift past own whole
      → (n : ℕ) → slice_index own.fired reader ≡ n → n < length items
      → Alike (suc n) (after_step own reader (next_step piece own reader))
      (after_step whole reader (next_step all whole reader))
  step_alike own whole shifted n number less =
      let port = at_port (ports_at circuit.outputs reader) 0 in
      let own_goes = reader_goes circuit reader is items own n number less in
      let whole_goes : next_step all whole reader
      ≡ Goes [] (given port (take 1 (drop n items)) own.rings) [] =
      reader_goes circuit reader is (before ++ (items ++ after)) whole (shift + n)
      (shifted.reads ∙ ap (λ (m : ℕ). shift + m) number)
      (omega (arith, less, length-append before (items ++ after), length-append items after))
      ∙ ap (λ (l : List ℤ). Goes [] (given port l whole.rings) [])
      (same_item before items after n less)
      ∙ ap (λ (rings : List Ring). Goes [] (given port (take 1 (drop n items)) rings) [])
      (sym shifted.rings) in
      subst (λ (step : Step). Alike (suc n) (after_step own reader step)
      (after_step whole reader (next_step all whole reader))) (sym own_goes)
      (subst (λ (step : Step). Alike (suc n)
      (after_step own reader (Goes [] (given port (take 1 (drop n items)) own.rings) []))
      (after_step whole reader step)) (sym whole_goes)
      (reader_alike reader shift past own whole shifted n number (omega (arith, few, less))
      (given port (take 1 (drop n items)) own.rings)))

  then_alike : (order : List ℕ) (n total : ℕ) (own whole : Progress) → Alike n own whole
      → ((one other : MachineView) → IsShifted reader shift past one other
      → slice_index one.fired reader ≡ n
      → Alike total (order_run piece order one) (order_run all order other))
      → Alike total (then_go (order_run piece order) own) (then_go (order_run all order) whole)
  then_alike order n total (Went own) (Went whole) alike later = later own whole alike.0 alike.1
  then_alike order n total (Stopped node firing cause) (Stopped other number why) alike later =
      alike
  then_alike order n total (Went own) (Stopped other number why) alike later = absurd alike
  then_alike order n total (Stopped node firing cause) (Went whole) alike later = absurd alike

  order_alike : (order : List ℕ) (own whole : MachineView) → IsShifted reader shift past own whole
      → (n : ℕ) → slice_index own.fired reader ≡ n
      → n + firing_count order reader ≤ length items
      → Alike (n + firing_count order reader) (order_run piece order own)
      (order_run all order whole)
  order_alike [] own whole shifted n number enough =
      let none : n ≡ n + 0 = omega arith in (shifted, number ∙ none)
  order_alike (node ∷ order) own whole shifted n number enough =
      elim (cases_eq node reader) [
        | inl same ↦
            let once = turns_same 1 node reader (sym same) in
            let total : suc n + firing_count order reader
            ≡ n + firing_count (node ∷ order) reader = omega (arith, once) in
            subst (λ (m : ℕ). Alike m (order_run piece (node ∷ order) own)
            (order_run all (node ∷ order) whole)) total
            (then_alike order (suc n) (suc n + firing_count order reader)
            (after_step own node (next_step piece own node))
            (after_step whole node (next_step all whole node))
            (subst (λ (place : ℕ). Alike (suc n)
            (after_step own place (next_step piece own place))
            (after_step whole place (next_step all whole place))) (sym same)
            (step_alike own whole shifted n number (omega (arith, enough, once))))
            (λ one other next at. order_alike order one other next (suc n) at
            (omega (arith, enough, once))))
        | inr differs ↦
            let never = turns_other 1 node reader (λ e. differs (sym e)) in
            let total : n + firing_count order reader
            ≡ n + firing_count (node ∷ order) reader = omega (arith, never) in
            let step = next_step piece own node in
            subst (λ (m : ℕ). Alike m (order_run piece (node ∷ order) own)
            (order_run all (node ∷ order) whole)) total
            (then_alike order n (n + firing_count order reader) (after_step own node step)
            (after_step whole node (next_step all whole node))
            (subst (λ (s : Step). Alike n (after_step own node step) (after_step whole node s))
            (sym (other_step circuit reader is shift past own whole items
            (before ++ (items ++ after)) shifted node differs))
            (subst (λ (m : ℕ). Alike m (after_step own node step) (after_step whole node step))
            number
            (other_alike reader shift past own whole shifted node differs step)))
            (λ one other next at. order_alike order one other next n at
            (omega (arith, enough, never))))
      ]

pub windows_law : WindowsGoAlike
windows_law circuit order reader before items after past own whole is few shifted enough =
    order_alike circuit reader is before items after few past order own whole shifted
    (slice_index own.fired reader) refl enough
