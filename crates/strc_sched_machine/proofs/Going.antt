-- An order that the machine goes through, piece by piece.
use Rattle.std.proofs.Common.{◌≡◌, refl, sym, ap, ◌∙◌, ℕ, zero, suc, ◌+◌, ◌-◌, ◌<◌, ◌≤◌, List, []}
use Rattle.std.proofs.Common.{◌∷◌, ◌++◌, length, drop, get_or, arith, append_assoc}
use Rattle.std.proofs.Common.{subst, Ok, Err}
use Rattle.strc_work_meaning.specs.declared.fault.Cause.{Cause}
use Rattle.strc_work_meaning.specs.declared.word.Word.{Word}
use Rattle.strc_sched_orders.specs.Order.{repeated}
use Rattle.strc_sched_laws.specs.Machine.{CircuitView, MachineView, Progress, Went, Stopped}
use Rattle.strc_sched_laws.specs.Machine.{then_go, order_run, after_step, next_step, step_at}
use Rattle.strc_sched_laws.specs.Machine.{words_at}
use Rattle.strc_sched_rings.specs.Words.{HasNextWord}
use Rattle.strc_sched_machine.specs.Memory.{WantsWordOfOrder, prints_at}
use Rattle.strc_sched_machine.specs.Running.{HasGone, HaveMoreWords}
use Rattle.strc_sched_machine.proofs.Done.{more_refl}
use Rattle.strc_sched_outcome.specs.declared.stop.Stop.{Stop}
use Rattle.strc_sched_outcome.specs.declared.stop.Stop.TheVariants as stop

pub more_then : (first second third : List (List Word)) → HaveMoreWords first second
    → HaveMoreWords second third → HaveMoreWords first third
more_then first second third h k node = record {
  more = (h node).more ++ (k node).more;
  is = (k node).is ∙ ap (λ l. l ++ (k node).more) (h node).is
      ∙ append_assoc (words_at first node) (h node).more (k node).more;
}

module _ (circuit : CircuitView) where
  then_append : (order more : List ℕ)
      → ((machine : MachineView) → order_run circuit (order ++ more) machine
      ≡ then_go (order_run circuit more) (order_run circuit order machine))
      → (progress : Progress)
      → then_go (order_run circuit (order ++ more)) progress
      ≡ then_go (order_run circuit more) (then_go (order_run circuit order) progress)
  then_append order more rest (Went next) = rest next
  then_append order more rest (Stopped node firing cause) = refl

  run_append : (order more : List ℕ) (machine : MachineView)
      → order_run circuit (order ++ more) machine
      ≡ then_go (order_run circuit more) (order_run circuit order machine)
  run_append [] more machine = refl
  run_append (node ∷ order) more machine = then_append order more (run_append order more)
      (after_step machine node (next_step circuit machine node))

  -- how far an order has come: what is left of it from now on is what is left of the whole
  pub record Goes (whole left : List ℕ) (before now : MachineView) : Type 0 where
    pub done : List ℕ
    pub parts : done ++ left ≡ whole
    pub went : order_run circuit done before ≡ Went now
    pub rest : order_run circuit whole before ≡ order_run circuit left now
    pub words : HaveMoreWords before.words now.words

  pub goes_on : (whole piece left : List ℕ) (before now next : MachineView)
      → Goes whole (piece ++ left) before now
      → order_run circuit piece now ≡ Went next → HaveMoreWords now.words next.words
      → Goes whole left before next
  goes_on whole piece left before now next h gone more = record {
    done = h.done ++ piece;
    parts = append_assoc h.done piece left ∙ h.parts;
    went = run_append h.done piece before ∙ ap (then_go (order_run circuit piece)) h.went ∙ gone;
    rest = h.rest ∙ run_append piece left now ∙ ap (then_go (order_run circuit left)) gone;
    words = more_then before.words now.words next.words h.words more;
  }

  pub stops : (whole piece left : List ℕ) (before now : MachineView) (node firing : ℕ)
      (cause : Cause) → Goes whole (piece ++ left) before now
      → order_run circuit piece now ≡ Stopped node firing cause
      → order_run circuit whole before ≡ Stopped node firing cause
  stops whole piece left before now node firing cause h gone =
      h.rest ∙ run_append piece left now ∙ ap (then_go (order_run circuit left)) gone

  -- one node alone
  pub one_node : (node : ℕ) (machine : MachineView) → order_run circuit (node ∷ []) machine
      ≡ after_step machine node (next_step circuit machine node)
  one_node node machine = by_progress (after_step machine node (next_step circuit machine node))
    where
      by_progress : (progress : Progress) → then_go (order_run circuit []) progress ≡ progress
      by_progress (Went next) = refl
      by_progress (Stopped node firing cause) = refl

-- what is left of turns
pub turns_left : (turns turn : ℕ) (nodes : List ℕ) → turn < turns
    → repeated (turns - turn) nodes ≡ nodes ++ repeated (turns - (turn + 1)) nodes
turns_left turns turn nodes less =
    let e : turns - turn ≡ suc (turns - (turn + 1)) = omega arith in
    ap (λ n. repeated n nodes) e

-- turns in two parts
pub repeated_parts : (first second : ℕ) (nodes : List ℕ)
    → repeated (first + second) nodes ≡ repeated first nodes ++ repeated second nodes
repeated_parts zero second nodes =
    ap (λ n. repeated n nodes) (let e : 0 + second ≡ second = omega arith in e)
repeated_parts (suc first) second nodes =
    ap (λ n. repeated n nodes)
    (let e : suc first + second ≡ suc (first + second) = omega arith in e)
    ∙ ap (λ l. nodes ++ l) (repeated_parts first second nodes)
    ∙ sym (append_assoc nodes (repeated first nodes) (repeated second nodes))

-- nothing is left at the end
pub none_left : {X : Type 0} (xs : List X) (place : ℕ) → length xs ≤ place → drop place xs ≡ []
none_left [] zero past = refl
none_left [] (suc place) past = refl
none_left (x ∷ xs) zero past = absurd (omega arith)
none_left (x ∷ xs) (suc place) past = none_left xs place (omega arith)

-- what is left may be named otherwise
pub goes_so : (circuit : CircuitView) (whole left other : List ℕ) (before now : MachineView)
    → left ≡ other → Goes circuit whole left before now → Goes circuit whole other before now
goes_so circuit whole left other before now same h =
    subst (λ l. Goes circuit whole l before now) same h

-- an answer to a piece that stops is one to the whole
pub stops_so : (circuit : CircuitView) (whole piece left : List ℕ)
    (before now after : MachineView) (why : Stop) → Goes circuit whole (piece ++ left) before now
    → HasGone (order_run circuit piece now) (Err why) now.words after
    → HasGone (order_run circuit whole before) (Err why) before.words after
stops_so circuit whole piece left before now after (stop.Fault node firing cause) h gone = (
  stops circuit whole piece left before now node firing cause h gone.0,
  more_then before.words now.words after.words h.words gone.1,
)
stops_so circuit whole piece left before now after stop.NoMemory h gone = tt

-- and at the end
pub ends_so : (circuit : CircuitView) (whole left : List ℕ) (before now : MachineView)
    → left ≡ [] → Goes circuit whole left before now
    → HasGone (order_run circuit whole before) (Ok tt) before.words now
ends_so circuit whole left before now none h =
    (h.rest ∙ ap (λ l. order_run circuit l now) none, h.words)

pub starts_so : (circuit : CircuitView) (whole left : List ℕ) (machine : MachineView)
    → left ≡ whole → Goes circuit whole left machine machine
starts_so circuit whole left machine same = record {
  done = [];
  parts = same;
  went = refl;
  rest = ap (λ l. order_run circuit l machine) (sym same);
  words = more_refl machine.words;
}

-- ---- where memory is wanted

-- an answer to a piece that wants a word is one to the whole
pub wants_so : (circuit : CircuitView) (whole piece left : List ℕ) (before now : MachineView)
    (why : Stop) → Goes circuit whole (piece ++ left) before now
    → WantsWordOfOrder circuit piece now (Err why) → WantsWordOfOrder circuit whole before (Err why)
wants_so circuit whole piece left before now (stop.Fault node firing cause) h wants = tt
wants_so circuit whole piece left before now stop.NoMemory h wants = record {
  done = h.done ++ wants.done;
  node = wants.node;
  rest = wants.rest ++ left;
  now = wants.now;
  is = append_assoc h.done wants.done (wants.node ∷ (wants.rest ++ left))
      ∙ ap (λ l. h.done ++ l) (sym (append_assoc wants.done (wants.node ∷ wants.rest) left))
      ∙ ap (λ l. h.done ++ (l ++ left)) wants.is
      ∙ h.parts;
  went = run_append circuit h.done wants.done before
      ∙ ap (then_go (order_run circuit wants.done)) h.went
      ∙ wants.went;
  next = wants.next;
}

-- a node's own firing
pub wants_once : (circuit : CircuitView) (node firing : ℕ) (before : MachineView)
    → firing ≡ get_or before.fired node 0
    → HasNextWord (prints_at circuit node firing) (step_at circuit before node firing)
    → WantsWordOfOrder circuit (node ∷ []) before (Err stop.NoMemory)
wants_once circuit node firing before is wants = record {
  done = [];
  node = node;
  rest = [];
  now = before;
  is = refl;
  went = refl;
  next = subst (λ n. HasNextWord (prints_at circuit node n) (step_at circuit before node n)) is
      wants;
}
