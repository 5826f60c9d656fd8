-- A step over a window is one over the whole input.
use Rattle.std.proofs.Common.{◌≡◌, ◌≢◌, refl, sym, ap, ◌∙◌, ℕ, ◌+◌, ◌<◌}
use Rattle.std.proofs.Common.{ℤ, Bool, List, [], ◌++◌, length, take, drop, Option, Some, None}
use Rattle.std.proofs.Common.{slice_get, slice_index, slice_index_or, arith}
use Rattle.std.proofs.Common.{length-drop}
use Rattle.std.proofs.lemmas.Bool.{lt-ltb}
use Rattle.std.proofs.lemmas.List.{drop-drop, drop_at, drop-append-le, take-append-le}
use Rattle.strc_work_meaning.specs.declared.word.Word.{Word}
use Rattle.strc_elab_graph.specs.Graphs.{NodeCode, FileReader}
use Rattle.strc_sched_laws.specs.Machine.{CircuitView, MachineView, step_at, next_step}
use Rattle.strc_sched_laws.specs.Rings.{Ring, at_port, given}
use Rattle.strc_sched_laws.specs.Steps.{Goes, if_found, maybe_step}
use Rattle.strc_sched_laws.specs.Wiring.{ports_at}
use Rattle.strc_live_laws.specs.Windows.{window, IsReader, IsShifted}

-- an item of a piece of a list is one of the list
pub same_item : (before items after : List ℤ) (n : ℕ) → n < length items
    → take 1 (drop (length before + n) (before ++ (items ++ after))) ≡ take 1 (drop n items)
same_item before items after n less =
    ap (take 1) (sym (drop-drop n (length before) (before ++ (items ++ after)))
    ∙ ap (drop n) (drop_at before (items ++ after) (length before) refl)
    ∙ drop-append-le n items after (omega (arith, less)))
    ∙ take-append-le 1 (drop n items) after (omega (arith, less, length-drop n items))

module _ (circuit : CircuitView) (reader : ℕ) (is : IsReader circuit.codes reader) where
  abbrev outputs : List (Option ℕ)
  outputs = ports_at circuit.outputs reader

  -- the reader's firing, where there is an item of its number
  pub reader_goes : (input : List ℤ) (machine : MachineView) (n : ℕ)
      → slice_index machine.fired reader ≡ n → n < length input
      → next_step (window input circuit) machine reader
      ≡ Goes [] (given (at_port outputs 0) (take 1 (drop n input)) machine.rings) []
  reader_goes input machine n number less =
      ap (λ (firing : ℕ). step_at (window input circuit) machine reader firing) number
      ∙ ap (λ (found : Option NodeCode). maybe_step found n
      (slice_index_or machine.fields reader []) (ports_at circuit.inputs reader) outputs input
      machine.rings) is.there
      ∙ ap (λ (test : Bool). if_found test
      (Goes [] (given (at_port outputs 0) (take 1 (drop n input)) machine.rings) []))
      (lt-ltb n (length input) less)

  -- another node's firing looks at no input
  input_unused : (node : ℕ) → node ≢ reader → (found : Option NodeCode)
      → slice_get circuit.codes node ≡ found
      → (n : ℕ) (fields : List ℤ) (from to : List (Option ℕ)) (input other : List ℤ)
      (rings : List Ring)
      → maybe_step found n fields from to input rings
      ≡ maybe_step found n fields from to other rings
  input_unused node differs None there n fields from to input other rings = refl
  input_unused node differs (Some (FileReader text)) there n fields from to input other rings
      = absurd (differs (is.only node text there))
  input_unused node differs (Some code) there n fields from to input other rings = refl

  pub other_step : (shift : ℕ) (past : ℕ → List Word) (own whole : MachineView)
      (items input : List ℤ) → IsShifted reader shift past own whole
      → (node : ℕ) → node ≢ reader
      → next_step (window input circuit) whole node ≡ next_step (window items circuit) own node
  other_step shift past own whole items input shifted node differs =
      let code = slice_get circuit.codes node in
      let inputs = ports_at circuit.inputs node in
      let outputs = ports_at circuit.outputs node in
      let n = slice_index own.fired node in
      ap (λ (firing : ℕ). step_at (window input circuit) whole node firing)
      (shifted.fired node differs)
      ∙ ap (λ (fields : List (List ℤ)). maybe_step code n (slice_index_or fields node []) inputs
      outputs input whole.rings) (sym shifted.fields)
      ∙ ap (λ (rings : List Ring). maybe_step code n (slice_index_or own.fields node []) inputs
      outputs input rings) (sym shifted.rings)
      ∙ input_unused node differs code refl n (slice_index_or own.fields node []) inputs outputs
      input items own.rings
