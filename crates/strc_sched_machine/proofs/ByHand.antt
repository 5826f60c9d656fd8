-- Steps that are done by hand, where that can be.
use Rattle.std.proofs.Common.{◌≡◌, sym, ap, ◌∙◌, subst, ℕ, ◌<◌, ℤ, Bool, true, false}
use Rattle.std.proofs.Common.{List, [], length, take, get_or, set, arith, Result, Ok, Err}
use Rattle.std.specs.Prelude.{Option, Some, None}
use Rattle.std.proofs.lemmas.List.{set-get_or, length-take-le}
use Rattle.strc_work_meaning.specs.declared.fault.Halt.{Halt}
use Rattle.strc_work_meaning.specs.declared.word.Word.{Word}
use Rattle.strc_sched_laws.specs.Machine.{CircuitView, MachineView, Progress, words_at}
use Rattle.strc_sched_laws.specs.Rings.{Ring, given, items_at, moved}
use Rattle.strc_sched_laws.specs.Steps.{Step}
use Rattle.strc_sched_rings.proofs.Ports.{length-given}
use Rattle.strc_sched_machine.specs.Batches.{IsBatch}
use Rattle.strc_sched_machine.specs.Blocks.{HasPassed}
use Rattle.strc_sched_machine.specs.Handing.{HasDoneByHand, HasSteppedByHand, IsAllAt, IsHeld}
use Rattle.strc_sched_machine.specs.Handing.{with_held}
use Rattle.strc_sched_machine.specs.Running.{HasGone, HaveMoreWords}
use Rattle.strc_sched_machine.specs.declared.batches.Batch.{Batch}
use Rattle.strc_sched_machine.specs.declared.batches.Kind.TheVariants as kinds
use Rattle.strc_sched_machine.specs.declared.forwarded_items.Held.{Held}
use Rattle.strc_sched_outcome.specs.declared.stop.Stop.{Stop}
use Rattle.strc_sched_outcome.specs.declared.stop.Stop.TheVariants as stop
use Rattle.strc_sched_machine.proofs.Batching.{known_kind, passed_between}
use Rattle.strc_sched_machine.proofs.Done.{done_by, same_view}
use Rattle.strc_sched_machine.proofs.Held.{all_found, handed_over}

-- a filter's step is a step of the machine
pub done_by_hand : (step : Step) (result : Result (Option Bool) Halt) (node : ℕ)
    (before after : MachineView) (fields : List ℤ) (words : List Word)
    → HasSteppedByHand step result (get_or before.fields node []) fields before.rings after.rings
    (words_at before.words node) words
    → after.fired ≡ before.fired → after.fields ≡ set before.fields node fields
    → after.words ≡ set before.words node words → node < length before.words
    → HasDoneByHand step node result before after
done_by_hand step (Ok None) node before after fields words h fired is all there =
    same_view before after
    (is ∙ ap (set before.fields node) h.0 ∙ set-get_or before.fields node []) fired h.1
    (all ∙ ap (set before.words node) h.2 ∙ set-get_or before.words node [])
done_by_hand step (Ok (Some found)) node before after fields words h fired is all there =
    done_by step (Ok found) node before after fields words h fired is all there
done_by_hand step (Err halt) node before after fields words h fired is all there =
    done_by step (Err halt) node before after fields words h fired is all there

-- what it speaks of may have other names
pub named_by_hand : (result : Result (Option Bool) Halt) (step same : Step)
    (old named new : List ℤ) (rings joined left after : List Ring) (words before more : List Word)
    → step ≡ same → old ≡ named → rings ≡ joined → left ≡ after → words ≡ before
    → HasSteppedByHand step result old new rings left words more
    → HasSteppedByHand same result named new joined after before more
named_by_hand result step same old named new rings joined left after words before more steps olds
    ringed lefts worded h =
    subst (λ s. HasSteppedByHand s result named new joined after before more) steps
    (subst (λ l. HasSteppedByHand step result l new joined after before more) olds
    (subst (λ r. HasSteppedByHand step result old new r after before more) ringed
    (subst (λ r. HasSteppedByHand step result old new rings r before more) lefts
    (subst (λ w. HasSteppedByHand step result old new rings left w more) worded h))))

-- an identity passes on what is in hand
pub identity_held : (circuit : CircuitView) (batch : Batch) (from to : ℕ) (rings : List Ring)
    (held : Held) (items : List ℤ) → IsBatch circuit batch
    → batch.kind ≡ kinds.Identity from to → IsHeld items rings held
    → IsAllAt batch.input rings held → held.count ≡ batch.turns
    → from < length rings → to < length rings
    → HasPassed circuit batch.node batch.turns true (with_held held items rings)
    (given (Some to) (take held.count items) rings)
identity_held circuit batch from to rings held items is same has all takes inner outer =
    let joined = with_held held items rings in
    let known = known_kind circuit batch (kinds.Identity from to) is same in
    let here : batch.input ≡ Some from = is.input ∙ known.1 in
    let each : length joined ≡ length rings =
    length-given held.port (take held.count items) rings in
    let found = ap length (ap (items_at joined) (sym here) ∙ all_found batch.input rings held items
    has all) in
    let many = length-take-le held.count items has.count in
    passed_between circuit batch from to joined (given (Some to) (take held.count items) rings) true
    is same (omega (arith, each, inner)) (omega (arith, each, outer))
    (λ _. (
      omega (arith, found, many, takes),
      sym (ap (λ (p : Option ℕ). moved p (Some to) batch.turns joined) (sym here)
          ∙ handed_over batch.input rings held items has all (Some to) batch.turns takes),
    ))
    (λ e. absurd (differ e))
  where
    differ : true ≡ false → ⊥
    differ e = cc

-- where a run stops, only the words are told
pub halted_so : (progress : Progress) (why : Stop) (before : List (List Word))
    (one other : MachineView) → one.words ≡ other.words → HasGone progress (Err why) before one
    → HasGone progress (Err why) before other
halted_so progress (stop.Fault node firing cause) before one other same h =
    (h.0, subst (HaveMoreWords before) same h.1)
halted_so progress stop.NoMemory before one other same h = tt
