-- A stateless node keeps the state that it starts with, and writes nothing.
use Rattle.std.proofs.Common.{◌≡◌, refl, sym, ap, ◌∙◌, subst, ℕ}
use Rattle.std.proofs.Common.{Bool, true, false, eqb, List, [], ◌∷◌, ◌++◌, length, take, arith}
use Rattle.std.proofs.Common.{eqb-true}
use Rattle.std.proofs.lemmas.List.{length-take-le}
use Rattle.strc_elab_dataflow.specs.Node.{ByPort, Fired, Fired.Fires, Fired.Faults, Meaning}
use Rattle.strc_elab_dataflow.specs.Node.{at_port_0}
use Rattle.strc_elab_dataflow.specs.Histories.{Run}
use Rattle.strc_elab_dataflow.specs.Flat.{Graph}
use Rattle.strc_elab_dataflow.specs.Queues.{Fifo, FifoProgress, FifoProgress.FifoWent, holds}
use Rattle.strc_elab_dataflow.specs.Queues.{fifo_go}
use Rattle.strc_elab_dataflow.specs.Queues.{FifoProgress.FifoStopped, fifo_after, fifo_if}
use Rattle.strc_elab_dataflow.specs.Queues.{fifo_fire}
use Rattle.strc_elab_dataflow.specs.Queues.{fifo_then}
use Rattle.strc_elab_dataflow.specs.Split.{Share, IsStateless}
use Rattle.strc_elab_dataflow.proofs.Diamond.{IsReadyNow, outcome, next_of, fires, window_here}
use Rattle.strc_elab_dataflow.proofs.RoundsSteps.{one_front, next, run_other, state_here}
use Rattle.strc_elab_dataflow.proofs.RoundsSteps.{words_here}

module _ {Code State Cause Word : Type 0} (meaning : Meaning Code State Cause Word)
    (graph : Graph Code) (share : Share) (v : ℕ)
    (filter : IsStateless meaning share (graph.code v)) where
  abbrev Here : Type 0
  Here = Fifo State Cause Word

  record IsStill (now : Here) : Type 0 where
    state : (now.runs v).state ≡ meaning.start (graph.code v)
    silent : (now.runs v).words ≡ []

  -- Its own firing.
  own_still : (now : Here) → IsStill now → IsReadyNow meaning graph now v → (s : State)
      (p : ByPort) (w : List Word) → outcome meaning graph now v ≡ Fires s p w
      → IsStill (next meaning graph now v s p w)
  unfolding outcome at_port_0
  own_still now still ready s p w e =
      let seen = take share.window (now.queues v 0) in
      let long : length seen ≡ share.window = length-take-le share.window (now.queues v 0) (omega (
        arith,
        window_here meaning graph now v ready 0 (omega (arith, filter.one_port)),
        filter.windows (now.runs v).fired,
      )) in
      let fires_so = ap (meaning.fire (graph.code v) (now.runs v).fired (now.runs v).state)
      (sym (one_front meaning graph now v filter.one_port share.window
      (filter.windows (now.runs v).fired))) ∙ e in
      let is = filter.stays (now.runs v).fired (at_port_0 seen) s p w long
      (ap (λ (x : State). meaning.fire (graph.code v) (now.runs v).fired x (at_port_0 seen))
      (sym still.state) ∙ fires_so) in
      record {
        state = state_here meaning graph now v s p w ∙ is.0;
        silent = words_here meaning graph now v s p w
            ∙ ap (λ (l : List Word). l ++ w) still.silent ∙ is.1;
      }

  -- Another's.
  other_still : (now : Here) → IsStill now → (node : ℕ) → eqb v node ≡ false → (s : State)
      (p : ByPort) (w : List Word) → IsStill (next meaning graph now node s p w)
  other_still now still node apart s p w =
      let run = run_other meaning graph now node s p w v apart in record {
        state = ap (λ (r : Run State Cause Word). r.state) run ∙ still.state;
        silent = ap (λ (r : Run State Cause Word). r.words) run ∙ still.silent;
      }

  StaysIn : FifoProgress State Cause Word → Type 0
  StaysIn progress = (later : Here) → progress ≡ FifoWent later → IsStill later

  went_is : (a b : Here) → ◌≡◌ {A = FifoProgress State Cause Word} (FifoWent a) (FifoWent b)
      → a ≡ b
  went_is a b e = cc

  by_outcome : (now : Here) → IsStill now → (node : ℕ) → IsReadyNow meaning graph now node
      → (gives : Fired State Cause Word) → outcome meaning graph now node ≡ gives
      → StaysIn (fifo_after meaning graph now node gives)
  unfolding StaysIn fifo_after next_of
  by_outcome now still node ready (Faults cause) e later f = absurd (grind arith)
  by_outcome now still node ready (Fires s p w) e later f =
      subst IsStill (went_is (next meaning graph now node s p w) later f)
      (by_test node ready e (eqb v node) refl)
    where
      by_test : (node : ℕ) → IsReadyNow meaning graph now node
          → outcome meaning graph now node ≡ Fires s p w → (t : Bool) → eqb v node ≡ t
          → IsStill (next meaning graph now node s p w)
      by_test node ready e false apart = other_still now still node apart s p w
      by_test node ready e true same =
          subst (λ (x : ℕ). IsReadyNow meaning graph now x
          → outcome meaning graph now x ≡ Fires s p w → IsStill (next meaning graph now x s p w))
          (eqb-true v node same) (λ r g. own_still now still r s p w g) ready e

  by_ready : (now : Here) → IsStill now → (node : ℕ) → (t : Bool)
      → holds meaning graph node (now.runs node).fired (now.queues node) ≡ t
      → StaysIn (fifo_fire meaning graph now node)
  unfolding StaysIn fifo_fire fifo_if
  by_ready now still node true e later f =
      by_outcome now still node e (outcome meaning graph now node) refl later
      (sym (fires meaning graph now node e) ∙ f)
  by_ready now still node false e later f =
      subst IsStill (went_is now later (sym (ap (fifo_if meaning graph now node) e) ∙ f)) still

  go_then : (order : List ℕ) (later : Here) (progress : FifoProgress State Cause Word)
      → StaysIn progress → fifo_then (fifo_go meaning graph order) progress ≡ FifoWent later
      → ((now : Here) → IsStill now → fifo_go meaning graph order now ≡ FifoWent later
      → IsStill later) → IsStill later
  unfolding StaysIn fifo_then
  go_then order later (FifoWent now) stays went rest = rest now (stays now refl) went
  go_then order later (FifoStopped stop) stays went rest = absurd (grind arith)

  still_after : (order : List ℕ) (now later : Here) → IsStill now
      → fifo_go meaning graph order now ≡ FifoWent later → IsStill later
  unfolding fifo_go
  still_after [] now later still went = subst IsStill (went_is now later went) still
  still_after (node ∷ order) now later still went =
      go_then order later (fifo_fire meaning graph now node)
      (by_ready now still node (holds meaning graph node (now.runs node).fired (now.queues node))
      refl) went (λ middle is e. still_after order middle later is e)

  pub stays_still : (order : List ℕ) (now later : Here)
      → (now.runs v).state ≡ meaning.start (graph.code v) → (now.runs v).words ≡ []
      → fifo_go meaning graph order now ≡ FifoWent later
      → ((later.runs v).state ≡ meaning.start (graph.code v)) × ((later.runs v).words ≡ [])
  stays_still order now later state silent went =
      let still = still_after order now later (record { state = state; silent = silent }) went in
      (still.state, still.silent)
