-- One firing of the machine over queues, place by place.
use Rattle.std.proofs.Common.{◌≡◌, refl, ap, ◌∙◌, ℕ, zero, suc, ◌+◌, ◌-◌, ◌<◌, ◌≤◌}
use Rattle.std.proofs.Common.{Bool, true, false, cond, eqb, leb, ltb, ℤ, List, [], ◌++◌, length}
use Rattle.std.proofs.Common.{take, drop, arith, le-leb}
use mathlib.Core.Path.{fun_ext}
use Rattle.std.proofs.lemmas.Bool.{eq-eqb, le-ltb}
use Rattle.std.proofs.lemmas.List.{drop-take, take-take}
use Rattle.strc_elab_dataflow.specs.Node.{ByPort, Fired.Fires, Fired.Faults, Meaning, at_port_0}
use Rattle.strc_elab_dataflow.specs.Histories.{Run, after_firing}
use Rattle.strc_elab_dataflow.specs.Flat.{Origin.Port, Graph}
use Rattle.strc_elab_dataflow.specs.Machine.{put}
use Rattle.strc_elab_dataflow.specs.Queues.{Fifo, FifoProgress.FifoWent, holds, fronts}
use Rattle.strc_elab_dataflow.specs.Queues.{FifoProgress.FifoStopped, added, moved, fifo_after}
use Rattle.strc_elab_dataflow.specs.Queues.{fifo_fire}
use Rattle.strc_elab_dataflow.proofs.Runs.{all_from_each}
use Rattle.strc_elab_dataflow.proofs.Diamond.{IsReadyNow, outcome, next_of, fires, then, run_kept}
use Rattle.strc_elab_dataflow.proofs.Diamond.{queue_kept}

-- A window inside the front of a list.
pub window_inside : (w a r : ℕ) (xs : List ℤ) → a + w ≤ r
    → take w (drop a (take r xs)) ≡ take w (drop a xs)
window_inside w a r xs less =
    ap (λ (k : ℕ). take w (drop a (take k xs))) (let e : r ≡ a + (r - a) = omega arith in e)
    ∙ ap (take w) (drop-take a (r - a) xs)
    ∙ take-take w (r - a) (drop a xs) (omega arith)

-- What a firing adds where it doesn't give, and where it does.
pub added_other : (b s q : ℕ) (pushes : ByPort) → eqb s b ≡ false
    → added b pushes (Port s q) ≡ []
unfolding added
added_other b s q pushes e = ap (λ (t : Bool). cond t (pushes q) []) e

pub added_here : (b q : ℕ) (pushes : ByPort) → added b pushes (Port b q) ≡ pushes q
unfolding added
added_here b q pushes = ap (λ (t : Bool). cond t (pushes q) []) (eq-eqb b b refl)

module _ {Code State Cause Word : Type 0} (meaning : Meaning Code State Cause Word)
    (graph : Graph Code) (now : Fifo State Cause Word) (b : ℕ) where
  -- A node with one port.
  pub one_ready : meaning.ports (graph.code b) ≡ 1
      → meaning.window (graph.code b) (now.runs b).fired 0 ≤ length (now.queues b 0)
      → IsReadyNow meaning graph now b
  unfolding holds
  one_ready one less = all_from_each (meaning.ports (graph.code b))
      (λ port. leb (meaning.window (graph.code b) (now.runs b).fired port)
      (length (now.queues b port)))
      (λ port below. by_port port (omega (arith, one, below)))
    where
      by_port : (port : ℕ) → port < 1
          → leb (meaning.window (graph.code b) (now.runs b).fired port)
          (length (now.queues b port)) ≡ true
      by_port zero below = le-leb _ _ less
      by_port (suc port) below = absurd (omega arith)

  pub one_front : meaning.ports (graph.code b) ≡ 1 → (w : ℕ)
      → meaning.window (graph.code b) (now.runs b).fired 0 ≡ w
      → fronts meaning graph b (now.runs b).fired (now.queues b)
      ≡ at_port_0 (take w (now.queues b 0))
  unfolding fronts at_port_0
  one_front one w e = fun_ext (λ port. by_port port)
    where
      by_port : (port : ℕ) → cond (ltb port (meaning.ports (graph.code b)))
          (take (meaning.window (graph.code b) (now.runs b).fired port) (now.queues b port)) []
          ≡ at_port_0 (take w (now.queues b 0)) port
      by_port zero =
          ap (λ (n : ℕ). cond (ltb zero n)
          (take (meaning.window (graph.code b) (now.runs b).fired 0) (now.queues b 0)) []) one
          ∙ ap (λ (k : ℕ). take k (now.queues b 0)) e
      by_port (suc port) =
          ap (λ (t : Bool). cond t
          (take (meaning.window (graph.code b) (now.runs b).fired (suc port))
          (now.queues b (suc port))) [])
          (le-ltb (suc port) (meaning.ports (graph.code b)) (omega (arith, one)))

  -- A firing that faults, and one that doesn't.
  pub faults : IsReadyNow meaning graph now b → (cause : Cause)
      → outcome meaning graph now b ≡ Faults cause
      → fifo_fire meaning graph now b
      ≡ FifoStopped (record { node = b; firing = (now.runs b).fired; cause = cause })
  unfolding fifo_after
  faults ready cause e = fires meaning graph now b ready
      ∙ ap (fifo_after meaning graph now b) e

  module _ (state : State) (pushes : ByPort) (words : List Word) where
    abbrev pub next : Fifo State Cause Word
    next = next_of meaning graph now b state pushes words

    pub goes : IsReadyNow meaning graph now b
        → outcome meaning graph now b ≡ Fires state pushes words
        → fifo_fire meaning graph now b ≡ FifoWent next
    unfolding fifo_after next_of
    goes ready e = fires meaning graph now b ready ∙ ap (fifo_after meaning graph now b) e

    pub run_other : (a : ℕ) → eqb a b ≡ false → next.runs a ≡ now.runs a
    unfolding then
    run_other a apart = run_kept meaning graph now a b apart state pushes words

    pub queue_other : (a port : ℕ) → eqb a b ≡ false → next.queues a port
        ≡ now.queues a port ++ added b pushes (graph.source a port).origin
    unfolding then
    queue_other a port apart = queue_kept meaning graph now a b apart state pushes words port

    pub run_here : next.runs b
        ≡ after_firing meaning (graph.code b) (now.runs b) (Fires state pushes words)
    unfolding next_of put
    run_here = ap (λ (t : Bool). cond t (after_firing meaning (graph.code b) (now.runs b)
        (Fires state pushes words)) (now.runs b)) (eq-eqb b b refl)

    pub fired_here : (next.runs b).fired ≡ suc (now.runs b).fired
    unfolding after_firing
    fired_here = ap (λ (r : Run State Cause Word). r.fired) run_here

    pub state_here : (next.runs b).state ≡ state
    unfolding after_firing
    state_here = ap (λ (r : Run State Cause Word). r.state) run_here

    pub words_here : (next.runs b).words ≡ (now.runs b).words ++ words
    unfolding after_firing
    words_here = ap (λ (r : Run State Cause Word). r.words) run_here

    pub queue_here : (port : ℕ) → next.queues b port
        ≡ drop (meaning.popped (graph.code b) (now.runs b).fired port) (now.queues b port)
        ++ added b pushes (graph.source b port).origin
    unfolding next_of moved
    queue_here port = ap (λ (t : Bool).
        drop (cond t (meaning.popped (graph.code b) (now.runs b).fired port) 0)
        (now.queues b port) ++ added b pushes (graph.source b port).origin) (eq-eqb b b refl)
