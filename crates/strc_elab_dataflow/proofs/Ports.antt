-- Sources at ports that a node doesn't have, or leaves idle, make no difference to a run.
use Rattle.std.proofs.Common.{◌≡◌, refl, sym, ap, ◌∙◌, arith, le-leb, ℕ, zero, suc, ◌+◌, ◌<◌, Bool}
use Rattle.std.proofs.Common.{true, false, cond, leb, ltb, List, [], ◌∷◌, length, take, drop}
use Rattle.std.proofs.Common.{Option, ℤ, ltb-true}
use mathlib.Core.Logic.{inl, inr, ◌⊎◌}
use mathlib.Core.Path.{fun_ext}
use Rattle.strc_elab_dataflow.specs.Node.{ByPort, Meaning, total}
use Rattle.strc_elab_dataflow.specs.Histories.{Run, windows, finds, after_firing, advance_if}
use Rattle.strc_elab_dataflow.specs.Histories.{advance}
use Rattle.strc_elab_dataflow.specs.Flat.{Source, Graph, arrived}
use Rattle.strc_elab_dataflow.specs.Machine.{Progress, Progress.Went, Progress.Stopped, put}
use Rattle.strc_elab_dataflow.specs.Machine.{at_first}
use Rattle.strc_elab_dataflow.specs.Machine.{unless_faulted, fired_once, go}
use Rattle.strc_elab_dataflow.specs.Answer.{Outcome, words_of, round_outcome, rounds}
use Rattle.strc_elab_dataflow.specs.Answer.{startup_outcome}
use Rattle.strc_elab_dataflow.specs.Answer.{whole_run}
use Rattle.strc_elab_dataflow.specs.Laws.{IsIdle}
use Rattle.strc_elab_dataflow.proofs.Queued.{all_same}

module _ {Code State Cause Word : Type 0} (meaning : Meaning Code State Cause Word) where
  -- an idle port never had an item taken
  pub none_taken : (code : Code) (port n : ℕ) → IsIdle meaning code port
      → total (meaning.popped code) n port ≡ 0
  unfolding total
  none_taken code port zero idle = refl
  none_taken code port (suc n) idle = omega (arith, none_taken code port n idle, (idle n).1)

  module _ (code : Code) (xs ys : ByPort)
      (same : (port : ℕ) → port < meaning.ports code
      → (xs port ≡ ys port) ⊎ IsIdle meaning code port) where
    idle_found : (n port : ℕ) (items : List ℤ) → IsIdle meaning code port
        → leb (total (meaning.popped code) n port + meaning.window code n port) (length items)
        ≡ true
    idle_found n port items idle =
        le-leb (total (meaning.popped code) n port + meaning.window code n port) (length items)
        (omega (arith, none_taken code port n idle, (idle n).0))

    found_same : (n port : ℕ) → (xs port ≡ ys port) ⊎ IsIdle meaning code port
        → leb (total (meaning.popped code) n port + meaning.window code n port) (length (xs port))
        ≡ leb (total (meaning.popped code) n port + meaning.window code n port) (length (ys port))
    found_same n port (inl e) = ap (λ (l : List ℤ). leb
        (total (meaning.popped code) n port + meaning.window code n port) (length l)) e
    found_same n port (inr idle) = idle_found n port (xs port) idle
        ∙ sym (idle_found n port (ys port) idle)

    finds_same : (n : ℕ) → finds meaning code n xs ≡ finds meaning code n ys
    unfolding finds
    finds_same n =
        all_same (meaning.ports code)
        (λ port. leb (total (meaning.popped code) n port + meaning.window code n port)
        (length (xs port)))
        (λ port. leb (total (meaning.popped code) n port + meaning.window code n port)
        (length (ys port)))
        (λ port less. found_same n port (same port less))

    taken_same : (n port : ℕ) → (xs port ≡ ys port) ⊎ IsIdle meaning code port
        → take (meaning.window code n port) (drop (total (meaning.popped code) n port) (xs port))
        ≡ take (meaning.window code n port) (drop (total (meaning.popped code) n port) (ys port))
    taken_same n port (inl e) = ap (λ (l : List ℤ). take (meaning.window code n port)
        (drop (total (meaning.popped code) n port) l)) e
    taken_same n port (inr idle) =
        ap (λ w. take w (drop (total (meaning.popped code) n port) (xs port))) (idle n).0
        ∙ sym (ap (λ w. take w (drop (total (meaning.popped code) n port) (ys port))) (idle n).0)

    window_by : (n port : ℕ) (test : Bool) → ltb port (meaning.ports code) ≡ test
        → cond test (take (meaning.window code n port)
        (drop (total (meaning.popped code) n port) (xs port))) []
        ≡ cond test (take (meaning.window code n port)
        (drop (total (meaning.popped code) n port) (ys port))) []
    window_by n port true e = taken_same n port (same port (ltb-true port (meaning.ports code) e))
    window_by n port false e = refl

    windows_same : (n : ℕ) → windows meaning code n xs ≡ windows meaning code n ys
    unfolding windows
    windows_same n = fun_ext (λ port. window_by n port (ltb port (meaning.ports code)) refl)

    if_same : (run : Run State Cause Word) (fault : Option Cause) (found : Bool)
        → advance_if meaning code xs run fault found ≡ advance_if meaning code ys run fault found
    unfolding advance_if
    if_same run (Option.Some cause) found = refl
    if_same run Option.None true = ap (λ (w : ByPort). after_firing meaning code run
        (meaning.fire code run.fired run.state w)) (windows_same run.fired)
    if_same run Option.None false = refl

    pub advance_same : (run : Run State Cause Word)
        → advance meaning code xs run ≡ advance meaning code ys run
    unfolding advance
    advance_same run = if_same run run.fault (finds meaning code run.fired xs)
        ∙ ap (λ (t : Bool). advance_if meaning code ys run run.fault t) (finds_same run.fired)

  module _ (a b : ℕ) (code : ℕ → Code) (s t : ℕ → ℕ → Source)
      (same : (node port : ℕ) → port < meaning.ports (code node)
      → (s node port ≡ t node port) ⊎ IsIdle meaning (code node) port) (input : List ℤ) where
    abbrev left : Graph Code
    left = record { size = a; code = code; source = s }

    abbrev right : Graph Code
    right = record { size = b; code = code; source = t }

    arrive_same : (now : ℕ → Run State Cause Word) (node port : ℕ)
        → (s node port ≡ t node port) ⊎ IsIdle meaning (code node) port
        → (arrived input now (s node port) ≡ arrived input now (t node port))
        ⊎ IsIdle meaning (code node) port
    arrive_same now node port (inl e) = inl (ap (arrived input now) e)
    arrive_same now node port (inr idle) = inr idle

    once_same : (now : ℕ → Run State Cause Word) (node : ℕ)
        → fired_once meaning left input now node ≡ fired_once meaning right input now node
    unfolding fired_once
    once_same now node =
        advance_same (code node) (λ port. arrived input now (s node port))
        (λ port. arrived input now (t node port))
        (λ port less. arrive_same now node port (same node port less)) (now node)

    go_same : (order : List ℕ) (now : ℕ → Run State Cause Word)
        → go meaning left input order now ≡ go meaning right input order now
    unfolding go
    go_same [] now = refl
    go_same (node ∷ order) now =
        ap (λ (run : Run State Cause Word). unless_faulted node run run.fault
        (go meaning left input order (put now node run))) (once_same now node)
        ∙ ap (λ (later : Progress State Cause Word). unless_faulted node
        (fired_once meaning right input now node)
        (fired_once meaning right input now node).fault later)
        (go_same order (put now node (fired_once meaning right input now node)))

    module _ (round_order : List ℕ) where
      round_same : (q : ℕ) (words : ℕ → List Word) (progress : Progress State Cause Word)
          (f g : (ℕ → Run State Cause Word) → Outcome Cause Word)
          → ((now : ℕ → Run State Cause Word) → f now ≡ g now)
          → round_outcome meaning left input round_order q words progress f
          ≡ round_outcome meaning right input round_order q words progress g
      unfolding round_outcome
      round_same q words (Went now) f g h = h now
      round_same q words (Stopped stop) f g h = refl

      rounds_same : (more q : ℕ) (now : ℕ → Run State Cause Word)
          → rounds meaning left input round_order more q now
          ≡ rounds meaning right input round_order more q now
      unfolding rounds
      rounds_same zero q now = refl
      rounds_same (suc more) q now =
          ap (λ (p : Progress State Cause Word). round_outcome meaning left input round_order q
          (words_of now) p (rounds meaning left input round_order more (suc q)))
          (go_same round_order now)
          ∙ round_same q (words_of now) (go meaning right input round_order now)
          (rounds meaning left input round_order more (suc q))
          (rounds meaning right input round_order more (suc q)) (rounds_same more (suc q))

      startup_same : (k : ℕ) (progress : Progress State Cause Word)
          → startup_outcome meaning left input round_order k progress
          ≡ startup_outcome meaning right input round_order k progress
      unfolding startup_outcome
      startup_same k (Went now) = rounds_same k 0 now
      startup_same k (Stopped stop) = refl

      whole_same : (startup_order : List ℕ) (k : ℕ)
          → whole_run meaning left input round_order startup_order k
          ≡ whole_run meaning right input round_order startup_order k
      unfolding whole_run at_first
      whole_same startup_order k =
          ap (startup_outcome meaning left input round_order k)
          (go_same startup_order (at_first meaning left))
          ∙ startup_same k (go meaning right input startup_order (at_first meaning right))

  -- Two graphs with the same codes, and the same sources at the ports that carry items, run alike.
  pub ports_matter :
      (a b : Graph Code) → ((node : ℕ) → a.code node ≡ b.code node)
      → ((node port : ℕ) → port < meaning.ports (a.code node)
      → (a.source node port ≡ b.source node port) ⊎ IsIdle meaning (a.code node) port)
      → (input : List ℤ) (startup_order round_order : List ℕ) (k : ℕ)
      → whole_run meaning a input round_order startup_order k
      ≡ whole_run meaning b input round_order startup_order k
  ports_matter a b codes sources input startup_order round_order k =
      whole_same a.size b.size a.code a.source b.source sources input round_order startup_order k
      ∙ ap (λ (code : ℕ → Code). whole_run meaning
      (record { size = b.size; code = code; source = b.source }) input round_order startup_order
      k) (fun_ext codes)
