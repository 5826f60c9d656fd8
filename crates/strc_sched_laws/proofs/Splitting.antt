-- Runs over queues that fit, part by part.
use Rattle.std.proofs.Common.{◌≡◌, refl, ap, ◌∙◌, ℕ, ℤ, List, [], ◌∷◌, ◌++◌, append_assoc}
use Rattle.strc_elab_dataflow.specs.Flat as flat
use Rattle.strc_elab_dataflow.specs.Queues.{FifoProgress, FifoProgress.FifoWent}
use Rattle.strc_elab_dataflow.specs.Queues.{FifoProgress.FifoStopped, fifo_fire, fifo_then, fifo_go}
use Rattle.strc_work_meaning.specs.declared.fault.Cause.{Cause}
use Rattle.strc_work_meaning.specs.declared.word.Word.{Word}
use Rattle.strc_elab_graph.specs.Graphs.{NodeCode, Channel}
use Rattle.strc_elab_graph.specs.Meaning.{node_meaning}
use Rattle.strc_sched_laws.specs.Fits.{Queues, FitNow, FitThen, Fit}

module _ (graph : flat.Graph NodeCode) where
  abbrev pub go : List ℕ → Queues → FifoProgress (List ℤ) Cause Word
  go = fifo_go node_meaning graph

  then_then : (a b : List ℕ) (progress : FifoProgress (List ℤ) Cause Word)
      → ((now : Queues) → go (a ++ b) now ≡ fifo_then (go b) (go a now))
      → fifo_then (go (a ++ b)) progress ≡ fifo_then (go b) (fifo_then (go a) progress)
  unfolding fifo_then
  then_then a b (FifoWent now) ih = ih now
  then_then a b (FifoStopped stop) ih = refl

  -- an order, and after it another one
  pub go_append : (a b : List ℕ) (now : Queues) → go (a ++ b) now ≡ fifo_then (go b) (go a now)
  unfolding fifo_go fifo_then
  go_append [] b now = refl
  go_append (node ∷ a) b now =
      then_then a b (fifo_fire node_meaning graph now node) (go_append a b)

  module _ (channels : List Channel) (sizes : List ℕ) where
    abbrev FitsFor : List ℕ → Queues → Type 0
    FitsFor = Fit graph channels sizes

    -- what fits along an order fits before it
    pub fit_now : (order : List ℕ) (now : Queues) → FitsFor order now → FitNow channels sizes now
    fit_now [] now fit = fit
    fit_now (node ∷ order) now fit = fit.0

    split_then : (a b : List ℕ) (progress : FifoProgress (List ℤ) Cause Word)
        → ((now : Queues) → FitsFor (a ++ b) now
        → FitsFor a now × FitThen (FitsFor b) (go a now))
        → FitThen (FitsFor (a ++ b)) progress
        → FitThen (FitsFor a) progress × FitThen (FitsFor b) (fifo_then (go a) progress)
    unfolding fifo_then
    split_then a b (FifoWent next) ih fit = ih next fit
    split_then a b (FifoStopped stop) ih fit = (tt, tt)

    -- what fits along two orders fits along the first, and after it along the second
    pub fit_split : (a b : List ℕ) (now : Queues) → FitsFor (a ++ b) now
        → FitsFor a now × FitThen (FitsFor b) (go a now)
    unfolding fifo_go
    fit_split [] b now fit = (fit_now b now fit, fit)
    fit_split (node ∷ a) b now fit =
        let rest = split_then a b (fifo_fire node_meaning graph now node) (fit_split a b) fit.1 in
        ((fit.0, rest.0), rest.1)

    module _ (order : List ℕ) (start : Queues)
        (fits : (done left : List ℕ) (now : Queues) → done ++ left ≡ order
        → go done start ≡ FifoWent now → FitNow channels sizes now) where
      fits_then : (done left : List ℕ) (node : ℕ) (now : Queues)
          (progress : FifoProgress (List ℤ) Cause Word)
          → ((next : Queues) → (done ++ node ∷ []) ++ left ≡ order
          → go (done ++ node ∷ []) start ≡ FifoWent next → FitsFor left next)
          → done ++ node ∷ left ≡ order → go done start ≡ FifoWent now
          → fifo_fire node_meaning graph now node ≡ progress
          → FitThen (FitsFor left) progress
      unfolding fifo_go fifo_then
      fits_then done left node now (FifoWent next) ih e went fires =
          ih next (append_assoc done (node ∷ []) left ∙ e)
          (go_append done (node ∷ []) start ∙ ap (fifo_then (go (node ∷ []))) went
          ∙ ap (fifo_then (go [])) fires)
      fits_then done left node now (FifoStopped stop) ih e went fires = tt

      -- where each part from the beginning leaves a state that fits, so does the whole order
      pub fits_from : (done left : List ℕ) (now : Queues) → done ++ left ≡ order
          → go done start ≡ FifoWent now → FitsFor left now
      fits_from done [] now e went = fits done [] now e went
      fits_from done (node ∷ left) now e went = (
        fits done (node ∷ left) now e went,
        fits_then done left node now (fifo_fire node_meaning graph now node)
            (λ next. fits_from (done ++ node ∷ []) left next) e went refl,
      )
