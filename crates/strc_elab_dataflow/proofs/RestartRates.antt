-- Rates that each firing keeps, wherever a code is restarted.
use Rattle.std.proofs.Common.{◌≡◌, ℕ, ◌+◌, Bool, true}
use Rattle.strc_elab_dataflow.specs.Node.{Meaning}
use Rattle.strc_elab_dataflow.specs.Histories.{KeepsRates}
use Rattle.strc_elab_dataflow.proofs.Rates.{keeps_rates}
use Rattle.strc_elab_dataflow.specs.Restart.{restarted_meaning}
use Rattle.strc_elab_dataflow.specs.Rates.{PushesRates, PushesRatesKeepsRates}

module _ {Code State Cause Word : Type 0} (meaning : Meaning Code State Cause Word) (code : Code)
    (is_kept : State → Bool) (pushes : PushesRates meaning code is_kept) where
  from_start : is_kept (meaning.start code) ≡ true → KeepsRates meaning code
  from_start e = keeps_rates meaning code (λ state. is_kept state ≡ true)
      (record { fine_at_start = e; kept = pushes.each })

  from_state : (fired : ℕ) (state : State) → is_kept state ≡ true
      → KeepsRates (restarted_meaning meaning)
      (record { code = code; fired = fired; state = state })
  unfolding restarted_meaning
  from_state fired state e =
      keeps_rates (restarted_meaning meaning)
      (record { code = code; fired = fired; state = state }) (λ now. is_kept now ≡ true)
      (record { fine_at_start = e; kept = λ firing. pushes.each (fired + firing) })

  pub rates_kept : (is_kept (meaning.start code) ≡ true → KeepsRates meaning code)
      × ((fired : ℕ) (state : State) → is_kept state ≡ true
      → KeepsRates (restarted_meaning meaning)
      (record { code = code; fired = fired; state = state }))
  rates_kept = (from_start, from_state)

pub pushes_rates_keeps_rates : {Code State Cause Word : Type 0}
    → PushesRatesKeepsRates Code State Cause Word
pushes_rates_keeps_rates meaning code is_kept pushes = rates_kept meaning code is_kept pushes
