-- How code answers a judgement of rates: with what it gives, or with its refusal, or where memory
-- runs out.
use Rattle.std.specs.Prelude.{◌≡◌, Result, Ok, Err}
use Rattle.std.specs.Option.{option_map}
use Rattle.strc_rate.specs.declared.rates.BodyRates.{BodyRates}
use Rattle.strc_rate.specs.declared.rates.Rates.{Rates}
use Rattle.strc_rate.specs.Rates as judged
use Rattle.strc_rate.specs.declared.rates.RateError.{RateError}
use Rattle.strc_rate.specs.declared.rates.RateError.TheVariants as broken

-- the judgement's refusal, if it isn't out of memory
abbrev pub IsRefusal : {A : Type 0} → Result A RateError → RateError → Type 0
IsRefusal expected broken.NoMemory = Unit {0}
IsRefusal expected refusal = expected ≡ Err refusal

-- the answer x is the judgement's, seen by a view
abbrev pub IsVerdict : {X A : Type 0} → (X → A) → Result A RateError → Result X RateError → Type 0
IsVerdict view expected (Ok x) = expected ≡ Ok (view x)
IsVerdict view expected (Err refusal) = IsRefusal expected refusal

-- the rates of a body as the judgement sees them
abbrev pub body_view : BodyRates → judged.BodyRates
body_view rates = record {
  push = rates.push;
  pop = rates.pop;
  window = rates.window;
  closed =
      rates.closed.items;
}

-- the rates of a filter as the judgement sees them
abbrev pub rates_view : Rates → judged.FilterRates
rates_view rates = record {
  prework = option_map body_view rates.prework;
  work =
      body_view rates.work;
}
