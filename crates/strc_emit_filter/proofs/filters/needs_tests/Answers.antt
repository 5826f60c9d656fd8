use Rattle.std.proofs.Common.{◌≡◌, Bool, true, false, not, refl}
use Rattle.std.proofs.lemmas.Bool.{true≢false}
use Rattle.strc_rate.specs.Verdicts.{rates_view}
use Rattle.strc_emit_filter.proofs.filters.needs_tests.Goals as goal

-- what isn't false of a negation
affirmed : (it : Bool) → not it ≡ false → it ≡ true
affirmed true same = refl
affirmed false same = absurd (true≢false same)

pub returns-in-Ok : goal.returns-in-Ok
returns-in-Ok c = λ untested. (
  rates_view c.in-Ok.rates,
  c.in-Ok.ensures.verdict,
  c.are_closed.ensures (affirmed c.are_closed.result untested),
)
