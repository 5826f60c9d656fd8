-- Helper functions with the estimates of their bodies, as a list.
use Rattle.std.specs.Prelude.{ℕ, List}
use Rattle.strc_rate_estimate.specs.declared.calls.HelperEstimate.{HelperEstimate}

abbrev pub helper_view : HelperEstimate → List ℕ × ℕ
helper_view helper = (helper.name.now, helper.estimate)
