use Rattle.std.proofs.Common.{sym, ap, ◌∙◌}
use Rattle.strc_rate_intervals.specs.Intervals.{interval_named}
use Rattle.strc_rate_intervals.proofs.IntervalGrowth.{interval_named-some, interval_named-none}
use Rattle.strc_rate_intervals.proofs.interval_scope.IntervalScope.interval_of.Goals as goal

pub returns-in-Some : goal.returns-in-Some
returns-in-Some c =
    let named = sym c.in-Some.ensures in
    interval_named-some c.self.inside.variables c.args.name.now c.in-Some.interval named
    ∙ ap (λ l. interval_named l c.args.name.now) c.self.view_is

pub returns-in-None : goal.returns-in-None
returns-in-None c =
    interval_named-none c.self.inside.variables c.args.name.now (sym c.in-None.ensures)
    ∙ ap (λ l. interval_named l c.args.name.now) c.self.view_is
