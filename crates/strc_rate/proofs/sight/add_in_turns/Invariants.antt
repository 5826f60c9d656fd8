use Rattle.std.proofs.Common.{◌≡◌, ◌++◌, take, map}
use Rattle.strc_rate.specs.Peeks.{site_in_turns}
use Rattle.strc_rate.proofs.sight.add_in_turns.Given as goal

abbrev pub invariant-loop-site : goal.invariant-loop-site
invariant-loop-site l = l.sites.items
    ≡ l.initial.sites.items ++ map (site_in_turns l.turns l.counts) (take l.site-index l.body)
