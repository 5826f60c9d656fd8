use Rattle.std.proofs.Common.{◌≡◌, take, map}
use Rattle.strc_rate.specs.Peeks.{sight_of}
use Rattle.strc_rate.proofs.sight.sights_of.Given as goal

abbrev pub invariant-loop-site : goal.invariant-loop-site
invariant-loop-site l = l.sights.items ≡ map (sight_of l.window) (take l.site-index l.sites)
