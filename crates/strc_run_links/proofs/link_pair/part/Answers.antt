use Rattle.std.proofs.Common.{◌≤◌, ap, arith}
use Rattle.crossbeam_channel.specs.Claims.{view}
use Rattle.strc_run_links.specs.declared.view.Log.{Log}
use Rattle.strc_run_links.proofs.Rules.{forks}
use Rattle.strc_run_links.proofs.link_pair.part.Goals as goal

pub another-requires-clause-rule : goal.another-requires-clause-rule
another-requires-clause-rule g c =
    let pass = c.args.pass.now in
    let none = ap (λ (v : Log). v.room) c.requires.first in
    let wide : (view pass).room ≤ g.R.Room.room = omega arith in
    forks pass.id (view pass) g.R.Room.room (ap (λ (v : Log). v.sends) c.requires.first)
    (ap (λ (v : Log). v.takes) c.requires.first) wide
