use Rattle.strc_run_links.specs.declared.shapes.Ended.{Ended}
use Rattle.strc_run_links.proofs.Joins.{ended}
use Rattle.strc_run_links.proofs.Threads.{each_did}
use Rattle.strc_run_links.proofs.worker_join.join_all.Goals as goal

pub returns-in-Ok : goal.returns-in-Ok
returns-in-Ok g c =
    let e : Ended g.row.S.Denot g.row.C.Denot =
    record { workers = c.in-Ok.workers; collected = c.args.collected } in
    ended g.S.Actor.does g.C.Actor.does c.args.start.value c.args.ready.value e c.requires.ready
    (each_did g.S.Actor.does c.args.children.items c.in-Ok.workers.items
    c.args.ready.value.seats.items c.args.children.len c.in-Ok.workers.len c.requires.begun
    c.args.children.ok.0
    (c.in-Ok.workers.ok.0, c.in-Ok.ensures.len) c.in-Ok.ensures.each)
    c.requires.did
