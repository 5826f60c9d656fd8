use Rattle.strc_run_links.proofs.Rounds.{begins, holds, came_back, gives}
use Rattle.strc_run_links.proofs.body.work.Goals as goal

pub loop-init : goal.loop-init
loop-init g c = begins g.A.Actor.does c.args.actor c.args.rx c.args.tx

pub returns-in-Err-clause-did : goal.returns-in-Err-clause-did
returns-in-Err-clause-did g c =
    let does = g.A.Actor.does in
    let s = c.args.actor in
    let r = c.args.rx in
    let t = c.args.tx in
    let p = c.in-Some-take.parcel in
    came_back does s r t c.loop.actor c.step_by-made.new.actor c.take.new.self c.loop.tx
    c.give.new.self p c.step_by-made.result c.in-Err.back c.ended-in-Err.result
    c.ended-in-Err.ensures
    (holds does s r t c.loop.actor c.loop.rx c.take.new.self c.loop.tx p c.loop.invariant
    c.take.ensures.same c.in-Some-take.ensures.got)
    c.step_by-made.ensures c.give.ensures.same c.in-Err.ensures.sent.0 c.in-Err.ensures.sent.1

pub loop-preserved : goal.loop-preserved
loop-preserved g c =
    let does = g.A.Actor.does in
    let s = c.args.actor in
    let r = c.args.rx in
    let t = c.args.tx in
    let p = c.in-Some-take.parcel in
    gives does s r t c.loop.actor c.step_by-made.new.actor c.take.new.self c.loop.tx
    c.give.new.self p
    c.step_by-made.result
    (holds does s r t c.loop.actor c.loop.rx c.take.new.self c.loop.tx p c.loop.invariant
    c.take.ensures.same c.in-Some-take.ensures.got)
    c.step_by-made.ensures c.give.ensures.same c.in-Ok.ensures.sent
