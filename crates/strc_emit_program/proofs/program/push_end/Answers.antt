use Rattle.std.proofs.Common.{List, ℕ, ◌≡◌, ◌++◌, ◌∙◌, ap}
use Rattle.std.proofs.Common.{length}
use Rattle.strc_sched_orders.specs.declared.unit.Unit.{Unit}
use Rattle.strc_emit_moves.specs.declared.places.Phase.TheVariants as phase
use Rattle.strc_emit_program.specs.Orders.{order_text}
use Rattle.strc_emit_program.specs.Programs.{main_text}
use Rattle.strc_emit_text.proofs.Pushing.{both, last}
use Rattle.strc_emit_program.proofs.program.push_end.Goals as goal

pub returns : goal.returns
returns c =
    let begun = c.args.text.now.items in
    let p1 : List ℕ = order_text c.args.network.now phase.Startup (length
    c.args.network.now.nodes.now) c.args.schedule.now.startup in
    let p2 : List ℕ = order_text c.args.network.now phase.Round (length
    c.args.network.now.nodes.now) c.args.schedule.now.round in
    let so_far_2 : c.push_order-2.new.text.items ≡ begun ++ (p1 ++ p2) = both begun
    c.push_order.new.text.items c.push_order-2.new.text.items p1 p2 (c.in_ok-push_order.ensures ∙
    ap (λ (units : List Unit). begun ++ order_text c.args.network.now phase.Startup (length
    c.args.network.now.nodes.now) units) c.startup.ensures) (c.in_ok-push_order-2.ensures ∙ ap (λ
    (units : List Unit). c.push_order.new.text.items ++ order_text c.args.network.now phase.Round
    (length c.args.network.now.nodes.now) units) c.round.ensures) in
    let p3 : List ℕ = main_text in
    last c.push_main.result begun c.push_order-2.new.text.items c.push_main.new.text.items (p1 ++
    p2) p3 so_far_2 c.push_main.ensures
