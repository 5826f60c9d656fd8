use Rattle.std.proofs.Common.{◌≡◌, ◌∙◌, ap, sym, subst, ◌++◌, [], ◌∷◌, MatchBool, List}
use Rattle.strc_elab_graph.specs.NodeView.{graph_view}
use Rattle.strc_elab_dataflow.specs.FusedUnits.{RoundUnit, AreFree, joined_unit}
use Rattle.strc_sched_orders.specs.declared.unit as units
use Rattle.strc_fuse.specs.Steps.{IsMarked, GoesOn}
use Rattle.strc_fuse.specs.Units.{is_free, round_unit, round_units}
use Rattle.strc_fuse.proofs.Marks.{on_ok, joined_marked, free_by_mark, goes_on_joined}
use Rattle.strc_fuse.proofs.Marks.{goes_on_apart, units_push}
use Rattle.strc_fuse.proofs.units.take_unit.Goals as goal

pub returns-in-Some-clause-free : goal.returns-in-Some-clause-free
returns-in-Some-clause-free c =
    let free = is_free (graph_view c.args.graph.now) in
    let shares = c.in-Some.shares in
    let last = c.args.last.now in
    let next = c.args.next.now in
    let marked = subst (λ l. MatchBool c.are_free-next_is_free.result (AreFree free l)
    (¬ AreFree free l)) c.deref.ensures.value c.are_free-next_is_free.ensures in
    let second = free_by_mark free c.are_free-next_is_free.result next.nodes.items
    c.in-Some.ensures.free.1 marked in
    on_ok c.join.result (round_unit c.join.new.unit ≡ joined_unit shares.turns shares.first
    shares.second (round_unit last.unit) (round_unit next))
    (IsMarked free (record { unit = c.join.new.unit; is_free = last.is_free }))
    (λ same. joined_marked free last.is_free last.unit c.join.new.unit (round_unit next)
    shares.turns shares.first shares.second c.in-Some.ensures.free.0 c.requires.free second same)
    c.join.ensures

pub returns-in-Some-clause-goes_on : goal.returns-in-Some-clause-goes_on
returns-in-Some-clause-goes_on c =
    let free = is_free (graph_view c.args.graph.now) in
    let shares = c.in-Some.shares in
    let last = c.args.last.now in
    let next = c.args.next.now in
    let before = round_units c.args.fused.now.items in
    let marked = subst (λ l. MatchBool c.are_free-next_is_free.result (AreFree free l)
    (¬ AreFree free l)) c.deref.ensures.value c.are_free-next_is_free.ensures in
    let first = free_by_mark free last.is_free last.unit.nodes.items c.in-Some.ensures.free.0
    c.requires.free in
    let second = free_by_mark free c.are_free-next_is_free.result next.nodes.items
    c.in-Some.ensures.free.1 marked in
    on_ok c.join.result (round_unit c.join.new.unit ≡ joined_unit shares.turns shares.first
    shares.second (round_unit last.unit) (round_unit next))
    (GoesOn free c.args.threshold before (round_unit last.unit) (round_unit next) before
    (round_unit c.join.new.unit))
    (λ same. goes_on_joined free c.args.threshold before (round_unit last.unit) (round_unit next)
    (round_unit c.join.new.unit) shares c.in-Some.ensures.shares first second same)
    c.join.ensures

pub returns-in_ok-push-in-None-clause-goes_on : goal.returns-in_ok-push-in-None-clause-goes_on
returns-in_ok-push-in-None-clause-goes_on c =
    let free = is_free (graph_view c.args.graph.now) in
    let last = c.args.last.now in
    let next = c.args.next.now in
    let before = c.args.fused.now.items in
    let marked = subst (λ l. MatchBool c.are_free-next_is_free.result (AreFree free l)
    (¬ AreFree free l)) c.deref.ensures.value c.are_free-next_is_free.ensures in
    goes_on_apart free c.args.threshold (round_units before) (round_unit last.unit)
    (round_unit next) (round_unit c.replace-unit.new.dest) (round_units c.push.new.self.items)
    last.is_free c.are_free-next_is_free.result c.requires.free marked c.in-None.ensures.none
    (ap round_unit c.replace-unit.ensures.after ∙ c.in_ok-copy_of-in-None.ensures)
    (ap round_units c.in_ok-push-in-None.ensures.items
    ∙ ap (λ (u : units.Unit.Unit). round_units (before ++ u ∷ [])) c.replace-unit.ensures.value
    ∙ units_push before last.unit)
