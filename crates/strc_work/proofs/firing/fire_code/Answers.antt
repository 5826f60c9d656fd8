use Rattle.std.proofs.Common.{◌≡◌, ◌≤◌, ◌++◌, length, take, drop, sym, ap, ◌∙◌, subst, arith, rules}
use Rattle.strc_work.specs.Kept.{Kept, Pushed}
use Rattle.strc_work_meaning.specs.Filters.{filter_of}
use Rattle.strc_work_code.specs.Code.{code_of}
use Rattle.strc_work_code.specs.Nodes.{nodes_print}
use Rattle.strc_work_instructions.specs.Running.{machine_of, port_within, fresh_io, Tells}
use Rattle.strc_work_code.specs.Flat.{node_done}
use Rattle.strc_work.proofs.Runs.{wants_as}
use Rattle.strc_work_code.specs.Lowering.{slot_count}
use Rattle.strc_work_code.specs.Links.{helper_names, IsLinked}
use Rattle.strc_work_meaning.specs.Firing.{fired, setting_at}
use Rattle.strc_work.specs.Answers.{Fires}
use Rattle.strc_work.proofs.Printing.{body_wants}
use Rattle.strc_work.specs.Calls.{setting_in}
use Rattle.strc_work.proofs.TopCalls.{top_setting, callable_runs, callable_saves}
use Rattle.strc_work.proofs.Answering.{fire_answer, given_back}
use Rattle.strc_work.proofs.firing.fire_code.Goals as goal

pub returns-clause-fired : goal.returns-clause-fired
returns-clause-fired g c =
    let tree = c.args.code.now in
    let inside = c.state.inside in
    let old = c.deref_mut.result.now in
    let new = c.run-result.new.slots in
    let old_is = c.deref_mut.ensures.value in
    let kept = c.run-result.auto.slots in
    let fields_are : c.args.state.now.fields ≡ take inside.fields old =
    ap (λ (v : Kept). v.fields) (sym c.state.view_is) ∙ ap (take inside.fields) (sym old_is) in
    let room_is : c.args.state.now.room ≡ length old =
    ap (λ (v : Kept). v.room) (sym c.state.view_is) ∙ ap length (sym old_is) in
    let within : inside.fields ≤ length old = omega (arith, c.state.invariant, ap length old_is) in
    let enough : slot_count (filter_of tree) ≤ length old = omega (arith, c.requires.state.roomy) in
    let back : take inside.slots.len (new ++ drop (length new) inside.slots.items) ≡ new =
    given_back inside.slots.len new inside.slots.items
    (omega (arith, inside.slots.ok.0, ap length old_is)) (omega (arith, ap length old_is)) in
    let after = machine_of new c.run-result.new.io in
    let limits = c.routine-routine.result.now.limits in
    let window = g.W.Window.items c.args.window.now in
    let words = c.args.words.now.items in
    let io = fresh_io c.frame.inside.io.room words in
    let setting = setting_at (filter_of tree).members (port_within limits window) in
    let flat = c.routine-routine.result.now.flat in
    let setting_is : setting_in c.new-calls.result c.new-port.result ≡ setting =
    top_setting c.new-calls.result tree c.new-port.result c.new-calls.ensures.tree
    c.new-calls.ensures.levels
    ∙ ap (λ p. setting_at (filter_of tree).members p) c.new-port.ensures in
    let begun : c.begin.new.self ≡ io = search rules in
    let ran : Tells (node_done setting flat (machine_of old io)) c.run-result.result after =
    subst (λ s. Tells (node_done s flat (machine_of old io)) c.run-result.result after) setting_is
    (subst (λ i. Tells (node_done (setting_in c.new-calls.result c.new-port.result) flat
    (machine_of old i)) c.run-result.result after) begun c.run-result.ensures.tells) in
    let reported = subst (λ r. Tells r c.run-result.result after)
    (c.routine-routine.ensures.flat.does setting (machine_of old io)) ran in
    let answer = fire_answer tree c.args.body c.args.state.now.fields old inside.fields
    c.frame.inside.io.room limits window words
    (code_of c.routine-routine.result.now.code) c.run-result.result after
    c.routine-routine.ensures.closed c.routine-routine.ensures.code fields_are
    c.requires.state.one_for_each within enough c.routine-routine.ensures.limits (search rules)
    reported in
    let given = subst (λ l. Fires (fired (filter_of tree) c.args.body c.args.state.now.fields
    window) c.run-result.result (take inside.fields l) c.run-result.new.io.traffic.pushes
    words c.run-result.new.io.traffic.words) (sym back) answer.fires in
    search rules

pub returns-clause-silent : goal.returns-clause-silent
returns-clause-silent g c =
    let tree = c.args.code.now in
    let inside = c.state.inside in
    let old = c.deref_mut.result.now in
    let old_is = c.deref_mut.ensures.value in
    let fields_are : c.args.state.now.fields ≡ take inside.fields old =
    ap (λ (v : Kept). v.fields) (sym c.state.view_is) ∙ ap (take inside.fields) (sym old_is) in
    let room_is : c.args.state.now.room ≡ length old =
    ap (λ (v : Kept). v.room) (sym c.state.view_is) ∙ ap length (sym old_is) in
    let within : inside.fields ≤ length old = omega (arith, c.state.invariant, ap length old_is) in
    let enough : slot_count (filter_of tree) ≤ length old = omega (arith, c.requires.state.roomy) in
    let after = machine_of c.run-result.new.slots c.run-result.new.io in
    let limits = c.routine-routine.result.now.limits in
    let window = g.W.Window.items c.args.window.now in
    let words = c.args.words.now.items in
    let io = fresh_io c.frame.inside.io.room words in
    let setting = setting_at (filter_of tree).members (port_within limits window) in
    let flat = c.routine-routine.result.now.flat in
    let setting_is : setting_in c.new-calls.result c.new-port.result ≡ setting =
    top_setting c.new-calls.result tree c.new-port.result c.new-calls.ensures.tree
    c.new-calls.ensures.levels
    ∙ ap (λ p. setting_at (filter_of tree).members p) c.new-port.ensures in
    let begun : c.begin.new.self ≡ io = search rules in
    let ran : Tells (node_done setting flat (machine_of old io)) c.run-result.result after =
    subst (λ s. Tells (node_done s flat (machine_of old io)) c.run-result.result after) setting_is
    (subst (λ i. Tells (node_done (setting_in c.new-calls.result c.new-port.result) flat
    (machine_of old i)) c.run-result.result after) begun c.run-result.ensures.tells) in
    let reported = subst (λ r. Tells r c.run-result.result after)
    (c.routine-routine.ensures.flat.does setting (machine_of old io)) ran in
    let answer = fire_answer tree c.args.body c.args.state.now.fields old inside.fields
    c.frame.inside.io.room limits window words
    (code_of c.routine-routine.result.now.code) c.run-result.result after
    c.routine-routine.ensures.closed c.routine-routine.ensures.code fields_are
    c.requires.state.one_for_each within enough c.routine-routine.ensures.limits (search rules)
    reported in
    let wants = answer.wants in
    search rules

pub returns-clause-memory : goal.returns-clause-memory
returns-clause-memory g c =
    let tree = c.args.code.now in
    body_wants c.args.body (filter_of tree)
    (code_of c.routine-routine.result.now.code) c.run-result.result
    c.routine-routine.ensures.code
    (wants_as (nodes_print (code_of c.routine-routine.result.now.flat))
    (nodes_print (code_of c.routine-routine.result.now.code)) c.run-result.result
    c.routine-routine.ensures.flat.prints c.run-result.ensures.memory)

pub run-result-requires-clause-linked : goal.run-result-requires-clause-linked
run-result-requires-clause-linked g c =
    subst (λ t. IsLinked (helper_names (filter_of t).members) c.routine-routine.result.now.flat)
    (sym c.new-calls.ensures.tree) c.routine-routine.ensures.linked

pub run-result-requires-clause-runs : goal.run-result-requires-clause-runs
run-result-requires-clause-runs g c =
    let old_is = c.deref_mut.ensures.value in
    let room_is : c.args.state.now.room ≡ length c.deref_mut.result.now =
    ap (λ (v : Kept). v.room) (sym c.state.view_is) ∙ ap length (sym old_is) in
    omega (
      arith,
      callable_runs c.new-calls.result c.args.code.now c.new-calls.ensures.callable
          c.new-calls.ensures.tree,
      c.requires.state.roomy,
      room_is,
    )

pub run-result-requires-clause-saves : goal.run-result-requires-clause-saves
run-result-requires-clause-saves g c =
    let saved_is : c.args.frame.now.saved ≡ length c.deref_mut-2.result.now =
    ap (λ (v : Pushed). v.saved) (sym c.frame.view_is)
    ∙ ap length (sym c.deref_mut-2.ensures.value) in
    omega (
      arith,
      callable_saves c.new-calls.result c.args.code.now c.new-calls.ensures.callable
          c.new-calls.ensures.tree c.new-calls.ensures.levels,
      c.requires.frame.saves,
      saved_is,
    )
