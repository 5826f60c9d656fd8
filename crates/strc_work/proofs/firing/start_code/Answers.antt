use Rattle.std.proofs.Common.{◌≡◌, ◌≤◌, ◌++◌, [], Ok, Err, length, take, drop, replicate, pos, refl}
use Rattle.std.proofs.Common.{sym, ap, ◌∙◌, subst, arith, rules}
use Rattle.strc_work_meaning.specs.Filters.{filter_of}
use Rattle.strc_work_code.specs.Code.{code_of}
use Rattle.strc_work_instructions.specs.Running.{machine_of, port_within, fresh_io, Tells}
use Rattle.strc_work_code.specs.Flat.{node_done}
use Rattle.strc_work_code.specs.declared.limits.FiringLimits.{FiringLimits}
use Rattle.strc_work_code.specs.Lowering.{slot_count}
use Rattle.strc_work_code.specs.Links.{helper_names, IsLinked}
use Rattle.strc_work_meaning.specs.Firing.{started, setting_at}
use Rattle.strc_work.specs.Answers.{Starts}
use Rattle.strc_work.specs.Calls.{setting_in}
use Rattle.strc_work.proofs.TopCalls.{top_setting, callable_runs, callable_saves}
use Rattle.strc_work.proofs.Answering.{start_answer, start_halts, given_back}
use Rattle.strc_work.proofs.firing.start_code.Goals as goal

pub returns-in-Ok-run-clause-values : goal.returns-in-Ok-run-clause-values
returns-in-Ok-run-clause-values c =
    let tree = c.args.code.now in
    let routine = c.start_routine.result.now in
    let fields = c.field_count-fields.result in
    let old = c.deref_mut.result.now in
    let new = c.run.new.slots in
    let zeros : c.in-Ok.slots.items ≡ replicate c.slot_count.result (pos 0) =
    c.in-Ok.ensures.items_if_clones_equal (λ y h. search rules) in
    let old_is = c.deref_mut.ensures.value in
    let room : slot_count (filter_of tree) ≤ c.slot_count.result =
    omega (arith, c.slot_count.ensures) in
    let back : take c.in-Ok.slots.len (new ++ drop (length new) c.in-Ok.slots.items) ≡ new =
    given_back c.in-Ok.slots.len new c.in-Ok.slots.items
    (omega (arith, c.in-Ok.slots.ok.0, ap length old_is, c.run.auto.slots))
    (omega (arith, ap length old_is, c.run.auto.slots)) in
    let none = fresh_io (length c.new.result.items) [] in
    let limits : FiringLimits = record { pops = 0; peek = 0; pushes = 0 } in
    let setting = setting_at (filter_of tree).members (port_within limits []) in
    let setting_is : setting_in c.new-calls.result c.new-port.result ≡ setting =
    top_setting c.new-calls.result tree c.new-port.result c.new-calls.ensures.tree
    c.new-calls.ensures.levels
    ∙ ap (λ p. setting_at (filter_of tree).members p) c.new-port.ensures in
    let ran : Tells (node_done setting routine.flat (machine_of old none)) (Ok c.in-Ok-run.field-0)
    (machine_of new c.run.new.io) =
    subst (λ s. Tells (node_done s routine.flat (machine_of old none)) (Ok c.in-Ok-run.field-0)
    (machine_of new c.run.new.io)) setting_is
    (let told : Tells (node_done (setting_in c.new-calls.result c.new-port.result) routine.flat
    (machine_of old none)) (Ok c.in-Ok-run.field-0) (machine_of new c.run.new.io) = search rules in
    told) in
    let reported = start_answer tree old c.slot_count.result fields
    (length c.new.result.items) limits [] (code_of routine.code)
    (Ok c.in-Ok-run.field-0) (machine_of new c.run.new.io) c.start_routine.ensures.closed
    c.start_routine.ensures.code (old_is ∙ zeros) c.field_count-fields.ensures room refl
    (subst (λ r. Tells r (Ok c.in-Ok-run.field-0) (machine_of new c.run.new.io))
    (c.start_routine.ensures.flat.does setting (machine_of old none))
    ran) in
    reported ∙ ap (λ l. Ok (take fields l)) (sym back)

pub returns-in-Err-clause-values : goal.returns-in-Err-clause-values
returns-in-Err-clause-values c =
    let tree = c.args.code.now in
    let routine = c.start_routine.result.now in
    let fields = c.field_count-fields.result in
    let old = c.deref_mut.result.now in
    let new = c.run.new.slots in
    let zeros : c.in-Ok.slots.items ≡ replicate c.slot_count.result (pos 0) =
    c.in-Ok.ensures.items_if_clones_equal (λ y h. search rules) in
    let old_is = c.deref_mut.ensures.value in
    let room : slot_count (filter_of tree) ≤ c.slot_count.result =
    omega (arith, c.slot_count.ensures) in
    let none = fresh_io (length c.new.result.items) [] in
    let limits : FiringLimits = record { pops = 0; peek = 0; pushes = 0 } in
    let setting = setting_at (filter_of tree).members (port_within limits []) in
    let setting_is : setting_in c.new-calls.result c.new-port.result ≡ setting =
    top_setting c.new-calls.result tree c.new-port.result c.new-calls.ensures.tree
    c.new-calls.ensures.levels
    ∙ ap (λ p. setting_at (filter_of tree).members p) c.new-port.ensures in
    let ran : Tells (node_done setting routine.flat (machine_of old none)) (Err c.in-Err.halt)
    (machine_of new c.run.new.io) =
    subst (λ s. Tells (node_done s routine.flat (machine_of old none)) (Err c.in-Err.halt)
    (machine_of new c.run.new.io)) setting_is
    (let told : Tells (node_done (setting_in c.new-calls.result c.new-port.result) routine.flat
    (machine_of old none)) (Err c.in-Err.halt) (machine_of new c.run.new.io) = search rules in
    told) in
    let reported = start_answer tree old c.slot_count.result fields
    (length c.new.result.items) limits [] (code_of routine.code)
    (Err c.in-Err.halt) (machine_of new c.run.new.io) c.start_routine.ensures.closed
    c.start_routine.ensures.code (old_is ∙ zeros) c.field_count-fields.ensures room refl
    (subst (λ r. Tells r (Err c.in-Err.halt) (machine_of new c.run.new.io))
    (c.start_routine.ensures.flat.does setting (machine_of old none))
    ran) in
    subst (λ e. Starts (started (filter_of tree)) (Err e)) (sym c.start_error.ensures)
    (start_halts (started (filter_of tree)) c.in-Err.halt (take fields new) reported)

pub run-requires-clause-linked : goal.run-requires-clause-linked
run-requires-clause-linked c =
    subst (λ t. IsLinked (helper_names (filter_of t).members) c.start_routine.result.now.flat)
    (sym c.new-calls.ensures.tree) c.start_routine.ensures.linked

pub run-requires-clause-runs : goal.run-requires-clause-runs
run-requires-clause-runs c =
    let all : length c.deref_mut.result.now ≡ c.slot_count.result = search rules in
    omega (
      arith,
      callable_runs c.new-calls.result c.args.code.now c.new-calls.ensures.callable
          c.new-calls.ensures.tree,
      c.slot_count.ensures,
      all,
    )

pub run-requires-clause-saves : goal.run-requires-clause-saves
run-requires-clause-saves c =
    let all : length c.deref_mut-2.result.now ≡ c.saved_count.result = search rules in
    omega (
      arith,
      callable_saves c.new-calls.result c.args.code.now c.new-calls.ensures.callable
          c.new-calls.ensures.tree c.new-calls.ensures.levels,
      c.saved_count.ensures,
      all,
    )
