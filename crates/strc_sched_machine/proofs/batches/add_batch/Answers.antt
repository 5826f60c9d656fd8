use Rattle.std.proofs.Common.{◌≡◌, ◌∙◌, refl, ap, sym, subst, All, Some, ◌∷◌, [], ◌++◌, arith}
use Rattle.std.proofs.Common.{rules}
use Rattle.std.proofs.lemmas.List.Elements.{All-pop, All-push}
use Rattle.strc_sched_orders.specs.Order.{repeated}
use Rattle.strc_sched_rings.specs.Circuits.{circuit_view}
use Rattle.strc_sched_machine.specs.Batches.{AreBatches, IsBatch, all_firings}
use Rattle.strc_sched_machine.specs.declared.batches.BatchList.{BatchList}
use Rattle.strc_sched_machine.proofs.BatchLists.{batch_more, new_list}
use Rattle.strc_sched_machine.proofs.batches.add_batch.Goals.{in-Some+else-last-eq1+in_ok-push-3}
use Rattle.strc_sched_machine.proofs.batches.add_batch.Goals.{in_default}
use Rattle.strc_sched_machine.proofs.batches.add_batch.Goals as goal

pub returns-then-last-eq1-clause-ready : goal.returns-then-last-eq1-clause-ready
returns-then-last-eq1-clause-ready c =
    let circuit = circuit_view c.args.circuit.now in
    let before = c.pop.new.self.items in
    let last = c.in-Some.last in
    let were = All-pop (AreBatches circuit) c.args.lists.now.items before (Some last)
    c.in-Some.ensures.items c.requires.lists in
    let own = subst (All (IsBatch circuit)) (sym c.in_ok-push.ensures.items)
    (All-push (IsBatch circuit) last.batches.items c.args.batch were.1 c.requires.batch) in
    subst (All (AreBatches circuit)) (sym c.in_ok-push-2.ensures.items)
    (All-push (AreBatches circuit) before _ were.0 own)

pub returns-then-last-eq1-clause-firings : goal.returns-then-last-eq1-clause-firings
returns-then-last-eq1-clause-firings c =
    let own = repeated c.args.batch.turns (c.args.batch.node ∷ []) in
    ap all_firings c.in_ok-push-2.ensures.items
    ∙ batch_more c.pop.new.self.items c.in-Some.last _ c.args.batch c.if-last-eq1.true refl
    c.in_ok-push.ensures.items
    ∙ ap (λ l. all_firings l ++ own) (sym c.in-Some.ensures.items)

-- a list that was taken away is there again
kept : (c : goal.In_ok-push-5) → c.match-pop.lists.items ≡ c.args.lists.now.items
kept c = elim c.match-pop.branch [
  | in-Some+else-last-eq1+in_ok-push-3 w ↦ ap (λ v. v.items) w.lists-is
      ∙ w.in_ok-push-3.ensures.items ∙ sym w.in-Some.ensures.items
  | in_default w ↦ search rules
]

pub returns-clause-ready : goal.returns-clause-ready
returns-clause-ready c =
    let circuit = circuit_view c.args.circuit.now in
    let none = c.new-batches.result.items in
    let next : BatchList = record { turns = 1; batches = c.push-2.new.self } in
    let own = subst (All (IsBatch circuit)) (sym c.in_ok-push-4.ensures.items)
    (All-push (IsBatch circuit) none c.args.batch
    (subst (All (IsBatch circuit)) (sym c.new-batches.ensures.items)
    (λ k d less. absurd (omega (arith, less)))) c.requires.batch) in
    subst (All (AreBatches circuit))
    (sym (c.in_ok-push-5.ensures.items ∙ ap (λ l. l ++ next ∷ []) (kept c)))
    (All-push (AreBatches circuit) c.args.lists.now.items next c.requires.lists own)

pub returns-clause-firings : goal.returns-clause-firings
returns-clause-firings c =
    let next : BatchList = record { turns = 1; batches = c.push-2.new.self } in
    ap all_firings (c.in_ok-push-5.ensures.items ∙ ap (λ l. l ++ next ∷ []) (kept c))
    ∙ new_list c.args.lists.now.items next c.args.batch refl
    (c.in_ok-push-4.ensures.items ∙ ap (λ l. l ++ c.args.batch ∷ []) c.new-batches.ensures.items)
