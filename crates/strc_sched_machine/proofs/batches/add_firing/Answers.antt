use Rattle.std.proofs.Common.{◌≡◌, ◌∙◌, refl, ap, sym, subst, All, ◌∷◌, [], ◌++◌, rules}
use Rattle.std.proofs.lemmas.List.Elements.{All-push}
use Rattle.strc_sched_rings.specs.Circuits.{circuit_view}
use Rattle.strc_sched_machine.specs.Batches.{IsBatch, batch_firings}
use Rattle.strc_sched_machine.proofs.BatchLists.{counts_more, one_more}
use Rattle.strc_sched_machine.proofs.batches.add_firing.Goals.{in-Some+else-last-node+in_ok-push-2}
use Rattle.strc_sched_machine.proofs.batches.add_firing.Goals.{in_default}
use Rattle.strc_sched_machine.proofs.batches.add_firing.Goals as goal

pub returns-then-last-lt4294967295-clause-firings :
    goal.returns-then-last-lt4294967295-clause-firings
returns-then-last-lt4294967295-clause-firings c =
    let last = c.in-Some.last in
    ap batch_firings c.in_ok-push.ensures.items
    ∙ counts_more c.pop.new.self.items last _ c.args.node c.if-last-node.true refl refl
    ∙ ap (λ l. batch_firings l ++ c.args.node ∷ []) (sym c.in-Some.ensures.items)

-- a batch that was taken away is there again
kept : (c : goal.In_ok-push-3) → c.match-pop.batches.items ≡ c.args.batches.now.items
kept c = elim c.match-pop.branch [
  | in-Some+else-last-node+in_ok-push-2 w ↦ ap (λ v. v.items) w.batches-is
      ∙ w.in_ok-push-2.ensures.items ∙ sym w.in-Some.ensures.items
  | in_default w ↦ search rules
]

pub returns-clause-ready : goal.returns-clause-ready
returns-clause-ready c =
    let circuit = circuit_view c.args.circuit.now in
    let before = c.args.batches.now.items in
    subst (All (IsBatch circuit))
    (sym (c.in_ok-push-3.ensures.items ∙ ap (λ l. l ++ c.batch_at.result ∷ []) (kept c)))
    (All-push (IsBatch circuit) before c.batch_at.result c.requires.batches
    c.batch_at.ensures.batch)

pub returns-clause-firings : goal.returns-clause-firings
returns-clause-firings c =
    ap batch_firings
    (c.in_ok-push-3.ensures.items ∙ ap (λ l. l ++ c.batch_at.result ∷ []) (kept c))
    ∙ one_more c.args.batches.now.items c.batch_at.result c.args.node c.batch_at.ensures.node
    c.batch_at.ensures.turns
