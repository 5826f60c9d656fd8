use Rattle.std.proofs.Common.{◌≡◌, ◌∙◌, refl, sym, ap, subst, ◌<◌, ◌≤◌, All, length, slice_get}
use Rattle.std.proofs.Common.{Some, arith}
use Rattle.std.proofs.lemmas.List.{get_or_read_under}
use Rattle.strc_sched_orders.specs.Firings.{HasWindow}
use Rattle.strc_balance.specs.Balance.{count_at}
use Rattle.strc_startup.specs.Grouping.{places_at}
use Rattle.strc_sched_orders.specs.Progress.{HasFirst, IsSound, ProgressView, LooksAt}
use Rattle.strc_sched_orders.proofs.Networks.{listed_within}
use Rattle.strc_sched_orders.proofs.Looking.{looked, looked_ready, looked_lacking, looked_spent}
use Rattle.strc_sched_orders.proofs.progress.Progress.look_at.Goals as goal

pub returns-then-index-eq0 : goal.returns-then-index-eq0
returns-then-index-eq0 c =
    let network = c.args.network.now in
    let node = c.args.node in
    let inside = c.self.inside in
    let view : ProgressView = record {
      counts = inside.counts.items;
      left = inside.left.items;
      found = inside.found.items;
      ready = inside.ready;
    } in
    let sound : IsSound network view = subst (IsSound network)
    (sym c.self.view_is) c.requires.sound in
    let own = get_or_read_under inside.left.items node
    (length inside.left.items) c.index.result.now 0 c.index.ensures
    (omega (arith, c.requires.node, sound.left)) refl in
    let none : count_at view.left node ≡ 0 = omega (arith, own, c.if-index-eq0.true) in
    subst (λ p. LooksAt network node p p) c.self.view_is
    (looked_spent network view node sound none)

pub found_from-found-requires-clause-numbers : goal.found_from-found-requires-clause-numbers
found_from-found-requires-clause-numbers c =
    let network = c.args.network.now in
    let is = c.incoming-incoming.ensures.network in
    subst (All (λ number. number < length network.channels))
    (sym c.incoming-incoming.ensures.numbers)
    (listed_within network.incoming network.channels (λ r. r.target) is.incoming c.args.node)

pub returns-in_ok-add : goal.returns-in_ok-add
returns-in_ok-add c =
    let network = c.args.network.now in
    let node = c.args.node in
    let is = c.incoming-incoming.ensures.network in
    let inside = c.self.inside in
    let view : ProgressView = record {
      counts = inside.counts.items;
      left = inside.left.items;
      found = inside.found.items;
      ready = inside.ready;
    } in
    let sound : IsSound network view = subst (IsSound network)
    (sym c.self.view_is) c.requires.sound in
    let numbers = c.incoming-incoming.ensures.numbers in
    let found = c.found_from-found.result in
    let within = subst (λ l. found ≤ length l) numbers c.found_from-found.ensures.within in
    let first = subst (λ l. HasFirst network l (count_at view.counts) found) numbers
    (subst (λ k. HasFirst network c.incoming-incoming.result.now (count_at k) found)
    c.deref.ensures.value c.found_from-found.ensures.first) in
    let own = get_or_read_under inside.left.items node
    (length inside.left.items) c.index.result.now 0 c.index.ensures
    (omega (arith, c.requires.node, sound.left)) refl in
    let some : 0 < count_at view.left node = omega (arith, own, c.if-index-eq0.false) in
    let all = c.if-found-incoming.true ∙ ap length numbers in
    subst (λ p. LooksAt network node p (looked view node found c.add.new.self)) c.self.view_is
    (looked_ready network is view sound node found c.requires.node within first c.add.new.self all
    some c.in_ok-add.ensures)

pub returns-else-found-incoming : goal.returns-else-found-incoming
returns-else-found-incoming c =
    let network = c.args.network.now in
    let node = c.args.node in
    let is = c.incoming-incoming.ensures.network in
    let inside = c.self.inside in
    let view : ProgressView = record {
      counts = inside.counts.items;
      left = inside.left.items;
      found = inside.found.items;
      ready = inside.ready;
    } in
    let sound : IsSound network view = subst (IsSound network)
    (sym c.self.view_is) c.requires.sound in
    let numbers = c.incoming-incoming.ensures.numbers in
    let found = c.found_from-found.result in
    let within = subst (λ l. found ≤ length l) numbers c.found_from-found.ensures.within in
    let first = subst (λ l. HasFirst network l (count_at view.counts) found) numbers
    (subst (λ k. HasFirst network c.incoming-incoming.result.now (count_at k) found)
    c.deref.ensures.value c.found_from-found.ensures.first) in
    let less : found < length (places_at network.incoming node) =
    omega (
      arith,
      ap length numbers,
      c.found_from-found.ensures.within,
      c.if-found-incoming.false,
    ) in
    subst (λ p. LooksAt network node p (looked view node found view.ready)) c.self.view_is
    (looked_lacking network is view sound node found c.requires.node within first less
    (λ number rates at there has. c.found_from-found.ensures.last number rates
    (subst (λ l. slice_get l found ≡ Some number) (sym numbers) at) there
    (subst (λ k. HasWindow (count_at k) rates) (sym c.deref.ensures.value) has)))
