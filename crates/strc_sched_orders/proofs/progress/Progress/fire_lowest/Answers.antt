use Rattle.std.proofs.Common.{◌∙◌, refl, sym, ap, subst, ℕ, List, ◌<◌, ◌≤◌, length, arith}
use Rattle.std.proofs.lemmas.List.{get_or_read_under}
use Rattle.strc_balance.specs.Balance.{count_at}
use Rattle.strc_sched_orders.specs.Firings.{fired, FindsWindows}
use Rattle.strc_sched_orders.specs.Progress.{ProgressView, IsProgress, IsStuck, FiresNext}
use Rattle.strc_sched_orders.proofs.Firing.{ready_in_counts, ready_in_left, ready_in_found}
use Rattle.strc_sched_orders.proofs.Firing.{same_but}
use Rattle.strc_sched_orders.proofs.Firing.{ready_in_network, none_ready, same_view, fires_next}
use Rattle.strc_sched_orders.proofs.progress.Progress.fire_lowest.Goals as goal

pub returns-in_default-clause-stuck : goal.returns-in_default-clause-stuck
returns-in_default-clause-stuck c =
    let network = c.args.network.now in
    let inside = c.self.inside in
    let view : ProgressView = record {
      counts = inside.counts.items;
      left = inside.left.items;
      found = inside.found.items;
      ready = inside.ready;
    } in
    let all : IsProgress network view = subst (IsProgress network)
    (sym c.self.view_is) c.requires in (
      subst (λ (v : ProgressView). IsStuck network.channels (count_at v.counts) (count_at v.left))
          c.self.view_is (none_ready network view all c.in_default.ensures.none),
      ap (λ (r : List ℕ). same_but view r) c.in_default.ensures.same ∙ c.self.view_is,
    )

pub turns_at-turns-requires-clause-node : goal.turns_at-turns-requires-clause-node
turns_at-turns-requires-clause-node c =
    let network = c.args.network.now in
    let node = c.in-Some.node in
    let inside = c.self.inside in
    let view : ProgressView = record {
      counts = inside.counts.items;
      left = inside.left.items;
      found = inside.found.items;
      ready = inside.ready;
    } in
    let all : IsProgress network view = subst (IsProgress network)
    (sym c.self.view_is) c.requires in
    ready_in_network network view node all c.in-Some.ensures.there

pub turns_at-turns-requires-clause-each : goal.turns_at-turns-requires-clause-each
turns_at-turns-requires-clause-each c =
    let network = c.args.network.now in
    let inside = c.self.inside in
    let view : ProgressView = record {
      counts = inside.counts.items;
      left = inside.left.items;
      found = inside.found.items;
      ready = inside.ready;
    } in
    let all : IsProgress network view = subst (IsProgress network)
    (sym c.self.view_is) c.requires in
    ap length c.deref.ensures.value ∙ all.sound.counts

pub turns_at-turns-requires-clause-few : goal.turns_at-turns-requires-clause-few
turns_at-turns-requires-clause-few c other =
    let network = c.args.network.now in
    let inside = c.self.inside in
    let view : ProgressView = record {
      counts = inside.counts.items;
      left = inside.left.items;
      found = inside.found.items;
      ready = inside.ready;
    } in
    let all : IsProgress network view = subst (IsProgress network)
    (sym c.self.view_is) c.requires in
    let e = ap (λ l. count_at l other) c.deref.ensures.value in
    omega (arith, e, all.sound.few other)

pub turns_at-turns-requires-clause-room : goal.turns_at-turns-requires-clause-room
turns_at-turns-requires-clause-room c =
    let network = c.args.network.now in
    let node = c.in-Some.node in
    let inside = c.self.inside in
    let view : ProgressView = record {
      counts = inside.counts.items;
      left = inside.left.items;
      found = inside.found.items;
      ready = inside.ready;
    } in
    let all : IsProgress network view = subst (IsProgress network)
    (sym c.self.view_is) c.requires in
    let own = get_or_read_under inside.left.items node (length inside.left.items) c.index.result.now
    0 c.index.ensures (ready_in_left network view node all c.in-Some.ensures.there) refl in
    let e = ap (λ l. count_at l node) c.deref.ensures.value in
    omega (arith, e, own, all.sound.few node)

pub fire-requires-clause-there : goal.fire-requires-clause-there
fire-requires-clause-there c =
    let network = c.args.network.now in
    let node = c.in-Some.node in
    let inside = c.self.inside in
    let view : ProgressView = record {
      counts = inside.counts.items;
      left = inside.left.items;
      found = inside.found.items;
      ready = inside.ready;
    } in
    let all : IsProgress network view = subst (IsProgress network)
    (sym c.self.view_is) c.requires in
    ready_in_counts network view node all c.in-Some.ensures.there

pub fire-requires-clause-yet : goal.fire-requires-clause-yet
fire-requires-clause-yet c =
    let network = c.args.network.now in
    let node = c.in-Some.node in
    let inside = c.self.inside in
    let view : ProgressView = record {
      counts = inside.counts.items;
      left = inside.left.items;
      found = inside.found.items;
      ready = inside.ready;
    } in
    let all : IsProgress network view = subst (IsProgress network)
    (sym c.self.view_is) c.requires in
    ready_in_left network view node all c.in-Some.ensures.there

pub fire-requires-clause-known : goal.fire-requires-clause-known
fire-requires-clause-known c =
    let network = c.args.network.now in
    let node = c.in-Some.node in
    let inside = c.self.inside in
    let view : ProgressView = record {
      counts = inside.counts.items;
      left = inside.left.items;
      found = inside.found.items;
      ready = inside.ready;
    } in
    let all : IsProgress network view = subst (IsProgress network)
    (sym c.self.view_is) c.requires in
    ready_in_found network view node all c.in-Some.ensures.there

pub fire-requires-clause-left : goal.fire-requires-clause-left
fire-requires-clause-left c =
    let network = c.args.network.now in
    let node = c.in-Some.node in
    let inside = c.self.inside in
    let view : ProgressView = record {
      counts = inside.counts.items;
      left = inside.left.items;
      found = inside.found.items;
      ready = inside.ready;
    } in
    let all : IsProgress network view = subst (IsProgress network)
    (sym c.self.view_is) c.requires in
    let own = get_or_read_under inside.left.items node (length inside.left.items) c.index.result.now
    0 c.index.ensures (ready_in_left network view node all c.in-Some.ensures.there) refl in
    subst (λ n. c.turns_at-turns.result ≤ n) own c.turns_at-turns.ensures.within

pub fire-requires-clause-few : goal.fire-requires-clause-few
fire-requires-clause-few c =
    let network = c.args.network.now in
    let node = c.in-Some.node in
    let inside = c.self.inside in
    let view : ProgressView = record {
      counts = inside.counts.items;
      left = inside.left.items;
      found = inside.found.items;
      ready = inside.ready;
    } in
    let all : IsProgress network view = subst (IsProgress network)
    (sym c.self.view_is) c.requires in
    let own = get_or_read_under inside.left.items node (length inside.left.items) c.index.result.now
    0 c.index.ensures (ready_in_left network view node all c.in-Some.ensures.there) refl in
    omega (arith, own, c.turns_at-turns.ensures.within, all.sound.few node)

pub returns-clause-next : goal.returns-clause-next
returns-clause-next c =
    let network = c.args.network.now in
    let node = c.in-Some.node in
    let turns = c.turns_at-turns.result in
    let inside = c.self.inside in
    let view : ProgressView = record {
      counts = inside.counts.items;
      left = inside.left.items;
      found = inside.found.items;
      ready = inside.ready;
    } in
    let all : IsProgress network view = subst (IsProgress network)
    (sym c.self.view_is) c.requires in
    let there = c.in-Some.ensures.there in
    let own = get_or_read_under inside.left.items node (length inside.left.items) c.index.result.now
    0 c.index.ensures (ready_in_left network view node all there) refl in
    let counts = c.deref.ensures.value in
    let rest = c.take_lowest.new.self in
    subst (λ (v : ProgressView). FiresNext network v c.fire.new.self turns node) c.self.view_is
    (fires_next network c.turns_at-turns.ensures.network view all node turns rest there
    c.in-Some.ensures.lowest c.in-Some.ensures.others
    (subst (λ n. turns ≤ n) own c.turns_at-turns.ensures.within)
    (subst (λ k. (earlier : ℕ) → earlier < turns
    → FindsWindows network.channels (fired (count_at k) earlier node) node) counts
    c.turns_at-turns.ensures.finds)
    (subst (λ n. turns < n → ¬ FindsWindows network.channels
    (fired (count_at view.counts) turns node)
    node) own
    (subst (λ k. turns < c.index.result.now
    → ¬ FindsWindows network.channels (fired (count_at k) turns node) node) counts
    c.turns_at-turns.ensures.most))
    c.fire.new.self (same_view c.fire.new.self view node turns rest c.fire.ensures.counts
    c.fire.ensures.left c.fire.ensures.found c.fire.ensures.ready))
