-- The lowest ready node fires as often as it can.
use Rattle.std.proofs.Common.{◌≡◌, ◌≢◌, ◌∙◌, sym, ap, subst, ℕ, zero, suc, ◌+◌, ◌-◌, ◌<◌, ◌≤◌, ◌==◌}
use Rattle.std.proofs.Common.{true, false, cond, List, length, set, get_or}
use Rattle.std.proofs.Common.{◌⊎◌, inl, inr, arith, eq-eqb, ne_eqb}
use mathlib.Core.Path.{fun_ext}
use Rattle.std.proofs.lemmas.Bool.{cases_eq, cases_lt, true≢false}
use Rattle.std.proofs.lemmas.List.{get_or-set_same, get_or-set_other, length-set, get_or_past}
use Rattle.std.proofs.lemmas.Option.{same_Some, slice_get-get_or}
use Rattle.strc_balance.specs.Balance.{count_at}
use Rattle.strc_balance.specs.NumberSets.{has_number}
use Rattle.strc_startup.specs.Grouping.{places_at}
use Rattle.strc_startup.specs.declared.channel_rates.ChannelRates.{ChannelRates}
use Rattle.strc_sched_orders.specs.Firings.{Firings, fired, FindsWindows}
use Rattle.strc_sched_orders.specs.Greedy.{IsNext, less_turns}
use Rattle.strc_sched_orders.specs.Network.{NetworkView, IsNetwork, size_of}
use Rattle.strc_sched_orders.specs.Progress.{count_bound, HasFirst, IsReady, ProgressView}
use Rattle.strc_sched_orders.specs.Progress.{IsSound, IsStuck}
use Rattle.strc_sched_orders.specs.Progress.{IsProgress, IsCompleteBut, EndsAt, FiresNext}
use Rattle.strc_sched_orders.proofs.FiringCounts.{turns_same, turns_other, fired_none}
use Rattle.strc_sched_orders.proofs.Exchange.{keeps_window, finds_later}
use Rattle.strc_sched_orders.proofs.Networks.{listed_end, end_listed, contains_at, nothing}

-- what has a count is there
pub counted_within : (counts : List ℕ) (node : ℕ) → 0 < count_at counts node → node < length counts
counted_within counts node some =
    elim (cases_lt node (length counts)) [
      | inl within ↦ within
      | inr past ↦ absurd (let none = get_or_past counts node 0 past in omega (arith, none, some))
    ]

-- a channel from a node to another one, or none of the first so many
data Leads (channels : List ChannelRates) (from to below : ℕ) : Type 0 where
  Does : (number : ℕ) → number < length channels
      → (get_or channels number nothing).source ≡ from
      → (get_or channels number nothing).target ≡ to → Leads channels from to below
  Not : ((number : ℕ) → number < below → number < length channels
      → (get_or channels number nothing).target ≡ to
      → (get_or channels number nothing).source ≢ from) → Leads channels from to below

leads_next : (channels : List ChannelRates) (from to below : ℕ)
    → Leads channels from to below → Leads channels from to (suc below)
leads_next channels from to below (Does number within source target) =
    Does number within source target
leads_next channels from to below (Not none) =
    elim (cases_lt below (length channels)) [
      | inl within ↦ elim (cases_eq (get_or channels below nothing).source from) [
        | inl same ↦ elim (cases_eq (get_or channels below nothing).target to) [
          | inl ends ↦ Does below within same ends
          | inr other ↦ Not (λ number less inside target. elim (cases_eq number below) [
            | inl it ↦ absurd (other (ap (λ n. (get_or channels n nothing).target) (sym it)
                ∙ target))
            | inr before ↦ none number (omega (arith, less, before)) inside target
          ])
        ]
        | inr apart ↦ Not (λ number less inside target. elim (cases_eq number below) [
          | inl it ↦ λ is. apart (ap (λ n. (get_or channels n nothing).source) (sym it) ∙ is)
          | inr before ↦ none number (omega (arith, less, before)) inside target
        ])
      ]
      | inr past ↦ Not (λ number less inside target.
          none number (omega (arith, less, inside, past)) inside target)
    ]

leads : (channels : List ChannelRates) (from to below : ℕ) → Leads channels from to below
leads channels from to zero = Not (λ number less inside target. absurd (omega (arith, less)))
leads channels from to (suc below) = leads_next channels from to below
    (leads channels from to below)

-- after so many firings of a node, of whose channels nothing is known then
abbrev pub fired_view : ProgressView → (node turns : ℕ) → (ready : List ℕ) → ProgressView
fired_view progress node turns ready = record {
  counts = set progress.counts node (count_at progress.counts node + turns);
  left = set progress.left node (count_at progress.left node - turns);
  found = set progress.found node 0;
  ready = ready;
}

pub counts_fired : (counts : List ℕ) (node turns : ℕ) → node < length counts
    → count_at (set counts node (count_at counts node + turns))
    ≡ fired (count_at counts) turns node
counts_fired counts node turns within = fun_ext (λ other.
    elim (cases_eq other node) [
      | inl same ↦
          let e = ap (count_at (set counts node (count_at counts node + turns))) same in
          let s = get_or-set_same counts node (count_at counts node + turns) 0 within in
          omega (arith, e, s, ap (count_at counts) same, turns_same turns node other same)
      | inr apart ↦
          let o = get_or-set_other counts node other (count_at counts node + turns) 0 apart in
          omega (arith, o, turns_other turns node other apart)
    ])

pub left_fired : (left : List ℕ) (node turns : ℕ) → node < length left
    → count_at (set left node (count_at left node - turns)) ≡ less_turns (count_at left) turns node
left_fired left node turns within = fun_ext (λ other.
    elim (cases_eq other node) [
      | inl same ↦
          let e = ap (count_at (set left node (count_at left node - turns))) same in
          let s = get_or-set_same left node (count_at left node - turns) 0 within in
          omega (arith, e, s, ap (count_at left) same, turns_same turns node other same)
      | inr apart ↦
          let o = get_or-set_other left node other (count_at left node - turns) 0 apart in
          omega (arith, o, turns_other turns node other apart)
    ])

module _ (network : NetworkView) (is : IsNetwork network) (progress : ProgressView)
    (all : IsProgress network progress) (node turns : ℕ) (rest : List ℕ)
    (there : has_number progress.ready node ≡ true)
    (lowest : (other : ℕ) → has_number progress.ready other ≡ true → node ≤ other)
    (others : (other : ℕ) → has_number rest other
    ≡ cond (other == node) false (has_number progress.ready other))
    (within : turns ≤ count_at progress.left node)
    (finds : (earlier : ℕ) → earlier < turns
    → FindsWindows network.channels (fired (count_at progress.counts) earlier node) node)
    (most : turns < count_at progress.left node
    → ¬ FindsWindows network.channels (fired (count_at progress.counts) turns node) node) where
  abbrev channels : List ChannelRates
  channels = network.channels

  abbrev counts : Firings
  counts = count_at progress.counts

  abbrev next : ProgressView
  next = fired_view progress node turns rest

  own : IsReady channels counts (count_at progress.left) node
  own = all.sound.ready node there

  pub in_left : node < length progress.left
  in_left = counted_within progress.left node own.0

  pub in_counts : node < length progress.counts
  in_counts = omega (arith, in_left, all.sound.counts, all.sound.left)

  pub in_found : node < length progress.found
  in_found = omega (arith, in_left, all.sound.found, all.sound.left)

  pub in_network : node < size_of network
  in_network = omega (arith, in_left, all.sound.left)

  pub few_turns : count_at progress.counts node + turns ≤ count_bound
  few_turns = omega (arith, all.sound.few node, within)

  some : 0 < turns
  some =
      elim (cases_lt 0 turns) [
        | inl enough ↦ enough
        | inr no_turn ↦
            let none : turns ≡ 0 = omega (arith, no_turn) in
            absurd (subst (λ t. ¬ FindsWindows channels (fired counts t node) node) none
            (most (omega (arith, own.0, none)))
            (subst (λ k. FindsWindows channels k node) (sym (fired_none counts node)) own.1))
      ]

  pub is_next : IsNext channels counts (count_at progress.left) turns node
  is_next = record {
    some = some;
    within = within;
    finds = finds;
    most = most;
    lowest = λ lower less left can.
        let not_lower = lowest lower (all.complete lower (left, can)) in
        omega (arith, less, not_lower);
  }

  grown : (other : ℕ) → counts other ≤ fired counts turns node other
  grown other = omega arith

  same_count : (other : ℕ) → other ≢ node → counts other ≡ fired counts turns node other
  same_count other apart = omega (arith, turns_other turns node other apart)

  new_counts : count_at next.counts ≡ fired counts turns node
  new_counts = counts_fired progress.counts node turns in_counts

  new_left : count_at next.left ≡ less_turns (count_at progress.left) turns node
  new_left = left_fired progress.left node turns in_left

  same_left : (other : ℕ) → other ≢ node → count_at next.left other ≡ count_at progress.left other
  same_left other apart = let e = ap (λ f. f other) new_left in
      omega (arith, e, turns_other turns node other apart)

  few : (other : ℕ) → count_at next.counts other + count_at next.left other ≤ count_bound
  few other =
      let c = ap (λ f. f other) new_counts in
      let l = ap (λ f. f other) new_left in
      elim (cases_eq other node) [
        | inl same ↦
            let old = all.sound.few node in
            let t = turns_same turns node other same in
            let a = ap (count_at progress.counts) same in
            let b = ap (count_at progress.left) same in
            omega (arith, c, l, t, a, b, within, old)
        | inr apart ↦
            omega (arith, c, l, turns_other turns node other apart, all.sound.few other)
      ]

  found_here : count_at next.found node ≡ 0
  found_here = get_or-set_same progress.found node 0 0 in_found

  found_other : (other : ℕ) → other ≢ node
      → count_at next.found other ≡ count_at progress.found other
  found_other other apart = get_or-set_other progress.found node other 0 0 apart

  found_within : (other : ℕ)
      → count_at next.found other ≤ length (places_at network.incoming other)
  found_within other =
      elim (cases_eq other node) [
        | inl same ↦ let e = ap (count_at next.found) same in omega (arith, e, found_here)
        | inr apart ↦ omega (arith, found_other other apart, all.sound.within other)
      ]

  windows : (other : ℕ) → HasFirst network (places_at network.incoming other)
      (fired counts turns node) (count_at next.found other)
  windows other place number rates less at here =
      elim (cases_eq other node) [
        | inl same ↦ let e = ap (count_at next.found) same in
            absurd (omega (arith, less, e, found_here))
        | inr apart ↦
            let target = listed_end network.incoming channels (λ r. r.target) is.incoming other
            number rates (contains_at (places_at network.incoming other) place number at) here in
            keeps_window rates counts (fired counts turns node) (grown rates.source)
            (same_count rates.target (λ e. apart (sym target ∙ e)))
            (all.sound.windows other place number rates
            (omega (arith, less, found_other other apart)) at here)
      ]

  in_rest : (other : ℕ) → other ≢ node → has_number rest other ≡ has_number progress.ready other
  in_rest other apart = others other
      ∙ ap (λ t. cond t false (has_number progress.ready other)) (ne_eqb other node apart)

  ready : (other : ℕ) → has_number rest other ≡ true
      → IsReady channels (fired counts turns node) (count_at next.left) other
  ready other has =
      elim (cases_eq other node) [
        | inl same ↦ absurd (true≢false (sym has ∙ others other
            ∙ ap (λ t. cond t false (has_number progress.ready other)) (eq-eqb other node same)))
        | inr apart ↦
            let old = all.sound.ready other (sym (in_rest other apart) ∙ has) in (
              omega (arith, old.0, same_left other apart),
              finds_later channels counts (fired counts turns node) other grown
                  (same_count other apart) old.1,
            )
      ]

  pub sound_fired : IsSound network next
  sound_fired = record {
    counts = length-set progress.counts node (count_at progress.counts node + turns)
        ∙ all.sound.counts;
    left = length-set progress.left node (count_at progress.left node - turns) ∙ all.sound.left;
    found = length-set progress.found node 0 ∙ all.sound.found;
    few = few;
    within = found_within;
    windows = λ other. subst (λ k. HasFirst network (places_at network.incoming other) k
        (count_at next.found other)) (sym new_counts) (windows other);
    ready = λ other has. subst (λ k. IsReady channels k (count_at next.left) other)
        (sym new_counts) (ready other has);
  }

  -- where no channel leads to it, another node finds what it found before
  found_before : (other : ℕ) → other ≢ node
      → ((number : ℕ) → number < length channels → number < length channels
      → (get_or channels number nothing).target ≡ other
      → (get_or channels number nothing).source ≢ node)
      → FindsWindows channels (fired counts turns node) other
      → FindsWindows channels counts other
  found_before other apart none find k d inside target =
      let rates = get_or channels k d in
      let same : get_or channels k nothing ≡ rates = at_any channels k nothing d inside in
      let source = none k inside inside (ap (λ r. r.target) same ∙ target) in
      keeps_window rates (fired counts turns node) counts
      (omega (arith, same_count rates.source (λ e. source (ap (λ r. r.source) same ∙ e))))
      (sym (same_count rates.target (λ e. apart (sym target ∙ e))))
      (find k d inside target)
    where
      at_any : (xs : List ChannelRates) (k : ℕ) (d e : ChannelRates) → k < length xs
          → get_or xs k d ≡ get_or xs k e
      at_any xs k d e inside = same_Some (get_or xs k d) (get_or xs k e)
          (sym (slice_get-get_or xs k d inside) ∙ slice_get-get_or xs k e inside)

  other_ready : (other : ℕ) → other ≢ node
      → IsReady channels (fired counts turns node) (count_at next.left) other
      → Leads channels node other (length channels)
      → (has_number rest other ≡ true) ⊎ EndsAt network (places_at network.outgoing node) other
  other_ready other apart can (Does number inside source target) =
      let rates = get_or channels number nothing in
      let here = slice_get-get_or channels number nothing inside in
      inr (
        number,
        end_listed network.outgoing channels (λ r. r.source) is.outgoing node number
            rates here source,
        end_listed network.incoming channels (λ r. r.target) is.incoming other
            number rates here target,
      )
  other_ready other apart can (Not none) =
      inl (in_rest other apart ∙ all.complete other (
        omega (arith, can.0, same_left other apart),
        found_before other apart none can.1,
      ))

  pub complete_fired : IsCompleteBut network next (EndsAt network (places_at network.outgoing node))
  complete_fired other can =
      let now = subst (λ k. IsReady channels k (count_at next.left) other) new_counts can in
      elim (cases_eq other node) [
        | inl same ↦
            let l = ap (λ f. f other) new_left in
            let t = turns_same turns node other same in
            let b = ap (count_at progress.left) same in
            absurd (most (omega (arith, now.0, l, t, b))
            (subst (FindsWindows channels (fired counts turns node)) same now.1))
        | inr apart ↦ other_ready other apart now (leads channels node other (length channels))
      ]

  pub fires_next : (now : ProgressView) → now ≡ next → FiresNext network progress now turns node
  fires_next now same =
      let fires : FiresNext network progress next turns node = record {
        there = in_network;
        next = is_next;
        counts = new_counts;
        left = new_left;
        sound = sound_fired;
        pending = complete_fired;
      } in
      subst (λ v. FiresNext network progress v turns node) (sym same) fires

-- where no node is ready, none can fire
pub none_ready : (network : NetworkView) (progress : ProgressView) → IsProgress network progress
    → ((node : ℕ) → has_number progress.ready node ≡ false)
    → IsStuck network.channels (count_at progress.counts) (count_at progress.left)
none_ready network progress is none node some finds =
    true≢false (sym (is.complete node (some, finds)) ∙ none node)

-- a node that is known to be ready is there
pub ready_in_counts : (network : NetworkView) (progress : ProgressView) (node : ℕ)
    → IsProgress network progress → has_number progress.ready node ≡ true
    → node < length progress.counts
ready_in_counts network progress node all there =
    let inside = counted_within progress.left node (all.sound.ready node there).0 in
    omega (arith, inside, all.sound.counts, all.sound.left)

pub ready_in_left : (network : NetworkView) (progress : ProgressView) (node : ℕ)
    → IsProgress network progress → has_number progress.ready node ≡ true
    → node < length progress.left
ready_in_left network progress node all there =
    counted_within progress.left node (all.sound.ready node there).0

pub ready_in_found : (network : NetworkView) (progress : ProgressView) (node : ℕ)
    → IsProgress network progress → has_number progress.ready node ≡ true
    → node < length progress.found
ready_in_found network progress node all there =
    let inside = counted_within progress.left node (all.sound.ready node there).0 in
    omega (arith, inside, all.sound.found, all.sound.left)

pub ready_in_network : (network : NetworkView) (progress : ProgressView) (node : ℕ)
    → IsProgress network progress → has_number progress.ready node ≡ true
    → node < size_of network
ready_in_network network progress node all there =
    let inside = counted_within progress.left node (all.sound.ready node there).0 in
    omega (arith, inside, all.sound.left)

-- with other nodes that are ready
abbrev pub same_but : ProgressView → (ready : List ℕ) → ProgressView
same_but progress ready = record {
  counts = progress.counts;
  left = progress.left;
  found = progress.found;
  ready = ready;
}

-- a view with these fields
pub same_view : (view progress : ProgressView) (node turns : ℕ) (rest : List ℕ)
    → view.counts ≡ set progress.counts node (count_at progress.counts node + turns)
    → view.left ≡ set progress.left node (count_at progress.left node - turns)
    → view.found ≡ set progress.found node 0 → view.ready ≡ rest
    → view ≡ fired_view progress node turns rest
same_view view progress node turns rest counts left found ready =
    ap (λ x. record { counts = x; left = view.left; found = view.found; ready = view.ready }) counts
    ∙ ap (λ x. record {
      counts = set progress.counts node (count_at progress.counts node + turns);
      left = x;
      found = view.found;
      ready = view.ready;
    }) left
    ∙ ap (λ x. record {
      counts = set progress.counts node (count_at progress.counts node + turns);
      left = set progress.left node (count_at progress.left node - turns);
      found = x;
      ready = view.ready;
    }) found
    ∙ ap (λ x. record {
      counts = set progress.counts node (count_at progress.counts node + turns);
      left = set progress.left node (count_at progress.left node - turns);
      found = set progress.found node 0;
      ready = x;
    }) ready
