-- What is known of a node after it was looked at.
use Rattle.std.proofs.Common.{◌≡◌, ◌≢◌, ◌∙◌, sym, ap, subst, ℕ, ◌+◌, ◌<◌, ◌≤◌, ◌==◌, true, cond}
use Rattle.std.proofs.Common.{List, length, set, get_or, slice_get, Some, ◌⊎◌, inl, inr, arith}
use Rattle.std.proofs.Common.{ne_eqb, eq-eqb, refl, zero, suc, [], ◌∷◌, drop, Contains}
use Rattle.std.proofs.Common.{length-drop}
use Rattle.std.proofs.lemmas.List.{drop_more}
use Rattle.std.proofs.lemmas.List.Elements.{Contains-append_cases}
use Rattle.std.proofs.lemmas.Bool.{cases_eq, false≢true}
use Rattle.std.proofs.lemmas.List.{get_or-set_same, get_or-set_other, length-set, length-replicate}
use Rattle.std.proofs.lemmas.Option.{slice_get-get_or}
use Rattle.strc_balance.specs.Balance.{count_at}
use Rattle.strc_balance.specs.NumberSets.{has_number}
use Rattle.strc_startup.specs.Grouping.{places_at}
use Rattle.strc_startup.specs.declared.channel_rates.ChannelRates.{ChannelRates}
use Rattle.strc_sched_orders.specs.Firings.{HasWindow, FindsWindows}
use Rattle.strc_sched_orders.specs.Network.{NetworkView, IsNetwork, size_of}
use Rattle.strc_sched_orders.specs.Progress.{count_bound, HasFirst, IsReady, ProgressView, IsSound}
use Rattle.strc_sched_orders.specs.Progress.{IsCompleteBut, EndsAt, IsUnseen, Begins, LooksAt}
use Rattle.strc_sched_orders.specs.Progress.{Completes}
use Rattle.strc_sched_orders.proofs.Buffering.{zero_counts}
use Rattle.strc_sched_orders.proofs.Firing.{counted_within}
use Rattle.strc_sched_orders.proofs.Networks.{finds_all, all_find, nothing, listed_within}
use Rattle.strc_sched_orders.proofs.Networks.{listed_end}

-- with what was found at a node, and with these ready nodes
abbrev pub looked : ProgressView → (node found : ℕ) → (ready : List ℕ) → ProgressView
looked progress node found ready = record {
  counts = progress.counts;
  left = progress.left;
  found = set progress.found node found;
  ready = ready;
}

-- where a channel of a node lacks its window, the node isn't ready
not_ready : (network : NetworkView) (is : IsNetwork network) (counts : ℕ → ℕ) (node found : ℕ)
    → found < length (places_at network.incoming node)
    → ((number : ℕ) (rates : ChannelRates)
    → slice_get (places_at network.incoming node) found ≡ Some number
    → slice_get network.channels number ≡ Some rates → ¬ HasWindow counts rates)
    → ¬ FindsWindows network.channels counts node
not_ready network is counts node found less lacks finds =
    let numbers = places_at network.incoming node in
    let number = get_or numbers found 0 in
    let at = slice_get-get_or numbers found 0 less in
    let inside = listed_within network.incoming network.channels (λ r. r.target) is.incoming node
    found 0 less in
    let rates = get_or network.channels number nothing in
    let there = slice_get-get_or network.channels number nothing inside in
    lacks number rates at there
    (all_find network is counts node finds (found + 1) found number rates (omega arith) at there)

module _ (network : NetworkView) (is : IsNetwork network) (progress : ProgressView)
    (sound : IsSound network progress) (node found : ℕ) (there : node < size_of network)
    (within : found ≤ length (places_at network.incoming node))
    (first : HasFirst network (places_at network.incoming node) (count_at progress.counts) found)
  where
    abbrev after : List ℕ
    after = set progress.found node found

    here : count_at after node ≡ found
    here = get_or-set_same progress.found node found 0 (omega (arith, there, sound.found))

    other_found : (other : ℕ) → other ≢ node → count_at after other ≡ count_at progress.found other
    other_found other apart = get_or-set_other progress.found node other found 0 apart

    all_within : (other : ℕ) → count_at after other ≤ length (places_at network.incoming other)
    all_within other =
        elim (cases_eq other node) [
          | inl same ↦ subst (λ n. count_at after n ≤ length (places_at network.incoming n))
              (sym same)
              (omega (arith, here, within))
          | inr apart ↦ omega (arith, other_found other apart, sound.within other)
        ]

    all_windows : (other : ℕ) → HasFirst network (places_at network.incoming other)
        (count_at progress.counts) (count_at after other)
    all_windows other =
        elim (cases_eq other node) [
          | inl same ↦ subst (λ n. HasFirst network (places_at network.incoming n)
              (count_at progress.counts) (count_at after n)) (sym same)
              (subst (HasFirst network (places_at network.incoming node) (count_at progress.counts))
              (sym here) first)
          | inr apart ↦ subst (HasFirst network (places_at network.incoming other)
              (count_at progress.counts)) (sym (other_found other apart)) (sound.windows other)
        ]

    sound_still : (ready : List ℕ)
        → ((other : ℕ) → has_number ready other ≡ true
        → IsReady network.channels (count_at progress.counts) (count_at progress.left) other)
        → IsSound network (looked progress node found ready)
    sound_still ready all = record {
      counts = sound.counts;
      left = sound.left;
      found = length-set progress.found node found ∙ sound.found;
      few = sound.few;
      within = all_within;
      windows = all_windows;
      ready = all;
    }

    -- a node that has firings left and finds all its windows is ready
    ready_more : (ready : List ℕ) → found ≡ length (places_at network.incoming node)
        → 0 < count_at progress.left node
        → ((other : ℕ) → has_number ready other
        ≡ cond (other == node) true (has_number progress.ready other))
        → (other : ℕ) → has_number ready other ≡ true
        → IsReady network.channels (count_at progress.counts) (count_at progress.left) other
    ready_more ready all some sets other has =
        elim (cases_eq other node) [
          | inl same ↦ subst (IsReady network.channels (count_at progress.counts)
              (count_at progress.left)) (sym same) (
                some,
                finds_all network is
                    (count_at progress.counts) node (subst (HasFirst network
                    (places_at network.incoming node) (count_at progress.counts)) all first),
              )
          | inr apart ↦ sound.ready other (sym (sets other
              ∙ ap (λ t. cond t true (has_number progress.ready other)) (ne_eqb other node apart))
              ∙ has)
        ]

    -- a node that is ready after all
    pub looked_ready : (ready : List ℕ) → found ≡ length (places_at network.incoming node)
        → 0 < count_at progress.left node
        → ((other : ℕ) → has_number ready other
        ≡ cond (other == node) true (has_number progress.ready other))
        → LooksAt network node progress (looked progress node found ready)
    looked_ready ready all some sets = record {
      sound = sound_still ready (ready_more ready all some sets);
      counts = refl;
      left = refl;
      kept = λ other has.
          elim (cases_eq other node) [
            | inl same ↦ sets other
                ∙ ap (λ t. cond t true (has_number progress.ready other)) (eq-eqb other node same)
            | inr apart ↦ sets other
                ∙ ap (λ t. cond t true (has_number progress.ready other)) (ne_eqb other node apart)
                ∙ has
          ];
      known = λ can. sets node
          ∙ ap (λ t. cond t true (has_number progress.ready node)) (eq-eqb node node refl);
    }

    -- a node that lacks a window
    pub looked_lacking : found < length (places_at network.incoming node)
        → ((number : ℕ) (rates : ChannelRates)
        → slice_get (places_at network.incoming node) found ≡ Some number
        → slice_get network.channels number ≡ Some rates
        → ¬ HasWindow (count_at progress.counts) rates)
        → LooksAt network node progress (looked progress node found progress.ready)
    looked_lacking less lacks = record {
      sound = sound_still progress.ready sound.ready;
      counts = refl;
      left = refl;
      kept = λ other has. has;
      known = λ can. absurd (not_ready network is (count_at progress.counts) node found less lacks
          can.1);
    }

-- a node that has no firings left
pub looked_spent : (network : NetworkView) (progress : ProgressView) (node : ℕ)
    → IsSound network progress → count_at progress.left node ≡ 0
    → LooksAt network node progress progress
looked_spent network progress node sound none = record {
  sound = sound;
  counts = refl;
  left = refl;
  kept = λ other has. has;
  known = λ can. absurd (let some = can.0 in omega (arith, none, some));
}

-- before any node was looked at
pub unseen_sound : (network : NetworkView) (counts left : List ℕ) (progress : ProgressView)
    → ((node : ℕ) → count_at counts node + count_at left node ≤ count_bound)
    → IsUnseen (size_of network) counts left progress → IsSound network progress
unseen_sound network counts left progress few unseen = record {
  counts = unseen.each;
  left = unseen.every;
  found = ap length unseen.found ∙ length-replicate {A = ℕ} (size_of network) 0;
  few = λ node. let k = ap (λ f. f node) unseen.counts in let l = ap (λ f. f node) unseen.left in
      omega (arith, k, l, few node);
  within = λ node. let none = found_none node in omega (arith, none);
  windows = λ node place number rates less at here.
      absurd (let none = found_none node in omega (arith, none, less));
  ready = λ node has. absurd (false≢true (sym (unseen.ready node) ∙ has));
}
  where
    found_none : (node : ℕ) → count_at progress.found node ≡ 0
    found_none node = ap (λ l. count_at l node) unseen.found
        ∙ ap (λ f. f node) (zero_counts (size_of network))

-- after all of them were
pub begins : (network : NetworkView) (counts left : List ℕ) (size : ℕ)
    (unseen progress : ProgressView)
    → IsUnseen size counts left unseen → Completes network unseen progress
    → Begins network counts left progress
begins network counts left size unseen progress before now = record {
  is_so = now.progress;
  counts = ap count_at now.counts ∙ before.counts;
  left = ap count_at now.left ∙ before.left;
}

-- one more of all nodes looked at
pub one_seen : (network : NetworkView) (before now : ProgressView) (node : ℕ)
    → IsCompleteBut network before (λ other. node ≤ other) → LooksAt network node before now
    → IsCompleteBut network now (λ other. node + 1 ≤ other)
one_seen network before now node complete looks other ready =
    let was = subst (λ l. IsReady network.channels (count_at before.counts) (count_at l) other)
    looks.left
    (subst (λ k. IsReady network.channels (count_at k) (count_at now.left) other) looks.counts
    ready) in
    elim (complete other was) [
      | inl has ↦ inl (looks.kept other has)
      | inr pending ↦ elim (cases_eq other node) [
        | inl same ↦ inl (subst (λ n. has_number now.ready n ≡ true) (sym same)
            (looks.known (subst (IsReady network.channels (count_at before.counts)
            (count_at before.left)) same was)))
        | inr apart ↦ inr (omega (arith, pending, apart))
      ]
    ]

-- all nodes looked at
pub all_seen : (network : NetworkView) (before now : ProgressView) (seen : ℕ)
    → size_of network ≤ seen → IsSound network now
    → IsCompleteBut network now (λ node. seen ≤ node)
    → now.counts ≡ before.counts → now.left ≡ before.left → Completes network before now
all_seen network before now seen all sound complete counts left = record {
  progress = record {
    sound = sound;
    complete = λ node ready.
        elim (complete node ready) [
          | inl has ↦ has
          | inr past ↦ absurd (let inside = counted_within now.left node ready.0 in
              omega (arith, inside, past, sound.left, all))
        ];
  };
  counts = counts;
  left = left;
}

-- all of some channels looked along
pub all_along : (network : NetworkView) (before now : ProgressView) (numbers : List ℕ) (place : ℕ)
    → length numbers ≤ place → IsSound network now
    → IsCompleteBut network now (EndsAt network (drop place numbers))
    → now.counts ≡ before.counts → now.left ≡ before.left → Completes network before now
all_along network before now numbers place all sound complete counts left = record {
  progress = record {
    sound = sound;
    complete = λ node ready.
        elim (complete node ready) [
          | inl has ↦ has
          | inr (number, (k, less, same), ends) ↦ absurd (omega (
            arith,
            less,
            all,
            length-drop place numbers,
          ))
        ];
  };
  counts = counts;
  left = left;
}

-- what is in a list from a place on is there, or further on
drop_cases : (numbers : List ℕ) (place number : ℕ) → place < length numbers
    → Contains (drop place numbers) number
    → (get_or numbers place 0 ≡ number) ⊎ Contains (drop (place + 1) numbers) number
drop_cases numbers place number within there =
    let rest = drop (place + 1) numbers in
    elim (Contains-append_cases (get_or numbers place 0 ∷ []) rest number
    (subst (λ l. Contains l number) (drop_more numbers place 0 within) there)) [
      | inl (zero, less, same) ↦ inl same
      | inl (suc k, less, same) ↦ absurd (omega (arith, less))
      | inr later ↦ inr later
    ]

-- one more channel looked along
pub looked_along : (network : NetworkView) (is : IsNetwork network) (before after : ProgressView)
    (numbers : List ℕ) (place : ℕ) (within : place < length numbers) (rates : ChannelRates)
    → slice_get network.channels (get_or numbers place 0) ≡ Some rates
    → after.counts ≡ before.counts → after.left ≡ before.left
    → ((other : ℕ) → has_number before.ready other ≡ true → has_number after.ready other ≡ true)
    → (IsReady network.channels (count_at before.counts) (count_at before.left) rates.target
    → has_number after.ready rates.target ≡ true)
    → IsCompleteBut network before (EndsAt network (drop place numbers))
    → IsCompleteBut network after (EndsAt network (drop (place + 1) numbers))
looked_along network is before after numbers place within rates there counts left kept known all
    node can =
    let old = subst (λ l. IsReady network.channels (count_at before.counts) (count_at l) node) left
    (subst (λ k. IsReady network.channels (count_at k) (count_at after.left) node) counts can) in
    elim (all node old) [
      | inl has ↦ inl (kept node has)
      | inr (number, waits, ends) ↦ elim (drop_cases numbers place number within waits) [
        | inl same ↦
            let target = listed_end network.incoming network.channels (λ r. r.target) is.incoming
            node number rates ends (ap (slice_get network.channels) (sym same) ∙ there) in
            inl (subst (λ n. has_number after.ready n ≡ true) target
            (known (subst (IsReady network.channels (count_at before.counts)
            (count_at before.left)) (sym target) old)))
        | inr later ↦ inr (number, later, ends)
      ]
    ]
