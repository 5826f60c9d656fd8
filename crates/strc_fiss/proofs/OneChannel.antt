-- One channel by itself before fission and after it, and the channels between the parts of a node:
-- each as that of a graph in which it alone moves items.
use Rattle.std.proofs.Common.{◌≡◌, refl, sym, ap, ap₂, ◌∙◌, subst, ℕ, zero, suc, ◌*◌, ◌<◌}
use Rattle.std.proofs.Common.{◌≤◌, arith, Bool, true, false, cond, eqb, List, [], nat_lt}
use mathlib.Core.Path.{fun_ext}
use borrow.Author.Tests.{eqb-true, lt-ltb, le-ltb}
use Rattle.std.proofs.lemmas.Bool.{eq-eqb}
use Rattle.strc_elab_dataflow.specs.Node.{Meaning, Fired.Fires, total}
use Rattle.strc_elab_dataflow.specs.Flat.{Origin, Origin.Nowhere, Origin.Input, Origin.Port, Source}
use Rattle.strc_elab_dataflow.specs.Flat.{Graph}
use Rattle.strc_elab_dataflow.specs.Order.{supply, supply_of}
use Rattle.strc_elab_dataflow.specs.Rounds.{RepeatsRates}
use Rattle.strc_elab_dataflow.specs.Split.{all_firings, reach, Parts, outlet, renamed}
use Rattle.strc_elab_dataflow.specs.Blocks.{Block, AreBlocks, old_order, new_order}
use Rattle.strc_elab_dataflow.specs.SplitOrder.{IsSplitByCounts, HaveSplitRates, window_of, pop_of}
use Rattle.strc_elab_dataflow.specs.SplitOrder.{push_of}
use Rattle.strc_elab_dataflow.specs.Starting.{AreNumbered}
use Rattle.strc_elab_dataflow.proofs.Channels.{gives_to}
use Rattle.strc_elab_dataflow.proofs.Links.{Link, takes, Passes}
use Rattle.strc_elab_dataflow.proofs.Numbers.{numbers_apart, owner}
use Rattle.strc_elab_dataflow.proofs.RoundsParts.{outlet_split, outlet_kept}
use Rattle.strc_elab_dataflow.proofs.SplitOrder.{old_channel, to_copy_passes, from_copy_passes}

-- a channel from a node that gives so many items to it with each firing, to one that takes so many
abbrev pub a_gift : (source push : ℕ) → Link
a_gift source push = record { target = source; pop = push; window = 0; gives = λ node. 0 }

abbrev pub a_link : (source push target pop window : ℕ) → Link
a_link source push target pop window = record {
  target = target;
  pop = pop;
  window = window;
  gives = takes (a_gift source push);
}

-- the rates of a node of such a graph, each at all its ports
pub record Rates : Type 0 where
  pub ports : ℕ
  pub window : ℕ
  pub pop : ℕ
  pub push : ℕ

abbrev moving : Meaning Rates ℕ ℕ ℕ
moving = record {
  start = λ code. 0;
  ports = λ code. code.ports;
  window = λ code firing port. code.window;
  popped = λ code firing port. code.pop;
  pushed = λ code firing port. code.push;
  fire = λ code firing state inputs. Fires state (λ port. []) [];
}

repeats_rates : (graph : Graph Rates) (counts : ℕ → ℕ) → RepeatsRates moving graph counts
repeats_rates graph counts = record {
  windows_repeat = λ node firing port less. refl;
  pops_repeat = λ node firing port less. refl;
  pushes_repeat = λ node firing port less. refl;
}

-- the node of an origin
origin_node : Origin → ℕ
origin_node Nowhere = 0
origin_node Input = 0
origin_node (Port node port) = node

module _ (parts : Parts) (base : ℕ → ℕ) (are : AreNumbered parts base)
    (some : (v : ℕ) → parts.is_split v ≡ true → 0 < all_firings (parts.share v))
    (narrow : (v : ℕ) → parts.is_split v ≡ true → (parts.share v).pop ≤ (parts.share v).window)
  where
    module _ (s push t pop window : ℕ) (apart : parts.is_split t ≡ true → s ≡ t → ⊥) where
      abbrev plain : Rates
      plain = record { ports = 1; window = window; pop = pop; push = push }

      abbrev split_node : ℕ → Rates
      split_node v = record {
        ports = 1;
        window = (parts.share v).window;
        pop = (parts.share v).pop;
        push = push;
      }

      abbrev scatter : ℕ → Rates
      scatter v = record {
        ports = 1;
        window = reach (parts.share v) (all_firings (parts.share v));
        pop = all_firings (parts.share v) * (parts.share v).pop;
        push = reach (parts.share v) (parts.share v).firings;
      }

      abbrev copy : ℕ → Rates
      copy v = record {
        ports = 1;
        window = (parts.share v).window;
        pop = (parts.share v).pop;
        push = (parts.share v).push;
      }

      abbrev gather : ℕ → Rates
      gather v = record {
        ports = (parts.share v).ways;
        window = (parts.share v).firings * (parts.share v).push;
        pop = (parts.share v).firings * (parts.share v).push;
        push = all_firings (parts.share v) * push;
      }

      abbrev old_rates : ℕ → Rates
      old_rates u = cond (parts.is_split u) (split_node u) plain

      abbrev part_rates : (v part : ℕ) → Rates
      part_rates v zero = cond (parts.is_split v) (scatter v) plain
      part_rates v (suc i) = cond (nat_lt i (parts.share v).ways) (copy v) (gather v)

      abbrev old_origin : ℕ → Origin
      old_origin u = cond (eqb u t) (Port s 0) Nowhere

      abbrev from : Origin → Source
      from origin = record { enqueued = []; origin = origin }

      abbrev part_source : (v part port : ℕ) → Source
      part_source v zero port = from (renamed parts (old_origin v))
      part_source v (suc i) port = from (cond (nat_lt i (parts.share v).ways)
          (Port (parts.name v 0) i) (Port (parts.name v (suc port)) 0))

      abbrev node_of : ℕ → ℕ
      node_of number = (owner parts base are number).0

      abbrev part_of : ℕ → ℕ
      part_of number = (owner parts base are number).1

      abbrev old : Graph Rates
      old = record {
        size = 0;
        code = old_rates;
        source = λ u port. from (old_origin u);
      }

      abbrev new : Graph Rates
      new = record {
        size = 0;
        code = λ n. part_rates (node_of n) (part_of n);
        source = λ n port. part_source (node_of n) (part_of n) port;
      }

      owner_is : (v k : ℕ) → k ≤ outlet parts v
          → (node_of (parts.name v k) ≡ v) × (part_of (parts.name v k) ≡ k)
      owner_is v k less =
          let own = owner parts base are (parts.name v k) in
          numbers_apart parts base are own.0 own.1 v k own.2.within less own.2.is

      code_is : (v k : ℕ) → k ≤ outlet parts v → new.code (parts.name v k) ≡ part_rates v k
      code_is v k less =
          let own = owner_is v k less in
          ap (λ (n : ℕ). part_rates n (part_of (parts.name v k))) own.0
          ∙ ap (part_rates v) own.1

      source_is : (v k port : ℕ) → k ≤ outlet parts v
          → new.source (parts.name v k) port ≡ part_source v k port
      source_is v k port less =
          let own = owner_is v k less in
          ap (λ (n : ℕ). part_source n (part_of (parts.name v k)) port) own.0
          ∙ ap (λ (n : ℕ). part_source v n port) own.1

      -- ---- the nodes

      kept_old : (u : ℕ) → parts.is_split u ≡ false → old_rates u ≡ plain
      kept_old u kept = ap (λ (b : Bool). cond b (split_node u) plain) kept

      kept_new : (u : ℕ) → parts.is_split u ≡ false → new.code (parts.name u 0) ≡ plain
      kept_new u kept =
          code_is u 0 (omega arith) ∙ ap (λ (b : Bool). cond b (scatter u) plain) kept

      kept_same : (u : ℕ) → parts.is_split u ≡ false → new.code (parts.name u 0) ≡ old_rates u
      kept_same u kept = kept_new u kept ∙ sym (kept_old u kept)

      split_old : (v : ℕ) → parts.is_split v ≡ true → old_rates v ≡ split_node v
      split_old v split = ap (λ (b : Bool). cond b (split_node v) plain) split

      scatter_is : (v : ℕ) → parts.is_split v ≡ true → new.code (parts.name v 0) ≡ scatter v
      scatter_is v split =
          code_is v 0 (omega arith) ∙ ap (λ (b : Bool). cond b (scatter v) plain) split

      last : (v : ℕ) → parts.is_split v ≡ true → outlet parts v ≡ suc (parts.share v).ways
      last v split = outlet_split parts v split

      copy_is : (v i : ℕ) → parts.is_split v ≡ true → i < (parts.share v).ways
          → new.code (parts.name v (suc i)) ≡ copy v
      copy_is v i split less =
          code_is v (suc i) (omega (arith, last v split, less))
          ∙ ap (λ (b : Bool). cond b (copy v) (gather v)) (lt-ltb i (parts.share v).ways less)

      gather_is : (v : ℕ) → parts.is_split v ≡ true
          → new.code (parts.name v (suc (parts.share v).ways)) ≡ gather v
      gather_is v split =
          code_is v (suc (parts.share v).ways) (omega (arith, last v split))
          ∙ ap (λ (b : Bool). cond b (copy v) (gather v))
          (le-ltb (parts.share v).ways (parts.share v).ways (omega arith))

      one_push : (u : ℕ) → (old_rates u).push ≡ push
      one_push u = by_test (parts.is_split u)
        where
          by_test : (b : Bool) → (cond b (split_node u) plain).push ≡ push
          by_test true = refl
          by_test false = refl

      one_port : (u : ℕ) → (old_rates u).ports ≡ 1
      one_port u = by_test (parts.is_split u)
        where
          by_test : (b : Bool) → (cond b (split_node u) plain).ports ≡ 1
          by_test true = refl
          by_test false = refl

      first_port : (u : ℕ) → (part_rates u 0).ports ≡ 1
      first_port u = by_test (parts.is_split u)
        where
          by_test : (b : Bool) → (cond b (scatter u) plain).ports ≡ 1
          by_test true = refl
          by_test false = refl

      no_loop : (v port : ℕ) → parts.is_split v ≡ true → old_origin v ≡ Port v port → ⊥
      unfolding origin_node
      no_loop v port split = by_test (eqb v t) refl
        where
          by_test : (b : Bool) → eqb v t ≡ b → cond b (Port s 0) Nowhere ≡ Port v port → ⊥
          by_test true e same =
              let at : v ≡ t = eqb-true v t e in
              let gives : s ≡ v = ap origin_node same in
              apart (sym (ap parts.is_split at) ∙ split) (gives ∙ at)
          by_test false e same = absurd (cc)

      supply_first : (g : Graph Rates) (origin : Origin)
          → supply moving g [] (λ v. 0) (from origin) ≡ 0
      unfolding supply supply_of total
      supply_first g Nowhere = omega arith
      supply_first g Input = omega arith
      supply_first g (Port node port) = omega arith

      covered : (node port : ℕ)
          → total (λ (firing : ℕ) (p : ℕ). (new.code node).pop) 0 port
          ≤ supply moving new [] (λ v. 0) (new.source node port)
      unfolding total
      covered node port = omega arith

      rates : (v : ℕ) → parts.is_split v ≡ true
          → HaveSplitRates moving old new [] parts (λ w. 0) (λ w. 0) v (parts.share v)
      unfolding window_of pop_of push_of
      rates v split = record {
        one_port = one_port v;
        window = ap (λ (c : Rates). c.window) (split_old v split);
        pop = ap (λ (c : Rates). c.pop) (split_old v split);
        narrow = narrow v split;
        some = some v split;
        no_loop = λ port e. no_loop v port split e;
        scatter_port = ap (λ (c : Rates). c.ports) (scatter_is v split);
        scatter_window = ap (λ (c : Rates). c.window) (scatter_is v split);
        scatter_pop = ap (λ (c : Rates). c.pop) (scatter_is v split);
        scatter_push = λ i less. ap (λ (c : Rates). c.push) (scatter_is v split);
        copy_port = λ i less. ap (λ (c : Rates). c.ports) (copy_is v i split less);
        copy_window = λ i less. ap (λ (c : Rates). c.window) (copy_is v i split less);
        copy_pop = λ i less. ap (λ (c : Rates). c.pop) (copy_is v i split less);
        copy_push = λ i less. ap (λ (c : Rates). c.push) (copy_is v i split less);
        gather_ports = ap (λ (c : Rates). c.ports) (gather_is v split);
        gather_window = λ i less. ap (λ (c : Rates). c.window) (gather_is v split);
        gather_pop = λ i less. ap (λ (c : Rates). c.pop) (gather_is v split);
        gather_push = λ q. ap (λ (c : Rates). c.push) (gather_is v split)
            ∙ ap (λ (n : ℕ). all_firings (parts.share v) * n) (sym (one_push v));
        to_copy = λ i less.
            ap (λ (o : Source). o.origin)
            (source_is v (suc i) 0 (omega (arith, last v split, less)))
            ∙ ap (λ (b : Bool). cond b (Port (parts.name v 0) i) (Port (parts.name v 1) 0))
            (lt-ltb i (parts.share v).ways less);
        from_copy = λ i less.
            ap (λ (o : Source). o.origin)
            (source_is v (suc (parts.share v).ways) i (omega (arith, last v split)))
            ∙ ap (λ (b : Bool). cond b (Port (parts.name v 0) (parts.share v).ways)
            (Port (parts.name v (suc i)) 0))
            (le-ltb (parts.share v).ways (parts.share v).ways (omega arith));
        copy_covered = λ i less. covered (parts.name v (suc i)) 0;
        gather_covered = λ i less. covered (parts.name v (suc (parts.share v).ways)) i;
      }

      by_counts : IsSplitByCounts moving old new [] parts (λ v. 0) (λ v. 0)
      unfolding window_of pop_of push_of total
      by_counts = record {
        apart = numbers_apart parts base are;
        owner = owner parts base are;
        ports = λ u. ap (λ (c : Rates). c.ports) (code_is u 0 (omega arith)) ∙ first_port u
            ∙ sym (one_port u);
        window = λ u port kept. ap (λ (c : Rates). c.window) (kept_same u kept);
        pop = λ u port kept. ap (λ (c : Rates). c.pop) (kept_same u kept);
        push = λ u port kept. ap (λ (c : Rates). c.push) (kept_same u kept);
        inputs = λ u port less. ap (λ (o : Source). o.origin) (source_is u 0 port (omega arith));
        full = λ u port less. record {
          fuller = omega (arith, supply_first old (old_origin u));
        };
        split = rates;
      }

      -- ---- the channel

      abbrev none : ℕ → ℕ
      none = λ v. 0

      abbrev made : (target pop window : ℕ) (gives : ℕ → ℕ) → Link
      made target pop window gives = record {
        target = target;
        pop = pop;
        window = window;
        gives = gives;
      }

      here : old_origin t ≡ Port s 0
      here = ap (λ (b : Bool). cond b (Port s 0) Nowhere) (eq-eqb t t refl)

      old_gives : gives_to moving old [] (λ v. 0) (repeats_rates old (λ v. 0)) (old_origin t)
          ≡ takes (a_gift s push)
      unfolding gives_to takes
      old_gives =
          ap (gives_to moving old [] (λ v. 0) (repeats_rates old (λ v. 0))) here
          ∙ fun_ext (λ w. ap (λ (n : ℕ). cond (eqb w s) n 0) (one_push s))

      -- what the last part of the source gives
      abbrev new_push : ℕ
      new_push = cond (parts.is_split s) (all_firings (parts.share s) * push) push

      last_push : (new.code (parts.name s (outlet parts s))).push ≡ new_push
      last_push = by_test (parts.is_split s) refl
        where
          by_test : (b : Bool) → parts.is_split s ≡ b
              → (new.code (parts.name s (outlet parts s))).push
              ≡ cond b (all_firings (parts.share s) * push) push
          by_test true split =
              ap (λ (k : ℕ). (new.code (parts.name s k)).push) (last s split)
              ∙ ap (λ (c : Rates). c.push) (gather_is s split)
          by_test false kept =
              ap (λ (k : ℕ). (new.code (parts.name s k)).push) (outlet_kept parts s kept)
              ∙ ap (λ (c : Rates). c.push) (kept_new s kept)

      new_gives : gives_to moving new [] (λ v. 0) (repeats_rates new (λ v. 0))
          (renamed parts (old_origin t))
          ≡ takes (a_gift (parts.name s (outlet parts s)) new_push)
      unfolding gives_to takes renamed
      new_gives =
          ap (λ (o : Origin). gives_to moving new [] (λ v. 0) (repeats_rates new (λ v. 0))
          (renamed parts o)) here
          ∙ fun_ext (λ w. ap (λ (n : ℕ). cond (eqb w (parts.name s (outlet parts s))) n 0)
          last_push)

      -- what the target looks at and takes, and what its first part does
      abbrev old_pop : ℕ
      old_pop = cond (parts.is_split t) (parts.share t).pop pop

      abbrev old_window : ℕ
      old_window = cond (parts.is_split t) (parts.share t).window window

      abbrev new_pop : ℕ
      new_pop = cond (parts.is_split t) (all_firings (parts.share t) * (parts.share t).pop) pop

      abbrev new_window : ℕ
      new_window = cond (parts.is_split t)
          (reach (parts.share t) (all_firings (parts.share t))) window

      target_rates : ((old_rates t).pop ≡ old_pop) × ((old_rates t).window ≡ old_window)
          × ((part_rates t 0).pop ≡ new_pop) × ((part_rates t 0).window ≡ new_window)
      target_rates = by_test (parts.is_split t)
        where
          by_test : (b : Bool)
              → ((cond b (split_node t) plain).pop ≡ cond b (parts.share t).pop pop)
              × ((cond b (split_node t) plain).window ≡ cond b (parts.share t).window window)
              × ((cond b (scatter t) plain).pop
              ≡ cond b (all_firings (parts.share t) * (parts.share t).pop) pop)
              × ((cond b (scatter t) plain).window
              ≡ cond b (reach (parts.share t) (all_firings (parts.share t))) window)
          by_test true = (refl, refl, refl, refl)
          by_test false = (refl, refl, refl, refl)

      link_before : made t (old_rates t).pop (old_rates t).window
          (gives_to moving old [] (λ v. 0) (repeats_rates old (λ v. 0)) (old_origin t))
          ≡ a_link s push t old_pop old_window
      link_before =
          ap (made t (old_rates t).pop (old_rates t).window) old_gives
          ∙ ap₂ (λ (p w : ℕ). made t p w (takes (a_gift s push))) target_rates.0 target_rates.1

      first_rates : new.code (parts.name t 0) ≡ part_rates t 0
      first_rates = code_is t 0 (omega arith)

      link_behind : made (parts.name t 0) (new.code (parts.name t 0)).pop
          (new.code (parts.name t 0)).window
          (gives_to moving new [] (λ v. 0) (repeats_rates new (λ v. 0))
          (renamed parts (old_origin t)))
          ≡ a_link (parts.name s (outlet parts s)) new_push (parts.name t 0) new_pop new_window
      link_behind =
          ap (made (parts.name t 0) (new.code (parts.name t 0)).pop
          (new.code (parts.name t 0)).window) new_gives
          ∙ ap₂ (λ (p w : ℕ). made (parts.name t 0) p w
          (takes (a_gift (parts.name s (outlet parts s)) new_push)))
          (ap (λ (c : Rates). c.pop) first_rates ∙ target_rates.2)
          (ap (λ (c : Rates). c.window) first_rates ∙ target_rates.3)

      -- where the round before fission passes the channel, the one after it does
      pub channel_passes : (blocks : List Block) → AreBlocks parts blocks → (g taken : ℕ)
          → Passes (a_link s push t old_pop old_window) g taken (old_order parts blocks)
          → Passes (a_link (parts.name s (outlet parts s)) new_push (parts.name t 0) new_pop
          new_window) g taken (new_order parts blocks)
      channel_passes blocks own g taken passes =
          subst (λ (link : Link). Passes link g taken (new_order parts blocks)) link_behind
          (old_channel moving old new [] parts (λ v. 0) (λ v. 0) (repeats_rates old (λ v. 0))
          (repeats_rates new (λ v. 0)) by_counts t 0 (omega (arith, one_port t)) blocks own g taken
          g taken (omega arith)
          (subst (λ (link : Link). Passes link g taken (old_order parts blocks)) (sym link_before)
          passes))

    -- ---- the channels between the parts of a node

    away : parts.is_split 0 ≡ true → suc 0 ≡ 0 → ⊥
    away split e = omega (arith, e)

    module _ (v i : ℕ) (split : parts.is_split v ≡ true) (less : i < (parts.share v).ways) where
      abbrev inside : Graph Rates
      inside = new 1 0 0 0 0 away

      scatter_gives : gives_to moving inside [] (λ w. 0) (repeats_rates inside (λ w. 0))
          (Port (parts.name v 0) i)
          ≡ takes (a_gift (parts.name v 0) (reach (parts.share v) (parts.share v).firings))
      unfolding gives_to takes
      scatter_gives = fun_ext (λ w. ap (λ (c : Rates). cond (eqb w (parts.name v 0)) c.push 0)
          (scatter_is 1 0 0 0 0 away v split))

      copy_gives : gives_to moving inside [] (λ w. 0) (repeats_rates inside (λ w. 0))
          (Port (parts.name v (suc i)) 0)
          ≡ takes (a_gift (parts.name v (suc i)) (parts.share v).push)
      unfolding gives_to takes
      copy_gives = fun_ext (λ w. ap (λ (c : Rates). cond (eqb w (parts.name v (suc i))) c.push 0)
          (copy_is 1 0 0 0 0 away v i split less))

      to_copy_link : made 1 0 0 0 0 away (parts.name v (suc i))
          (inside.code (parts.name v (suc i))).pop (inside.code (parts.name v (suc i))).window
          (gives_to moving inside [] (λ w. 0) (repeats_rates inside (λ w. 0))
          (Port (parts.name v 0) i))
          ≡ a_link (parts.name v 0) (reach (parts.share v) (parts.share v).firings)
          (parts.name v (suc i)) (parts.share v).pop (parts.share v).window
      to_copy_link =
          ap (made 1 0 0 0 0 away (parts.name v (suc i)) (inside.code (parts.name v (suc i))).pop
          (inside.code (parts.name v (suc i))).window) scatter_gives
          ∙ ap (λ (c : Rates). made 1 0 0 0 0 away (parts.name v (suc i)) c.pop c.window
          (takes (a_gift (parts.name v 0) (reach (parts.share v) (parts.share v).firings))))
          (copy_is 1 0 0 0 0 away v i split less)

      from_copy_link : made 1 0 0 0 0 away (parts.name v (suc (parts.share v).ways))
          (inside.code (parts.name v (suc (parts.share v).ways))).pop
          (inside.code (parts.name v (suc (parts.share v).ways))).window
          (gives_to moving inside [] (λ w. 0) (repeats_rates inside (λ w. 0))
          (Port (parts.name v (suc i)) 0))
          ≡ a_link (parts.name v (suc i)) (parts.share v).push
          (parts.name v (suc (parts.share v).ways))
          ((parts.share v).firings * (parts.share v).push)
          ((parts.share v).firings * (parts.share v).push)
      from_copy_link =
          ap (made 1 0 0 0 0 away (parts.name v (suc (parts.share v).ways))
          (inside.code (parts.name v (suc (parts.share v).ways))).pop
          (inside.code (parts.name v (suc (parts.share v).ways))).window) copy_gives
          ∙ ap (λ (c : Rates). made 1 0 0 0 0 away (parts.name v (suc (parts.share v).ways)) c.pop
          c.window (takes (a_gift (parts.name v (suc i)) (parts.share v).push)))
          (gather_is 1 0 0 0 0 away v split)

      pub copies_pass : (blocks : List Block) → AreBlocks parts blocks
          → Passes (a_link (parts.name v 0) (reach (parts.share v) (parts.share v).firings)
          (parts.name v (suc i)) (parts.share v).pop (parts.share v).window) 0 0
          (new_order parts blocks)
      copies_pass blocks own =
          subst (λ (link : Link). Passes link 0 0 (new_order parts blocks)) to_copy_link
          (to_copy_passes moving (old 1 0 0 0 0 away) inside [] parts (λ w. 0) (λ w. 0)
          (repeats_rates (old 1 0 0 0 0 away) (λ w. 0)) (repeats_rates inside (λ w. 0))
          (by_counts 1 0 0 0 0 away) v split i less blocks own 0 0 (omega arith))

      pub gathers_pass : (blocks : List Block) → AreBlocks parts blocks
          → Passes (a_link (parts.name v (suc i)) (parts.share v).push
          (parts.name v (suc (parts.share v).ways))
          ((parts.share v).firings * (parts.share v).push)
          ((parts.share v).firings * (parts.share v).push)) 0 0 (new_order parts blocks)
      gathers_pass blocks own =
          subst (λ (link : Link). Passes link 0 0 (new_order parts blocks)) from_copy_link
          (from_copy_passes moving (old 1 0 0 0 0 away) inside [] parts (λ w. 0) (λ w. 0)
          (repeats_rates (old 1 0 0 0 0 away) (λ w. 0)) (repeats_rates inside (λ w. 0))
          (by_counts 1 0 0 0 0 away) v split i less blocks own 0 0 (omega arith))
