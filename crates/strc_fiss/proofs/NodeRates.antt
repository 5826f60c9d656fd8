-- The rates in a round of a node that is split, and of its parts.
use Rattle.std.proofs.Common.{◌≡◌, refl, sym, ap, ◌∙◌, subst, ℕ, zero, suc, ◌+◌, ◌*◌, ◌<◌, ◌≤◌}
use Rattle.std.proofs.Common.{arith, Bool, true, false, cond, List, [], length, slice_get}
use Rattle.std.proofs.Common.{Option, Some}
use Rattle.std.specs.Option.{option_map_or}
use Rattle.std.proofs.lemmas.Bool.{true≢false, lt-ltb}
use Rattle.std.proofs.lemmas.Option.{slice_get-get_or}
use Rattle.strc_elab_graph.specs.Graphs.{NodeCode, Filter, Identity, FileReader, FileWriter}
use Rattle.strc_elab_graph.specs.Graphs.{Splitter, Joiner, Scatter, Copy, Gather, input_ports}
use Rattle.strc_elab_graph.specs.Rates.{rate_at_0, at_ports, window_at, pushes_at, reach}
use Rattle.strc_elab_graph.specs.declared.graph.Fission.{Fission}
use Rattle.strc_startup.specs.Rates.{push_at, look_at}
use Rattle.strc_sched_orders.specs.RoundRates.{pops_in_round, round_pop}
use Rattle.strc_fiss.specs.Numbers.{is_dealt, last_of, last_part, base, each_part}
use Rattle.strc_fiss.specs.Splitting.{copied, part_of, part_code, code_at, new_code, port}
use Rattle.strc_fiss.specs.Ways.{is_alike, dealt}
use Rattle.strc_fiss.proofs.Joining.{alike_ports, copy_is, gather_is, dealt_code}
use Rattle.strc_fiss.proofs.Lookup.{part_there}
use Rattle.strc_fiss.proofs.Renaming.{last_dealt}

-- a node whose firings are dealt has these rates, at its one input port
pub record HasItsRates (code : NodeCode) (share : Fission) : Type 0 where
  pub narrow : share.pop ≤ share.window
  pub one_input : input_ports code ≡ 1
  pub looks_at : (port : ℕ) → window_at code 1 port ≡ rate_at_0 share.window port
  pub pops : (port : ℕ) → pops_in_round code port ≡ rate_at_0 share.pop port
  pub pushes : (port : ℕ) → pushes_at code 1 port ≡ rate_at_0 share.push port

pub alike_rates : (code : NodeCode) (count ways : ℕ) → is_alike (Some code) ≡ true
    → HasItsRates code (dealt (Some code) count ways)
alike_rates (Filter name filter) count ways alike = record {
  narrow = omega arith;
  one_input = (alike_ports (Filter name filter) alike).input;
  looks_at = λ port. refl;
  pops = λ port. refl;
  pushes = λ port. refl;
}
alike_rates Identity count ways alike = record {
  narrow = omega arith;
  one_input = refl;
  looks_at = λ port. refl;
  pops = λ port. refl;
  pushes = λ port. refl;
}
alike_rates (FileReader text) count ways alike = absurd (true≢false (sym alike))
alike_rates (FileWriter text) count ways alike = absurd (true≢false (sym alike))
alike_rates (Splitter splitter) count ways alike = absurd (true≢false (sym alike))
alike_rates (Joiner weights) count ways alike = absurd (true≢false (sym alike))
alike_rates (Scatter fission) count ways alike = absurd (true≢false (sym alike))
alike_rates (Copy copied fission) count ways alike = absurd (true≢false (sym alike))
alike_rates (Gather fission) count ways alike = absurd (true≢false (sym alike))

-- ---- the first and the last part

module _ (code : NodeCode) (share : Fission)
    (its : is_dealt share ≡ true → HasItsRates code share) where
  abbrev all : ℕ
  all = share.ways * share.firings

  all_pushes : (port : ℕ)
      → rate_at_0 (share.ways * share.firings * share.push) port
      ≡ share.ways * share.firings * rate_at_0 share.push port
  all_pushes zero = refl
  all_pushes (suc port) = omega arith

  last_pushes : (port : ℕ)
      → pushes_at (part_code code share (last_of share)) 1 port
      ≡ cond (is_dealt share) (share.ways * share.firings * pushes_at code 1 port)
      (pushes_at code 1 port)
  last_pushes port = by_test (is_dealt share) refl
    where
      by_test : (t : Bool) → is_dealt share ≡ t
          → pushes_at (cond t (part_of code share (cond t (suc share.ways) 0)) code) 1 port
          ≡ cond t (share.ways * share.firings * pushes_at code 1 port) (pushes_at code 1 port)
      by_test false e = refl
      by_test true e =
          ap (λ (c : NodeCode). pushes_at c 1 port) (gather_is code share)
          ∙ all_pushes port
          ∙ ap (λ (n : ℕ). share.ways * share.firings * n) (sym ((its e).pushes port))

  first_looks : (port : ℕ) → port < input_ports code
      → window_at (part_code code share 0) 1 port
      ≡ cond (is_dealt share) (reach share (share.ways * share.firings)) (window_at code 1 port)
  first_looks port less = by_test (is_dealt share) refl
    where
      by_test : (t : Bool) → is_dealt share ≡ t
          → window_at (cond t (part_of code share 0) code) 1 port
          ≡ cond t (reach share (share.ways * share.firings)) (window_at code 1 port)
      by_test false e = refl
      by_test true e =
          let only : 0 ≡ port = omega (arith, less, (its e).one_input) in
          subst (λ (p : ℕ). rate_at_0 (reach share (share.ways * share.firings)) p
          ≡ reach share (share.ways * share.firings)) only refl

  first_pops : (port : ℕ) → port < input_ports code
      → pops_in_round (part_code code share 0) port
      ≡ cond (is_dealt share) (share.ways * share.firings * share.pop) (pops_in_round code port)
  first_pops port less = by_test (is_dealt share) refl
    where
      by_test : (t : Bool) → is_dealt share ≡ t
          → pops_in_round (cond t (part_of code share 0) code) port
          ≡ cond t (share.ways * share.firings * share.pop) (pops_in_round code port)
      by_test false e = refl
      by_test true e =
          let only : 0 ≡ port = omega (arith, less, (its e).one_input) in
          subst (λ (p : ℕ). rate_at_0 (share.ways * share.firings * share.pop) p
          ≡ share.ways * share.firings * share.pop) only refl

  -- what it looks at and takes itself
  own_looks : (port : ℕ) → port < input_ports code
      → window_at code 1 port ≡ cond (is_dealt share) share.window (window_at code 1 port)
  own_looks port less = by_test (is_dealt share) refl
    where
      by_test : (t : Bool) → is_dealt share ≡ t
          → window_at code 1 port ≡ cond t share.window (window_at code 1 port)
      by_test false e = refl
      by_test true e =
          let only : 0 ≡ port = omega (arith, less, (its e).one_input) in
          (its e).looks_at port
          ∙ subst (λ (p : ℕ). rate_at_0 share.window p ≡ share.window) only refl

  own_pops : (port : ℕ) → port < input_ports code
      → pops_in_round code port ≡ cond (is_dealt share) share.pop (pops_in_round code port)
  own_pops port less = by_test (is_dealt share) refl
    where
      by_test : (t : Bool) → is_dealt share ≡ t
          → pops_in_round code port ≡ cond t share.pop (pops_in_round code port)
      by_test false e = refl
      by_test true e =
          let only : 0 ≡ port = omega (arith, less, (its e).one_input) in
          (its e).pops port
          ∙ subst (λ (p : ℕ). rate_at_0 share.pop p ≡ share.pop) only refl

-- ---- nodes by their numbers

module _ (share : ℕ → Fission) (nodes : List NodeCode) where
  abbrev new_nodes : List NodeCode
  new_nodes = each_part share (new_code share nodes) (length nodes)

  old_there : (v : ℕ) → v < length nodes → slice_get nodes v ≡ Some (code_at nodes v)
  old_there v less = slice_get-get_or nodes v (Joiner []) less

  module _ (v k : ℕ) (less : v < length nodes) (within : k ≤ last_part share v) where
    there : slice_get new_nodes (base share v + k) ≡ Some (new_code share nodes v k)
    there = part_there share (new_code share nodes) (length nodes) v k less within

    pub part_pushes : (p : ℕ) → push_at new_nodes 1 (port (base share v + k) p)
        ≡ pushes_at (new_code share nodes v k) 1 p
    part_pushes p = ap (λ (o : Option NodeCode). option_map_or (λ c. pushes_at c 1 p) o 0) there

    pub part_looks : (p : ℕ) → look_at new_nodes 1 (port (base share v + k) p)
        ≡ window_at (new_code share nodes v k) 1 p
    part_looks p = ap (λ (o : Option NodeCode). option_map_or (λ c. window_at c 1 p) o 0) there

    pub part_pops : (p : ℕ) → round_pop new_nodes (port (base share v + k) p)
        ≡ pops_in_round (new_code share nodes v k) p
    part_pops p = ap (λ (o : Option NodeCode). option_map_or (λ c. pops_in_round c p) o 0) there

  module _ (v : ℕ) (less : v < length nodes)
      (its : is_dealt (share v) ≡ true → HasItsRates (code_at nodes v) (share v)) where
    abbrev all_of : ℕ
    all_of = (share v).ways * (share v).firings

    old_pushes : (p : ℕ) → push_at nodes 1 (port v p) ≡ pushes_at (code_at nodes v) 1 p
    old_pushes p =
        ap (λ (o : Option NodeCode). option_map_or (λ c. pushes_at c 1 p) o 0) (old_there v less)

    old_looks : (p : ℕ) → look_at nodes 1 (port v p) ≡ window_at (code_at nodes v) 1 p
    old_looks p =
        ap (λ (o : Option NodeCode). option_map_or (λ c. window_at c 1 p) o 0) (old_there v less)

    old_pops : (p : ℕ) → round_pop nodes (port v p) ≡ pops_in_round (code_at nodes v) p
    old_pops p =
        ap (λ (o : Option NodeCode). option_map_or (λ c. pops_in_round c p) o 0)
        (old_there v less)

    -- what the last part gives
    pub given : (p : ℕ) → push_at new_nodes 1 (port (base share v + last_part share v) p)
        ≡ cond (is_dealt (share v)) (all_of * push_at nodes 1 (port v p))
        (push_at nodes 1 (port v p))
    given p =
        part_pushes v (last_part share v) less (omega arith) p
        ∙ last_pushes (code_at nodes v) (share v) its p
        ∙ ap (λ (n : ℕ). cond (is_dealt (share v)) (all_of * n) n) (sym (old_pushes p))

    -- what the first part looks at and takes, and what the node itself does
    module _ (p : ℕ) (has_port : p < input_ports (code_at nodes v)) where
      pub seen : look_at new_nodes 1 (port (base share v + 0) p)
          ≡ cond (is_dealt (share v)) (reach (share v) all_of) (look_at nodes 1 (port v p))
      seen =
          part_looks v 0 less (omega arith) p
          ∙ first_looks (code_at nodes v) (share v) its p has_port
          ∙ ap (λ (n : ℕ). cond (is_dealt (share v)) (reach (share v) all_of) n)
          (sym (old_looks p))

      pub taken : round_pop new_nodes (port (base share v + 0) p)
          ≡ cond (is_dealt (share v)) (all_of * (share v).pop) (round_pop nodes (port v p))
      taken =
          part_pops v 0 less (omega arith) p
          ∙ first_pops (code_at nodes v) (share v) its p has_port
          ∙ ap (λ (n : ℕ). cond (is_dealt (share v)) (all_of * (share v).pop) n)
          (sym (old_pops p))

      pub own_seen : look_at nodes 1 (port v p)
          ≡ cond (is_dealt (share v)) (share v).window (look_at nodes 1 (port v p))
      own_seen =
          old_looks p
          ∙ own_looks (code_at nodes v) (share v) its p has_port
          ∙ ap (λ (n : ℕ). cond (is_dealt (share v)) (share v).window n) (sym (old_looks p))

      pub own_taken : round_pop nodes (port v p)
          ≡ cond (is_dealt (share v)) (share v).pop (round_pop nodes (port v p))
      own_taken =
          old_pops p
          ∙ own_pops (code_at nodes v) (share v) its p has_port
          ∙ ap (λ (n : ℕ). cond (is_dealt (share v)) (share v).pop n) (sym (old_pops p))

    -- ---- the parts of one that is split

    module _ (split : is_dealt (share v) ≡ true) where
      abbrev code : NodeCode
      code = code_at nodes v

      last_is : last_part share v ≡ suc (share v).ways
      last_is = last_dealt (share v) split

      at_port : (rate p : ℕ) → p < (share v).ways → at_ports (share v).ways rate p ≡ rate
      at_port rate p inside = ap (λ (t : Bool). cond t rate 0) (lt-ltb p (share v).ways inside)

      pub scatter_gives : (i : ℕ) → i < (share v).ways
          → push_at new_nodes 1 (port (base share v + 0) i) ≡ reach (share v) (share v).firings
      scatter_gives i inside =
          part_pushes v 0 less (omega arith) i
          ∙ ap (λ (c : NodeCode). pushes_at c 1 i) (dealt_code code (share v) 0 split)
          ∙ at_port (reach (share v) (share v).firings) i inside

      copy_code : (i : ℕ) → i < (share v).ways
          → new_code share nodes v (suc i) ≡ Copy (copied code) (share v)
      copy_code i inside =
          dealt_code code (share v) (suc i) split ∙ copy_is code (share v) i inside

      pub copy_looks : (i : ℕ) → i < (share v).ways
          → look_at new_nodes 1 (port (base share v + suc i) 0) ≡ (share v).window
      copy_looks i inside =
          part_looks v (suc i) less (omega (arith, last_is, inside)) 0
          ∙ ap (λ (c : NodeCode). window_at c 1 0) (copy_code i inside)

      pub copy_pops : (i : ℕ) → i < (share v).ways
          → round_pop new_nodes (port (base share v + suc i) 0) ≡ (share v).pop
      copy_pops i inside =
          part_pops v (suc i) less (omega (arith, last_is, inside)) 0
          ∙ ap (λ (c : NodeCode). pops_in_round c 0) (copy_code i inside)

      pub copy_gives : (i : ℕ) → i < (share v).ways
          → push_at new_nodes 1 (port (base share v + suc i) 0) ≡ (share v).push
      copy_gives i inside =
          part_pushes v (suc i) less (omega (arith, last_is, inside)) 0
          ∙ ap (λ (c : NodeCode). pushes_at c 1 0) (copy_code i inside)

      gather_code : new_code share nodes v (suc (share v).ways) ≡ Gather (share v)
      gather_code =
          dealt_code code (share v) (suc (share v).ways) split ∙ gather_is code (share v)

      pub gather_looks : (i : ℕ) → i < (share v).ways
          → look_at new_nodes 1 (port (base share v + suc (share v).ways) i)
          ≡ (share v).firings * (share v).push
      gather_looks i inside =
          part_looks v (suc (share v).ways) less (omega (arith, last_is)) i
          ∙ ap (λ (c : NodeCode). window_at c 1 i) gather_code
          ∙ at_port ((share v).firings * (share v).push) i inside

      pub gather_pops : (i : ℕ) → i < (share v).ways
          → round_pop new_nodes (port (base share v + suc (share v).ways) i)
          ≡ (share v).firings * (share v).push
      gather_pops i inside =
          part_pops v (suc (share v).ways) less (omega (arith, last_is)) i
          ∙ ap (λ (c : NodeCode). pops_in_round c i) gather_code
          ∙ at_port ((share v).firings * (share v).push) i inside
