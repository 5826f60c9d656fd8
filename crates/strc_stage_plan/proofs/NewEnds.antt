-- Channels after fission join ports that carry items, of different nodes.
use Rattle.std.proofs.Common.{◌≡◌, refl, sym, ap, ◌∙◌, subst, ℕ, suc, ◌+◌, ◌<◌, ◌≤◌, arith, List}
use Rattle.std.proofs.Common.{[], length, slice_get, Bool, true, false, cond, Option, Some, None}
use Rattle.std.proofs.Common.{true≢false, lt-ltb}
use Rattle.std.specs.Prelude.{nat_lt}
use Rattle.std.specs.Option.{option_map_or}
use Rattle.std.proofs.lemmas.Option.{slice_get-get_or, slice_get_within, same_Some}
use Rattle.strc_elab_dataflow.specs.Flat as flat
use Rattle.strc_elab_graph.specs.Carriers.{carries_in, carries_out, takes_at, gives_at}
use Rattle.strc_elab_graph.specs.Carriers.{JoinsCarriers}
use Rattle.strc_elab_graph.specs.Graphs.{Channel, Graph, NodeCode, Filter, Identity, FileReader}
use Rattle.strc_elab_graph.specs.Graphs.{FileWriter, Splitter, Joiner, Scatter, Copy, Gather}
use Rattle.strc_elab_graph.specs.declared.graph.Fission.{Fission}
use Rattle.strc_sched_laws.specs.ByChannels.{IsByChannels}
use Rattle.strc_fiss.specs.Numbers.{is_dealt, last_part, base}
use Rattle.strc_fiss.specs.Splitting.{part_of, code_at, copied, new_code, split_graph, to_copy}
use Rattle.strc_fiss.specs.Splitting.{from_copy, renamed_channel}
use Rattle.strc_fiss.specs.Ways.{is_alike}
use Rattle.strc_fiss.proofs.Each.{Each, all_each}
use Rattle.strc_fiss.proofs.Joining.{alike_ports, copy_is, gather_is, dealt_code}
use Rattle.strc_fiss.proofs.Lookup.{part_there}
use Rattle.strc_fiss.proofs.Renaming.{last_dealt}
use Rattle.strc_stage_plan.proofs.Members.{In, each_in, each_from}
use Rattle.strc_stage_plan.proofs.NewChannels.{apart, copy_within, gather_within, new_channels}
use Rattle.strc_stage_plan.proofs.NewChannels.{each_new}
use Rattle.strc_stage_plan.proofs.Sources.{in_there}

-- the one port of a node that can be split carries items

alike_carries : (code : NodeCode) → is_alike (Some code) ≡ true → (port : ℕ)
    → (carries_in code port ≡ nat_lt port 1) × (carries_out code port ≡ nat_lt port 1)
alike_carries (Filter name filter) e port = (
  ap (nat_lt port) (alike_ports (Filter name filter) e).input,
  ap (nat_lt port) (alike_ports (Filter name filter) e).output,
)
alike_carries Identity e port = (refl, refl)
alike_carries (FileReader text) e port = absurd (true≢false (sym e))
alike_carries (FileWriter text) e port = absurd (true≢false (sym e))
alike_carries (Splitter splitter) e port = absurd (true≢false (sym e))
alike_carries (Joiner weights) e port = absurd (true≢false (sym e))
alike_carries (Scatter fission) e port = absurd (true≢false (sym e))
alike_carries (Copy copied fission) e port = absurd (true≢false (sym e))
alike_carries (Gather fission) e port = absurd (true≢false (sym e))

found_in : (test : NodeCode → Bool) (found : Option NodeCode)
    → option_map_or test found false ≡ true
    → (code : NodeCode) × (found ≡ Some code) × (test code ≡ true)
found_in test None e = absurd (true≢false (sym e))
found_in test (Some code) e = (code, refl, e)

-- a channel leads to another node
abbrev pub LeadsOn : Channel → Type 0
LeadsOn channel = channel.source.node ≡ channel.target.node → ⊥

module _ (share : ℕ → Fission) (graph : Graph) (greatest last : List ℕ)
    (alike : (v : ℕ) → is_dealt (share v) ≡ true → is_alike (slice_get graph.nodes v) ≡ true)
    (old_flat : flat.Graph NodeCode) (by : IsByChannels old_flat graph) where
  abbrev pub new : Graph
  new = split_graph share graph greatest last

  abbrev nodes : List NodeCode
  nodes = graph.nodes

  -- ---- codes

  old_there : (u : ℕ) → u < length graph.nodes
      → slice_get graph.nodes u ≡ Some (code_at graph.nodes u)
  old_there u inside = slice_get-get_or graph.nodes u (Joiner []) inside

  pub new_there : (u part : ℕ) → u < length graph.nodes → part ≤ last_part share u
      → slice_get new.nodes (base share u + part) ≡ Some (new_code share graph.nodes u part)
  new_there u part inside within =
      part_there share (new_code share graph.nodes) (length graph.nodes) u part inside within

  dealt_alike : (u : ℕ) → u < length graph.nodes → is_dealt (share u) ≡ true
      → is_alike (Some (code_at graph.nodes u)) ≡ true
  dealt_alike u inside dealt =
      subst (λ (o : Option NodeCode). is_alike o ≡ true) (old_there u inside) (alike u dealt)

  -- the first part takes what the node took
  pub first_takes : (u port : ℕ) → u < length graph.nodes
      → carries_in (new_code share graph.nodes u 0) port ≡ carries_in (code_at graph.nodes u) port
  first_takes u port inside = by_test (is_dealt (share u)) refl
    where
      by_test : (t : Bool) → is_dealt (share u) ≡ t
          → carries_in (cond t (part_of (code_at graph.nodes u) (share u) 0)
          (code_at graph.nodes u)) port
          ≡ carries_in (code_at graph.nodes u) port
      by_test false whole = refl
      by_test true dealt = sym (alike_carries (code_at graph.nodes u)
          (dealt_alike u inside dealt) port).0

  -- and the last part gives what it gave
  last_gives : (u port : ℕ) → u < length graph.nodes
      → carries_out (new_code share graph.nodes u (last_part share u)) port
      ≡ carries_out (code_at graph.nodes u) port
  last_gives u port inside = by_test (is_dealt (share u)) refl
    where
      by_test : (t : Bool) → is_dealt (share u) ≡ t
          → carries_out (cond t (part_of (code_at graph.nodes u) (share u) (last_part share u))
          (code_at graph.nodes u)) port
          ≡ carries_out (code_at graph.nodes u) port
      by_test false whole = refl
      by_test true dealt =
          ap (λ (n : ℕ). carries_out (part_of (code_at graph.nodes u) (share u) n) port)
          (last_dealt (share u) dealt)
          ∙ ap (λ (c : NodeCode). carries_out c port) (gather_is (code_at graph.nodes u) (share u))
          ∙ sym (alike_carries (code_at graph.nodes u) (dealt_alike u inside dealt) port).1

  pub new_takes : (u part port : ℕ) → u < length graph.nodes → part ≤ last_part share u
      → takes_at new.nodes (base share u + part) port
      ≡ carries_in (new_code share graph.nodes u part) port
  new_takes u part port inside within =
      ap (λ (o : Option NodeCode). option_map_or (λ code. carries_in code port) o false)
      (new_there u part inside within)

  new_gives : (u part port : ℕ) → u < length graph.nodes → part ≤ last_part share u
      → gives_at new.nodes (base share u + part) port
      ≡ carries_out (new_code share graph.nodes u part) port
  new_gives u part port inside within =
      ap (λ (o : Option NodeCode). option_map_or (λ code. carries_out code port) o false)
      (new_there u part inside within)

  -- ---- channels of the old graph

  old_joins : (channel : Channel) → In channel graph.channels
      → JoinsCarriers graph.nodes channel
  old_joins channel there =
      each_in (JoinsCarriers graph.nodes) channel graph.channels
      (all_each (JoinsCarriers graph.nodes) graph.channels by.joined) there

  there_by_code : (u : ℕ) (code : NodeCode) → slice_get graph.nodes u ≡ Some code
      → (u < length graph.nodes) × (code ≡ code_at graph.nodes u)
  there_by_code u code found =
      let inside = slice_get_within graph.nodes u code found in
      (inside, same_Some code (code_at graph.nodes u) (sym found ∙ old_there u inside))

  pub source_there : (channel : Channel) → In channel graph.channels
      → channel.source.node < length graph.nodes
  source_there channel there =
      let (code, found, gives) = found_in (λ code. carries_out code channel.source.port)
      (slice_get graph.nodes channel.source.node) (old_joins channel there).source in
      (there_by_code channel.source.node code found).0

  renamed_joins : (channel : Channel) → In channel graph.channels
      → JoinsCarriers new.nodes (renamed_channel share channel)
  renamed_joins channel there =
      let s = channel.source.node in
      let t = channel.target.node in
      let (from, from_is, gives) = found_in (λ code. carries_out code channel.source.port)
      (slice_get graph.nodes channel.source.node) (old_joins channel there).source in
      let (to, to_is, takes) = found_in (λ code. carries_in code channel.target.port)
      (slice_get graph.nodes channel.target.node) (old_joins channel there).target in
      let first = there_by_code s from from_is in
      let second = there_by_code t to to_is in
      let number : base share t + 0 ≡ base share t = omega arith in
      record {
        source = new_gives s (last_part share s) channel.source.port first.0 (omega arith)
            ∙ last_gives s channel.source.port first.0
            ∙ ap (λ (c : NodeCode). carries_out c channel.source.port) (sym first.1) ∙ gives;
        target = ap (λ (n : ℕ). takes_at new.nodes n channel.target.port) (sym number)
            ∙ new_takes t 0 channel.target.port second.0 (omega arith)
            ∙ first_takes t channel.target.port second.0
            ∙ ap (λ (c : NodeCode). carries_in c channel.target.port) (sym second.1) ∙ takes;
      }

  -- ---- channels between parts

  module _ (v i : ℕ) (inside : v < length graph.nodes) (dealt : is_dealt (share v) ≡ true)
      (less : i < (share v).ways) where
    scatter_code : new_code share graph.nodes v 0 ≡ Scatter (share v)
    scatter_code = dealt_code (code_at graph.nodes v) (share v) 0 dealt

    copy_code : new_code share graph.nodes v (suc i)
        ≡ Copy (copied (code_at graph.nodes v)) (share v)
    copy_code = dealt_code (code_at graph.nodes v) (share v) (suc i) dealt
        ∙ copy_is (code_at graph.nodes v) (share v) i less

    gather_code : new_code share graph.nodes v (suc (share v).ways) ≡ Gather (share v)
    gather_code = dealt_code (code_at graph.nodes v) (share v) (suc (share v).ways) dealt
        ∙ gather_is (code_at graph.nodes v) (share v)

    pub copy_takes : takes_at new.nodes (base share v + suc i) 0 ≡ true
    copy_takes =
        new_takes v (suc i) 0 inside (copy_within share v i dealt less)
        ∙ ap (λ (c : NodeCode). carries_in c 0) copy_code
        ∙ ap (nat_lt 0)
        (alike_ports (code_at graph.nodes v) (dealt_alike v inside dealt)).copy_input

    copy_gives : gives_at new.nodes (base share v + suc i) 0 ≡ true
    copy_gives =
        new_gives v (suc i) 0 inside (copy_within share v i dealt less)
        ∙ ap (λ (c : NodeCode). carries_out c 0) copy_code
        ∙ ap (nat_lt 0)
        (alike_ports (code_at graph.nodes v) (dealt_alike v inside dealt)).copy_output

    to_joins : JoinsCarriers new.nodes (to_copy (base share v) i).channel
    to_joins =
        let number : base share v + 0 ≡ base share v = omega arith in
        record {
          source = ap (λ (n : ℕ). gives_at new.nodes n i) (sym number)
              ∙ new_gives v 0 i inside (omega arith)
              ∙ ap (λ (c : NodeCode). carries_out c i) scatter_code
              ∙ lt-ltb i (share v).ways less;
          target = copy_takes;
        }

    from_joins : JoinsCarriers new.nodes (from_copy (base share v) (share v).ways i).channel
    from_joins = record {
      source = copy_gives;
      target = new_takes v (suc (share v).ways) i inside (gather_within share v dealt)
          ∙ ap (λ (c : NodeCode). carries_in c i) gather_code
          ∙ lt-ltb i (share v).ways less;
    }

  -- ---- all channels

  pub new_joined : Each (JoinsCarriers new.nodes) (new_channels share graph greatest last)
  new_joined = each_new share graph greatest last (JoinsCarriers new.nodes)
      (each_from (λ channel. JoinsCarriers new.nodes (renamed_channel share channel))
      graph.channels renamed_joins)
      (λ v i inside dealt less. to_joins v i inside dealt less)
      (λ v i inside dealt less. from_joins v i inside dealt less)

  -- none leads from a node to itself

  renamed_leads : (channel : Channel) → In channel graph.channels
      → LeadsOn (renamed_channel share channel)
  renamed_leads channel there same =
      let s = channel.source.node in
      let t = channel.target.node in
      let e : base share s + last_part share s ≡ base share t + 0 = omega (arith, same) in
      let (number, listed) = in_there channel graph.channels there in
      by.apart number channel listed (apart share s (last_part share s) t 0 (omega arith)
      (omega arith) e).0

  pub new_lead : Each LeadsOn (new_channels share graph greatest last)
  new_lead = each_new share graph greatest last LeadsOn
      (each_from (λ channel. LeadsOn (renamed_channel share channel)) graph.channels renamed_leads)
      (λ v i inside dealt less same. omega (arith, same))
      (λ v i inside dealt less same. omega (arith, same, less))
