-- The graph after fission has the parts of each node, wired as the old one is.
use Rattle.std.proofs.Common.{◌≡◌, refl, sym, ap, ◌∙◌, ℕ, ◌+◌, ◌<◌, arith}
use Rattle.std.proofs.Common.{List, [], ◌∷◌, length, get_or, slice_get, Bool, true, false}
use Rattle.std.proofs.Common.{cond, inl, inr, Option, Some, None}
use Rattle.std.proofs.lemmas.Bool.{cases_lt, true≢false}
use Rattle.std.proofs.lemmas.List.{get_or_past, get_or_default}
use Rattle.std.proofs.lemmas.Option.{slice_get-get_or, slice_get_past}
use Rattle.strc_elab_dataflow.specs.Flat.{Source}
use Rattle.strc_elab_graph.specs.FlatGraphs.{program_input}
use Rattle.strc_elab_graph.specs.Graphs.{Channel, Graph, NodeCode, IsGraph, JoinsPorts, source_of}
use Rattle.strc_elab_graph.specs.Graphs.{source_in, reads_input, output_ports, Joiner, Filter}
use Rattle.strc_elab_graph.specs.Graphs.{Identity}
use Rattle.strc_elab_graph.specs.Graphs.{FileReader, FileWriter, Splitter, Scatter, Copy, Gather}
use Rattle.strc_elab_graph.specs.declared.graph.Fission.{Fission}
use Rattle.strc_elab_dataflow.specs.Split.{renamed}
use Rattle.strc_fiss.specs.Numbers.{is_dealt, base, parts_after}
use Rattle.strc_fiss.specs.Splitting.{part_of, code_at, new_code, split_graph}
use Rattle.strc_fiss.specs.Splitting.{renamed_channel}
use Rattle.strc_fiss.specs.Ways.{is_alike}
use Rattle.strc_fiss.proofs.Bases.{base_up}
use Rattle.strc_fiss.proofs.Each.{Each, all_each}
use Rattle.strc_fiss.proofs.Lookup.{part_there, part_value, part_many}
use Rattle.strc_fiss.proofs.Shares.{there_by}
use Rattle.strc_stage_plan.specs.Sources.{takes_input, source_at, EndApart}
use Rattle.strc_stage_plan.proofs.Ends.{Ends, ends_there, ends_by, source_is, source_none}
use Rattle.strc_stage_plan.proofs.Ends.{one_or_none}
use Rattle.strc_stage_plan.proofs.Members.{In, each_in, each_from}
use Rattle.strc_stage_plan.proofs.NewChannels.{new_channels, each_at}
use Rattle.strc_stage_plan.proofs.NewChannels.{renamed_there, renamed_source, renamed_comes}
use Rattle.strc_stage_plan.proofs.NewChannels.{renamed_input, renamed_nothing}

-- a reader takes the program's input, and any other node what comes by channels
pub at_reader : (graph : Graph) (node port : ℕ) → takes_input (slice_get graph.nodes node) ≡ true
    → source_at graph node port ≡ program_input
at_reader graph node port is =
    ap (λ (t : Bool). cond t program_input (source_in graph.channels node port)) is

pub at_other : (graph : Graph) (node port : ℕ) → takes_input (slice_get graph.nodes node) ≡ false
    → source_at graph node port ≡ source_in graph.channels node port
at_other graph node port is =
    ap (λ (t : Bool). cond t program_input (source_in graph.channels node port)) is

-- channels that end at one port give it one source
pub one_source : (graph : Graph) → EndApart graph → (node port : ℕ) (own : Channel)
    → In own graph.channels → Ends node port own
    → source_of own ≡ source_in graph.channels node port
one_source graph apart node port own there ends =
    let is = each_in (λ channel.
    source_in graph.channels channel.target.node channel.target.port ≡ source_of channel)
    own graph.channels
    (all_each (λ channel.
    source_in graph.channels channel.target.node channel.target.port ≡ source_of channel)
    graph.channels apart) there in
    let at = ends_there node port own ends in
    sym is
    ∙ ap (λ (n : ℕ). source_in graph.channels n own.target.port) at.0
    ∙ ap (source_in graph.channels node) at.1

-- a node that can be split is no reader
pub alike_reads : (code : Option NodeCode) → is_alike code ≡ true → takes_input code ≡ false
alike_reads None e = refl
alike_reads (Some (FileReader text)) e = absurd (true≢false (sym e))
alike_reads (Some (Filter name filter)) e = refl
alike_reads (Some Identity) e = refl
alike_reads (Some (FileWriter text)) e = refl
alike_reads (Some (Splitter splitter)) e = refl
alike_reads (Some (Joiner weights)) e = refl
alike_reads (Some (Scatter fission)) e = refl
alike_reads (Some (Copy copied fission)) e = refl
alike_reads (Some (Gather fission)) e = refl

module _ (share : ℕ → Fission) (graph : Graph) (greatest last : List ℕ) (is : IsGraph graph)
    (ends : EndApart graph) (first : length greatest ≡ length graph.channels)
    (second : length last ≡ length graph.channels)
    (alike : (v : ℕ) → is_dealt (share v) ≡ true → is_alike (slice_get graph.nodes v) ≡ true)
    (fired : ℕ → ℕ) where
  abbrev pub new : Graph
  new = split_graph share graph greatest last

  -- ---- nodes

  pub node_there : (v : ℕ) → is_dealt (share v) ≡ true → v < length graph.nodes
  node_there v dealt = elim (cases_lt v (length graph.nodes)) [
    | inl inside ↦ inside
    | inr past ↦ absurd (true≢false (sym (alike v dealt)
        ∙ ap is_alike (slice_get_past graph.nodes v past)))
  ]

  kept_code : (v part : ℕ) → is_dealt (share v) ≡ false
      → new_code share graph.nodes v part ≡ code_at graph.nodes v
  kept_code v part e =
      ap (λ (t : Bool). cond t (part_of (code_at graph.nodes v) (share v) part)
      (code_at graph.nodes v)) e

  pub kept : (past : NodeCode) (u : ℕ) → is_dealt (share u) ≡ false
      → get_or new.nodes (base share u + 0) past ≡ get_or graph.nodes u past
  kept past u whole = elim (cases_lt u (length graph.nodes)) [
    | inl inside ↦
        part_value share (new_code share graph.nodes) (length graph.nodes) u 0 past inside
        (omega arith)
        ∙ kept_code u 0 whole
        ∙ get_or_default graph.nodes u (Joiner []) past inside
    | inr outside ↦
        get_or_past new.nodes (base share u + 0) past (omega (
          arith,
          part_many share (new_code share graph.nodes) (length graph.nodes),
          base_up share (length graph.nodes) u outside,
        ))
        ∙ sym (get_or_past graph.nodes u past outside)
  ]

  -- ---- readers

  first_reads : (u : ℕ)
      → takes_input (slice_get new.nodes (base share u + 0)) ≡ takes_input (slice_get graph.nodes u)
  first_reads u = elim (cases_lt u (length graph.nodes)) [
    | inl inside ↦
        ap takes_input (part_there share (new_code share graph.nodes) (length graph.nodes) u 0
        inside (omega arith))
        ∙ by_test inside (is_dealt (share u)) refl
    | inr outside ↦
        ap takes_input (slice_get_past new.nodes (base share u + 0) (omega (
          arith,
          part_many share (new_code share graph.nodes) (length graph.nodes),
          base_up share (length graph.nodes) u outside,
        )))
        ∙ sym (ap takes_input (slice_get_past graph.nodes u outside))
  ]
    where
      by_test : u < length graph.nodes → (t : Bool) → is_dealt (share u) ≡ t
          → reads_input (cond t (part_of (code_at graph.nodes u) (share u) 0)
          (code_at graph.nodes u))
          ≡ takes_input (slice_get graph.nodes u)
      by_test inside true e = sym (alike_reads (slice_get graph.nodes u) (alike u e))
      by_test inside false e =
          sym (ap takes_input (slice_get-get_or graph.nodes u (Joiner []) inside))

  -- ---- what comes to a first part

  pub port_comes : (u port : ℕ)
      → source_in (new_channels share graph greatest last) (base share u + 0) port
      ≡ renamed_source share fired (source_in graph.channels u port)
  port_comes u port = elim (one_or_none u port graph.channels) [
    | inl found ↦
        let own : Channel = found.0 in
        let at = ends_there u port own found.2 in
        let joins = each_in (JoinsPorts graph.nodes) own graph.channels
        (all_each (JoinsPorts graph.nodes) graph.channels is.channels) found.1 in
        let inside : own.source.node < length graph.nodes =
        there_by output_ports graph.nodes own.source.node own.source.port joins.source in
        let number : base share own.target.node ≡ base share u + 0 =
        omega (arith, ap (base share) at.0) in
        let comes : Channel → Type 0 =
        λ channel. source_of channel ≡ source_of (renamed_channel share own) in
        let old_comes : (channel : Channel) → In channel graph.channels → ◌≡◌ {A = ℕ} 0 0
        → Ends u port channel → comes (renamed_channel share channel) =
        λ channel there none there_ends.
        renamed_comes share fired channel
        ∙ ap (renamed_source share fired)
        (one_source graph ends u port channel there there_ends
        ∙ sym (one_source graph ends u port own found.1 found.2))
        ∙ sym (renamed_comes share fired own) in
        source_is (base share u + 0) port (new_channels share graph greatest last)
        (renamed_channel share own)
        (renamed_there share graph greatest last own first second inside found.1)
        (ends_by (base share u + 0) port (renamed_channel share own) number at.1)
        (each_at share graph greatest last u 0 port comes (omega arith)
        (each_from (λ channel. ◌≡◌ {A = ℕ} 0 0 → Ends u port channel
        → comes (renamed_channel share channel)) graph.channels old_comes)
        (λ i less dealt e at_port. absurd (omega (arith, e)))
        (λ i less dealt e at_port. absurd (omega (arith, e))))
        ∙ renamed_comes share fired own
        ∙ ap (renamed_source share fired) (one_source graph ends u port own found.1 found.2)
    | inr none ↦
        source_none (base share u + 0) port (new_channels share graph greatest last)
        (each_at share graph greatest last u 0 port (λ channel. ⊥) (omega arith)
        (each_none graph.channels none)
        (λ i less dealt e at_port. absurd (omega (arith, e)))
        (λ i less dealt e at_port. absurd (omega (arith, e))))
        ∙ sym (ap (renamed_source share fired) (source_none u port graph.channels none)
        ∙ renamed_nothing share fired)
  ]
    where
      each_none : (channels : List Channel) → Each (λ channel. Ends u port channel → ⊥) channels
          → Each (λ channel. ◌≡◌ {A = ℕ} 0 0 → Ends u port channel → ⊥) channels
      each_none [] none = tt
      each_none (channel ∷ channels) none =
          (λ e there. none.0 there, each_none channels none.1)

  pub first_comes : (u port : ℕ) → source_at new (base share u + 0) port
      ≡ renamed_source share fired (source_at graph u port)
  first_comes u port = by_test (takes_input (slice_get graph.nodes u)) refl
    where
      by_test : (t : Bool) → takes_input (slice_get graph.nodes u) ≡ t
          → source_at new (base share u + 0) port
          ≡ renamed_source share fired (source_at graph u port)
      by_test true e =
          at_reader new (base share u + 0) port (first_reads u ∙ e)
          ∙ sym (ap (renamed_source share fired) (at_reader graph u port e)
          ∙ renamed_input share fired)
      by_test false e =
          at_other new (base share u + 0) port (first_reads u ∙ e)
          ∙ port_comes u port
          ∙ sym (ap (renamed_source share fired) (at_other graph u port e))

  pub inputs : (u port : ℕ) → (source_at new (base share u + 0) port).origin
      ≡ renamed (parts_after share fired) (source_at graph u port).origin
  inputs u port = ap (λ (s : Source). s.origin) (first_comes u port)
