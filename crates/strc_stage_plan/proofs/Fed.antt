-- A channel ends at each port that carries items after fission.
use Rattle.std.proofs.Common.{◌≡◌, refl, sym, ap, ◌∙◌, subst, ℕ, suc, ◌+◌, ◌<◌, arith}
use Rattle.std.proofs.Common.{List, [], length, true, false, Option, slice_get, inl, inr}
use Rattle.std.proofs.Common.{true≢false, ltb-true}
use Rattle.std.specs.Prelude.{nat_lt}
use Rattle.std.specs.Option.{option_map_or}
use Rattle.std.proofs.lemmas.Bool.{cases_lt}
use Rattle.std.proofs.lemmas.Option.{slice_get-get_or, slice_get_past}
use Rattle.strc_elab_dataflow.specs.Flat as flat
use Rattle.strc_elab_graph.specs.Carriers.{carries_in, takes_at}
use Rattle.strc_elab_graph.specs.FlatGraphs.{IsFed}
use Rattle.strc_elab_graph.specs.Graphs.{Channel, Graph, NodeCode, Joiner}
use Rattle.strc_elab_graph.specs.declared.graph.Fission.{Fission}
use Rattle.strc_sched_laws.specs.ByChannels.{IsByChannels}
use Rattle.strc_fiss.specs.Numbers.{is_dealt, base}
use Rattle.strc_fiss.specs.Splitting.{code_at, new_code, to_copy, from_copy}
use Rattle.strc_fiss.specs.Splitting.{renamed_channel}
use Rattle.strc_fiss.specs.Ways.{is_alike}
use Rattle.strc_fiss.proofs.Bases.{base_up}
use Rattle.strc_fiss.proofs.Joining.{alike_ports, copy_is, gather_is, dealt_code}
use Rattle.strc_fiss.proofs.Lookup.{part_many}
use Rattle.strc_stage_plan.proofs.Ends.{ends_there, ends_by}
use Rattle.strc_stage_plan.proofs.Members.{In}
use Rattle.strc_stage_plan.proofs.NewChannels.{copy_within, gather_within, new_channels}
use Rattle.strc_stage_plan.proofs.NewChannels.{to_there, from_there, renamed_there}
use Rattle.strc_stage_plan.proofs.Numbers.{each_number}
use Rattle.strc_stage_plan.proofs.NewEnds.{new, new_takes, first_takes, source_there}
use Rattle.strc_stage_plan.proofs.Sources.{in_there, there_in}

module _ (share : ℕ → Fission) (graph : Graph) (greatest last : List ℕ)
    (first : length greatest ≡ length graph.channels)
    (second : length last ≡ length graph.channels)
    (alike : (v : ℕ) → is_dealt (share v) ≡ true → is_alike (slice_get graph.nodes v) ≡ true)
    (old_flat : flat.Graph NodeCode) (by : IsByChannels old_flat graph) where
  abbrev after : Graph
  after = new share graph greatest last alike old_flat by

  abbrev Fed : ℕ → Type 0
  Fed number = (port : ℕ) → takes_at after.nodes number port ≡ true → IsFed after number port

  -- a channel that is there, and where it ends
  fed_by : (number port : ℕ) (channel : Channel)
      → In channel (new_channels share graph greatest last)
      → channel.target.node ≡ number → channel.target.port ≡ port → IsFed after number port
  fed_by number port channel there node at =
      let (k, listed) = in_there channel (new_channels share graph greatest last) there in
      (k, channel, listed, ends_by number port channel node at)

  -- ---- a first part, by what came to the node

  inside_fed : (u : ℕ) → u < length graph.nodes → Fed (base share u + 0)
  inside_fed u inside port takes =
      let code = code_at graph.nodes u in
      let there = slice_get-get_or graph.nodes u (Joiner []) inside in
      let carries = sym (first_takes share graph greatest last alike old_flat by u port inside)
      ∙ sym (new_takes share graph greatest last alike old_flat by u 0 port inside (omega arith))
      ∙ takes in
      let (number, channel, listed, ends) = by.fed u port
      (ap (λ (o : Option NodeCode). option_map_or (λ own. carries_in own port) o false) there
      ∙ carries) in
      let old_in = there_in channel graph.channels number listed in
      let at = ends_there u port channel ends in
      fed_by (base share u + 0) port (renamed_channel share channel)
      (renamed_there share graph greatest last channel first second
      (source_there share graph greatest last alike old_flat by channel old_in) old_in)
      (ap (base share) at.0 ∙ (let e : base share u ≡ base share u + 0 = omega arith in e)) at.1

  first_fed : (u : ℕ) → Fed (base share u + 0)
  first_fed u port takes = elim (cases_lt u (length graph.nodes)) [
    | inl inside ↦ inside_fed u inside port takes
    | inr outside ↦ absurd (true≢false (sym takes
        ∙ ap (λ (o : Option NodeCode). option_map_or (λ own. carries_in own port) o false)
        (slice_get_past after.nodes (base share u + 0) (omega (
          arith,
          part_many share (new_code share graph.nodes) (length graph.nodes),
          base_up share (length graph.nodes) u outside,
        )))))
  ]

  -- ---- copies and gathers

  dealt_inside : (v : ℕ) → is_dealt (share v) ≡ true → v < length graph.nodes
  dealt_inside v dealt = elim (cases_lt v (length graph.nodes)) [
    | inl inside ↦ inside
    | inr past ↦ absurd (true≢false (sym (alike v dealt)
        ∙ ap is_alike (slice_get_past graph.nodes v past)))
  ]

  copy_fed : (v i : ℕ) → is_dealt (share v) ≡ true → i < (share v).ways
      → Fed (base share v + suc i)
  copy_fed v i dealt less port takes =
      let inside = dealt_inside v dealt in
      let code = code_at graph.nodes v in
      let one = alike_ports (code_at graph.nodes v)
      (subst (λ (o : Option NodeCode). is_alike o ≡ true)
      (slice_get-get_or graph.nodes v (Joiner []) inside) (alike v dealt)) in
      let carries : nat_lt port 1 ≡ true =
      ap (nat_lt port) (sym one.copy_input)
      ∙ ap (λ (c : NodeCode). carries_in c port) (sym (dealt_code (code_at graph.nodes v)
      (share v) (suc i) dealt ∙ copy_is (code_at graph.nodes v) (share v) i less))
      ∙ sym (new_takes share graph greatest last alike old_flat by v (suc i) port inside
      (copy_within share v i dealt less))
      ∙ takes in
      let none : 0 ≡ port = omega (arith, ltb-true port 1 carries) in
      fed_by (base share v + suc i) port (to_copy (base share v) i).channel
      (to_there share graph greatest last v i inside dealt less) refl none

  gather_fed : (v : ℕ) → is_dealt (share v) ≡ true → Fed (base share v + suc (share v).ways)
  gather_fed v dealt port takes =
      let inside = dealt_inside v dealt in
      let carries : nat_lt port (share v).ways ≡ true =
      ap (λ (c : NodeCode). carries_in c port) (sym (dealt_code (code_at graph.nodes v)
      (share v) (suc (share v).ways) dealt ∙ gather_is (code_at graph.nodes v) (share v)))
      ∙ sym (new_takes share graph greatest last alike old_flat by v (suc (share v).ways) port
      inside (gather_within share v dealt))
      ∙ takes in
      fed_by (base share v + suc (share v).ways) port
      (from_copy (base share v) (share v).ways port).channel
      (from_there share graph greatest last v port inside dealt
      (ltb-true port (share v).ways carries)) refl refl

  pub each_fed : (number port : ℕ) → takes_at after.nodes number port ≡ true
      → IsFed after number port
  each_fed = each_number share Fed (λ u whole. first_fed u) (λ v dealt. first_fed v) copy_fed
      gather_fed
