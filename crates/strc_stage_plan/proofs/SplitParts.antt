-- The parts of a node that is split, and how they are wired.
use Rattle.std.proofs.Common.{◌≡◌, refl, sym, ap, ◌∙◌, ℕ, suc, ◌+◌, ◌<◌, ◌≤◌, arith}
use Rattle.std.proofs.Common.{List, [], ◌∷◌, length, get_or, slice_get, Bool, true, false, eqb}
use Rattle.std.proofs.Common.{inl, inr}
use Rattle.std.specs.List.{list_any}
use Rattle.std.proofs.lemmas.Bool.{true≢false, and_from, eq-eqb, or_left, or_right}
use Rattle.strc_elab_dataflow.specs.Flat.{Source, Origin, Origin.Port, Origin.Input, Origin.Nowhere}
use Rattle.strc_elab_graph.specs.Graphs.{Channel, Graph, NodeCode, source_of, source_in}
use Rattle.strc_elab_graph.specs.Graphs.{reads_input, Scatter, Copy, Gather}
use Rattle.strc_elab_graph.specs.declared.graph.Fission.{Fission}
use Rattle.strc_fiss.specs.Numbers.{is_dealt, last_part, base}
use Rattle.strc_fiss.specs.Splitting.{copied, code_at, new_code, split_graph, to_copy, from_copy}
use Rattle.strc_fiss.specs.Splitting.{renamed_channel}
use Rattle.strc_fiss.specs.Ways.{is_alike, is_own, feeds_itself}
use Rattle.strc_fiss.proofs.Each.{Each}
use Rattle.strc_fiss.proofs.Joining.{copy_is, gather_is, dealt_code}
use Rattle.strc_fiss.proofs.Lookup.{part_there, part_value}
use Rattle.strc_stage_plan.specs.Sources.{takes_input, source_at, EndApart}
use Rattle.strc_stage_plan.proofs.Ends.{Ends, ends_there, ends_by, source_is, source_none}
use Rattle.strc_stage_plan.proofs.Ends.{one_or_none}
use Rattle.strc_stage_plan.proofs.Members.{In}
use Rattle.strc_stage_plan.proofs.NewChannels.{new_channels, each_at, to_there, from_there}
use Rattle.strc_stage_plan.proofs.NewChannels.{copy_within, gather_within}
use Rattle.strc_stage_plan.proofs.Splits.{alike_reads, at_other, one_source}

-- a test of an item of a list tells of the list
any_in : {A : Type 0} (test : A → Bool) (x : A) (xs : List A) → In x xs → test x ≡ true
    → list_any test xs ≡ true
any_in test x [] there holds = absurd there
any_in test x (y ∷ ys) (inl here) holds =
    or_left (test y) (list_any test ys) (ap test (sym here) ∙ holds)
any_in test x (y ∷ ys) (inr later) holds =
    or_right (test y) (list_any test ys) (any_in test x ys later holds)

-- the node of an origin
origin_node : Origin → ℕ
origin_node Nowhere = 0
origin_node Input = 0
origin_node (Port node port) = node

-- a node that feeds itself has a channel that leads from it to it
pub no_loop : (graph : Graph) → EndApart graph → (v : ℕ) → is_alike (slice_get graph.nodes v) ≡ true
    → feeds_itself graph.channels v ≡ false
    → (port : ℕ) → (source_at graph v 0).origin ≡ Port v port → ⊥
unfolding origin_node
no_loop graph apart v alike none port e = elim (one_or_none v 0 graph.channels) [
  | inl found ↦
      let own : Channel = found.0 in
      let at = ends_there v 0 own found.2 in
      let comes : Port own.source.node own.source.port ≡ Port v port =
      ap (λ (s : Source). s.origin) (one_source graph apart v 0 own found.1 found.2
      ∙ sym (at_other graph v 0 (alike_reads (slice_get graph.nodes v) alike))) ∙ e in
      let leaves : own.source.node ≡ v = ap origin_node comes in
      true≢false (sym (any_in (is_own v) own graph.channels found.1
      (and_from (eqb own.source.node v) (eqb own.target.node v)
      (eq-eqb own.source.node v leaves) (eq-eqb own.target.node v at.0))) ∙ none)
  | inr nowhere ↦
      let comes : Nowhere ≡ Port v port =
      sym (ap (λ (s : Source). s.origin)
      (at_other graph v 0 (alike_reads (slice_get graph.nodes v) alike)
      ∙ source_none v 0 graph.channels nowhere)) ∙ e in
      absurd (cc)
]

module _ (share : ℕ → Fission) (graph : Graph) (greatest last : List ℕ) (v : ℕ)
    (dealt : is_dealt (share v) ≡ true) (inside : v < length graph.nodes) where
  abbrev new : Graph
  new = split_graph share graph greatest last

  abbrev old_code : NodeCode
  old_code = code_at graph.nodes v

  scatter_code : new_code share graph.nodes v 0 ≡ Scatter (share v)
  scatter_code = dealt_code old_code (share v) 0 dealt

  copy_code : (i : ℕ) → i < (share v).ways
      → new_code share graph.nodes v (suc i) ≡ Copy (copied old_code) (share v)
  copy_code i less =
      dealt_code old_code (share v) (suc i) dealt ∙ copy_is old_code (share v) i less

  gather_code : new_code share graph.nodes v (suc (share v).ways) ≡ Gather (share v)
  gather_code =
      dealt_code old_code (share v) (suc (share v).ways) dealt ∙ gather_is old_code (share v)

  part_is : (past : NodeCode) (part : ℕ) → part ≤ last_part share v
      → get_or new.nodes (base share v + part) past ≡ new_code share graph.nodes v part
  part_is past part within =
      part_value share (new_code share graph.nodes) (length graph.nodes) v part past inside within

  pub scatter_is : (past : NodeCode)
      → get_or new.nodes (base share v + 0) past ≡ Scatter (share v)
  scatter_is past = part_is past 0 (omega arith) ∙ scatter_code

  pub each_copy_is : (past : NodeCode) (i : ℕ) → i < (share v).ways
      → get_or new.nodes (base share v + suc i) past ≡ Copy (copied old_code) (share v)
  each_copy_is past i less =
      part_is past (suc i) (copy_within share v i dealt less) ∙ copy_code i less

  pub the_gather_is : (past : NodeCode)
      → get_or new.nodes (base share v + suc (share v).ways) past ≡ Gather (share v)
  the_gather_is past =
      part_is past (suc (share v).ways) (gather_within share v dealt) ∙ gather_code

  part_reads : (part : ℕ) (code : NodeCode) → part ≤ last_part share v
      → new_code share graph.nodes v part ≡ code → reads_input code ≡ false
      → takes_input (slice_get new.nodes (base share v + part)) ≡ false
  part_reads part code within e reads =
      ap takes_input (part_there share (new_code share graph.nodes) (length graph.nodes) v part
      inside within)
      ∙ ap reads_input e ∙ reads

  -- no old channel ends at a later part
  none_first : (u k port : ℕ) (P : Channel → Type 0) (channels : List Channel)
      → Each (λ channel. suc k ≡ 0 → Ends u port channel → P (renamed_channel share channel))
      channels
  none_first u k port P [] = tt
  none_first u k port P (channel ∷ channels) =
      (λ e there. absurd (omega (arith, e)), none_first u k port P channels)

  pub to_source : (i : ℕ) → i < (share v).ways
      → source_in (new_channels share graph greatest last) (base share v + suc i) 0
      ≡ source_of (to_copy (base share v) i).channel
  to_source i less =
      let own : Channel = (to_copy (base share v) i).channel in
      let comes : Channel → Type 0 = λ channel. source_of channel ≡ source_of own in
      source_is (base share v + suc i) 0 (new_channels share graph greatest last) own
      (to_there share graph greatest last v i inside dealt less)
      (ends_by (base share v + suc i) 0 own refl refl)
      (each_at share graph greatest last v (suc i) 0 comes (copy_within share v i dealt less)
      (none_first v i 0 comes graph.channels)
      (λ j lower again e at_port.
      let same : j ≡ i = omega (arith, e) in
      ap (λ (n : ℕ). source_of (to_copy (base share v) n).channel) same)
      (λ j lower again e at_port. absurd (omega (arith, e, less))))

  pub to_comes : (i : ℕ) → i < (share v).ways
      → (source_at new (base share v + suc i) 0).origin ≡ Port (base share v + 0) i
  to_comes i less =
      ap (λ (s : Source). s.origin)
      (at_other new (base share v + suc i) 0
      (part_reads (suc i) (Copy (copied old_code) (share v)) (copy_within share v i dealt less)
      (copy_code i less) refl)
      ∙ to_source i less)
      ∙ (let number : base share v ≡ base share v + 0 = omega arith in
      ap (λ (n : ℕ). Port n i) number)

  pub from_source : (i : ℕ) → i < (share v).ways
      → source_in (new_channels share graph greatest last) (base share v + suc (share v).ways) i
      ≡ source_of (from_copy (base share v) (share v).ways i).channel
  from_source i less =
      let own : Channel = (from_copy (base share v) (share v).ways i).channel in
      let comes : Channel → Type 0 = λ channel. source_of channel ≡ source_of own in
      source_is (base share v + suc (share v).ways) i (new_channels share graph greatest last) own
      (from_there share graph greatest last v i inside dealt less)
      (ends_by (base share v + suc (share v).ways) i own refl refl)
      (each_at share graph greatest last v (suc (share v).ways) i comes
      (gather_within share v dealt)
      (none_first v (share v).ways i comes graph.channels)
      (λ j lower again e at_port. absurd (omega (arith, e, lower)))
      (λ j lower again e at_port.
      ap (λ (n : ℕ). source_of (from_copy (base share v) (share v).ways n).channel) at_port))

  pub from_comes : (i : ℕ) → i < (share v).ways
      → (source_at new (base share v + suc (share v).ways) i).origin
      ≡ Port (base share v + suc i) 0
  from_comes i less =
      ap (λ (s : Source). s.origin)
      (at_other new (base share v + suc (share v).ways) i
      (part_reads (suc (share v).ways) (Gather (share v)) (gather_within share v dealt)
      gather_code refl)
      ∙ from_source i less)
