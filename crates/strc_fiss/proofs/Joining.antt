-- The channels after fission join ports of the parts.
use Rattle.std.proofs.Common.{◌≡◌, refl, sym, ap, ◌∙◌, subst, ℕ, suc, ◌+◌, ◌<◌, ◌≤◌, arith}
use Rattle.std.proofs.Common.{List, [], ◌++◌, length, map, slice_get, Some, All}
use Rattle.std.proofs.Common.{Bool, true, false, cond, ◌&&◌, Option, nat_lt, eqb, filter}
use Rattle.std.specs.Option.{option_map_or}
use Rattle.std.proofs.lemmas.Bool.{true≢false}
use Rattle.std.proofs.lemmas.Option.{slice_get-get_or}
use borrow.Author.Tests.{lt-ltb, le-ltb, eqb-true}
use Rattle.strc_elab_graph.specs.Graphs.{Graph, IsGraph, JoinsPorts, Channel, NodeCode, Filter}
use Rattle.strc_elab_graph.specs.Graphs.{Identity}
use Rattle.strc_elab_graph.specs.Graphs.{FileReader, FileWriter, Splitter, Joiner, Scatter, Copy}
use Rattle.strc_elab_graph.specs.Graphs.{Gather}
use Rattle.strc_elab_graph.specs.Graphs.{input_ports, output_ports, inputs_at, outputs_at}
use Rattle.strc_elab_graph.specs.Graphs.{copied_inputs, copied_outputs}
use Rattle.strc_elab_graph.specs.declared.graph.Fission.{Fission}
use Rattle.strc_work_writes.specs.Stateless.{is_stateless}
use Rattle.strc_fiss.specs.Numbers.{up_to, is_dealt, last_part, base, each_part}
use Rattle.strc_fiss.specs.Splitting.{Wire, wires_of, copied, part_of, part_code, code_at, new_code}
use Rattle.strc_fiss.specs.Splitting.{to_copy, from_copy, inner_wires, leaves, renamed_wire}
use Rattle.strc_fiss.specs.Splitting.{leaving}
use Rattle.strc_fiss.specs.Splitting.{split_wires, renamed_channel}
use Rattle.strc_fiss.specs.Ways.{is_alike, passes_items, work_pop, work_push}
use Rattle.strc_fiss.proofs.Each.{Each, each_all, all_each, each_append, each_map, each_filter}
use Rattle.strc_fiss.proofs.Each.{each_up_to, each_joined, each_more}
use Rattle.strc_fiss.proofs.Lookup.{part_there}
use Rattle.strc_fiss.proofs.Shares.{there_by}
use Rattle.strc_fiss.proofs.Wires.{each_wire}

pub both_true : (a b : Bool) → (a && b) ≡ true → (a ≡ true) × (b ≡ true)
both_true true b e = (refl, e)
both_true false b e = absurd (true≢false (sym e))

-- a node whose firings are alike has one port at each side, and so have its copies
pub record HasOnePort (code : NodeCode) : Type 0 where
  pub input : input_ports code ≡ 1
  pub output : output_ports code ≡ 1
  pub copy_input : copied_inputs (copied code) ≡ 1
  pub copy_output : copied_outputs (copied code) ≡ 1

pub alike_ports : (code : NodeCode) → is_alike (Some code) ≡ true → HasOnePort code
alike_ports (Filter name filter) is =
    let passes = (both_true (passes_items filter) (is_stateless filter) is).0 in
    let sides = both_true (eqb (input_ports (Filter name filter)) 1 && nat_lt 0 (work_pop filter))
    (eqb (output_ports (Filter name filter)) 1 && nat_lt 0 (work_push filter)) passes in
    let taken = eqb-true (input_ports (Filter name filter)) 1
    (both_true (eqb (input_ports (Filter name filter)) 1) (nat_lt 0 (work_pop filter)) sides.0).0 in
    let given = eqb-true (output_ports (Filter name filter)) 1
    (both_true (eqb (output_ports (Filter name filter)) 1) (nat_lt 0 (work_push filter)) sides.1).0
    in
    record { input = taken; output = given; copy_input = taken; copy_output = given }
alike_ports Identity is = record
    { input = refl; output = refl; copy_input = refl; copy_output = refl }
alike_ports (FileReader text) is = absurd (true≢false (sym is))
alike_ports (FileWriter text) is = absurd (true≢false (sym is))
alike_ports (Splitter splitter) is = absurd (true≢false (sym is))
alike_ports (Joiner weights) is = absurd (true≢false (sym is))
alike_ports (Scatter fission) is = absurd (true≢false (sym is))
alike_ports (Copy copied fission) is = absurd (true≢false (sym is))
alike_ports (Gather fission) is = absurd (true≢false (sym is))

-- which part a number is
pub copy_is : (code : NodeCode) (fission : Fission) (copy : ℕ) → copy < fission.ways
    → part_of code fission (suc copy) ≡ Copy (copied code) fission
copy_is code fission copy less =
    ap (λ (t : Bool). cond t (Copy (copied code) fission) (Gather fission))
    (lt-ltb copy fission.ways less)

pub gather_is : (code : NodeCode) (fission : Fission)
    → part_of code fission (suc fission.ways) ≡ Gather fission
gather_is code fission =
    ap (λ (t : Bool). cond t (Copy (copied code) fission) (Gather fission))
    (le-ltb fission.ways fission.ways (omega arith))

pub dealt_code : (code : NodeCode) (fission : Fission) (part : ℕ) → is_dealt fission ≡ true
    → part_code code fission part ≡ part_of code fission part
dealt_code code fission part is = ap (λ (t : Bool). cond t (part_of code fission part) code) is

module _ (share : ℕ → Fission) (graph : Graph) (is : IsGraph graph)
    (alike : (v : ℕ) → is_dealt (share v) ≡ true → is_alike (slice_get graph.nodes v) ≡ true) where
  size : ℕ
  size = length graph.nodes

  code : ℕ → NodeCode
  code v = code_at graph.nodes v

  new : List NodeCode
  new = each_part share (new_code share graph.nodes) (length graph.nodes)

  code_there : (v : ℕ) → v < length graph.nodes
      → slice_get graph.nodes v ≡ Some (code_at graph.nodes v)
  code_there v less = slice_get-get_or graph.nodes v (Joiner []) less

  one_port : (v : ℕ) → v < length graph.nodes → is_dealt (share v) ≡ true
      → HasOnePort (code_at graph.nodes v)
  one_port v less dealt = alike_ports (code_at graph.nodes v)
      (subst (λ (o : Option NodeCode). is_alike o ≡ true) (code_there v less) (alike v dealt))

  first_inputs : (v : ℕ) → v < length graph.nodes
      → input_ports (new_code share graph.nodes v 0) ≡ input_ports (code_at graph.nodes v)
  first_inputs v less = by_test (is_dealt (share v)) refl
    where
      by_test : (t : Bool) → is_dealt (share v) ≡ t
          → input_ports (cond t (part_of (code_at graph.nodes v) (share v) 0)
          (code_at graph.nodes v))
          ≡ input_ports (code_at graph.nodes v)
      by_test true e = sym (one_port v less e).input
      by_test false e = refl

  last_outputs : (v : ℕ) → v < length graph.nodes
      → output_ports (new_code share graph.nodes v (last_part share v))
      ≡ output_ports (code_at graph.nodes v)
  last_outputs v less = by_test (is_dealt (share v)) refl
    where
      by_test : (t : Bool) → is_dealt (share v) ≡ t
          → output_ports (cond t (part_of (code_at graph.nodes v) (share v)
          (cond t (suc (share v).ways) 0)) (code_at graph.nodes v))
          ≡ output_ports (code_at graph.nodes v)
      by_test true e = ap output_ports (gather_is (code_at graph.nodes v) (share v))
          ∙ sym (one_port v less e).output
      by_test false e = refl

  outputs : (v k port : ℕ) → v < length graph.nodes → k ≤ last_part share v
      → port < output_ports (new_code share graph.nodes v k)
      → port < outputs_at (each_part share (new_code share graph.nodes) (length graph.nodes))
      (base share v + k)
  outputs v k port less within inside =
      subst (λ (o : Option NodeCode). port < option_map_or output_ports o 0)
      (sym (part_there share (new_code share graph.nodes) (length graph.nodes) v k less within))
      inside

  inputs : (v k port : ℕ) → v < length graph.nodes → k ≤ last_part share v
      → port < input_ports (new_code share graph.nodes v k)
      → port < inputs_at (each_part share (new_code share graph.nodes) (length graph.nodes))
      (base share v + k)
  inputs v k port less within inside =
      subst (λ (o : Option NodeCode). port < option_map_or input_ports o 0)
      (sym (part_there share (new_code share graph.nodes) (length graph.nodes) v k less within))
      inside

  -- the input of a node's first part, by its own number
  first_input : (v port : ℕ) → v < length graph.nodes
      → port < input_ports (new_code share graph.nodes v 0)
      → port < inputs_at (each_part share (new_code share graph.nodes) (length graph.nodes))
      (base share v)
  first_input v port less inside =
      let e : base share v + 0 ≡ base share v = omega arith in
      subst (λ (n : ℕ). port < inputs_at
      (each_part share (new_code share graph.nodes) (length graph.nodes)) n) e
      (inputs v 0 port less (omega arith) inside)

  first_output : (v port : ℕ) → v < length graph.nodes
      → port < output_ports (new_code share graph.nodes v 0)
      → port < outputs_at (each_part share (new_code share graph.nodes) (length graph.nodes))
      (base share v)
  first_output v port less inside =
      let e : base share v + 0 ≡ base share v = omega arith in
      subst (λ (n : ℕ). port < outputs_at
      (each_part share (new_code share graph.nodes) (length graph.nodes)) n) e
      (outputs v 0 port less (omega arith) inside)

  Joins : Wire → Type 0
  Joins wire =
      JoinsPorts (each_part share (new_code share graph.nodes) (length graph.nodes)) wire.channel

  renamed_joins : (channel : Channel) → JoinsPorts graph.nodes channel
      → JoinsPorts (each_part share (new_code share graph.nodes) (length graph.nodes))
      (renamed_channel share channel)
  renamed_joins channel joins =
      let u = channel.source.node in
      let v = channel.target.node in
      let from = there_by output_ports graph.nodes u channel.source.port joins.source in
      let to = there_by input_ports graph.nodes v channel.target.port joins.target in
      let given : channel.source.port < output_ports (code_at graph.nodes u) =
      subst (λ (o : Option NodeCode). channel.source.port < option_map_or output_ports o 0)
      (code_there u from) joins.source in
      let taken : channel.target.port < input_ports (code_at graph.nodes v) =
      subst (λ (o : Option NodeCode). channel.target.port < option_map_or input_ports o 0)
      (code_there v to) joins.target in
      record {
        source = outputs u (last_part share u) channel.source.port from (omega arith)
            (subst (λ (n : ℕ). channel.source.port < n) (sym (last_outputs u from)) given);
        target = first_input v channel.target.port to
            (subst (λ (n : ℕ). channel.target.port < n) (sym (first_inputs v to)) taken);
      }

  inner_joins : (v : ℕ) → v < length graph.nodes
      → Each (λ (wire : Wire). JoinsPorts
      (each_part share (new_code share graph.nodes) (length graph.nodes)) wire.channel)
      (inner_wires (base share v) (share v))
  inner_joins v less = by_test (is_dealt (share v)) refl
    where
      own : NodeCode
      own = code_at graph.nodes v

      last : is_dealt (share v) ≡ true → last_part share v ≡ suc (share v).ways
      last e = ap (λ (t : Bool). cond t (suc (share v).ways) 0) e

      scatter : is_dealt (share v) ≡ true → new_code share graph.nodes v 0 ≡ Scatter (share v)
      scatter e = dealt_code (code_at graph.nodes v) (share v) 0 e

      copy : (i : ℕ) → i < (share v).ways → is_dealt (share v) ≡ true
          → new_code share graph.nodes v (suc i) ≡ Copy (copied (code_at graph.nodes v)) (share v)
      copy i inside e = dealt_code (code_at graph.nodes v) (share v) (suc i) e
          ∙ copy_is (code_at graph.nodes v) (share v) i inside

      gather : is_dealt (share v) ≡ true
          → new_code share graph.nodes v (suc (share v).ways) ≡ Gather (share v)
      gather e = dealt_code (code_at graph.nodes v) (share v) (suc (share v).ways) e
          ∙ gather_is (code_at graph.nodes v) (share v)

      by_test : (t : Bool) → is_dealt (share v) ≡ t
          → Each (λ (wire : Wire). JoinsPorts
          (each_part share (new_code share graph.nodes) (length graph.nodes)) wire.channel)
          (cond t (up_to (to_copy (base share v)) (share v).ways
          ++ up_to (from_copy (base share v) (share v).ways) (share v).ways) [])
      by_test false e = tt
      by_test true e =
          let ports = one_port v less e in
          each_append (λ (wire : Wire). JoinsPorts
          (each_part share (new_code share graph.nodes) (length graph.nodes)) wire.channel)
          (up_to (to_copy (base share v)) (share v).ways)
          (up_to (from_copy (base share v) (share v).ways) (share v).ways)
          (each_up_to (λ (wire : Wire). JoinsPorts
          (each_part share (new_code share graph.nodes) (length graph.nodes)) wire.channel)
          (to_copy (base share v)) (share v).ways
          (λ i inside. record {
            source = first_output v i less
                (subst (λ (c : NodeCode). i < output_ports c) (sym (scatter e)) inside);
            target = inputs v (suc i) 0 less (omega (arith, last e, inside))
                (subst (λ (c : NodeCode). 0 < input_ports c) (sym (copy i inside e))
                (omega (arith, ports.copy_input)));
          }))
          (each_up_to (λ (wire : Wire). JoinsPorts
          (each_part share (new_code share graph.nodes) (length graph.nodes)) wire.channel)
          (from_copy (base share v) (share v).ways) (share v).ways
          (λ i inside. record {
            source = outputs v (suc i) 0 less (omega (arith, last e, inside))
                (subst (λ (c : NodeCode). 0 < output_ports c) (sym (copy i inside e))
                (omega (arith, ports.copy_output)));
            target = inputs v (suc (share v).ways) i less (omega (arith, last e))
                (subst (λ (c : NodeCode). i < input_ports c) (sym (gather e)) inside);
          }))

  pub wires_join : (greatest last : List ℕ)
      → All (JoinsPorts (each_part share (new_code share graph.nodes) (length graph.nodes)))
      (map (λ (wire : Wire). wire.channel) (split_wires share graph greatest last))
  wires_join greatest last =
      let wires = wires_of graph.channels greatest last in
      let before = each_wire (JoinsPorts graph.nodes) graph.channels greatest last
      (all_each (JoinsPorts graph.nodes) graph.channels is.channels) in
      each_all (JoinsPorts (each_part share (new_code share graph.nodes) (length graph.nodes)))
      (map (λ (wire : Wire). wire.channel) (split_wires share graph greatest last))
      (each_map (λ (wire : Wire). wire.channel)
      (JoinsPorts (each_part share (new_code share graph.nodes) (length graph.nodes)))
      (split_wires share graph greatest last)
      (each_joined (λ (wire : Wire). JoinsPorts
      (each_part share (new_code share graph.nodes) (length graph.nodes)) wire.channel)
      (leaving share wires) (length graph.nodes)
      (λ v less. each_append (λ (wire : Wire). JoinsPorts
      (each_part share (new_code share graph.nodes) (length graph.nodes)) wire.channel)
      (inner_wires (base share v) (share v)) (map (renamed_wire share) (filter (leaves v) wires))
      (inner_joins v less)
      (each_map (renamed_wire share) (λ (wire : Wire). JoinsPorts
      (each_part share (new_code share graph.nodes) (length graph.nodes)) wire.channel)
      (filter (leaves v) wires)
      (each_more (λ (wire : Wire). JoinsPorts graph.nodes wire.channel)
      (λ (wire : Wire). JoinsPorts
      (each_part share (new_code share graph.nodes) (length graph.nodes))
      (renamed_channel share wire.channel)) (filter (leaves v) wires)
      (λ wire joins. renamed_joins wire.channel joins)
      (each_filter (λ (wire : Wire). JoinsPorts graph.nodes wire.channel)
      (leaves v) wires before))))))
