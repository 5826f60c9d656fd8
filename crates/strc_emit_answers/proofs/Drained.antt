-- A channel begins at each output port of a whole program that carries items.
use Rattle.std.proofs.Common.{◌≡◌, ℕ, zero, suc, ◌+◌, true, List, [], ◌∷◌, ◌++◌, length}
use Rattle.std.proofs.Common.{Some, Option, slice_get, refl, sym, ap, ◌∙◌, subst, arith}
use Rattle.std.proofs.Common.{length-append, nat_lt, None}
use Rattle.strc_parse_tree.specs.declared.tree.ItemType.{ItemType}
use Rattle.strc_parse_tree.specs.declared.tree.ItemType.TheVariants as item
use Rattle.strc_work_meaning.specs.Filters as filters
use Rattle.strc_elab_graph.specs.Graphs as graphs
use Rattle.strc_elab_graph.specs.Graphs.{Channel, Graph, NodeCode, ports_of}
use Rattle.strc_elab_graph.specs.Carriers.{carries_out, gives_at, splitter_carries}
use Rattle.strc_elab_stream.specs.Instances.{Stream, Streams, Filter, Identity, FileReader}
use Rattle.strc_elab_stream.specs.Instances.{FileWriter}
use Rattle.strc_elab_stream.specs.Instances.{Pipeline, SplitJoin, FeedbackLoop, Done, More}
use Rattle.strc_elab_stream.specs.Types.{IsWellTyped, AreWellTyped, AreEach, is_int, output_of}
use Rattle.strc_elab_stream.specs.Types.{last_output}
use Rattle.strc_elab_stream.specs.Flattening.{nodes_of, row_nodes, size_of, splitter_nodes}
use Rattle.strc_elab_stream.specs.Flattening.{joiner_nodes}
use Rattle.strc_elab_stream.specs.Wires.{Target, wire, wires, wired, row_wires, branch_wires}
use Rattle.strc_elab_stream.specs.Wires.{splitter_wires, joiner_wires, to_port}
use Rattle.strc_elab_stream.proofs.Fed.{only_port, no_port}
use Rattle.strc_elab_stream.proofs.Inlets.{no_items}
use Rattle.strc_elab_stream.proofs.Numbered.{Numbered, join, each, numbered_get}
use Rattle.strc_elab_stream.proofs.OneGraph.{one_graph}
use Rattle.strc_elab_stream.proofs.Whole.{wires_are_flat}
use Rattle.strc_emit_answers.specs.Given.{GivenGoesOn}
use Rattle.strc_emit_answers.proofs.Begins.{Begins, HasTarget, begins_former, begins_latter}
use Rattle.strc_emit_answers.proofs.Begins.{begins_number}
use Rattle.strc_emit_answers.proofs.Splits.{Drains, splitter_drains, joiner_drains, first_drains}
use Rattle.strc_emit_answers.proofs.Splits.{loop_splitter_drains}

drains_also : (channels more : List Channel)
    → ((node port : ℕ) → Begins channels node port → Begins more node port)
    → (nodes : List NodeCode) (first : ℕ) → Numbered (Drains channels) first nodes
    → Numbered (Drains more) first nodes
drains_also channels more also =
    each (Drains channels) (Drains more)
    (λ node code drains port carries. also node port (drains port carries))

filter_drains : (name : Option (List ℕ)) (filter : filters.Filter) (type : ItemType)
    → filter.output ≡ type → (first : ℕ) (target : Option Target)
    → (type ≡ item.Int → HasTarget target)
    → Drains (wire (is_int type) first 0 target) first (graphs.Filter name filter)
filter_drains name filter item.Int is first target given =
    first_drains (graphs.Filter name filter) first target (λ port carries. (
      only_port port (ap (λ (t : ItemType). nat_lt port (ports_of t)) (sym is) ∙ carries),
      given refl,
    ))
filter_drains name filter item.Void is first target given = λ port carries.
    absurd (no_port port (ap (λ (t : ItemType). nat_lt port (ports_of t)) (sym is) ∙ carries))

mutual
  pub drained : (stream : Stream) → IsWellTyped stream → (first : ℕ) (target : Option Target)
      → (output_of stream ≡ item.Int → HasTarget target)
      → Numbered (Drains (wires first stream target)) first (nodes_of stream)
  drained (Filter name filter) typed first target given =
      (filter_drains name filter filter.output refl first target given, tt)
  drained Identity typed first target given = (
    first_drains graphs.Identity first target
        (λ port carries. (only_port port carries, given refl)),
    tt,
  )
  drained (FileReader text) typed first target given = (
    first_drains (graphs.FileReader text) first target
        (λ port carries. (only_port port carries, given refl)),
    tt,
  )
  drained (FileWriter text) typed first target given =
      (λ port carries. absurd (no_port port carries), tt)
  drained (Pipeline children) typed first target given =
      row_drained children typed.1 first target given
  drained (SplitJoin splitter children joiner) typed first target given =
      let inner = first + length (splitter_nodes splitter) in
      let last = inner + length (row_nodes children) in
      let out = splitter_wires first splitter children in
      let between = branch_wires inner children last 0 in
      let on = joiner_wires last joiner target in
      let all = wires first (SplitJoin splitter children joiner) target in
      let to_last : last ≡ first + length (splitter_nodes splitter ++ row_nodes children) =
      omega (arith, length-append (splitter_nodes splitter) (row_nodes children)) in
      join (Drains all) (splitter_nodes splitter ++ row_nodes children)
      (joiner_nodes joiner) first
      (join (Drains all) (splitter_nodes splitter) (row_nodes children) first
      (drains_also out all (λ node port b. begins_former (out ++ between) on node port
      (begins_former out between node port b)) (splitter_nodes splitter) first
      (splitter_drains splitter children first typed.2))
      (drains_also between all (λ node port b. begins_former (out ++ between) on node port
      (begins_latter out between node port b)) (row_nodes children) inner
      (branches_drained children typed.1 inner last 0)))
      (subst (λ n. Numbered (Drains all) n (joiner_nodes joiner)) to_last
      (drains_also on all (begins_latter (out ++ between) on) (joiner_nodes joiner) last
      (joiner_drains joiner last target given)))
  drained (FeedbackLoop joiner body splitter loop enqueued) typed first target given =
      let split = first + 1 + size_of body in
      let second = first + 2 + size_of body in
      let back : Option Target = Some (record {
        port = record { node = first; port = 1 };
        enqueued = enqueued;
      }) in
      let outer = wire (splitter_carries splitter 0) split 0 target in
      let inner = wire true split 1 (to_port second 0) in
      let at_joiner = wire true first 0 (to_port (first + 1) 0) in
      let in_body = wires (first + 1) body (to_port split 0) in
      let in_loop = wires second loop back in
      let all = wires first (FeedbackLoop joiner body splitter loop enqueued) target in
      let of_joiner : (node port : ℕ) → Begins (at_joiner ++ in_body) node port
      → Begins all node port =
      λ node port b. begins_former (at_joiner ++ in_body ++ outer ++ inner) in_loop node port
      (begins_former (at_joiner ++ in_body ++ outer) inner node port
      (begins_former (at_joiner ++ in_body) outer node port b)) in
      let of_outer : (port : ℕ) → Begins outer split port → Begins all split port =
      λ port b. begins_former (at_joiner ++ in_body ++ outer ++ inner) in_loop split port
      (begins_former (at_joiner ++ in_body ++ outer) inner split port
      (begins_latter (at_joiner ++ in_body) outer split port b)) in
      let of_inner : (port : ℕ) → Begins inner split port → Begins all split port =
      λ port b. begins_former (at_joiner ++ in_body ++ outer ++ inner) in_loop split port
      (begins_latter (at_joiner ++ in_body ++ outer) inner split port b) in
      let next : first + 1 ≡ suc first = omega arith in
      let to_split : split ≡ first + suc (size_of body) = omega arith in
      let past_split : second ≡ suc split = omega arith in
      join (Drains all) (graphs.Joiner joiner ∷ nodes_of body)
      (graphs.Splitter splitter ∷ nodes_of loop) first (
        λ port carries. of_joiner first port (begins_former at_joiner in_body first port
            (first_drains (graphs.Joiner joiner) first (to_port (first + 1) 0)
            (λ p c. (only_port p c, tt)) port carries)),
        subst (λ n. Numbered (Drains all) n (nodes_of body)) next
            (drains_also in_body all (λ node port b. of_joiner node port
            (begins_latter at_joiner in_body node port b)) (nodes_of body) (first + 1)
            (drained body typed.3 (first + 1) (to_port split 0) (λ is. tt))),
      )
      (subst (λ n. Numbered (Drains all) n (graphs.Splitter splitter ∷ nodes_of loop)) to_split (
        loop_splitter_drains splitter split target (to_port second 0) typed.1 all of_outer of_inner
            given tt,
        subst (λ n. Numbered (Drains all) n (nodes_of loop)) past_split
            (drains_also in_loop all
            (begins_latter (at_joiner ++ in_body ++ outer ++ inner) in_loop) (nodes_of loop) second
            (drained loop typed.5 second back (λ is. tt))),
      ))

  row_drained : (children : Streams) → AreWellTyped children → (first : ℕ)
      → (target : Option Target) → (last_output item.Void children ≡ item.Int → HasTarget target)
      → Numbered (Drains (row_wires first children target)) first (row_nodes children)
  row_drained Done typed first target given = tt
  row_drained (More next Done) typed first target given =
      let all = wires first next target ++ [] in
      join (Drains all) (nodes_of next) [] first
      (drains_also (wires first next target) all (begins_former (wires first next target) [])
      (nodes_of next) first (drained next typed.0 first target given)) tt
  row_drained (More next (More other rest)) typed first target given =
      let second = first + size_of next in
      let here = wires first next (to_port second 0) in
      let there = row_wires second (More other rest) target in
      join (Drains (here ++ there)) (nodes_of next) (row_nodes (More other rest)) first
      (drains_also here (here ++ there) (begins_former here there) (nodes_of next) first
      (drained next typed.0 first (to_port second 0) (λ is. tt)))
      (drains_also there (here ++ there) (begins_latter here there) (row_nodes (More other rest))
      second (row_drained (More other rest) typed.2 second target given))

  branches_drained : (children : Streams) → AreEach children → (first joiner port : ℕ)
      → Numbered (Drains (branch_wires first children joiner port)) first (row_nodes children)
  branches_drained Done typed first joiner port = tt
  branches_drained (More next rest) typed first joiner port =
      let second = first + size_of next in
      let here = wires first next (to_port joiner port) in
      let there = branch_wires second rest joiner (port + 1) in
      join (Drains (here ++ there)) (nodes_of next) (row_nodes rest) first
      (drains_also here (here ++ there) (begins_former here there) (nodes_of next) first
      (drained next typed.0 first (to_port joiner port) (λ is. tt)))
      (drains_also there (here ++ there) (begins_latter here there) (row_nodes rest) second
      (branches_drained rest typed.1 second joiner (port + 1)))

-- the code of a node that gives items

giver : (nodes : List NodeCode) (node port : ℕ) → gives_at nodes node port ≡ true
    → (code : NodeCode) × (slice_get nodes node ≡ Some code) × (carries_out code port ≡ true)
giver [] node port gives = absurd (cc)
giver (code ∷ codes) zero port gives = (code, refl, gives)
giver (code ∷ codes) (suc node) port gives = giver codes node port gives

pub given_goes_on : GivenGoesOn
given_goes_on graph node port whole gives =
    let stream = whole.stream in
    let same = one_graph stream graph (wired stream) whole.program.flat
    (wires_are_flat stream whole.closed.typed) in
    let code = giver (nodes_of stream) node port
    (ap (λ (l : List NodeCode). gives_at l node port) (sym same.0) ∙ gives) in
    let plain : 0 + node ≡ node = omega arith in
    let begins : Begins (wires 0 stream None) node port =
    subst (λ n. Drains (wires 0 stream None) n code.0) plain
    (numbered_get (Drains (wires 0 stream None)) (nodes_of stream) 0 node code.0
    (drained stream whole.closed.typed 0 None
    (λ is. absurd (no_items (sym whole.closed.output ∙ is)))) code.1) port code.2 in
    let found = begins_number (wires 0 stream None) node port begins in (
      found.0,
      found.1,
      ap (λ (l : List Channel). slice_get l found.0) same.1 ∙ found.2,
      found.3,
    )
