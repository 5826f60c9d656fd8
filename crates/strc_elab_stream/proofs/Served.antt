-- The channels of a whole stream end at each input port that carries items, but for where items
-- come from outside.
use Rattle.std.proofs.Common.{◌≡◌, ℕ, zero, suc, ◌+◌, ◌⊎◌, Bool, true, false, List, [], ◌∷◌, ◌++◌}
use Rattle.std.proofs.Common.{length, Some, Option, slice_index_or, refl, sym, ap, ◌∙◌, subst}
use Rattle.std.proofs.Common.{arith, inl, inr, length-append}
use Rattle.strc_parse_tree.specs.declared.tree.ItemType.{ItemType}
use Rattle.strc_elab_graph.specs.Graphs as graphs
use Rattle.strc_elab_graph.specs.Graphs.{Channel, NodeCode}
use Rattle.strc_elab_graph.specs.Carriers.{splitter_carries, carries_in}
use Rattle.strc_elab_stream.specs.Instances.{Stream, Streams, Filter, Identity, FileReader}
use Rattle.strc_elab_stream.specs.Instances.{FileWriter}
use Rattle.strc_elab_stream.specs.Instances.{Pipeline, SplitJoin, FeedbackLoop, Done, More}
use Rattle.strc_elab_stream.specs.Types.{IsWellTyped, AreWellTyped, AreEach, ComesBack, first_input}
use Rattle.strc_elab_stream.specs.Types.{input_of, joiner_carried, side, side_at}
use Rattle.strc_elab_stream.specs.Flattening.{nodes_of, row_nodes, size_of, splitter_nodes}
use Rattle.strc_elab_stream.specs.Flattening.{joiner_nodes}
use Rattle.strc_elab_stream.specs.Wires.{Target, wire, wires, row_wires, branch_wires}
use Rattle.strc_elab_stream.specs.Wires.{splitter_wires}
use Rattle.strc_elab_stream.specs.Wires.{joiner_wires, to_port}
use Rattle.strc_elab_stream.proofs.Carried.{joiner_carries_is}
use Rattle.strc_elab_stream.proofs.Ends.{Ends, ends_former, ends_latter, wire_ends}
use Rattle.strc_elab_stream.proofs.Exits.{exit}
use Rattle.strc_elab_stream.proofs.Fed.{IsFront, AnyFront, IsServed, splitter_ends, joiner_served}
use Rattle.strc_elab_stream.proofs.Fed.{splitter_served, only_port, no_port, filter_port}
use Rattle.strc_elab_stream.proofs.Numbered.{Numbered, join, each}

abbrev at : ℕ → ℕ → Target
at node port = record { port = record { node = node; port = port }; enqueued = [] }

-- a port of one channel more

either : (A B C D : Type 0) → (A → C ⊎ D) → (B → D) → A ⊎ B → C ⊎ D
either A B C D one other (inl a) = one a
either A B C D one other (inr b) = inr (other b)

served_also : (front other : ℕ → ℕ → Type 0) (channels more : List Channel)
    → ((node port : ℕ) → front node port → other node port ⊎ Ends more node port)
    → ((node port : ℕ) → Ends channels node port → Ends more node port)
    → (nodes : List NodeCode) (first : ℕ) → Numbered (IsServed front channels) first nodes
    → Numbered (IsServed other more) first nodes
served_also front other channels more at_front at_end =
    each (IsServed front channels) (IsServed other more) (λ node code served port carries.
    either (front node port) (Ends channels node port) (other node port) (Ends more node port)
    (at_front node port) (at_end node port) (served port carries))

front_ends : (first : ℕ) (type : ItemType) (channels : List Channel) → Ends channels first 0
    → (node port : ℕ) → IsFront first type node port → Ends channels node port
front_ends first type channels ends node port front =
    subst (λ n. Ends channels n port) (sym front.0)
    (subst (λ p. Ends channels first p) (sym front.1) ends)

past_both : (outer : Bool) (k : ℕ)
    → slice_index_or (outer ∷ true ∷ []) (suc (suc k)) false ≡ true → ⊥
past_both outer k e = cc

loop_joiner_served : (weights : List ℕ) → ComesBack (joiner_carried weights) → (first : ℕ)
    → (channels : List Channel) → Ends channels first 1
    → IsServed (IsFront first (side (carries_in (graphs.Joiner weights) 0))) channels first
    (graphs.Joiner weights)
loop_joiner_served weights back first channels ends zero carries =
    inl (refl, refl, ap side carries)
loop_joiner_served weights back first channels ends (suc zero) carries = inr ends
loop_joiner_served weights back first channels ends (suc (suc k)) carries =
    absurd (past_both back.outer k
    (ap (λ (l : List Bool). slice_index_or l (suc (suc k)) false) (sym back.ports)
    ∙ sym (joiner_carries_is weights (suc (suc k))) ∙ carries))

mutual
  pub served : (stream : Stream) → IsWellTyped stream → (first : ℕ) (target : Option Target)
      → Numbered (IsServed (IsFront first (input_of stream)) (wires first stream target)) first
      (nodes_of stream)
  served (Filter name filter) typed first target =
      (λ port carries. inl (filter_port filter.input first port carries), tt)
  served Identity typed first target =
      (λ port carries. inl (refl, only_port port carries, refl), tt)
  served (FileReader text) typed first target = (λ port carries. absurd (no_port port carries), tt)
  served (FileWriter text) typed first target =
      (λ port carries. inl (refl, only_port port carries, refl), tt)
  served (Pipeline children) typed first target = row_served children typed.1 first target
  served (SplitJoin splitter children joiner) typed first target =
      let inner = first + length (splitter_nodes splitter) in
      let last = inner + length (row_nodes children) in
      let out = splitter_wires first splitter children in
      let between = branch_wires inner children last 0 in
      let on = joiner_wires last joiner target in
      let all = wires first (SplitJoin splitter children joiner) target in
      let front = IsFront first (side_at splitter) in
      let to_last : last ≡ first + length (splitter_nodes splitter ++ row_nodes children) =
      omega (arith, length-append (splitter_nodes splitter) (row_nodes children)) in
      let inside : (node port : ℕ) → Ends between node port → Ends all node port =
      λ node port ends. ends_former (out ++ between) on node port
      (ends_latter out between node port ends) in
      let in_front : (node port : ℕ) → AnyFront inner children node port → Ends all node port =
      λ node port f. ends_former (out ++ between) on node port
      (ends_former out between node port
      (splitter_ends splitter children first typed.2 node port f)) in
      join (IsServed front all) (splitter_nodes splitter ++ row_nodes children)
      (joiner_nodes joiner) first
      (join (IsServed front all) (splitter_nodes splitter) (row_nodes children) first
      (splitter_served all splitter first (side_at splitter) refl)
      (served_also (AnyFront inner children) front between all
      (λ node port f. inr (in_front node port f)) inside (row_nodes children) inner
      (branches_served children typed.1 inner last 0)))
      (subst (λ n. Numbered (IsServed front all) n (joiner_nodes joiner)) to_last
      (served_also front front between all (λ node port f. inl f) inside (joiner_nodes joiner) last
      (joiner_served front joiner children last inner typed.3)))
  served (FeedbackLoop joiner body splitter loop enqueued) typed first target =
      let split = first + 1 + size_of body in
      let second = first + 2 + size_of body in
      let back : Target = record {
        port = record { node = first; port = 1 };
        enqueued = enqueued;
      } in
      let outer = wire (splitter_carries splitter 0) split 0 target in
      let inner = wire true split 1 (to_port second 0) in
      let at_joiner = wire true first 0 (to_port (first + 1) 0) in
      let in_body = wires (first + 1) body (to_port split 0) in
      let in_loop = wires second loop (Some back) in
      let all = wires first (FeedbackLoop joiner body splitter loop enqueued) target in
      let front = IsFront first (side (carries_in (graphs.Joiner joiner) 0)) in
      let of_loop : (node port : ℕ) → Ends in_loop node port → Ends all node port =
      λ node port ends. ends_latter (at_joiner ++ in_body ++ outer ++ inner) in_loop node port ends
      in
      let of_inner : (node port : ℕ) → Ends inner node port → Ends all node port =
      λ node port ends. ends_former (at_joiner ++ in_body ++ outer ++ inner) in_loop node port
      (ends_latter (at_joiner ++ in_body ++ outer) inner node port ends) in
      let of_both : (node port : ℕ) → Ends (at_joiner ++ in_body) node port → Ends all node port =
      λ node port ends. ends_former (at_joiner ++ in_body ++ outer ++ inner) in_loop node port
      (ends_former (at_joiner ++ in_body ++ outer) inner node port
      (ends_former (at_joiner ++ in_body) outer node port ends)) in
      let of_body : (node port : ℕ) → Ends in_body node port → Ends all node port =
      λ node port ends. of_both node port (ends_latter at_joiner in_body node port ends) in
      let next : first + 1 ≡ suc first = omega arith in
      let to_split : split ≡ first + suc (size_of body) = omega arith in
      let past_split : second ≡ suc split = omega arith in
      join (IsServed front all) (graphs.Joiner joiner ∷ nodes_of body)
      (graphs.Splitter splitter ∷ nodes_of loop) first (
        loop_joiner_served joiner typed.0 first all
            (of_loop first 1 (exit loop second back typed.4.1)),
        subst (λ n. Numbered (IsServed front all) n (nodes_of body)) next
            (served_also (IsFront (first + 1) (input_of body)) front in_body all
            (λ node port f. inr (front_ends (first + 1) (input_of body) all
            (of_both (first + 1) 0 (ends_former at_joiner in_body (first + 1) 0
            (wire_ends true first 0 (at (first + 1) 0) refl))) node port f)) of_body
            (nodes_of body) (first + 1) (served body typed.3 (first + 1) (to_port split 0))),
      )
      (subst (λ n. Numbered (IsServed front all) n (graphs.Splitter splitter ∷ nodes_of loop))
      to_split (
        λ port carries. inr (subst (λ p. Ends all split p) (sym (only_port port carries))
            (of_body split 0 (exit body (first + 1) (at split 0) typed.2.1))),
        subst (λ n. Numbered (IsServed front all) n (nodes_of loop)) past_split
            (served_also (IsFront second (input_of loop)) front in_loop all
            (λ node port f. inr (front_ends second (input_of loop) all
            (of_inner second 0 (wire_ends true split 1 (at second 0) refl)) node port f)) of_loop
            (nodes_of loop) second (served loop typed.5 second (Some back))),
      ))

  row_served : (children : Streams) → AreWellTyped children → (first : ℕ)
      → (target : Option Target)
      → Numbered (IsServed (IsFront first (first_input children)) (row_wires first children target))
      first (row_nodes children)
  row_served Done typed first target = tt
  row_served (More next Done) typed first target =
      let front = IsFront first (input_of next) in
      let all = wires first next target ++ [] in
      join (IsServed front all) (nodes_of next) [] first
      (served_also front front (wires first next target) all (λ node port f. inl f)
      (ends_former (wires first next target) []) (nodes_of next) first
      (served next typed.0 first target)) tt
  row_served (More next (More other rest)) typed first target =
      let second = first + size_of next in
      let front = IsFront first (input_of next) in
      let here = wires first next (to_port second 0) in
      let there = row_wires second (More other rest) target in
      join (IsServed front (here ++ there)) (nodes_of next) (row_nodes (More other rest)) first
      (served_also front front here (here ++ there) (λ node port f. inl f)
      (ends_former here there) (nodes_of next) first
      (served next typed.0 first (to_port second 0)))
      (served_also (IsFront second (input_of other)) front there (here ++ there)
      (λ node port f. inr (ends_former here there node port
      (front_ends second (input_of other) here (exit next first (at second 0) (sym typed.1 ∙ f.2))
      node port f))) (ends_latter here there) (row_nodes (More other rest)) second
      (row_served (More other rest) typed.2 second target))

  branches_served : (children : Streams) → AreEach children → (first joiner port : ℕ)
      → Numbered (IsServed (AnyFront first children) (branch_wires first children joiner port))
      first (row_nodes children)
  branches_served Done typed first joiner port = tt
  branches_served (More next rest) typed first joiner port =
      let second = first + size_of next in
      let front = AnyFront first (More next rest) in
      let here = wires first next (to_port joiner port) in
      let there = branch_wires second rest joiner (port + 1) in
      join (IsServed front (here ++ there)) (nodes_of next) (row_nodes rest) first
      (served_also (IsFront first (input_of next)) front here (here ++ there)
      (λ node input f. inl (inl f)) (ends_former here there) (nodes_of next) first
      (served next typed.0 first (to_port joiner port)))
      (served_also (AnyFront second rest) front there (here ++ there)
      (λ node input f. inl (inr f)) (ends_latter here there) (row_nodes rest) second
      (branches_served rest typed.1 second joiner (port + 1)))
