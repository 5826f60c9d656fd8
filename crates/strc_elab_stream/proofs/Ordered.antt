-- The channels of a stream leave its nodes, and are in order of the ports that they leave.
use Rattle.std.proofs.Common.{◌≡◌, ℕ, ◌+◌, ◌<◌, ◌≤◌, Bool, true, false, List, [], ◌∷◌}
use Rattle.std.proofs.Common.{◌++◌, length, Some, None, Option, refl, inl, inr, arith, ◌⊎◌}
use Rattle.std.proofs.Common.{length-append, AllPairs}
use Rattle.std.specs.List.{AllByRecursion}
use Rattle.strc_elab_graph.specs.FlatGraphs.{IsBefore}
use Rattle.strc_elab_graph.specs.Graphs.{Channel, NodeCode, SplitterCode, Joiner, Splitter}
use Rattle.strc_elab_graph.specs.Carriers.{splitter_carries}
use Rattle.strc_elab_graph.specs.declared.graph.Port.{Port}
use Rattle.strc_elab_stream.specs.Instances.{Stream, Streams, Filter, Identity, FileReader}
use Rattle.strc_elab_stream.specs.Instances.{FileWriter}
use Rattle.strc_elab_stream.specs.Instances.{Pipeline, SplitJoin, FeedbackLoop, Done, More}
use Rattle.strc_elab_stream.specs.Types.{is_int, splitter_carried}
use Rattle.strc_elab_stream.specs.Flattening.{nodes_of, row_nodes, size_of, splitter_nodes}
use Rattle.strc_elab_stream.specs.Flattening.{joiner_nodes}
use Rattle.strc_elab_stream.specs.Wires.{Target, wire, wires, row_wires, branch_wires}
use Rattle.strc_elab_stream.specs.Wires.{splitter_wires}
use Rattle.strc_elab_stream.specs.Wires.{joiner_wires, split_wires, to_port, target_after}
use Rattle.strc_elab_stream.proofs.Channels.{Sorted, each_append, each_follows, sorted_append}
use Rattle.strc_elab_stream.proofs.Channels.{sorted_pairs}

-- ports in order

abbrev at : ℕ → ℕ → Port
at node port = record { node = node; port = port }

abbrev UpTo : Port → Port → Type 0
UpTo a b = (a.node < b.node) ⊎ ((a.node ≡ b.node) × (a.port ≤ b.port))

abbrev Below : Port → Port → Type 0
Below a b = (a.node < b.node) ⊎ ((a.node ≡ b.node) × (a.port < b.port))

up_to : (a b c : Port) → UpTo a b → UpTo b c → UpTo a c
up_to a b c (inl e) (inl f) = inl (omega (arith, e, f))
up_to a b c (inl e) (inr f) = inl (omega (arith, e, f.0))
up_to a b c (inr e) (inl f) = inl (omega (arith, e.0, f))
up_to a b c (inr e) (inr f) = inr (omega (arith, e.0, f.0), omega (arith, e.1, f.1))

below_up_to : (a b c : Port) → Below a b → UpTo b c → Below a c
below_up_to a b c (inl e) (inl f) = inl (omega (arith, e, f))
below_up_to a b c (inl e) (inr f) = inl (omega (arith, e, f.0))
below_up_to a b c (inr e) (inl f) = inl (omega (arith, e.0, f))
below_up_to a b c (inr e) (inr f) = inr (omega (arith, e.0, f.0), omega (arith, e.1, f.1))

-- channels in order, which leave ports from the first one on and below the other

record Spans (start end : Port) (channels : List Channel) : Type 0 where
  order : UpTo start end
  sorted : Sorted IsBefore channels
  above : AllByRecursion (λ channel. UpTo start channel.source) channels
  under : AllByRecursion (λ channel. Below channel.source end) channels

none : (start end : Port) → UpTo start end → Spans start end []
none start end order = record { order = order; sorted = tt; above = tt; under = tt }

together : (start middle end : Port) (xs ys : List Channel) → Spans start middle xs
    → Spans middle end ys → Spans start end (xs ++ ys)
together start middle end xs ys first second = record {
  order = up_to start middle end first.order second.order;
  sorted = sorted_append IsBefore (λ x. Below x.source middle) (λ y. UpTo middle y.source)
      (λ x y p q. below_up_to x.source middle y.source p q) xs ys first.sorted second.sorted
      first.under second.above;
  above = each_append (λ x. UpTo start x.source) xs ys first.above
      (each_follows (λ y. UpTo middle y.source) (λ y. UpTo start y.source)
      (λ y p. up_to start middle y.source first.order p) ys second.above);
  under = each_append (λ x. Below x.source end) xs ys
      (each_follows (λ x. Below x.source middle) (λ x. Below x.source end)
      (λ x p. below_up_to x.source middle end p second.order) xs first.under) second.under;
}

-- the same up to a later port
widened : (start end last : Port) (xs : List Channel) → UpTo end last → Spans start end xs
    → Spans start last xs
widened start end last xs more spans = record {
  order = up_to start end last spans.order more;
  sorted = spans.sorted;
  above = spans.above;
  under = each_follows (λ x. Below x.source end) (λ x. Below x.source last)
      (λ x p. below_up_to x.source end last p more) xs spans.under;
}

one_wire : (carries : Bool) (node port : ℕ) (target : Option Target)
    → Spans (at node port) (at node (port + 1)) (wire carries node port target)
one_wire false node port target = none _ _ (inr (refl, omega arith))
one_wire true node port None = none _ _ (inr (refl, omega arith))
one_wire true node port (Some target) = record {
  order = inr (refl, omega arith);
  sorted = (tt, tt);
  above = (inr (refl, omega arith), tt);
  under = (inr (refl, omega arith), tt);
}

-- that of a whole node
node_wire : (carries : Bool) (node next : ℕ) (target : Option Target) → node + 1 ≡ next
    → Spans (at node 0) (at next 0) (wire carries node 0 target)
node_wire carries node next target e =
    widened (at node 0) (at node (0 + 1)) (at next 0) (wire carries node 0 target)
    (inl (omega (arith, e))) (one_wire carries node 0 target)

split_spans : (splitter next port : ℕ) (carried : List Bool) (first : ℕ) (children : Streams)
    → splitter + 1 ≡ next
    → Spans (at splitter port) (at next 0) (split_wires splitter port carried first children)
split_spans splitter next port [] first children e = none _ _ (inl (omega (arith, e)))
split_spans splitter next port (carries ∷ others) first Done e =
    none _ _ (inl (omega (arith, e)))
split_spans splitter next port (carries ∷ others) first (More child rest) e =
    together (at splitter port) (at splitter (port + 1)) (at next 0)
    (wire carries splitter port (to_port first 0))
    (split_wires splitter (port + 1) others (first + size_of child) rest)
    (one_wire carries splitter port (to_port first 0))
    (split_spans splitter next (port + 1) others (first + size_of child) rest e)

splitter_spans : (first : ℕ) (splitter : Option SplitterCode) (children : Streams)
    → Spans (at first 0) (at (first + length (splitter_nodes splitter)) 0)
    (splitter_wires first splitter children)
splitter_spans first None children = none _ _ (inr (omega arith, omega arith))
splitter_spans first (Some splitter) children =
    split_spans first (first + 1) 0 (splitter_carried splitter) (first + 1) children refl

joiner_spans : (joiner : ℕ) (weights : Option (List ℕ)) (target : Option Target)
    → Spans (at joiner 0) (at (joiner + length (joiner_nodes weights)) 0)
    (joiner_wires joiner weights target)
joiner_spans joiner None target = none _ _ (inr (omega arith, omega arith))
joiner_spans joiner (Some weights) target = node_wire true joiner (joiner + 1) target refl

-- up to the end of two parts
end_of_both : (xs ys : List NodeCode) (first : ℕ)
    → UpTo (at (first + length xs + length ys) 0) (at (first + length (xs ++ ys)) 0)
end_of_both xs ys first = inr (omega (arith, length-append xs ys), omega arith)

mutual
  spans : (stream : Stream) (first : ℕ) (target : Option Target)
      → Spans (at first 0) (at (first + size_of stream) 0) (wires first stream target)
  spans (Filter name filter) first target =
      node_wire (is_int filter.output) first (first + 1) target refl
  spans Identity first target = node_wire true first (first + 1) target refl
  spans (FileReader text) first target = node_wire true first (first + 1) target refl
  spans (FileWriter text) first target = none _ _ (inl (omega arith))
  spans (Pipeline children) first target = row_spans children first target
  spans (SplitJoin splitter children joiner) first target =
      let inner = first + length (splitter_nodes splitter) in
      let last = inner + length (row_nodes children) in
      let sizes = length-append (splitter_nodes splitter ++ row_nodes children)
      (joiner_nodes joiner) in
      let more = length-append (splitter_nodes splitter) (row_nodes children) in
      widened (at first 0) (at (last + length (joiner_nodes joiner)) 0) _
      (wires first (SplitJoin splitter children joiner) target)
      (inr (omega (arith, sizes, more), omega arith))
      (together (at first 0) (at last 0) (at (last + length (joiner_nodes joiner)) 0)
      (splitter_wires first splitter children ++ branch_wires inner children last 0)
      (joiner_wires last joiner target)
      (together (at first 0) (at inner 0) (at last 0) (splitter_wires first splitter children)
      (branch_wires inner children last 0) (splitter_spans first splitter children)
      (branch_spans children inner last 0))
      (joiner_spans last joiner target))
  spans (FeedbackLoop joiner body splitter loop enqueued) first target =
      let split = first + 1 + size_of body in
      let second = first + 2 + size_of body in
      let back : Option Target = Some (record {
        port = record { node = first; port = 1 };
        enqueued = enqueued;
      }) in
      let sizes = length-append (Joiner joiner ∷ nodes_of body)
      (Splitter splitter ∷ nodes_of loop) in
      let outer = wire (splitter_carries splitter 0) split 0 target in
      let inner = wire true split 1 (to_port second 0) in
      let at_joiner = wire true first 0 (to_port (first + 1) 0) in
      let in_body = wires (first + 1) body (to_port split 0) in
      let in_loop = wires second loop back in
      widened (at first 0) (at (second + size_of loop) 0)
      (at (first + size_of (FeedbackLoop joiner body splitter loop enqueued)) 0)
      (wires first (FeedbackLoop joiner body splitter loop enqueued) target)
      (inr (omega (arith, sizes), omega arith))
      (together (at first 0) (at second 0) (at (second + size_of loop) 0)
      (at_joiner ++ in_body ++ outer ++ inner) in_loop
      (together (at first 0) (at split 1) (at second 0) (at_joiner ++ in_body ++ outer) inner
      (together (at first 0) (at split 0) (at split 1) (at_joiner ++ in_body) outer
      (together (at first 0) (at (first + 1) 0) (at split 0) at_joiner in_body
      (node_wire true first (first + 1) (to_port (first + 1) 0) refl)
      (spans body (first + 1) (to_port split 0)))
      (one_wire (splitter_carries splitter 0) split 0 target))
      (widened (at split 1) (at split (1 + 1)) (at second 0) inner (inl (omega arith))
      (one_wire true split 1 (to_port second 0))))
      (spans loop second back))

  row_spans : (children : Streams) (first : ℕ) (target : Option Target)
      → Spans (at first 0) (at (first + length (row_nodes children)) 0)
      (row_wires first children target)
  row_spans Done first target = none _ _ (inr (omega arith, omega arith))
  row_spans (More next rest) first target =
      let second = first + size_of next in
      widened (at first 0) (at (second + length (row_nodes rest)) 0) _
      (row_wires first (More next rest) target)
      (end_of_both (nodes_of next) (row_nodes rest) first)
      (together (at first 0) (at second 0) (at (second + length (row_nodes rest)) 0)
      (wires first next (target_after second rest target)) (row_wires second rest target)
      (spans next first (target_after second rest target)) (row_spans rest second target))

  branch_spans : (children : Streams) (first joiner port : ℕ)
      → Spans (at first 0) (at (first + length (row_nodes children)) 0)
      (branch_wires first children joiner port)
  branch_spans Done first joiner port = none _ _ (inr (omega arith, omega arith))
  branch_spans (More next rest) first joiner port =
      let second = first + size_of next in
      widened (at first 0) (at (second + length (row_nodes rest)) 0) _
      (branch_wires first (More next rest) joiner port)
      (end_of_both (nodes_of next) (row_nodes rest) first)
      (together (at first 0) (at second 0) (at (second + length (row_nodes rest)) 0)
      (wires first next (to_port joiner port)) (branch_wires second rest joiner (port + 1))
      (spans next first (to_port joiner port)) (branch_spans rest second joiner (port + 1)))

-- no two leave one port
pub wires_ordered : (stream : Stream) (first : ℕ) (target : Option Target)
    → AllPairs IsBefore (wires first stream target)
wires_ordered stream first target =
    sorted_pairs IsBefore (wires first stream target) (spans stream first target).sorted
