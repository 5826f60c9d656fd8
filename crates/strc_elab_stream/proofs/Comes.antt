-- Each channel of a stream that is in a graph joins ports that carry items, and is the source
-- that the graph gives the port where it ends.
use Rattle.std.proofs.Common.{◌≡◌, ℕ, suc, ◌+◌, Bool, true, false, ◌||◌, List, [], ◌∷◌}
use Rattle.std.proofs.Common.{length, Some, None, Option, slice_index_or, refl}
use Rattle.std.proofs.Common.{map, sym, ap, ◌∙◌, arith, append-nil, ℤ}
use Rattle.std.specs.List.{AllByRecursion, list_any}
use Rattle.strc_elab_dataflow.specs.Flat.{Source}
use Rattle.strc_elab_dataflow.specs.Streams.{delayed}
use Rattle.strc_parse_tree.specs.declared.tree.ItemType.TheVariants as item
use Rattle.strc_elab_graph.specs.Graphs as graphs
use Rattle.strc_elab_graph.specs.Graphs.{Channel, NodeCode, SplitterCode, source_of}
use Rattle.strc_elab_graph.specs.Carriers.{splitter_carries, carries_in, takes_at, gives_at}
use Rattle.strc_elab_graph.specs.Carriers.{JoinsCarriers}
use Rattle.strc_elab_stream.specs.Instances.{Streams}
use Rattle.strc_elab_stream.specs.Instances.{Done, More}
use Rattle.strc_elab_stream.specs.Types.{IsSplit, IsJoined}
use Rattle.strc_elab_stream.specs.Types.{input_of, output_of, is_int, inputs_of, outputs_of}
use Rattle.strc_elab_stream.specs.Types.{splitter_carried, joiner_carried, side_at}
use Rattle.strc_elab_stream.specs.Flattening.{size_of, splitter_nodes}
use Rattle.strc_elab_stream.specs.Wires.{Target, wire, splitter_wires}
use Rattle.strc_elab_stream.specs.Wires.{joiner_wires, split_wires, to_port}
use Rattle.strc_elab_stream.proofs.Channels.{each_append}
use Rattle.strc_elab_stream.proofs.Inlets.{inlet, int_is, gives, takes, Takes}
use Rattle.strc_elab_stream.proofs.Outlets.{from, outlet, branch_outlets, joiner_outlet}
use Rattle.strc_elab_stream.proofs.Outlets.{splitter_outlet}
use Rattle.strc_elab_stream.proofs.Placed.{PlacedBranches, PlacedJoiner}
use Rattle.strc_elab_stream.proofs.Placed.{PlacedSplitter}
use Rattle.strc_elab_stream.proofs.Carried.{joiner_carries_is, splitter_carries_is}

pub first_same : (a b : Bool) (l m : List Bool) → (a ∷ l) ≡ (b ∷ m) → a ≡ b
first_same a b l m e = ap (λ (o : List Bool). slice_index_or o 0 false) e

rest_of : List Bool → List Bool
rest_of [] = []
rest_of (first ∷ rest) = rest

pub rest_same : (a b : Bool) (l m : List Bool) → (a ∷ l) ≡ (b ∷ m) → l ≡ m
unfolding rest_of
rest_same a b l m e = ap rest_of e

pub none_first : (a b : Bool) → (a || b) ≡ false → a ≡ true → ⊥
none_first true b e is = absurd (cc)
none_first false b e is = absurd (cc)

pub none_rest : (a b : Bool) → (a || b) ≡ false → b ≡ false
none_rest true b e = absurd (cc)
none_rest false b e = e

module _ (nodes : List NodeCode) (source : ℕ → ℕ → Source) where
  pub record IsWire (channel : Channel) : Type 0 where
    pub joins : JoinsCarriers nodes channel
    pub comes : source channel.target.node channel.target.port ≡ source_of channel

  -- a target takes items, and what is given comes to it after the items enqueued
  abbrev pub IsReached : Source → Option Target → Type 0
  IsReached given None = Unit {0}
  IsReached given (Some target) = Takes nodes source target.port.node target.port.port
      (delayed target.enqueued given)

  pub reached : (node port : ℕ) (given : Source) → Takes nodes source node port given
      → IsReached given (to_port node port)
  unfolding delayed
  reached node port given taken = record { taken = taken.taken; comes = taken.comes }

  same_given : (node port : ℕ) (before given : Source) → before ≡ given
      → Takes nodes source node port before → Takes nodes source node port given
  same_given node port before given e taken =
      record { taken = taken.taken; comes = taken.comes ∙ e }

  pub wire_comes : (carries : Bool) (node port : ℕ) (target : Option Target)
      → (carries ≡ true → gives_at nodes node port ≡ true)
      → (carries ≡ true → IsReached (from node port) target)
      → AllByRecursion IsWire (wire carries node port target)
  unfolding delayed
  wire_comes false node port target given taken = tt
  wire_comes true node port None given taken = tt
  wire_comes true node port (Some target) given taken =
      let there = taken refl in (
        record {
          joins = record { source = given refl; target = there.taken };
          comes = there.comes
              ∙ ap (λ (l : List ℤ). record { enqueued = l; origin = (from node port).origin })
              (append-nil target.enqueued);
        },
        tt,
      )

  -- the wires of a splitter

  split_comes : (carried : List Bool) (children : Streams) (splitter port first : ℕ)
      → (before : ℕ → Source) → carried ≡ map is_int (inputs_of children)
      → ((k : ℕ) → gives_at nodes splitter (port + k) ≡ slice_index_or carried k false)
      → ((k : ℕ) → before k ≡ from splitter (port + k))
      → PlacedBranches nodes source first before children
      → AllByRecursion IsWire (split_wires splitter port carried first children)
  split_comes [] children splitter port first before meets given same at = tt
  split_comes (carries ∷ others) Done splitter port first before meets given same at = tt
  split_comes (carries ∷ others) (More child rest) splitter port first before meets given same at =
      let here : port + 0 ≡ port = omega arith in
      let sides = map is_int (inputs_of rest) in
      let next : (k : ℕ) → port + suc k ≡ (port + 1) + k = λ k. omega arith in
      each_append IsWire (wire carries splitter port (to_port first 0))
      (split_wires splitter (port + 1) others (first + size_of child) rest)
      (wire_comes carries splitter port (to_port first 0)
      (λ e. ap (λ n. gives_at nodes splitter n) (sym here) ∙ given 0 ∙ e)
      (λ e. reached first 0 (from splitter port)
      (same_given first 0 (before 0) (from splitter port) (same 0 ∙ ap (λ n. from splitter n) here)
      (inlet nodes source child first (before 0) at.0 (int_is (input_of child)
      (sym (first_same carries (is_int (input_of child)) others sides meets) ∙ e))))))
      (split_comes others rest splitter (port + 1) (first + size_of child)
      (λ k. before (suc k)) (rest_same carries (is_int (input_of child)) others sides meets)
      (λ k. ap (λ n. gives_at nodes splitter n) (sym (next k)) ∙ given (suc k))
      (λ k. same (suc k) ∙ ap (λ n. from splitter n) (next k)) at.1)

  pub splitter_comes : (splitter : Option SplitterCode) (children : Streams) (first : ℕ)
      → (before : Source) → IsSplit splitter (inputs_of children)
      → PlacedSplitter nodes source first before splitter
      → PlacedBranches nodes source (first + length (splitter_nodes splitter))
      (splitter_outlet first splitter) children
      → AllByRecursion IsWire (splitter_wires first splitter children)
  splitter_comes None children first before split at placed = tt
  splitter_comes (Some splitter) children first before split at placed =
      let plain : (k : ℕ) → 0 + k ≡ k = λ k. omega arith in
      split_comes (splitter_carried splitter) children first 0 (first + 1)
      (splitter_outlet first (Some splitter)) split.meets
      (λ k. gives nodes first (0 + k) (graphs.Splitter splitter) at.0
      ∙ ap (splitter_carries splitter) (plain k) ∙ splitter_carries_is splitter k)
      (λ k. ap (λ n. from first n) (sym (plain k))) placed

  -- the ports of a joiner

  -- where a stream gives items, they come to a port of this joiner
  abbrev pub AreJoined : (joiner port first : ℕ) → Streams → Type 0
  AreJoined joiner port first Done = Unit {0}
  AreJoined joiner port first (More next rest) =
      (output_of next ≡ item.Int → Takes nodes source joiner port (outlet first next))
      × AreJoined joiner (port + 1) (first + size_of next) rest

  unjoined : (children : Streams) (joiner port first : ℕ)
      → list_any is_int (outputs_of children) ≡ false → AreJoined joiner port first children
  unjoined Done joiner port first none = tt
  unjoined (More next rest) joiner port first none = (
    λ e. absurd (none_first (is_int (output_of next)) (list_any is_int (outputs_of rest)) none
        (ap is_int e)),
    unjoined rest joiner (port + 1) (first + size_of next)
        (none_rest (is_int (output_of next)) (list_any is_int (outputs_of rest)) none),
  )

  ports_joined : (children : Streams) (joiner port first : ℕ) (carried : List Bool)
      → carried ≡ map is_int (outputs_of children)
      → ((k : ℕ) → takes_at nodes joiner (port + k) ≡ slice_index_or carried k false)
      → ((k : ℕ) → source joiner (port + k) ≡ branch_outlets first children k)
      → AreJoined joiner port first children
  ports_joined Done joiner port first carried meets taken comes = tt
  ports_joined (More next rest) joiner port first [] meets taken comes = absurd (cc)
  ports_joined (More next rest) joiner port first (carries ∷ others) meets taken comes =
      let here : port ≡ port + 0 = omega arith in
      let sides = map is_int (outputs_of rest) in
      let next_port : (k : ℕ) → (port + 1) + k ≡ port + suc k = λ k. omega arith in (
        λ e. record {
          taken = ap (λ n. takes_at nodes joiner n) here ∙ taken 0
              ∙ first_same carries (is_int (output_of next)) others sides meets ∙ ap is_int e;
          comes = ap (λ n. source joiner n) here ∙ comes 0;
        },
        ports_joined rest joiner (port + 1) (first + size_of next) others
            (rest_same carries (is_int (output_of next)) others sides meets)
            (λ k. ap (λ n. takes_at nodes joiner n) (next_port k) ∙ taken (suc k))
            (λ k. ap (λ n. source joiner n) (next_port k) ∙ comes (suc k)),
      )

  pub are_joined : (weights : Option (List ℕ)) (children : Streams) (joiner first : ℕ)
      → IsJoined weights (outputs_of children)
      → PlacedJoiner nodes source joiner (branch_outlets first children) weights
      → AreJoined joiner 0 first children
  are_joined None children joiner first joined at = unjoined children joiner 0 first joined
  are_joined (Some weights) children joiner first joined at =
      let plain : (k : ℕ) → 0 + k ≡ k = λ k. omega arith in
      ports_joined children joiner 0 first (joiner_carried weights) joined.meets
      (λ k. takes nodes joiner (0 + k) (graphs.Joiner weights) at.0
      ∙ ap (carries_in (graphs.Joiner weights)) (plain k) ∙ joiner_carries_is weights k)
      (λ k. ap (λ n. source joiner n) (plain k) ∙ at.1 k)

  pub joiner_comes : (weights : Option (List ℕ)) (joiner : ℕ) (before : ℕ → Source)
      → (target : Option Target) → PlacedJoiner nodes source joiner before weights
      → (side_at weights ≡ item.Int → IsReached (joiner_outlet joiner weights) target)
      → AllByRecursion IsWire (joiner_wires joiner weights target)
  joiner_comes None joiner before target at there = tt
  joiner_comes (Some weights) joiner before target at there =
      wire_comes true joiner 0 target
      (λ e. gives nodes joiner 0 (graphs.Joiner weights) at.0) (λ e. there refl)
