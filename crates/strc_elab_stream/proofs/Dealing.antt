-- Splitters and joiners of well-typed streams move items.
use Rattle.std.proofs.Common.{◌≡◌, ℕ, zero, suc, ◌<◌, Bool, true, false, ◌||◌, List, [], ◌∷◌}
use Rattle.std.proofs.Common.{◌++◌, map, Option, Some, None, refl, ap, ◌∙◌, arith}
use Rattle.std.proofs.lemmas.List.Sums.{sum_by-cons}
use Rattle.std.specs.Prelude.{sum, nat_lt}
use Rattle.std.specs.List.{AllByRecursion, list_any}
use Rattle.strc_parse_tree.specs.declared.tree.ItemType.{ItemType}
use Rattle.strc_elab_graph.specs.Graphs as graphs
use Rattle.strc_elab_graph.specs.Graphs.{NodeCode, SplitterCode, Duplicate, Roundrobin}
use Rattle.strc_elab_stream.specs.Dealing.{Deals, SplitterDeals, NodesDeal}
use Rattle.strc_elab_stream.specs.Flattening.{nodes_of, row_nodes, splitter_nodes, joiner_nodes}
use Rattle.strc_elab_stream.specs.Instances.{Stream, Streams, Filter, Identity, FileReader}
use Rattle.strc_elab_stream.specs.Instances.{FileWriter}
use Rattle.strc_elab_stream.specs.Instances.{Pipeline, SplitJoin, FeedbackLoop, Done, More}
use Rattle.strc_elab_stream.specs.Types.{IsWellTyped, AreWellTyped, AreEach, IsSplit, IsJoined}
use Rattle.strc_elab_stream.specs.Types.{Meets}
use Rattle.strc_elab_stream.specs.Types.{ComesBack, splitter_carried, is_int, inputs_of}
use Rattle.strc_elab_stream.specs.Types.{outputs_of}

-- what holds of all of two lists holds of all of both
both : (P : NodeCode → Type 0) (first rest : List NodeCode) → AllByRecursion P first
    → AllByRecursion P rest → AllByRecursion P (first ++ rest)
both P [] rest all more = more
both P (code ∷ first) rest all more = (all.0, both P first rest all.1 more)

-- one weight above 0
some_weight : (weights : List ℕ) → list_any (λ b. b) (map (nat_lt 0) weights) ≡ true
    → 0 < sum weights
some_weight [] some = absurd (cc)
some_weight (zero ∷ rest) some = omega
    (arith, some_weight rest some, sum_by-cons (λ n. n) zero rest)
some_weight (suc weight ∷ rest) some = omega (arith, sum_by-cons (λ n. n) (suc weight) rest)

any_of : (sides : List ItemType) → list_any (λ b. b) (map is_int sides) ≡ list_any is_int sides
any_of [] = refl
any_of (side ∷ sides) = ap (λ b. is_int side || b) (any_of sides)

meets_some : (weights : List ℕ) (sides : List ItemType) → Meets (map (nat_lt 0) weights) sides
    → 0 < sum weights
meets_some weights sides meets =
    some_weight weights (ap (list_any (λ b. b)) meets.meets ∙ any_of sides ∙ meets.some)

second_is : (outer : Bool) → list_any (λ b. b) (outer ∷ true ∷ []) ≡ true
second_is true = refl
second_is false = refl

comes_back : (weights : List ℕ) → ComesBack (map (nat_lt 0) weights) → 0 < sum weights
comes_back weights back =
    some_weight weights (ap (list_any (λ b. b)) back.ports ∙ second_is back.outer)

splitters_deal : (splitter : Option SplitterCode) (sides : List ItemType)
    → IsSplit splitter sides → AllByRecursion Deals (splitter_nodes splitter)
splitters_deal None sides is = tt
splitters_deal (Some (Duplicate carried)) sides is = (tt, tt)
splitters_deal (Some (Roundrobin weights)) sides is = (meets_some weights sides is, tt)

joiners_deal : (joiner : Option (List ℕ)) (sides : List ItemType)
    → IsJoined joiner sides → AllByRecursion Deals (joiner_nodes joiner)
joiners_deal None sides is = tt
joiners_deal (Some weights) sides is = (meets_some weights sides is, tt)

loop_splitter_deals : (splitter : SplitterCode) → ComesBack (splitter_carried splitter)
    → SplitterDeals splitter
loop_splitter_deals (Duplicate carried) back = tt
loop_splitter_deals (Roundrobin weights) back = comes_back weights back

mutual
  deal : (stream : Stream) → IsWellTyped stream → AllByRecursion Deals (nodes_of stream)
  deal (Filter name filter) typed = (tt, tt)
  deal Identity typed = (tt, tt)
  deal (FileReader text) typed = (tt, tt)
  deal (FileWriter text) typed = (tt, tt)
  deal (Pipeline children) typed = row_deals children typed.1
  deal (SplitJoin splitter children joiner) typed =
      both Deals (splitter_nodes splitter ++ row_nodes children) (joiner_nodes joiner)
      (both Deals (splitter_nodes splitter) (row_nodes children)
      (splitters_deal splitter (inputs_of children) typed.2) (each_deals children typed.1))
      (joiners_deal joiner (outputs_of children) typed.3)
  deal (FeedbackLoop joiner body splitter loop enqueued) typed = (
    comes_back joiner typed.0,
    both Deals (nodes_of body) (graphs.Splitter splitter ∷ nodes_of loop)
        (deal body typed.3) (loop_splitter_deals splitter typed.1, deal loop typed.5),
  )

  row_deals : (children : Streams) → AreWellTyped children
      → AllByRecursion Deals (row_nodes children)
  row_deals Done typed = tt
  row_deals (More first rest) typed =
      both Deals (nodes_of first) (row_nodes rest) (deal first typed.0) (row_deals rest typed.2)

  each_deals : (children : Streams) → AreEach children → AllByRecursion Deals (row_nodes children)
  each_deals Done typed = tt
  each_deals (More first rest) typed =
      both Deals (nodes_of first) (row_nodes rest) (deal first typed.0) (each_deals rest typed.1)

pub nodes_deal : NodesDeal
nodes_deal stream typed = deal stream typed
