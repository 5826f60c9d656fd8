-- Nodes start one after another.
use Rattle.std.proofs.Common.{◌≡◌, refl, sym, ap, ◌∙◌, subst, ℕ, zero}
use Rattle.std.proofs.Common.{suc, ◌+◌, ◌<◌, ◌≤◌, ℤ, List, [], ◌∷◌}
use Rattle.std.proofs.Common.{◌++◌, length, map, take, get_or, arith}
use Rattle.std.specs.Prelude.{Some, slice_get}
use Rattle.std.proofs.lemmas.Grind.{take_at_read}
use Rattle.std.proofs.lemmas.List.{length-map, get_or-map, take_all}
use Rattle.strc_elab_graph.specs.Graphs.{NodeCode}
use Rattle.strc_elab_graph.specs.Meaning.{node_fields}
use Rattle.strc_elab_graph.specs.NodeView.{node_view}
use Rattle.strc_elab_graph.specs.declared.graph.Node.{Node}
use Rattle.strc_sched_machine.specs.Actors.{IsActorOf, AreActors, AreClosed, IsClosedNode}
use Rattle.strc_sched_machine.specs.Actors.{fields_of}
use Rattle.strc_sched_machine.specs.Actors.{AreStartable, CanStartNode}
use Rattle.strc_sched_machine.specs.declared.actor.Actor.{Actor}

-- each node's actor is its own, with the fields that it starts from, and the names in it are known
abbrev pub AreStarted : List Node → List Actor → Type 0
AreStarted [] [] = Unit {0}
AreStarted [] (actor ∷ actors) = ⊥
AreStarted (node ∷ nodes) [] = ⊥
AreStarted (node ∷ nodes) (actor ∷ actors) =
    IsActorOf (node_view node) actor × (fields_of actor ≡ node_fields (node_view node))
    × IsClosedNode (node_view node) × AreStarted nodes actors

pub started_next : (nodes : List Node) (actors : List Actor) (node : Node) (actor : Actor)
    → AreStarted nodes actors → IsActorOf (node_view node) actor
    → fields_of actor ≡ node_fields (node_view node) → IsClosedNode (node_view node)
    → AreStarted (nodes ++ node ∷ []) (actors ++ actor ∷ [])
started_next [] [] node actor all is fields known = (is, fields, known, tt)
started_next [] (first ∷ actors) node actor all is fields known = absurd all
started_next (first ∷ nodes) [] node actor all is fields known = absurd all
started_next (first ∷ nodes) (other ∷ actors) node actor all is fields known =
    (all.0, all.1, all.2, started_next nodes actors node actor all.3 is fields known)

pub started_each : (nodes : List Node) (actors : List Actor) → AreStarted nodes actors
    → length actors ≡ length (map node_view nodes)
started_each [] [] all = refl
started_each [] (actor ∷ actors) all = absurd all
started_each (node ∷ nodes) [] all = absurd all
started_each (node ∷ nodes) (actor ∷ actors) all = ap suc (started_each nodes actors all.3)

started_kept : (nodes : List Node) (actors : List Actor) → AreStarted nodes actors
    → (number : ℕ) (code : NodeCode) (actor : Actor)
    → slice_get (map node_view nodes) number ≡ Some code → slice_get actors number ≡ Some actor
    → IsActorOf code actor
started_kept [] actors all number code actor here there = absurd (cc)
started_kept (node ∷ nodes) [] all number code actor here there = absurd all
started_kept (node ∷ nodes) (first ∷ actors) all zero code actor here there =
    let codes : node_view node ≡ code = cc in
    let own : first ≡ actor = cc in
    subst (λ c. IsActorOf c actor) codes (subst (IsActorOf (node_view node)) own all.0)
started_kept (node ∷ nodes) (first ∷ actors) all (suc number) code actor here there =
    started_kept nodes actors all.3 number code actor here there

pub started_actors : (nodes : List Node) (actors : List Actor) → AreStarted nodes actors
    → AreActors (map node_view nodes) actors
started_actors nodes actors all = record {
  each = started_each nodes actors all;
  kept = started_kept nodes actors all;
}

pub started_fields : (nodes : List Node) (actors : List Actor) → AreStarted nodes actors
    → map fields_of actors ≡ map node_fields (map node_view nodes)
started_fields [] [] all = refl
started_fields [] (actor ∷ actors) all = absurd all
started_fields (node ∷ nodes) [] all = absurd all
started_fields (node ∷ nodes) (actor ∷ actors) all =
    ap (λ (f : List ℤ). f ∷ map fields_of actors) all.1
    ∙ ap (λ (l : List (List ℤ)). node_fields (node_view node) ∷ l)
    (started_fields nodes actors all.3)

pub started_known : (nodes : List Node) (actors : List Actor) → AreStarted nodes actors
    → AreClosed (map node_view nodes)
started_known [] actors all k d less = absurd (omega arith)
started_known (node ∷ nodes) [] all k d less = absurd all
started_known (node ∷ nodes) (actor ∷ actors) all zero d less = all.2
started_known (node ∷ nodes) (actor ∷ actors) all (suc k) d less =
    started_known nodes actors all.3 k d (omega arith)

-- a node among others that start
pub starts_at : (nodes : List Node) (number : ℕ) (node : Node) → AreStartable (map node_view nodes)
    → number < length nodes → node ≡ get_or nodes number node → CanStartNode (node_view node)
starts_at nodes number node all less is =
    subst CanStartNode (get_or-map node_view nodes number node (node_view node) less
    ∙ ap node_view (sym is))
    (all number (node_view node) (let e = length-map nodes node_view in omega arith))

-- all of them
pub all_started : (nodes : List Node) (actors : List Actor) (count : ℕ) → length nodes ≤ count
    → AreStarted (take count nodes) actors → AreStarted nodes actors
all_started nodes actors count past all =
    subst (λ l. AreStarted l actors) (take_all count nodes past) all

pub take_more : (nodes : List Node) (number : ℕ) (node : Node) → number < length nodes
    → node ≡ get_or nodes number node → take (number + 1) nodes ≡ take number nodes ++ node ∷ []
take_more nodes number node less is = (take_at_read nodes number node less).1
    ∙ ap (λ (n : Node). take number nodes ++ n ∷ []) (sym is)
