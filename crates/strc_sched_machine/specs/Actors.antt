-- What each node of a graph keeps between firings.
use Rattle.std.specs.Prelude.{◌≡◌, ℕ, ℤ, List, [], length, slice_get, Some, Ok, All}
use Rattle.strc_work_meaning.specs.Filters as filters
use Rattle.strc_work_meaning.specs.Filters.{body_rates, window_size, pop_rate, item_count}
use Rattle.strc_work_meaning.specs.Closed.{IsClosedFilter}
use Rattle.strc_work_meaning.specs.Firing.{started}
use Rattle.strc_work_meaning.specs.declared.body.Body.{Body}
use Rattle.strc_work_meaning.specs.declared.body.Body.TheVariants as body
use Rattle.strc_work.specs.States.{IsStateOf, IsFrameOf}
use Rattle.strc_elab_graph.specs.Graphs as graphs
use Rattle.strc_elab_graph.specs.Graphs.{NodeCode, CopiedCode}
use Rattle.strc_sched_laws.specs.Steps.{look_by}
use Rattle.strc_sched_machine.specs.declared.filter.Taking.{Taking}
use Rattle.strc_sched_machine.specs.declared.filter.FilterActor.{FilterActor}
use Rattle.strc_sched_machine.specs.declared.actor.Actor.{Actor}
use Rattle.strc_sched_machine.specs.declared.actor.Actor.TheVariants as actor

-- a filter starts without a fault
abbrev pub CanStart : filters.Filter → Type 0
CanStart filter = (fields : List ℤ) × (started filter ≡ Ok fields)

-- what a body's firings look at and pop
pub record IsTakingOf (filter : filters.Filter) (fires : Body) (taking : Taking) : Type 0 where
  pub window : taking.window
      ≡ look_by filter.input (window_size (body_rates fires filter.members))
  pub pops : taking.pops ≡ item_count (pop_rate (body_rates fires filter.members))

-- state, room and rates are a filter's
pub record IsFilterActor (filter : filters.Filter) (kept : FilterActor) : Type 0 where
  pub state : IsStateOf filter kept.state
  pub frame : IsFrameOf filter kept.frame
  pub first : IsTakingOf filter body.Prework kept.first
  pub later : IsTakingOf filter body.Work kept.later

-- the values of a node's fields
abbrev pub fields_of : Actor → List ℤ
fields_of (actor.Filter kept) = kept.state.fields
fields_of actor.Passive = []

-- what a filter keeps: its state
abbrev pub KeepsState : filters.Filter → Actor → Type 0
KeepsState filter (actor.Filter kept) = IsFilterActor filter kept
KeepsState filter actor.Passive = ⊥

-- what a copy keeps is what the node that is copied does
abbrev pub IsCopyActor : CopiedCode → Actor → Type 0
IsCopyActor (graphs.OfFilter name filter) own = KeepsState filter own
IsCopyActor graphs.OfIdentity (actor.Filter kept) = ⊥
IsCopyActor graphs.OfIdentity actor.Passive = Unit {0}

-- what a node keeps: nodes that are no filters and no copies keep nothing
abbrev pub IsActorOf : NodeCode → Actor → Type 0
IsActorOf (graphs.Filter name filter) own = KeepsState filter own
IsActorOf (graphs.Copy copied fission) own = IsCopyActor copied own
IsActorOf code (actor.Filter kept) = ⊥
IsActorOf code actor.Passive = Unit {0}

-- one for each node
pub record AreActors (codes : List NodeCode) (actors : List Actor) : Type 0 where
  pub each : length actors ≡ length codes
  pub kept : (node : ℕ) (code : NodeCode) (actor : Actor) → slice_get codes node ≡ Some code
      → slice_get actors node ≡ Some actor → IsActorOf code actor

-- a node that is a filter starts, as does a copy of one, and its names are known
abbrev pub CanStartCopy : CopiedCode → Type 0
CanStartCopy (graphs.OfFilter name filter) = CanStart filter
CanStartCopy graphs.OfIdentity = Unit {0}

abbrev pub CanStartNode : NodeCode → Type 0
CanStartNode (graphs.Filter name filter) = CanStart filter
CanStartNode (graphs.Copy copied fission) = CanStartCopy copied
CanStartNode code = Unit {0}

abbrev pub IsClosedCopy : CopiedCode → Type 0
IsClosedCopy (graphs.OfFilter name filter) = IsClosedFilter filter
IsClosedCopy graphs.OfIdentity = Unit {0}

abbrev pub IsClosedNode : NodeCode → Type 0
IsClosedNode (graphs.Filter name filter) = IsClosedFilter filter
IsClosedNode (graphs.Copy copied fission) = IsClosedCopy copied
IsClosedNode code = Unit {0}

abbrev pub AreStartable : List NodeCode → Type 0
AreStartable codes = All CanStartNode codes

abbrev pub AreClosed : List NodeCode → Type 0
AreClosed codes = All IsClosedNode codes
