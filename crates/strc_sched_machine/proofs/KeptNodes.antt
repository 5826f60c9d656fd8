-- Machines in which a node has what a node of another machine had.
use Rattle.std.proofs.Common.{◌≡◌, refl, sym, ap, subst, ◌∙◌, ℕ, ◌<◌, ℤ, List, [], length, get_or, set, map}
use Rattle.std.proofs.Common.{arith}
use Rattle.std.specs.Prelude.{Some, slice_get}
use Rattle.std.proofs.lemmas.List.{get_or-map, get_or_default, length-map, map-set}
use Rattle.std.proofs.lemmas.Option.{slice_get-get_or}
use Rattle.std.specs.declared.vec.Vec.{Vec}
use Rattle.std.specs.declared.alloc.Global.{Global}
use Rattle.strc_work_meaning.specs.declared.word.Word.{Word}
use Rattle.strc_work_meaning.specs.Filters.{Filter}
use Rattle.strc_work_meaning.specs.declared.body.Body.TheVariants as bodies
use Rattle.strc_work.specs.Kept.{Kept}
use Rattle.strc_work.specs.States.{IsStateOf, IsFrameOf}
use Rattle.strc_elab_graph.specs.Graphs as graphs
use Rattle.strc_elab_graph.specs.Graphs.{NodeCode, Identity}
use Rattle.strc_sched_laws.specs.Machine.{CircuitView, MachineView}
use Rattle.strc_sched_machine.specs.Actors.{AreActors, IsActorOf, IsFilterActor, IsTakingOf}
use Rattle.strc_sched_machine.specs.Actors.{fields_of}
use Rattle.strc_sched_machine.specs.Keeping.{HasPlace, KeepsActor, KeepsButLanes, kept_at, with_kept}
use Rattle.strc_sched_machine.specs.Running.{IsMachine, machine_view, words_of}
use Rattle.strc_sched_machine.specs.declared.actor.Actor.{Actor}
use Rattle.strc_sched_machine.specs.declared.actor.Actor.TheVariants as actors
use Rattle.strc_sched_machine.specs.declared.filter.FilterActor.{FilterActor}
use Rattle.strc_sched_machine.specs.declared.machine.Machine.{Machine}
use Rattle.strc_sched_machine.proofs.Done.{actor_set}
use Rattle.strc_sched_machine.proofs.WordLists.{own_words, words_set}

-- ---- what another machine had

-- these are what it had
pub record AreKept (other : Machine) (place : ℕ) (actor : Actor) (count : ℕ)
    (words : Vec Word Global) : Type 0 where
  pub before : Actor
  pub before_is : before ≡ get_or other.actors.items place before
  pub actor_is : KeepsActor before actor
  pub count_is : count ≡ get_or other.fired.items place count
  pub words_are : words ≡ get_or other.words.items place words

module _ (other : Machine) (place : ℕ) (has : HasPlace (machine_view other) place)
    (actor : Actor) (count : ℕ) (words : Vec Word Global)
    (are : AreKept other place actor count words) where
  pub actor_less : place < length other.actors.items
  actor_less =
      let many = length-map other.actors.items fields_of in
      let less = has.fields in
      omega (arith, many, less)

  words_less : place < length other.words.items
  words_less =
      let many = length-map other.words.items (λ (w : Vec Word Global). w.items) in
      let less = has.words in
      omega (arith, many, less)

  fields_kept : fields_of actor ≡ (kept_at (machine_view other) place).fields
  fields_kept =
      are.actor_is.fields ∙ ap fields_of are.before_is
      ∙ sym (get_or-map fields_of other.actors.items place are.before [] actor_less)

  fired_kept : count ≡ (kept_at (machine_view other) place).fired
  fired_kept = are.count_is ∙ get_or_default other.fired.items place count 0 has.fired

  words_kept : words.items ≡ (kept_at (machine_view other) place).words
  words_kept = sym (own_words other.words.items place words words_less are.words_are)

  -- ---- what this one has then

  pub fields_after : (own : List Actor) (node : ℕ) → map fields_of (set own node actor)
      ≡ set (map fields_of own) node (kept_at (machine_view other) place).fields
  fields_after own node =
      map-set fields_of own node actor ∙ ap (set (map fields_of own) node) fields_kept

  pub fired_after : (own : List ℕ) (node : ℕ) → set own node count
      ≡ set own node (kept_at (machine_view other) place).fired
  fired_after own node = ap (set own node) fired_kept

  pub words_after : (own : List (Vec Word Global)) (node : ℕ) → words_of (set own node words)
      ≡ set (words_of own) node (kept_at (machine_view other) place).words
  words_after own node =
      words_set own node words ∙ ap (set (words_of own) node) words_kept

  -- its view
  pub view_after : (own : Machine) (node : ℕ)
      → record {
        fields = map fields_of (set own.actors.items node actor);
        fired = set own.fired.items node count;
        rings = own.rings.items;
        words = words_of (set own.words.items node words);
      } ≡ with_kept node (kept_at (machine_view other) place) (machine_view own)
  view_after own node =
      ap (λ (l : List (List ℤ)). view l (set own.fired.items node count)
      (words_of (set own.words.items node words))) (fields_after own.actors.items node)
      ∙ ap (λ (l : List ℕ). view (set (map fields_of own.actors.items) node
      (kept_at (machine_view other) place).fields) l
      (words_of (set own.words.items node words))) (fired_after own.fired.items node)
      ∙ ap (view (set (map fields_of own.actors.items) node
      (kept_at (machine_view other) place).fields)
      (set own.fired.items node (kept_at (machine_view other) place).fired))
      (words_after own.words.items node)
    where
      view : List (List ℤ) → List ℕ → List (List Word) → MachineView
      view fields fired words = record {
        fields = fields;
        fired = fired;
        rings = own.rings.items;
        words = words;
      }

  -- its actors, where the nodes have the same code
  pub actors_after : (circuit beside : CircuitView) (own : Machine) (node : ℕ)
      → node < length own.actors.items
      → slice_get circuit.codes node ≡ slice_get beside.codes place
      → IsMachine circuit own → IsMachine beside other
      → AreActors circuit.codes (set own.actors.items node actor)
  actors_after circuit beside own node less same is beside_is =
      let code = get_or circuit.codes node Identity in
      let each = is.actors.each in
      let here : slice_get circuit.codes node ≡ Some code =
      slice_get-get_or circuit.codes node Identity (omega (arith, each, less)) in
      actor_set circuit.codes own.actors.items node code actor is.actors here
      (are.actor_is.kept code (beside_is.actors.kept place code are.before (sym same ∙ here)
      (slice_get-get_or other.actors.items place are.before actor_less
      ∙ ap (λ (a : Actor). Some a) (sym are.before_is))))

-- ---- what keeps all but its room for lanes

-- a filter's state, room and rates stay its own
filter_kept : (filter : Filter) (before after : FilterActor) → KeepsButLanes before after
    → IsFilterActor filter before → IsFilterActor filter after
filter_kept filter before after keeps is = record {
  state = subst (IsStateOf filter) (sym keeps.state) is.state;
  frame = subst (IsFrameOf filter) (sym keeps.frame) is.frame;
  first = subst (IsTakingOf filter bodies.Prework) (sym keeps.first) is.first;
  later = subst (IsTakingOf filter bodies.Work) (sym keeps.later) is.later;
}

pub keeps_filter : (before after : FilterActor) → KeepsButLanes before after
    → KeepsActor (actors.Filter before) (actors.Filter after)
keeps_filter before after keeps = record {
  fields = ap (λ (s : Kept). s.fields) keeps.state;
  kept = by_code;
}
  where
    by_code : (code : NodeCode) → IsActorOf code (actors.Filter before)
        → IsActorOf code (actors.Filter after)
    by_code (graphs.Filter name filter) is = filter_kept filter before after keeps is
    by_code (graphs.Copy (graphs.OfFilter name filter) fission) is = filter_kept filter before after keeps is
    by_code (graphs.Copy graphs.OfIdentity fission) is = is
    by_code graphs.Identity is = is
    by_code (graphs.FileReader text) is = is
    by_code (graphs.FileWriter text) is = is
    by_code (graphs.Splitter splitter) is = is
    by_code (graphs.Joiner weights) is = is
    by_code (graphs.Scatter fission) is = is
    by_code (graphs.Gather fission) is = is

pub keeps_same : (own : Actor) → KeepsActor own own
keeps_same own = record { fields = refl; kept = λ code is. is }
