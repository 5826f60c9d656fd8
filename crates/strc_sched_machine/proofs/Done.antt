-- What one firing leaves of the machine.
use Rattle.std.proofs.Common.{◌≡◌, refl, sym, ap, ◌∙◌, subst, ℕ}
use Rattle.std.proofs.Common.{zero, suc, ◌<◌, ◌≤◌, ℤ, Bool, true, false}
use Rattle.std.proofs.Common.{List, [], ◌∷◌, length, get_or, set, map, arith, Result, Ok, Err}
use Rattle.std.proofs.Common.{append-nil, ◌≢◌, ◌⊎◌, inl, inr, ◌++◌}
use Rattle.std.specs.Prelude.{Option, Some, slice_get, if◌then◌else◌, min, ◌^◌, ◌-◌, ◌+◌}
use Rattle.std.proofs.Common.{ltb}
use Rattle.std.proofs.lemmas.Bool.{ltb-true, ltb-false}
use Rattle.std.proofs.lemmas.List.{map-set, get_or-map, length-set, set-get_or}
use Rattle.std.proofs.lemmas.List.{get_or-set_same, get_or-set_other}
use Rattle.std.proofs.lemmas.List.{nil_from_length}
use Rattle.std.proofs.lemmas.Option.{slice_get-get_or, slice_get_within, slice_get_past}
use Rattle.std.proofs.lemmas.Option.{slice_get-map}
use Rattle.std.specs.Option.{option_map}
use Rattle.strc_work_meaning.specs.Filters as filters
use Rattle.strc_work_meaning.specs.Filters.{sized_fields}
use Rattle.strc_work_meaning.specs.Scoping.{total}
use Rattle.strc_work_meaning.specs.declared.fault.Halt.{Halt}
use Rattle.strc_work_meaning.specs.declared.fault.Halt.TheVariants as halt
use Rattle.strc_work_meaning.specs.declared.word.Word.{Word}
use Rattle.strc_work_instructions.specs.Running.{MoreWords}
use Rattle.strc_elab_graph.specs.Graphs as graphs
use Rattle.strc_elab_graph.specs.Graphs.{NodeCode}
use Rattle.strc_elab_graph.specs.NodeView.{node_view}
use Rattle.strc_elab_graph.specs.declared.graph.Copied.{Copied}
use Rattle.strc_elab_graph.specs.declared.graph.Fission.{Fission}
use Rattle.strc_elab_graph.specs.declared.graph.Node.{Node}
use Rattle.strc_elab_graph.specs.declared.graph.Node.TheVariants as nodes
use Rattle.strc_elab_graph.specs.declared.instance.Instance.{Instance}
use Rattle.strc_elab_graph.specs.declared.graph.Port.{Port}
use Rattle.strc_sched_laws.specs.Machine.{CircuitView, MachineView, Went, step_at, next_step}
use Rattle.strc_sched_laws.specs.Machine.{after_step, more_words, one_more, words_at}
use Rattle.strc_sched_laws.specs.Rings.{Ring}
use Rattle.strc_sched_laws.specs.Steps.{Step, node_step, maybe_step}
use Rattle.strc_sched_laws.specs.Wiring.{PortRings, ports_at, IsWired}
use Rattle.strc_sched_machine.specs.Actors.{AreActors, IsActorOf, IsCopyActor, KeepsState}
use Rattle.strc_sched_machine.specs.Actors.{fields_of}
use Rattle.strc_sched_rings.specs.Answers.{HasStepped, MovesBy}
use Rattle.strc_sched_machine.specs.Passing.{IsPassive}
use Rattle.strc_sched_filters.specs.Identities.{KeepsNothing}
use Rattle.strc_sched_machine.specs.Running.{HasDone, HaveMoreWords, HoldRings, IsMachine}
use Rattle.strc_sched_machine.specs.declared.actor.Actor.{Actor}
use Rattle.strc_sched_machine.specs.declared.actor.Actor.TheVariants as kinds
use Rattle.strc_sched_machine.specs.declared.machine.Machine.{Machine}

-- words stay words
pub more_refl : (words : List (List Word)) → HaveMoreWords words words
more_refl words node = record { more = []; is = sym (append-nil (words_at words node)) }

-- the rings of channels that are wired
pub hold_rings : (ends : List Port) (rings : PortRings) (count : ℕ) → IsWired ends rings
    → length ends ≡ count → HoldRings count rings
hold_rings ends rings count wired many node port number found =
    let less = slice_get_within ends number _ (wired.sound node port number found) in
    omega (arith, less, many)

-- a node by its number, as the definitions see it
pub code_at : (nodes : List Node) (number : ℕ) (d node : Node) → number < length nodes
    → get_or nodes number d ≡ node → slice_get (map node_view nodes) number ≡ Some (node_view node)
code_at nodes number d node less is =
    slice_get-map node_view nodes number
    ∙ ap (option_map node_view) (slice_get-get_or nodes number d less
    ∙ ap (λ (n : Node). Some n) is)

-- what a node keeps is its own
pub actor_here : (codes : List NodeCode) (actors : List Actor) → AreActors codes actors
    → (number : ℕ) (code : NodeCode) (actor : Actor) → slice_get codes number ≡ Some code
    → actor ≡ get_or actors number actor → IsActorOf code actor
actor_here codes actors are number code actor here own =
    let less = slice_get_within codes number code here in
    are.kept number code actor here
    (slice_get-get_or actors number actor (let e = are.each in omega arith)
    ∙ ap (λ (a : Actor). Some a) (sym own))

pub actor_at : (nodes : List Node) (actors : List Actor) → AreActors (map node_view nodes) actors
    → (number : ℕ) (d node : Node) (actor : Actor) → number < length nodes
    → get_or nodes number d ≡ node → actor ≡ get_or actors number actor
    → IsActorOf (node_view node) actor
actor_at nodes actors are number d node actor less is own =
    actor_here (map node_view nodes) actors are number (node_view node) actor
    (code_at nodes number d node less is) own

set_here : {X : Type 0} (xs : List X) (number : ℕ) (x y : X) → slice_get (set xs number x) number
    ≡ Some y → x ≡ y
set_here [] number x y e = absurd (cc)
set_here (first ∷ xs) zero x y e = cc
set_here (first ∷ xs) (suc number) x y e = set_here xs number x y e

set_beside : {X : Type 0} (xs : List X) (number other : ℕ) (x : X) → other ≢ number
    → slice_get (set xs number x) other ≡ slice_get xs other
set_beside [] number other x differ = refl
set_beside (first ∷ xs) zero zero x differ = absurd (differ refl)
set_beside (first ∷ xs) zero (suc other) x differ = refl
set_beside (first ∷ xs) (suc number) zero x differ = refl
set_beside (first ∷ xs) (suc number) (suc other) x differ =
    set_beside xs number other x (λ e. differ (ap suc e))

same_or_not : (a b : ℕ) → (a ≡ b) ⊎ (a ≢ b)
same_or_not zero zero = inl refl
same_or_not zero (suc b) = inr (λ e. omega arith)
same_or_not (suc a) zero = inr (λ e. omega arith)
same_or_not (suc a) (suc b) = both (same_or_not a b)
  where
    both : (a ≡ b) ⊎ (a ≢ b) → (suc a ≡ suc b) ⊎ (suc a ≢ suc b)
    both (inl e) = inl (ap suc e)
    both (inr n) = inr (λ e. n (omega arith))

-- and is so after it changed
pub actor_set : (codes : List NodeCode) (actors : List Actor) (number : ℕ) (code : NodeCode)
    (actor : Actor) → AreActors codes actors → slice_get codes number ≡ Some code
    → IsActorOf code actor → AreActors codes (set actors number actor)
actor_set codes actors number code actor are here is = record {
  each = length-set actors number actor ∙ are.each;
  kept = λ other other_code other_actor there own. by_number other other_code other_actor there own
      (same_or_not other number);
}
  where
    by_number : (other : ℕ) (other_code : NodeCode) (other_actor : Actor)
        → slice_get codes other ≡ Some other_code
        → slice_get (set actors number actor) other ≡ Some other_actor
        → (other ≡ number) ⊎ (other ≢ number) → IsActorOf other_code other_actor
    by_number other other_code other_actor there own (inl same) =
        let codes_same : code ≡ other_code = same_code other other_code there same in
        let actors_same = set_here actors number actor other_actor
        (ap (slice_get (set actors number actor)) (sym same) ∙ own) in
        subst (λ c. IsActorOf c other_actor) codes_same (subst (IsActorOf code) actors_same is)
      where
        same_code : (other : ℕ) (other_code : NodeCode) → slice_get codes other ≡ Some other_code
            → other ≡ number → code ≡ other_code
        same_code other other_code there same =
            let e : slice_get codes number ≡ Some other_code =
            ap (slice_get codes) (sym same) ∙ there in cc
    by_number other other_code other_actor there own (inr differ) =
        are.kept other other_code other_actor there
        (sym (set_beside actors number other actor differ) ∙ own)

-- the fields of all nodes, where one node's change
pub fields_set : (actors : List Actor) (number : ℕ) (actor : Actor)
    → map fields_of (set actors number actor) ≡ set (map fields_of actors) number (fields_of actor)
fields_set actors number actor = map-set fields_of actors number actor

pub fields_at : (actors : List Actor) (number : ℕ) (actor : Actor) → number < length actors
    → actor ≡ get_or actors number actor
    → get_or (map fields_of actors) number [] ≡ fields_of actor
fields_at actors number actor less is =
    get_or-map fields_of actors number actor [] less ∙ ap fields_of (sym is)

-- a view is its parts
pub same_view : (before after : MachineView) → after.fields ≡ before.fields
    → after.fired ≡ before.fired → after.rings ≡ before.rings → after.words ≡ before.words
    → after ≡ before
same_view before after fields fired rings words =
    ap (λ l. record { fields = l; fired = after.fired; rings = after.rings; words = after.words })
    fields
    ∙ ap (λ l. record
    { fields = before.fields; fired = l; rings = after.rings; words = after.words }) fired
    ∙ ap (λ l. record
    { fields = before.fields; fired = before.fired; rings = l; words = after.words }) rings
    ∙ ap (λ l. record
    { fields = before.fields; fired = before.fired; rings = before.rings; words = l }) words

-- where one node has more words, all begin with those before
pub more_at : (before after : List (List Word)) (node : ℕ) (words : List Word)
    → after ≡ set before node words → node < length before
    → MoreWords (words_at before node) words → HaveMoreWords before after
more_at before after node words is there more other = by_node (same_or_not other node)
  where
    by_node : (other ≡ node) ⊎ (other ≢ node)
        → MoreWords (words_at before other) (words_at after other)
    by_node (inl same) =
        subst (λ (l : List (List Word)). MoreWords (words_at before other) (words_at l other))
        (sym is)
        (subst (λ n. MoreWords (words_at before n) (words_at (set before node words) n)) (sym same)
        (subst (MoreWords (words_at before node))
        (sym (get_or-set_same before node words [] there)) more))
    by_node (inr differ) =
        subst (MoreWords (words_at before other))
        (sym (ap (λ (l : List (List Word)). words_at l other) is
        ∙ get_or-set_other before node other words [] differ))
        (more_refl before other)

-- a step after other words that are the same
pub stepped_words : (step : Step) (result : Result Bool Halt) (old new : List ℤ)
    (rings after : List Ring) (words other more : List Word) → other ≡ words
    → HasStepped step result old new rings after words more
    → HasStepped step result old new rings after other more
stepped_words step result old new rings after words other more same h =
    subst (λ l. HasStepped step result old new rings after l more) (sym same) h

-- a step that only moves items
pub moved_step : (step : Step) (moved : Bool) (rings after : List Ring) (words : List Word)
    → MovesBy step moved rings after → HasStepped step (Ok moved) [] [] rings after words words
moved_step step true rings after words h = ([], h, sym (append-nil words))
moved_step step false rings after words h = (h.0, refl, h.1, refl)

-- a step of a node is a step of the machine
pub done_by : (step : Step) (result : Result Bool Halt) (node : ℕ) (before after : MachineView)
    (fields : List ℤ) (words : List Word)
    → HasStepped step result (get_or before.fields node []) fields before.rings after.rings
    (words_at before.words node) words
    → after.fired ≡ before.fired → after.fields ≡ set before.fields node fields
    → after.words ≡ set before.words node words → node < length before.words
    → HasDone step node result before after
done_by step (Ok true) node before after fields words h fired is all there = (
  fields,
  h.0,
  h.1,
  is,
  all ∙ ap (set before.words node) h.2,
)
done_by step (Ok false) node before after fields words h fired is all there = (
  h.0,
  same_view before after
      (is ∙ ap (set before.fields node) h.1 ∙ set-get_or before.fields node []) fired h.2
      (all ∙ ap (set before.words node) h.3 ∙ set-get_or before.words node []),
)
done_by step (Err (halt.Fault cause)) node before after fields words h fired is all there =
    (h.0, more_at before.words after.words node words all there h.1)
done_by step (Err halt.NoMemory) node before after fields words h fired is all there =
    more_at before.words after.words node words all there h

-- firings are counted within 64 bits
pub one_more_is : (firing counted : ℕ) → firing < 2 ^ 64 → counted ≡ min (firing + 1) (2 ^ 64 - 1)
    → counted ≡ one_more firing
one_more_is firing counted fits is = by_test (ltb firing (2 ^ 64 - 1)) refl
  where
    by_test : (test : Bool) → ltb firing (2 ^ 64 - 1) ≡ test
        → counted ≡ (if test then suc firing else firing)
    by_test true e = let less = ltb-true firing (2 ^ 64 - 1) e in omega (arith, is, less)
    by_test false e = let past = ltb-false firing (2 ^ 64 - 1) e in omega (arith, is, past, fits)

-- a firing that went, counted
pub gone_once : (before after : MachineView) (node : ℕ) (step : Step) (fired : List ℕ)
    → HasDone step node (Ok true) before after → node < length before.words
    → fired ≡ set before.fired node (one_more (get_or before.fired node 0))
    → (after_step before node step
    ≡ Went (record {
      fields = after.fields;
      fired = fired;
      rings = after.rings;
      words = after.words;
    })) × HaveMoreWords before.words after.words
gone_once before after node step fired (fields, more, goes, fields_are, words_are) there counted = (
  ap (after_step before node) goes
      ∙ ap (λ l. Went (record {
        fields = l;
        fired = set before.fired node (one_more (get_or before.fired node 0));
        rings = after.rings;
        words = more_words before.words node more;
      })) (sym fields_are)
      ∙ ap (λ l. Went (record {
        fields = after.fields;
        fired = set before.fired node (one_more (get_or before.fired node 0));
        rings = after.rings;
        words = l;
      })) (sym words_are)
      ∙ ap (λ l. Went (record {
        fields = after.fields;
        fired = l;
        rings = after.rings;
        words = after.words;
      })) (sym counted),
  more_at before.words after.words node (words_at before.words node ++ more) words_are there
      (record { more = more; is = refl }),
)

-- a machine after a firing has its places and rings
pub machine_after : (circuit : CircuitView) (before after : Machine) → IsMachine circuit before
    → AreActors circuit.codes after.actors.items
    → length after.fired.items ≡ length before.fired.items
    → length after.words.items ≡ length before.words.items
    → length after.rings.items ≡ length before.rings.items → IsMachine circuit after
machine_after circuit before after h actors fired words rings = record {
  actors = actors;
  fired = fired ∙ h.fired;
  words = words ∙ h.words;
  input_nodes = h.input_nodes;
  output_nodes = h.output_nodes;
  inputs = subst (λ n. HoldRings n circuit.inputs) (sym rings) h.inputs;
  outputs = subst (λ n. HoldRings n circuit.outputs) (sym rings) h.outputs;
}

-- the step of a node that is there
pub step_of : (circuit : CircuitView) (machine : MachineView) (node firing : ℕ) (code : NodeCode)
    (inputs outputs : List (Option ℕ)) → slice_get circuit.codes node ≡ Some code
    → inputs ≡ ports_at circuit.inputs node → outputs ≡ ports_at circuit.outputs node
    → step_at circuit machine node firing
    ≡ node_step code firing (get_or machine.fields node []) inputs outputs circuit.input
    machine.rings
step_of circuit machine node firing code inputs outputs here ins outs =
    let fields = get_or machine.fields node [] in
    ap (λ (found : Option NodeCode). maybe_step found firing fields (ports_at circuit.inputs node)
    (ports_at circuit.outputs node) circuit.input machine.rings) here
    ∙ ap (λ l. node_step code firing fields l (ports_at circuit.outputs node) circuit.input
    machine.rings) (sym ins)
    ∙ ap (λ l. node_step code firing fields inputs l circuit.input machine.rings) (sym outs)

-- a node that is no filter keeps no fields
pub passive_fields : (code : NodeCode) (actor : Actor) → IsPassive code → IsActorOf code actor
    → fields_of actor ≡ []
passive_fields code actor passive is = by_actor actor is
  where
    by_actor : (actor : Actor) → IsActorOf code actor → fields_of actor ≡ []
    by_actor (kinds.Filter kept) is = absurd (no_filter code passive is)
      where
        no_filter : (code : NodeCode) → IsPassive code → IsActorOf code (kinds.Filter kept) → ⊥
        no_filter (graphs.Filter name filter) passive is = passive
        no_filter graphs.Identity passive is = is
        no_filter (graphs.FileReader text) passive is = is
        no_filter (graphs.FileWriter text) passive is = is
        no_filter (graphs.Splitter splitter) passive is = is
        no_filter (graphs.Joiner weights) passive is = is
        no_filter (graphs.Scatter fission) passive is = is
        no_filter (graphs.Copy copied fission) passive is = passive
        no_filter (graphs.Gather fission) passive is = is
    by_actor kinds.Passive is = refl

-- nor do the lists of fields
pub passive_kept : (codes : List NodeCode) (actors : List Actor) → AreActors codes actors
    → (number : ℕ) (code : NodeCode) → slice_get codes number ≡ Some code → IsPassive code
    → get_or (map fields_of actors) number [] ≡ []
passive_kept codes actors are number code here passive =
    let less = slice_get_within codes number code here in
    let there : number < length actors = let e = are.each in omega arith in
    let none : Actor = kinds.Passive in
    let kept = get_or actors number none in
    get_or-map fields_of actors number none [] there
    ∙ passive_fields code kept passive
    (are.kept number code kept here (slice_get-get_or actors number none there))

-- nor does a copy of an identity
identity_fields : (actor : Actor) → IsCopyActor graphs.OfIdentity actor → fields_of actor ≡ []
identity_fields (kinds.Filter kept) is = absurd is
identity_fields kinds.Passive is = refl

-- nor does a filter that has none
filter_fields : (filter : filters.Filter) (actor : Actor)
    → total (sized_fields filter.members) ≡ 0 → KeepsState filter actor → fields_of actor ≡ []
filter_fields filter (kinds.Filter kept) none is =
    nil_from_length kept.state.fields (is.state.one_for_each ∙ none)
filter_fields filter kinds.Passive none is = absurd is

nothing_fields : (code : NodeCode) (actor : Actor) → KeepsNothing code → IsActorOf code actor
    → fields_of actor ≡ []
nothing_fields (graphs.Filter name filter) actor none is = filter_fields filter actor none is
nothing_fields (graphs.Copy (graphs.OfFilter name filter) fission) actor none is =
    filter_fields filter actor none is
nothing_fields (graphs.Copy graphs.OfIdentity fission) actor none is = identity_fields actor is
nothing_fields graphs.Identity actor none is = passive_fields graphs.Identity actor tt is
nothing_fields (graphs.FileReader text) actor none is =
    passive_fields (graphs.FileReader text) actor tt is
nothing_fields (graphs.FileWriter text) actor none is =
    passive_fields (graphs.FileWriter text) actor tt is
nothing_fields (graphs.Splitter splitter) actor none is =
    passive_fields (graphs.Splitter splitter) actor tt is
nothing_fields (graphs.Joiner weights) actor none is =
    passive_fields (graphs.Joiner weights) actor tt is
nothing_fields (graphs.Scatter fission) actor none is =
    passive_fields (graphs.Scatter fission) actor tt is
nothing_fields (graphs.Gather fission) actor none is =
    passive_fields (graphs.Gather fission) actor tt is

pub nothing_kept : (codes : List NodeCode) (actors : List Actor) → AreActors codes actors
    → (number : ℕ) (code : NodeCode) → slice_get codes number ≡ Some code → KeepsNothing code
    → get_or (map fields_of actors) number [] ≡ []
nothing_kept codes actors are number code here none =
    let less = slice_get_within codes number code here in
    let there : number < length actors = let e = are.each in omega arith in
    let nobody : Actor = kinds.Passive in
    let kept = get_or actors number nobody in
    get_or-map fields_of actors number nobody [] there
    ∙ nothing_fields code kept none
    (are.kept number code kept here (slice_get-get_or actors number nobody there))

pub fields_kept : (fields : List (List ℤ)) (number : ℕ) → get_or fields number [] ≡ []
    → fields ≡ set fields number []
fields_kept fields number none = sym (set-get_or fields number []) ∙ ap (set fields number) none

-- a node that is no filter and no copy
pub passive_of : (node : Node) → ((x : Instance) → node ≡ nodes.Filter x → ⊥)
    → ((x : Copied) (y : Fission) → node ≡ nodes.Copy x y → ⊥) → IsPassive (node_view node)
passive_of (nodes.Filter x) never nor = never x refl
passive_of nodes.Identity never nor = tt
passive_of (nodes.FileReader text) never nor = tt
passive_of (nodes.FileWriter text) never nor = tt
passive_of (nodes.Splitter splitter) never nor = tt
passive_of (nodes.Joiner weights) never nor = tt
passive_of (nodes.Scatter fission) never nor = tt
passive_of (nodes.Copy copied fission) never nor = nor copied fission refl
passive_of (nodes.Gather fission) never nor = tt

-- a step's answer, where what it speaks of has other names
module _ (result : Result Bool Halt) (words after_words : List Word)
    (rings named after left : List Ring)
    (same_rings : named ≡ rings) (same_left : left ≡ after) where
  pub stepped_at : (step : List ℤ → (input output : Option ℕ) → List Ring → Step)
      (old named_old fields : List ℤ) (input named_input output named_output : Option ℕ)
      → named_old ≡ old → named_input ≡ input → named_output ≡ output
      → HasStepped (step named_old named_input named_output named) result named_old fields named
      left words after_words
      → HasStepped (step old input output rings) result old fields rings after words after_words
  stepped_at step old named_old fields input named_input output named_output olds ins outs h =
      subst (λ l. HasStepped (step old input output rings) result old fields rings l words
      after_words) same_left
      (subst (λ r. HasStepped (step old input output r) result old fields r left words
      after_words) same_rings
      (subst (λ o. HasStepped (step old input o named) result old fields named left words
      after_words) outs
      (subst (λ i. HasStepped (step old i named_output named) result old fields named left words
      after_words) ins
      (subst (λ f. HasStepped (step f named_input named_output named) result f fields named left
      words after_words) olds h))))

  pub stepped_passive : (code : NodeCode) (firing : ℕ) (old : List ℤ)
      (inputs outputs : List (Option ℕ)) (input : List ℤ) → old ≡ []
      → HasStepped (node_step code firing [] inputs outputs input named) result [] [] named left
      words after_words
      → HasStepped (node_step code firing old inputs outputs input rings) result old [] rings after
      words after_words
  stepped_passive code firing old inputs outputs input none h =
      subst (λ l. HasStepped (node_step code firing old inputs outputs input rings) result old []
      rings l words after_words) same_left
      (subst (λ r. HasStepped (node_step code firing old inputs outputs input r) result old [] r
      left words after_words) same_rings
      (subst (λ f. HasStepped (node_step code firing f inputs outputs input named) result f []
      named left words after_words) (sym none) h))

-- a node that isn't there doesn't fire
pub past_nodes : (circuit : CircuitView) (machine : MachineView) (node : ℕ)
    → length circuit.codes ≤ node
    → (after_step machine node (next_step circuit machine node) ≡ Went machine)
    × HaveMoreWords machine.words machine.words
past_nodes circuit machine node past = (
  ap (λ (found : Option NodeCode). after_step machine node (maybe_step found
      (get_or machine.fired node 0) (get_or machine.fields node []) (ports_at circuit.inputs node)
      (ports_at circuit.outputs node) circuit.input machine.rings))
      (slice_get_past circuit.codes node past),
  more_refl machine.words,
)
