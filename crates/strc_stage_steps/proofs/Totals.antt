-- What the collector gathers is what the generic collector makes of the same parcels.
use Rattle.std.proofs.Common.{◌≡◌, refl, sym, ap, ◌∙◌, subst, ℕ, zero, suc, ◌+◌, ◌<◌, ◌≤◌, Bool}
use Rattle.std.proofs.Common.{true, false, List, [], ◌∷◌, ◌++◌, length, map, Option, Some, None}
use Rattle.std.proofs.Common.{slice_get, slice_index_or, arith, true≢false, is_some, ℤ}
use Rattle.std.specs.Prelude.{if◌then◌else◌}
use Rattle.strc_work_meaning.specs.declared.fault.Cause.{Cause}
use Rattle.strc_work_meaning.specs.declared.word.Word.{Word}
use Rattle.strc_elab_dataflow.specs.Answer.{Outcome.Done, Outcome.RoundFault}
use Rattle.strc_elab_dataflow.specs.Machine as generic
use Rattle.strc_elab_graph.specs.Graphs.{NodeCode, gives_words}
use Rattle.strc_elab_graph.specs.Tapes.{tape_nodes, tape_nodes_from}
use Rattle.strc_stage_core.specs.Endings.{AreRunning, gathered_of}
use Rattle.strc_sched_outcome.specs.declared.stop.Stop.{Stop}
use Rattle.strc_sched_outcome.specs.declared.stop.Stop.TheVariants as stop
use Rattle.strc_stage_core.specs.Parcels.{Load, ParcelView}
use Rattle.strc_elab_dataflow.specs.Restart.{numbered_on}
use Rattle.strc_elab_dataflow.specs.Stages.{Parcel.Moves, Parcel.Halts, collected}
use Rattle.strc_elab_dataflow.specs.Workers.{collects}
use Rattle.strc_stage_steps.specs.Steps.{Gathered, stage_work, words_joined, with_round}
use Rattle.strc_stage_steps.specs.CrossingBlocks.{passed_before, raised}
use Rattle.strc_stage_steps.proofs.Follows.{Generic, Related, Relates}
use Rattle.strc_stage_steps.proofs.Held.{IsLoaded}
use Rattle.strc_stage_steps.proofs.Setting.{Setting, staging}

-- ---- words by tape, and by node

-- the words of the tapes are those of their nodes
pub tapes_are : (node : ℕ) (codes : List NodeCode) (words : List (List Word))
    (of_node : ℕ → List Word) → length words ≡ length (tape_nodes_from node codes)
    → ((k : ℕ) (code : NodeCode) → slice_get codes k ≡ Some code → gives_words code ≡ true
    → slice_index_or words (passed_before gives_words codes k) [] ≡ of_node (node + k))
    → words ≡ map of_node (tape_nodes_from node codes)
tapes_are node [] [] of_node e each = refl
tapes_are node [] (own ∷ words) of_node e each = absurd (omega (arith, e))
tapes_are node (code ∷ codes) words of_node e each =
    by_test (gives_words code) refl words e (each 0 code refl)
    (λ k its there gives. each (suc k) its there gives
    ∙ ap of_node (let f : node + suc k ≡ suc node + k = omega arith in f))
    (λ own same rest. tapes_are (suc node) codes own of_node same rest)
  where
    by_test : (test : Bool) → gives_words code ≡ test → (own : List (List Word))
        → length own ≡ length (if test then node ∷ tape_nodes_from (suc node) codes
        else tape_nodes_from (suc node) codes)
        → (gives_words code ≡ true → slice_index_or own 0 [] ≡ of_node (node + 0))
        → ((k : ℕ) (its : NodeCode) → slice_get codes k ≡ Some its → gives_words its ≡ true
        → slice_index_or own (passed_before gives_words (code ∷ codes) (suc k)) []
        ≡ of_node (suc node + k))
        → ((more : List (List Word)) → length more ≡ length (tape_nodes_from (suc node) codes)
        → ((k : ℕ) (its : NodeCode) → slice_get codes k ≡ Some its → gives_words its ≡ true
        → slice_index_or more (passed_before gives_words codes k) [] ≡ of_node (suc node + k))
        → more ≡ map of_node (tape_nodes_from (suc node) codes))
        → own ≡ map of_node (if test then node ∷ tape_nodes_from (suc node) codes
        else tape_nodes_from (suc node) codes)
    by_test true gives [] same first rest ih = absurd (omega (arith, same))
    by_test true gives (own ∷ more) same first rest ih =
        ap (λ (l : List Word). l ∷ more) (first gives
        ∙ ap of_node (let f : node + 0 ≡ node = omega arith in f))
        ∙ ap (λ (l : List (List Word)). of_node node ∷ l)
        (ih more (omega (arith, same))
        (λ k its there its_gives.
        ap (λ (b : Bool). slice_index_or (own ∷ more)
        (raised b (passed_before gives_words codes k)) [])
        (sym gives) ∙ rest k its there its_gives))
    by_test false gives own same first rest ih =
        ih own same (λ k its there its_gives.
        ap (λ (b : Bool). slice_index_or own (raised b (passed_before gives_words codes k)) [])
        (sym gives) ∙ rest k its there its_gives)

-- nodes with tapes are nodes
pub tapes_same : (node : ℕ) (codes : List NodeCode) (count : ℕ) (a b : ℕ → List Word)
    → node + length codes ≤ count → ((v : ℕ) → v < count → a v ≡ b v)
    → map a (tape_nodes_from node codes) ≡ map b (tape_nodes_from node codes)
tapes_same node [] count a b within same = refl
tapes_same node (code ∷ codes) count a b within same =
    by_test (gives_words code) (same node (omega (arith, within)))
    (tapes_same (suc node) codes count a b (omega (arith, within)) same)
  where
    by_test : (test : Bool) → a node ≡ b node
        → map a (tape_nodes_from (suc node) codes) ≡ map b (tape_nodes_from (suc node) codes)
        → map a (if test then node ∷ tape_nodes_from (suc node) codes
        else tape_nodes_from (suc node) codes)
        ≡ map b (if test then node ∷ tape_nodes_from (suc node) codes
        else tape_nodes_from (suc node) codes)
    by_test true here rest =
        ap (λ (l : List Word). l ∷ map a (tape_nodes_from (suc node) codes)) here
        ∙ ap (λ (l : List (List Word)). b node ∷ l) rest
    by_test false here rest = rest

joined_map : (a b : ℕ → List Word) (nodes : List ℕ)
    → words_joined (map a nodes) (map b nodes) ≡ map (λ v. a v ++ b v) nodes
joined_map a b [] = refl
joined_map a b (v ∷ nodes) = ap (λ (l : List (List Word)). (a v ++ b v) ∷ l) (joined_map a b nodes)

module _ (s : Setting) where
  abbrev pub tapes_of : (ℕ → List Word) → List (List Word)
  tapes_of words = map words (tape_nodes s.running.graph.nodes)

  load_tapes : (load : Load) (blocks : ℕ → ℕ → List ℤ) (words : ℕ → List Word)
      → IsLoaded s load blocks words → load.words ≡ tapes_of words
  load_tapes load blocks words loaded =
      tapes_are 0 s.running.graph.nodes load.words words loaded.shaped.words
      (λ k code there gives. loaded.words_are k code there gives
      ∙ ap words (let e : k ≡ 0 + k = omega arith in e))

  round_tapes : (total : Gathered) (load : Load) (blocks : ℕ → ℕ → List ℤ)
      (words new : ℕ → List Word) → IsLoaded s load blocks new → total.words ≡ tapes_of words
      → (with_round total load).words ≡ tapes_of (λ v. words v ++ new v)
  round_tapes total load blocks words new loaded same =
      ap (λ (l : List (List Word)). words_joined l load.words) same
      ∙ ap (words_joined (tapes_of words)) (load_tapes load blocks new loaded)
      ∙ joined_map words new (tape_nodes s.running.graph.nodes)

  abbrev gathered : Gathered → List ParcelView → Gathered
  gathered total taken = gathered_of stage_work total taken

  moves_by : (why : Option Stop) (load : Load) (parcel : Generic) → why ≡ None
      → Relates s why load parcel
      → (blocks : ℕ → ℕ → List ℤ) × (words : ℕ → List Word)
      × (parcel ≡ Moves blocks words) × IsLoaded s load blocks words
  moves_by None load (Moves blocks words) e loaded = (blocks, words, refl, loaded)
  moves_by None load (Halts why) e loaded = absurd loaded
  moves_by (Some why) load parcel e relates = absurd (true≢false (ap is_some e))

  -- a parcel that a fault stopped names it
  named_by : (given : Option Stop) (load : Load) (parcel : Generic) (node firing : ℕ)
      (cause : Cause) → given ≡ Some (stop.Fault node firing cause) → Relates s given load parcel
      → (why : generic.Stop Cause) × (parcel ≡ Halts (Some why))
      × (numbered_on s.from why ≡ record { node = node; firing = firing; cause = cause })
  named_by given load parcel node firing cause e relates =
      subst (λ (o : Option Stop). Relates s o load parcel) e relates

  -- all rounds were gathered
  pub record IsAll (left q : ℕ) (words : ℕ → List Word) (total : Gathered)
      (taken : List ParcelView) (others : List Generic) : Type 0 where
    pub last : ℕ → List Word
    pub outcome : collects (staging s) left q words others ≡ Some (Done last)
    pub tapes : (gathered total taken).words ≡ tapes_of last

  pub all_gathered : (left q : ℕ) (words : ℕ → List Word) (total : Gathered)
      (taken : List ParcelView) (others : List Generic) → left ≡ length taken
      → total.words ≡ tapes_of words → AreRunning taken → Related s (suc left) taken others
      → IsAll left q words total taken others
  unfolding collects collected
  all_gathered zero q words total [] others e same running related = record {
    last = words;
    outcome = refl;
    tapes = same;
  }
  all_gathered (suc left) q words total (p ∷ taken) (parcel ∷ others) e same (none, running)
      related =
      let (blocks, new, moves, loaded) = moves_by p.stop p.load parcel none related.0 in
      let rest = all_gathered left (suc q) (λ v. words v ++ new v) (with_round total p.load) taken
      others (omega (arith, e)) (round_tapes total p.load blocks words new loaded same) running
      (related.1 none) in
      record {
        last = rest.last;
        outcome = ap (λ (g : Generic). collects (staging s) (suc left) q words (g ∷ others)) moves
            ∙ rest.outcome;
        tapes = rest.tapes;
      }
  all_gathered (suc left) q words total (p ∷ taken) [] e same running related = absurd related
  all_gathered zero q words total (p ∷ taken) others e same running related =
      absurd (omega (arith, e))
  all_gathered (suc left) q words total [] others e same running related =
      absurd (omega (arith, e))

  -- a parcel is stopped by a fault
  pub record IsUpTo (left q : ℕ) (words : ℕ → List Word) (total : Gathered)
      (front : List ParcelView) (node firing : ℕ) (cause : Cause) (others : List Generic) : Type 0
    where
      pub last : ℕ → List Word
      pub why : generic.Stop Cause
      pub named : numbered_on s.from why
          ≡ record { node = node; firing = firing; cause = cause }
      pub outcome : collects (staging s) left q words others
          ≡ Some (RoundFault (q + length front) why last)
      pub tapes : (gathered total front).words ≡ tapes_of last

  pub up_to_gathered : (left q : ℕ) (words : ℕ → List Word) (total : Gathered)
      (front : List ParcelView) (p : ParcelView) (rest : List ParcelView) (others : List Generic)
      (node firing : ℕ) (cause : Cause) → length front < left
      → total.words ≡ tapes_of words → AreRunning front
      → p.stop ≡ Some (stop.Fault node firing cause)
      → Related s (suc (length front)) (front ++ (p ∷ rest)) others
      → IsUpTo left q words total front node firing cause others
  unfolding collects collected
  up_to_gathered (suc left) q words total [] p rest (parcel ∷ others) node firing cause less same
      running stopped related =
      let (why, halts, named) = named_by p.stop p.load parcel node firing cause stopped related.0 in
      record {
        last = words;
        why = why;
        named = named;
        outcome = ap (λ (g : Generic). collects (staging s) (suc left) q words (g ∷ others)) halts
            ∙ ap (λ (n : ℕ). Some (RoundFault n why words))
            (let e : q ≡ q + 0 = omega arith in e);
        tapes = same;
      }
  up_to_gathered (suc left) q words total (f ∷ front) p rest (parcel ∷ others) node firing cause
      less same (none, running) stopped related =
      let (blocks, new, moves, loaded) = moves_by f.stop f.load parcel none related.0 in
      let later = up_to_gathered left (suc q) (λ v. words v ++ new v) (with_round total f.load)
      front p rest others node firing cause (omega (arith, less))
      (round_tapes total f.load blocks words new loaded same) running stopped (related.1 none) in
      record {
        last = later.last;
        why = later.why;
        named = later.named;
        outcome = ap (λ (g : Generic). collects (staging s) (suc left) q words (g ∷ others)) moves
            ∙ later.outcome
            ∙ ap (λ (n : ℕ). Some (RoundFault n later.why later.last))
            (let e : suc q + length front ≡ q + suc (length front) = omega arith in e);
        tapes = later.tapes;
      }
  up_to_gathered (suc left) q words total [] p rest [] node firing cause less same running stopped
      related = absurd related
  up_to_gathered (suc left) q words total (f ∷ front) p rest [] node firing cause less same running
      stopped related = absurd related
  up_to_gathered zero q words total front p rest others node firing cause less same running
      stopped related = absurd (omega (arith, less))

  -- how many rounds were gathered
  pub rounds_gathered : (total : Gathered) (taken : List ParcelView)
      → (gathered total taken).rounds ≡ total.rounds + length taken
  rounds_gathered total [] = omega arith
  rounds_gathered total (p ∷ taken) =
      omega (arith, rounds_gathered (with_round total p.load) taken)
