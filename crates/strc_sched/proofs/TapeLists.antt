-- The nodes that give words, one after another, and their tapes.
use Rattle.std.proofs.Common.{◌≡◌, sym, ap, ◌∙◌, subst, ℕ, zero, suc, ◌+◌, ◌<◌, ◌≤◌, Bool}
use Rattle.std.proofs.Common.{true}
use Rattle.std.proofs.Common.{false, List, [], ◌∷◌, ◌++◌, length, get_or, set, drop, map, arith}
use Rattle.std.proofs.Common.{inl}
use Rattle.std.proofs.Common.{inr, ◌⊎◌, append_assoc, add-one}
use Rattle.std.specs.Prelude.{Some, slice_get, slice_index, if◌then◌else◌}
use Rattle.std.proofs.lemmas.Bool.{cases_eq}
use Rattle.std.proofs.lemmas.List.{get_or-set_same, get_or-set_other, length-map}
use Rattle.strc_work_meaning.specs.declared.word.Word.{Word}
use Rattle.strc_elab_graph.specs.Graphs.{NodeCode, gives_words}
use Rattle.strc_elab_graph.specs.NodeView.{node_view}
use Rattle.strc_elab_graph.specs.declared.graph.Node.{Node}
use Rattle.strc_sched_outcome.specs.Tapes.{TapeView, tape}
use Rattle.strc_sched_laws.specs.Machine.{words_at}
use Rattle.strc_sched_machine.specs.Running.{words_of}
use Rattle.strc_sched_machine.proofs.WordLists.{words_set}
use Rattle.strc_elab_graph.specs.Tapes.{tape_nodes_from}
use Rattle.strc_elab_graph.proofs.TapeNodes.{from_here}
use Rattle.strc_sched.specs.Tapes.{AreMarked, tapes_from}
use Rattle.std.specs.declared.vec.Vec.{Vec}
use Rattle.std.specs.declared.alloc.Global.{Global}

-- each of them is a node
pub tape_nodes_within : (first : ℕ) (codes : List NodeCode) (place d : ℕ)
    → place < length (tape_nodes_from first codes)
    → get_or (tape_nodes_from first codes) place d < first + length codes
tape_nodes_within first [] place d less = absurd (omega arith)
tape_nodes_within first (code ∷ codes) place d less =
    by_kind (gives_words code) place less
    (λ place less. tape_nodes_within (suc first) codes place d less)
  where
    by_kind : (test : Bool) → (place : ℕ)
        → place < length (if test then first ∷ tape_nodes_from (suc first) codes
        else tape_nodes_from (suc first) codes)
        → ((place : ℕ) → place < length (tape_nodes_from (suc first) codes)
        → get_or (tape_nodes_from (suc first) codes) place d < suc first + length codes)
        → get_or (if test then first ∷ tape_nodes_from (suc first) codes
        else tape_nodes_from (suc first) codes) place d < first + suc (length codes)
    by_kind true zero less later = omega arith
    by_kind true (suc place) less later =
        let own = later place (omega arith) in omega arith
    by_kind false place less later = let own = later place less in omega arith

-- a node is at a place of such a list
pub record IsAmong (nodes : List ℕ) (node : ℕ) : Type 0 where
  pub place : ℕ
  pub within : place < length nodes
  pub is : get_or nodes place 0 ≡ node

-- a node that gives words is one of them
pub tape_place : (first : ℕ) (codes : List NodeCode) (node : ℕ) (code : NodeCode)
    → slice_get codes node ≡ Some code → gives_words code ≡ true
    → IsAmong (tape_nodes_from first codes) (first + node)
tape_place first [] node code there gives = absurd (cc)
tape_place first (own ∷ codes) zero code there gives =
    let same : own ≡ code = cc in
    by_kind (gives_words own) (ap gives_words same ∙ gives)
  where
    by_kind : (test : Bool) → test ≡ true
        → IsAmong (if test then first ∷ tape_nodes_from (suc first) codes
        else tape_nodes_from (suc first) codes) (first + 0)
    by_kind true e = record { place = 0; within = omega arith; is = omega arith }
    by_kind false e = absurd (cc)
tape_place first (own ∷ codes) (suc node) code there gives =
    by_kind (gives_words own) (tape_place (suc first) codes node code there gives)
  where
    by_kind : (test : Bool) → IsAmong (tape_nodes_from (suc first) codes) (suc first + node)
        → IsAmong (if test then first ∷ tape_nodes_from (suc first) codes
        else tape_nodes_from (suc first) codes) (first + suc node)
    by_kind true among = record {
      place = suc among.place;
      within = let less = among.within in omega arith;
      is = let e : suc first + node ≡ first + suc node = omega arith in among.is ∙ e;
    }
    by_kind false among = record {
      place = among.place;
      within = among.within;
      is = let e : suc first + node ≡ first + suc node = omega arith in among.is ∙ e;
    }

-- the lengths of the first so many tapes are known
abbrev pub AreMarkedBelow : (tapes : List ℕ) → (count : ℕ) → (lengths : List ℕ)
    → List (List Word) → Type 0
AreMarkedBelow tapes count lengths words =
    (place : ℕ) → place < count
    → slice_index lengths (get_or tapes place 0) ≡ length (words_at words (get_or tapes place 0))

-- those of all tapes
pub marked_all : (codes : List NodeCode) (lengths : List ℕ) (words : List (List Word))
    → AreMarkedBelow (tape_nodes_from 0 codes) (length (tape_nodes_from 0 codes)) lengths words
    → AreMarked codes lengths words
marked_all codes lengths words below node code there gives =
    let among = tape_place 0 codes node code there gives in
    let plain : 0 + node ≡ node = omega arith in
    subst (λ n. slice_index lengths n ≡ length (words_at words n)) (among.is ∙ plain)
    (below among.place among.within)

-- one more
pub marked_next : (tapes : List ℕ) (count : ℕ) (lengths : List ℕ) (words : List (List Word))
    (node own : ℕ) → node ≡ get_or tapes count 0 → own ≡ length (words_at words node)
    → node < length lengths
    → AreMarkedBelow tapes count lengths words
    → AreMarkedBelow tapes (count + 1) (set lengths node own) words
marked_next tapes count lengths words node own at is there below place less =
    by_node (cases_eq (get_or tapes place 0) node)
  where
    by_node : ((get_or tapes place 0) ≡ node) ⊎ ((get_or tapes place 0) ≡ node → ⊥)
        → slice_index (set lengths node own) (get_or tapes place 0)
        ≡ length (words_at words (get_or tapes place 0))
    by_node (inl same) =
        ap (slice_index (set lengths node own)) same
        ∙ get_or-set_same lengths node own 0 there ∙ is
        ∙ ap (λ n. length (words_at words n)) (sym same)
    by_node (inr differs) =
        get_or-set_other lengths node (get_or tapes place 0) own 0 differs
        ∙ below place (by_place (cases_eq place count))
      where
        by_place : (place ≡ count) ⊎ (place ≡ count → ⊥) → place < count
        by_place (inl last) = absurd (differs (ap (λ n. get_or tapes n 0) last ∙ sym at))
        by_place (inr before) = omega (arith, less, before)

-- the tapes from a place on
module _ (nodes : List Node) (node : ℕ) (own : Node) (less : node < length nodes)
    (is : own ≡ get_or nodes node own) (words : ℕ → List Word) where
  abbrev pub tapes_later : List TapeView
  tapes_later = tapes_from (node + 1) (drop (node + 1) (map node_view nodes)) words

  all_from : tapes_from node (drop node (map node_view nodes)) words
      ≡ (if gives_words (node_view own) then tape node (words node) ∷ tapes_later
      else tapes_later)
  all_from =
      ap (λ l. tapes_from node l words) (from_here nodes node own less is)
      ∙ ap (λ n. if gives_words (node_view own)
      then tape node (words node)
      ∷ tapes_from n (drop (node + 1) (map node_view nodes)) words
      else tapes_from n (drop (node + 1) (map node_view nodes)) words) (sym (add-one node))

  pub tape_here : (test : Bool) → test ≡ gives_words (node_view own) → test ≡ true
      → (before whole : List TapeView)
      → before ++ tapes_from node (drop node (map node_view nodes)) words ≡ whole
      → (before ++ tape node (words node) ∷ []) ++ tapes_later ≡ whole
  tape_here test e gives before whole all =
      append_assoc before (tape node (words node) ∷ []) tapes_later
      ∙ ap (λ l. before ++ l)
      (sym (all_from ∙ ap (λ t. if t then tape node (words node) ∷ tapes_later
      else tapes_later) (sym e ∙ gives)))
      ∙ all

  pub no_tape_here : (test : Bool) → test ≡ gives_words (node_view own) → test ≡ false
      → (before whole : List TapeView)
      → before ++ tapes_from node (drop node (map node_view nodes)) words ≡ whole
      → before ++ tapes_later ≡ whole
  no_tape_here test e none before whole all =
      ap (λ l. before ++ l)
      (sym (all_from ∙ ap (λ t. if t then tape node (words node) ∷ tapes_later
      else tapes_later) (sym e ∙ none)))
      ∙ all

-- a tape's node is one of them
pub tape_below : (nodes : List Node) (tapes : List ℕ) (place node : ℕ)
    → tapes ≡ tape_nodes_from 0 (map node_view nodes) → place < length tapes
    → node ≡ get_or tapes place 0 → node < length nodes
tape_below nodes tapes place node is less at =
    let long = ap length is in
    let own = tape_nodes_within 0 (map node_view nodes) place 0 (omega (arith, less, long)) in
    let same = at ∙ ap (λ l. get_or l place 0) is in
    let many = length-map nodes node_view in
    omega (arith, own, same, many)

-- two lists of the tapes of the same nodes
pub tapes_long : (nodes others : List Node) (tapes own : List ℕ)
    → tapes ≡ tape_nodes_from 0 (map node_view nodes)
    → own ≡ tape_nodes_from 0 (map node_view others)
    → nodes ≡ others → length tapes ≡ length own
tapes_long nodes others tapes own is are same =
    ap length is ∙ ap (λ l. length (tape_nodes_from 0 (map node_view l))) same ∙ sym (ap length are)

-- at the end all are marked
pub marked_end : (nodes others : List Node) (tapes lengths : List ℕ) (words : List (List Word))
    (count : ℕ) → tapes ≡ tape_nodes_from 0 (map node_view nodes) → nodes ≡ others
    → length tapes ≤ count → AreMarkedBelow tapes count lengths words
    → AreMarked (map node_view others) lengths words
marked_end nodes others tapes lengths words count is same all below =
    subst (λ l. AreMarked (map node_view l) lengths words) same
    (marked_all (map node_view nodes) lengths words
    (subst (λ l. AreMarkedBelow l (length l) lengths words) is
    (λ place less. below place (omega (arith, less, all)))))

-- words of a node that are taken leave those of others
pub other_words : (all : List (Vec Word Global)) (node : ℕ) (own : Vec Word Global) (other : ℕ)
    → (other ≡ node → ⊥)
    → words_at (words_of (set all node own)) other ≡ words_at (words_of all) other
other_words all node own other differs =
    ap (λ l. words_at l other) (words_set all node own)
    ∙ get_or-set_other (words_of all) node other own.items [] differs

-- there is a list of words for each node
pub words_each : (all others : List (Vec Word Global)) (codes : List NodeCode) (own : List Node)
    → words_of all ≡ words_of others → length others ≡ length codes → map node_view own ≡ codes
    → length all ≡ length own
words_each all others codes own same each is =
    let lists = λ (words : Vec Word Global). words.items in
    sym (length-map all lists) ∙ ap length same ∙ length-map others lists ∙ each
    ∙ ap length (sym is) ∙ length-map own node_view
