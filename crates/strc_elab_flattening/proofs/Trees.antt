-- Trees of connected numbers: each number's label is the root of its tree, and linking two trees
-- labels those of the one as the other's.
use Rattle.std.proofs.Common.{◌≡◌, ◌≢◌, ℕ, zero, suc, ◌<◌, ◌≤◌, cond, nat_eq, List, []}
use Rattle.std.proofs.Common.{◌∷◌, ◌++◌, length, get_or, sym, ap, subst, ◌∙◌, refl, inl, inr}
use Rattle.std.proofs.Common.{arith}
use Rattle.std.specs.List.{Contains}
use Rattle.std.proofs.lemmas.List.{get_or-set_other, get_or-set_same, length-set}
use Rattle.std.proofs.lemmas.List.Elements.{Contains-append_left, Contains-push}
use Rattle.std.proofs.lemmas.List.Elements.{Contains-push_cases}
use Rattle.std.proofs.Common.{eq-eqb}
use Rattle.std.proofs.lemmas.Bool.{cases_eq, ne_eqb}
use Rattle.strc_elab_graph.specs.Graphs.{Channel}
use Rattle.strc_elab_graph.specs.Connections.{Path, Here, Along, Against}
use Rattle.strc_elab_flattening.specs.Connecting.{AreConnected, Climbs, AreLinked, HaveOneRoot}
use Rattle.strc_elab_flattening.specs.Connecting as trees

-- paths

pub along_path : {channels : List Channel} {node next last : ℕ} → Path channels node next
    → Path channels next last → Path channels node last
along_path Here rest = rest
along_path (Along channel there is first) rest = Along channel there is (along_path first rest)
along_path (Against channel there is first) rest = Against channel there is (along_path first rest)

backwards : {channels : List Channel} {node last : ℕ} → Path channels node last
    → Path channels last node
backwards Here = Here
backwards {channels} {node} {last} (Along channel there is rest) =
    along_path (backwards rest)
    (Against channel there refl (subst (λ n. Path channels n node) (sym is) Here))
backwards {channels} {node} {last} (Against channel there is rest) =
    along_path (backwards rest)
    (Along channel there refl (subst (λ n. Path channels n node) (sym is) Here))

more_channels : {channels : List Channel} {node last : ℕ} (channel : Channel)
    → Path channels node last → Path (channels ++ channel ∷ []) node last
more_channels channel Here = Here
more_channels {channels} added (Along channel there is rest) =
    Along channel (Contains-append_left channels (added ∷ []) channel there) is
    (more_channels added rest)
more_channels {channels} added (Against channel there is rest) =
    Against channel (Contains-append_left channels (added ∷ []) channel there) is
    (more_channels added rest)

-- trees

-- the trees of the numbers that these channels connect
pub record AreJoined (parents : List ℕ) (channels : List Channel) : Type 0 where
  pub trees : (node : ℕ) → node < length parents → get_or parents node 0 ≤ node
  pub path : (node : ℕ) → node < length parents → Path channels node (get_or parents node 0)
  pub label : ℕ → ℕ
  pub root : (node : ℕ) → node < length parents → get_or parents node 0 ≡ node
      → label node ≡ node
  pub parent : (node : ℕ) → node < length parents → label (get_or parents node 0) ≡ label node
  pub ends : (channel : Channel) → Contains channels channel
      → label channel.source.node ≡ label channel.target.node

none_contained : (channel : Channel) → Contains [] channel → ⊥
none_contained channel there = let h = there.1 in absurd (omega arith)

-- each number alone
pub joined_none : (parents : List ℕ)
    → ((node : ℕ) → node < length parents → get_or parents node 0 ≡ node) → AreJoined parents []
joined_none parents alone = record {
  trees = λ node within. let h = alone node within in omega arith;
  path = λ node within. subst (λ n. Path [] node n) (sym (alone node within)) Here;
  label = λ node. node;
  root = λ node within is. refl;
  parent = λ node within. alone node within;
  ends = λ channel there. absurd (none_contained channel there);
}

-- the label is one all the way up, and there is a path

label_up : {parents : List ℕ} {channels : List Channel} {node last : ℕ}
    → (joined : AreJoined parents channels) → Climbs parents node last
    → joined.label last ≡ joined.label node
label_up joined trees.Here = refl
label_up joined (trees.Then {last = last} first within is) =
    ap joined.label (sym is) ∙ joined.parent last within ∙ label_up joined first

path_up : {parents : List ℕ} {channels : List Channel} {node last : ℕ}
    → AreJoined parents channels → Climbs parents node last → Path channels node last
path_up joined trees.Here = Here
path_up {channels = channels} joined (trees.Then {last = last} first within is) =
    along_path (path_up joined first)
    (subst (λ n. Path channels last n) is (joined.path last within))

-- linking

-- the numbers of one label come to have another one
relabelled : (label : ℕ → ℕ) (greater lesser : ℕ) → ℕ → ℕ
relabelled label greater lesser node =
    cond (nat_eq (label node) greater) lesser (label node)

-- where a number has this label
relabelled-at : (label : ℕ → ℕ) (greater lesser node : ℕ) → label node ≡ greater
    → relabelled label greater lesser node ≡ lesser
unfolding relabelled
relabelled-at label greater lesser node is =
    ap (λ b. cond b lesser (label node)) (eq-eqb (label node) greater is)

-- and where it hasn't
relabelled-other : (label : ℕ → ℕ) (greater lesser node : ℕ) → label node ≢ greater
    → relabelled label greater lesser node ≡ label node
unfolding relabelled
relabelled-other label greater lesser node not =
    ap (λ b. cond b lesser (label node)) (ne_eqb (label node) greater not)

-- equal labels stay equal
relabelled-same : (label : ℕ → ℕ) (greater lesser node other : ℕ) → label node ≡ label other
    → relabelled label greater lesser node ≡ relabelled label greater lesser other
unfolding relabelled
relabelled-same label greater lesser node other same =
    ap (λ n. cond (nat_eq n greater) lesser n) same

-- a number of the lesser label keeps it
relabelled-lesser : (label : ℕ → ℕ) (greater lesser node : ℕ) → label node ≡ lesser
    → relabelled label greater lesser node ≡ lesser
relabelled-lesser label greater lesser node is = elim (cases_eq lesser greater) [
  | inl same ↦ relabelled-at label greater lesser node (is ∙ same)
  | inr not ↦ relabelled-other label greater lesser node (λ e. not (sym is ∙ e)) ∙ is
]

-- a link changes no length
pub length_linked : (old new : List ℕ) (one other : ℕ) → AreLinked old new one other
    → length new ≡ length old
length_linked old new one other linked =
    ap length linked.linked ∙ length-set old linked.greater linked.lesser

module _ (old new : List ℕ) (channels : List Channel) (channel : Channel)
    (joined : AreJoined old channels)
    (linked : AreLinked old new channel.source.node channel.target.node) where
  now : List Channel
  now = channels ++ channel ∷ []

  there : Contains now channel
  unfolding now
  there = Contains-push channels channel

  same_length : length new ≡ length old
  same_length = length_linked old new channel.source.node channel.target.node linked

  parent_there : get_or new linked.greater 0 ≡ linked.lesser
  parent_there = ap (λ (l : List ℕ). get_or l linked.greater 0) linked.linked
      ∙ get_or-set_same old linked.greater linked.lesser 0 linked.within

  parent_else : (node : ℕ) → node ≢ linked.greater → get_or new node 0 ≡ get_or old node 0
  parent_else node not = ap (λ (l : List ℕ). get_or l node 0) linked.linked
      ∙ get_or-set_other old linked.greater node linked.lesser 0 not

  lesser_within : linked.lesser < length old
  lesser_within = let a = linked.order in let b = linked.within in omega arith

  lesser_label : joined.label linked.lesser ≡ linked.lesser
  lesser_label = joined.root linked.lesser lesser_within linked.lesser_root

  greater_label : joined.label linked.greater ≡ linked.greater
  greater_label = joined.root linked.greater linked.within linked.greater_root

  label : ℕ → ℕ
  label = relabelled joined.label linked.greater linked.lesser

  climbed : {node last : ℕ} → Climbs old node last → Path now node last
  unfolding now
  climbed climbs = more_channels channel (path_up joined climbs)

  path_there : Path now linked.greater linked.lesser
  path_there = elim linked.ends [
    | inl straight ↦
        along_path (backwards (climbed straight.1))
        (Against channel there refl (climbed straight.0))
    | inr crossed ↦
        along_path (backwards (climbed crossed.0))
        (Along channel there refl (climbed crossed.1))
  ]

  trees_now : (node : ℕ) → node < length new → get_or new node 0 ≤ node
  trees_now node within = elim (cases_eq node linked.greater) [
    | inl same ↦
        subst (λ n. get_or new n 0 ≤ n) (sym same)
        (subst (λ n. n ≤ linked.greater) (sym parent_there) linked.order)
    | inr not ↦
        subst (λ n. n ≤ node) (sym (parent_else node not))
        (joined.trees node (subst (λ n. node < n) same_length within))
  ]

  path_now : (node : ℕ) → node < length new → Path now node (get_or new node 0)
  unfolding now
  path_now node within = elim (cases_eq node linked.greater) [
    | inl same ↦
        subst (λ n. Path now n (get_or new n 0)) (sym same)
        (subst (Path now linked.greater) (sym parent_there) path_there)
    | inr not ↦
        subst (Path now node) (sym (parent_else node not))
        (more_channels channel
        (joined.path node (subst (λ n. node < n) same_length within)))
  ]

  root_now : (node : ℕ) → node < length new → get_or new node 0 ≡ node → label node ≡ node
  unfolding label
  root_now node within is = elim (cases_eq node linked.greater) [
    | inl same ↦
        ap label same
        ∙ relabelled-at joined.label linked.greater linked.lesser linked.greater greater_label
        ∙ sym parent_there ∙ ap (λ n. get_or new n 0) (sym same) ∙ is
    | inr not ↦
        let kept : get_or old node 0 ≡ node = sym (parent_else node not) ∙ is in
        let own : joined.label node ≡ node =
        joined.root node (subst (λ n. node < n) same_length within) kept in
        relabelled-other joined.label linked.greater linked.lesser node (λ e. not (sym own ∙ e))
        ∙ own
  ]

  parent_now : (node : ℕ) → node < length new → label (get_or new node 0) ≡ label node
  unfolding label
  parent_now node within = elim (cases_eq node linked.greater) [
    | inl same ↦
        ap (λ n. label (get_or new n 0)) same ∙ ap label parent_there
        ∙ relabelled-lesser joined.label linked.greater linked.lesser linked.lesser lesser_label
        ∙ sym (relabelled-at joined.label linked.greater linked.lesser linked.greater
        greater_label)
        ∙ ap label (sym same)
    | inr not ↦
        ap label (parent_else node not)
        ∙ relabelled-same joined.label linked.greater linked.lesser (get_or old node 0) node
        (joined.parent node (subst (λ n. node < n) same_length within))
  ]

  under_lesser : {node : ℕ} → Climbs old node linked.lesser → label node ≡ linked.lesser
  unfolding label
  under_lesser {node} climbs =
      relabelled-lesser joined.label linked.greater linked.lesser node
      (sym (label_up joined climbs) ∙ lesser_label)

  under_greater : {node : ℕ} → Climbs old node linked.greater → label node ≡ linked.lesser
  unfolding label
  under_greater {node} climbs =
      relabelled-at joined.label linked.greater linked.lesser node
      (sym (label_up joined climbs) ∙ greater_label)

  ends_there : label channel.source.node ≡ label channel.target.node
  ends_there = elim linked.ends [
    | inl straight ↦ under_lesser straight.0 ∙ sym (under_greater straight.1)
    | inr crossed ↦ under_greater crossed.0 ∙ sym (under_lesser crossed.1)
  ]

  ends_now : (other : Channel) → Contains now other
      → label other.source.node ≡ label other.target.node
  unfolding label now
  ends_now other in_now = elim (Contains-push_cases channels channel other in_now) [
    | inl before ↦
        relabelled-same joined.label linked.greater linked.lesser other.source.node
        other.target.node
        (joined.ends other before)
    | inr is ↦
        subst (λ (c : Channel). label c.source.node ≡ label c.target.node) is ends_there
  ]

  -- the trees with one more channel
  pub joined_more : AreJoined new (channels ++ channel ∷ [])
  unfolding now
  joined_more = record {
    trees = trees_now;
    path = path_now;
    label = label;
    root = root_now;
    parent = parent_now;
    ends = ends_now;
  }

-- one root

-- where no root but 0 is left, there is a path to 0
descends : (parents : List ℕ) (channels : List Channel) → AreJoined parents channels
    → HaveOneRoot parents → (bound node : ℕ) → node < bound → node < length parents
    → Path channels node 0
descends parents channels joined one zero node below within = absurd (omega arith)
descends parents channels joined one (suc bound) zero below within = Here
descends parents channels joined one (suc bound) (suc node) below within =
    let up = joined.trees (suc node) within in
    let not = one (suc node) (omega arith) within in
    let less : get_or parents (suc node) 0 < suc node = omega arith in
    along_path (joined.path (suc node) within)
    (descends parents channels joined one bound (get_or parents (suc node) 0) (omega arith)
    (omega arith))

-- a path stays at one label
label_along : (parents : List ℕ) (channels : List Channel) (joined : AreJoined parents channels)
    → {node last : ℕ} → Path channels node last → joined.label node ≡ joined.label last
label_along parents channels joined Here = refl
label_along parents channels joined (Along channel there is rest) =
    ap joined.label (sym is) ∙ joined.ends channel there
    ∙ label_along parents channels joined rest
label_along parents channels joined (Against channel there is rest) =
    ap joined.label (sym is) ∙ sym (joined.ends channel there)
    ∙ label_along parents channels joined rest

pub one_root : (parents : List ℕ) (channels : List Channel) (count : ℕ) → length parents ≡ count
    → AreJoined parents channels → HaveOneRoot parents → AreConnected count channels
one_root parents channels count is joined one node other node_within other_within =
    along_path
    (descends parents channels joined one (suc node) node (omega arith) (omega arith))
    (backwards (descends parents channels joined one (suc other) other (omega arith) (omega arith)))

pub connected_root : (parents : List ℕ) (channels : List Channel) (count : ℕ)
    → length parents ≡ count → AreJoined parents channels → AreConnected count channels
    → HaveOneRoot parents
connected_root parents channels count is joined connected node above within root =
    let zero_within : 0 < length parents = omega arith in
    let zero_up = joined.trees 0 zero_within in
    let zero_root : get_or parents 0 0 ≡ 0 = omega arith in
    let same : node ≡ 0 =
    sym (joined.root node within root)
    ∙ label_along parents channels joined (connected node 0 (omega arith) (omega arith))
    ∙ joined.root 0 zero_within zero_root in
    omega arith
