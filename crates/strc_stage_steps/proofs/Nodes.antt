-- Nodes after fission that have what their origins had.
use Rattle.std.proofs.Common.{◌≡◌, ◌≢◌, ◌⊎◌, refl, sym, ap, ◌∙◌, subst, ℕ, suc, ◌<◌, ◌≤◌, ℤ}
use Rattle.std.proofs.Common.{List, [], Some, get_or, set, inl, inr, arith, true}
use Rattle.std.proofs.Common.{length, map, slice_get}
use Rattle.std.proofs.lemmas.Option.{slice_get-get_or, slice_get-map}
use Rattle.std.specs.Option.{option_map}
use Rattle.std.proofs.lemmas.Bool.{cases_lt, cases_order, true≢false}
use Rattle.std.proofs.lemmas.List.{get_or-set_same, get_or-set_other, length-set}
use Rattle.strc_work_meaning.specs.declared.word.Word.{Word}
use Rattle.strc_elab_graph.specs.Graphs.{NodeCode}
use Rattle.strc_elab_graph.specs.NodeView.{node_view}
use Rattle.strc_elab_graph.specs.Rates.{fires_by_rounds}
use Rattle.strc_elab_graph.specs.declared.graph.Node.{Node}
use Rattle.strc_sched_laws.specs.Machine.{MachineView}
use Rattle.strc_sched_machine.specs.Keeping.{Kept, HasPlace, kept_at, with_kept}
use Rattle.strc_fiss.specs.declared.split.Origin.{Origin}
use Rattle.strc_stage_steps.specs.Handing.{AsMany, HasHanded, HavePlaces}
use Rattle.strc_stage_plan.specs.Named.{old_node}
use Rattle.strc_stage_steps.specs.Origins.{IsWhole}

abbrev pub kept : (fields : List ℤ) (fired : ℕ) (words : List Word) → Kept
kept fields fired words = record { fields = fields; fired = fired; words = words }

pub same_or_not : (one other : ℕ) → (one ≡ other) ⊎ (one ≢ other)
same_or_not one other = elim (cases_order one other) [
  | inl same ↦ inl same
  | inr apart ↦ elim apart [
    | inl lower ↦ inr (λ e. omega (arith, lower, e))
    | inr above ↦ inr (λ e. omega (arith, above, e))
  ]
]

pub some_same : {A : Type 0} (one other : A) → Some one ≡ Some other → one ≡ other
some_same one other e = cc

-- ---- one node has something else

pub kept_here : (machine : MachineView) (node : ℕ) (own : Kept) → HasPlace machine node
    → kept_at (with_kept node own machine) node ≡ own
kept_here machine node own has =
    ap (λ (l : List ℤ). kept l (get_or (set machine.fired node own.fired) node 0)
    (get_or (set machine.words node own.words) node []))
    (get_or-set_same machine.fields node own.fields [] has.fields)
    ∙ ap (λ (n : ℕ). kept own.fields n (get_or (set machine.words node own.words) node []))
    (get_or-set_same machine.fired node own.fired 0 has.fired)
    ∙ ap (kept own.fields own.fired)
    (get_or-set_same machine.words node own.words [] has.words)

pub kept_beside : (machine : MachineView) (node other : ℕ) (own : Kept) → other ≢ node
    → kept_at (with_kept node own machine) other ≡ kept_at machine other
kept_beside machine node other own differ =
    ap (λ (l : List ℤ). kept l (get_or (set machine.fired node own.fired) other 0)
    (get_or (set machine.words node own.words) other []))
    (get_or-set_other machine.fields node other own.fields [] differ)
    ∙ ap (λ (n : ℕ). kept (get_or machine.fields other []) n
    (get_or (set machine.words node own.words) other []))
    (get_or-set_other machine.fired node other own.fired 0 differ)
    ∙ ap (kept (get_or machine.fields other []) (get_or machine.fired other 0))
    (get_or-set_other machine.words node other own.words [] differ)

pub as_many : (machine : MachineView) (node : ℕ) (own : Kept)
    → AsMany (with_kept node own machine) machine
as_many machine node own = record {
  fields = length-set machine.fields node own.fields;
  fired = length-set machine.fired node own.fired;
  words = length-set machine.words node own.words;
}

many_more : (one other third : MachineView) → AsMany one other → AsMany other third
    → AsMany one third
many_more one other third first second = record {
  fields = first.fields ∙ second.fields;
  fired = first.fired ∙ second.fired;
  words = first.words ∙ second.words;
}

pub place_kept : (one other : MachineView) (node : ℕ) → AsMany one other → HasPlace other node
    → HasPlace one node
place_kept one other node many has = record {
  fields = let e = many.fields in let less = has.fields in omega (arith, e, less);
  fired = let e = many.fired in let less = has.fired in omega (arith, e, less);
  words = let e = many.words in let less = has.words in omega (arith, e, less);
}

-- ---- one node after another

below : (count number : ℕ) → number < suc count → number ≢ count → number < count
below count number less differ = elim (cases_lt number count) [
  | inl is ↦ is
  | inr past ↦ absurd (differ (omega (arith, less, past)))
]

module _ (nodes : List NodeCode) (origins : List Origin) (before after : MachineView) where
  abbrev Handed : (count : ℕ) → (left given : MachineView) → Type 0
  Handed count left given = HasHanded nodes origins count before after left given

  pub none_handed : Handed 0 before after
  none_handed = record {
    handed = λ number less whole. absurd (omega (arith, less));
    others = λ number which. refl;
    kept = λ number less whole. refl;
    rings = refl;
    left_rings = refl;
    many = record { fields = refl; fired = refl; words = refl };
    left_many = record { fields = refl; fired = refl; words = refl };
  }

  module _ (count : ℕ) (left given : MachineView) (so_far : Handed count left given) where
    -- a part of a node that is split gets nothing
    pub skipped : ¬ IsWhole nodes count → Handed (suc count) left given
    skipped part = record {
      handed = λ number less whole. elim (same_or_not number count) [
        | inl same ↦ absurd (part (subst (IsWhole nodes) same whole))
        | inr differ ↦ so_far.handed number (below count number less differ) whole
      ];
      others = λ number which. elim which [
        | inl less ↦ so_far.others number (inl (omega (arith, less)))
        | inr other ↦ so_far.others number (inr other)
      ];
      kept = λ number less whole. so_far.kept number (omega (arith, less)) whole;
      rings = so_far.rings;
      left_rings = so_far.left_rings;
      many = so_far.many;
      left_many = so_far.left_many;
    }

    abbrev place : ℕ
    place = old_node origins count

    abbrev now : MachineView
    now = with_kept count (kept_at left (old_node origins count)) given

    abbrev then : MachineView
    then = with_kept (old_node origins count) (kept_at given count) left

    -- one that isn't split has what its origin had
    pub swapped : HavePlaces (suc count) origins before after
        → ((one other : ℕ) → IsWhole nodes one → IsWhole nodes other
        → old_node origins one ≡ old_node origins other → one ≡ other)
        → IsWhole nodes count
        → Handed (suc count)
        (with_kept (old_node origins count) (kept_at given count) left)
        (with_kept count (kept_at left (old_node origins count)) given)
    swapped places apart whole = record {
      handed = λ number less own. elim (same_or_not number count) [
        | inl same ↦
            ap (kept_at now) same
            ∙ kept_here given count (kept_at left place)
            (place_kept given after count so_far.many (places.new count (omega arith)))
            ∙ so_far.kept count (omega arith) whole
            ∙ ap (λ (n : ℕ). kept_at before (old_node origins n)) (sym same)
        | inr differ ↦
            kept_beside given count number (kept_at left place) differ
            ∙ so_far.handed number (below count number less differ) own
      ];
      others = λ number which.
          kept_beside given count number (kept_at left place) (not_count number which)
          ∙ so_far.others number (earlier number which);
      kept = λ number less own.
          kept_beside left place (old_node origins number) (kept_at given count)
          (λ e. omega (arith, less, apart number count own whole e))
          ∙ so_far.kept number (omega (arith, less)) own;
      rings = so_far.rings;
      left_rings = so_far.left_rings;
      many = many_more now given after (as_many given count (kept_at left place)) so_far.many;
      left_many = many_more then left before (as_many left place (kept_at given count))
          so_far.left_many;
    }
      where
        not_count : (number : ℕ) → (suc count ≤ number) ⊎ (¬ IsWhole nodes number)
            → number ≢ count
        not_count number (inl less) e = omega (arith, less, e)
        not_count number (inr part) e = part (subst (IsWhole nodes) (sym e) whole)

        earlier : (number : ℕ) → (suc count ≤ number) ⊎ (¬ IsWhole nodes number)
            → (count ≤ number) ⊎ (¬ IsWhole nodes number)
        earlier number (inl less) = inl (omega (arith, less))
        earlier number (inr part) = inr part

-- ---- the nodes of a graph

-- each has its number
pub node_there : (nodes : List Node) (number : ℕ) (own : Node) → number < length nodes
    → own ≡ get_or nodes number own
    → slice_get (map node_view nodes) number ≡ Some (node_view own)
node_there nodes number own less is =
    slice_get-map node_view nodes number
    ∙ ap (option_map node_view) (slice_get-get_or nodes number own less
    ∙ ap (λ (n : Node). Some n) (sym is))

-- a part of a node that is split isn't whole
pub not_whole : (nodes : List NodeCode) (number : ℕ) (code : NodeCode)
    → slice_get nodes number ≡ Some code → fires_by_rounds code ≡ true → ¬ IsWhole nodes number
not_whole nodes number code there part whole =
    let is_code = some_same whole.code code (sym whole.there ∙ there) in
    true≢false (sym part ∙ ap fires_by_rounds (sym is_code) ∙ whole.whole)
