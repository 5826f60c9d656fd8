-- The functions that a text of C spells are those of its filters' nodes.
use Rattle.std.proofs.Common.{◌≡◌, ℕ, zero, suc, ◌<◌, ◌≤◌, List, length, Option, Some, sym, subst}
use Rattle.std.proofs.Common.{arith, ◌⊎◌, inl, inr, Ok}
use Rattle.std.proofs.lemmas.Bool.{cases_lt}
use Rattle.std.proofs.lemmas.Option.{slice_get_within}
use Rattle.std.specs.Prelude.{slice_get, IfSome, IfOk}
use Rattle.strc_work_meaning.specs.Filters.{filter_of, sized_fields}
use Rattle.strc_work_meaning.specs.Scoping.{total}
use Rattle.strc_work_meaning.specs.Closed.{IsClosedFilter}
use Rattle.strc_work_meaning.specs.Firing.{started}
use Rattle.strc_rate.proofs.Started.{fields_fit}
use Rattle.strc_elab_graph.specs.Graphs.{node_name}
use Rattle.strc_elab_graph.specs.NodeView.{node_view}
use Rattle.strc_elab_graph.specs.declared.graph.Node.{Node}
use Rattle.strc_elab_graph.specs.declared.graph.Node.TheVariants as nodes
use Rattle.strc_elab_graph.specs.declared.instance.Instance.{Instance}
use Rattle.strc_emit_moves.specs.declared.places.Network.{Network}
use Rattle.strc_emit_program.specs.Programs.{AreTexts, IsNodeText, IsNumbered}
use Rattle.strc_emit_runs.specs.Running.{Program}
use Rattle.strc_emit_runs.specs.Works.{HasFilter}
use Rattle.strc_emit_answers.specs.Spelled.{SpellsNode, SpellsNodes, TextsSpell}

module _ (program : Program) (network : Network) where
  abbrev HasFunctions : ℕ → Instance → Type 0
  HasFunctions number instance = (has : HasFilter program number instance.code)
      × (started (filter_of instance.code) ≡ Ok has.values)

  abbrev Shows : ℕ → (text : List ℕ) → Instance → Option Node → Type 0
  Shows number text instance code =
      (is : IfSome code (λ it. IsNodeText network number (node_name (node_view it)) it text))
      → SpellsNode program network number code text is → HasFunctions number instance

  filter_shows : (number : ℕ) (text : List ℕ) (instance : Instance)
      → IsClosedFilter (filter_of instance.code)
      → Shows number text instance (Some (nodes.Filter instance))
  filter_shows number text instance closed is spells = (
    record {
      values = is.1.1.0;
      text = is.1.0;
      written = is.1.1.2;
      linked = spells.linked;
      known = record {
        closed = closed;
        calls = spells.calls;
        small = spells.small;
        count = subst (λ result. IfOk result (λ values. length values
            ≡ total (sized_fields (filter_of instance.code).members))) is.1.1.1
            (fields_fit (filter_of instance.code) closed);
      };
      functions = spells.functions;
    },
    is.1.1.1,
  )

  node_shows : (number : ℕ) (text : List ℕ) (instance : Instance)
      → slice_get network.nodes.now number ≡ Some (nodes.Filter instance)
      → IsClosedFilter (filter_of instance.code)
      → Shows number text instance (slice_get network.nodes.now number)
  node_shows number text instance at closed =
      subst (Shows number text instance) (sym at) (filter_shows number text instance closed)

  below_show : (count : ℕ) (text : List ℕ) (are : AreTexts (IsNumbered network) count text)
      → SpellsNodes program network count text are
      → (number : ℕ) (instance : Instance) → number < count
      → slice_get network.nodes.now number ≡ Some (nodes.Filter instance)
      → IsClosedFilter (filter_of instance.code) → HasFunctions number instance
  below_show zero text are spells number instance less at closed = absurd (omega (arith, less))
  below_show (suc count) text are spells number instance less at closed =
      by (λ before. below_show count are.0 are.2 spells.0 number instance before at closed)
      (cases_lt number count)
    where
      by : (number < count → HasFunctions number instance)
          → (number < count) ⊎ (count ≤ number) → HasFunctions number instance
      by earlier (inl before) = earlier before
      by earlier (inr after) =
          let last : count ≡ number = omega (arith, less, after) in
          subst (λ k. HasFunctions k instance) last
          (node_shows count are.1 instance
          (subst (λ k. slice_get network.nodes.now k ≡ Some (nodes.Filter instance)) (sym last) at)
          closed are.3 spells.1)

pub texts_spell : TextsSpell
texts_spell program text are spells closed number instance at =
    below_show program program.network (length program.network.nodes.now) text are spells number
    instance (slice_get_within program.network.nodes.now number (nodes.Filter instance) at) at
    (closed number instance at)
