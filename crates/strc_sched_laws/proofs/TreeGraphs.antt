-- A program's graph of nodes and channels is that of its tree.
use Rattle.std.proofs.Common.{◌≡◌, sym, ap, subst, ℕ, ◌<◌, get_or, Some, slice_get, inl, inr}
use Rattle.std.proofs.Common.{arith}
use Rattle.std.proofs.lemmas.Bool.{cases_lt, cases_eq}
use Rattle.std.proofs.lemmas.Option.{slice_get_within, get_or_from_slice_get}
use Rattle.strc_elab_dataflow.specs.Flat.{Origin.Port, Source}
use Rattle.strc_elab_dataflow.specs.Streams.{Stream, flat}
use Rattle.strc_elab_graph.specs.declared.graph.Port.{Port as End}
use Rattle.strc_elab_graph.specs.Graphs.{NodeCode, Channel, Graph, source_of}
use Rattle.strc_elab_graph.specs.FlatGraphs.{IsBefore, IsProgram}
use Rattle.strc_sched_laws.specs.ByChannels.{IsByChannels}
use Rattle.strc_sched_laws.proofs.Apart.{no_own_source}
use Rattle.strc_sched_laws.proofs.Codes.{code_is}
use Rattle.strc_sched_laws.proofs.Supplies.{element}

module _ (tree : Stream NodeCode) (graph : Graph) (program : IsProgram tree graph) where
  abbrev IsAt : ℕ → Channel → Type 0
  IsAt number channel = slice_get graph.channels number ≡ Some channel

  -- no two channels begin at one port

  in_order : (first second : ℕ) (a b : Channel) → IsAt first a → IsAt second b → first < second
      → IsBefore a b
  in_order first second a b is_a is_b less =
      subst (λ (own : Channel). IsBefore own b)
      (get_or_from_slice_get graph.channels first a a is_a)
      (subst (IsBefore (get_or graph.channels first a))
      (get_or_from_slice_get graph.channels second b a is_b)
      (program.flat.ordered first second a less
      (slice_get_within graph.channels second b is_b)))

  not_before : (a b : Channel) → a.source ≡ b.source → IsBefore a b → ⊥
  not_before a b same before =
      let node = ap (λ (end : End). end.node) same in
      let port = ap (λ (end : End). end.port) same in
      elim before [
        | inl less ↦ absurd (omega (arith, less, node))
        | inr (here, less) ↦ absurd (omega (arith, less, port))
      ]

  one_source : (first second : ℕ) (a b : Channel) → IsAt first a → IsAt second b
      → a.source ≡ b.source → first ≡ second
  one_source first second a b is_a is_b same = elim (cases_eq first second) [
    | inl e ↦ e
    | inr differs ↦ elim (cases_lt first second) [
      | inl less ↦ absurd (not_before a b same (in_order first second a b is_a is_b less))
      | inr past ↦ absurd (not_before b a (sym same)
          (in_order second first b a is_b is_a (omega (arith, past, differs))))
    ]
  ]

  pub source_is : (number : ℕ) (channel : Channel) → IsAt number channel
      → (flat tree).source channel.target.node channel.target.port ≡ source_of channel
  source_is number channel there =
      element (λ (own : Channel). (flat tree).source own.target.node own.target.port
      ≡ source_of own) graph.channels number channel program.flat.channels there

  origin_is : (number : ℕ) (channel : Channel) → IsAt number channel
      → ((flat tree).source channel.target.node channel.target.port).origin
      ≡ Port channel.source.node channel.source.port
  origin_is number channel there =
      ap (λ (source : Source). source.origin) (source_is number channel there)

  apart : (number : ℕ) (channel : Channel) → IsAt number channel
      → channel.source.node ≡ channel.target.node → ⊥
  apart number channel there =
      no_own_source tree channel.target.node channel.target.port channel.source.node
      channel.source.port (origin_is number channel there)

  pub by_channels : IsByChannels (flat tree) graph
  by_channels = record {
    codes = code_is tree graph program.flat;
    origins = origin_is;
    inputs = λ node text there. ap (λ (source : Source). source.origin)
        (program.inputs node text there);
    joined = program.flat.joined;
    fed = program.fed;
    one_source = one_source;
    apart = apart;
  }
