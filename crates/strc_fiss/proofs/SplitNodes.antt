-- A node that is split is there, and has the rates by which its firings are dealt.
use Rattle.std.proofs.Common.{◌≡◌, sym, ap, ◌∙◌, subst, ℕ, ◌*◌, ◌<◌, arith, true, false, not, ◌&&◌}
use Rattle.std.proofs.Common.{List, [], length, slice_get, Option, Some, inl, inr}
use Rattle.std.proofs.lemmas.Bool.{true≢false, and_parts, not-true}
use Rattle.std.proofs.lemmas.Option.{slice_get_cases, slice_get-get_or}
use Rattle.strc_balance.specs.Balance.{count_at}
use Rattle.strc_elab_graph.specs.Graphs.{Graph, NodeCode, Joiner}
use Rattle.strc_fuse.specs.Units.{is_outside}
use Rattle.strc_fiss.specs.Numbers.{is_dealt}
use Rattle.strc_fiss.specs.Splitting.{code_at}
use Rattle.strc_fiss.specs.Ways.{is_alike, feeds_itself, dealt, ways_of, fission_of}
use Rattle.strc_fiss.proofs.NodeRates.{HasItsRates, alike_rates}
use Rattle.strc_fiss.proofs.Planned.{is_possible, some_count, all_dealt}

module _ (graph : Graph) (round : List ℕ) (ways v : ℕ)
    (split : is_dealt (fission_of graph round ways v) ≡ true) where
  pub alike : is_alike (slice_get graph.nodes v) ≡ true
  alike = (and_parts (is_alike (slice_get graph.nodes v))
      (is_outside (slice_get graph.outer_loops v) && not (feeds_itself graph.channels v))
      (is_possible graph round ways v split)).0

  pub outside : is_outside (slice_get graph.outer_loops v) ≡ true
  outside = (and_parts (is_outside (slice_get graph.outer_loops v))
      (not (feeds_itself graph.channels v))
      (and_parts (is_alike (slice_get graph.nodes v))
      (is_outside (slice_get graph.outer_loops v) && not (feeds_itself graph.channels v))
      (is_possible graph round ways v split)).1).0

  pub apart : feeds_itself graph.channels v ≡ false
  apart = not-true (feeds_itself graph.channels v)
      (and_parts (is_outside (slice_get graph.outer_loops v))
      (not (feeds_itself graph.channels v))
      (and_parts (is_alike (slice_get graph.nodes v))
      (is_outside (slice_get graph.outer_loops v) && not (feeds_itself graph.channels v))
      (is_possible graph round ways v split)).1).1

  pub there : v < length graph.nodes
  there = elim (slice_get_cases graph.nodes v).1 [
    | inl inside ↦ inside.1
    | inr past ↦ absurd (true≢false (sym alike ∙ ap is_alike past.1))
  ]

  pub its : HasItsRates (code_at graph.nodes v) (fission_of graph round ways v)
  its =
      let code : NodeCode = code_at graph.nodes v in
      let found : slice_get graph.nodes v ≡ Some code =
      slice_get-get_or graph.nodes v (Joiner []) there in
      subst (HasItsRates code)
      (sym (ap (λ (o : Option NodeCode). dealt o (count_at round v)
      (ways_of graph round ways v)) found))
      (alike_rates code (count_at round v) (ways_of graph round ways v)
      (subst (λ (o : Option NodeCode). is_alike o ≡ true) found alike))

  pub some : 0 < (fission_of graph round ways v).ways * (fission_of graph round ways v).firings
  some = omega (
    arith,
    all_dealt graph round ways v split,
    some_count graph round ways v split,
  )
