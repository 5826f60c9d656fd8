-- By the rates of the nodes alone, too, a planned graph after fission is a split graph.
use Rattle.std.proofs.Common.{◌≡◌, sym, ap, ◌∙◌, subst, ℕ, true}
use Rattle.strc_elab_dataflow.specs.Streams.{any_code}
use Rattle.strc_elab_graph.specs.Graphs.{NodeCode, Copy, input_ports, original}
use Rattle.strc_elab_graph.specs.Meaning.{node_meaning}
use Rattle.strc_elab_dataflow.specs.Split.{IsStateless, IsScatter, IsCopy, IsGather, AreParts}
use Rattle.strc_elab_dataflow.specs.Split.{IsSplitGraph}
use Rattle.strc_sched_laws.specs.Dealing.{share_of}
use Rattle.strc_sched_laws.proofs.Parts.{is_scatter, is_copy, is_gather}
use Rattle.strc_fiss.specs.Numbers.{is_dealt}
use Rattle.strc_fiss.specs.Splitting.{copied, code_at}
use Rattle.strc_stage_plan.proofs.Lawful.{code_alike, here}
use Rattle.strc_stage_plan.proofs.Orders.{ends_apart}
use Rattle.strc_stage_plan.proofs.Blank.{blank, blank_filter, blank_copy, blank_scatter}
use Rattle.strc_stage_plan.proofs.Blank.{blank_gather}
use Rattle.strc_stage_plan.proofs.Codes.{scatter_code, copy_code, gather_code, copy_rated}
use Rattle.strc_stage_plan.proofs.OwnRounds.{OwnRound, share, before, after, parts, startup}
use Rattle.strc_stage_plan.proofs.OwnRounds.{split}

module _ (run : OwnRound) where
  blank_parts : (v : ℕ) → is_dealt (share run v) ≡ true
      → AreParts (parts run) blank (before run) (after run) v (share_of (share run v))
  blank_parts v dealt =
      let real = (split run).split v dealt in
      let code : NodeCode = code_at run.old.nodes v in
      let alike = code_alike (any_code run.tree) run.old run.schedule run.round run.ways
      (startup run) run.is (ends_apart run.tree run.old run.program.flat) run.planned run.known v
      dealt in
      let rates = (copy_rated run.tree run.old run.schedule run.round run.ways run.program run.is
      run.planned run.known v dealt).0 in
      let same : original (copied code) ≡ (before run).code v =
      alike.copied_is
      ∙ sym (here (any_code run.tree) run.old run.schedule run.round run.ways (startup run) run.is
      (ends_apart run.tree run.old run.program.flat) run.planned run.known v dealt) in
      record {
        filter = subst (λ (c : NodeCode). IsStateless blank (share_of (share run v)) c) same
            (blank_filter (copied code) (share run v) rates
            (subst (λ (c : NodeCode). IsStateless node_meaning (share_of (share run v)) c)
            (sym same) real.filter));
        scatter = subst (λ (c : NodeCode). IsScatter blank (share_of (share run v)) c)
            (sym (scatter_code run.tree run.old run.schedule run.round run.ways run.program run.is
            run.planned run.known v dealt))
            (blank_scatter (share run v) (is_scatter (share run v)));
        copy = λ i less.
            subst (λ (c : NodeCode). IsCopy blank (share_of (share run v))
            ((before run).code v) c)
            (sym (copy_code run.tree run.old run.schedule run.round run.ways run.program run.is
            run.planned run.known v i dealt less))
            (subst (λ (c : NodeCode). IsCopy blank (share_of (share run v)) c
            (Copy (copied code) (share run v))) same
            (blank_copy (copied code) (share run v) rates
            (is_copy (copied code) (share run v)
            (ap input_ports alike.copied_is ∙ alike.ports.input))));
        gather = subst (λ (c : NodeCode). IsGather blank (share_of (share run v)) c)
            (sym (gather_code run.tree run.old run.schedule run.round run.ways run.program run.is
            run.planned run.known v dealt))
            (blank_gather (share run v) (is_gather (share run v)));
        to_copy = real.to_copy;
        from_copy = real.from_copy;
        no_loop = real.no_loop;
        some_ways = real.some_ways;
        some_firings = real.some_firings;
        narrow = real.narrow;
      }

  pub blank_split : IsSplitGraph (parts run) blank (before run) (after run)
  blank_split = record {
    apart = (split run).apart;
    kept = (split run).kept;
    inputs = (split run).inputs;
    split = blank_parts;
  }
