-- What is made of a body that has run, as contracts speak of it.
use Rattle.std.specs.Prelude.{◌≡◌, ℕ, List, Some}
use Rattle.strc_parse_tree.specs.declared.tree.StreamType.{StreamType}
use Rattle.strc_elab_graph.specs.Graphs.{SplitterCode}
use Rattle.strc_elab_stream.specs.Instances as instances
use Rattle.strc_elab_stream.specs.Instances.{FeedbackLoop}
use Rattle.strc_elab_stream.specs.View.{stream_view}
use Rattle.strc_elab_stream.specs.declared.stream.Stream.{Stream}
use Rattle.strc_elab.specs.Elaboration as spec
use Rattle.strc_elab.specs.Answering.{progress_of, part_view}
use Rattle.strc_elab.specs.declared.progress.Progress.{Progress}

-- a stream of these types, with the totals after the body
abbrev pub elaborated_as : StreamType → instances.Stream → spec.Progress → spec.Elaborated
elaborated_as types stream progress = record {
  stream = stream;
  types = types;
  totals = record { turns = progress.store.traffic.turns; filters = progress.filters };
}

-- a declared stream of these types, with the totals that the body has counted already
abbrev pub elaborated_by : Progress → Stream → StreamType → spec.Elaborated
elaborated_by progress stream types = record {
  stream = stream_view stream;
  types = types;
  totals = record { turns = progress.store.turns; filters = progress.filters };
}

-- a feedback loop of the body and the loop that there are
pub record IsLoopOf (types : StreamType) (joiner : List ℕ) (splitter : SplitterCode)
    (progress : Progress) (elaborated : spec.Elaborated) : Type 0 where
  pub body : instances.Stream
  pub loop : instances.Stream
  pub is_body : part_view progress.body ≡ Some body
  pub is_loop : part_view progress.looped ≡ Some loop
  pub is_assembled : elaborated ≡ elaborated_as types
      (FeedbackLoop joiner body splitter loop progress.enqueued.items) (progress_of progress)
