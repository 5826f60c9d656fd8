-- Streams all of whose parts have nodes: each pipeline and each split-join has a child.
use Rattle.strc_elab_stream.specs.Instances.{Stream, Streams, Filter, Identity, FileReader}
use Rattle.strc_elab_stream.specs.Instances.{FileWriter}
use Rattle.strc_elab_stream.specs.Instances.{Pipeline, SplitJoin, FeedbackLoop, Done, More}
use Rattle.strc_elab_stream.specs.Types.{HasFirst}

abbrev mutual
  -- a stream and its parts have nodes
  pub HasNodes : Stream → Type 0
  HasNodes (Filter name filter) = Unit {0}
  HasNodes Identity = Unit {0}
  HasNodes (FileReader text) = Unit {0}
  HasNodes (FileWriter text) = Unit {0}
  HasNodes (Pipeline children) = HasFirst children × HaveNodes children
  HasNodes (SplitJoin splitter children joiner) = HasFirst children × HaveNodes children
  HasNodes (FeedbackLoop joiner body splitter loop enqueued) = HasNodes body × HasNodes loop

  -- each of these streams does
  pub HaveNodes : Streams → Type 0
  HaveNodes Done = Unit {0}
  HaveNodes (More first rest) = HasNodes first × HaveNodes rest
