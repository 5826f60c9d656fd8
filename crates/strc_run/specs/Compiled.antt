-- How a text is answered with a plan and its stream.
use Rattle.std.specs.Prelude.{ℕ, List, Result, Ok, Err}
use Rattle.strc_elab_stream.specs.View.{stream_view}
use Rattle.strc_run_refusal.specs.declared.placed_refusal.PlacedRefusal.{PlacedRefusal}
use Rattle.strc_run.specs.Choices.{Choice}
use Rattle.strc_run.specs.Plans.{IsPlanOf}
use Rattle.strc_run.specs.Refuses.{IsTrueOf}
use Rattle.strc_run.specs.Streams.{IsStreamOf}
use Rattle.strc_run.specs.declared.compile.Compiled.{Compiled}

-- an answer is the text's plan and its main stream, or the refusal that holds
abbrev pub HasCompiled : List ℕ → Choice → Result Compiled PlacedRefusal → Type 0
HasCompiled text choice (Ok compiled) = IsPlanOf text choice compiled.plan
    × IsStreamOf text choice.main (stream_view compiled.stream)
HasCompiled text choice (Err placed) = IsTrueOf text choice placed.refusal
