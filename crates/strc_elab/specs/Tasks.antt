-- What is to be elaborated, as contracts speak of it.
use Rattle.std.specs.Prelude.{◌≡◌, ℕ, ◌-◌, List, nat_eq, map, Result}
use Rattle.std.specs.Option.{option_map}
use Rattle.std.specs.Cmp.Lexicographic.{pointwise}
use Rattle.indexmap.specs.IndexMap.{get_by}
use Rattle.strc_parse_tree.specs.Tree.{Declaration}
use Rattle.strc_parse_tree.specs.View.{declaration_view, block_view}
use Rattle.strc_work_meaning.specs.Filters.{filter_parts}
use Rattle.strc_elab_statements.specs.Texts as texts
use Rattle.strc_elab.specs.Elaboration as spec
use Rattle.strc_elab.specs.Answering.{IsPlacedVerdict, IsPlaced}
use Rattle.strc_elab.specs.Sources.{text_source}
use Rattle.strc_elab.specs.Places.{Tracing, stream_place}
use Rattle.strc_elab_statements.specs.Names.{place_from}
use Rattle.strc_elab_stream.specs.View.{stream_view}
use Rattle.strc_elab.specs.declared.placed_error.PlacedError.{PlacedError}
use Rattle.strc_elab.specs.declared.task.Text.{Text}
use Rattle.strc_elab.specs.declared.task.Text.TheVariants as text
use Rattle.strc_elab.specs.declared.task.Task.{Task}
use Rattle.strc_elab.specs.declared.task.Elaborated.{Elaborated}

-- a text
abbrev pub text_view : Text → texts.Text
text_view (text.Filter name types members) =
    texts.FilterText (option_map (λ n. n.now) name)
    (filter_parts types.input types.output members.now)
text_view (text.Composite written kind block) =
    texts.CompositeText written kind (block_view block.now)
text_view text.Identity = texts.IdentityText
text_view (text.Reader between) = texts.ReaderText between.now
text_view (text.Writer between) = texts.WriterText between.now

-- the program of a task
abbrev pub program_of : Task → List Declaration
program_of task = map declaration_view task.declarations.now

-- where a task's text is
abbrev pub place_of : Task → texts.Place
place_of task = record { declaration = task.declaration; constants = task.constants.now }

-- the totals before a task
abbrev pub totals_of : Task → spec.Totals
totals_of task = record { turns = task.totals.turns; filters = task.totals.filters }

-- the table has the number of each declaration by its name
abbrev pub KnowsNames : Task → Type 0
KnowsNames task =
    (name : List ℕ) → get_by (λ k. pointwise nat_eq name k.now) task.numbers.now
    ≡ place_from 0 (map (λ d. d.name) task.declarations.now) name

-- what is made
abbrev pub elaborated_view : Elaborated → spec.Elaborated
elaborated_view elaborated = record {
  stream = stream_view elaborated.stream;
  types = elaborated.types;
  totals = record { turns = elaborated.totals.turns; filters = elaborated.totals.filters };
}

-- an answer is what the definitions make of the task, and a refusal where they refuse it
pub record IsTaskVerdict (task : Task) (result : Result Elaborated PlacedError) : Type 0 where
  pub verdict : IsPlacedVerdict elaborated_view (spec.stream_elaborated (program_of task)
      task.levels (place_of task) (text_view task.text) (totals_of task)) result
  pub place : IsPlaced (stream_place task.declarations.now task.levels (place_of task)
      (text_source task.text) (totals_of task)) result

-- a function value that elaborates texts with so many levels
pub record Elaborates (levels : ℕ) (pre : Task → Type 0)
    (post : Task → Result Elaborated PlacedError → Type 0) : Type 0 where
  pub callable : (task : Task) → task.levels ≡ levels → KnowsNames task → pre task
  pub elaborates : (task : Task) (result : Result Elaborated PlacedError) → task.levels ≡ levels
      → post task result → IsTaskVerdict task result

-- what the body of a task's text is in
abbrev pub setting_of : Task → spec.Setting
setting_of task = record {
  program = program_of task;
  place = place_of task;
  elaborate = spec.stream_elaborated (program_of task) (task.levels - 1);
}

-- with its declarations and their places
abbrev pub tracing_of : Task → Tracing
tracing_of task = record {
  setting = setting_of task;
  declarations = task.declarations.now;
  below = stream_place task.declarations.now (task.levels - 1);
}

-- what a body's rules stand on: the table knows the names, and the function value elaborates the
-- level below
unfoldable pub IsReady : Task → (pre : Task → Type 0)
    (post : Task → Result Elaborated PlacedError → Type 0) → Type 0
IsReady task pre post = KnowsNames task × Elaborates (task.levels - 1) pre post
