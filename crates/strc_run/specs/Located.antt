-- Where a text is refused: at the statement that its program's elaboration was in, which is where
-- the tokens of the text spell it; or in its stream, and in its flat graph.
use Rattle.std.specs.Prelude.{◌≡◌, ◌≢◌, ℕ, is_some, true, List, Option, Some, None, IfSome}
use Rattle.std.specs.Prelude.{Result, Ok, Err}
use Rattle.std.specs.Option.{option_map}
use Rattle.strc_lex_names.specs.declared.place.Span.{Span}
use Rattle.strc_lex.specs.declared.token.Token.{Token}
use Rattle.strc_parse_tree.specs.View.{program_view}
use Rattle.strc_parse_tree.specs.declared.tree.Program.{Program}
use Rattle.strc_parse_grammar.specs.Grammar.{Parses, kinds}
use Rattle.strc_parse.specs.Placed.{IsProgramPlaced}
use Rattle.strc_parse.specs.Texts.{HasTokens}
use Rattle.strc_elab_statements.specs.declared.error.ElabError.{ElabError}
use Rattle.strc_elab.specs.Elaboration.{elaborated}
use Rattle.strc_elab.specs.Places.{program_place}
use Rattle.strc_elab_graph.specs.NodeView.{graph_view}
use Rattle.strc_elab_stream.specs.Flattening.{IsFlat}
use Rattle.strc_elab_stream.specs.Instances.{Stream}
use Rattle.strc_elab_stream.specs.View.{stream_view}
use Rattle.strc_elab_stream.specs.declared.stream.Stream as declared
use Rattle.strc_elab_statements.specs.Answers.{IsRefusal}
use Rattle.strc_run_refusal.specs.Placing.{unplaced}
use Rattle.strc_run_refusal.specs.Reports.{refusal_of}
use Rattle.strc_stage_plan.specs.Plans.{PlanParts}
use Rattle.strc_run_refusal.specs.declared.refusal.Refusal.{Refusal}
use Rattle.strc_run_refusal.specs.declared.refusal.Refusal.TheVariants as refusal
use Rattle.strc_run_refusal.specs.declared.placed_refusal.PlacedRefusal.{PlacedRefusal}
use Rattle.strc_run.specs.Accepts.{CanRun}
use Rattle.strc_run.specs.Choices.{Choice}
use Rattle.strc_run.specs.Plans.{HasPlan}
use Rattle.strc_run.specs.Refuses.{IsReadRefusal}

-- a program that was read from a text, each of whose statements is where the text spells it
pub record IsRead (text : List ℕ) (program : Program) : Type 0 where
  pub tokens : List Token
  pub has_tokens : HasTokens text tokens
  pub parses : Parses (kinds tokens) (program_view program)
  pub placed : IsProgramPlaced tokens program

-- an answer is the stream that was elaborated, or the refusal of the elaboration
abbrev pub IsMainStream : Result Stream ElabError → Result declared.Stream PlacedRefusal → Type 0
IsMainStream outcome (Ok stream) = outcome ≡ Ok (stream_view stream)
IsMainStream outcome (Err placed) =
    (broken : ElabError) × IsRefusal outcome broken × (placed.refusal ≡ refusal_of broken)

-- of a refusal of the elaboration its statement is known
pub record KnowsStatement (place : Option Span) (placed : PlacedRefusal) : Type 0 where
  pub statement : placed.statement ≡ place
  pub stream : placed.stream ≡ None
  pub graph : placed.graph ≡ None

-- of a refusal that comes after it the stream, and its flat graph, if it can be run
pub record KnowsStream (main : Stream) (placed : PlacedRefusal) : Type 0 where
  pub statement : placed.statement ≡ None
  pub stream : option_map stream_view placed.stream ≡ Some main
  pub graph : IfSome placed.graph (λ flat. IsFlat main (graph_view flat))
  pub whole : CanRun main → is_some placed.graph ≡ true

-- what is known of a refusal, by how the elaboration ended, and at which statement
abbrev pub Knows : Result Stream ElabError → (place : Option Span) → PlacedRefusal → Type 0
Knows (Ok stream) place placed = KnowsStream stream placed
Knows (Err broken) place placed = KnowsStatement place placed

-- what is known of a program's refusal; nothing is said of out of memory
abbrev pub IsKnownOf : Program → (main : Option (List ℕ)) → PlacedRefusal → Type 0
IsKnownOf program main placed = placed.refusal ≢ refusal.NoMemory
    → Knows (elaborated (program_view program) main)
    (program_place program.declarations.items main) placed

-- what is known of a text's refusal: nothing of a text that can't be read
pub data IsLocated (text : List ℕ) (choice : Choice) (placed : PlacedRefusal) : Type 0 where
  Unread : IsReadRefusal text placed.refusal → placed ≡ unplaced placed.refusal
      → IsLocated text choice placed
  InProgram : (program : Program) → IsRead text program → IsKnownOf program choice.main placed
      → IsLocated text choice placed

-- an answer's refusal, without where it is
abbrev pub refusal_in : {A : Type 0} → Result A PlacedRefusal → Result A Refusal
refusal_in (Ok plan) = Ok plan
refusal_in (Err placed) = Err placed.refusal

-- an answer is the text's plan, or the refusal that holds
abbrev pub HasPlacedPlan : List ℕ → Choice → Result PlanParts PlacedRefusal → Type 0
HasPlacedPlan text choice answer = HasPlan text choice (refusal_in answer)
