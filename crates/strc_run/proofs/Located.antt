-- What is known of a refusal.
use Rattle.std.proofs.Common.{◌≡◌, ◌≢◌, refl, sym, ap, ◌∙◌, subst, ℕ, List, Option, Some}
use Rattle.std.proofs.Common.{IfSome, Result, Ok, Err, IfErr}
use Rattle.std.specs.Prelude.{is_some}
use Rattle.std.specs.Option.{option_map}
use Rattle.std.specs.Result.{IsErrAnd}
use Rattle.strc_lex_names.specs.declared.place.Span.{Span}
use Rattle.strc_parse_tree.specs.declared.tree.Program.{Program}
use Rattle.strc_work_rules.specs.declared.site.Site.{Site}
use Rattle.strc_elab_statements.specs.Answers.{IsRefusal}
use Rattle.strc_elab_statements.specs.declared.error.ElabError.{ElabError}
use Rattle.strc_elab_statements.specs.declared.error.ElabErrorKind.TheVariants as error
use Rattle.strc_elab.specs.Answering.{IsPlaceOf}
use Rattle.strc_elab_graph.specs.NodeView.{GraphParts, graph_view}
use Rattle.strc_elab_flattening.specs.Verdicts.{IsRefused}
use Rattle.strc_elab_stream.specs.Connections.{IsConnected}
use Rattle.strc_elab_stream.specs.Flattening.{codes_of, meaning_of, IsFlat}
use Rattle.strc_elab_stream.specs.Instances.{Stream}
use Rattle.strc_elab_stream.specs.View.{stream_view}
use Rattle.strc_elab_stream.specs.declared.stream.Stream as declared
use Rattle.strc_run_refusal.specs.Placing.{placed_at, unplaced}
use Rattle.strc_run_refusal.specs.Reports.{refusal_of}
use Rattle.strc_run_refusal.specs.declared.placed_refusal.PlacedRefusal.{PlacedRefusal}
use Rattle.strc_run_refusal.specs.declared.refusal.Refusal.{Refusal}
use Rattle.strc_run_refusal.specs.declared.refusal.Refusal.TheVariants as refusal
use Rattle.strc_run.specs.Accepts.{CanRun}
use Rattle.strc_run.specs.Choices.{Choice}
use Rattle.strc_run.specs.Located.{IsKnownOf, IsLocated, IsRead, Knows}
use Rattle.strc_run.proofs.Exclusion.{runs_or_not}

-- equal refusals break the same rule
pub same_refusal : {one other : PlacedRefusal} → one ≡ other → one.refusal ≡ other.refusal
same_refusal same = ap (λ (p : PlacedRefusal). p.refusal) same

-- a stream whose flat graph is refused can't be run
cannot_run : (stream : Stream) (broken : ElabError)
    → IsRefused (codes_of stream) (IsConnected (meaning_of stream)) broken
    → refusal_of broken ≢ refusal.NoMemory → CanRun stream → ⊥
cannot_run stream error.NoMemory refused some runs = some refl
cannot_run stream error.NodeLimit refused some runs =
    runs_or_not stream refusal.NodeLimit runs refused
cannot_run stream error.TwoInputs refused some runs =
    runs_or_not stream refusal.TwoInputs runs refused
cannot_run stream (error.TapeTwice node) refused some runs =
    runs_or_not stream (refusal.TapeTwice node) runs refused
cannot_run stream error.Disconnected refused some runs =
    runs_or_not stream refusal.Disconnected runs refused
cannot_run stream broken refused some runs = refused

module _ (outcome : Result Stream ElabError) (place : Option Span) (placed : PlacedRefusal) where
  -- of a refusal of the elaboration
  pub in_elaboration : (broken : ElabError) (site : Site) (found : Option Span)
      → placed ≡ record (placed_at (refusal_of broken) site) { statement = found }
      → IsRefusal outcome broken → IsPlaceOf broken place found
      → placed.refusal ≢ refusal.NoMemory → Knows outcome place placed
  in_elaboration error.NoMemory site found same e is some =
      absurd (some (same_refusal same))
  in_elaboration broken site found same e is some =
      subst (λ (o : Result Stream ElabError). Knows o place placed) (sym e) (record {
        statement = ap (λ (p : PlacedRefusal). p.statement) same ∙ is;
        stream = ap (λ (p : PlacedRefusal). p.stream) same;
        graph = ap (λ (p : PlacedRefusal). p.graph) same;
      })

  module _ (stream : declared.Stream) (elaborates : outcome ≡ Ok (stream_view stream)) where
    -- of a refusal of its flat graph
    pub in_flattening : (broken : ElabError) (site : Site)
        → placed ≡ record (placed_at (refusal_of broken) site) { stream = Some stream }
        → IsRefused (codes_of (stream_view stream)) (IsConnected (meaning_of (stream_view stream)))
        broken → placed.refusal ≢ refusal.NoMemory → Knows outcome place placed
    in_flattening broken site same refused some =
        subst (λ (o : Result Stream ElabError). Knows o place placed) (sym elaborates) (record {
          statement = ap (λ (p : PlacedRefusal). p.statement) same;
          stream = ap (λ (p : PlacedRefusal). option_map stream_view p.stream) same;
          graph = subst (λ (p : PlacedRefusal). IfSome p.graph
              (λ graph. IsFlat (stream_view stream) (graph_view graph))) (sym same) tt;
          whole = λ runs. absurd (cannot_run (stream_view stream) broken refused
              (λ is. some (same_refusal same ∙ is)) runs);
        })

    -- of a refusal of the graph
    pub in_graph : (refused : Refusal) (graph : GraphParts)
        → placed ≡ record (unplaced refused) { stream = Some stream; graph = Some graph }
        → IsFlat (stream_view stream) (graph_view graph) → Knows outcome place placed
    in_graph refused graph same flat =
        subst (λ (o : Result Stream ElabError). Knows o place placed) (sym elaborates) (record {
          statement = ap (λ (p : PlacedRefusal). p.statement) same;
          stream = ap (λ (p : PlacedRefusal). option_map stream_view p.stream) same;
          graph = subst (λ (p : PlacedRefusal). IfSome p.graph
              (λ graph. IsFlat (stream_view stream) (graph_view graph))) (sym same) flat;
          whole = λ runs. ap (λ (p : PlacedRefusal). is_some p.graph) same;
        })

-- what holds of a refusal holds of it where it is passed on
pub passed_on : (P : PlacedRefusal → Type 0) {A : Type 0} (result : Result A PlacedRefusal)
    (placed : PlacedRefusal) → IsErrAnd result (λ found. found ≡ placed) → P placed
    → IfErr result P
passed_on P (Ok plan) placed is holds = absurd is
passed_on P (Err found) placed is holds = subst P (sym is) holds

-- what is known of a program's refusal is known of that of its text
pub in_program : (text : List ℕ) (choice : Choice) (program : Program) → IsRead text program
    → {A : Type 0} (result : Result A PlacedRefusal)
    → IfErr result (IsKnownOf program choice.main) → IfErr result (IsLocated text choice)
in_program text choice program read (Ok plan) known = tt
in_program text choice program read (Err placed) known =
    IsLocated.InProgram program read known
