-- Streams in one another, level by level.
use Rattle.std.proofs.Common.{◌≡◌, ℕ, zero, suc, ◌-◌, List, [], map, Result, refl, ap, ◌∙◌}
use Rattle.std.proofs.Common.{subst, arith}
use Rattle.strc_parse_tree.specs.View.{declaration_view}
use Rattle.strc_parse_tree.specs.declared.tree.Decl.{Decl}
use Rattle.strc_parse_tree.specs.Tree.{Declaration}
use Rattle.strc_elab.specs.Elaboration.{Totals, text_elaborated, stream_elaborated, main_elaborated}
use Rattle.strc_elab.specs.Elaboration.{level_limit}
use Rattle.strc_elab.specs.Places.{stream_place, text_place, main_place}
use Rattle.strc_elab.specs.Answering.{IsPlacedVerdict, IsPlaced}
use Rattle.strc_elab.specs.Sources.{Source, numbered_source, text_source}
use Rattle.strc_elab.specs.Tasks.{IsTaskVerdict, program_of, place_of, text_view, elaborated_view}
use Rattle.strc_elab.specs.declared.placed_error.PlacedError.{PlacedError}
use Rattle.strc_elab.specs.declared.task.Elaborated.{Elaborated}
use Rattle.strc_elab.specs.declared.task.Task.{Task}
use Rattle.strc_elab_statements.specs.Texts.{Constants, Place, Text, text_of}

-- a stream that may have a level is what its text makes of the streams of the levels below
pub stream_elaborated-level : (program : List Declaration) (levels : ℕ) (place : Place)
    (text : Text) (totals : Totals) → (levels ≡ 0 → ⊥)
    → stream_elaborated program levels place text totals
    ≡ text_elaborated (record {
      program = program;
      place = place;
      elaborate =
          stream_elaborated program (levels - 1);
    }) text totals
stream_elaborated-level program zero place text totals some = absurd (some refl)
stream_elaborated-level program (suc levels) place text totals some =
    let below : levels ≡ suc levels - 1 = omega arith in
    ap (λ n. text_elaborated (record {
      program = program;
      place = place;
      elaborate =
          stream_elaborated program n;
    }) text totals) below

-- and it is refused where its text is
pub stream_place-level : (declarations : List Decl) (levels : ℕ) (place : Place) (source : Source)
    (totals : Totals) → (levels ≡ 0 → ⊥)
    → stream_place declarations levels place source totals
    ≡ text_place (record {
      setting =
          record {
            program = map declaration_view declarations;
            place = place;
            elaborate = stream_elaborated (map declaration_view declarations) (levels - 1);
          };
      declarations = declarations;
      below = stream_place declarations (levels - 1);
    }) source totals
stream_place-level declarations zero place source totals some = absurd (some refl)
stream_place-level declarations (suc levels) place source totals some =
    let below : levels ≡ suc levels - 1 = omega arith in
    ap (λ n. text_place (record {
      setting =
          record {
            program = map declaration_view declarations;
            place = place;
            elaborate = stream_elaborated (map declaration_view declarations) n;
          };
      declarations = declarations;
      below = stream_place declarations n;
    }) source totals) below

-- a task's answer, where its levels and totals are these
pub record IsJudged (task : Task) (levels turns filters : ℕ)
    (answer : Result Elaborated PlacedError) : Type 0 where
  pub verdict : IsPlacedVerdict elaborated_view (stream_elaborated (program_of task) levels
      (place_of task) (text_view task.text) (record { turns = turns; filters = filters })) answer
  pub place : IsPlaced (stream_place task.declarations.now levels (place_of task)
      (text_source task.text) (record { turns = turns; filters = filters })) answer

pub judged_at : (task : Task) (levels turns filters : ℕ) (answer : Result Elaborated PlacedError)
    → task.levels ≡ levels → task.totals.turns ≡ turns → task.totals.filters ≡ filters
    → IsTaskVerdict task answer → IsJudged task levels turns filters answer
judged_at task levels turns filters answer level turned counted h =
    subst (λ f. IsJudged task levels turns f answer) counted
    (subst (λ t. IsJudged task levels t task.totals.filters answer) turned
    (subst (λ n. IsJudged task n task.totals.turns task.totals.filters answer) level
    (record { verdict = h.verdict; place = h.place })))

-- a stream without a level isn't made
pub stream_elaborated-none : (program : List Declaration) (levels : ℕ) (place : Place) (text : Text)
    (totals : Totals) → levels ≡ 0 → stream_elaborated program levels place text totals
    ≡ stream_elaborated program 0 place text totals
stream_elaborated-none program levels place text totals none =
    ap (λ n. stream_elaborated program n place text totals) none

level_limit_is : 64 ≡ level_limit
unfolding level_limit
level_limit_is = refl

-- the main stream is at the first level, and sees no constants
pub main_elaborated-task : (program : List Declaration) (found : ℕ × Declaration)
    (constants : Constants) (text : Text) → constants ≡ []
    → text ≡ text_of found.1.name found.1.stream
    → stream_elaborated program 64 (record { declaration = found.0; constants = constants }) text
    (record { turns = 0; filters = 0 }) ≡ main_elaborated program found
main_elaborated-task program found constants text none is =
    ap (λ n. stream_elaborated program n (record { declaration = found.0; constants = constants })
    text (record { turns = 0; filters = 0 })) level_limit_is
    ∙ ap (λ c. stream_elaborated program level_limit
    (record { declaration = found.0; constants = c }) text (record { turns = 0; filters = 0 }))
    none
    ∙ ap (λ t. stream_elaborated program level_limit
    (record { declaration = found.0; constants = [] }) t (record { turns = 0; filters = 0 })) is

-- the main stream is refused where its text is
pub main_place-task : (declarations : List Decl) (number : ℕ) (constants : Constants)
    (source : Source) → constants ≡ [] → source ≡ numbered_source declarations number
    → stream_place declarations 64 (record { declaration = number; constants = constants }) source
    (record { turns = 0; filters = 0 }) ≡ main_place declarations number
main_place-task declarations number constants source none is =
    ap (λ n. stream_place declarations n (record { declaration = number; constants = constants })
    source (record { turns = 0; filters = 0 })) level_limit_is
    ∙ ap (λ c. stream_place declarations level_limit
    (record { declaration = number; constants = c }) source (record { turns = 0; filters = 0 }))
    none
    ∙ ap (λ s. stream_place declarations level_limit
    (record { declaration = number; constants = [] }) s (record { turns = 0; filters = 0 })) is
