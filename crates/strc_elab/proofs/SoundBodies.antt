-- A body's stream statements keep what it has given so far sound.
use Rattle.std.proofs.Common.{◌≡◌, true, [], Some, IfOk}
use Rattle.std.proofs.Common.{refl, ◌∙◌, subst, unwrap_or}
use Rattle.strc_parse_tree.specs.Tree as tree
use Rattle.strc_parse_tree.specs.declared.tree.ItemType.{ItemType}
use Rattle.strc_parse_tree.specs.declared.tree.ItemType.TheVariants as item
use Rattle.strc_parse_tree.specs.declared.tree.StreamType.{StreamType}
use Rattle.strc_parse_tree.specs.declared.tree.CompositeKind.{CompositeKind}
use Rattle.strc_parse_tree.specs.declared.tree.Role.{Role}
use Rattle.strc_parse_tree.specs.declared.tree.Role.TheVariants as role
use Rattle.strc_work_meaning.specs.Firing.{Store}
use Rattle.strc_work_meaning.specs.Typing.{TypedNames}
use Rattle.strc_work_meaning.specs.declared.types.ValueType.TheVariants as value
use Rattle.strc_elab_stream.specs.Instances.{Stream}
use Rattle.strc_elab_stream.specs.Types.{is_int}
use Rattle.strc_elab_statements.specs.declared.error.ElabErrorKind.TheVariants as refused
use Rattle.strc_elab_statements.specs.Statements.{eval_checked}
use Rattle.strc_elab_statements.specs.Texts.{Place, Text}
use Rattle.strc_elab.specs.Elaboration.{Totals, Elaborated, Setting, Progress, child_found}
use Rattle.strc_elab.specs.Elaboration.{child_run}
use Rattle.strc_elab.specs.Elaboration.{child_added, may_add, may_have, may_split}
use Rattle.strc_elab_statements.specs.Sides.{passes_items}
use Rattle.strc_elab.specs.Elaboration.{may_join, is_loop, splitter_evaluated, values_evaluated}
use Rattle.strc_elab.specs.Elaboration.{composed}
use Rattle.strc_elab.proofs.Keeping.{Keeps}
use Rattle.strc_elab.proofs.SoundAssembly.{IsPart, IsSound, IsSoundlyElaborated}
use Rattle.strc_elab.proofs.SoundRows.{IsSoundStream, one_more_sound, one_more_in_a_row}
use Rattle.strc_elab.proofs.Steps.{any_holds, kept_holds, both_true}
use Rattle.strc_lex_names.proofs.Results.{then_ok}

-- what elaborates the streams one level below makes sound ones
abbrev pub MakesSound : Setting → Type 0
MakesSound setting = (place : Place) (text : Text) (totals : Totals)
    → IfOk (setting.elaborate place text totals) IsSoundlyElaborated

int_is : (side : ItemType) → is_int side ≡ true → side ≡ item.Int
int_is item.Int e = refl
int_is item.Void e = absurd (cc)

part_sound : (stream : Stream) (types : StreamType) → IsSoundStream stream types
    → passes_items types ≡ true → IsPart (Some stream)
part_sound stream types sound e =
    let both = both_true (is_int types.input) (is_int types.output) e in (
      (sound.input ∙ int_is types.input both.0, sound.output ∙ int_is types.output both.1),
      sound.typed,
      sound.instances,
    )

added_sound : (kind : CompositeKind) (setting : Setting) (purpose : Role) (progress : Progress)
    (store : Store) (elaborated : Elaborated) → IsSound kind progress
    → IsSoundlyElaborated elaborated
    → IfOk (child_added setting purpose progress store elaborated) (IsSound kind)
added_sound kind setting role.Add progress store elaborated sound next =
    kept_holds (may_add progress.kind progress.types elaborated.types)
    (refused.TypeMismatch setting.place.declaration) _ (IsSound kind) (λ e. record {
      is_kind = sound.is_kind;
      children = one_more_sound progress.children progress.types elaborated.stream elaborated.types
          sound.children next;
      row = λ is. one_more_in_a_row progress.types elaborated.types (sound.row is)
          (subst (λ k. may_add k progress.types elaborated.types ≡ true) (sound.is_kind ∙ is) e);
      body = sound.body;
      loop = sound.loop;
    })
added_sound kind setting role.Body progress store elaborated sound next =
    kept_holds (passes_items elaborated.types)
    (refused.TypeMismatch setting.place.declaration) _ (IsSound kind) (λ e. record {
      is_kind = sound.is_kind;
      children = sound.children;
      row = sound.row;
      body = part_sound elaborated.stream elaborated.types next e;
      loop = sound.loop;
    })
added_sound kind setting role.Loop progress store elaborated sound next =
    kept_holds (passes_items elaborated.types)
    (refused.TypeMismatch setting.place.declaration) _ (IsSound kind) (λ e. record {
      is_kind = sound.is_kind;
      children = sound.children;
      row = sound.row;
      body = sound.body;
      loop = part_sound elaborated.stream elaborated.types next e;
    })

child_sound : (kind : CompositeKind) (setting : Setting) → MakesSound setting
    → (names : TypedNames) (purpose : Role) (child : tree.Child) (progress : Progress)
    → IsSound kind progress → IfOk (child_run setting names purpose child progress) (IsSound kind)
child_sound kind setting makes names purpose child progress sound =
    then_ok (child_found setting names child progress.store) _ (λ found. Unit {0}) (IsSound kind)
    (any_holds (child_found setting names child progress.store)) (λ found h.
    then_ok (setting.elaborate found.place found.text
    (record { turns = found.store.traffic.turns; filters = progress.filters })) _
    IsSoundlyElaborated
    (IsSound kind) (makes found.place found.text (record
    { turns = found.store.traffic.turns; filters = progress.filters })) (λ elaborated g.
    added_sound kind setting purpose progress found.store elaborated sound g))

composed_sound : (kind : CompositeKind) (setting : Setting) → MakesSound setting
    → (names : TypedNames) (statement : tree.Composition) (progress : Progress)
    → IsSound kind progress → IfOk (composed setting names statement progress) (IsSound kind)
composed_sound kind setting makes names (tree.ChildOf purpose child) progress sound =
    kept_holds (may_have purpose progress) (refused.TypeMismatch setting.place.declaration) _
    (IsSound kind) (λ e. child_sound kind setting makes names purpose child progress sound)
composed_sound kind setting makes names (tree.Split split) progress sound =
    kept_holds (may_split progress) (refused.TypeMismatch setting.place.declaration) _
    (IsSound kind) (λ e.
    then_ok (splitter_evaluated setting names split progress.store) _ (λ s. Unit {0})
    (IsSound kind) (any_holds (splitter_evaluated setting names split progress.store))
    (λ s h. sound))
composed_sound kind setting makes names (tree.Join weights) progress sound =
    kept_holds (may_join progress) (refused.TypeMismatch setting.place.declaration) _
    (IsSound kind) (λ e.
    then_ok (values_evaluated setting names (unwrap_or weights []) [] progress.store) _
    (λ j. Unit {0}) (IsSound kind)
    (any_holds (values_evaluated setting names (unwrap_or weights []) [] progress.store))
    (λ j h. sound))
composed_sound kind setting makes names (tree.Enqueue item_value) progress sound =
    kept_holds (is_loop progress.kind) (refused.TypeMismatch setting.place.declaration) _
    (IsSound kind) (λ e.
    then_ok (eval_checked setting.place names value.Int item_value progress.store) _
    (λ i. Unit {0}) (IsSound kind)
    (any_holds (eval_checked setting.place names value.Int item_value progress.store))
    (λ i h. sound))

pub keeps_sound : (kind : CompositeKind) (setting : Setting) → MakesSound setting
    → Keeps setting (IsSound kind)
keeps_sound kind setting makes = record {
  stored = λ progress store sound. sound;
  composed = composed_sound kind setting makes;
}
