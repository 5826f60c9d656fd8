-- What is declared is what is to be there before the first firing.
use Rattle.std.proofs.Common.{◌≡◌, ℕ, ◌+◌, ℤ, pos, List, [], Option, refl, ap, ◌∙◌, arith}
use Rattle.std.specs.Prelude.{slice_index_or}
use Rattle.std.specs.Option.{option_map_or}
use Rattle.strc_elab_graph.specs.declared.graph.Channel.{Channel}
use Rattle.strc_elab_graph.specs.Graphs.{NodeCode}
use Rattle.strc_elab_graph.specs.Meaning.{node_fields}
use Rattle.strc_emit_c.specs.Meaning.{Item}
use Rattle.strc_emit_plans.specs.Firsts.{DeclaredIsFirst, DeclaredRow, first_cells}

pub declared_is_first : DeclaredIsFirst
declared_is_first program = record {
  items = λ number channel at place less.
      let front : 0 + place ≡ place = omega arith in
      ap (λ n. first_cells program (Item number n)) front
      ∙ ap (λ (o : Option Channel). slice_index_or
      (option_map_or (λ (there : Channel). there.enqueued.items) o []) place (pos 0)) at;
  fields = λ node slot code at less.
      ap (λ (o : Option NodeCode). slice_index_or (option_map_or node_fields o []) slot (pos 0)) at;
  tapes = λ node. refl;
  taken = refl;
  round = refl;
}

pub declared_row : DeclaredRow
declared_row program channel at items =
    ap (λ (o : Option Channel). slice_index_or
    (option_map_or (λ (there : Channel). there.enqueued.items) o []) 1 (pos 0)) at
    ∙ ap (λ (l : List ℤ). slice_index_or l 1 (pos 0)) items
