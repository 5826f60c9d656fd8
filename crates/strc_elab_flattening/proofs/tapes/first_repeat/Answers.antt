use Rattle.std.proofs.Common.{◌≡◌, ◌∙◌, ap, sym, map, nat_eq, Some, slice_get}
use Rattle.std.proofs.Common.{ℕ, List, Bor, ◌+◌, arith, is_some}
use Rattle.std.specs.Map.{lookup}
use Rattle.std.specs.Cmp.Lexicographic.{pointwise}
use Rattle.std.proofs.lemmas.List.{length-map}
use Rattle.std.proofs.lemmas.Option.{slice_get-get_or, slice_get-map}
use Rattle.std.specs.Option.{option_map}
use Rattle.indexmap.specs.IndexMap.{get_by}
use Rattle.indexmap.proofs.CallerLemmas.{insert_entry-new}
use Rattle.strc_elab_graph.specs.Graphs.{FileWriter}
use Rattle.strc_elab_graph.specs.NodeView.{node_view}
use Rattle.strc_elab_graph.specs.declared.graph.Node.{Node}
use Rattle.strc_elab_flattening.proofs.Repeats.{all_apart, lookup-append, next_writer, no_writer}
use Rattle.strc_elab_flattening.proofs.Repeats.{repeats_here, same_writers, no_writer_view}
use Rattle.strc_elab_flattening.proofs.Repeats.{some_code}
use Rattle.strc_elab_flattening.proofs.Repeats.{none_found, found_later}
use Rattle.strc_elab_flattening.proofs.tapes.first_repeat.Goals.{in-FileWriter+in_ok-insert+else-is_some}
use Rattle.strc_elab_flattening.proofs.tapes.first_repeat.Goals.{in_default}
use Rattle.strc_elab_flattening.proofs.tapes.first_repeat.Goals as goal

pub returns : goal.returns
returns c =
    let past = c.loop-number-test.false in
    let many = length-map c.args.nodes.now node_view in
    all_apart (map node_view c.args.nodes.now) c.loop-number.number _ c.loop-number.invariant
    (omega (arith, past, many))

pub returns-then-is_some : goal.returns-then-is_some
returns-then-is_some c =
    let nodes = c.args.nodes.now in
    let number = c.loop-number.number in
    let node = c.index-nodes-number.result in
    let here : slice_get (map node_view nodes) number ≡ Some (FileWriter c.in-FileWriter.text) =
    slice_get-map node_view nodes number
    ∙ ap (option_map node_view) (slice_get-get_or nodes number node c.loop-number-test.true
    ∙ ap (λ (n : Node). Some n) (sym c.index-nodes-number.is ∙ c.in-FileWriter.is)) in
    repeats_here (map node_view nodes) number _ c.loop-number.invariant c.in-FileWriter.text here
    (ap is_some (ap (λ l. get_by (λ k. pointwise nat_eq l k.now) c.loop-number.writers)
    (sym c.as_bytes.ensures) ∙ sym c.in_ok-insert.ensures.old)
    ∙ sym c.is_some.ensures ∙ c.if-is_some.true)

pub loop-number-preserved : goal.loop-number-preserved
loop-number-preserved c = elim c.match-node.branch [
  | in-FileWriter+in_ok-insert+else-is_some w ↦
      let nodes = c.args.nodes.now in
      let number = c.loop-number.number in
      let node = c.index-nodes-number.result in
      let text = w.in-FileWriter.text in
      let here : slice_get (map node_view nodes) number ≡ Some (FileWriter text) =
      slice_get-map node_view nodes number
      ∙ ap (option_map node_view) (slice_get-get_or nodes number node c.loop-number-test.true
      ∙ ap (λ (n : Node). Some n) (sym c.index-nodes-number.is ∙ w.in-FileWriter.is)) in
      let none = none_found w.in_ok-insert.field-0 (sym w.is_some.ensures ∙ w.if-is_some.false) in
      same_writers (map node_view nodes) (number + 1) _ _
      (λ other.
      let test : Bor (List ℕ) → _ = λ k. pointwise nat_eq other k.now in
      ap (λ m. get_by test m) w.writers-is
      ∙ ap (lookup test) (w.in_ok-insert.ensures.entries
      ∙ insert_entry-new _ c.loop-number.writers w.as_bytes.result number
      (sym w.in_ok-insert.ensures.old ∙ none))
      ∙ lookup-append test c.loop-number.writers.entries w.as_bytes.result number
      ∙ ap (λ l. found_later (get_by test c.loop-number.writers) (pointwise nat_eq other l)
      number) w.as_bytes.ensures)
      (next_writer (map node_view nodes) number _ c.loop-number.invariant text here
      (ap (λ l. get_by (λ k. pointwise nat_eq l k.now) c.loop-number.writers)
      (sym w.as_bytes.ensures) ∙ sym w.in_ok-insert.ensures.old ∙ none))
  | in_default w ↦
      let nodes = c.args.nodes.now in
      let number = c.loop-number.number in
      let node = c.index-nodes-number.result in
      same_writers (map node_view nodes) (number + 1) _ _
      (λ text. ap (λ m. get_by (λ k. pointwise nat_eq text k.now) m) w.writers-is)
      (no_writer (map node_view nodes) number _ c.loop-number.invariant
      (λ text there. no_writer_view node w.in_default.not-FileWriter text
      (some_code (node_view node) (FileWriter text)
      (sym (slice_get-map node_view nodes number
      ∙ ap (option_map node_view) (slice_get-get_or nodes number node c.loop-number-test.true
      ∙ ap (λ (n : Node). Some n) (sym c.index-nodes-number.is))) ∙ there))))
]
