use Rattle.std.proofs.Common.{◌∙◌, ap, sym, ◌++◌, ◌∷◌, [], length, map, take, arith, ℕ, List}
use Rattle.std.specs.Prelude.{slice_index}
use Rattle.std.proofs.lemmas.Grind.{get_or_default_zero}
use Rattle.std.proofs.lemmas.List.{length-set, map-append}
use Rattle.strc_work_meaning.specs.declared.word.Word.{Word}
use Rattle.strc_elab_graph.specs.Graphs.{gives_words}
use Rattle.strc_elab_graph.specs.NodeView.{node_view}
use Rattle.strc_sched_outcome.specs.Tapes.{tape, tape_view}
use Rattle.strc_sched_laws.specs.Machine.{words_at}
use Rattle.strc_sched_machine.specs.Running.{words_of}
use Rattle.strc_sched.proofs.TapeLists.{tape_here, no_tape_here, tapes_later, other_words}
use Rattle.strc_sched_machine.proofs.WordLists.{own_words}
use Rattle.strc_sched.proofs.tapes.Marks.tapes.Goals.{then-gives_words+in_ok-tape_of+in_ok-push}
use Rattle.strc_sched.proofs.tapes.Marks.tapes.Goals.{else-gives_words}
use Rattle.strc_sched.proofs.tapes.Marks.tapes.Goals as goal

pub loop-node-preserved : goal.loop-node-preserved
loop-node-preserved c =
    let marks = c.args.self.now in
    let nodes = marks.nodes.now in
    let node = c.loop-node.node in
    let own = c.index-self-node.result in
    let less = c.loop-node-test.true in
    let is = c.index-self-node.is in
    let gives = c.gives_words.ensures ∙ ap (λ n. gives_words (node_view n)) (sym is) in
    let words : ℕ → List Word = λ node. take (slice_index marks.lengths.items node)
    (words_at (words_of c.args.words.items) node) in
    let later = tapes_later nodes node own less is words in
    elim c.if-gives_words.branch [
      | then-gives_words+in_ok-tape_of+in_ok-push w ↦
          let old = map tape_view c.loop-node.tapes.items in
          let each = c.loop-node.invariant.each in
          let many = c.requires.marks.each in
          let length_is = w.index.ensures ∙ get_or_default_zero marks.lengths.items node
          w.index.result.now (omega (arith, less, many)) in
          let words_are = sym (own_words c.loop-node.left.items node w.index_mut.result.now
          (omega (arith, less, each)) w.index_mut.ensures.value)
          ∙ c.loop-node.invariant.rest node (omega arith) in
          let own_tape = w.in_ok-tape_of.ensures
          ∙ ap (λ n. tape node (take n w.index_mut.result.now.items)) length_is
          ∙ ap (λ l. tape node (take (slice_index marks.lengths.items node) l)) words_are in
          record {
            each = ap (λ left. length left.items) w.left-is
                ∙ length-set c.loop-node.left.items node w.tape_of.new.words ∙ each;
            rest = λ other past.
                ap (λ left. words_at (words_of left.items) other) w.left-is
                ∙ other_words c.loop-node.left.items node w.tape_of.new.words other
                (λ same. omega (arith, past, same))
                ∙ c.loop-node.invariant.rest other (omega (arith, past));
            tapes = ap (λ tapes. map tape_view tapes.items ++ later) w.tapes-is
                ∙ ap (λ l. map tape_view l ++ later) w.in_ok-push.ensures.items
                ∙ ap (λ l. l ++ later) (map-append tape_view c.loop-node.tapes.items _
                ∙ ap (λ t. old ++ t ∷ []) own_tape)
                ∙ tape_here nodes node own less is words c.gives_words.result gives
                w.if-gives_words.true old _ c.loop-node.invariant.tapes;
          }
      | else-gives_words w ↦ record {
        each = ap (λ left. length left.items) w.left-is ∙ c.loop-node.invariant.each;
        rest = λ other past.
            ap (λ left. words_at (words_of left.items) other) w.left-is
            ∙ c.loop-node.invariant.rest other (omega (arith, past));
        tapes = ap (λ tapes. map tape_view tapes.items ++ later) w.tapes-is
            ∙ no_tape_here nodes node own less is words c.gives_words.result gives
            w.if-gives_words.false (map tape_view c.loop-node.tapes.items) _
            c.loop-node.invariant.tapes;
      }
    ]
