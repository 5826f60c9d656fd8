use Rattle.std.proofs.Common.{◌∙◌, ap, sym, ◌++◌, ◌∷◌, [], length, map, arith}
use Rattle.std.specs.Vec.{vec_items}
use Rattle.std.proofs.lemmas.List.{get_or-set_other, length-map, length-set, map-append}
use Rattle.strc_sched_laws.specs.Machine.{words_at}
use Rattle.strc_sched_machine.specs.Running.{words_of}
use Rattle.strc_elab_graph.proofs.TapeNodes.{nodes_later}
use Rattle.strc_stage_cut.proofs.TapeNodes.{words_here, no_words_here}
use Rattle.strc_stage_cut.proofs.tapes.tape_words.Goals.{then-gives_words+in_ok-push}
use Rattle.strc_stage_cut.proofs.tapes.tape_words.Goals.{else-gives_words}
use Rattle.strc_stage_cut.proofs.tapes.tape_words.Goals as goal

pub loop-node-preserved : goal.loop-node-preserved
loop-node-preserved c =
    let nodes = c.args.nodes.now in
    let node = c.loop-node.node in
    let own = c.index-nodes-node.result in
    let less = c.loop-node-test.true in
    let is = c.index-nodes-node.is in
    let words = words_at (words_of c.args.words.items) in
    let later = map words (nodes_later nodes node own less is) in
    let left = c.loop-node.left.items in
    let before = map vec_items c.loop-node.own.items in
    elim c.if-gives_words.branch [
      | then-gives_words+in_ok-push w ↦
          let now = w.taken_words.new.left.items in
          record {
            each = ap (λ l. length l.items) w.left-is
                ∙ sym (length-map now vec_items) ∙ ap length w.taken_words.ensures.left
                ∙ length-set (words_of left) node [] ∙ length-map left vec_items
                ∙ c.loop-node.invariant.each;
            rest = λ place past. ap (λ l. words_at (words_of l.items) place) w.left-is
                ∙ ap (λ l. words_at l place) w.taken_words.ensures.left
                ∙ get_or-set_other (words_of left) node place [] []
                (λ same. omega (arith, past, same))
                ∙ c.loop-node.invariant.rest place (omega (arith, past));
            own = ap (λ l. map vec_items l.items ++ later) w.own-is
                ∙ ap (λ l. map vec_items l ++ later) w.in_ok-push.ensures.items
                ∙ ap (λ l. l ++ later)
                (map-append vec_items c.loop-node.own.items (w.taken_words.result ∷ [])
                ∙ ap (λ l. before ++ l ∷ []) (w.taken_words.ensures.taken
                ∙ c.loop-node.invariant.rest node (omega arith)))
                ∙ words_here nodes node own less is c.gives_words.result c.gives_words.ensures words
                w.if-gives_words.true before _ c.loop-node.invariant.own;
          }
      | else-gives_words w ↦ record {
        each = ap (λ l. length l.items) w.left-is ∙ c.loop-node.invariant.each;
        rest = λ place past. ap (λ l. words_at (words_of l.items) place) w.left-is
            ∙ c.loop-node.invariant.rest place (omega (arith, past));
        own = ap (λ l. map vec_items l.items ++ later) w.own-is
            ∙ no_words_here nodes node own less is c.gives_words.result c.gives_words.ensures words
            w.if-gives_words.false before _ c.loop-node.invariant.own;
      }
    ]
