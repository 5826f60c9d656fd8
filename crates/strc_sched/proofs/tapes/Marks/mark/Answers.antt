use Rattle.std.proofs.Common.{◌∙◌, ap, arith, length, ◌<◌}
use Rattle.std.proofs.lemmas.Grind.{get_or_default_zero}
use Rattle.std.proofs.lemmas.List.{length-set}
use Rattle.strc_sched_machine.specs.Running.{words_of}
use Rattle.strc_sched.proofs.TapeLists.{marked_next, marked_end, tape_below, tapes_long}
use Rattle.strc_sched.proofs.tapes.Marks.mark.Goals as goal

pub word_count-requires : goal.word_count-requires
word_count-requires c =
    let own = c.loop-place.self in
    let node = c.index-node.result.now in
    let marks = c.loop-place.invariant.marks in
    let test = c.loop-place-test.true in
    let end = c.len-place-end.ensures in
    let long = tapes_long own.nodes.now c.args.self.now.nodes.now own.tapes.items
    c.args.self.now.tapes.items marks.tapes c.requires.marks.tapes c.loop-place.invariant.nodes in
    let many = c.args.self.now.tapes.ok.0 in
    let less : c.loop-place.place < length own.tapes.items = omega (arith, test, end, long, many) in
    let at = c.index-node.ensures
    ∙ get_or_default_zero own.tapes.items c.loop-place.place node less in
    let below = tape_below own.nodes.now own.tapes.items c.loop-place.place node marks.tapes less
    at in
    let each = c.requires.each in
    let same = ap length c.loop-place.invariant.nodes in
    omega (arith, below, each, same)

pub index_mut-requires : goal.index_mut-requires
index_mut-requires c =
    let own = c.loop-place.self in
    let node = c.index-node.result.now in
    let marks = c.loop-place.invariant.marks in
    let test = c.loop-place-test.true in
    let end = c.len-place-end.ensures in
    let long = tapes_long own.nodes.now c.args.self.now.nodes.now own.tapes.items
    c.args.self.now.tapes.items marks.tapes c.requires.marks.tapes c.loop-place.invariant.nodes in
    let many = c.args.self.now.tapes.ok.0 in
    let less : c.loop-place.place < length own.tapes.items = omega (arith, test, end, long, many) in
    let at = c.index-node.ensures
    ∙ get_or_default_zero own.tapes.items c.loop-place.place node less in
    let below = tape_below own.nodes.now own.tapes.items c.loop-place.place node marks.tapes less
    at in
    let each = marks.each in
    let room = own.lengths.ok.0 in
    omega (arith, below, each, room)

pub loop-place-preserved : goal.loop-place-preserved
loop-place-preserved c =
    let own = c.loop-place.self in
    let node = c.index-node.result.now in
    let marks = c.loop-place.invariant.marks in
    let test = c.loop-place-test.true in
    let end = c.len-place-end.ensures in
    let long = tapes_long own.nodes.now c.args.self.now.nodes.now own.tapes.items
    c.args.self.now.tapes.items marks.tapes c.requires.marks.tapes c.loop-place.invariant.nodes in
    let many = c.args.self.now.tapes.ok.0 in
    let less : c.loop-place.place < length own.tapes.items = omega (arith, test, end, long, many) in
    let at = c.index-node.ensures
    ∙ get_or_default_zero own.tapes.items c.loop-place.place node less in
    let below = tape_below own.nodes.now own.tapes.items c.loop-place.place node marks.tapes less
    at in
    let each = marks.each in
    record {
      marks = record {
        tapes = marks.tapes;
        each = length-set own.lengths.items node c.word_count.result ∙ marks.each;
      };
      nodes = c.loop-place.invariant.nodes;
      below = marked_next own.tapes.items c.loop-place.place own.lengths.items
          (words_of c.args.words.now) node c.word_count.result at c.word_count.ensures
          (omega (arith, below, each)) c.loop-place.invariant.below;
    }

pub returns-clause-marked : goal.returns-clause-marked
returns-clause-marked c =
    let own = c.loop-place.self in
    let marks = c.loop-place.invariant.marks in
    let test = c.loop-place-test.false in
    let end = c.len-place-end.ensures in
    let long = tapes_long own.nodes.now c.args.self.now.nodes.now own.tapes.items
    c.args.self.now.tapes.items marks.tapes c.requires.marks.tapes c.loop-place.invariant.nodes in
    let many = c.args.self.now.tapes.ok.0 in
    marked_end own.nodes.now c.args.self.now.nodes.now own.tapes.items own.lengths.items
    (words_of c.args.words.now) c.loop-place.place marks.tapes c.loop-place.invariant.nodes
    (omega (arith, test, end, long, many)) c.loop-place.invariant.below
