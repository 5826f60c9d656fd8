use Rattle.std.proofs.Common.{◌∙◌, sym, arith, rules}
use borrow.Author.Sizes.{sizes}
use Rattle.strc_elab_stream.specs.declared.stream.Stream.{the_lemmas}
use Rattle.strc_elab_flattening.proofs.Views.{pipeline_size, split_join_size}
use Rattle.strc_elab_flattening.proofs.size.+size.Goals as goal

pub size-row_size-requires : goal.size-row_size-requires
size-row_size-requires t c =
    let sized = pipeline_size c.args.stream.now c.in-Pipeline.children c.deref.result.now
    c.in-Pipeline.is c.deref.ensures.value in
    (search (rules, sizes, the_lemmas), omega (arith, c.requires))

pub size-row_size-requires-in-SplitJoin : goal.size-row_size-requires-in-SplitJoin
size-row_size-requires-in-SplitJoin t c =
    let sized = split_join_size c.args.stream.now c.in-SplitJoin.splitter c.in-SplitJoin.children
    c.in-SplitJoin.joiner c.deref-in-SplitJoin.result.now c.in-SplitJoin.is
    c.deref-in-SplitJoin.ensures.value in
    (search (rules, sizes, the_lemmas), omega (arith, c.requires))

pub size-overflow_add-result : goal.size-overflow_add-result
size-overflow_add-result t c =
    let sized = split_join_size c.args.stream.now c.in-SplitJoin.splitter c.in-SplitJoin.children
    c.in-SplitJoin.joiner c.deref-in-SplitJoin.result.now c.in-SplitJoin.is
    c.deref-in-SplitJoin.ensures.value in
    omega (arith, c.requires, c.splitter_count.ensures, c.row_size-in-SplitJoin.ensures)

pub size-overflow_add-result-in-SplitJoin : goal.size-overflow_add-result-in-SplitJoin
size-overflow_add-result-in-SplitJoin t c =
    let sized = split_join_size c.args.stream.now c.in-SplitJoin.splitter c.in-SplitJoin.children
    c.in-SplitJoin.joiner c.deref-in-SplitJoin.result.now c.in-SplitJoin.is
    c.deref-in-SplitJoin.ensures.value in
    omega (
      arith,
      c.requires,
      c.splitter_count.ensures,
      c.row_size-in-SplitJoin.ensures,
      c.joiner_count.ensures,
    )

pub size-returns-in-Pipeline : goal.size-returns-in-Pipeline
size-returns-in-Pipeline t c =
    c.row_size.ensures
    ∙ sym (pipeline_size c.args.stream.now c.in-Pipeline.children c.deref.result.now
    c.in-Pipeline.is c.deref.ensures.value)

pub size-returns-in-SplitJoin : goal.size-returns-in-SplitJoin
size-returns-in-SplitJoin t c =
    let sized = split_join_size c.args.stream.now c.in-SplitJoin.splitter c.in-SplitJoin.children
    c.in-SplitJoin.joiner c.deref-in-SplitJoin.result.now c.in-SplitJoin.is
    c.deref-in-SplitJoin.ensures.value in
    omega (
      arith,
      c.splitter_count.ensures,
      c.row_size-in-SplitJoin.ensures,
      c.joiner_count.ensures,
    )
