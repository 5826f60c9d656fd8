use Rattle.std.proofs.Common.{◌∙◌, ◌+◌, ◌++◌, ℕ, List, ap, take, sum, arith}
use Rattle.std.specs.Prelude.{slice_index}
use Rattle.strc_emit_moves.specs.Moves.{joined_text}
use Rattle.strc_emit_moves.specs.Places.{given_at, taken_at}
use Rattle.strc_emit_text.proofs.Pushing.{one_more_below}
use Rattle.strc_emit_moves.proofs.Shares.{joined_is, sum_more}
use Rattle.strc_emit_moves.proofs.moves.push_joiner.Goals as goal

pub loop-port-preserved : goal.loop-port-preserved
loop-port-preserved c =
    let network = c.args.network.now in
    let phase = c.args.phase in
    let node = c.args.node in
    let weights = c.args.weights.now in
    let port = c.loop-port.port in
    let known = c.loop-port.invariant in
    record {
      text = one_more_below (joined_text network phase node weights) port _ _ _ known.text
          (c.in_ok-push_joined.ensures ∙ ap (λ (l : List ℕ). c.loop-port.text.items ++ l)
          (joined_is (given_at network phase node 0) (taken_at network phase node port) c.loop-port.start (sum (take port weights))
          (slice_index weights port) known.start));
      start = ap (λ n. c.loop-port.start + n) c.from-start.ensures
          ∙ sum_more weights port c.loop-port.start c.loop-port-test.true known.start;
      bound = omega (arith, known.bound);
    }
