use Rattle.std.proofs.Common.{◌<◌, All, length, position, not, sym, ap, subst, ◌∙◌, arith}
use Rattle.std.proofs.Common.{true, false}
use Rattle.std.proofs.lemmas.List.{length-set, length-replicate, get_or-set_same}
use Rattle.strc_cli_source.specs.Joined.{AreJoined, IsFirstApart, IsFollowed}
use Rattle.strc_cli_source.proofs.Joining.{started, apart_is_first}
use Rattle.strc_cli_source.proofs.preorder.Preorder.first_apart.Goals as goal

pub loop-init : goal.loop-init
loop-init c =
    let marks = c.in_ok-joined.joined.items in
    let is = c.in_ok-joined.ensures in
    let size = ap length is in
    let count = length-replicate c.len.result false in
    let kept = length-set marks 0 true in
    let nodes = c.len.ensures in
    record {
      size = omega (arith, size, count, kept, nodes);
      joined = started c.args.self.now.links.items marks c.len.result is;
      first = λ within. get_or-set_same marks 0 true false (omega (arith, within, kept));
    }

pub loop-preserved : goal.loop-preserved
loop-preserved c =
    let marks = c.spread.new.joined.items in
    let joined = subst (λ l. AreJoined l c.loop.joined.items → AreJoined l marks)
    c.deref.ensures.value c.spread.ensures.joined in
    let size = c.spread.ensures.length in
    record {
      size = size ∙ c.loop.invariant.size;
      joined = joined c.loop.invariant.joined;
      first = λ within. c.spread.ensures.kept 0
          (c.loop.invariant.first (subst (λ n. 0 < n) size within));
    }

pub returns-clause-apart : goal.returns-clause-apart
returns-clause-apart c =
    let order = c.args.self.now in
    let marks = c.spread.new.joined.items in
    let size = c.spread.ensures.length in
    let joined = subst (λ l. AreJoined l c.loop.joined.items → AreJoined l marks)
    c.deref.ensures.value c.spread.ensures.joined in
    let all = subst (All (IsFollowed marks)) c.deref.ensures.value
    (c.spread.ensures.all c.loop-test.false) in
    let is = c.first_left.ensures
    ∙ ap (λ l. position (λ is_joined. not is_joined) l) c.deref-2.ensures.value in
    subst (IsFirstApart order) (sym is) (apart_is_first order marks
    (size ∙ c.loop.invariant.size) (joined c.loop.invariant.joined) all
    (λ within. c.spread.ensures.kept 0
    (c.loop.invariant.first (subst (λ n. 0 < n) size within))))
