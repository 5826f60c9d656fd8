use Rattle.std.proofs.Common.{◌≡◌, refl, ap, ◌∙◌, subst, ◌<◌, length, take_all}
use Rattle.std.proofs.Common.{vec_items, vec_len, vec_capacity, arith, length-set}
use Rattle.strc_stage_core.specs.Moves.{AreRoomy, rooms}
use Rattle.strc_stage_core.proofs.Moves.{items_stay, roomy_more, same_place}
use Rattle.strc_stage_core.proofs.parts.make_room.Goals as goal

pub loop-link-init : goal.loop-link-init
loop-link-init g c = record {
  same = refl;
  size = omega (arith, c.len-link-end.ensures, c.args.links.now.ok);
  roomy = tt;
}

pub returns-in_err-reserve-clause-same : goal.returns-in_err-reserve-clause-same
returns-in_err-reserve-clause-same g c = items_stay vec_items vec_capacity
    c.loop-link.links.items c.loop-link.link c.index_mut.result.now c.reserve.new.self
    c.index_mut.ensures.value c.reserve.ensures.items ∙ c.loop-link.invariant.same

pub loop-link-preserved : goal.loop-link-preserved
loop-link-preserved g c =
    let within : c.loop-link.link < length c.loop-link.links.items =
    omega (arith, c.loop-link-test.true, c.loop-link.invariant.size) in
    let same : vec_len c.index.result.now ≡ vec_len c.index_mut.result.now =
    ap vec_len (same_place c.loop-link.links.items c.loop-link.link c.index.result.now
    c.index_mut.result.now within c.index.ensures c.index_mut.ensures.value) in
    record {
      same = items_stay vec_items vec_capacity c.loop-link.links.items c.loop-link.link
          c.index_mut.result.now c.reserve.new.self c.index_mut.ensures.value
          c.reserve.ensures.items ∙ c.loop-link.invariant.same;
      size = length-set c.loop-link.links.items c.loop-link.link c.reserve.new.self
          ∙ c.loop-link.invariant.size;
      roomy = roomy_more vec_items vec_capacity c.args.room c.loop-link.links.items
          c.loop-link.link c.reserve.new.self within (omega (
            arith,
            same,
            c.in_ok-reserve.ensures.ok,
            c.reserve.ensures.len,
            c.len.ensures,
            c.saturating_sub-missing.ensures,
          )) c.loop-link.invariant.roomy;
    }

pub returns-clause-same : goal.returns-clause-same
returns-clause-same g c = c.loop-link.invariant.same

pub returns-clause-room : goal.returns-clause-room
returns-clause-room g c = subst (λ l. AreRoomy c.args.room (rooms l))
    (take_all c.loop-link.link c.loop-link.links.items
    (omega (arith, c.loop-link-test.false, c.loop-link.invariant.size)))
    c.loop-link.invariant.roomy
