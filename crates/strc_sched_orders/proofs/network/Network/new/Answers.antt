use Rattle.std.proofs.Common.{◌∙◌, ◌≤◌, ◌^◌, sym, ap, subst, All, map}
use Rattle.strc_startup.specs.Grouping.{IsGrouping}
use Rattle.strc_startup.specs.Waiting.{HasEnds}
use Rattle.strc_sched_orders.proofs.network.Network.new.Goals as goal

pub incoming_of-requires : goal.incoming_of-requires
incoming_of-requires c =
    subst (All (HasEnds c.args.size)) (sym c.deref.ensures.value) c.requires.ends

pub outgoing_of-requires : goal.outgoing_of-requires
outgoing_of-requires c =
    subst (All (HasEnds c.args.size)) (sym c.deref-2.ensures.value) c.requires.ends

pub invariant_of-result : goal.invariant_of-result
invariant_of-result c =
    let size = c.in_ok-incoming.ensures.size in
    record {
      nodes = c.in_ok-outgoing.ensures.size ∙ sym size;
      few = subst (λ n. n ≤ 2 ^ 32) (sym size) c.requires.few;
      ends = subst (λ n. All (HasEnds n) c.args.channels.items) (sym size) c.requires.ends;
      bounds = c.requires.bounds;
      incoming = subst (IsGrouping c.in_ok-incoming.incoming)
          (ap (map (λ r. r.target)) c.deref.ensures.value) c.in_ok-incoming.ensures.groups;
      outgoing = subst (IsGrouping c.in_ok-outgoing.outgoing)
          (ap (map (λ r. r.source)) c.deref-2.ensures.value) c.in_ok-outgoing.ensures.groups;
    }
