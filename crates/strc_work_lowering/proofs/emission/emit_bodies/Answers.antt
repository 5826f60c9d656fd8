use Rattle.std.proofs.Common.{subst}
use Rattle.strc_work_code.specs.Links.{IsLinked}
use Rattle.strc_work_meaning.specs.Filters.{members_of}
use Rattle.strc_work_lowering.proofs.Prework.{bodies_of}
use Rattle.strc_work_lowering.proofs.emission.emit_bodies.Goals as goal

pub returns : goal.returns
returns c = bodies_of (members_of c.args.members.now) c.args.names.now c.emit_routine.new.names
    c.in_ok-prework.prework c.in_ok-work.work c.in_ok-work.ensures.names (record {
      code = c.in_ok-work.ensures.code;
      flat = c.in_ok-work.ensures.flat;
      linked = subst (λ n. IsLinked n c.in_ok-work.work.flat) c.requires.links
          c.in_ok-work.ensures.linked;
      limits = c.in_ok-work.ensures.limits;
    }) c.in_ok-prework.ensures
