use Rattle.std.proofs.Common.{◌∙◌, refl, ap, sym, get_or}
use Rattle.std.proofs.lemmas.List.{length-set}
use Rattle.strc_sched_machine.proofs.Done.{machine_after}
use Rattle.strc_sched_machine.proofs.KeptNodes.{AreKept, actor_less, actors_after, view_after}
use Rattle.strc_sched_machine.proofs.machine.Machine.swap_kept.Goals as goal

-- what each machine is given is what the other one had, but for the room for lanes
given : (c : goal.After-other-3-1) → AreKept c.args.other.now c.args.place
    c.swap_actors.new.own c.swap.new.x c.swap-2.new.x
given c = record {
  before = c.index_mut-2.result.now;
  before_is = c.index_mut-2.ensures.value;
  actor_is = c.swap_actors.ensures.own;
  count_is = c.swap.ensures.x_after ∙ c.index_mut-4.ensures.value
      ∙ ap (get_or c.args.other.now.fired.items c.args.place) (sym c.swap.ensures.x_after);
  words_are = c.swap-2.ensures.x_after ∙ c.index_mut-6.ensures.value
      ∙ ap (get_or c.args.other.now.words.items c.args.place) (sym c.swap-2.ensures.x_after);
}

taken : (c : goal.After-other-3-1) → AreKept c.args.self.now c.args.node
    c.swap_actors.new.other c.swap.new.y c.swap-2.new.y
taken c = record {
  before = c.index_mut.result.now;
  before_is = c.index_mut.ensures.value;
  actor_is = c.swap_actors.ensures.other;
  count_is = c.swap.ensures.y_after ∙ c.index_mut-3.ensures.value
      ∙ ap (get_or c.args.self.now.fired.items c.args.node) (sym c.swap.ensures.y_after);
  words_are = c.swap-2.ensures.y_after ∙ c.index_mut-5.ensures.value
      ∙ ap (get_or c.args.self.now.words.items c.args.node) (sym c.swap-2.ensures.y_after);
}

pub returns-clause-own : goal.returns-clause-own
returns-clause-own c =
    view_after c.args.other.now c.args.place c.requires.place c.swap_actors.new.own c.swap.new.x
    c.swap-2.new.x (given c) c.args.self.now c.args.node

pub returns-clause-other : goal.returns-clause-other
returns-clause-other c =
    view_after c.args.self.now c.args.node c.requires.node c.swap_actors.new.other c.swap.new.y
    c.swap-2.new.y (taken c) c.args.other.now c.args.place

pub returns-clause-machines : goal.returns-clause-machines
returns-clause-machines c circuit beside same is beside_is =
    let own = c.args.self.now in
    let other = c.args.other.now in
    let node = c.args.node in
    let place = c.args.place in
    let less = actor_less own node c.requires.node c.swap_actors.new.other c.swap.new.y c.swap-2.new.y
    (taken c) in
    let beside_less = actor_less other place c.requires.place c.swap_actors.new.own c.swap.new.x
    c.swap-2.new.x (given c) in (
      machine_after circuit own _ is
          (actors_after other place c.requires.place c.swap_actors.new.own c.swap.new.x c.swap-2.new.x
          (given c) circuit beside own node less same is beside_is)
          (length-set own.fired.items node c.swap.new.x)
          (length-set own.words.items node c.swap-2.new.x) refl,
      machine_after beside other _ beside_is
          (actors_after own node c.requires.node c.swap_actors.new.other c.swap.new.y c.swap-2.new.y
          (taken c) beside circuit other place beside_less (sym same) beside_is is)
          (length-set other.fired.items place c.swap.new.y)
          (length-set other.words.items place c.swap-2.new.y) refl,
    )
