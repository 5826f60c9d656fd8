use Rattle.std.proofs.Common.{◌≡◌, Some, None, subst, sym, ap, ◌∙◌}
use Rattle.strc_work_code.specs.Links.{place_of}
use Rattle.strc_work.specs.Calls.{Callable, IsFound, IsRefused, names_in}
use Rattle.strc_work.proofs.Found.{code_named, found_in, named_at, refused_none, refused_other}
use Rattle.strc_work.proofs.calls.Calls.helper.Goals as goal

pub returns-in_err-helper-clause-none : goal.returns-in_err-helper-clause-none
returns-in_err-helper-clause-none c none =
    let calls : Callable = record {
      tree = c.self.inside.code.now;
      helpers = c.self.inside.helpers.now;
      fields = c.self.inside.fields;
      room = c.self.inside.room;
      levels = c.self.inside.levels;
    } in
    let call = c.args.call.now in
    let at : call.place ≡ place_of (names_in calls) call.name =
    c.requires.linked ∙ ap (λ k. place_of (names_in k) call.name) (sym c.self.view_is) in
    let missing : code_named calls.helpers call.name ≡ None =
    named_at calls call.name call.place None c.self.invariant at
    (c.standing_at.ensures.none c.in_err-helper.was) in
    subst (λ k. IsRefused k call.name call.count) c.self.view_is
    (refused_none calls call.name call.count c.self.invariant missing)

pub returns-then-helper-call-clause-none : goal.returns-then-helper-call-clause-none
returns-then-helper-call-clause-none c none =
    let calls : Callable = record {
      tree = c.self.inside.code.now;
      helpers = c.self.inside.helpers.now;
      fields = c.self.inside.fields;
      room = c.self.inside.room;
      levels = c.self.inside.levels;
    } in
    let call = c.args.call.now in
    let helper = c.in_ok-helper.helper.now in
    let at : call.place ≡ place_of (names_in calls) call.name =
    c.requires.linked ∙ ap (λ k. place_of (names_in k) call.name) (sym c.self.view_is) in
    let named : code_named calls.helpers call.name ≡ Some helper =
    named_at calls call.name call.place (Some helper) c.self.invariant at
    c.in_ok-helper.ensures.some in
    subst (λ k. IsRefused k call.name call.count) c.self.view_is
    (refused_other calls call.name call.count helper c.self.invariant named
    c.if-helper-call.true)

pub returns-clause-some : goal.returns-clause-some
returns-clause-some c =
    let calls : Callable = record {
      tree = c.self.inside.code.now;
      helpers = c.self.inside.helpers.now;
      fields = c.self.inside.fields;
      room = c.self.inside.room;
      levels = c.self.inside.levels;
    } in
    let call = c.args.call.now in
    let helper = c.in_ok-helper.helper.now in
    let at : call.place ≡ place_of (names_in calls) call.name =
    c.requires.linked ∙ ap (λ k. place_of (names_in k) call.name) (sym c.self.view_is) in
    let named : code_named calls.helpers call.name ≡ Some helper =
    named_at calls call.name call.place (Some helper) c.self.invariant at
    c.in_ok-helper.ensures.some in
    subst (λ k. IsFound k call.name call.count helper) c.self.view_is
    (found_in calls call.name call.count helper c.self.invariant named c.if-helper-call.false)
