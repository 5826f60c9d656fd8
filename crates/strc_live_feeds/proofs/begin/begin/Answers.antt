use Rattle.std.proofs.Common.{◌≡◌, ◌<◌, ◌∙◌, true, false, [], length, rules, arith, subst}
use Rattle.strc_live_feeds.proofs.begin.begin.Goals as goal

pub started-requires-clause-can : goal.started-requires-clause-can
started-requires-clause-can g c =
    let enough : c.in-Ok-true.field-0 ≡ true = search rules in
    let filled = rw enough at (c.in-Ok-true.ensures.filled _ []
    (c.in-Ok.ensures.pulled (g.I.Source.remaining c.args.input.now))) in record {
      reads = c.requires.reads;
      just = filled.0 ∙ c.needed-need.ensures;
    }

pub returns-in-Ok-true-clause-begun : goal.returns-in-Ok-true-clause-begun
returns-in-Ok-true-clause-begun g c =
    let enough : c.in-Ok-true.field-0 ≡ true = search rules in
    let filled = rw enough at (c.in-Ok-true.ensures.filled _ []
    (c.in-Ok.ensures.pulled (g.I.Source.remaining c.args.input.now))) in
    c.started.ensures.begun _ _ filled.1

pub returns-in-Ok-false-clause-begun : goal.returns-in-Ok-false-clause-begun
returns-in-Ok-false-clause-begun g c =
    let short : c.in-Ok-false.field-0 ≡ false = search rules in
    let filled = rw short at (c.in-Ok-false.ensures.filled _ []
    (c.in-Ok.ensures.pulled (g.I.Source.remaining c.args.input.now))) in
    let got : c.len.result ≡ length c.fill.new.window.items = search rules in
    let need = c.needed-need.ensures in
    let few : length c.fill.new.window.items < c.needed-need.result = filled.0 in (
      need,
      record {
        items = c.fill.new.window.items;
        writes = filled.1;
        many = got;
        few = omega (arith, got, few, need);
      },
    )

pub returns-in-Err-BadInput-clause-begun : goal.returns-in-Err-BadInput-clause-begun
returns-in-Err-BadInput-clause-begun g c =
    let filled = rw c.in-Err-BadInput.field-0-is at (c.in-Err-BadInput.ensures.filled _ []
    (c.in-Ok.ensures.pulled (g.I.Source.remaining c.args.input.now))) in
    let many : c.in-Err-BadInput.word ≡ length c.fill.new.window.items = filled.2 in
    let need = c.needed-need.ensures in
    let few : length c.fill.new.window.items < c.needed-need.result = filled.0 in
    rw c.in-Err-BadInput.field-0-is (record {
      items = c.fill.new.window.items;
      writes = filled.1;
      many = many;
      few = omega (arith, many, few, need);
    })

pub returns-in-Err-Failed-clause-begun : goal.returns-in-Err-Failed-clause-begun
returns-in-Err-Failed-clause-begun g c =
    let filled = rw c.in-Err-Failed.field-0-is at (c.in-Err-Failed.ensures.filled _ []
    (c.in-Ok.ensures.pulled (g.I.Source.remaining c.args.input.now))) in record {
      items = c.fill.new.window.items;
      numbers = c.fill.new.self;
      few = subst (λ n. length c.fill.new.window.items < n) c.needed-need.ensures filled.0;
      pulled = filled.1;
    }
