use Rattle.std.proofs.Common.{◌≡◌, ◌<◌, ◌∙◌, true, false, length, refl, rules, subst}
use Rattle.strc_live_feeds.specs.Feeding.{IsRoundOf}
use Rattle.strc_live_feeds.specs.declared.live_feed.Fed.{Fed}
use Rattle.strc_live_feeds.specs.declared.live_feed.LiveFeed.{LiveFeed}
use Rattle.strc_live_feeds.proofs.Feeds.{keeps_feeding, round_fed}
use Rattle.strc_live_feeds.proofs.live_feed.LiveFeed.advance.Goals as goal

pub returns-in-Ok-true-clause-fed : goal.returns-in-Ok-true-clause-fed
returns-in-Ok-true-clause-fed g c plan first read past has =
    let enough : c.in-Ok-true.field-0 ≡ true = search rules in
    let filled = rw enough at
    (c.in-Ok-true.ensures.filled first read has.pulled) in
    let now : LiveFeed = record {
      run = c.args.self.now.run;
      numbers = c.fill.new.self;
      each = c.args.self.now.each;
      window = c.fill.new.window;
      words = c.args.self.now.words;
    } in
    round_fed plan first (g.I.Source.remaining c.fill.new.input) read past c.args.self.now now
    c.round.new.self c.round.result has.each refl (filled.0 ∙ has.each) filled.1
    c.fill.ensures.within
    c.round.ensures.numbers c.round.ensures.each c.round.ensures.wired
    (c.round.ensures.round plan read past has.live (filled.0 ∙ has.each))

pub returns-in-Ok-true-clause-feeding : goal.returns-in-Ok-true-clause-feeding
returns-in-Ok-true-clause-feeding g c =
    let feeding = c.requires.feeding in
    keeps_feeding feeding.plan feeding.first (g.I.Source.remaining c.fill.new.input) feeding.read
    feeding.past c.args.self.now c.round.new.self c.round.result
    (returns-in-Ok-true-clause-fed g c feeding.plan feeding.first feeding.read feeding.past
    feeding.is)

pub returns-in-Ok-true-clause-failed : goal.returns-in-Ok-true-clause-failed
returns-in-Ok-true-clause-failed g c failed =
    let feeding = c.requires.feeding in
    let enough : c.in-Ok-true.field-0 ≡ true = search rules in
    let filled = rw enough at
    (c.in-Ok-true.ensures.filled feeding.first feeding.read feeding.is.pulled) in
    let now : LiveFeed = record {
      run = c.args.self.now.run;
      numbers = c.fill.new.self;
      each = c.args.self.now.each;
      window = c.fill.new.window;
      words = c.args.self.now.words;
    } in
    absurd (subst (λ (r : Fed). IsRoundOf feeding.plan feeding.read feeding.past now r
    c.round.new.self) failed
    (c.round.ensures.round feeding.plan feeding.read feeding.past feeding.is.live
    (filled.0 ∙ feeding.is.each)))

pub returns-in-Ok-false-clause-fed : goal.returns-in-Ok-false-clause-fed
returns-in-Ok-false-clause-fed g c plan first read past has =
    let short : c.in-Ok-false.field-0 ≡ false = search rules in
    let filled = rw short at
    (c.in-Ok-false.ensures.filled first read has.pulled) in record {
      waiting = c.fill.new.window.items;
      few = subst (λ n. length c.fill.new.window.items < n) has.each filled.0;
      writes = filled.1;
      run = refl;
    }

pub returns-in-Err-BadInput-clause-fed : goal.returns-in-Err-BadInput-clause-fed
returns-in-Err-BadInput-clause-fed g c plan first read past has =
    let filled = rw c.in-Err-BadInput.field-0-is at
    (c.in-Err-BadInput.ensures.filled first read has.pulled) in record {
      waiting = c.fill.new.window.items;
      few = subst (λ n. length c.fill.new.window.items < n) has.each filled.0;
      writes = filled.1;
      run = refl;
    }

pub returns-in-Err-Failed-clause-fed : goal.returns-in-Err-Failed-clause-fed
returns-in-Err-Failed-clause-fed g c plan first read past has =
    let filled = rw c.in-Err-Failed.field-0-is at
    (c.in-Err-Failed.ensures.filled first read has.pulled) in record {
      waiting = c.fill.new.window.items;
      few = subst (λ n. length c.fill.new.window.items < n) has.each filled.0;
      pulled = filled.1;
      run = refl;
    }
