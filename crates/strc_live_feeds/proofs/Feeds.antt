-- Live runs that are fed.
use Rattle.std.proofs.Common.{◌≡◌, ℕ, suc, ◌+◌, ◌<◌, ◌^◌, ℤ, List, ◌++◌, length}
use Rattle.std.proofs.Common.{Option, sym, ap, ◌∙◌, subst, arith}
use Rattle.strc_work_meaning.specs.declared.word.Word.{Word}
use Rattle.strc_sched_outcome.specs.declared.stop.Stop.TheVariants as stop
use Rattle.strc_stage_plan.specs.Plans.{PlanParts}
use Rattle.strc_cli_input.specs.NumberReading.{HasPulled, IsWithin}
use Rattle.strc_live_plans.specs.Readers.{each_of}
use Rattle.strc_live_runs.specs.Runs.{IsRoundStop, IsWired}
use Rattle.strc_live_runs.specs.declared.live_run.LiveRun.{LiveRun}
use Rattle.strc_live_runs.specs.Serving.{LiveRunsReadOn}
use Rattle.strc_live_feeds.specs.Feeding.{IsFedBy, IsFeeding, IsRoundOf, KeepsFeeding}
use Rattle.strc_live_feeds.specs.declared.live_feed.Fed.{Fed}
use Rattle.strc_live_feeds.specs.declared.live_feed.Fed.TheVariants as fed
use Rattle.strc_live_feeds.specs.declared.live_feed.LiveFeed.{LiveFeed}

-- the numbers of another round are numbered within 64 bits
pub counts_fit : LiveRunsReadOn → (left : Option (List ℕ)) (feed : LiveFeed)
    (feeding : IsFeeding left feed) → suc feed.run.done < 2 ^ 32
    → feed.numbers.count + feed.each < 2 ^ 64
counts_fit read_on left feed feeding few =
    let is = feeding.is in
    let fits = (read_on feeding.plan feeding.read feeding.past feed.run few is.live).fits in
    let many = is.pulled.count in
    let each = is.each in
    omega (arith, fits, many, each)

-- a round over the window
pub round_fed : (plan : PlanParts) (first left : Option (List ℕ)) (read : List ℤ)
    (past : ℕ → List Word) (before filled after : LiveFeed) (result : Fed)
    → before.each ≡ each_of plan → filled.run ≡ before.run
    → length filled.window.items ≡ each_of plan
    → HasPulled first left (read ++ filled.window.items) filled.numbers
    → IsWithin filled.numbers
    → after.numbers ≡ filled.numbers → after.each ≡ before.each → IsWired after.run
    → IsRoundOf plan read past filled result after
    → IsFedBy plan first left read past before result after
round_fed plan first left read past before filled after fed.Round own same many pulled within
    numbers each wired is = record {
      items = filled.window.items;
      now = is.0.now;
      fed = record {
        pulled = subst (λ n. HasPulled first left (read ++ filled.window.items) n) (sym numbers)
            pulled;
        live = is.0.is;
        wired = wired;
        within = subst IsWithin (sym numbers) within;
        each = each ∙ own;
      };
      more = is.0.more ∙ ap (λ l. l ++ after.words.items)
          (ap past (is.1 ∙ ap (λ (r : LiveRun). r.tape) same));
      tape = is.1 ∙ ap (λ (r : LiveRun). r.tape) same;
      done = is.2 ∙ ap (λ (r : LiveRun). r.done + 1) same;
    }
round_fed plan first left read past before filled after (fed.Faulted node firing cause) own same
    many pulled within numbers each wired is = record {
      items = filled.window.items;
      pulled = subst (λ n. HasPulled first left (read ++ filled.window.items) n) (sym numbers)
          pulled;
      many = many;
      stops = subst (λ (r : LiveRun). IsRoundStop plan read filled.window.items past r.done
          (stop.Fault node firing cause)) same is;
    }
round_fed plan first left read past before filled after fed.NoMemory own same many pulled within
    numbers each wired is = tt
round_fed plan first left read past before filled after fed.Ended own same many pulled within
    numbers each wired is = absurd is
round_fed plan first left read past before filled after (fed.Wrong word) own same many pulled
    within numbers each wired is = absurd is
round_fed plan first left read past before filled after fed.ReadFailed own same many pulled
    within numbers each wired is = absurd is
round_fed plan first left read past before filled after fed.Limit own same many pulled within
    numbers each wired is = absurd is

pub keeps_feeding : (plan : PlanParts) (first left : Option (List ℕ)) (read : List ℤ)
    (past : ℕ → List Word) (before after : LiveFeed) (result : Fed)
    → IsFedBy plan first left read past before result after → KeepsFeeding left result after
keeps_feeding plan first left read past before after fed.Round is = record {
  plan = plan;
  first = first;
  read = read ++ is.items;
  past = is.now;
  is = is.fed;
}
keeps_feeding plan first left read past before after fed.Ended is = tt
keeps_feeding plan first left read past before after (fed.Wrong word) is = tt
keeps_feeding plan first left read past before after fed.ReadFailed is = tt
keeps_feeding plan first left read past before after (fed.Faulted node firing cause) is = tt
keeps_feeding plan first left read past before after fed.NoMemory is = tt
keeps_feeding plan first left read past before after fed.Limit is = tt
