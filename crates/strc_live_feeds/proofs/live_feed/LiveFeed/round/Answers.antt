use Rattle.strc_live_feeds.proofs.live_feed.LiveFeed.round.Goals as goal

pub returns-in-Err-Fault-clause-round : goal.returns-in-Err-Fault-clause-round
returns-in-Err-Fault-clause-round c plan read past is many =
    rw c.in-Err-Fault.field-0-is at (c.in-Err-Fault.ensures.stopped plan read past is many)
