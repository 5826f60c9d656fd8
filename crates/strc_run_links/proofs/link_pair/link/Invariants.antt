use Rattle.crossbeam_channel.specs.Ends.{sends_on, ruled_capacity}
use Rattle.strc_run_links.proofs.link_pair.link.Given as goal

abbrev pub ghosts-part : goal.ghosts-part
ghosts-part a = record { room = ruled_capacity (sends_on a.sender.now) }
