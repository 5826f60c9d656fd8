use Rattle.strc_elab.proofs.level.+elaborate_text.Given as goal

abbrev pub decreases-elaborate_text : goal.decreases-elaborate_text
decreases-elaborate_text l = l.task.levels
