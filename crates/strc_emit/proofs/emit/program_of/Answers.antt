use Rattle.std.proofs.Common.{rules}
use Rattle.strc_emit.proofs.emit.program_of.Goals as goal

pub returns : goal.returns
returns c = record {
  network = c.args.network.now;
  is = c.requires;
  within = search rules;
  written = c.in_ok-text_of.ensures;
}
