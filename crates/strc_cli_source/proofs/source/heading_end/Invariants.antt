use Rattle.std.proofs.Common.{◌≡◌, ◌≤◌, drop, true}
use Rattle.strc_cli_source.specs.Headings.{end_from}
use Rattle.strc_cli_source.specs.Tokens.{tokens_in}
use Rattle.strc_cli_source.proofs.source.heading_end.Given as goal

-- what is left of the place's tokens ends the heading where all of them do
abbrev pub invariant-loop-token : goal.invariant-loop-token
invariant-loop-token l = record {
  same : end_from l.is_first l.end l.brackets (tokens_in l.place (drop l.token-index l.tokens))
      ≡ end_from true l.place.start 0 (tokens_in l.place l.tokens);
  brackets : l.brackets ≤ l.token-index;
}
