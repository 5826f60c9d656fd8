use Rattle.std.proofs.Common.{◌≡◌, Some, drop, map, take}
use Rattle.std.specs.Prelude.{is_none}
use Rattle.std.specs.List.{list_any}
use Rattle.clap.specs.Walk.{texts}
use Rattle.strc_cli_words.specs.Outs.{names_of, out_of}
use Rattle.strc_cli_words.proofs.words.outs_in.Given as goal

-- each word so far gave a tape and a file
abbrev pub invariant-loop-word : goal.invariant-loop-word
invariant-loop-word l = record {
  given : map out_of (texts (take l.word-index l.words)) ≡ map (λ out. Some (names_of out)) l.outs.items;
  rest : list_any (λ word. is_none (out_of word)) (texts (drop l.word-index l.words))
      ≡ list_any (λ word. is_none (out_of word)) (texts l.words);
}
