use Rattle.std.proofs.Common.{◌≡◌, ◌++◌, drop, map}
use Rattle.strc_out_files.specs.Texts.{file_texts}
use Rattle.strc_out_files.proofs.texts.texts_of.Given as goal

-- the texts so far and those of the nodes left are the whole
abbrev pub invariant-loop-node : goal.invariant-loop-node
invariant-loop-node l =
    map (λ text. text.items) l.texts.items ++ file_texts (drop l.node-index l.given) l.tapes
    ≡ file_texts l.given l.tapes
