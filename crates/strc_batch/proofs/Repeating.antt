-- Lists repeated once more.
use Rattle.std.proofs.Common.{◌≡◌, sym, ap, ◌∙◌, ℕ, zero, suc, ◌+◌, List, ◌++◌}
use Rattle.std.proofs.Common.{append_assoc, append-nil, add-one}
use Rattle.strc_elab_dataflow.specs.Fused.{repeated}

after : (turns : ℕ) (nodes : List ℕ) → repeated turns nodes ++ nodes ≡ nodes ++ repeated turns nodes
after zero nodes = sym (append-nil nodes)
after (suc turns) nodes =
    append_assoc nodes (repeated turns nodes) nodes ∙ ap (λ l. nodes ++ l) (after turns nodes)

-- once more at the end
pub repeated_more : (turns : ℕ) (nodes before : List ℕ)
    → (before ++ repeated turns nodes) ++ nodes ≡ before ++ repeated (turns + 1) nodes
repeated_more turns nodes before =
    append_assoc before (repeated turns nodes) nodes
    ∙ ap (λ l. before ++ l) (after turns nodes)
    ∙ ap (λ n. before ++ repeated n nodes) (sym (add-one turns))
