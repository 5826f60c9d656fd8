use Rattle.std.proofs.Common.{◌≡◌, ◌++◌, ◌∷◌, [], Some, length, reverse, sym, ap}
use Rattle.std.proofs.Common.{◌∙◌, subst, arith, rules}
use Rattle.std.proofs.lemmas.List.{reverse-append, length-reverse}
use Rattle.strc_lex_names.specs.declared.scope.Declared.{Declared}
use Rattle.strc_lex_names.specs.Scopes.{IsScope}
use Rattle.strc_lex_names.specs.Tables.{slot_in, IsUpdated}
use Rattle.strc_lex_names.proofs.Scopes.{IsScope-declare}
use Rattle.strc_lex_names.proofs.scope.Scope.declare.Goals as goal

pub invariant_of-self-2 : goal.invariant_of-self-2
invariant_of-self-2 c =
    let all = c.self.inside.declared.items in
    let old = slot_in c.self.inside.innermost in
    let new = slot_in c.put_in.new.table in
    let last : Declared = record { name = c.in_ok-name.name; shadows = c.copied-shadows.result } in
    let key : c.in_ok-key.key.items ≡ c.in_ok-name.name.items = search rules in
    let shadows : c.copied-shadows.result ≡ old c.in_ok-name.name.items = search rules in
    let items : c.push.new.self.items ≡ all ++ last ∷ [] =
    c.in_ok-push.ensures.items ∙ ap (λ l. l ++ last ∷ []) c.in_ok-reserve.ensures.items in
    let turned : reverse c.push.new.self.items ≡ last ∷ reverse all =
    ap reverse items ∙ reverse-append all (last ∷ []) in
    let place : c.len-slot.result ≡ length (reverse all) = omega (arith, length-reverse all) in
    let change = subst (λ name. IsUpdated old name (Some c.len-slot.result) new) key
    c.in_ok-put_in.ensures.ok in
    subst (λ seen. IsScope seen new) (sym turned)
    (IsScope-declare (reverse all) old new last c.len-slot.result place shadows
    c.self.invariant change)
