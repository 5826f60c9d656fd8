use Rattle.std.proofs.Common.{◌≡◌, ◌≤◌, ◌-◌, ◌++◌, ◌∷◌, [], length, take, drop, reverse, sym, ap}
use Rattle.std.proofs.Common.{◌∙◌, subst, arith, length-append}
use Rattle.std.proofs.lemmas.List.{reverse-append, take-append-le}
use Rattle.strc_lex_names.specs.Scopes.{names_of, IsScope}
use Rattle.strc_lex_names.specs.Tables.{slot_in}
use Rattle.strc_lex_names.proofs.Scopes.{IsScope-forget, IsScope-there, names_in-left}
use Rattle.strc_lex_names.proofs.scope.Scope.leave.Goals as goal

pub put_back-requires : goal.put_back-requires
put_back-requires c =
    let rest = c.pop.new.self.items in
    let last = c.in-Some.last in
    let turned : reverse c.loop-self.self-inside.declared.items ≡ last ∷ reverse rest =
    ap reverse c.in-Some.ensures.items ∙ reverse-append rest (last ∷ []) in
    IsScope-there (reverse rest) (slot_in c.loop-self.self-inside.innermost) last
    (subst (λ seen. IsScope seen (slot_in c.loop-self.self-inside.innermost)) turned
    c.loop-self.invariant.scope)

pub loop-self-preserved-in-Some : goal.loop-self-preserved-in-Some
loop-self-preserved-in-Some c =
    let rest = c.pop.new.self.items in
    let last = c.in-Some.last in
    let items : c.loop-self.self-inside.declared.items ≡ rest ++ last ∷ [] =
    c.in-Some.ensures.items in
    let turned : reverse c.loop-self.self-inside.declared.items ≡ last ∷ reverse rest =
    ap reverse items ∙ reverse-append rest (last ∷ []) in
    let enough : c.args.start ≤ length rest =
    omega (arith, ap length items, length-append rest (last ∷ [])) in
    record {
      scope = IsScope-forget (reverse rest) (slot_in c.loop-self.self-inside.innermost)
          (slot_in c.put_back.new.table) last
          (subst (λ seen. IsScope seen (slot_in c.loop-self.self-inside.innermost)) turned
          c.loop-self.invariant.scope) c.put_back.ensures;
      same = sym (ap (take c.args.start) items
          ∙ take-append-le c.args.start rest (last ∷ []) enough) ∙ c.loop-self.invariant.same;
    }

pub returns : goal.returns
unfolding names_of
returns c =
    let few : length c.loop-self.self-inside.declared.items ≤ c.args.start = omega arith in
    names_in-left c.self.inside.declared.items c.loop-self.self-inside.declared.items c.args.start
    few c.loop-self.invariant.same
    ∙ ap (λ l. drop (length l - c.args.start) l) c.self.view_is
