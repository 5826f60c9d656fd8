use Rattle.std.proofs.Common.{◌≡◌, ◌+◌, ◌∙◌, ◌∷◌, [], ◌++◌, Ok, length, map, sym, refl, arith}
use Rattle.std.proofs.Common.{rules, List, subst}
use Rattle.std.proofs.lemmas.Result.{err_from_is_err_and}
use Rattle.std.proofs.lemmas.List.{map_push}
use Rattle.strc_parse_tree.specs.View.{declaration_view}
use Rattle.strc_parse_grammar.specs.Grammar.{declaration_spelled, height_limit, kinds}
use Rattle.strc_parse_grammar.specs.Reading.{one_more}
use Rattle.strc_parse_grammar.specs.Streams.{at_end, declaration, declarations}
use Rattle.strc_parse_grammar.proofs.Repeated.{Fails-then, end_reached, end_ahead}
use Rattle.strc_lex.specs.declared.token.TokenKind.{TokenKind}
use Rattle.strc_parse_grammar.proofs.ProgramSoundness.{declaration_is_spelled, declaration_shorter}
use Rattle.strc_parse.specs.Placed.{AreStreamsPlaced}
use Rattle.strc_parse.proofs.Placed.{empty_kinds, streams_push}
use Rattle.strc_parse_grammar.proofs.Loops.{goes_on, goes_to, goes_wrong}
use Rattle.strc_parse.proofs.declaration.declarations.Goals as goal

pub loop-rest-init : goal.loop-rest-init
unfolding declarations
loop-rest-init c =
    let empty : c.new-found.result.items ≡ [] = search rules in (
      record {
        turns = length (kinds c.args.tokens.now) + 1;
        enough = omega arith;
        same =
            rw empty refl;
      },
      rw empty tt,
    )

pub returns-in_err-next-clause-gives : goal.returns-in_err-next-clause-gives
unfolding one_more
returns-in_err-next-clause-gives c =
    let p = err_from_is_err_and c.from_residual.result c.from_residual.ensures.1 in
    rw (p.1, p.2) (goes_wrong at_end (one_more (declaration height_limit)) _ _
    (kinds c.loop-rest.rest.now) c.loop-rest.invariant.0 c.in_err-next.field-0.0
    (end_ahead c.loop-rest.rest.now (sym c.is_empty.ensures ∙ c.loop-rest-test.true))
    (Fails-then c.in_err-next.field-0.0 _ _ c.in_err-next.ensures.gives))

pub loop-rest-preserved : goal.loop-rest-preserved
unfolding one_more
loop-rest-preserved c =
    let front = map declaration_view c.loop-rest.found.items in
    let next = declaration_view c.in_ok-next.next in
    let e : map declaration_view c.push.new.self.items ≡ front ++ next ∷ [] =
    rw c.in_ok-push.ensures.items (map_push _ c.loop-rest.found.items c.in_ok-next.next) in
    let one : one_more (declaration height_limit) front (kinds c.loop-rest.rest.now)
    ≡ Ok (front ++ next ∷ [], kinds c.in_ok-next.after.now) = rw c.in_ok-next.ensures.gives refl in
    let less = declaration_shorter _ _ _ c.in_ok-next.ensures.gives in
    let tokens = c.args.tokens.now in
    let found = c.loop-rest.found.items in
    let before : AreStreamsPlaced tokens found
    (declaration_spelled (declaration_view c.in_ok-next.next) (kinds c.in_ok-next.after.now)) =
    subst (λ (rest : List TokenKind). AreStreamsPlaced tokens found rest)
    (declaration_is_spelled _ _ _ c.in_ok-next.ensures.gives) c.loop-rest.invariant.1 in (
      rw e (goes_on at_end (one_more (declaration height_limit)) _ front
          (kinds c.loop-rest.rest.now) c.loop-rest.invariant.0 _ _ less
          (end_ahead c.loop-rest.rest.now (sym c.is_empty.ensures ∙ c.loop-rest-test.true)) one),
      rw c.in_ok-push.ensures.items (streams_push tokens found c.in_ok-next.next
          (kinds c.in_ok-next.after.now) before c.in_ok-next.ensures.placed),
    )

pub loop-rest-smaller : goal.loop-rest-smaller
loop-rest-smaller c = declaration_shorter _ _ _ c.in_ok-next.ensures.gives

pub returns-clause-gives : goal.returns-clause-gives
returns-clause-gives c =
    goes_to at_end (one_more (declaration height_limit)) _
    (map declaration_view c.loop-rest.found.items)
    (kinds c.loop-rest.rest.now) c.loop-rest.invariant.0 _
    (end_reached c.loop-rest.rest.now (sym c.is_empty.ensures ∙ c.loop-rest-test.false))

pub returns-clause-placed : goal.returns-clause-placed
returns-clause-placed c =
    subst (λ (rest : List TokenKind). AreStreamsPlaced c.args.tokens.now c.loop-rest.found.items
    rest) (empty_kinds c.loop-rest.rest.now
    (sym c.is_empty.ensures ∙ c.loop-rest-test.false)) c.loop-rest.invariant.1
