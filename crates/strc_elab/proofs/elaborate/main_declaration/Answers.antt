use Rattle.std.proofs.Common.{rules, ◌≡◌, ℕ, ◌<◌, length, get_or, Ok, option_map, ap, ◌∙◌, arith}
use Rattle.strc_parse_tree.specs.View.{declaration_view}
use Rattle.strc_elab.proofs.Mains.{main_at, numbered_at}
use Rattle.strc_elab.proofs.elaborate.main_declaration.Goals as goal

pub offset_bounds-declarations-number : goal.offset_bounds-declarations-number
offset_bounds-declarations-number c =
    let all = c.args.declarations.now in
    let found = main_at all (option_map (λ n. n.now) c.args.main) c.in_ok-number.number
    (declaration_view c.in_ok-number.field-0-1.now) c.in_ok-number.ensures in
    let place = found.place in
    let within = found.within in
    let below : c.in_ok-number.number < length all = omega (arith, place, within) in
    search rules

pub bounds-declarations-number : goal.bounds-declarations-number
bounds-declarations-number c =
    let found = main_at c.args.declarations.now (option_map (λ n. n.now) c.args.main)
    c.in_ok-number.number (declaration_view c.in_ok-number.field-0-1.now) c.in_ok-number.ensures in
    let place = found.place in
    let within = found.within in
    omega (arith, place, within)

pub returns-clause-verdict : goal.returns-clause-verdict
returns-clause-verdict c =
    let all = c.args.declarations.now in
    let n = c.in_ok-number.number in
    let x = c.index-declarations-number.result in
    let found = main_at all (option_map (λ n. n.now) c.args.main) n
    (declaration_view c.in_ok-number.field-0-1.now) c.in_ok-number.ensures in
    let place = found.place in
    let here : n ≡ found.offset = omega (arith, place) in
    let at : x ≡ get_or all found.offset x =
    c.index-declarations-number.is ∙ ap (λ (k : ℕ). get_or all k x) here in
    c.in_ok-number.ensures ∙ ap (λ d. Ok (n, d)) (found.declared x at)

pub returns-clause-declared : goal.returns-clause-declared
returns-clause-declared c =
    let all = c.args.declarations.now in
    let n = c.in_ok-number.number in
    let found = main_at all (option_map (λ n. n.now) c.args.main) n
    (declaration_view c.in_ok-number.field-0-1.now) c.in_ok-number.ensures in
    let place = found.place in
    let within = found.within in
    numbered_at all n c.index-declarations-number.result (omega (arith, place, within))
    c.index-declarations-number.is
