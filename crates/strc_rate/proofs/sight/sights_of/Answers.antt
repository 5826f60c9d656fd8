use Rattle.std.proofs.Common.{◌<◌, ◌++◌, [], ◌∷◌, length, take, map, sym, ap, ◌∙◌, arith}
use Rattle.std.proofs.lemmas.List.{map_more, take_all}
use Rattle.strc_rate.specs.Peeks.{sight_of}
use Rattle.strc_rate.proofs.sight.sights_of.Goals as goal

pub loop-site-init : goal.loop-site-init
loop-site-init c = c.in_ok-sights.ensures.items

pub loop-site-preserved : goal.loop-site-preserved
loop-site-preserved c =
    let f = sight_of c.args.window in
    let i = c.loop-site.site-index in
    let lt : i < length c.args.sites.now = omega arith in
    c.in_ok-push.ensures.items
    ∙ ap (λ l. l ++ c.sight_of.result ∷ []) c.loop-site.invariant
    ∙ ap (λ x. map f (take i c.args.sites.now) ++ x ∷ []) c.sight_of.ensures
    ∙ sym (map_more f c.args.sites.now i _ lt)

pub returns : goal.returns
returns c = c.loop-site.invariant
    ∙ ap (map (sight_of c.args.window))
    (take_all c.loop-site.site-index c.args.sites.now c.loop-site-test.false)
