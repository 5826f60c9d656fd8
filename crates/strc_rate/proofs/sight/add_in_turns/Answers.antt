use Rattle.std.proofs.Common.{◌<◌, ◌++◌, [], ◌∷◌, length, take, map, sym, ap, ◌∙◌, append_assoc}
use Rattle.std.proofs.Common.{arith}
use Rattle.std.proofs.lemmas.List.{append-nil, map_more, take_all}
use Rattle.strc_rate.specs.Peeks.{site_in_turns}
use Rattle.strc_rate.proofs.sight.add_in_turns.Goals as goal

pub loop-site-init : goal.loop-site-init
loop-site-init c = sym (append-nil c.args.sites.now.items)

pub loop-site-preserved : goal.loop-site-preserved
loop-site-preserved c =
    let f = site_in_turns c.args.turns c.args.counts in
    let before = c.args.sites.now.items in
    let i = c.loop-site.site-index in
    let so_far = map f (take i c.args.body.now) in
    let lt : i < length c.args.body.now = omega arith in
    c.in_ok-push.ensures.items
    ∙ ap (λ l. l ++ c.site_in_turns.result ∷ []) c.loop-site.invariant
    ∙ append_assoc before so_far (c.site_in_turns.result ∷ [])
    ∙ ap (λ x. before ++ (so_far ++ x ∷ [])) c.site_in_turns.ensures
    ∙ ap (λ l. before ++ l) (sym (map_more f c.args.body.now i _ lt))

pub returns : goal.returns
returns c = c.loop-site.invariant
    ∙ ap (λ l. c.args.sites.now.items ++ map (site_in_turns c.args.turns c.args.counts) l)
    (take_all c.loop-site.site-index c.args.body.now c.loop-site-test.false)
