-- One more tape is told apart from those before it.
use Rattle.std.proofs.Common.{◌≡◌, ◌∙◌, ℕ, ◌<◌, ◌+◌, List, [], ◌∷◌, ◌++◌, length, map, take, drop}
use Rattle.std.proofs.Common.{get_or, append_assoc, ap, sym}
use Rattle.std.proofs.lemmas.List.{drop_more, get_or_default, map_more, map_push}
use Rattle.strc_cli_tapes.specs.TapeNames.{told, told_apart}

pub one_more : {X Y : Type 0} (own : X → ℕ × List ℕ) (named : Y → ℕ × List ℕ) (owns : List X)
    (place : ℕ) (it : X) (before after : List Y) (new : Y) (whole : List (ℕ × List ℕ))
    → place < length owns → it ≡ get_or owns place it → after ≡ before ++ new ∷ []
    → named new ≡ told (map own (take place owns)) (own it)
    → map named before ++ told_apart (map own (take place owns)) (map own (drop place owns)) ≡ whole
    → map named after
    ++ told_apart (map own (take (place + 1) owns)) (map own (drop (place + 1) owns)) ≡ whole
one_more own named owns place it before after new whole within is added name invariant =
    let earlier = map own (take place owns) in
    let rest = map own (drop (place + 1) owns) in
    let left : drop place owns ≡ it ∷ drop (place + 1) owns =
    drop_more owns place it within ∙ ap (λ x. x ∷ drop (place + 1) owns) (sym is) in
    let later : map own (take (place + 1) owns) ≡ earlier ++ own it ∷ [] =
    map_more own owns place it within ∙ ap (λ x. earlier ++ own x ∷ []) (sym is) in
    let first : told_apart earlier (map own (drop place owns))
    ≡ named new ∷ told_apart (map own (take (place + 1) owns)) rest =
    ap (λ l. told_apart earlier (map own l)) left
    ∙ (ap (λ l. told earlier (own it) ∷ told_apart l rest) (sym later)
    ∙ ap (λ t. t ∷ told_apart (map own (take (place + 1) owns)) rest) (sym name)) in
    ap (λ l. map named l ++ told_apart (map own (take (place + 1) owns)) rest) added
    ∙ (ap (λ l. l ++ told_apart (map own (take (place + 1) owns)) rest) (map_push named before new)
    ∙ (append_assoc (map named before) (named new ∷ [])
    (told_apart (map own (take (place + 1) owns)) rest)
    ∙ (ap (λ l. map named before ++ l) (sym first) ∙ invariant)))

-- whatever stands where there is no tape
pub one_more_at : {X Y : Type 0} (own : X → ℕ × List ℕ) (named : Y → ℕ × List ℕ) (owns : List X)
    (place : ℕ) (d : X) (before after : List Y) (new : Y) (whole : List (ℕ × List ℕ))
    → place < length owns → after ≡ before ++ new ∷ []
    → named new ≡ told (map own (take place owns)) (own (get_or owns place d))
    → map named before ++ told_apart (map own (take place owns)) (map own (drop place owns)) ≡ whole
    → map named after
    ++ told_apart (map own (take (place + 1) owns)) (map own (drop (place + 1) owns)) ≡ whole
one_more_at own named owns place d before after new whole within added name invariant =
    one_more own named owns place (get_or owns place d) before after new whole within
    (get_or_default owns place d _ within) added name invariant
