-- How many nodes are in a composite stream.
use Rattle.std.proofs.Common.{◌≡◌, ◌∙◌, ◌<◌, ◌≤◌, ◌+◌, ℕ, zero, suc, List, [], ◌∷◌, min, arith, refl}
use Rattle.std.proofs.Common.{ap, ap₂, drop, get_or, length, sym}
use Rattle.std.proofs.lemmas.List.{drop_all, drop_more}
use Rattle.strc_elab_paths.specs.declared.outline.Part.{Part}
use Rattle.strc_elab_paths.specs.declared.outline.Part.TheVariants as part
use Rattle.strc_cli_pictures.specs.Boxes.{count_within, most}

-- no count is more than the greatest number
pub count_held : (level : ℕ) (parts : List Part)
    → min (count_within level parts) most ≡ count_within level parts
count_held level [] = refl
count_held level (part.Node label ∷ parts) = omega arith
count_held level (part.Open label ∷ parts) = count_held (suc level) parts
count_held zero (part.Close ∷ parts) = refl
count_held (suc level) (part.Close ∷ parts) = count_held level parts

-- none is left
counted : (count left whole : ℕ) → left ≡ 0 → count ≤ most → min (count + left) most ≡ whole
    → count ≡ whole
counted count left whole none held is = omega (arith, none, held, is)

pub count_all : (count level index whole : ℕ) (parts : List Part) → length parts ≤ index
    → count ≤ most → min (count + count_within level (drop index parts)) most ≡ whole
    → count ≡ whole
count_all count level index whole parts past held is =
    counted count (count_within level (drop index parts)) whole
    (ap (count_within level) (drop_all index parts past)) held is

-- the composite stream ends at a part
pub count_ended : (count level index whole : ℕ) (parts : List Part) (own : Part)
    → index < length parts → own ≡ get_or parts index own → own ≡ part.Close → level ≡ 0
    → count ≤ most → min (count + count_within level (drop index parts)) most ≡ whole
    → count ≡ whole
count_ended count level index whole parts own less at closes none held is =
    let next : drop index parts ≡ part.Close ∷ drop (index + 1) parts =
    drop_more parts index own less
    ∙ ap (λ (p : Part). p ∷ drop (index + 1) parts) (sym at ∙ closes) in
    counted count (count_within level (drop index parts)) whole
    (ap₂ count_within none next) held is
