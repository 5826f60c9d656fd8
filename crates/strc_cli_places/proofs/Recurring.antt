-- Statements that add streams, one of a list of them, and the streams that are reached by them.
use Rattle.std.proofs.Common.{◌≡◌, ℕ, ◌<◌, List, [], ◌∷◌, ◌++◌, map, length, get_or, All, Any, Bor}
use Rattle.std.proofs.Common.{Option, Some, refl, sym, subst}
use Rattle.std.proofs.lemmas.List.{get_or-map, length-map}
use Rattle.std.proofs.lemmas.List.Elements.{All-push}
use Rattle.strc_lex_names.specs.declared.place.Span.{Span}
use Rattle.strc_parse_tree.specs.declared.tree.Decl.{Decl}
use Rattle.strc_parse_tree.specs.declared.tree.Program.{Program}
use Rattle.strc_cli_places.specs.Additions.{addition_view}
use Rattle.strc_cli_places.specs.Streams.{declared_as, additions_in_stream, Adds, LeadsTo}
use Rattle.strc_cli_places.specs.Streams.{IsRecursive}
use Rattle.strc_cli_places.specs.declared.recursion.Addition.{Addition}

listed : (P : Span × List ℕ → Type 0) (items : List Addition) (k : ℕ) (d : Addition)
    → k < length items → P (addition_view (get_or items k d)) → Any P (map addition_view items)
listed P items k d within holds =
    let found = addition_view (get_or items k d) in
    let there : k < length (map addition_view items) = rw (length-map items addition_view) within in
    (k, found, there, get_or-map addition_view items k d found within, holds)

module _ (program : Option Program) (declaration : Decl) (items : List Addition) (k : ℕ)
    (d : Addition) (is : declared_as declaration.name program ≡ Some declaration)
    (same : map addition_view items ≡ additions_in_stream declaration.stream)
    (within : k < length items) where
  -- a declared stream adds one of its list
  pub adds_listed : Adds program declaration.name (get_or items k d).name.now
  adds_listed = let name = (get_or items k d).name.now in (
    declaration,
    is,
    subst (Any (λ addition. addition.1 ≡ name)) same
        (listed (λ addition. addition.1 ≡ name) items k d within refl),
  )

  -- and that one leads to it
  pub recurs_listed : LeadsTo program (get_or items k d).name.now declaration.name
      → IsRecursive program (get_or items k d).place
  recurs_listed leads = let added = get_or items k d in (
    declaration,
    added.name.now,
    is,
    subst (Any (λ addition. addition ≡ (added.place, added.name.now))) same
        (listed (λ addition. addition ≡ (added.place, added.name.now)) items k d within refl),
    leads,
  )

-- one more stream is reached
pub reached_more : (program : Option Program) (name : List ℕ) (old new : List (Bor (List ℕ)))
    (next : Bor (List ℕ)) → new ≡ old ++ (next ∷ [])
    → All (λ reached. LeadsTo program name reached.now) old → LeadsTo program name next.now
    → All (λ reached. LeadsTo program name reached.now) new
reached_more program name old new next is before leads =
    subst (All (λ reached. LeadsTo program name reached.now)) (sym is)
    (All-push (λ reached. LeadsTo program name reached.now) old next before leads)
