-- The places of those peeks of which something is known, one after the other.
use Rattle.std.proofs.Common.{◌≡◌, ℕ, ◌+◌, ◌<◌, true, false, List, [], ◌∷◌, length, drop}
use Rattle.std.proofs.Common.{get_or, Option, refl}
use denote.Enum.Bare.{sameb}
use Rattle.strc_lex_names.specs.declared.place.Span.{Span}
use Rattle.strc_rate.specs.contracts.sight.PeekBounds.{the_type as bounds_type}
use Rattle.strc_rate.specs.declared.sight.PeekBounds.{PeekBounds}
use Rattle.strc_cli_statements.specs.Statements.{places_where}
use Rattle.strc_cli_statements.proofs.Walks.{drop-item}

none_where : (known : PeekBounds) (sights : List PeekBounds) → places_where known sights [] ≡ []
none_where known [] = refl
none_where known (sight ∷ sights) = refl

pub none_left : (known : PeekBounds) (sights : List PeekBounds) (places : List (Option Span))
    (i : ℕ) → drop i places ≡ [] → places_where known (drop i sights) (drop i places) ≡ []
none_left known sights places i none = rw none (none_where known (drop i sights))

module _ (known : PeekBounds) (sights : List PeekBounds) (places : List (Option Span)) (i : ℕ)
    (sight : PeekBounds) (within : i < length sights) (is : sight ≡ get_or sights i sight) where
  module _ (place : Option Span) (there : i < length places)
      (at : place ≡ get_or places i place) where
    pub place_taken : sameb bounds_type sight known ≡ true
        → places_where known (drop i sights) (drop i places)
        ≡ place ∷ places_where known (drop (i + 1) sights) (drop (i + 1) places)
    place_taken same =
        rw (drop-item sights i sight within is, drop-item places i place there at, same) refl

    pub place_passed : sameb bounds_type sight known ≡ false
        → places_where known (drop i sights) (drop i places)
        ≡ places_where known (drop (i + 1) sights) (drop (i + 1) places)
    place_passed other =
        rw (drop-item sights i sight within is, drop-item places i place there at, other) refl
