-- A loop's step that reads one more item, beside the definition's turn.
use Rattle.std.proofs.Common.{◌≡◌, ℕ, List, [], ◌∷◌, ◌++◌, map, Result, Ok, Err, inl, inr, refl}
use Rattle.std.proofs.lemmas.List.{map_push}
use Rattle.std.specs.Global.{Vec}
use Rattle.strc_lex.specs.declared.token.TokenKind.{TokenKind}
use Rattle.strc_parse_grammar.specs.declared.error.ReadError.{ReadError}
use Rattle.strc_parse_grammar.specs.Grammar.{kinds}
use Rattle.strc_parse_grammar.specs.Reading.{Fails, Gives, Tall, one_taller}
use Rattle.strc_parse_grammar.proofs.Repeated.{Fails-then}
use Rattle.strc_parse_grammar.specs.declared.rule_result.Parsed.{Parsed}
use Rattle.strc_parse_grammar.specs.Seen.{parsed}
use Rattle.strc_parse_grammar.specs.Sequence.{IsGrown}

module _ {T B : Type 0} (view : T → B) (reader : List TokenKind → Tall B)
    (so_far : Parsed (Vec T)) (next : Result (Parsed T) ReadError)
    (gives : Gives (parsed view) next (reader (kinds so_far.rest.now))) where
  pub grown_read : (x : Parsed (Vec T)) → IsGrown so_far next (Ok x)
      → (tree : B) × (height : ℕ)
      × (reader (kinds so_far.rest.now) ≡ Ok (tree, height, kinds x.rest.now))
  grown_read x grown =
      let read = rw grown.1 at gives in
      (view grown.0.value, grown.0.height, rw grown.4 read)

  pub grown_turn : (x : Parsed (Vec T)) → IsGrown so_far next (Ok x)
      → one_taller reader (map view so_far.value.items, so_far.height) (kinds so_far.rest.now)
      ≡ Ok ((map view x.value.items, x.height), kinds x.rest.now)
  unfolding one_taller
  grown_turn x grown =
      let read = rw grown.1 at gives in
      let items : map view x.value.items
      ≡ map view so_far.value.items ++ view grown.0.value ∷ [] =
      rw grown.2 (map_push view so_far.value.items grown.0.value) in
      rw (items, grown.3, grown.4, read) refl

  fails_at : (e : ReadError) → IsGrown so_far next (Err e)
      → Fails e (reader (kinds so_far.rest.now))
  fails_at e grown = elim grown [
    | inl failed ↦ rw failed at gives
    | inr memory ↦ rw memory.0 tt
  ]

  pub grown_fails : (e : ReadError) → IsGrown so_far next (Err e)
      → Fails e (one_taller reader (map view so_far.value.items, so_far.height)
      (kinds so_far.rest.now))
  unfolding one_taller
  grown_fails e grown = Fails-then e _ _ (fails_at e grown)
