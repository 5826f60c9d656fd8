-- The rings of channels before any firing, one after another.
use Rattle.std.proofs.Common.{◌≡◌, refl, sym, ap, ◌∙◌, ℕ, zero, suc, ◌+◌, ◌<◌, ◌≤◌, List, [], ◌∷◌}
use Rattle.std.proofs.Common.{◌++◌, length, map, get_or, arith, ◌⊎◌, inl, inr}
use Rattle.std.specs.Prelude.{Some, slice_get, slice_index}
use Rattle.std.specs.Option.{option_map}
use Rattle.std.proofs.lemmas.List.{length-append, length-map}
use Rattle.std.proofs.lemmas.Option.{slice_get-get_or, slice_get-map, slice_get_within}
use Rattle.strc_elab_graph.specs.Graphs.{Channel}
use Rattle.strc_elab_graph.specs.NodeView.{channel_view}
use Rattle.strc_elab_graph.specs.declared.graph.Channel as declared
use Rattle.strc_sched_laws.specs.Rings.{Ring, ring_at, first_ring, AreFirst}

-- the rings of the first so many channels
pub record AreFirstSo (channels : List Channel) (sizes : List ℕ) (count : ℕ) (rings : List Ring)
    : Type 0 where
  pub each : length rings ≡ count
  pub within : count ≤ length channels
  pub first : (number : ℕ) (channel : Channel) → number < count
      → slice_get channels number ≡ Some channel
      → ring_at rings number ≡ first_ring channel (slice_index sizes number)

at_last : (rings : List Ring) (ring d : Ring) → get_or (rings ++ ring ∷ []) (length rings) d ≡ ring
at_last [] ring d = refl
at_last (first ∷ rings) ring d = at_last rings ring d

at_before : (rings more : List Ring) (number : ℕ) (d : Ring) → number < length rings
    → get_or (rings ++ more) number d ≡ get_or rings number d
at_before [] more number d less = absurd (omega arith)
at_before (first ∷ rings) more zero d less = refl
at_before (first ∷ rings) more (suc number) d less = at_before rings more number d (omega arith)

pub first_next : (channels : List Channel) (sizes : List ℕ) (count : ℕ) (rings : List Ring)
    (ring : Ring) (channel : Channel) → AreFirstSo channels sizes count rings
    → slice_get channels count ≡ Some channel
    → ring ≡ first_ring channel (slice_index sizes count)
    → AreFirstSo channels sizes (count + 1) (rings ++ ring ∷ [])
first_next channels sizes count rings ring channel h here is = record {
  each = length-append rings (ring ∷ []) ∙ ap (λ n. n + 1) h.each;
  within = let less = slice_get_within channels count channel here in omega arith;
  first = λ number other less there. by_place number other there
      (let e : number < suc count = omega arith in before_or_last number count e);
}
  where
    before_or_last : (number count : ℕ) → number < suc count → (number < count) ⊎ (number ≡ count)
    before_or_last zero zero less = inr refl
    before_or_last zero (suc count) less = inl (omega arith)
    before_or_last (suc number) zero less = absurd (omega arith)
    before_or_last (suc number) (suc count) less = further
        (before_or_last number count (omega arith))
      where
        further : (number < count) ⊎ (number ≡ count)
            → (suc number < suc count) ⊎ (suc number ≡ suc count)
        further (inl e) = inl (omega arith)
        further (inr e) = inr (ap suc e)

    same_channel : (one other : Channel) → slice_get channels count ≡ Some one
        → slice_get channels count ≡ Some other → one ≡ other
    same_channel one other h k = cc

    by_place : (number : ℕ) (other : Channel) → slice_get channels number ≡ Some other
        → (number < count) ⊎ (number ≡ count)
        → ring_at (rings ++ ring ∷ []) number ≡ first_ring other (slice_index sizes number)
    by_place number other there (inl less) =
        at_before rings (ring ∷ []) number _ (let e = h.each in omega arith)
        ∙ h.first number other less there
    by_place number other there (inr same) =
        let channel_is : channel ≡ other = same_channel channel other here
        (ap (slice_get channels) (sym same) ∙ there) in
        ap (ring_at (rings ++ ring ∷ [])) (same ∙ sym h.each)
        ∙ at_last rings ring _ ∙ is
        ∙ ap (λ (c : Channel). first_ring c (slice_index sizes count)) channel_is
        ∙ ap (λ n. first_ring other (slice_index sizes n)) (sym same)

-- a channel by its number, as the definitions see it
pub view_at : (channels : List declared.Channel) (number : ℕ) (channel : declared.Channel)
    → number < length channels → channel ≡ get_or channels number channel
    → slice_get (map channel_view channels) number ≡ Some (channel_view channel)
view_at channels number channel less is =
    slice_get-map channel_view channels number
    ∙ ap (option_map channel_view) (slice_get-get_or channels number channel less
    ∙ ap (λ (c : declared.Channel). Some c) (sym is))

pub all_first : (channels : List declared.Channel) (sizes : List ℕ) (count : ℕ) (rings : List Ring)
    → length channels ≤ count → AreFirstSo (map channel_view channels) sizes count rings
    → AreFirst (map channel_view channels) sizes rings
all_first channels sizes count rings past h = record {
  each = let e = h.each in let w = h.within in let l = length-map channels channel_view in
      omega arith;
  first = λ number channel there.
      let less = slice_get_within (map channel_view channels) number channel there in
      let l = length-map channels channel_view in
      h.first number channel (omega arith) there;
}
