-- The words of a parcel join those of the tapes, one tape after another.
use Rattle.std.proofs.Common.{◌≡◌, refl, sym, ap, ◌∙◌, subst, ℕ, zero, suc, ◌+◌, ◌<◌, ◌≤◌, List, []}
use Rattle.std.proofs.Common.{◌∷◌, ◌++◌, map, set, get_or, take, drop, length, arith, add-one}
use Rattle.std.proofs.Common.{vec_items, vec_capacity}
use Rattle.std.proofs.lemmas.List.{append-nil, take-append-drop}
use Rattle.std.proofs.Math.Seq.{drop-nil, map-set_same}
use Rattle.std.specs.Global.{Vec}
use Rattle.strc_work_meaning.specs.declared.word.Word.{Word}
use Rattle.strc_stage_core.specs.Parcels.{Load, words_at}
use Rattle.strc_stage_steps.specs.Steps.{words_joined}
use Rattle.strc_stage_steps.specs.Gathering.{HasRoom, HaveRoom}

none_joined : (words : List (List Word)) → words_joined words [] ≡ words
none_joined [] = refl
none_joined (own ∷ others) = refl

-- What the tapes have after those up to one were joined, and the others yet to be.
abbrev pub joined_to : (tape : ℕ) → (now : List (Vec Word)) → (more : List (List Word))
    → List (List Word)
joined_to tape now more = take tape (map vec_items now)
    ++ words_joined (drop tape (map vec_items now)) (drop tape more)

none_left : (tape : ℕ) (now : List (Vec Word)) → joined_to tape now [] ≡ map vec_items now
none_left tape now =
    let words = map vec_items now in
    ap (λ m. take tape words ++ words_joined (drop tape words) m) (drop-nil tape)
    ∙ ap (λ l. take tape words ++ l) (none_joined (drop tape words))
    ∙ take-append-drop tape words

module _ (own new : Vec Word) where
  more_joined : (tape : ℕ) (now : List (Vec Word)) (more : List (List Word)) → tape < length now
      → own ≡ get_or now tape own → vec_items new ≡ vec_items own ++ get_or more tape []
      → joined_to (suc tape) (set now tape new) more ≡ joined_to tape now more
  more_joined tape [] more within was is = absurd (omega (arith, within))
  more_joined tape (first ∷ now) [] within was is =
      none_left (suc tape) (set (first ∷ now) tape new)
      ∙ map-set_same vec_items (first ∷ now) tape new own
      (is ∙ append-nil (vec_items own) ∙ ap vec_items was)
      ∙ sym (none_left tape (first ∷ now))
  more_joined zero (first ∷ now) (some ∷ more) within was is =
      ap (λ l. l ∷ words_joined (map vec_items now) more)
      (is ∙ ap (λ o. vec_items o ++ some) was)
  more_joined (suc tape) (first ∷ now) (some ∷ more) within was is =
      ap (λ l. vec_items first ∷ l)
      (more_joined tape now more (omega (arith, within)) was is)

  pub joins : (tape : ℕ) (now : List (Vec Word)) (load : Load) (all : List (List Word))
      → tape < length now → own ≡ get_or now tape own
      → vec_items new ≡ vec_items own ++ words_at load tape
      → joined_to tape now load.words ≡ all
      → joined_to (tape + 1) (set now tape new) load.words ≡ all
  joins tape now load all within was is so_far =
      ap (λ n. joined_to n (set now tape new) load.words) (add-one tape)
      ∙ more_joined tape now load.words within was is ∙ so_far

  -- Room of the tapes before one, and from one on.
  room_before : (load : Load) (first tape : ℕ) (now : List (Vec Word)) → tape < length now
      → HasRoom load (first + tape) new → HaveRoom load first (take tape now)
      → HaveRoom load first (take (suc tape) (set now tape new))
  room_before load first tape [] within has room = absurd (omega (arith, within))
  room_before load first zero (head ∷ now) within has room =
      (subst (λ n. HasRoom load n new) (let e : first + 0 ≡ first = omega arith in e) has, tt)
  room_before load first (suc tape) (head ∷ now) within has room = (
    room.0,
    room_before load (suc first) tape now (omega (arith, within))
        (subst (λ n. HasRoom load n new)
        (let e : first + suc tape ≡ suc first + tape = omega arith in e) has) room.1,
  )

  pub more_room : (load : Load) (tape : ℕ) (now : List (Vec Word)) → tape < length now
      → HasRoom load tape new → HaveRoom load 0 (take tape now)
      → HaveRoom load 0 (take (tape + 1) (set now tape new))
  more_room load tape now within has room =
      subst (λ n. HaveRoom load 0 (take n (set now tape new))) (sym (add-one tape))
      (room_before load 0 tape now within
      (subst (λ n. HasRoom load n new) (let e : tape ≡ 0 + tape = omega arith in e) has) room)

  room_left : (load : Load) (first tape : ℕ) (now : List (Vec Word)) → tape < length now
      → HaveRoom load first (drop tape now)
      → HaveRoom load (suc first) (drop (suc tape) (set now tape new))
  room_left load first tape [] within room = absurd (omega (arith, within))
  room_left load first zero (head ∷ now) within room = room.1
  room_left load first (suc tape) (head ∷ now) within room =
      room_left load first tape now (omega (arith, within)) room

  pub less_room : (load : Load) (tape : ℕ) (now : List (Vec Word)) → tape < length now
      → HaveRoom load tape (drop tape now)
      → HaveRoom load (tape + 1) (drop (tape + 1) (set now tape new))
  less_room load tape now within room =
      subst (λ n. HaveRoom load n (drop n (set now tape new))) (sym (add-one tape))
      (room_left load tape tape now within room)

pub room_here : (load : Load) (first tape : ℕ) (own : Vec Word) (now : List (Vec Word))
    → tape < length now → own ≡ get_or now tape own → HaveRoom load first (drop tape now)
    → HasRoom load first own
room_here load first tape own [] within was room = absurd (omega (arith, within))
room_here load first zero own (head ∷ now) within was room =
    subst (HasRoom load first) (sym was) room.0
room_here load first (suc tape) own (head ∷ now) within was room =
    room_here load first tape own now (omega (arith, within)) was room

-- At the end all have joined.
pub all_joined : (now : List (Vec Word)) (end : ℕ) (more all : List (List Word))
    → length now ≡ end → joined_to end now more ≡ all → map vec_items now ≡ all
all_joined now end more all size so_far =
    sym (ap (λ n. joined_to n now more) (sym size) ∙ at_end now more) ∙ so_far
  where
    at_end : (now : List (Vec Word)) (more : List (List Word))
        → joined_to (length now) now more ≡ map vec_items now
    at_end [] more = refl
    at_end (own ∷ now) [] = none_left (length (own ∷ now)) (own ∷ now)
    at_end (own ∷ now) (some ∷ more) = ap (λ l. vec_items own ∷ l) (at_end now more)
