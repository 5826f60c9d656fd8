-- What a stage's step does to the blocks, words and rooms of a load, and to its rings and words.
use Rattle.std.proofs.Common.{◌≡◌, refl, sym, ap, ◌∙◌, ℕ, ◌+◌, ◌-◌, ◌<◌, ℤ, Bool, true, List, []}
use Rattle.std.proofs.Common.{◌∷◌, ◌++◌, length, take, Some, slice_get, slice_index_or, arith}
use Rattle.std.specs.Prelude.{slice_set}
use Rattle.std.proofs.lemmas.Option.{same_Some, slice_get_within}
use Rattle.std.proofs.lemmas.List.{get_or-set_same, get_or-set_other, length-set, length-replicate}
use Rattle.circular_buffer.specs.Buffer.{buffer}
use Rattle.strc_work_meaning.specs.declared.word.Word.{Word}
use Rattle.strc_elab_graph.specs.Graphs.{NodeCode, Channel, gives_words}
use Rattle.strc_stage_core.specs.Parcels as parcels
use Rattle.strc_stage_core.specs.Parcels.{Load, block_at, room_at, with_block, with_words}
use Rattle.strc_sched_laws.specs.Machine.{words_at}
use Rattle.strc_sched_laws.specs.Rings.{Ring, ring_at, items_at, extended, given}
use Rattle.strc_stage_steps.specs.Steps.{Crossing, TapeOf, rings_entered, load_entered}
use Rattle.strc_stage_steps.specs.Steps.{load_left, emptied_ring, rings_left, load_worded}
use Rattle.strc_stage_steps.specs.Steps.{words_left}
use Rattle.strc_stage_steps.specs.Beginnings.{stage_at, crosses, begins_in, ends_in, entering_at}
use Rattle.strc_stage_steps.specs.Beginnings.{leaving_at, tapes_at, crossings_from}
use Rattle.strc_stage_steps.specs.CrossingBlocks.{IsShaped, passed_before}
use Rattle.strc_stage_steps.proofs.Folds.{In, folded, folded_keeps, folded_elsewhere}
use Rattle.strc_stage_steps.proofs.Folds.{folded_there}
use Rattle.strc_stage_steps.proofs.Crossings.{before_apart, block_before}
use Rattle.strc_stage_steps.proofs.Crossings.{is_crossing, crossing_in, rings_rise, blocks_rise}
use Rattle.strc_stage_steps.proofs.Crossings.{is_tape, tape_in, tapes_rise}

-- ---- each is a fold of changes

abbrev entered_block : Crossing → Load → Load
entered_block crossing load = with_block load crossing.block []

abbrev left_block : List Ring → Crossing → Load → Load
left_block rings crossing load =
    parcels.filled load crossing.block (items_at rings (Some crossing.ring))

abbrev worded : List (List Word) → TapeOf → Load → Load
worded words own load = with_words load own.tape (words_at words own.node)

abbrev entered_ring : Load → Crossing → List Ring → List Ring
entered_ring load crossing rings =
    given (Some crossing.ring) (block_at load crossing.block) rings

abbrev left_ring : Crossing → List Ring → List Ring
left_ring crossing rings =
    slice_set rings crossing.ring (emptied_ring (ring_at rings crossing.ring))

abbrev left_words : TapeOf → List (List Word) → List (List Word)
left_words own words = slice_set words own.node []

load_entered_folds : (crossings : List Crossing) (load : Load)
    → load_entered crossings load ≡ folded entered_block crossings load
load_entered_folds [] load = refl
load_entered_folds (crossing ∷ others) load =
    load_entered_folds others (entered_block crossing load)

load_left_folds : (rings : List Ring) (crossings : List Crossing) (load : Load)
    → load_left crossings rings load ≡ folded (left_block rings) crossings load
load_left_folds rings [] load = refl
load_left_folds rings (crossing ∷ others) load =
    load_left_folds rings others (left_block rings crossing load)

load_worded_folds : (words : List (List Word)) (own : List TapeOf) (load : Load)
    → load_worded own words load ≡ folded (worded words) own load
load_worded_folds words [] load = refl
load_worded_folds words (tape ∷ others) load =
    load_worded_folds words others (worded words tape load)

rings_entered_folds : (load : Load) (crossings : List Crossing) (rings : List Ring)
    → rings_entered crossings load rings ≡ folded (entered_ring load) crossings rings
rings_entered_folds load [] rings = refl
rings_entered_folds load (crossing ∷ others) rings =
    rings_entered_folds load others (entered_ring load crossing rings)

rings_left_folds : (crossings : List Crossing) (rings : List Ring)
    → rings_left crossings rings ≡ folded left_ring crossings rings
rings_left_folds [] rings = refl
rings_left_folds (crossing ∷ others) rings =
    rings_left_folds others (left_ring crossing rings)

words_left_folds : (own : List TapeOf) (words : List (List Word))
    → words_left own words ≡ folded left_words own words
words_left_folds [] words = refl
words_left_folds (tape ∷ others) words = words_left_folds others (left_words tape words)

-- ---- shapes

module _ (rooms : List ℕ) (tapes : ℕ) where
  abbrev Fine : Load → Type 0
  Fine = IsShaped rooms tapes

  block_fine : (number : ℕ) (items : List ℤ) (load : Load) → Fine load
      → Fine (with_block load number items)
  block_fine number items load fine = record {
    blocks = length-set load.blocks number items ∙ fine.blocks;
    rooms_are = fine.rooms_are;
    words = fine.words;
  }

  words_fine : (number : ℕ) (more : List Word) (load : Load) → Fine load
      → Fine (with_words load number more)
  words_fine number more load fine = record {
    blocks = fine.blocks;
    rooms_are = fine.rooms_are;
    words = length-set load.words number more ∙ fine.words;
  }

  load_fine : (load other : Load) → load ≡ other → Fine other → Fine load
  load_fine load other e fine = record {
    blocks = ap (λ (l : Load). length l.blocks) e ∙ fine.blocks;
    rooms_are = ap (λ (l : Load). l.rooms) e ∙ fine.rooms_are;
    words = ap (λ (l : Load). length l.words) e ∙ fine.words;
  }

  pub entered_shaped : (crossings : List Crossing) (load : Load) → Fine load
      → Fine (load_entered crossings load)
  entered_shaped [] load fine = fine
  entered_shaped (crossing ∷ others) load fine =
      entered_shaped others (with_block load crossing.block [])
      (block_fine crossing.block [] load fine)

  pub left_shaped : (crossings : List Crossing) (rings : List Ring) (load : Load) → Fine load
      → Fine (load_left crossings rings load)
  left_shaped [] rings load fine = fine
  left_shaped (crossing ∷ others) rings load fine =
      left_shaped others rings (left_block rings crossing load)
      (block_fine crossing.block
      (block_at load crossing.block
      ++ take (room_at load crossing.block - length (block_at load crossing.block))
      (items_at rings (Some crossing.ring))) load fine)

  pub worded_shaped : (own : List TapeOf) (words : List (List Word)) (load : Load) → Fine load
      → Fine (load_worded own words load)
  worded_shaped [] words load fine = fine
  worded_shaped (tape ∷ others) words load fine =
      worded_shaped others words (worded words tape load)
      (words_fine tape.tape (words_at words tape.node) load fine)

  pub emptied_shaped : (load : Load) → Fine load → Fine (parcels.emptied load)
  emptied_shaped load fine = record {
    blocks = length-replicate (length load.blocks) [] ∙ fine.blocks;
    rooms_are = fine.rooms_are;
    words = length-replicate (length load.words) [] ∙ fine.words;
  }

module _ (bound : (stage : ℕ) → ℕ) (last stage : ℕ) (channels : List Channel) where
  abbrev pub block_of : ℕ → ℕ
  block_of k = block_before bound last channels k

  abbrev place_of : ℕ → Crossing
  place_of k = record { block = block_of k; ring = k }

  abbrev all_picked : (Channel → Bool) → List Crossing
  all_picked picked = crossings_from bound last 0 0 picked channels

  module _ (k : ℕ) (channel : Channel) (there : slice_get channels k ≡ Some channel) where
    -- Another channel's ring is elsewhere, and so is its block.
    ring_apart : (picked : Channel → Bool)
        → (crosses bound last channel ≡ true → picked channel ≡ true → ⊥)
        → (element : Crossing) → In element (all_picked picked) → k ≡ element.ring → ⊥
    ring_apart picked not_it element among e =
        let is = is_crossing bound last picked 0 0 channels element among in
        let at : k ≡ is.k = omega (arith, e, is.ring_is) in
        let same : is.channel ≡ channel = same_Some is.channel channel
        (sym is.listed ∙ ap (slice_get channels) (sym at) ∙ there) in
        not_it (ap (crosses bound last) (sym same) ∙ is.crossing)
        (ap picked (sym same) ∙ is.is_picked)

    block_apart : (picked : Channel → Bool) → crosses bound last channel ≡ true
        → (picked channel ≡ true → ⊥)
        → (element : Crossing) → In element (all_picked picked) → block_of k ≡ element.block → ⊥
    block_apart picked crossing not_it element among e =
        let is = is_crossing bound last picked 0 0 channels element among in
        let at : k ≡ is.k = before_apart (crosses bound last) channels k is.k channel is.channel
        there crossing is.listed is.crossing (omega (arith, e, is.block_is)) in
        let same : is.channel ≡ channel = same_Some is.channel channel
        (sym is.listed ∙ ap (slice_get channels) (sym at) ∙ there) in
        not_it (ap picked (sym same) ∙ is.is_picked)

    place_in : (picked : Channel → Bool) → crosses bound last channel ≡ true
        → picked channel ≡ true → In (place_of k) (all_picked picked)
    place_in picked crossing pick =
        crossing_in bound last picked 0 0 channels k channel (block_of k) k there crossing pick
        (omega arith) (omega arith)

    -- ---- rings

    module _ (rings : List Ring) (each : length rings ≡ length channels) where
      ring_there : k < length rings
      ring_there = omega (arith, each, slice_get_within channels k channel there)

      ring_elsewhere : (load : Load) (crossing : Crossing) (r : List Ring) (other : ℕ)
          → (other ≡ crossing.ring → ⊥)
          → ring_at (entered_ring load crossing r) other ≡ ring_at r other
      ring_elsewhere load crossing r other differs =
          get_or-set_other r crossing.ring other
          (extended (block_at load crossing.block) (ring_at r crossing.ring)) (buffer [] 0) differs

      -- A channel that comes in has its block's items behind its own.
      pub ring_entered : (load : Load) → crosses bound last channel ≡ true
          → ends_in bound last stage channel ≡ true
          → ring_at (rings_entered (entering_at bound last stage channels) load rings) k
          ≡ extended (block_at load (block_of k)) (ring_at rings k)
      ring_entered load crossing ends =
          ap (λ (r : List Ring). ring_at r k)
          (rings_entered_folds load (all_picked (ends_in bound last stage)) rings)
          ∙ folded_there (entered_ring load) (λ (c : Crossing). c.ring) ring_at
          (λ (r : List Ring). length r ≡ length channels)
          (λ c r e. length-set r c.ring
          (extended (block_at load c.block) (ring_at r c.ring)) ∙ e)
          (ring_elsewhere load)
          (λ c v. extended (block_at load c.block) v) (λ c. c.ring < length channels)
          (λ c r e less. get_or-set_same r c.ring
          (extended (block_at load c.block) (ring_at r c.ring)) (buffer [] 0)
          (omega (arith, e, less)))
          (all_picked (ends_in bound last stage)) rings (place_of k) each
          (rings_rise bound last (ends_in bound last stage) 0 0 channels)
          (place_in (ends_in bound last stage) crossing ends)
          (slice_get_within channels k channel there)

      pub ring_not_entered : (load : Load)
          → (crosses bound last channel ≡ true → ends_in bound last stage channel ≡ true → ⊥)
          → ring_at (rings_entered (entering_at bound last stage channels) load rings) k
          ≡ ring_at rings k
      ring_not_entered load not_it =
          ap (λ (r : List Ring). ring_at r k)
          (rings_entered_folds load (all_picked (ends_in bound last stage)) rings)
          ∙ folded_elsewhere (entered_ring load) (λ (c : Crossing). c.ring) ring_at
          (λ (r : List Ring). Unit {0}) (λ c r e. e) (ring_elsewhere load)
          (all_picked (ends_in bound last stage)) rings k
          (ring_apart (ends_in bound last stage) not_it)

      left_elsewhere : (crossing : Crossing) (r : List Ring) (other : ℕ)
          → (other ≡ crossing.ring → ⊥)
          → ring_at (left_ring crossing r) other ≡ ring_at r other
      left_elsewhere crossing r other differs =
          get_or-set_other r crossing.ring other (emptied_ring (ring_at r crossing.ring))
          (buffer [] 0) differs

      -- One that goes out leaves its ring empty.
      pub ring_left : crosses bound last channel ≡ true
          → begins_in bound last stage channel ≡ true
          → ring_at (rings_left (leaving_at bound last stage channels) rings) k
          ≡ emptied_ring (ring_at rings k)
      ring_left crossing begins =
          ap (λ (r : List Ring). ring_at r k)
          (rings_left_folds (all_picked (begins_in bound last stage)) rings)
          ∙ folded_there left_ring (λ (c : Crossing). c.ring) ring_at
          (λ (r : List Ring). length r ≡ length channels)
          (λ c r e. length-set r c.ring (emptied_ring (ring_at r c.ring)) ∙ e) left_elsewhere
          (λ c v. emptied_ring v) (λ c. c.ring < length channels)
          (λ c r e less. get_or-set_same r c.ring (emptied_ring (ring_at r c.ring)) (buffer [] 0)
          (omega (arith, e, less)))
          (all_picked (begins_in bound last stage)) rings (place_of k) each
          (rings_rise bound last (begins_in bound last stage) 0 0 channels)
          (place_in (begins_in bound last stage) crossing begins)
          (slice_get_within channels k channel there)

      pub ring_not_left :
          (crosses bound last channel ≡ true → begins_in bound last stage channel ≡ true → ⊥)
          → ring_at (rings_left (leaving_at bound last stage channels) rings) k ≡ ring_at rings k
      ring_not_left not_it =
          ap (λ (r : List Ring). ring_at r k)
          (rings_left_folds (all_picked (begins_in bound last stage)) rings)
          ∙ folded_elsewhere left_ring (λ (c : Crossing). c.ring) ring_at
          (λ (r : List Ring). Unit {0}) (λ c r e. e) left_elsewhere
          (all_picked (begins_in bound last stage)) rings k
          (ring_apart (begins_in bound last stage) not_it)

    -- ---- blocks

    module _ (rooms : List ℕ) (tapes : ℕ) (crossing : crosses bound last channel ≡ true)
        (within : block_of k < length rooms) where
      block_elsewhere : (b : ℕ) (items : List ℤ) (load : Load) (other : ℕ) → (other ≡ b → ⊥)
          → block_at (with_block load b items) other ≡ block_at load other
      block_elsewhere b items load other differs =
          get_or-set_other load.blocks b other items [] differs

      block_here : (b : ℕ) (items : List ℤ) (load : Load) → IsShaped rooms tapes load
          → b < length rooms → block_at (with_block load b items) b ≡ items
      block_here b items load fine less =
          get_or-set_same load.blocks b items [] (omega (arith, fine.blocks, less))

      pub block_entered : (load : Load) → IsShaped rooms tapes load
          → ends_in bound last stage channel ≡ true
          → block_at (load_entered (entering_at bound last stage channels) load) (block_of k) ≡ []
      block_entered load fine ends =
          ap (λ (l : Load). block_at l (block_of k))
          (load_entered_folds (all_picked (ends_in bound last stage)) load)
          ∙ folded_there entered_block (λ (c : Crossing). c.block) block_at
          (IsShaped rooms tapes) (λ c l. block_fine rooms tapes c.block [] l)
          (λ c l. block_elsewhere c.block [] l)
          (λ c v. []) (λ c. c.block < length rooms)
          (λ c l. block_here c.block [] l)
          (all_picked (ends_in bound last stage)) load (place_of k) fine
          (blocks_rise bound last (ends_in bound last stage) 0 0 channels)
          (place_in (ends_in bound last stage) crossing ends) within

      pub block_not_entered : (load : Load) → (ends_in bound last stage channel ≡ true → ⊥)
          → block_at (load_entered (entering_at bound last stage channels) load) (block_of k)
          ≡ block_at load (block_of k)
      block_not_entered load not_it =
          ap (λ (l : Load). block_at l (block_of k))
          (load_entered_folds (all_picked (ends_in bound last stage)) load)
          ∙ folded_elsewhere entered_block (λ (c : Crossing). c.block) block_at
          (λ (l : Load). Unit {0}) (λ c l e. e) (λ c l. block_elsewhere c.block [] l)
          (all_picked (ends_in bound last stage)) load (block_of k)
          (block_apart (ends_in bound last stage) crossing not_it)

      abbrev filled : List Ring → Crossing → List ℤ → List ℤ
      filled rings c v = v ++ take (slice_index_or rooms c.block 0 - length v)
          (items_at rings (Some c.ring))

      pub block_left : (rings : List Ring) (load : Load) → IsShaped rooms tapes load
          → begins_in bound last stage channel ≡ true
          → block_at (load_left (leaving_at bound last stage channels) rings load) (block_of k)
          ≡ block_at load (block_of k)
          ++ take (slice_index_or rooms (block_of k) 0 - length (block_at load (block_of k)))
          (ring_at rings k).items
      block_left rings load fine begins =
          ap (λ (l : Load). block_at l (block_of k))
          (load_left_folds rings (all_picked (begins_in bound last stage)) load)
          ∙ folded_there (left_block rings) (λ (c : Crossing). c.block) block_at
          (IsShaped rooms tapes)
          (λ c l. block_fine rooms tapes c.block (block_at l c.block
          ++ take (room_at l c.block - length (block_at l c.block))
          (items_at rings (Some c.ring))) l)
          (λ c l. block_elsewhere c.block (block_at l c.block
          ++ take (room_at l c.block - length (block_at l c.block))
          (items_at rings (Some c.ring))) l)
          (filled rings) (λ c. c.block < length rooms)
          (λ c l its less. block_here c.block (block_at l c.block
          ++ take (room_at l c.block - length (block_at l c.block))
          (items_at rings (Some c.ring))) l its less
          ∙ ap (λ (r : List ℕ). block_at l c.block
          ++ take (slice_index_or r c.block 0 - length (block_at l c.block))
          (items_at rings (Some c.ring))) its.rooms_are)
          (all_picked (begins_in bound last stage)) load (place_of k) fine
          (blocks_rise bound last (begins_in bound last stage) 0 0 channels)
          (place_in (begins_in bound last stage) crossing begins) within

      pub block_not_left : (rings : List Ring) (load : Load)
          → (begins_in bound last stage channel ≡ true → ⊥)
          → block_at (load_left (leaving_at bound last stage channels) rings load) (block_of k)
          ≡ block_at load (block_of k)
      block_not_left rings load not_it =
          ap (λ (l : Load). block_at l (block_of k))
          (load_left_folds rings (all_picked (begins_in bound last stage)) load)
          ∙ folded_elsewhere (left_block rings) (λ (c : Crossing). c.block) block_at
          (λ (l : Load). Unit {0}) (λ c l e. e)
          (λ c l. block_elsewhere c.block (block_at l c.block
          ++ take (room_at l c.block - length (block_at l c.block))
          (items_at rings (Some c.ring))) l)
          (all_picked (begins_in bound last stage)) load (block_of k)
          (block_apart (begins_in bound last stage) crossing not_it)

-- Words leave blocks as they are, and blocks words.
pub block_worded : (own : List TapeOf) (words : List (List Word)) (load : Load) (b : ℕ)
    → block_at (load_worded own words load) b ≡ block_at load b
block_worded own words load b =
    ap (λ (l : Load). block_at l b) (load_worded_folds words own load)
    ∙ folded_keeps (worded words) (λ (l : Load). block_at l b) (λ c l. refl) own load

pub words_left_entered : (entering leaving : List Crossing) (rings : List Ring) (load : Load)
    → (load_left leaving rings (load_entered entering load)).words ≡ load.words
words_left_entered entering leaving rings load =
    ap (λ (l : Load). l.words) (load_left_folds rings leaving (load_entered entering load))
    ∙ folded_keeps (left_block rings) (λ (l : Load). l.words) (λ c l. refl) leaving
    (load_entered entering load)
    ∙ ap (λ (l : Load). l.words) (load_entered_folds entering load)
    ∙ folded_keeps entered_block (λ (l : Load). l.words) (λ c l. refl) entering load

pub rings_entered_length : (load : Load) (crossings : List Crossing) (rings : List Ring)
    → length (rings_entered crossings load rings) ≡ length rings
rings_entered_length load [] rings = refl
rings_entered_length load (c ∷ others) rings =
    rings_entered_length load others (entered_ring load c rings)
    ∙ length-set rings c.ring (extended (block_at load c.block) (ring_at rings c.ring))

pub rings_left_length : (crossings : List Crossing) (rings : List Ring)
    → length (rings_left crossings rings) ≡ length rings
rings_left_length [] rings = refl
rings_left_length (c ∷ others) rings =
    rings_left_length others (left_ring c rings)
    ∙ length-set rings c.ring (emptied_ring (ring_at rings c.ring))

pub words_left_length : (own : List TapeOf) (words : List (List Word))
    → length (words_left own words) ≡ length words
words_left_length [] words = refl
words_left_length (tape ∷ others) words =
    words_left_length others (left_words tape words) ∙ length-set words tape.node []

-- ---- words

module _ (bound : (stage : ℕ) → ℕ) (last stage : ℕ) (codes : List NodeCode) (k : ℕ)
    (code : NodeCode) (there : slice_get codes k ≡ Some code) (gives : gives_words code ≡ true)
  where
    abbrev pub tape_of : ℕ
    tape_of = passed_before gives_words codes k

    abbrev tape_place : TapeOf
    tape_place = record { tape = passed_before gives_words codes k; node = k }

    abbrev own : List TapeOf
    own = tapes_at bound last stage codes

    its_place : stage_at bound last k ≡ stage → In tape_place own
    its_place mine =
        tape_in bound last stage 0 0 codes k code (passed_before gives_words codes k) k there gives
        (ap (stage_at bound last) (let e : 0 + k ≡ k = omega arith in e) ∙ mine)
        (omega arith) (omega arith)

    word_elsewhere : (words : List (List Word)) (tape : TapeOf) (load : Load) (other : ℕ)
        → (other ≡ tape.tape → ⊥)
        → parcels.words_at (worded words tape load) other ≡ parcels.words_at load other
    word_elsewhere words tape load other differs =
        get_or-set_other load.words tape.tape other (words_at words tape.node) [] differs

    -- A tape of the stage's own has what its node gave.
    pub tape_worded : (rooms : List ℕ) (tapes : ℕ) (words : List (List Word)) (load : Load)
        → IsShaped rooms tapes load → passed_before gives_words codes k < tapes
        → stage_at bound last k ≡ stage
        → parcels.words_at (load_worded own words load) (passed_before gives_words codes k)
        ≡ words_at words k
    tape_worded rooms tapes words load fine less mine =
        ap (λ (l : Load). parcels.words_at l (passed_before gives_words codes k))
        (load_worded_folds words own load)
        ∙ folded_there (worded words) (λ (c : TapeOf). c.tape) parcels.words_at
        (IsShaped rooms tapes) (λ c l. words_fine rooms tapes c.tape (words_at words c.node) l)
        (word_elsewhere words)
        (λ c v. words_at words c.node) (λ c. c.tape < tapes)
        (λ c l its some. get_or-set_same l.words c.tape (words_at words c.node) []
        (omega (arith, its.words, some)))
        own load tape_place fine (tapes_rise bound last stage 0 0 codes).0 (its_place mine) less

    pub tape_not_worded : (words : List (List Word)) (load : Load)
        → (stage_at bound last k ≡ stage → ⊥)
        → parcels.words_at (load_worded own words load) (passed_before gives_words codes k)
        ≡ parcels.words_at load (passed_before gives_words codes k)
    tape_not_worded words load other =
        ap (λ (l : Load). parcels.words_at l (passed_before gives_words codes k))
        (load_worded_folds words own load)
        ∙ folded_elsewhere (worded words) (λ (c : TapeOf). c.tape) parcels.words_at
        (λ (l : Load). Unit {0}) (λ c l e. e) (word_elsewhere words)
        own load (passed_before gives_words codes k)
        (λ element among e.
        let is = is_tape bound last stage 0 0 codes element among in
        let at : k ≡ is.k = before_apart gives_words codes k is.k code is.code there gives
        is.listed is.gives (omega (arith, e, is.tape_is)) in
        other (ap (stage_at bound last) (let f : k ≡ 0 + is.k = omega (arith, at) in f)
        ∙ is.is_own))

    -- And the machine has no words of it then.
    pub words_gone : (words : List (List Word)) → length words ≡ length codes
        → stage_at bound last k ≡ stage
        → words_at (words_left own words) k ≡ []
    words_gone words each mine =
        ap (λ (l : List (List Word)). words_at l k) (words_left_folds own words)
        ∙ folded_there left_words (λ (c : TapeOf). c.node) words_at
        (λ (l : List (List Word)). length l ≡ length codes)
        (λ c l e. length-set l c.node [] ∙ e)
        (λ c l other differs. get_or-set_other l c.node other [] [] differs)
        (λ c v. []) (λ c. c.node < length codes)
        (λ c l e less. get_or-set_same l c.node [] [] (omega (arith, e, less)))
        own words tape_place each (tapes_rise bound last stage 0 0 codes).1 (its_place mine)
        (slice_get_within codes k code there)
