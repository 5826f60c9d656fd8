-- Items that stand in a row move, and slide to the front.
use Rattle.std.proofs.Common.{List}
use Rattle.strc_emit_runs.specs.Running.{Program, Running, slide_done}
use Rattle.std.proofs.Common.{◌≡◌, ℕ, ◌+◌, ◌<◌, ◌≤◌, ℤ, pos, Bool, true, false, cond, ◌&&◌}
use Rattle.std.proofs.Common.{length, Ok, Err, refl, sym, ap, ◌∙◌, arith, nat_lt, ◌==◌}
use Rattle.std.proofs.Common.{◌-◌, ◌++◌, drop, get_or, ◌⊎◌, inl, inr, length-append, length-drop}
use Rattle.std.proofs.lemmas.Bool.{cases_lt}
use Rattle.std.proofs.lemmas.List.{get_or_append_left, get_or-append_right, get_or-drop}
use Rattle.std.proofs.lemmas.Bool.{le-leb, lt-ltb, eq-eqb, and_from, and_parts, eqb-true, ltb-true}
use Rattle.strc_emit_c.specs.Meaning.{Cell, Field, Local, Counted, Item}
use Rattle.strc_emit_runs.specs.Running.{NoMeaning, rooms_in, slid_cell}
use Rattle.strc_emit_runs.specs.Windows.{StandFrom, SlidesMoveItems, WindowsMove}

pub slid_kept : (channel gone left : ℕ) (cells : Cell → ℤ) (cell : Cell)
    → ((place : ℕ) → place < left → cell ≡ Item channel place → ⊥)
    → slid_cell channel gone left cells cell ≡ cells cell
slid_kept channel gone left cells (Field node slot) apart = refl
slid_kept channel gone left cells (Local slot) apart = refl
slid_kept channel gone left cells (Counted counter) apart = refl
slid_kept channel gone left cells (Item other place) apart =
    by (other == channel && nat_lt place left) refl
  where
    by : (t : Bool) → (other == channel && nat_lt place left) ≡ t
        → cond t (cells (Item other (gone + place))) (cells (Item other place))
        ≡ cells (Item other place)
    by false e = refl
    by true e =
        let both = and_parts (other == channel) (nat_lt place left) e in
        absurd (apart place (ltb-true place left both.1)
        (ap (λ c. Item c place) (eqb-true other channel both.0)))

pub slide_is : (program : Program) (channel gone left : ℕ) (running : Running)
    → gone + left ≤ rooms_in program channel → slide_done program channel gone left running
    ≡ Ok (record running { cells = slid_cell channel gone left running.cells })
slide_is program channel gone left running fits =
    ap (λ t. cond t (Ok (record running {
      cells = slid_cell channel gone left running.cells;
    })) (Err NoMeaning)) (le-leb (gone + left) (rooms_in program channel) fits)

pub slid_items : (channel gone : ℕ) (items : List ℤ) (cells : Cell → ℤ)
    → StandFrom channel gone items cells
    → StandFrom channel 0 items (slid_cell channel gone (length items) cells)
slid_items channel gone items cells stand place lt =
    let here : 0 + place ≡ place = omega arith in
    ap (λ p. slid_cell channel gone (length items) cells (Item channel p)) here
    ∙ ap (λ t. cond t (cells (Item channel (gone + place))) (cells (Item channel place)))
    (and_from (channel == channel) (nat_lt place (length items)) (eq-eqb channel channel refl)
    (lt-ltb place (length items) lt))
    ∙ stand place lt

pub slides_move_items : SlidesMoveItems
slides_move_items program channel gone items running fits stand = (
  record running { cells = slid_cell channel gone (length items) running.cells },
  slide_is program channel gone (length items) running fits,
  slid_items channel gone items running.cells stand,
  slid_kept channel gone (length items) running.cells,
)

pub windows_move : WindowsMove
windows_move channel start count items more before after few stand kept come place lt =
    by (cases_lt place (length items - count))
  where
    sizes : length (drop count items) ≡ length items - count
    sizes = length-drop count items

    by : (place < length items - count) ⊎ (length items - count ≤ place)
        → after (Item channel (start + count + place))
        ≡ get_or (drop count items ++ more) place (pos 0)
    by (inl less) =
        let number : start + count + place ≡ start + (count + place) = omega arith in
        ap (λ p. after (Item channel p)) number
        ∙ kept (count + place) (omega (arith, less))
        ∙ stand (count + place) (omega (arith, less))
        ∙ sym (get_or_append_left (drop count items) more (pos 0) place (omega (arith, less, sizes))
        ∙ get_or-drop count items place (pos 0))
    by (inr past) =
        let k : ℕ = place - (length items - count) in
        let number : start + count + place ≡ start + length items + k = omega (arith, past, few) in
        ap (λ p. after (Item channel p)) number
        ∙ come k (omega (arith, lt, past, sizes, length-append (drop count items) more))
        ∙ sym (get_or-append_right (drop count items) more (length items - count) place (pos 0)
        sizes past)
