-- Each step on a link keeps its rule.
use Rattle.std.proofs.Common.{◌≡◌, ◌≢◌, ◌≤◌, ℕ, zero, suc, true, false, true≢false, List}
use Rattle.std.proofs.Common.{[], ◌∷◌, ◌++◌, length, set, sym, refl, ap, ◌∙◌, subst, ⊎_elim}
use Rattle.std.proofs.Common.{append_assoc, arith, length-append, append-nil}
use mathlib.Core.Option.{some, some-ne-none}
use lib.ListN.{get_elem?}
use Rattle.atomic_table.proofs.Lists.{at_set, at_snoc}
use Rattle.crossbeam_channel.specs.Fifo.{Pushes, Pops, Forks, Merges, Learns, Held}
use Rattle.strc_stage_core.specs.Parcels.{ParcelView}
use Rattle.strc_run_links.specs.declared.view.Log.{Log}
use Rattle.strc_run_links.specs.Links.{log, Fits, InOrder, Left, Sends, Gets}

at_end : (l : List Log) (a b : Log) (j : ℕ) → get_elem? l j ≢ some b
    → get_elem? (l ++ a ∷ []) j ≡ some b → j ≡ length l
at_end [] a b zero n e = refl
at_end [] a b (suc j) n e = absurd (some-ne-none b (sym e))
at_end (x ∷ xs) a b zero n e = absurd (n e)
at_end (x ∷ xs) a b (suc j) n e = ap suc (at_end xs a b j n e)

abbrev All : (ℕ → Log → Type 0) → List Log → Type 0
All F views = (seat : ℕ) (v : Log) → get_elem? views seat ≡ some v → F seat v

all_set : (F : ℕ → Log → Type 0) (views : List Log) (seat : ℕ) (w : Log) → F seat w
    → ((j : ℕ) (u : Log) → j ≢ seat → get_elem? views j ≡ some u → F j u)
    → All F (set views seat w)
all_set F views seat w mine others j u e = ⊎_elim
    (λ (x : (j ≡ seat) × (w ≡ u)).
    subst (λ (y : ℕ × Log). F y.0 y.1) (λ i. (sym x.0 i, x.1 i)) mine)
    (λ (x : (j ≢ seat) × (get_elem? views j ≡ some u)). others j u x.0 x.1)
    (at_set views seat j w u e)

-- The first pass has both roles.
pub begins : InOrder [] (log true true 0 [] [] ∷ [])
begins = (
  0,
  0,
  [],
  [],
  refl,
  all_set (Fits 0 0 0 [] []) (log true true 0 [] [] ∷ []) 0 (log true true 0 [] [])
      ((λ _. (refl, refl, omega arith)), λ _. (refl, refl))
      (λ j u other e. absurd (other (at_end [] _ u j (λ x. some-ne-none u (sym x)) e))),
)

pub sends : (n seat : ℕ) (v : Log) (x : ParcelView) → v.sends ≡ true → v.room ≡ n
    → Pushes InOrder n seat v x (Sends v x)
sends n seat v x may is_room items views short h at =
    let w : Log = log v.sends v.takes v.room (v.sent ++ x ∷ []) v.got in
    let mine = h.5 seat v at in
    let sent = h.2 ++ x ∷ [] in
    let fits : length (items ++ x ∷ []) ≤ v.room =
    omega (arith, length-append items (x ∷ [])) in (
      w,
      (
        h.0,
        h.1,
        sent,
        h.3,
        ap (λ l. l ++ x ∷ []) h.4 ∙ append_assoc h.3 items (x ∷ []),
        all_set (Fits h.0 h.1 (length (items ++ x ∷ [])) sent h.3) views seat w
            ((λ _. ((mine.0 may).0, ap (λ l. l ++ x ∷ []) (mine.0 may).1, fits)), mine.1)
            (λ j u other e. (
              (λ p. absurd (other (((h.5 j u e).0 p).0 ∙ sym (mine.0 may).0))),
              (h.5 j u e).1,
            )),
      ),
      refl,
    )

pub gets : (seat : ℕ) (v : Log) → v.takes ≡ true → Pops InOrder seat v (Gets v)
gets seat v may x items views h at =
    let w : Log = log v.sends v.takes v.room v.sent (v.got ++ x ∷ []) in
    let mine = h.5 seat v at in
    let got = h.3 ++ x ∷ [] in
    let fewer : (m : ℕ) → length (x ∷ items) ≤ m → length items ≤ m = λ m most. omega arith in (
      w,
      (
        h.0,
        h.1,
        h.2,
        got,
        h.4 ∙ sym (append_assoc h.3 (x ∷ []) items),
        all_set (Fits h.0 h.1 (length items) h.2 got) views seat w (
          (λ p. let its = mine.0 p in (its.0, its.1, fewer v.room its.2)),
          λ _. ((mine.1 may).0, ap (λ l. l ++ x ∷ []) (mine.1 may).1),
        )
            (λ j u other e. (
              (λ p. let its = (h.5 j u e).0 p in (its.0, its.1, fewer u.room its.2)),
              λ p. absurd (other (((h.5 j u e).1 p).0 ∙ sym (mine.1 may).0)),
            )),
      ),
      refl,
    )

pub forks : (seat : ℕ) (v : Log) (room : ℕ) → v.sends ≡ true → v.takes ≡ true → v.room ≤ room
    → Forks InOrder seat v (log true false room v.sent []) (log false true 0 [] v.got)
forks seat v room a b wide items views h at =
    let l : Log = log true false room v.sent [] in
    let r : Log = log false true 0 [] v.got in
    let mine = h.5 seat v at in
    let vs : List Log = set views seat l in
    let most : length items ≤ room = (let few = (mine.0 a).2 in omega arith) in
    let Old : ℕ → Log → Type 0 = λ j u.
    (u.sends ≡ true → (j ≡ h.0) × (u.sent ≡ h.2) × (length items ≤ u.room))
    × (u.takes ≢ true) in
    let old : All Old vs = all_set Old views seat l
    ((λ _. ((mine.0 a).0, (mine.0 a).1, most)), λ p. true≢false (sym p))
    (λ j u other e. (
      (h.5 j u e).0,
      λ p. other (((h.5 j u e).1 p).0 ∙ sym (mine.1 b).0),
    )) in (
      h.0,
      length vs,
      h.2,
      h.3,
      h.4,
      λ j u e. ⊎_elim (λ x. ((old j u x).0, λ p. absurd ((old j u x).1 p)))
          (λ (is : r ≡ u). (
            (λ p. absurd (true≢false (sym (ap (λ (y : Log). y.sends) is ∙ p)))),
            λ p. (
              at_end vs r u j (λ x. (old j u x).1 p) e,
              ap (λ (y : Log). y.got) (sym is) ∙ (mine.1 b).1,
            ),
          ))
          (at_snoc vs r u j e),
    )

pub merges : (seat : ℕ) (v : Log) (other : ℕ) (u : Log) → v.sends ≡ true → u.takes ≡ true
    → Merges InOrder seat v other u (log true true v.room v.sent u.got) (log false false 0 [] [])
merges seat v other u a b items views h at two at' =
    let both : Log = log true true v.room v.sent u.got in
    let mine = h.5 seat v at in
    let vs : List Log = set views seat both in
    let was : get_elem? views other ≡ some u =
    ⊎_elim (λ x. absurd (two x.0)) (λ x. x.1) (at_set views seat other both u at') in
    let theirs = (h.5 other u was).1 b in
    let Now : ℕ → Log → Type 0 =
    λ j y. j ≢ other → Fits h.0 seat (length items) h.2 h.3 j y in
    let now : All Now vs = all_set Now views seat both
    (λ _. ((λ _. mine.0 a), λ _. (refl, theirs.1)))
    (λ j y _ e apart. (
      (h.5 j y e).0,
      λ p. absurd (apart (((h.5 j y e).1 p).0 ∙ sym theirs.0)),
    )) in (
      h.0,
      seat,
      h.2,
      h.3,
      h.4,
      all_set (Fits h.0 seat (length items) h.2 h.3) vs other (log false false 0 [] [])
          ((λ p. absurd (true≢false (sym p))), λ p. absurd (true≢false (sym p)))
          (λ j y apart e. now j y e apart),
    )

-- Who has both roles knows what is on the link.
pub totals : (seat : ℕ) (v : Log) → v.sends ≡ true → v.takes ≡ true
    → Learns InOrder seat v (Left v)
totals seat v a b items views h at =
    let mine = h.5 seat v at in
    ((mine.0 a).1 ∙ h.4 ∙ ap (λ l. l ++ items) (sym (mine.1 b).1), (mine.0 a).2)

-- Where nothing is on the link any more, what was sent is what was received.
pub drained : (v : Log) (room : ℕ) (sent got : List ParcelView) → v ≡ log true true room sent got
    → Held 0 (Left v) → sent ≡ got
drained v room sent got is none = all none.0 none.1
    (sym (ap (λ (w : Log). w.sent) is) ∙ none.2.0 ∙ ap (λ (w : Log). w.got ++ none.0) is)
  where
    all : (items : List ParcelView) → length items ≡ 0 → sent ≡ got ++ items → sent ≡ got
    all [] nothing e = e ∙ append-nil got
    all (x ∷ xs) nothing e = absurd (omega arith)

-- What is left of a link that was drained is no more than there was room for.
pub few : (v : Log) (room : ℕ) (sent got left now : List ParcelView)
    → v ≡ log true true room sent got → (items : List ParcelView) × Left v items
    → sent ≡ got ++ left → now ≡ left → length now ≤ room
few v room sent got left now is held e stays =
    let all : sent ≡ got ++ held.0 =
    sym (ap (λ (w : Log). w.sent) is) ∙ held.1.0 ∙ ap (λ (w : Log). w.got ++ held.0) is in
    let most : length held.0 ≤ room =
    subst (λ (m : ℕ). length held.0 ≤ m) (ap (λ (w : Log). w.room) is) held.1.1 in
    let same : length (got ++ held.0) ≡ length (got ++ left) = ap length (sym all ∙ e) in
    let unchanged : length now ≡ length left = ap length stays in
    omega (arith, length-append got held.0, length-append got left)
