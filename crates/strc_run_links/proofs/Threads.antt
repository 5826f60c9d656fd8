-- Threads that keep their promises.
use Rattle.std.proofs.Common.{◌≡◌, ℕ, suc, List, [], ◌∷◌, length}
use Rattle.std.proofs.Common.{refl, sym, subst, ◌∙◌, arith}
use Rattle.std.specs.PromisedHandle.{KeepsAt, KeepsEach}
use Rattle.core.specs.declared.thread.PromisedHandle.{PromisedHandle}
use Rattle.strc_stage_core.specs.Parcels.{ParcelView}
use Rattle.strc_run_links.specs.declared.worker_end.Worked.{Worked}
use Rattle.strc_run_links.specs.declared.begun.Begun.{Begun}
use Rattle.strc_run_links.specs.declared.shapes.Seat.{Seat}
use Rattle.strc_run_links.specs.Children.{begun_of}
use Rattle.strc_run_links.specs.Seats.{DidSeat, AllDid}

module _ {S : Type 0} (Does : S → ParcelView → S → ParcelView → Type 0) where
  -- What each worker of these left is what it promised.
  Keeps : List (PromisedHandle (Worked S) (Begun S)) → List (Worked S) → Type 0
  Keeps children workers = KeepsEach (record { kept_by = λ p w. DidSeat Does p.0.value w })
      (length children) children workers

  first_did : (h : PromisedHandle (Worked S) (Begun S))
      (hs : List (PromisedHandle (Worked S) (Begun S))) (w : Worked S)
      → KeepsAt (record { kept_by = λ p w. DidSeat Does p.0.value w }) (h ∷ hs) 0 w
      → DidSeat Does h.promise.0.value w
  first_did h hs w kept =
      subst (λ (x : PromisedHandle (Worked S) (Begun S)). DidSeat Does x.promise.0.value w)
      kept.handle_is kept.kept

  rest_keep : (h : PromisedHandle (Worked S) (Begun S))
      (hs : List (PromisedHandle (Worked S) (Begun S))) (w : Worked S) (ws : List (Worked S))
      → Keeps (h ∷ hs) (w ∷ ws) → Keeps hs ws
  unfolding Keeps
  rest_keep h hs w ws keep i d below =
      let at = keep (suc i) d (omega (arith, below)) in
      (refl, record { handle = at.1.handle; handle_is = at.1.handle_is; kept = at.1.kept })

  all_did : (hs : List (PromisedHandle (Worked S) (Begun S))) (ws : List (Worked S))
      → length ws ≡ length hs → Keeps hs ws → AllDid Does (begun_of hs) ws
  unfolding Keeps
  all_did [] [] same keep = tt
  all_did (h ∷ hs) (w ∷ ws) same keep = (
    first_did h hs w (keep 0 w (omega arith)).1,
    all_did hs ws (omega (arith, same)) (rest_keep h hs w ws keep),
  )
  all_did [] (w ∷ ws) same keep = absurd (omega (arith, same))
  all_did (h ∷ hs) [] same keep = absurd (omega (arith, same))

  pub each_did : (hs : List (PromisedHandle (Worked S) (Begun S))) (ws : List (Worked S))
      (seats : List (Seat S)) (n m : ℕ) → begun_of hs ≡ seats → n ≡ length hs
      → (m ≡ length ws) × (m ≡ n)
      → KeepsEach (record { kept_by = λ p w. DidSeat Does p.0.value w }) n hs ws
      → AllDid Does seats ws
  unfolding Keeps
  each_did hs ws seats n m begun len done keep =
      subst (λ (l : List (Seat S)). AllDid Does l ws) begun
      (all_did hs ws (sym done.0 ∙ done.1 ∙ len)
      (subst (λ (k : ℕ). KeepsEach (record { kept_by = λ p w. DidSeat Does p.0.value w }) k hs ws)
      len keep))
