-- A worker's rounds, one after another.
use Rattle.std.proofs.Common.{◌≡◌, ◌++◌, List, [], ◌∷◌, refl, sym, ap, subst, ◌∙◌}
use Rattle.std.proofs.Common.{append_assoc, append-nil, Some, false}
use Rattle.strc_stage_core.specs.States.{Runs}
use Rattle.strc_stage_core.specs.Parcels.{ParcelView}
use Rattle.strc_run_links.specs.declared.tx.Tx.{Tx}
use Rattle.strc_run_links.specs.declared.rx.Rx.{Rx}
use Rattle.strc_run_links.specs.Ends.{sent_by, got_by, SameTx, SameRx}
use Rattle.strc_run_links.specs.declared.worker_end.Worked.{Worked}
use Rattle.strc_run_links.specs.Working.{Work, Did, worked}

module _ {A : Type 0} (Does : A → ParcelView → A → ParcelView → Type 0) where
  -- One step more.
  runs_snoc : (s : A) (taken made : List ParcelView) (t : A) (p : ParcelView) (u : A)
      (q : ParcelView) → Runs Does s taken made t → Does t p u q
      → Runs Does s (taken ++ p ∷ []) (made ++ q ∷ []) u
  runs_snoc s [] [] t p u q so step = (u, subst (λ (x : A). Does x p u q) (sym so) step, refl)
  runs_snoc s (x ∷ xs) (y ∷ ys) t p u q so step =
      (so.0, so.1, runs_snoc so.0 xs ys t p u q so.2 step)
  runs_snoc s [] (y ∷ ys) t p u q so step = absurd so
  runs_snoc s (x ∷ xs) [] t p u q so step = absurd so

  module _ (s : A) (r : Rx) (t : Tx) where
    -- Nothing was done yet.
    pub begins : Work Does s r t s r t [] []
    begins = record {
      taken = [];
      given = [];
      same_tx = (refl, refl);
      same_rx = refl;
      got = sym (append-nil (got_by r));
      sent = sym (append-nil (sent_by t));
      runs = refl;
    }

    -- A parcel was taken, and is back as it came.
    pub holds : (u : A) (rx rx' : Rx) (tx : Tx) (p : ParcelView) → Work Does s r t u rx tx [] []
        → SameRx rx rx' → got_by rx' ≡ got_by rx ++ p ∷ [] → Work Does s r t u rx' tx (p ∷ []) []
    holds u rx rx' tx p w same got = record {
      taken = w.taken;
      given = w.given;
      same_tx = w.same_tx;
      same_rx = same ∙ w.same_rx;
      got = got ∙ ap (λ l. l ++ p ∷ []) (w.got ∙ ap (λ l. got_by r ++ l) (append-nil w.taken))
          ∙ append_assoc (got_by r) w.taken (p ∷ []);
      sent = w.sent;
      runs = w.runs;
    }

    -- A step was made on it, and what it made is held, or was given.
    keeps : (u u' : A) (rx : Rx) (tx tx' : Tx) (p q : ParcelView)
        → Work Does s r t u rx tx (p ∷ []) [] → Does u p u' q → SameTx tx tx'
        → sent_by tx' ≡ sent_by tx → Work Does s r t u' rx tx' [] (q ∷ [])
    keeps u u' rx tx tx' p q w step same sent = record {
      taken = w.taken ++ p ∷ [];
      given = w.given;
      same_tx = (same.0 ∙ w.same_tx.0, same.1 ∙ w.same_tx.1);
      same_rx = w.same_rx;
      got = w.got ∙ ap (λ l. got_by r ++ l) (sym (append-nil (w.taken ++ p ∷ [])));
      sent = sent ∙ w.sent;
      runs = subst (λ (l : List ParcelView). Runs Does s (w.taken ++ p ∷ []) (l ++ q ∷ []) u')
          (append-nil w.given)
          (runs_snoc s w.taken (w.given ++ []) u p u' q w.runs step);
    }

    pub gives : (u u' : A) (rx : Rx) (tx tx' : Tx) (p q : ParcelView)
        → Work Does s r t u rx tx (p ∷ []) [] → Does u p u' q → SameTx tx tx'
        → sent_by tx' ≡ sent_by tx ++ q ∷ [] → Work Does s r t u' rx tx' [] []
    gives u u' rx tx tx' p q w step same sent = record {
      taken = w.taken ++ p ∷ [];
      given = w.given ++ q ∷ [];
      same_tx = (same.0 ∙ w.same_tx.0, same.1 ∙ w.same_tx.1);
      same_rx = w.same_rx;
      got = w.got ∙ ap (λ l. got_by r ++ l) (sym (append-nil (w.taken ++ p ∷ [])));
      sent = sent ∙ ap (λ l. l ++ q ∷ []) w.sent ∙ append_assoc (sent_by t) w.given (q ∷ []);
      runs = subst (λ (l : List ParcelView). Runs Does s (w.taken ++ p ∷ []) l u')
          (sym (append-nil (w.given ++ q ∷ [])))
          (subst (λ (l : List ParcelView). Runs Does s (w.taken ++ p ∷ []) (l ++ q ∷ []) u')
          (append-nil w.given)
          (runs_snoc s w.taken (w.given ++ []) u p u' q w.runs step));
    }

    -- What a step made came back from a taker that is gone, and is held.
    pub came_back : (u u' : A) (rx : Rx) (tx tx' : Tx) (p q back : ParcelView) (w : Worked A)
        → w ≡ worked u' rx tx' (Some back) false → Work Does s r t u rx tx (p ∷ []) []
        → Does u p u' q → SameTx tx tx' → back ≡ q → sent_by tx' ≡ sent_by tx
        → Did Does s r t w
    came_back u u' rx tx tx' p q back w is before step same same_parcel sent =
        subst (λ (w : Worked A). Did Does s r t w) (sym is)
        (subst (λ (x : ParcelView). Work Does s r t u' rx tx' [] (x ∷ [])) (sym same_parcel)
        (keeps u u' rx tx tx' p q before step same sent))
