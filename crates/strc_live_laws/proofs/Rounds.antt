-- Rounds one after another are a run of rounds.
use Rattle.std.proofs.Common.{◌≡◌, refl, sym, ap, ◌∙◌, ℕ, zero, suc, ◌+◌, List, [], ◌∷◌, ◌++◌}
use Rattle.std.proofs.Common.{arith, append_assoc}
use Rattle.std.proofs.lemmas.List.{append-nil}
use Rattle.strc_sched_orders.specs.Order.{repeated}
use Rattle.strc_sched_laws.specs.Machine.{CircuitView, MachineView, Progress, Went, Stopped}
use Rattle.strc_sched_laws.specs.Machine.{next_step, after_step, then_go, order_run, after_round}
use Rattle.strc_sched_laws.specs.Machine.{rounds_run}
use Rattle.strc_live_laws.specs.Rounds.{StepsAreRounds}

pub order_append : (circuit : CircuitView) (a b : List ℕ) (machine : MachineView)
    → order_run circuit (a ++ b) machine
    ≡ then_go (order_run circuit b) (order_run circuit a machine)
order_append circuit [] b machine = refl
order_append circuit (node ∷ a) b machine =
    by_step (order_append circuit a b) (after_step machine node (next_step circuit machine node))
  where
    by_step : ((next : MachineView) → order_run circuit (a ++ b) next
        ≡ then_go (order_run circuit b) (order_run circuit a next))
        → (progress : Progress) → then_go (order_run circuit (a ++ b)) progress
        ≡ then_go (order_run circuit b) (then_go (order_run circuit a) progress)
    by_step later (Went next) = later next
    by_step later (Stopped other firing cause) = refl

pub repeated_last : (turns : ℕ) (order : List ℕ)
    → repeated (suc turns) order ≡ repeated turns order ++ order
repeated_last zero order = append-nil order
repeated_last (suc turns) order =
    ap (λ (l : List ℕ). order ++ l) (repeated_last turns order)
    ∙ sym (append_assoc order (repeated turns order) order)

pub rounds_law : StepsAreRounds
rounds_law circuit order zero left round first last went =
    let none : 0 + left ≡ left = omega arith in
    let same : round ≡ round + 0 = omega arith in
    let is : first ≡ last = cc in
    ap (λ (n : ℕ). rounds_run circuit order n round first) none
    ∙ ap (λ (n : ℕ). rounds_run circuit order left n first) same
    ∙ ap (rounds_run circuit order left (round + 0)) is
rounds_law circuit order (suc done) left round first last went =
    let more : suc done + left ≡ suc (done + left) = omega arith in
    ap (λ (n : ℕ). rounds_run circuit order n round first) more
    ∙ by_first (λ next. rounds_law circuit order done left (suc round) next last)
    (order_run circuit order first)
    (sym (order_append circuit order (repeated done order) first) ∙ went)
  where
    by_first : ((next : MachineView) → order_run circuit (repeated done order) next ≡ Went last
        → rounds_run circuit order (done + left) (suc round) next
        ≡ rounds_run circuit order left (suc round + done) last)
        → (progress : Progress)
        → then_go (order_run circuit (repeated done order)) progress ≡ Went last
        → after_round round first.words (rounds_run circuit order (done + left) (suc round))
        progress ≡ rounds_run circuit order left (round + suc done) last
    by_first later (Went next) rest =
        let place : suc round + done ≡ round + suc done = omega arith in
        later next rest
        ∙ ap (λ (n : ℕ). rounds_run circuit order left n last) place
    by_first later (Stopped node firing cause) rest = absurd (cc)
