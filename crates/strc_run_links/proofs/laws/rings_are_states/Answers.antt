use Rattle.strc_run_links.proofs.Cores.{ring_state}
use Rattle.strc_run_links.proofs.laws.rings_are_states.Goals as goal

pub returns : goal.returns
returns g c = λ work see sees steps gathers start parts ring begun.
    ring_state work _ see steps _ sees gathers start parts ring begun
