use Rattle.spec_ring_text.proofs.Whole.{ring_spells}
use Rattle.spec_ring_text.proofs.rings_are_protocols.Goals as goal

pub returns : goal.returns
returns c = ring_spells
