use Rattle.attack_candidates.proofs.Keeping.{sound_grows}
use Rattle.attack_candidates.proofs.resolving.resolve_with.Goals as goal

pub add_all-requires-clause-sound : goal.add_all-requires-clause-sound
add_all-requires-clause-sound c = sound_grows c.args.bank.now c.resolvents_of.new.bank c.args.found.now.log c.args.found.now.goals.items c.in_ok-resolvents_of.ensures.grows c.requires.sound

pub returns-in-None-clause-sound : goal.returns-in-None-clause-sound
returns-in-None-clause-sound c = sound_grows c.args.bank.now c.resolvents_of.new.bank c.args.found.now.log c.args.found.now.goals.items c.in_ok-resolvents_of.ensures.grows c.requires.sound
