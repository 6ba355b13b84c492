use Rattle.log_text.proofs.paths.Place.received.Goals as goal

pub returns : goal.returns
returns c = λ all known. c.first_of.ensures all (c.behind.ensures all known)
