use Rattle.log_text.proofs.Known.{known_front}
use Rattle.log_text.proofs.paths.first_of.Goals as goal

pub returns-then-count-items : goal.returns-then-count-items
returns-then-count-items c = λ all known. known_front all c.args.items.now c.args.count known
