use Rattle.spec_choice_walks.proofs.Beginning.{all_begin}
use Rattle.spec_choice_walks.proofs.completions_begin_alike.Goals as goal

pub returns : goal.returns
returns c = record { begin = all_begin }
