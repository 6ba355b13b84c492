use Rattle.std.proofs.Common.{rules}
use Rattle.std.proofs.lemmas.Fn.{filter_same}
use Rattle.log_entries.specs.Numbers.{is_live_at}
use Rattle.log_entries.proofs.lists.drop_dead.Goals as goal

pub returns : goal.returns
returns c = filter_same _ (is_live_at c.args.entries.now) _ (λ x b f' k. search rules) _ _ c.retain.ensures.filtered
