-- The entry that isn't satisfied can be explained.
use Rattle.std.proofs.Common.{ℕ, Option, subst}
use Rattle.hx.specs.Logged.{CanExplainEntry}
use Rattle.hx.proofs.reason.put_logged.Goals as goal

pub put_unmet-requires : goal.put_unmet-requires
put_unmet-requires c = record {
  readable = c.requires.readable;
  there = c.requires.there;
  small = c.requires.small;
  normed = subst (λ (unmet : Option ℕ). CanExplainEntry c.args.told.now.entries unmet) c.in-Some.is c.requires.ready;
}
