use Rattle.std.proofs.Common.{◌≡◌, drop}
use Rattle.std.specs.List.{list_any}
use Rattle.log_text.specs.Derived.{is_of}
use Rattle.log_text.proofs.tree.Derivation.has_told.Given as goal

abbrev pub invariant-each : goal.invariant-each
invariant-each l = list_any (is_of l.number) (drop l.line-index l.self.lines.items) ≡ list_any (is_of l.number) l.self.lines.items
