-- A root over parts within the limit of symbols, or over it.
use Rattle.std.proofs.Common.{ap, sym, ◌∙◌, Ok, arith}
use Rattle.scope_check.specs.Extents.{root_of}
use Rattle.scope_check.proofs.Extents.{sized_within, sized_over}
use Rattle.scope_check.proofs.expressions.rooted.Goals as goal

pub returns-then-symbols-gt-MOST_WRITTEN_SYMBOLS-clause-read : goal.returns-then-symbols-gt-MOST_WRITTEN_SYMBOLS-clause-read
returns-then-symbols-gt-MOST_WRITTEN_SYMBOLS-clause-read c = sized_over c.args.token (root_of c.args.root) c.args.parts (omega arith)

pub returns-clause-read : goal.returns-clause-read
returns-clause-read c =
    sized_within c.args.token (root_of c.args.root) c.args.parts (omega arith) ∙ ap (λ e. Ok e) (sym c.in_ok-merged.ensures)
