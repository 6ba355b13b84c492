-- The copy of the word is entered.
use Rattle.std.proofs.Common.{List, ℕ, subst}
use Rattle.scope_declarations.specs.Tables.{TellsBesides}
use Rattle.scope_declarations.proofs.names.enter.Goals as goal

pub returns : goal.returns
returns c =
    subst (λ (word : List ℕ). TellsBesides word c.args.meaning c.args.meanings.now c.insert.new.self) c.in_ok-word.ensures.items c.in_ok-insert.ensures.updates
