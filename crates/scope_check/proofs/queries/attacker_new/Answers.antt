-- What was seen of the restrictions decides.
use Rattle.std.proofs.Common.{[], refl}
use Rattle.spec_calculus.specs.Points.{nodes}
use Rattle.pi_tree.specs.Processes.{process_of}
use Rattle.scope_declarations.specs.Text.{texts_of}
use Rattle.scope_check.specs.declared.queries.Seen.TheVariants.{Nowhere, Once, Often}
use Rattle.scope_check.proofs.Restrictions.{decided}
use Rattle.scope_check.proofs.queries.attacker_new.Goals as goal

pub returns-in-Nowhere : goal.returns-in-Nowhere
returns-in-Nowhere c =
    decided c.args.token c.text_of-word.result.now (texts_of c.args.scope.now.text c.args.token) (nodes (process_of c.args.main.now)) c.look_for.result.0 Nowhere
    (c.look_for.ensures.seen [] refl) c.text_of-word.ensures c.in-Nowhere.is

pub returns-in-Once : goal.returns-in-Once
returns-in-Once c =
    decided c.args.token c.text_of-word.result.now (texts_of c.args.scope.now.text c.args.token) (nodes (process_of c.args.main.now)) c.look_for.result.0 (Once c.in-Once.point)
    (c.look_for.ensures.seen [] refl) c.text_of-word.ensures c.in-Once.is

pub returns-in-Often : goal.returns-in-Often
returns-in-Often c =
    decided c.args.token c.text_of-word.result.now (texts_of c.args.scope.now.text c.args.token) (nodes (process_of c.args.main.now)) c.look_for.result.0 Often
    (c.look_for.ensures.seen [] refl) c.text_of-word.ensures c.in-Often.is
