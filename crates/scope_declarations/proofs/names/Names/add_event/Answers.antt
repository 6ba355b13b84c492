-- The table finds the names with one more.
use Rattle.std.proofs.Common.{◌≡◌, refl, ap, arith, rules}
use Rattle.pi_tree.specs.declared.names.Declared.{Declared}
use Rattle.pi_tree.specs.Names.{declared_of}
use Rattle.spec_protocol_scope.specs.Declarations.{with_event}
use Rattle.scope_declarations.specs.declared.names.Meaning.TheVariants.{Event}
use Rattle.scope_declarations.specs.declared.names.Names.{Names}
use Rattle.scope_declarations.specs.Names.{names_of}
use Rattle.scope_declarations.proofs.Meanings.{one_more_event, kept_more, adds_event}
use Rattle.scope_declarations.proofs.names.Names.add_event.Goals as goal

pub returns-clause-names : goal.returns-clause-names
returns-clause-names c = one_more_event (names_of c.args.self.now) c.append.new.list (declared_of c.args.found) c.in_ok-append.ensures

pub returns-clause-kept : goal.returns-clause-kept
returns-clause-kept c =
    λ text kept fresh.
    let names = names_of c.args.self.now in
    let arity = c.found.inside.0.1.0 in
    let d = declared_of c.args.found in
    let takes : arity ≡ d.arity = ap (λ (x : Declared). x.arity) c.found.view_is in
    let spelled : c.deref.result.now ≡ d.word = search rules in
    let behind : Names = record { frees = c.args.self.now.frees; ctors = c.args.self.now.ctors; dtors = c.args.self.now.dtors; events = c.append.new.list; tables = c.args.self.now.tables; macros = c.args.self.now.macros; meanings = c.enter.new.meanings } in
    kept_more text c.args.self.now behind (with_event names d) d.word c.deref.result.now (Event c.number_behind.result arity) c.args.self.now.meanings
    (one_more_event names behind.events d c.in_ok-append.ensures) (omega (arith, c.requires))
    spelled refl c.in_ok-enter.ensures kept
    (adds_event text names d c.number_behind.result arity fresh c.number_behind.ensures takes)
