-- The table finds the names with one more.
use Rattle.std.proofs.Common.{◌≡◌, refl, arith, rules}
use Rattle.pi_tree.specs.Rules.{destructor_of}
use Rattle.spec_protocol_scope.specs.Declarations.{with_destructor}
use Rattle.scope_declarations.specs.declared.names.Meaning.TheVariants.{Destructor}
use Rattle.scope_declarations.specs.declared.names.Names.{Names}
use Rattle.scope_declarations.specs.Names.{names_of}
use Rattle.scope_declarations.proofs.Meanings.{one_more_destructor, kept_more, adds_destructor}
use Rattle.scope_declarations.proofs.names.Names.add_destructor.Goals as goal

pub returns-clause-names : goal.returns-clause-names
returns-clause-names c = one_more_destructor (names_of c.args.self.now) c.append_destructor.new.list (destructor_of c.args.found) c.in_ok-append_destructor.ensures

pub returns-clause-kept : goal.returns-clause-kept
returns-clause-kept c =
    λ text kept fresh.
    let names = names_of c.args.self.now in
    let f = c.args.found in
    let d = destructor_of f in
    let spelled : c.deref.result.now ≡ d.word = search rules in
    let behind : Names = record { frees = c.args.self.now.frees; ctors = c.args.self.now.ctors; dtors = c.append_destructor.new.list; events = c.args.self.now.events; tables = c.args.self.now.tables; macros = c.args.self.now.macros; meanings = c.enter.new.meanings } in
    kept_more text c.args.self.now behind (with_destructor names d) d.word c.deref.result.now (Destructor c.destructor_behind.result c.arity_of.result) c.args.self.now.meanings
    (one_more_destructor names behind.dtors d c.in_ok-append_destructor.ensures) (omega (arith, c.requires))
    spelled refl c.in_ok-enter.ensures kept
    (adds_destructor text names d c.destructor_behind.result c.arity_of.result fresh c.destructor_behind.ensures c.arity_of.ensures)
