-- The table finds the names with one more.
use Rattle.std.proofs.Common.{◌≡◌, refl, arith, rules}
use Rattle.pi_tree.specs.Names.{declared_of}
use Rattle.spec_protocol_scope.specs.Declarations.{with_free}
use Rattle.scope_declarations.specs.declared.names.Meaning.TheVariants.{Free}
use Rattle.scope_declarations.specs.declared.names.Names.{Names}
use Rattle.scope_declarations.specs.Names.{names_of}
use Rattle.scope_declarations.proofs.Meanings.{one_more_free, kept_more, adds_free}
use Rattle.scope_declarations.proofs.names.Names.add_free.Goals as goal

pub returns-clause-names : goal.returns-clause-names
returns-clause-names c = one_more_free (names_of c.args.self.now) c.append.new.list (declared_of c.args.free) c.in_ok-append.ensures

pub returns-clause-kept : goal.returns-clause-kept
returns-clause-kept c =
    λ text kept fresh.
    let names = names_of c.args.self.now in
    let d = declared_of c.args.free in
    let spelled : c.deref.result.now ≡ d.word = search rules in
    let behind : Names = record { frees = c.append.new.list; ctors = c.args.self.now.ctors; dtors = c.args.self.now.dtors; events = c.args.self.now.events; tables = c.args.self.now.tables; macros = c.args.self.now.macros; meanings = c.enter.new.meanings } in
    kept_more text c.args.self.now behind (with_free names d) d.word c.deref.result.now (Free c.number_behind.result) c.args.self.now.meanings
    (one_more_free names behind.frees d c.in_ok-append.ensures) (omega (arith, c.requires))
    spelled refl c.in_ok-enter.ensures kept
    (adds_free text names d c.number_behind.result fresh c.number_behind.ensures)
