-- The table finds the names with one more.
use Rattle.std.proofs.Common.{◌≡◌, refl, arith, rules}
use Rattle.pi_tree.specs.Names.{declared_of}
use Rattle.spec_protocol_scope.specs.Declarations.{with_constructor}
use Rattle.scope_declarations.specs.declared.names.Meaning.TheVariants.{Constructor}
use Rattle.scope_declarations.specs.declared.names.Names.{Names}
use Rattle.scope_declarations.specs.Names.{names_of}
use Rattle.scope_declarations.proofs.Meanings.{one_more_constructor, kept_more, adds_constructor}
use Rattle.scope_declarations.proofs.names.Names.add_constructor.Goals as goal

pub returns-clause-names : goal.returns-clause-names
returns-clause-names c = one_more_constructor (names_of c.args.self.now) c.append.new.list (declared_of c.args.found) c.in_ok-append.ensures

pub returns-clause-kept : goal.returns-clause-kept
returns-clause-kept c =
    λ text kept fresh.
    let names = names_of c.args.self.now in
    let arity = c.found.inside.0.1.0 in
    let is_data = c.found.inside.0.1.1.1.0 in
    let d = declared_of c.args.found in
    let takes : arity ≡ d.arity = search rules in
    let flag : is_data ≡ d.is_data = search rules in
    let spelled : c.deref.result.now ≡ d.word = search rules in
    let behind : Names = record { frees = c.args.self.now.frees; ctors = c.append.new.list; dtors = c.args.self.now.dtors; events = c.args.self.now.events; tables = c.args.self.now.tables; macros = c.args.self.now.macros; meanings = c.enter.new.meanings } in
    kept_more text c.args.self.now behind (with_constructor names d) d.word c.deref.result.now (Constructor c.number_behind.result arity is_data) c.args.self.now.meanings
    (one_more_constructor names behind.ctors d c.in_ok-append.ensures) (omega (arith, c.requires))
    spelled refl c.in_ok-enter.ensures kept
    (adds_constructor text names d c.number_behind.result arity is_data fresh c.number_behind.ensures takes flag)
