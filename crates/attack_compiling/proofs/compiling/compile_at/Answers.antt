use Rattle.std.proofs.Common.{◌≡◌, Some, List, [], ◌∷◌, length, slice_get, refl, sym, ap, ◌∙◌, eq-eqb}
use Rattle.std.proofs.lemmas.Option.{slice_get_read}
use borrow.Author.Tests.{ltb-true}
use Rattle.pi_tree.specs.Protocols.{protocol_of}
use Rattle.spec_attack_runs.specs.Source.{Source, stage_of}
use Rattle.spec_attack_runs.specs.Attack.{compiled}
use Rattle.attack_compiling.specs.Compiled.{compile_in}
use Rattle.attack_compiling.proofs.Acted.{result_as}
use Rattle.attack_compiling.proofs.InPhases.{one_in, stage_same}
use Rattle.attack_compiling.proofs.compiling.compile_at.Goals as goal

pub returns-else-stage_of-phase-clause-does : goal.returns-else-stage_of-phase-clause-does
returns-else-stage_of-phase-clause-does c = λ st one is named.
    let P = protocol_of c.args.compilation.now.protocol.now in
    let all = c.args.bank.now in
    let ids = c.args.instance.now in
    let sources : List Source = c.args.compilation.now.sources.now in
    let source : Source = c.in-Some.source.now in
    let found = c.in-Some.ensures.lookup in
    let listed : c.deref.result.now ≡ sources = c.deref.ensures.value ∙ c.sources.view_is in
    let at : slice_get sources ids.source ≡ Some source = ap (λ (xs : List Source). slice_get xs ids.source) (sym listed)
    ∙ slice_get_read c.deref.result.now (length c.deref.result.now) ids.source source refl (ltb-true ids.source (length c.deref.result.now) (sym found.0)) found.1 in
    let stage : stage_of one ≡ c.args.phase = stage_same all sources ids one source named at ∙ (sym c.stage_of.ensures ∙ c.if-stage_of-phase.false) in
    result_as (compiled P one) (compile_in P c.args.phase (one ∷ [])) st st (one_in P c.args.phase one st (eq-eqb (stage_of one) c.args.phase stage)) c.compile_one.new.bank c.compile_one.new.state c.compile_one.result (c.compile_one.ensures.does st one is named at)
