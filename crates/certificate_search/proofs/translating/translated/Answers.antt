use Rattle.std.proofs.Common.{◌≡◌, List, sym, subst, rules}
use Rattle.pi_tree.specs.Protocols.{protocol_of}
use Rattle.clause_form.specs.Seen.{AreClausesIn, IdClause}
use Rattle.clause_translate.specs.declared.whole.Translated.{Translated}
use Rattle.clause_translate.specs.Whole.{Translates}
use Rattle.certificate_search.proofs.translating.translated.Goals as goal

pub symbols_of-requires : goal.symbols_of-requires
symbols_of-requires c =
    (subst (λ (t : Translated). Translates (protocol_of c.args.protocol.now) c.args.query c.translate.new.bank t) c.in-Clauses.is c.in_ok-point.ensures.translates).names.known

pub read_clauses-requires : goal.read_clauses-requires
read_clauses-requires c =
    let all = c.translate.new.bank in
    let same : c.deref.result.now ≡ c.in-Clauses.clauses = search rules in
    subst (λ (cs : List IdClause). AreClausesIn all cs) (sym same)
    (subst (λ (t : Translated). Translates (protocol_of c.args.protocol.now) c.args.query all t) c.in-Clauses.is c.in_ok-point.ensures.translates).names.known
