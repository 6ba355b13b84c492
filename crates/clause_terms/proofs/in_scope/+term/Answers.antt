use Rattle.std.proofs.Common.{◌≡◌, ◌∙◌, ap, map, length, subst, arith}
use Rattle.spec_trees.specs.Tree.{depth}
use Rattle.spec_calculus.specs.Syntax.{Constructor}
use Rattle.spec_calculus.specs.Syntax as calculus
use Rattle.spec_terms.specs.Term.{Tuple}
use Rattle.term_tree.specs.Bank.{symbol_of, Names}
use Rattle.spec_translation.specs.Conversion.{Scope, term_in, leaf_term}
use Rattle.pi_tree.specs.Terms.{term_of}
use Rattle.pi_tree.specs.Protocols.{protocol_of}
use Rattle.clause_terms.specs.Scopes.{scope_at}
use Rattle.clause_terms.specs.Conditions.{HasShortTuples}
use Rattle.clause_terms.proofs.Rows.{seen_length, short_arguments, few_parts, all_at, lower_at}
use Rattle.clause_terms.proofs.Standings.{IsScopeIn-grows, scope_at-grows}
use Rattle.clause_terms.proofs.Making.{made_on, all_made, applied}
use Rattle.term_tree.proofs.BankLaws.{Grows_trans}
use Rattle.clause_terms.proofs.in_scope.+term.Goals as goal

pub term_grown-terms_grown-requires : goal.term_grown-terms_grown-requires
term_grown-terms_grown-requires g t c κs within = (
  omega (arith, c.decreases, ap (λ x. depth (term_of x)) c.in-App.is),
  (within, (c.requires.scope, short_arguments (term_of c.args.term.now) (Constructor c.in-App.constructor) c.in-App.arguments (ap term_of c.in-App.is) c.requires.short)),
)

pub term_grown-terms_grown-requires-in-Tuple : goal.term_grown-terms_grown-requires-in-Tuple
term_grown-terms_grown-requires-in-Tuple g t c κs within = (
  omega (arith, c.decreases, ap (λ x. depth (term_of x)) c.in-Tuple.is),
  (within, (c.requires.scope, short_arguments (term_of c.args.term.now) calculus.Tuple c.in-Tuple.parts (ap term_of c.in-Tuple.is) c.requires.short)),
)

pub term_grown-overflow_cast-len : goal.term_grown-overflow_cast-len
term_grown-overflow_cast-len g t c =
    let few = few_parts (term_of c.args.term.now) c.in-Tuple.parts (ap term_of c.in-Tuple.is) c.requires.short in
    let parts = seen_length term_of c.parts.inside.items.items c.in-Tuple.parts c.parts.view_is in omega (arith, few, parts, c.len.ensures)

pub term_grown-returns-in_ok-ids-in-App-clause-names : goal.term_grown-returns-in_ok-ids-in-App-clause-names
term_grown-returns-in_ok-ids-in-App-clause-names g t c =
    applied (protocol_of c.args.protocol.now) (leaf_term (scope_at (g.B.Bank.trees c.args.bank.now) c.args.scope.now)) (term_of c.args.term.now) (Constructor c.in-App.constructor) c.in-App.arguments
    (g.B.Bank.trees c.terms_grown.new.bank) (g.B.Bank.trees c.app-in-App.new.self) c.in_ok-ids-in-App.ids c.ids.inside.items.items c.deref.result.now (symbol_of c.constructor_symbol.result) c.app-in-App.result
    (ap term_of c.in-App.is) c.in_ok-ids-in-App.ensures.names c.deref.ensures.value c.ids.view_is (c.constructor_symbol.ensures (length c.in-App.arguments)) c.app-in-App.ensures.names

pub term_grown-returns-in_ok-ids-in-Tuple-clause-names : goal.term_grown-returns-in_ok-ids-in-Tuple-clause-names
term_grown-returns-in_ok-ids-in-Tuple-clause-names g t c =
    let parts = seen_length term_of c.parts.inside.items.items c.in-Tuple.parts c.parts.view_is in
    let counted : c.len.result ≡ length c.in-Tuple.parts = omega (arith, parts, c.len.ensures) in
    applied (protocol_of c.args.protocol.now) (leaf_term (scope_at (g.B.Bank.trees c.args.bank.now) c.args.scope.now)) (term_of c.args.term.now) calculus.Tuple c.in-Tuple.parts
    (g.B.Bank.trees c.terms_grown-in-Tuple.new.bank) (g.B.Bank.trees c.app-in-Tuple.new.self) c.in_ok-ids-in-Tuple.ids c.ids-in-Tuple.inside.items.items c.deref-in-Tuple.result.now (Tuple c.len.result) c.app-in-Tuple.result
    (ap term_of c.in-Tuple.is) c.in_ok-ids-in-Tuple.ensures.names c.deref-in-Tuple.ensures.value c.ids-in-Tuple.view_is (ap Tuple counted) c.app-in-Tuple.ensures.names

pub terms_grown-term_grown-requires : goal.terms_grown-term_grown-requires
terms_grown-term_grown-requires g t c κs within =
    let seen : map term_of c.deref-term-items.result.now ≡ c.args.terms.now = ap (map term_of) c.deref-term-items.ensures.value ∙ c.terms.view_is in
    let lower = lower_at term_of c.deref-term-items.result.now c.args.terms.now c.loop-term.term-index c.term-item.result seen c.loop-term-test.true c.term-item.is in (
      omega (arith, c.decreases, lower),
      (
        within,
        (
          IsScopeIn-grows (g.B.Bank.trees c.args.bank.now) (g.B.Bank.trees c.loop-term.bank) c.args.scope.now c.loop-term.invariant.grows c.requires.scope,
          all_at HasShortTuples term_of c.deref-term-items.result.now c.args.terms.now c.loop-term.term-index c.term-item.result seen c.requires.short c.loop-term-test.true c.term-item.is,
        ),
      ),
    )

pub terms_grown-loop-term-preserved : goal.terms_grown-loop-term-preserved
terms_grown-loop-term-preserved g t c =
    let P = protocol_of c.args.protocol.now in
    let old = g.B.Bank.trees c.args.bank.now in
    let now = g.B.Bank.trees c.loop-term.bank in
    let next = g.B.Bank.trees c.term_grown.new.bank in
    let same = scope_at-grows old now c.args.scope.now c.loop-term.invariant.grows c.requires.scope in
    let named = subst (λ (s : Scope). Names next c.in_ok-id.id (term_in P s (term_of c.term-item.result))) same c.in_ok-id.ensures.names in
    made_on (λ x. term_in P (scope_at old c.args.scope.now) (term_of x)) old now next c.loop-term.items.items c.push.new.self.items c.deref-term-items.result.now c.loop-term.term-index c.term-item.result c.in_ok-id.id
    c.loop-term.invariant c.loop-term-test.true c.term-item.is c.in_ok-id.ensures.grows named c.in_ok-push.ensures.items

pub terms_grown-returns-clause-names : goal.terms_grown-returns-clause-names
terms_grown-returns-clause-names g t c =
    let seen : map term_of c.deref-term-items.result.now ≡ c.args.terms.now = ap (map term_of) c.deref-term-items.ensures.value ∙ c.terms.view_is in
    all_made term_of (term_in (protocol_of c.args.protocol.now) (scope_at (g.B.Bank.trees c.args.bank.now) c.args.scope.now)) (g.B.Bank.trees c.args.bank.now) (g.B.Bank.trees c.loop-term.bank) c.loop-term.items.items
    c.deref-term-items.result.now c.args.terms.now c.loop-term.term-index c.loop-term.invariant c.loop-term-test.false seen

pub term_grown-returns-in_ok-ids-in-App-clause-grows : goal.term_grown-returns-in_ok-ids-in-App-clause-grows
term_grown-returns-in_ok-ids-in-App-clause-grows g t c = Grows_trans (g.B.Bank.trees c.args.bank.now) (g.B.Bank.trees c.terms_grown.new.bank) (g.B.Bank.trees c.app-in-App.new.self) c.terms_grown.ensures.grows c.app-in-App.ensures.grows

pub term_grown-returns-in_ok-ids-in-Tuple-clause-grows : goal.term_grown-returns-in_ok-ids-in-Tuple-clause-grows
term_grown-returns-in_ok-ids-in-Tuple-clause-grows g t c = Grows_trans (g.B.Bank.trees c.args.bank.now) (g.B.Bank.trees c.terms_grown-in-Tuple.new.bank) (g.B.Bank.trees c.app-in-Tuple.new.self) c.terms_grown-in-Tuple.ensures.grows c.app-in-Tuple.ensures.grows

pub terms_grown-returns-in_err-id-clause-grows : goal.terms_grown-returns-in_err-id-clause-grows
terms_grown-returns-in_err-id-clause-grows g t c = Grows_trans (g.B.Bank.trees c.args.bank.now) (g.B.Bank.trees c.loop-term.bank) (g.B.Bank.trees c.term_grown.new.bank) c.loop-term.invariant.grows c.term_grown.ensures.grows

pub terms_grown-returns-in_err-push-clause-grows : goal.terms_grown-returns-in_err-push-clause-grows
terms_grown-returns-in_err-push-clause-grows g t c = Grows_trans (g.B.Bank.trees c.args.bank.now) (g.B.Bank.trees c.loop-term.bank) (g.B.Bank.trees c.term_grown.new.bank) c.loop-term.invariant.grows c.term_grown.ensures.grows
