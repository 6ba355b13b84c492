use Rattle.std.proofs.Common.{◌≡◌, ◌∙◌, ap, map, length, arith}
use Rattle.spec_trees.specs.Tree.{depth}
use Rattle.spec_calculus.specs.Syntax.{Constructor}
use Rattle.spec_calculus.specs.Syntax as calculus
use Rattle.spec_terms.specs.Term.{Tuple}
use Rattle.term_tree.specs.Bank.{symbol_of}
use Rattle.spec_translation.specs.Conversion.{rule_term, rule_leaf}
use Rattle.pi_tree.specs.Terms.{term_of}
use Rattle.pi_tree.specs.Protocols.{protocol_of}
use Rattle.clause_terms.specs.Conditions.{HasShortTuples, HasRoomFrom}
use Rattle.clause_terms.proofs.Rows.{seen_length, short_arguments, few_parts, room_arguments, all_at, lower_at}
use Rattle.clause_terms.proofs.Making.{made_on, all_made, applied}
use Rattle.term_tree.proofs.BankLaws.{Grows_trans}
use Rattle.clause_terms.proofs.rules.+rule.Goals as goal

pub rule_term_grown-rule_terms_grown-requires : goal.rule_term_grown-rule_terms_grown-requires
rule_term_grown-rule_terms_grown-requires g t c κs within = (
  omega (arith, c.decreases, ap (λ x. depth (term_of x)) c.in-App.is),
  (
    within,
    (
      short_arguments (term_of c.args.term.now) (Constructor c.in-App.constructor) c.in-App.arguments (ap term_of c.in-App.is) c.requires.short,
      room_arguments c.args.base (term_of c.args.term.now) (Constructor c.in-App.constructor) c.in-App.arguments (ap term_of c.in-App.is) c.requires.room,
    ),
  ),
)

pub rule_term_grown-rule_terms_grown-requires-in-Tuple : goal.rule_term_grown-rule_terms_grown-requires-in-Tuple
rule_term_grown-rule_terms_grown-requires-in-Tuple g t c κs within = (
  omega (arith, c.decreases, ap (λ x. depth (term_of x)) c.in-Tuple.is),
  (
    within,
    (
      short_arguments (term_of c.args.term.now) calculus.Tuple c.in-Tuple.parts (ap term_of c.in-Tuple.is) c.requires.short,
      room_arguments c.args.base (term_of c.args.term.now) calculus.Tuple c.in-Tuple.parts (ap term_of c.in-Tuple.is) c.requires.room,
    ),
  ),
)

pub rule_term_grown-overflow_cast-len : goal.rule_term_grown-overflow_cast-len
rule_term_grown-overflow_cast-len g t c =
    let few = few_parts (term_of c.args.term.now) c.in-Tuple.parts (ap term_of c.in-Tuple.is) c.requires.short in
    let parts = seen_length term_of c.parts.inside.items.items c.in-Tuple.parts c.parts.view_is in omega (arith, few, parts, c.len.ensures)

pub rule_term_grown-returns-in_ok-ids-in-App-clause-names : goal.rule_term_grown-returns-in_ok-ids-in-App-clause-names
rule_term_grown-returns-in_ok-ids-in-App-clause-names g t c =
    applied (protocol_of c.args.protocol.now) (rule_leaf c.args.base) (term_of c.args.term.now) (Constructor c.in-App.constructor) c.in-App.arguments
    (g.B.Bank.trees c.rule_terms_grown.new.bank) (g.B.Bank.trees c.app-in-App.new.self) c.in_ok-ids-in-App.ids c.ids.inside.items.items c.deref.result.now (symbol_of c.constructor_symbol.result) c.app-in-App.result
    (ap term_of c.in-App.is) c.in_ok-ids-in-App.ensures.names c.deref.ensures.value c.ids.view_is (c.constructor_symbol.ensures (length c.in-App.arguments)) c.app-in-App.ensures.names

pub rule_term_grown-returns-in_ok-ids-in-Tuple-clause-names : goal.rule_term_grown-returns-in_ok-ids-in-Tuple-clause-names
rule_term_grown-returns-in_ok-ids-in-Tuple-clause-names g t c =
    let parts = seen_length term_of c.parts.inside.items.items c.in-Tuple.parts c.parts.view_is in
    let counted : c.len.result ≡ length c.in-Tuple.parts = omega (arith, parts, c.len.ensures) in
    applied (protocol_of c.args.protocol.now) (rule_leaf c.args.base) (term_of c.args.term.now) calculus.Tuple c.in-Tuple.parts
    (g.B.Bank.trees c.rule_terms_grown-in-Tuple.new.bank) (g.B.Bank.trees c.app-in-Tuple.new.self) c.in_ok-ids-in-Tuple.ids c.ids-in-Tuple.inside.items.items c.deref-in-Tuple.result.now (Tuple c.len.result) c.app-in-Tuple.result
    (ap term_of c.in-Tuple.is) c.in_ok-ids-in-Tuple.ensures.names c.deref-in-Tuple.ensures.value c.ids-in-Tuple.view_is (ap Tuple counted) c.app-in-Tuple.ensures.names

pub rule_terms_grown-rule_term_grown-requires : goal.rule_terms_grown-rule_term_grown-requires
rule_terms_grown-rule_term_grown-requires g t c κs within =
    let seen : map term_of c.deref-term-items.result.now ≡ c.args.terms.now = ap (map term_of) c.deref-term-items.ensures.value ∙ c.terms.view_is in
    let lower = lower_at term_of c.deref-term-items.result.now c.args.terms.now c.loop-term.term-index c.term-item.result seen c.loop-term-test.true c.term-item.is in (
      omega (arith, c.decreases, lower),
      (
        within,
        (
          all_at HasShortTuples term_of c.deref-term-items.result.now c.args.terms.now c.loop-term.term-index c.term-item.result seen c.requires.short c.loop-term-test.true c.term-item.is,
          all_at (HasRoomFrom c.args.base) term_of c.deref-term-items.result.now c.args.terms.now c.loop-term.term-index c.term-item.result seen c.requires.room c.loop-term-test.true c.term-item.is,
        ),
      ),
    )

pub rule_terms_grown-loop-term-preserved : goal.rule_terms_grown-loop-term-preserved
rule_terms_grown-loop-term-preserved g t c =
    made_on (λ x. rule_term (protocol_of c.args.protocol.now) c.args.base (term_of x)) (g.B.Bank.trees c.args.bank.now) (g.B.Bank.trees c.loop-term.bank) (g.B.Bank.trees c.rule_term_grown.new.bank) c.loop-term.items.items c.push.new.self.items
    c.deref-term-items.result.now c.loop-term.term-index c.term-item.result c.in_ok-id.id
    c.loop-term.invariant c.loop-term-test.true c.term-item.is c.in_ok-id.ensures.grows c.in_ok-id.ensures.names c.in_ok-push.ensures.items

pub rule_terms_grown-returns-clause-names : goal.rule_terms_grown-returns-clause-names
rule_terms_grown-returns-clause-names g t c =
    let seen : map term_of c.deref-term-items.result.now ≡ c.args.terms.now = ap (map term_of) c.deref-term-items.ensures.value ∙ c.terms.view_is in
    all_made term_of (rule_term (protocol_of c.args.protocol.now) c.args.base) (g.B.Bank.trees c.args.bank.now) (g.B.Bank.trees c.loop-term.bank) c.loop-term.items.items
    c.deref-term-items.result.now c.args.terms.now c.loop-term.term-index c.loop-term.invariant c.loop-term-test.false seen

pub rule_term_grown-returns-in_ok-ids-in-App-clause-grows : goal.rule_term_grown-returns-in_ok-ids-in-App-clause-grows
rule_term_grown-returns-in_ok-ids-in-App-clause-grows g t c = Grows_trans (g.B.Bank.trees c.args.bank.now) (g.B.Bank.trees c.rule_terms_grown.new.bank) (g.B.Bank.trees c.app-in-App.new.self) c.rule_terms_grown.ensures.grows c.app-in-App.ensures.grows

pub rule_term_grown-returns-in_ok-ids-in-Tuple-clause-grows : goal.rule_term_grown-returns-in_ok-ids-in-Tuple-clause-grows
rule_term_grown-returns-in_ok-ids-in-Tuple-clause-grows g t c = Grows_trans (g.B.Bank.trees c.args.bank.now) (g.B.Bank.trees c.rule_terms_grown-in-Tuple.new.bank) (g.B.Bank.trees c.app-in-Tuple.new.self) c.rule_terms_grown-in-Tuple.ensures.grows c.app-in-Tuple.ensures.grows

pub rule_terms_grown-returns-in_err-id-clause-grows : goal.rule_terms_grown-returns-in_err-id-clause-grows
rule_terms_grown-returns-in_err-id-clause-grows g t c = Grows_trans (g.B.Bank.trees c.args.bank.now) (g.B.Bank.trees c.loop-term.bank) (g.B.Bank.trees c.rule_term_grown.new.bank) c.loop-term.invariant.grows c.rule_term_grown.ensures.grows

pub rule_terms_grown-returns-in_err-push-clause-grows : goal.rule_terms_grown-returns-in_err-push-clause-grows
rule_terms_grown-returns-in_err-push-clause-grows g t c = Grows_trans (g.B.Bank.trees c.args.bank.now) (g.B.Bank.trees c.loop-term.bank) (g.B.Bank.trees c.rule_term_grown.new.bank) c.loop-term.invariant.grows c.rule_term_grown.ensures.grows
