use Rattle.std.proofs.Common.{◌≡◌, ◌∙◌, ap, map, length, subst, arith}
use Rattle.spec_trees.specs.Tree.{depth}
use Rattle.spec_calculus.specs.Syntax.{Constructor}
use Rattle.spec_calculus.specs.Syntax as calculus
use Rattle.spec_terms.specs.Term.{Tuple}
use Rattle.term_tree.specs.Bank.{symbol_of, Names}
use Rattle.spec_translation.specs.Conversion.{Scope, pattern_term, hole_term}
use Rattle.pi_tree.specs.Patterns.{pattern_of}
use Rattle.pi_tree.specs.Protocols.{protocol_of}
use Rattle.clause_terms.specs.Fresh.{fresh_of}
use Rattle.clause_terms.specs.Scopes.{scope_at}
use Rattle.clause_terms.specs.Conditions.{IsShortPattern, HasRoomAt}
use Rattle.clause_terms.proofs.Rows.{seen_length, short_pattern_arguments, room_pattern_arguments, few_parts, all_at, lower_at}
use Rattle.clause_terms.proofs.Standings.{IsScopeIn-grows, scope_at-grows}
use Rattle.clause_terms.proofs.Making.{made_on, all_made, applied}
use Rattle.term_tree.proofs.BankLaws.{Grows_trans}
use Rattle.clause_terms.proofs.patterns.+pattern.Goals as goal

pub pattern_grown-patterns_grown-requires : goal.pattern_grown-patterns_grown-requires
pattern_grown-patterns_grown-requires g t c κs within = (
  omega (arith, c.decreases, ap (λ x. depth (pattern_of x)) c.in-App.is),
  (
    within,
    (
      c.requires.scope,
      (
        short_pattern_arguments (pattern_of c.args.pattern.now) (Constructor c.in-App.constructor) c.in-App.arguments (ap pattern_of c.in-App.is) c.requires.short,
        room_pattern_arguments (fresh_of c.args.holes.now.at) (pattern_of c.args.pattern.now) (Constructor c.in-App.constructor) c.in-App.arguments (ap pattern_of c.in-App.is) c.requires.room,
      ),
    ),
  ),
)

pub pattern_grown-patterns_grown-requires-in-Tuple : goal.pattern_grown-patterns_grown-requires-in-Tuple
pattern_grown-patterns_grown-requires-in-Tuple g t c κs within = (
  omega (arith, c.decreases, ap (λ x. depth (pattern_of x)) c.in-Tuple.is),
  (
    within,
    (
      c.requires.scope,
      (
        short_pattern_arguments (pattern_of c.args.pattern.now) calculus.Tuple c.in-Tuple.parts (ap pattern_of c.in-Tuple.is) c.requires.short,
        room_pattern_arguments (fresh_of c.args.holes.now.at) (pattern_of c.args.pattern.now) calculus.Tuple c.in-Tuple.parts (ap pattern_of c.in-Tuple.is) c.requires.room,
      ),
    ),
  ),
)

pub pattern_grown-overflow_cast-len : goal.pattern_grown-overflow_cast-len
pattern_grown-overflow_cast-len g t c =
    let few = few_parts (pattern_of c.args.pattern.now) c.in-Tuple.parts (ap pattern_of c.in-Tuple.is) c.requires.short.tuples in
    let parts = seen_length pattern_of c.parts.inside.items.items c.in-Tuple.parts c.parts.view_is in omega (arith, few, parts, c.len.ensures)

pub pattern_grown-returns-in_ok-ids-in-App-clause-names : goal.pattern_grown-returns-in_ok-ids-in-App-clause-names
pattern_grown-returns-in_ok-ids-in-App-clause-names g t c =
    applied (protocol_of c.args.protocol.now) (hole_term (protocol_of c.args.protocol.now) (scope_at (g.B.Bank.trees c.args.bank.now) c.args.holes.now.scope.now) (fresh_of c.args.holes.now.at)) (pattern_of c.args.pattern.now) (Constructor c.in-App.constructor) c.in-App.arguments
    (g.B.Bank.trees c.patterns_grown.new.bank) (g.B.Bank.trees c.app.new.self) c.in_ok-ids-in-App.ids c.ids.inside.items.items c.deref.result.now (symbol_of c.constructor_symbol.result) c.app.result
    (ap pattern_of c.in-App.is) c.in_ok-ids-in-App.ensures.names c.deref.ensures.value c.ids.view_is (c.constructor_symbol.ensures (length c.in-App.arguments)) c.app.ensures.names

pub pattern_grown-returns-in_ok-ids-in-Tuple-clause-names : goal.pattern_grown-returns-in_ok-ids-in-Tuple-clause-names
pattern_grown-returns-in_ok-ids-in-Tuple-clause-names g t c =
    let parts = seen_length pattern_of c.parts.inside.items.items c.in-Tuple.parts c.parts.view_is in
    let counted : c.len.result ≡ length c.in-Tuple.parts = omega (arith, parts, c.len.ensures) in
    applied (protocol_of c.args.protocol.now) (hole_term (protocol_of c.args.protocol.now) (scope_at (g.B.Bank.trees c.args.bank.now) c.args.holes.now.scope.now) (fresh_of c.args.holes.now.at)) (pattern_of c.args.pattern.now) calculus.Tuple c.in-Tuple.parts
    (g.B.Bank.trees c.patterns_grown-in-Tuple.new.bank) (g.B.Bank.trees c.app-in-Tuple.new.self) c.in_ok-ids-in-Tuple.ids c.ids-in-Tuple.inside.items.items c.deref-in-Tuple.result.now (Tuple c.len.result) c.app-in-Tuple.result
    (ap pattern_of c.in-Tuple.is) c.in_ok-ids-in-Tuple.ensures.names c.deref-in-Tuple.ensures.value c.ids-in-Tuple.view_is (ap Tuple counted) c.app-in-Tuple.ensures.names

pub patterns_grown-pattern_grown-requires : goal.patterns_grown-pattern_grown-requires
patterns_grown-pattern_grown-requires g t c κs within =
    let seen : map pattern_of c.deref-pattern-items.result.now ≡ c.args.patterns.now = ap (map pattern_of) c.deref-pattern-items.ensures.value ∙ c.patterns.view_is in
    let lower = lower_at pattern_of c.deref-pattern-items.result.now c.args.patterns.now c.loop-pattern.pattern-index c.pattern-item.result seen c.loop-pattern-test.true c.pattern-item.is in (
      omega (arith, c.decreases, lower),
      (
        within,
        (
          IsScopeIn-grows (g.B.Bank.trees c.args.bank.now) (g.B.Bank.trees c.loop-pattern.bank) c.args.holes.now.scope.now c.loop-pattern.invariant.grows c.requires.scope,
          (
            all_at IsShortPattern pattern_of c.deref-pattern-items.result.now c.args.patterns.now c.loop-pattern.pattern-index c.pattern-item.result seen c.requires.short c.loop-pattern-test.true c.pattern-item.is,
            all_at (HasRoomAt (fresh_of c.args.holes.now.at)) pattern_of c.deref-pattern-items.result.now c.args.patterns.now c.loop-pattern.pattern-index c.pattern-item.result seen c.requires.room c.loop-pattern-test.true c.pattern-item.is,
          ),
        ),
      ),
    )

pub patterns_grown-loop-pattern-preserved : goal.patterns_grown-loop-pattern-preserved
patterns_grown-loop-pattern-preserved g t c =
    let P = protocol_of c.args.protocol.now in
    let old = g.B.Bank.trees c.args.bank.now in
    let now = g.B.Bank.trees c.loop-pattern.bank in
    let next = g.B.Bank.trees c.pattern_grown.new.bank in
    let same = scope_at-grows old now c.args.holes.now.scope.now c.loop-pattern.invariant.grows c.requires.scope in
    let named = subst (λ (s : Scope). Names next c.in_ok-id.id (pattern_term P s (fresh_of c.args.holes.now.at) (pattern_of c.pattern-item.result))) same c.in_ok-id.ensures.names in
    made_on (λ x. pattern_term P (scope_at old c.args.holes.now.scope.now) (fresh_of c.args.holes.now.at) (pattern_of x)) old now next c.loop-pattern.items.items c.push.new.self.items c.deref-pattern-items.result.now c.loop-pattern.pattern-index c.pattern-item.result c.in_ok-id.id
    c.loop-pattern.invariant c.loop-pattern-test.true c.pattern-item.is c.in_ok-id.ensures.grows named c.in_ok-push.ensures.items

pub patterns_grown-returns-clause-names : goal.patterns_grown-returns-clause-names
patterns_grown-returns-clause-names g t c =
    let seen : map pattern_of c.deref-pattern-items.result.now ≡ c.args.patterns.now = ap (map pattern_of) c.deref-pattern-items.ensures.value ∙ c.patterns.view_is in
    all_made pattern_of (pattern_term (protocol_of c.args.protocol.now) (scope_at (g.B.Bank.trees c.args.bank.now) c.args.holes.now.scope.now) (fresh_of c.args.holes.now.at)) (g.B.Bank.trees c.args.bank.now) (g.B.Bank.trees c.loop-pattern.bank) c.loop-pattern.items.items
    c.deref-pattern-items.result.now c.args.patterns.now c.loop-pattern.pattern-index c.loop-pattern.invariant c.loop-pattern-test.false seen

pub pattern_grown-returns-in_ok-ids-in-App-clause-grows : goal.pattern_grown-returns-in_ok-ids-in-App-clause-grows
pattern_grown-returns-in_ok-ids-in-App-clause-grows g t c = Grows_trans (g.B.Bank.trees c.args.bank.now) (g.B.Bank.trees c.patterns_grown.new.bank) (g.B.Bank.trees c.app.new.self) c.patterns_grown.ensures.grows c.app.ensures.grows

pub pattern_grown-returns-in_ok-ids-in-Tuple-clause-grows : goal.pattern_grown-returns-in_ok-ids-in-Tuple-clause-grows
pattern_grown-returns-in_ok-ids-in-Tuple-clause-grows g t c = Grows_trans (g.B.Bank.trees c.args.bank.now) (g.B.Bank.trees c.patterns_grown-in-Tuple.new.bank) (g.B.Bank.trees c.app-in-Tuple.new.self) c.patterns_grown-in-Tuple.ensures.grows c.app-in-Tuple.ensures.grows

pub patterns_grown-returns-in_err-id-clause-grows : goal.patterns_grown-returns-in_err-id-clause-grows
patterns_grown-returns-in_err-id-clause-grows g t c = Grows_trans (g.B.Bank.trees c.args.bank.now) (g.B.Bank.trees c.loop-pattern.bank) (g.B.Bank.trees c.pattern_grown.new.bank) c.loop-pattern.invariant.grows c.pattern_grown.ensures.grows

pub patterns_grown-returns-in_err-push-clause-grows : goal.patterns_grown-returns-in_err-push-clause-grows
patterns_grown-returns-in_err-push-clause-grows g t c = Grows_trans (g.B.Bank.trees c.args.bank.now) (g.B.Bank.trees c.loop-pattern.bank) (g.B.Bank.trees c.pattern_grown.new.bank) c.loop-pattern.invariant.grows c.pattern_grown.ensures.grows
