use Rattle.std.proofs.Common.{◌≡◌, ◌∙◌, ◌<◌, ◌-◌, ◌++◌, ◌∷◌, true, Option, IfSome, List, [], length, take, drop, map, ap, sym, subst, arith}
use Rattle.std.proofs.lemmas.List.{take_rest}
use Rattle.std.proofs.lemmas.Grind.{common_steps}
use Rattle.spec_trees.specs.Tree.{depth, node, bind}
use Rattle.spec_terms.specs.Term.{Term, is_ground}
use Rattle.spec_terms.proofs.Ground.{ground-bind}
use Rattle.term_tree.specs.Bank.{symbol_of, tree_at, AreKnown, Names}
use Rattle.term_tree.specs.declared.bank.Id.{Id}
use Rattle.unify_match.proofs.Substituting.{Names-same}
use Rattle.clause_diffs.specs.Numbers.{placed}
use Rattle.clause_form.proofs.Walks.{argument_later}
use Rattle.clause_form.proofs.Renumber.{stacked_begins, stacked_on, stacked_same, stacked_known, stacked_ends, part_at, parts_count}
use Rattle.term_tree.proofs.BankLaws.{Grows_trans, Grows-length, tree_at-grows}
use Rattle.clause_form.proofs.Remembering.{remembered_grow, on_ok}
use Rattle.clause_form.proofs.renumbering.+renumbered.Goals as goal

pub each-init : goal.each-init
each-init g t c = record {
  stacked = stacked_begins (g.B.Bank.trees c.args.bank.now) (placed c.args.order.now) c.args.id (symbol_of c.in-App.symbol) c.in-App.parts.now c.args.stack.now.items c.in-App.ensures.0 c.in-App.ensures.1;
  changes = c.requires.changes;
}

pub argument-part-requires-clause-there : goal.argument-part-requires-clause-there
argument-part-requires-clause-there g t c =
    let was = c.each.invariant.stacked in
    let count = parts_count (g.B.Bank.trees c.args.bank.now) (g.B.Bank.trees c.each.bank) c.args.id (symbol_of c.in-App.symbol) was.ids was.grows c.requires.known was.is in
    omega (arith, count, c.each-test.true, was.counted)

pub renumbered-requires : goal.renumbered-requires
renumbered-requires g t c κs within =
    let old = g.B.Bank.trees c.args.bank.now in
    let now = g.B.Bank.trees c.each.bank in
    let was = c.each.invariant.stacked in
    let less : c.each.i < length was.ids = omega (arith, c.each-test.true, was.counted) in
    let at = argument_later old now c.args.id (symbol_of c.in-App.symbol) was.ids c.each.i record { index = 0 } was.grows was.is was.parts less in
    let is = part_at old now c.args.id c.argument-part.result (symbol_of c.in-App.symbol) was.ids c.each.i record { index = 0 } was.grows c.requires.known was.is less c.argument-part.ensures.is in
    let lower = ap depth (is ∙ sym at.2) in
    (omega (arith, c.decreases, at.1, lower), (within, (c.argument-part.ensures.known, c.each.invariant.changes)))

pub each-preserved : goal.each-preserved
each-preserved g t c =
    let made = c.in_ok-made-in-App.made in record {
      stacked = stacked_on (g.B.Bank.trees c.args.bank.now) (g.B.Bank.trees c.each.bank) (g.B.Bank.trees c.renumbered.new.bank) (placed c.args.order.now) c.args.id (symbol_of c.in-App.symbol) (length c.in-App.parts.now) c.args.stack.now.items c.each.stack.items c.push.new.self.items c.each.i c.each.kept c.is_kept-kept.result c.argument-part.result made
          c.requires.known c.each.invariant.stacked c.each-test.true c.argument-part.ensures.known c.argument-part.ensures.is c.renumbered.ensures.grows c.in_ok-made-in-App.ensures.names c.is_kept-kept.ensures (c.in_ok-push-in-App.ensures.items ∙ ap (λ (l : List Id). l ++ made ∷ []) c.in_ok-made-in-App.ensures.stack);
      changes = c.in_ok-made-in-App.ensures.changes;
    }

pub returns-then-kept-clause-names : goal.returns-then-kept-clause-names
returns-then-kept-clause-names g t c =
    stacked_same (g.B.Bank.trees c.args.bank.now) (g.B.Bank.trees c.each.bank) (placed c.args.order.now) c.args.id (symbol_of c.in-App.symbol) (length c.in-App.parts.now) c.args.stack.now.items c.each.stack.items c.each.i c.each.kept
    c.requires.known c.each.invariant.stacked (omega (arith, c.each-test.false, c.each.auto.i-end)) c.if-kept.true

pub app-requires : goal.app-requires
app-requires g t c =
    let now = g.B.Bank.trees c.each.bank in
    let before = c.args.stack.now.items in
    let items : drop c.len-base.result c.deref.result.now ≡ drop (length before) c.each.stack.items = ap (λ n. drop n c.deref.result.now) (c.len-base.ensures ∙ c.args.stack.now.ok.0) ∙ ap (drop (length before)) c.deref.ensures.value in
    let rest = take_rest c.deref.result.now c.len-base.result in
    subst (λ (l : List Id). AreKnown now l) (sym (rest ∙ items)) (stacked_known (g.B.Bank.trees c.args.bank.now) now (placed c.args.order.now) c.args.id (symbol_of c.in-App.symbol) (length c.in-App.parts.now) before c.each.stack.items c.each.i c.each.kept c.each.invariant.stacked)

pub returns-in_ok-made-in-App-2-clause-names : goal.returns-in_ok-made-in-App-2-clause-names
returns-in_ok-made-in-App-2-clause-names g t c =
    let old = g.B.Bank.trees c.args.bank.now in
    let now = g.B.Bank.trees c.each.bank in
    let s = placed c.args.order.now in
    let f = symbol_of c.in-App.symbol in
    let before = c.args.stack.now.items in
    let items : drop c.len-base.result c.deref.result.now ≡ drop (length before) c.each.stack.items = ap (λ n. drop n c.deref.result.now) (c.len-base.ensures ∙ c.args.stack.now.ok.0) ∙ ap (drop (length before)) c.deref.ensures.value in
    let slice = take (length c.deref.result.now - c.len-base.result) (drop c.len-base.result c.deref.result.now) in
    let rest : slice ≡ drop c.len-base.result c.deref.result.now = take_rest c.deref.result.now c.len-base.result in
    let ends = stacked_ends old now s c.args.id f (length c.in-App.parts.now) before c.each.stack.items c.each.i c.each.kept c.each.invariant.stacked (omega (arith, c.each-test.false, c.each.auto.i-end)) in
    Names-same (g.B.Bank.trees c.app.new.self) c.in_ok-made-in-App-2.made (node f (map (tree_at now) slice)) (bind s (tree_at old c.args.id)) (ap (λ l. node f (map (tree_at now) l)) (rest ∙ items) ∙ ends) c.in_ok-made-in-App-2.ensures.names

pub returns-in_err-made-in-App-clause-grows : goal.returns-in_err-made-in-App-clause-grows
returns-in_err-made-in-App-clause-grows g t c = Grows_trans (g.B.Bank.trees c.args.bank.now) (g.B.Bank.trees c.each.bank) (g.B.Bank.trees c.renumbered.new.bank) c.each.invariant.stacked.grows c.renumbered.ensures.grows

pub returns-in_err-push-in-App-clause-grows : goal.returns-in_err-push-in-App-clause-grows
returns-in_err-push-in-App-clause-grows g t c = Grows_trans (g.B.Bank.trees c.args.bank.now) (g.B.Bank.trees c.each.bank) (g.B.Bank.trees c.renumbered.new.bank) c.each.invariant.stacked.grows c.renumbered.ensures.grows

pub returns-in_err-made-in-App-2-clause-grows : goal.returns-in_err-made-in-App-2-clause-grows
returns-in_err-made-in-App-2-clause-grows g t c = Grows_trans (g.B.Bank.trees c.args.bank.now) (g.B.Bank.trees c.each.bank) (g.B.Bank.trees c.app.new.self) c.each.invariant.stacked.grows c.app.ensures.grows

pub returns-in_ok-made-in-App-2-clause-grows : goal.returns-in_ok-made-in-App-2-clause-grows
returns-in_ok-made-in-App-2-clause-grows g t c = Grows_trans (g.B.Bank.trees c.args.bank.now) (g.B.Bank.trees c.each.bank) (g.B.Bank.trees c.app.new.self) c.each.invariant.stacked.grows c.app.ensures.grows

pub returns-in_ok-made-in-App-2-clause-stack : goal.returns-in_ok-made-in-App-2-clause-stack
returns-in_ok-made-in-App-2-clause-stack g t c = grind (arith, common_steps)

pub offset_bounds-deref-base : goal.offset_bounds-deref-base
offset_bounds-deref-base g t c = grind (arith, common_steps)

pub argument-part-requires-clause-known : goal.argument-part-requires-clause-known
argument-part-requires-clause-known g t c = grind (arith, common_steps)

pub returns-then-kept-clause-stack : goal.returns-then-kept-clause-stack
returns-then-kept-clause-stack g t c = grind (arith, common_steps)

pub slice_bounds-app-start : goal.slice_bounds-app-start
slice_bounds-app-start g t c = grind (arith, common_steps)

pub slice_bounds-app-count : goal.slice_bounds-app-count
slice_bounds-app-count g t c = grind (arith, common_steps)

pub returns-then-is_ground-clause-names : goal.returns-then-is_ground-clause-names
returns-then-is_ground-clause-names g t c =
    let all = g.B.Bank.trees c.args.bank.now in
    let ground : is_ground (tree_at all c.args.id) ≡ true = cc in record {
      known = c.requires.known;
      is = sym (ground-bind (placed c.args.order.now) (tree_at all c.args.id) ground);
    }

pub returns-in-Some-clause-names : goal.returns-in-Some-clause-names
returns-in-Some-clause-names g t c =
    let all = g.B.Bank.trees c.args.bank.now in
    let s = placed c.args.order.now in
    subst (λ (o : Option Id). IfSome o (λ made. Names all made (bind s (tree_at all c.args.id)))) c.in-Some.is (c.remembered.ensures all s c.requires.changes)

pub returns-in-Var-clause-changes : goal.returns-in-Var-clause-changes
returns-in-Var-clause-changes g t c = on_ok _ (remembered_grow (g.B.Bank.trees c.args.bank.now) (g.B.Bank.trees c.renumbered_variable.new.bank) (placed c.args.order.now) c.args.changes.now c.renumbered_variable.ensures.grows c.requires.changes)

pub returns-in_ok-made-in-App-2-clause-changes : goal.returns-in_ok-made-in-App-2-clause-changes
returns-in_ok-made-in-App-2-clause-changes g t c =
    let old = g.B.Bank.trees c.args.bank.now in
    let now = g.B.Bank.trees c.each.bank in
    let new = g.B.Bank.trees c.app.new.self in
    let s = placed c.args.order.now in
    let grows = Grows_trans old now new c.each.invariant.stacked.grows c.app.ensures.grows in
    let same = tree_at-grows old new c.args.id grows c.requires.known in
    c.remember.ensures new s (remembered_grow now new s c.each.changes c.app.ensures.grows c.each.invariant.changes) (omega (arith, c.requires.known, Grows-length old new grows))
    (subst (λ (u : Term). Names new c.in_ok-made-in-App-2.made (bind s u)) (sym same) (returns-in_ok-made-in-App-2-clause-names g t c))

pub returns-in-Var-clause-stack : goal.returns-in-Var-clause-stack
returns-in-Var-clause-stack g t c = grind (arith, common_steps)

pub returns-in-Some-clause-grows : goal.returns-in-Some-clause-grows
returns-in-Some-clause-grows g t c = grind (arith, common_steps)
