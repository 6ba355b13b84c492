use Rattle.std.proofs.Common.{◌≡◌, true, ◌∙◌, ◌<◌, ◌+◌, ◌-◌, List, [], ◌∷◌, ◌++◌, length, take, drop, map, get_or, ap, sym, subst, arith}
use Rattle.std.proofs.lemmas.Grind.{common_steps}
use Rattle.std.proofs.lemmas.Bool.{false≢true}
use Rattle.std.proofs.lemmas.List.{take_rest}
use Rattle.spec_trees.specs.Tree.{Leaf, node, bind}
use Rattle.spec_terms.specs.Term.{Term, is_ground}
use Rattle.spec_terms.specs.Rank.{height}
use Rattle.spec_terms.proofs.Ground.{ground-bind}
use Rattle.term_tree.specs.Bank.{tree_at, symbol_of}
use Rattle.term_tree.specs.declared.bank.Id.{Id}
use Rattle.term_tree.proofs.BankLaws.{Grows_trans, tree_at-grows}
use Rattle.unify_match.specs.Substitution.{subst_of, CanChange, rank_of, arguments}
use Rattle.unify_match.proofs.Substituting.{IsRebuilding, rebuilding_begins, rebuilding_on, rebuilding_kept, rebuilding_ends, end_unchanged, row_unchanged, argument_unchanged, Names-same, height-argument, subst_of-grows, rank_of-grows, CanChange-argument}
use Rattle.unify_match.proofs.substitute.+rebuild.Goals as goal

pub returns-then-is_ground-clause-names : goal.returns-then-is_ground-clause-names
returns-then-is_ground-clause-names g t c =
    let all = g.B.Bank.trees c.args.bank.now in
    let ground : is_ground (tree_at all c.args.id) ≡ true = cc in record {
      known = c.requires.known;
      is = sym (ground-bind (subst_of all c.args.change) (tree_at all c.args.id) ground);
    }

pub each-init : goal.each-init
each-init g t c =
    let all = g.B.Bank.trees c.args.bank.now in
    rebuilding_begins (subst_of all c.args.change) all (arguments (tree_at all c.led-end.result)) c.args.stack.now.items

pub argument-arg-requires-clause-there : goal.argument-arg-requires-clause-there
argument-arg-requires-clause-there g t c =
    let old = g.B.Bank.trees c.args.bank.now in
    let same = ap (λ u. length (arguments u)) (tree_at-grows old (g.B.Bank.trees c.each.bank) c.led-end.result c.each.invariant.grows c.led-end.ensures.known) in
    omega (arith, same, c.each-test.true, c.arity-count.ensures)

pub rebuild-requires : goal.rebuild-requires
rebuild-requires g t c κs within =
    let old = g.B.Bank.trees c.args.bank.now in
    let now = g.B.Bank.trees c.each.bank in
    let end = tree_at old c.led-end.result in
    let same_end = tree_at-grows old now c.led-end.result c.each.invariant.grows c.led-end.ensures.known in
    let less : c.each.i < length (arguments end) = omega (arith, c.each-test.true, c.arity-count.ensures) in
    let is : tree_at now c.argument-arg.result ≡ get_or (arguments end) c.each.i (Leaf 0) = c.argument-arg.ensures.is ∙ ap (λ u. get_or (arguments u) c.each.i (Leaf 0)) same_end in
    let rank = rank_of-grows old now c.args.change end (tree_at now c.argument-arg.result) c.each.invariant.grows c.led-end.ensures.ready in
    let at = ap (height (rank_of old c.args.change)) is in
    let below = height-argument (rank_of old c.args.change) end c.each.i less in (
      omega (arith, c.decreases, rank, at, below, c.led-end.ensures.lower),
      (within, (c.argument-arg.ensures.known, subst (λ (u : Term). CanChange now c.args.change u) (sym is) (CanChange-argument old now c.args.change end c.each.i c.each.invariant.grows c.led-end.ensures.ready less))),
    )

pub returns-in_err-made-clause-unchanged : goal.returns-in_err-made-clause-unchanged
returns-in_err-made-clause-unchanged g t c unchanged =
    let old = g.B.Bank.trees c.args.bank.now in
    let now = g.B.Bank.trees c.each.bank in
    let s = subst_of old c.args.change in
    let end = tree_at old c.led-end.result in
    let some : 0 < length (arguments end) = omega (arith, c.if-count-eq0.false, c.arity-count.ensures) in
    let same_end = tree_at-grows old now c.led-end.result c.each.invariant.grows c.led-end.ensures.known in
    let less : c.each.i < length (arguments end) = omega (arith, c.each-test.true, c.arity-count.ensures) in
    let is : tree_at now c.argument-arg.result ≡ get_or (arguments end) c.each.i (Leaf 0) = c.argument-arg.ensures.is ∙ ap (λ u. get_or (arguments u) c.each.i (Leaf 0)) same_end in
    let same = subst_of-grows old now c.args.change end c.each.invariant.grows c.led-end.ensures.ready in
    let row = end_unchanged s old c.args.id c.led-end.result c.led-end.ensures.same c.led-end.ensures.stays some unchanged in
    c.rebuild.ensures.unchanged (argument_unchanged s (subst_of now c.args.change) now c.argument-arg.result (get_or (arguments end) c.each.i (Leaf 0)) same is (row_unchanged s (arguments end) c.each.i less row)) ∙ (c.each.invariant.unchanged row).1

pub returns-in_err-push-clause-unchanged : goal.returns-in_err-push-clause-unchanged
returns-in_err-push-clause-unchanged g t c unchanged =
    let old = g.B.Bank.trees c.args.bank.now in
    let now = g.B.Bank.trees c.each.bank in
    let s = subst_of old c.args.change in
    let end = tree_at old c.led-end.result in
    let some : 0 < length (arguments end) = omega (arith, c.if-count-eq0.false, c.arity-count.ensures) in
    let same_end = tree_at-grows old now c.led-end.result c.each.invariant.grows c.led-end.ensures.known in
    let less : c.each.i < length (arguments end) = omega (arith, c.each-test.true, c.arity-count.ensures) in
    let is : tree_at now c.argument-arg.result ≡ get_or (arguments end) c.each.i (Leaf 0) = c.argument-arg.ensures.is ∙ ap (λ u. get_or (arguments u) c.each.i (Leaf 0)) same_end in
    let same = subst_of-grows old now c.args.change end c.each.invariant.grows c.led-end.ensures.ready in
    let row = end_unchanged s old c.args.id c.led-end.result c.led-end.ensures.same c.led-end.ensures.stays some unchanged in
    c.rebuild.ensures.unchanged (argument_unchanged s (subst_of now c.args.change) now c.argument-arg.result (get_or (arguments end) c.each.i (Leaf 0)) same is (row_unchanged s (arguments end) c.each.i less row)) ∙ (c.each.invariant.unchanged row).1

pub each-preserved : goal.each-preserved
each-preserved g t c =
    let old = g.B.Bank.trees c.args.bank.now in
    let now = g.B.Bank.trees c.each.bank in
    let s = subst_of old c.args.change in
    let end = tree_at old c.led-end.result in
    let same_end = tree_at-grows old now c.led-end.result c.each.invariant.grows c.led-end.ensures.known in
    let less : c.each.i < length (arguments end) = omega (arith, c.each-test.true, c.arity-count.ensures) in
    let is : tree_at now c.argument-arg.result ≡ get_or (arguments end) c.each.i (Leaf 0) = c.argument-arg.ensures.is ∙ ap (λ u. get_or (arguments u) c.each.i (Leaf 0)) same_end in
    let same = subst_of-grows old now c.args.change end c.each.invariant.grows c.led-end.ensures.ready in
    let next = g.B.Bank.trees c.rebuild.new.bank in
    let this = get_or (arguments end) c.each.i (Leaf 0) in
    let made = c.in_ok-made.made in
    let before = c.args.stack.now.items in
    let names = Names-same next made (bind (subst_of now c.args.change) (tree_at now c.argument-arg.result)) (bind s this) (ap (λ q. bind q (tree_at now c.argument-arg.result)) same ∙ ap (bind s) is) c.in_ok-made.ensures.names in
    subst (λ (l : List Id). IsRebuilding s old next (arguments end) before l (c.each.i + 1) c.is_kept-kept.result) (sym (c.in_ok-push.ensures.ok ∙ ap (λ (l : List Id). l ++ made ∷ []) c.in_ok-made.ensures.stack))
    (rebuilding_on s old now next (arguments end) before c.each.stack.items c.each.i c.each.kept c.is_kept-kept.result c.argument-arg.result made c.each.invariant less c.argument-arg.ensures.known is c.rebuild.ensures.grows names
    (λ unchanged. let h = argument_unchanged s (subst_of now c.args.change) now c.argument-arg.result this same is unchanged in (c.rebuild.ensures.unchanged h, c.in_ok-made.ensures.itself h))
    c.is_kept-kept.ensures)

pub returns-then-kept-clause-names : goal.returns-then-kept-clause-names
returns-then-kept-clause-names g t c =
    let old = g.B.Bank.trees c.args.bank.now in
    let now = g.B.Bank.trees c.each.bank in
    let s = subst_of old c.args.change in
    let end = tree_at old c.led-end.result in
    let some : 0 < length (arguments end) = omega (arith, c.if-count-eq0.false, c.arity-count.ensures) in
    Names-same now c.led-end.result (bind s end) (bind s (tree_at old c.args.id)) c.led-end.ensures.same
    (rebuilding_kept s old now c.led-end.result c.args.stack.now.items c.each.stack.items c.each.i c.each.kept c.led-end.ensures.known some c.each.invariant (omega (arith, c.each-test.false, c.each.auto.i-end, c.arity-count.ensures)) c.if-kept.true)

pub symbol-requires-clause-some : goal.symbol-requires-clause-some
symbol-requires-clause-some g t c =
    let old = g.B.Bank.trees c.args.bank.now in
    let now = g.B.Bank.trees c.each.bank in
    let s = subst_of old c.args.change in
    let end = tree_at old c.led-end.result in
    let some : 0 < length (arguments end) = omega (arith, c.if-count-eq0.false, c.arity-count.ensures) in
    let same = ap (λ u. length (arguments u)) (tree_at-grows old now c.led-end.result c.each.invariant.grows c.led-end.ensures.known) in
    omega (arith, same, some)

pub returns-in_err-made-2-clause-unchanged : goal.returns-in_err-made-2-clause-unchanged
returns-in_err-made-2-clause-unchanged g t c unchanged =
    let old = g.B.Bank.trees c.args.bank.now in
    let now = g.B.Bank.trees c.each.bank in
    let s = subst_of old c.args.change in
    let end = tree_at old c.led-end.result in
    let some : 0 < length (arguments end) = omega (arith, c.if-count-eq0.false, c.arity-count.ensures) in
    let row = end_unchanged s old c.args.id c.led-end.result c.led-end.ensures.same c.led-end.ensures.stays some unchanged in
    absurd (false≢true (sym c.if-kept.false ∙ (c.each.invariant.unchanged row).0))

pub returns-clause-unchanged : goal.returns-clause-unchanged
returns-clause-unchanged g t c unchanged =
    let old = g.B.Bank.trees c.args.bank.now in
    let now = g.B.Bank.trees c.each.bank in
    let s = subst_of old c.args.change in
    let end = tree_at old c.led-end.result in
    let some : 0 < length (arguments end) = omega (arith, c.if-count-eq0.false, c.arity-count.ensures) in
    let row = end_unchanged s old c.args.id c.led-end.result c.led-end.ensures.same c.led-end.ensures.stays some unchanged in
    absurd (false≢true (sym c.if-kept.false ∙ (c.each.invariant.unchanged row).0))

pub returns-clause-itself : goal.returns-clause-itself
returns-clause-itself g t c unchanged =
    let old = g.B.Bank.trees c.args.bank.now in
    let now = g.B.Bank.trees c.each.bank in
    let s = subst_of old c.args.change in
    let end = tree_at old c.led-end.result in
    let some : 0 < length (arguments end) = omega (arith, c.if-count-eq0.false, c.arity-count.ensures) in
    let row = end_unchanged s old c.args.id c.led-end.result c.led-end.ensures.same c.led-end.ensures.stays some unchanged in
    absurd (false≢true (sym c.if-kept.false ∙ (c.each.invariant.unchanged row).0))

pub returns-clause-names : goal.returns-clause-names
returns-clause-names g t c =
    let old = g.B.Bank.trees c.args.bank.now in
    let now = g.B.Bank.trees c.each.bank in
    let s = subst_of old c.args.change in
    let f = symbol_of c.symbol.result in
    let before = c.args.stack.now.items in
    let whole = subst (λ (u : Term). u ≡ node f (arguments u)) (tree_at-grows old now c.led-end.result c.each.invariant.grows c.led-end.ensures.known) c.symbol.ensures in
    let ends = rebuilding_ends s old now c.led-end.result f before c.each.stack.items c.each.i c.each.kept whole c.each.invariant (omega (arith, c.each-test.false, c.each.auto.i-end, c.arity-count.ensures)) in
    let items : drop c.len-base.result c.as_slice.result.now ≡ drop (length before) c.each.stack.items = ap (λ n. drop n c.as_slice.result.now) (c.len-base.ensures.value) ∙ ap (drop (length before)) c.as_slice.ensures in
    let slice = take (length c.as_slice.result.now - c.len-base.result) (drop c.len-base.result c.as_slice.result.now) in
    let rest : slice ≡ drop c.len-base.result c.as_slice.result.now = take_rest c.as_slice.result.now c.len-base.result in
    Names-same (g.B.Bank.trees c.app.new.self) c.in_ok-made-2.made (node f (map (tree_at now) slice)) (bind s (tree_at old c.args.id))
    (ap (λ l. node f (map (tree_at now) l)) (rest ∙ items) ∙ (ends ∙ c.led-end.ensures.same)) c.in_ok-made-2.ensures.names

pub renamed-requires-clause-none : goal.renamed-requires-clause-none
renamed-requires-clause-none g t c = grind (arith, common_steps)

pub argument-arg-requires-clause-known : goal.argument-arg-requires-clause-known
argument-arg-requires-clause-known g t c = grind (arith, common_steps)

pub returns-then-kept-clause-stack : goal.returns-then-kept-clause-stack
returns-then-kept-clause-stack g t c = grind (arith, common_steps)

pub returns-then-kept-clause-unchanged : goal.returns-then-kept-clause-unchanged
returns-then-kept-clause-unchanged g t c = grind (arith, common_steps)

pub symbol-requires-clause-known : goal.symbol-requires-clause-known
symbol-requires-clause-known g t c = grind (arith, common_steps)

pub offset_bounds-as_slice-base : goal.offset_bounds-as_slice-base
offset_bounds-as_slice-base g t c = grind (arith, common_steps)

pub slice_bounds-app-count : goal.slice_bounds-app-count
slice_bounds-app-count g t c = grind (arith, common_steps)

pub slice_bounds-app-start : goal.slice_bounds-app-start
slice_bounds-app-start g t c = grind (arith, common_steps)

pub app-requires : goal.app-requires
app-requires g t c = grind (arith, common_steps)

pub returns-clause-stack : goal.returns-clause-stack
returns-clause-stack g t c = grind (arith, common_steps)

pub returns-in_err-made-clause-grows : goal.returns-in_err-made-clause-grows
returns-in_err-made-clause-grows g t c = Grows_trans (g.B.Bank.trees c.args.bank.now) (g.B.Bank.trees c.each.bank) (g.B.Bank.trees c.rebuild.new.bank) c.each.invariant.grows c.rebuild.ensures.grows

pub returns-in_err-push-clause-grows : goal.returns-in_err-push-clause-grows
returns-in_err-push-clause-grows g t c = Grows_trans (g.B.Bank.trees c.args.bank.now) (g.B.Bank.trees c.each.bank) (g.B.Bank.trees c.rebuild.new.bank) c.each.invariant.grows c.rebuild.ensures.grows

pub returns-clause-grows : goal.returns-clause-grows
returns-clause-grows g t c = Grows_trans (g.B.Bank.trees c.args.bank.now) (g.B.Bank.trees c.each.bank) (g.B.Bank.trees c.app.new.self) c.each.invariant.grows c.app.ensures.grows

pub returns-then-count-eq0-clause-itself : goal.returns-then-count-eq0-clause-itself
returns-then-count-eq0-clause-itself g t c = grind (arith, common_steps)

pub returns-then-count-eq0-clause-names : goal.returns-then-count-eq0-clause-names
returns-then-count-eq0-clause-names g t c = grind (arith, common_steps)

pub returns-then-count-eq0-clause-unchanged : goal.returns-then-count-eq0-clause-unchanged
returns-then-count-eq0-clause-unchanged g t c = grind (arith, common_steps)

pub returns-then-count-eq0-clause-stack : goal.returns-then-count-eq0-clause-stack
returns-then-count-eq0-clause-stack g t c = grind (arith, common_steps)
