use Rattle.std.proofs.Common.{◌≡◌, ◌∙◌, ◌+◌, ℕ, Option, None, List, map, drop, get_or, sym, ap, subst, arith, drop_of_length-le}
use Rattle.std.proofs.lemmas.Grind.{common_steps}
use Rattle.std.proofs.lemmas.List.{get_or_default}
use Rattle.std.proofs.lemmas.Result.{IfOk-weaker}
use Rattle.spec_trees.specs.Tree.{node, trees}
use Rattle.spec_calculus.specs.Runs.{Build}
use Rattle.spec_terms.specs.Term as term
use Rattle.spec_attack_runs.specs.Compiling.{place_in, made_known, placed, row_placed}
use Rattle.term_tree.specs.declared.bank.Id.{Id}
use Rattle.term_tree.specs.Bank.{symbol_of, tree_at}
use Rattle.pi_tree.specs.Protocols.{protocol_of}
use Rattle.clause_diffs.proofs.Walks.{known_at, lower_at}
use Rattle.attack_state.specs.Outcomes.{Places, PlacesOn}
use Rattle.attack_state.specs.Placings.{placed_fresh}
use Rattle.attack_state.proofs.Outcomes.{places_same, nothing_placed}
use Rattle.attack_state.proofs.Places.{place_found, place_lacking, place_of_variable, built_stuck, built_behind, placed_more, placed_stop, placed_end}
use Rattle.attack_state.proofs.Valued.{ahead}
use Rattle.attack_state.proofs.state.State.+place.Goals as goal

pub place-returns-in-Some-clause-places : goal.place-returns-in-Some-clause-places
place-returns-in-Some-clause-places t c = λ st is.
    let P = protocol_of c.args.protocol.now in
    let all = c.args.bank.now in
    let tree = tree_at all c.args.term in
    record {
      next = st;
      gives = place_found P tree st c.in-Some.place (sym (c.in_ok-place.ensures st is) ∙ c.in-Some.is);
      is = is;
    }

pub place-returns-in-Var-clause-places : goal.place-returns-in-Var-clause-places
place-returns-in-Var-clause-places t c = λ st is.
    let P = protocol_of c.args.protocol.now in
    let all = c.args.bank.now in
    let tree = tree_at all c.args.term in
    nothing_placed (placed P tree st) (place_of_variable P tree c.in-Var.field-0 st c.in-Var.ensures)

pub place-returns-in-None-clause-places : goal.place-returns-in-None-clause-places
place-returns-in-None-clause-places t c = λ st is found next h.
    let P = protocol_of c.args.protocol.now in
    let all = c.args.bank.now in
    let tree = tree_at all c.args.term in
    let ts = map (tree_at all) c.in-App.parts.now in
    let root : tree ≡ node (term.Data c.in-Data.constructor) ts = c.in-App.ensures.0 ∙ ap (λ s. node (symbol_of s) ts) c.in-Data.is in
    let lacks : place_in st tree ≡ None = sym (c.in_ok-place.ensures st is) ∙ c.in_default.is in
    let here = place_lacking P tree (term.Data c.in-Data.constructor) ts st root lacks in
    let stuck = subst (λ (o : Option (List ℕ)). Places (row_placed P (trees ts)) st all c.places.new.self o) c.in-None.is (c.in_ok-places-in-Data.ensures.places st is) in
    built_stuck P c.in-Data.constructor ts st stuck found next (sym here ∙ h)

pub place-returns-in-Some-2-clause-places : goal.place-returns-in-Some-2-clause-places
place-returns-in-Some-2-clause-places t c = λ st is.
    let P = protocol_of c.args.protocol.now in
    let all = c.args.bank.now in
    let tree = tree_at all c.args.term in
    let ts = map (tree_at all) c.in-App.parts.now in
    let root : tree ≡ node (term.Data c.in-Data.constructor) ts = c.in-App.ensures.0 ∙ ap (λ s. node (symbol_of s) ts) c.in-Data.is in
    let lacks : place_in st tree ≡ None = sym (c.in_ok-place.ensures st is) ∙ c.in_default.is in
    let here = place_lacking P tree (term.Data c.in-Data.constructor) ts st root lacks in
    let ks = c.in-Some-2.places in
    let row = subst (λ (o : Option (List ℕ)). Places (row_placed P (trees ts)) st all c.places.new.self o) c.in-Some-2.is (c.in_ok-places-in-Data.ensures.places st is) in
    let same : placed P tree st ≡ made_known P (Build c.in-Data.constructor ks) row.next = here ∙ built_behind P c.in-Data.constructor ts st row.next ks row.gives in
    let new = c.made_known.new.self in
    IfOk-weaker c.made_known.result (Places (made_known P (Build c.in-Data.constructor ks)) row.next all new) (Places (placed P tree) st all new) (λ o. places_same (made_known P (Build c.in-Data.constructor ks)) (placed P tree) st row.next all new same o) (c.made_known.ensures.places all row.next row.is)

pub place-returns-in-None-2-clause-places : goal.place-returns-in-None-2-clause-places
place-returns-in-None-2-clause-places t c = λ st is found next h.
    let P = protocol_of c.args.protocol.now in
    let all = c.args.bank.now in
    let tree = tree_at all c.args.term in
    let ts = map (tree_at all) c.in-App.parts.now in
    let root : tree ≡ node (term.Tuple c.in-Tuple.field-0) ts = c.in-App.ensures.0 ∙ ap (λ s. node (symbol_of s) ts) c.in-Tuple.is in
    let lacks : place_in st tree ≡ None = sym (c.in_ok-place.ensures st is) ∙ c.in_default.is in
    let here = place_lacking P tree (term.Tuple c.in-Tuple.field-0) ts st root lacks in
    let stuck = subst (λ (o : Option (List ℕ)). Places (row_placed P (trees ts)) st all c.places-in-Tuple.new.self o) c.in-None-2.is (c.in_ok-places-in-Tuple.ensures.places st is) in
    built_stuck P 0 ts st stuck found next (sym here ∙ h)

pub place-returns-in-Some-3-clause-places : goal.place-returns-in-Some-3-clause-places
place-returns-in-Some-3-clause-places t c = λ st is.
    let P = protocol_of c.args.protocol.now in
    let all = c.args.bank.now in
    let tree = tree_at all c.args.term in
    let ts = map (tree_at all) c.in-App.parts.now in
    let root : tree ≡ node (term.Tuple c.in-Tuple.field-0) ts = c.in-App.ensures.0 ∙ ap (λ s. node (symbol_of s) ts) c.in-Tuple.is in
    let lacks : place_in st tree ≡ None = sym (c.in_ok-place.ensures st is) ∙ c.in_default.is in
    let here = place_lacking P tree (term.Tuple c.in-Tuple.field-0) ts st root lacks in
    let ks = c.in-Some-3.places in
    let row = subst (λ (o : Option (List ℕ)). Places (row_placed P (trees ts)) st all c.places-in-Tuple.new.self o) c.in-Some-3.is (c.in_ok-places-in-Tuple.ensures.places st is) in
    let same : placed P tree st ≡ made_known P (Build 0 ks) row.next = here ∙ built_behind P 0 ts st row.next ks row.gives in
    let new = c.made_known-in-Some-3.new.self in
    IfOk-weaker c.made_known-in-Some-3.result (Places (made_known P (Build 0 ks)) row.next all new) (Places (placed P tree) st all new) (λ o. places_same (made_known P (Build 0 ks)) (placed P tree) st row.next all new same o) (c.made_known-in-Some-3.ensures.places all row.next row.is)

pub place-returns-in-Attacker-clause-places : goal.place-returns-in-Attacker-clause-places
place-returns-in-Attacker-clause-places t c = λ st is.
    let P = protocol_of c.args.protocol.now in
    let all = c.args.bank.now in
    let tree = tree_at all c.args.term in
    let ts = map (tree_at all) c.in-App.parts.now in
    let root : tree ≡ node (term.Attacker) ts = c.in-App.ensures.0 ∙ ap (λ s. node (symbol_of s) ts) c.in-Attacker.is in
    let lacks : place_in st tree ≡ None = sym (c.in_ok-place.ensures st is) ∙ c.in_default.is in
    let here = place_lacking P tree (term.Attacker) ts st root lacks in
    let new = c.fresh_place.new.self in
    IfOk-weaker c.fresh_place.result (Places (placed_fresh P tree) st all new) (Places (placed P tree) st all new) (λ o. places_same (placed_fresh P tree) (placed P tree) st st all new here o) (c.fresh_place.ensures.places all st c.requires.term is)

pub place-returns-in-Ctor-clause-places : goal.place-returns-in-Ctor-clause-places
place-returns-in-Ctor-clause-places t c = λ st is.
    let P = protocol_of c.args.protocol.now in
    let all = c.args.bank.now in
    let tree = tree_at all c.args.term in
    let ts = map (tree_at all) c.in-App.parts.now in
    let root : tree ≡ node (term.Ctor c.in-Ctor.field-0) ts = c.in-App.ensures.0 ∙ ap (λ s. node (symbol_of s) ts) c.in-Ctor.is in
    let lacks : place_in st tree ≡ None = sym (c.in_ok-place.ensures st is) ∙ c.in_default.is in
    let here = place_lacking P tree (term.Ctor c.in-Ctor.field-0) ts st root lacks in
    nothing_placed (placed P tree st) here

pub place-returns-in-Free-clause-places : goal.place-returns-in-Free-clause-places
place-returns-in-Free-clause-places t c = λ st is.
    let P = protocol_of c.args.protocol.now in
    let all = c.args.bank.now in
    let tree = tree_at all c.args.term in
    let ts = map (tree_at all) c.in-App.parts.now in
    let root : tree ≡ node (term.Free c.in-Free.field-0) ts = c.in-App.ensures.0 ∙ ap (λ s. node (symbol_of s) ts) c.in-Free.is in
    let lacks : place_in st tree ≡ None = sym (c.in_ok-place.ensures st is) ∙ c.in_default.is in
    let here = place_lacking P tree (term.Free c.in-Free.field-0) ts st root lacks in
    nothing_placed (placed P tree st) here

pub place-returns-in-Point-clause-places : goal.place-returns-in-Point-clause-places
place-returns-in-Point-clause-places t c = λ st is.
    let P = protocol_of c.args.protocol.now in
    let all = c.args.bank.now in
    let tree = tree_at all c.args.term in
    let ts = map (tree_at all) c.in-App.parts.now in
    let root : tree ≡ node (term.Point c.in-Point.field-0) ts = c.in-App.ensures.0 ∙ ap (λ s. node (symbol_of s) ts) c.in-Point.is in
    let lacks : place_in st tree ≡ None = sym (c.in_ok-place.ensures st is) ∙ c.in_default.is in
    let here = place_lacking P tree (term.Point c.in-Point.field-0) ts st root lacks in
    nothing_placed (placed P tree st) here

pub places-place-requires : goal.places-place-requires
places-place-requires t c =
    let all = c.args.bank.now in
    let ids = c.args.terms.now in
    let i = c.each.term-index in
    let lower = lower_at all ids i record { index = 0 } c.each-test.true in
    (omega (arith, c.decreases, lower), (c.each.invariant.run, known_at all ids i record { index = 0 } c.requires.terms c.each-test.true))

pub places-returns-in-None-clause-places : goal.places-returns-in-None-clause-places
places-returns-in-None-clause-places t c = λ st is found next h.
    let P = protocol_of c.args.protocol.now in
    let all = c.args.bank.now in
    let ids = c.args.terms.now in
    let i = c.each.term-index in
    let id : Id = get_or ids i record { index = 0 } in
    let at : id ≡ get_or ids i id = get_or_default ids i record { index = 0 } id c.each-test.true in
    let so_far = c.each.invariant.so_far st is in
    let stuck = subst (λ (o : Option ℕ). Places (placed P (tree_at all id)) so_far.next all c.place.new.self o) c.in-None.is (c.in_ok-place.ensures.places so_far.next so_far.is) in
    placed_stop P all (trees (map (tree_at all) ids)) (trees (map (tree_at all) (drop i ids))) (tree_at all id) (trees (map (tree_at all) (drop (i + 1) ids))) st c.each.items.items c.each.self (ahead all ids i id at c.each-test.true) so_far stuck found next h

pub places-each-preserved : goal.places-each-preserved
places-each-preserved t c =
    let P = protocol_of c.args.protocol.now in
    let all = c.args.bank.now in
    let ids = c.args.terms.now in
    let i = c.each.term-index in
    let id : Id = get_or ids i record { index = 0 } in
    let at : id ≡ get_or ids i id = get_or_default ids i record { index = 0 } id c.each-test.true in
    record {
      run = subst (λ (o : Option ℕ). PlacesOn P c.place.new.self o) c.in-Some.is c.in_ok-place.ensures.run;
      so_far = λ st is.
          let so_far = c.each.invariant.so_far st is in
          let one = subst (λ (o : Option ℕ). Places (placed P (tree_at all id)) so_far.next all c.place.new.self o) c.in-Some.is (c.in_ok-place.ensures.places so_far.next so_far.is) in
          placed_more P all (trees (map (tree_at all) ids)) (trees (map (tree_at all) (drop i ids))) (tree_at all id) (trees (map (tree_at all) (drop (i + 1) ids))) st c.each.items.items c.push.new.self.items c.in-Some.place c.each.self c.place.new.self (ahead all ids i id at c.each-test.true) c.in_ok-push-in-Some.ensures.items so_far one;
    }

pub places-returns-clause-places : goal.places-returns-clause-places
places-returns-clause-places t c = λ st is.
    let P = protocol_of c.args.protocol.now in
    let all = c.args.bank.now in
    let ids = c.args.terms.now in
    let i = c.each.term-index in
    let past = ap (λ (l : List Id). trees (map (tree_at all) l)) (drop_of_length-le ids c.each-test.false) in
    placed_end P all (trees (map (tree_at all) ids)) (trees (map (tree_at all) (drop i ids))) st c.each.items.items c.each.self past (c.each.invariant.so_far st is)

pub place-made_known-requires-in-Some-3 : goal.place-made_known-requires-in-Some-3
place-made_known-requires-in-Some-3 t c = grind (arith, common_steps)

pub place-made_known-requires : goal.place-made_known-requires
place-made_known-requires t c = grind (arith, common_steps)

pub places-each-init : goal.places-each-init
places-each-init t c = grind (arith, common_steps)

pub place-places-requires : goal.place-places-requires
place-places-requires t c = grind (arith, common_steps)

pub place-places-requires-in-Tuple : goal.place-places-requires-in-Tuple
place-places-requires-in-Tuple t c = grind (arith, common_steps)
