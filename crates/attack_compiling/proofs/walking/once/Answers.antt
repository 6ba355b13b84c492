use Rattle.std.proofs.Common.{◌≡◌, ◌+◌, None, List, [], ◌∷◌, ◌++◌, length, sym, ap, ◌∙◌, subst, rules, arith}
use Rattle.std.proofs.lemmas.Grind.{common_steps}
use Rattle.std.specs.List.{find}
use Rattle.term_tree.specs.declared.bank.Id.{Id}
use Rattle.clause_form.specs.Seen.{NameTerms}
use Rattle.pi_tree.specs.Processes.{process_of}
use Rattle.spec_calculus.specs.Runs.{Configuration}
use Rattle.spec_attack_runs.specs.Walking.{same_place}
use Rattle.attack_state.proofs.Changing.{state_done}
use Rattle.attack_compiling.specs.Walks.{protocol_at, walk_of, act_at, node_at}
use Rattle.attack_compiling.proofs.Acted.{done_where, stuck_where}
use Rattle.attack_compiling.proofs.Once.{node_there, node_lacking, node_before, node_first, names_done-grow, passes_nowhere, passes_before, passes_conflict, passes_now, passes_stuck, never_passes}
use Rattle.attack_compiling.proofs.walking.once.Goals as goal

pub returns-in_default-clause-passes : goal.returns-in_default-clause-passes
returns-in_default-clause-passes c = λ st is.
    let all = c.args.bank.now in
    let route = c.args.route.now in
    let walk = c.args.walk.now in
    let P = protocol_at route in
    let process = process_of walk.process.now in
    let w = walk_of all route walk in
    let none : c.in_ok-node.field-0 ≡ None = search rules in
    let counted : c.next_thread-other.result ≡ length st.configuration.threads + 1 = c.next_thread-other.ensures ∙ ap (λ (d : Configuration). length d.threads + 1) is.configuration in
    let lacking = node_lacking all c.in_ok-node.field-0 (node_at process walk.point w c.next_thread-other.result) none (c.in_ok-node.ensures all c.requires.known) in
    never_passes _ (passes_nowhere P process walk.point w st (ap (node_at process walk.point w) (sym counted) ∙ lacking))

pub returns-then-is_same_deed-clause-passes : goal.returns-then-is_same_deed-clause-passes
returns-then-is_same_deed-clause-passes c = λ st is.
    let all = c.args.bank.now in
    let route = c.args.route.now in
    let walk = c.args.walk.now in
    let P = protocol_at route in
    let process = process_of walk.process.now in
    let w = walk_of all route walk in
    let counted : c.next_thread-other.result ≡ length st.configuration.threads + 1 = c.next_thread-other.ensures ∙ ap (λ (d : Configuration). length d.threads + 1) is.configuration in
    let n = node_there all c.in_ok-node.field-0 c.in-Some.node (node_at process walk.point w c.next_thread-other.result) c.in-Some.is (c.in_ok-node.ensures all c.requires.known) in
    let shared = c.equal_trees_have_equal_ids.ensures in
    let sessions = subst (λ (l : List Id). NameTerms all l n.node.sessions) (sym c.deref.ensures.value) n.names.sessions in
    let d = node_before all c.find.result c.in-Some-find.done (find (same_place n.node) st.done) c.in-Some-find.is (c.find.ensures all st.done n.node shared is.done is.done_listed (sym n.names.point) sessions) in
    let same = sym (c.is_same_deed.ensures all n.node d.node shared n.names d.names) ∙ c.if-is_same_deed.true in
    record {
      node = d.node;
      next = st;
      gives = passes_before P process walk.point w st n.node d.node (ap (node_at process walk.point w) (sym counted) ∙ n.is) d.is same;
      other_is = sym d.names.other;
      is = is;
    }

pub returns-in-Some-find-clause-passes : goal.returns-in-Some-find-clause-passes
returns-in-Some-find-clause-passes c = λ st is.
    let all = c.args.bank.now in
    let route = c.args.route.now in
    let walk = c.args.walk.now in
    let P = protocol_at route in
    let process = process_of walk.process.now in
    let w = walk_of all route walk in
    let counted : c.next_thread-other.result ≡ length st.configuration.threads + 1 = c.next_thread-other.ensures ∙ ap (λ (d : Configuration). length d.threads + 1) is.configuration in
    let n = node_there all c.in_ok-node.field-0 c.in-Some.node (node_at process walk.point w c.next_thread-other.result) c.in-Some.is (c.in_ok-node.ensures all c.requires.known) in
    let shared = c.equal_trees_have_equal_ids.ensures in
    let sessions = subst (λ (l : List Id). NameTerms all l n.node.sessions) (sym c.deref.ensures.value) n.names.sessions in
    let d = node_before all c.find.result c.in-Some-find.done (find (same_place n.node) st.done) c.in-Some-find.is (c.find.ensures all st.done n.node shared is.done is.done_listed (sym n.names.point) sessions) in
    let other = sym (c.is_same_deed.ensures all n.node d.node shared n.names d.names) ∙ c.if-is_same_deed.false in
    never_passes _ (passes_conflict P process walk.point w st n.node d.node (ap (node_at process walk.point w) (sym counted) ∙ n.is) d.is other)

pub returns-then-not-branch-clause-passes : goal.returns-then-not-branch-clause-passes
returns-then-not-branch-clause-passes c = λ st is.
    let all = c.args.bank.now in
    let route = c.args.route.now in
    let walk = c.args.walk.now in
    let P = protocol_at route in
    let process = process_of walk.process.now in
    let w = walk_of all route walk in
    let counted : c.next_thread-other.result ≡ length st.configuration.threads + 1 = c.next_thread-other.ensures ∙ ap (λ (d : Configuration). length d.threads + 1) is.configuration in
    let n = node_there all c.in_ok-node.field-0 c.in-Some.node (node_at process walk.point w c.next_thread-other.result) c.in-Some.is (c.in_ok-node.ensures all c.requires.known) in
    let shared = c.equal_trees_have_equal_ids.ensures in
    let sessions = subst (λ (l : List Id). NameTerms all l n.node.sessions) (sym c.deref.ensures.value) n.names.sessions in
    let nothing : c.find.result ≡ None = search rules in
    let first = node_first all c.find.result (find (same_place n.node) st.done) nothing (c.find.ensures all st.done n.node shared is.done is.done_listed (sym n.names.point) sessions) in
    passes_stuck P process walk.point w st n.node (ap (node_at process walk.point w) (sym counted) ∙ n.is) first
    (stuck_where (act_at P process walk.point w) st c.act.new.bank c.act.new.state c.in_ok-act.field-0 c.if-not-branch.true (c.in_ok-act.ensures.does st is))

pub returns-clause-passes : goal.returns-clause-passes
returns-clause-passes c = λ st is.
    let all = c.args.bank.now in
    let new = c.act.new.bank in
    let route = c.args.route.now in
    let walk = c.args.walk.now in
    let P = protocol_at route in
    let process = process_of walk.process.now in
    let w = walk_of all route walk in
    let counted : c.next_thread-other.result ≡ length st.configuration.threads + 1 = c.next_thread-other.ensures ∙ ap (λ (d : Configuration). length d.threads + 1) is.configuration in
    let n = node_there all c.in_ok-node.field-0 c.in-Some.node (node_at process walk.point w c.next_thread-other.result) c.in-Some.is (c.in_ok-node.ensures all c.requires.known) in
    let shared = c.equal_trees_have_equal_ids.ensures in
    let sessions = subst (λ (l : List Id). NameTerms all l n.node.sessions) (sym c.deref.ensures.value) n.names.sessions in
    let nothing : c.find.result ≡ None = search rules in
    let first = node_first all c.find.result (find (same_place n.node) st.done) nothing (c.find.ensures all st.done n.node shared is.done is.done_listed (sym n.names.point) sessions) in
    let did = done_where (act_at P process walk.point w) st new c.act.new.state c.in_ok-act.field-0 c.if-not-branch.false (c.in_ok-act.ensures.does st is) in
    record {
      node = n.node;
      next = record did.next { done = did.next.done ++ n.node ∷ [] };
      gives = passes_now P process walk.point w st n.node did.next (ap (node_at process walk.point w) (sym counted) ∙ n.is) first did.gives;
      other_is = sym n.names.other;
      is = state_done new c.act.new.state c.push.new.self did.next c.in-Some.node n.node did.is c.in_ok-push.ensures.items (c.in_ok-push.ensures.listed did.is.done_listed)
          (names_done-grow all new c.in-Some.node n.node c.in_ok-act.ensures.grows n.names);
    }

pub returns-clause-run : goal.returns-clause-run
returns-clause-run c = grind (arith, common_steps)

pub returns-then-is_same_deed-clause-grows : goal.returns-then-is_same_deed-clause-grows
returns-then-is_same_deed-clause-grows c = grind (arith, common_steps)

pub returns-in-Some-find-clause-grows : goal.returns-in-Some-find-clause-grows
returns-in-Some-find-clause-grows c = grind (arith, common_steps)

pub returns-in_err-node-clause-grows : goal.returns-in_err-node-clause-grows
returns-in_err-node-clause-grows c = grind (arith, common_steps)
