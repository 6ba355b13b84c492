use Rattle.std.proofs.Common.{◌≡◌, List, [], ◌∷◌, ◌++◌, take, map, rules, sym, ap, ◌∙◌, subst, arith}
use Rattle.std.proofs.lemmas.Grind.{common_steps}
use Rattle.spec_trees.specs.Tree.{Leaf, node}
use Rattle.spec_calculus.specs.Values.{MadeName}
use Rattle.spec_calculus.specs.Runs.{Configuration, Make}
use Rattle.spec_terms.specs.Term.{Point, Term}
use Rattle.spec_translation.specs.Conversion.{name_term}
use Rattle.spec_attack_runs.specs.Compiling.{with_name}
use Rattle.spec_attack_runs.specs.Walking.{acts_at}
use Rattle.term_tree.specs.Bank.{tree_at, AreKnown}
use Rattle.term_tree.specs.declared.bank.Id.{Id}
use Rattle.attack_state.specs.States.{NamesNamed}
use Rattle.pi_tree.specs.declared.value_trees.Value.TheVariants.{Made}
use Rattle.attack_state.proofs.Changing.{state-grows, state_named}
use Rattle.attack_compiling.specs.Walks.{protocol_at, walk_of}
use Rattle.attack_compiling.proofs.Acted.{done_where, stuck_where, made, made_not}
use Rattle.attack_compiling.proofs.Ids.{known_taken, known_both, made_of}
use Rattle.attack_compiling.proofs.acting.make.Goals as goal

pub returns-then-not-branch-clause-does : goal.returns-then-not-branch-clause-does
returns-then-not-branch-clause-does c = λ st is.
    let P = protocol_at c.args.route.now in
    let walk = c.args.walk.now in
    let w = walk_of c.args.bank.now c.args.route.now walk in
    made_not P walk.point w st (stuck_where (acts_at P walk.point w (Make walk.thread)) st c.args.bank.now c.acts_at.new.state c.in_ok-acts_at.field-0 c.if-not-branch.true (c.in_ok-acts_at.ensures.does c.args.bank.now st is))

pub app-requires : goal.app-requires
app-requires c =
    let route = c.args.route.now in
    let walk = c.args.walk.now in
    let all = c.args.bank.now in
    let messages : List Id = take walk.messages route.messages.now in
    let sessions : List Id = take walk.sessions route.sessions.now in
    let are : c.extend_from_slice.new.self.items ≡ messages ++ sessions = search rules in
    subst (λ (l : List Id). AreKnown all l) (sym (c.deref.ensures.value ∙ are))
    (known_both all messages sessions (known_taken all walk.messages route.messages.now c.requires.known.messages) (known_taken all walk.sessions route.sessions.now c.requires.known.sessions))

pub returns-clause-does : goal.returns-clause-does
returns-clause-does c = λ st is.
    let route = c.args.route.now in
    let P = protocol_at route in
    let walk = c.args.walk.now in
    let all = c.args.bank.now in
    let new = c.app.new.self in
    let w = walk_of all route walk in
    let are : c.extend_from_slice.new.self.items ≡ take walk.messages route.messages.now ++ take walk.sessions route.sessions.now = search rules in
    let did = done_where (acts_at P walk.point w (Make walk.thread)) st all c.acts_at.new.state c.in_ok-acts_at.field-0 c.if-not-branch.false (c.in_ok-acts_at.ensures.does all st is) in
    let id = c.in_ok-term.ensures.names in
    let named : NamesNamed new (record { term = c.in_ok-term.term; value = Made walk.point c.args.state.now.conf.next }) (record { term = name_term walk.point w.received w.copied; value = Leaf (MadeName walk.point st.configuration.next) }) = record {
      term = record {
        known = (id.known, tt);
        are = ap (λ (t : Term). t ∷ []) (id.is ∙ ap (λ (ts : List Term). node (Point walk.point) ts) (ap (map (tree_at all)) (c.deref.ensures.value ∙ are) ∙ made_of all route walk));
      };
      value = ap (λ (d : Configuration). Leaf (MadeName walk.point d.next)) is.configuration;
    } in
    record {
      next = with_name (name_term walk.point w.received w.copied) (Leaf (MadeName walk.point st.configuration.next)) did.next;
      gives = made P walk.point w st did.next did.gives;
      is = state_named new c.acts_at.new.state c.push.new.self did.next (record { term = c.in_ok-term.term; value = Made walk.point c.args.state.now.conf.next }) (record { term = name_term walk.point w.received w.copied; value = Leaf (MadeName walk.point st.configuration.next) })
          (state-grows all new c.acts_at.new.state did.next c.app.ensures.grows did.is) c.in_ok-push.ensures.items (c.in_ok-push.ensures.listed did.is.names_listed) named;
    }

pub returns-clause-run : goal.returns-clause-run
returns-clause-run c = grind (arith, common_steps)

pub returns-in_err-extend_from_slice-clause-grows : goal.returns-in_err-extend_from_slice-clause-grows
returns-in_err-extend_from_slice-clause-grows c = grind (arith, common_steps)

pub returns-in_err-arguments-clause-grows : goal.returns-in_err-arguments-clause-grows
returns-in_err-arguments-clause-grows c = grind (arith, common_steps)

pub returns-in_err-acts_at-clause-grows : goal.returns-in_err-acts_at-clause-grows
returns-in_err-acts_at-clause-grows c = grind (arith, common_steps)
