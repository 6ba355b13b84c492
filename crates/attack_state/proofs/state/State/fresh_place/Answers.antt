use Rattle.std.proofs.Common.{ℕ, Option, refl, ap, subst, arith}
use Rattle.std.proofs.lemmas.Grind.{common_steps}
use Rattle.spec_trees.specs.Tree.{Leaf}
use Rattle.spec_calculus.specs.Values.{AttackerName}
use Rattle.spec_calculus.specs.Values as calculus
use Rattle.spec_calculus.specs.Runs.{Configuration, Fresh}
use Rattle.spec_attack_runs.specs.Compiling.{made_known, with_name}
use Rattle.term_tree.specs.Bank.{tree_at}
use Rattle.pi_tree.specs.Protocols.{protocol_of}
use Rattle.attack_state.specs.Outcomes.{Places}
use Rattle.attack_state.proofs.Changing.{state_named}
use Rattle.attack_state.proofs.Places.{fresh_done, fresh_stuck}
use Rattle.attack_state.proofs.state.State.fresh_place.Goals as goal

-- a name of the attacker's own
abbrev own : ℕ → calculus.Value
own n = Leaf (AttackerName n)

pub returns-in-None-clause-places : goal.returns-in-None-clause-places
returns-in-None-clause-places c = λ all st known is found next h.
    let P = protocol_of c.args.protocol.now in
    let stuck = subst (λ (o : Option ℕ). Places (made_known P Fresh) st all c.made_known.new.self o) c.in-None.is (c.in_ok-made_known.ensures.places all st is) in
    fresh_stuck P (tree_at all c.args.term) st stuck found next h

pub returns-in_ok-push-in-Some-clause-places : goal.returns-in_ok-push-in-Some-clause-places
returns-in_ok-push-in-Some-clause-places c = λ all st known is.
    let P = protocol_of c.args.protocol.now in
    let term = tree_at all c.args.term in
    let number = st.configuration.next in
    let one = subst (λ (o : Option ℕ). Places (made_known P Fresh) st all c.made_known.new.self o) c.in-Some.is (c.in_ok-made_known.ensures.places all st is) in
    record {
      next = with_name term (own number) one.next;
      gives = fresh_done P term st one.next c.in-Some.place one.gives;
      is = state_named all c.made_known.new.self c.push.new.self one.next _ (record { term = term; value = own number }) one.is c.in_ok-push-in-Some.ensures.items (c.in_ok-push-in-Some.ensures.listed one.is.names_listed)
          (record { term = record { known = (known, tt); are = refl }; value = ap (λ (x : Configuration). own x.next) is.configuration });
    }

pub returns-in_ok-push-in-Some-clause-run : goal.returns-in_ok-push-in-Some-clause-run
returns-in_ok-push-in-Some-clause-run c = grind (arith, common_steps)
