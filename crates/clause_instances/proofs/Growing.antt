-- Ids of instances name the same terms in a bank that grew, and so do pending entries.
use Rattle.std.proofs.Common.{◌≡◌, List, [], ◌∷◌, map, refl}
use Rattle.spec_terms.specs.Term.{Term}
use Rattle.term_tree.specs.Bank.{Grows}
use Rattle.term_tree.proofs.BankLaws.{AreKnown-grows, trees_at-grow}
use Rattle.clause_form.proofs.Copying.{NameTerms-grows}
use Rattle.spec_attack_runs.specs.Source.{Source}
use Rattle.spec_attack_runs.specs.Attack.{supposed}
use Rattle.clause_instances.specs.declared.instance.Instance as made
use Rattle.clause_instances.specs.declared.instance.Pending as held
use Rattle.clause_instances.specs.Instances.{NamesInstance, NameInstances, AreKnownInstances, pending_at, ArePendingIn}

NamesInstance-grows : (a b : List Term) (sources : List Source) (ids : made.Instance) (i : Source) → Grows a b → NamesInstance a sources ids i → NamesInstance b sources ids i
NamesInstance-grows a b sources ids i grows names = record {
  source = names.source;
  at = names.at;
  stage = names.stage;
  supposed_named = NameTerms-grows a b ids.supposed (supposed i.raw) grows names.supposed_named;
  messages = names.messages;
  messages_named = NameTerms-grows a b ids.messages names.messages grows names.messages_named;
  sessions = names.sessions;
  sessions_named = NameTerms-grows a b ids.sessions names.sessions grows names.sessions_named;
  action = names.action;
}

pub NameInstances-grows : (a b : List Term) (sources : List Source) (ids : List made.Instance) (is : List Source) → Grows a b → NameInstances a sources ids is → NameInstances b sources ids is
NameInstances-grows a b sources [] [] grows names = tt
NameInstances-grows a b sources [] (i ∷ is) grows names = absurd names
NameInstances-grows a b sources (x ∷ xs) [] grows names = absurd names
NameInstances-grows a b sources (x ∷ xs) (i ∷ is) grows names = (NamesInstance-grows a b sources x i grows names.0, NameInstances-grows a b sources xs is grows names.1)

pub AreKnownInstances-grow : (a b : List Term) (ids : List made.Instance) → Grows a b → AreKnownInstances a ids → AreKnownInstances b ids
AreKnownInstances-grow a b [] grows known = tt
AreKnownInstances-grow a b (x ∷ xs) grows known =
    let first = known.0 in
    (record { supposed = AreKnown-grows a b x.supposed grows first.supposed; messages = AreKnown-grows a b x.messages grows first.messages; sessions = AreKnown-grows a b x.sessions grows first.sessions }, AreKnownInstances-grow a b xs grows known.1)

pub ArePendingIn-grow : (a b : List Term) (ids : List held.Pending) → Grows a b → ArePendingIn a ids → ArePendingIn b ids
ArePendingIn-grow a b [] grows known = tt
ArePendingIn-grow a b (p ∷ ps) grows known = (AreKnown-grows a b p.terms grows known.0, ArePendingIn-grow a b ps grows known.1)

pub pending_at-grows : (a b : List Term) (ids : List held.Pending) → Grows a b → ArePendingIn a ids → map (pending_at b) ids ≡ map (pending_at a) ids
pending_at-grows a b [] grows known = refl
pending_at-grows a b (p ∷ ps) grows known =
    let first = trees_at-grow a b p.terms grows known.0 in
    let others = pending_at-grows a b ps grows known.1 in
    λ i. record { number = p.number; terms = first i } ∷ others i
