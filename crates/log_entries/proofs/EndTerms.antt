-- A clause whose conclusion ends with a closed term subsumes only clauses whose conclusions end with it.
use Rattle.std.proofs.Common.{◌≡◌, ◌∙◌, ℕ, ◌-◌, ◌<◌, Bool, true, false, cond, Option, Some, None, List, length, map, refl, ap, sym, arith}
use Rattle.std.specs.Prelude.{slice_get, IfSome}
use Rattle.std.specs.Option.{option_map}
use Rattle.std.proofs.lemmas.List.{length-map}
use Rattle.std.proofs.lemmas.Option.{slice_get-map}
use Rattle.spec_trees.specs.Tree.{bind}
use Rattle.spec_terms.specs.Term.{Term, is_ground}
use Rattle.spec_terms.proofs.Ground.{ground-bind}
use Rattle.spec_clauses.specs.Fact.{Fact, terms_of, map_fact}
use Rattle.spec_clauses.specs.Subsumption.{Subsumes}
use Rattle.spec_clauses.proofs.Parts.{terms_of-map}
use Rattle.term_tree.specs.Bank.{tree_at, Grows, AreShared}
use Rattle.term_tree.specs.declared.bank.Id.{Id}
use Rattle.term_tree.proofs.BankLaws.{tree_at-grows, AreKnown-at}
use Rattle.clause_form.specs.Seen.{fact_at, clause_at, IsFactIn, IsClauseIn, IdClause}
use Rattle.log_entries.specs.Ends.{last_term, if_closed, closed_end_of}

-- the last term of a fact with f of each term
last_seen : {X Y : Type 0} (f : X → Y) (h : Fact X) → last_term (map_fact f h) ≡ option_map f (last_term h)
last_seen f h =
    ap (λ ts. slice_get ts (length ts - 1)) (terms_of-map f h)
    ∙ (ap (λ n. slice_get (map f (terms_of h)) (n - 1)) (length-map (terms_of h) f) ∙ slice_get-map f (terms_of h) (length (terms_of h) - 1))

-- the id names a tree
pub end_known : (all : List Term) (h : Fact Id) (id : Id) → IsFactIn all h → last_term h ≡ Some id → id.index < length all
end_known all h id known is = AreKnown-at all (terms_of h) (length (terms_of h) - 1) id known is

-- so it is below the number of the trees
pub end_below : (all : List Term) (c : IdClause) (o : Option Id) (n : ℕ) → IsClauseIn all c → o ≡ last_term c.conclusion → n ≡ length all → IfSome o (λ id. id.index < n)
end_below all c None n known is size = tt
end_below all c (Some id) n known is size = let within = end_known all c.conclusion id known.conclusion (sym is) in omega (arith, within, size)

-- what is told of a closed end
pub closed_is : (all : List Term) (o : Option Id) (id : Id) → if_closed all o ≡ Some id → (o ≡ Some id) × (is_ground (tree_at all id) ≡ true)
closed_is all None id is = absurd (cc)
closed_is all (Some k) id is = go (is_ground (tree_at all k)) refl is
  where
    go : (b : Bool) → is_ground (tree_at all k) ≡ b → cond b (Some k) None ≡ Some id → (Some k ≡ Some id) × (is_ground (tree_at all id) ≡ true)
    go true told same = (same, (let ids : k ≡ id = cc in ap (λ x. is_ground (tree_at all x)) (sym ids) ∙ told))
    go false told same = absurd (cc)

pub is_closed : (all : List Term) (o : Option Id) (id : Id) → o ≡ Some id → is_ground (tree_at all id) ≡ true → if_closed all o ≡ Some id
is_closed all o id is told = ap (if_closed all) is ∙ ap (λ b. cond b (Some id) None) told

-- as the bank grows, a conclusion ends as it did
pub end_grows : (a b : List Term) (c : IdClause) → Grows a b → IsClauseIn a c → closed_end_of b c ≡ closed_end_of a c
end_grows a b c grows known = go (last_term c.conclusion) refl
  where
    go : (o : Option Id) → last_term c.conclusion ≡ o → if_closed b (last_term c.conclusion) ≡ if_closed a (last_term c.conclusion)
    go None is = ap (if_closed b) is ∙ sym (ap (if_closed a) is)
    go (Some id) is =
        let same : tree_at b id ≡ tree_at a id = tree_at-grows a b id grows (end_known a c.conclusion id known.conclusion is) in
        ap (if_closed b) is ∙ (ap (λ t. cond (is_ground t) (Some id) None) same ∙ sym (ap (if_closed a) is))

-- the terms with which the conclusions of a clause and of one that it subsumes end
ends_match : (all : List Term) (general special : IdClause) (h : Subsumes (clause_at all general) (clause_at all special)) (id : Id) → last_term general.conclusion ≡ Some id
    → option_map (tree_at all) (last_term special.conclusion) ≡ Some (bind h.by (tree_at all id))
ends_match all general special h id is =
    sym (last_seen (tree_at all) special.conclusion)
    ∙ (ap (λ (f : Fact Term). last_term f) (sym h.conclusion)
    ∙ (last_seen (bind h.by) (fact_at all general.conclusion) ∙ ap (option_map (bind h.by)) (last_seen (tree_at all) general.conclusion ∙ ap (option_map (tree_at all)) is)))

named_end : (all : List Term) (o : Option Id) (t : Term) → option_map (tree_at all) o ≡ Some t → (id : Id) × (o ≡ Some id) × (tree_at all id ≡ t)
named_end all None t is = absurd (cc)
named_end all (Some id) t is = (id, refl, cc)

-- Where the general clause's conclusion ends with a closed term, so does the special one's, with the same id in a shared bank.
pub closed_subsumes : (all : List Term) (general special : IdClause) (id : Id) → AreShared all → IsClauseIn all general → IsClauseIn all special → closed_end_of all general ≡ Some id → Subsumes (clause_at all general) (clause_at all special) → closed_end_of all special ≡ Some id
closed_subsumes all general special id shared known also is h =
    let end = closed_is all (last_term general.conclusion) id is in
    let other = named_end all (last_term special.conclusion) (bind h.by (tree_at all id)) (ends_match all general special h id end.0) in
    let tree : tree_at all other.0 ≡ tree_at all id = other.2 ∙ ground-bind h.by (tree_at all id) end.1 in
    let same : other.0 ≡ id = shared other.0 id (end_known all special.conclusion other.0 also.conclusion other.1) (end_known all general.conclusion id known.conclusion end.0) tree in
    is_closed all (last_term special.conclusion) id (other.1 ∙ ap Some same) end.1
