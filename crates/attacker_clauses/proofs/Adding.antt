-- Lists that grow by what raw clauses give.
use Rattle.std.proofs.Common.{◌≡◌, List, [], ◌∷◌, ◌++◌, map, flat_map, refl, sym, ap, ◌∙◌, subst, append_assoc, append-nil, Result, Ok, Err, OnOk}
use Rattle.std.specs.declared.alloc.AllocError.{AllocError}
use Rattle.std.proofs.lemmas.List.{map-append}
use Rattle.std.proofs.lemmas.Grind.{flat_map-append}
use Rattle.spec_terms.specs.Term.{Term}
use Rattle.spec_clauses.specs.Fact.{Clause}
use Rattle.spec_clauses.specs.Norm.{norms}
use Rattle.term_tree.specs.Bank.{Grows}
use Rattle.term_tree.proofs.BankLaws.{Grows_refl, Grows_trans}
use Rattle.clause_form.specs.Seen.{clause_at, AreClausesIn, NameClauses, IdClause}
use Rattle.clause_form.specs.Fit.{AreLowWithinLimit}
use Rattle.clause_form.proofs.Copying.{NameClauses-grow}
use Rattle.clause_form.proofs.Low.{AreLowWithinLimit-grow, AreLowWithinLimit-append}
use Rattle.attacker_clauses.specs.Listed.{Lists, Adds}

AreClausesIn-append : (all : List Term) (cs ds : List IdClause) → AreClausesIn all cs → AreClausesIn all ds → AreClausesIn all (cs ++ ds)
AreClausesIn-append all [] ds known more = more
AreClausesIn-append all (c ∷ cs) ds known more = (known.0, AreClausesIn-append all cs ds known.1 more)

NameClauses-append : (all : List Term) (cs ds : List IdClause) (ts us : List (Clause Term)) → NameClauses all cs ts → NameClauses all ds us → NameClauses all (cs ++ ds) (ts ++ us)
NameClauses-append all cs ds ts us names more = record {
  known = AreClausesIn-append all cs ds names.known more.known;
  are = map-append (clause_at all) cs ds ∙ (ap (λ l. l ++ map (clause_at all) ds) names.are ∙ ap (λ l. ts ++ l) more.are);
}

-- what is listed is as the bank grows
Lists-grow : (old now : List Term) (clauses : List IdClause) (list : List (Clause Term)) → Grows old now → Lists old clauses list → Lists now clauses list
Lists-grow old now clauses list grows lists = record {
  names = NameClauses-grow old now clauses list grows lists.names;
  low = AreLowWithinLimit-grow old now clauses grows lists.names.known lists.low;
}

-- what a raw clause gives is added
pub raw_added : (old now : List Term) (earlier later made : List IdClause) (raw : Clause Term) → Grows old now → NameClauses now made (norms raw) → AreLowWithinLimit now made → later ≡ earlier ++ made → Adds old earlier now later (raw ∷ [])
raw_added old now earlier later made raw grows named low e raws lists =
    let whole : flat_map norms raws ++ norms raw ≡ flat_map norms (raws ++ raw ∷ []) = ap (λ l. flat_map norms raws ++ l) (sym (append-nil (norms raw))) ∙ sym (flat_map-append norms raws (raw ∷ [])) in
    let before = Lists-grow old now earlier (flat_map norms raws) grows lists in
    subst (λ (l : List (Clause Term)). Lists now later l) whole
    (subst (λ (l : List IdClause). Lists now l (flat_map norms raws ++ norms raw)) (sym e) (record {
      names = NameClauses-append now earlier made (flat_map norms raws) (norms raw) before.names named;
      low = AreLowWithinLimit-append now earlier made before.low low;
    }))

-- nothing is added, as the bank grows; first some and then others are
pub nothing_added : (old now : List Term) (list : List IdClause) → Grows old now → Adds old list now list []
nothing_added old now list grows raws lists = subst (λ (l : List (Clause Term)). Lists now list (flat_map norms l)) (sym (append-nil raws)) (Lists-grow old now list (flat_map norms raws) grows lists)

pub both_added : (a b c : List Term) (first second third : List IdClause) (xs ys : List (Clause Term)) → Adds a first b second xs → Adds b second c third ys → Adds a first c third (xs ++ ys)
both_added a b c first second third xs ys one other raws names = subst (λ (l : List (Clause Term)). Lists c third (flat_map norms l)) (append_assoc raws xs ys) (other (raws ++ xs) (one raws names))

-- what is added in a bank that grew before
pub added_later : (old mid now : List Term) (first later : List IdClause) (xs : List (Clause Term)) → Grows old mid → Adds mid first now later xs → Adds old first now later xs
added_later old mid now first later xs grows adds raws lists = adds raws (Lists-grow old mid first (flat_map norms raws) grows lists)

-- how far the clauses are added
pub record AreAdded (old now : List Term) (first later : List IdClause) (raws : List (Clause Term)) : Type 0 where
  pub grows : Grows old now
  pub adds : Adds old first now later raws

pub none_added : (all : List Term) (list : List IdClause) → AreAdded all all list list []
none_added all list = record { grows = Grows_refl all; adds = nothing_added all all list (Grows_refl all) }

pub added_on : (old now next : List Term) (first later new : List IdClause) (xs ys whole : List (Clause Term)) → AreAdded old now first later xs → Grows now next → Adds now later next new ys → xs ++ ys ≡ whole → AreAdded old next first new whole
added_on old now next first later new xs ys whole was grows adds e = record {
  grows = Grows_trans old now next was.grows grows;
  adds = subst (λ (l : List (Clause Term)). Adds old first next new l) e (both_added old now next first later new xs ys was.adds adds);
}

-- all of them, to an empty list
pub all_listed : (old now : List Term) (first list : List IdClause) (raws : List (Clause Term)) → first ≡ [] → Adds old first now list raws → Lists now list (flat_map norms raws)
all_listed old now first list raws none adds = adds [] (subst (λ (l : List IdClause). Lists old l []) (sym none) (record { names = record { known = tt; are = refl }; low = tt }))

-- what is added last comes behind what was added before
pub added_after : (a b c : List Term) (first second third : List IdClause) (xs ys : List (Clause Term)) (r : Result (Unit {0}) AllocError) → Adds a first b second xs → OnOk r (Adds b second c third ys) → OnOk r (Adds a first c third (xs ++ ys))
added_after a b c first second third xs ys (Ok done) one other = both_added a b c first second third xs ys one other
added_after a b c first second third xs ys (Err failed) one other = tt

-- and what is added in a bank that grew before, of a list that is the same
pub last_added : (old mid now : List Term) (first later : List IdClause) (xs ys : List (Clause Term)) (r : Result (Unit {0}) AllocError) → Grows old mid → xs ≡ ys → OnOk r (Adds mid first now later xs) → OnOk r (Adds old first now later ys)
last_added old mid now first later xs ys (Ok done) grows same adds = subst (λ (l : List (Clause Term)). Adds old first now later l) same (added_later old mid now first later xs grows adds)
last_added old mid now first later xs ys (Err failed) grows same adds = tt
