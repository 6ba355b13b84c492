-- What the variables of a clause stand for, one by one, and the parts of a clause that say something.
use Rattle.std.proofs.Common.{◌≡◌, ◌∙◌, ℕ, zero, suc, ◌+◌, ◌-◌, ◌<◌, ◌≤◌, Bool, true, false, ◌&&◌, ◌||◌, not, cond, nat_eq, List, [], ◌∷◌, ◌++◌, map, take, drop, length, get_or, Option, None, Some, is_some, refl, ap, sym, subst, drop-cons, drop_of_length-le, add-one, eqb-true, arith}
use Rattle.std.specs.Prelude.{filter}
use Rattle.std.specs.List.{AllByRecursion, list_any}
use Rattle.std.proofs.lemmas.List.{map-append, map_more, take_all}
use Rattle.std.proofs.lemmas.List.Folds.{list_any-append}
use Rattle.std.proofs.lemmas.Bool.{eq-eqb}
use Rattle.spec_calculus.specs.Points.{numbered}
use Rattle.spec_terms.specs.Term.{Term}
use Rattle.spec_terms.specs.Binding.{resolved}
use Rattle.spec_clauses.specs.Fact.{Clause, clause_terms}
use Rattle.spec_clauses.specs.Norm.{norm, distinct, IsNormal}
use Rattle.spec_clauses.specs.Variables.{clause_variables, AreBelow}
use Rattle.spec_clauses.proofs.Lists.{all_filter}
use Rattle.spec_translation.specs.Visit.{is_large_term}
use Rattle.term_tree.specs.Bank.{tree_at, AreKnown, Names, Grows}
use Rattle.term_tree.specs.declared.bank.Id.{Id}
use Rattle.term_tree.proofs.BankLaws.{Grows_refl, Grows_trans, AreKnown-grows, AreKnown-append, trees_at-grow}
use Rattle.unify_match.specs.declared.bound.Bound.{Bound}
use Rattle.unify_match.specs.Seen.{seen}
use Rattle.clause_form.specs.declared.normal.Normal.{Normal}
use Rattle.clause_form.specs.declared.normal.Normal.TheVariants as variants
use Rattle.clause_form.specs.Normals.{NamesNorm}
use Rattle.clause_form.specs.Seen.{clause_at, IsClauseIn, AreClausesIn, NamesClause, IdClause}
use Rattle.clause_form.proofs.Bounding.{below_above, clause_least}
use Rattle.clause_form.proofs.Copying.{NamesClause-grows}
use Rattle.clause_instances.specs.Parents.{AreOwnTerms, NamesPart}

-- What variables stand for.

module _ (pairs : List Bound) (raised : ℕ) where
  abbrev pub stands_for : List Term → ℕ → Term
  stands_for all x = resolved (seen all pairs) (x + raised)

  -- the first i of them
  pub record AreOwnSoFar (old now : List Term) (numbers : List ℕ) (i : ℕ) (ids : List Id) : Type 0 where
    pub grows : Grows old now
    pub known : AreKnown now ids
    pub are : map (tree_at now) ids ≡ map (stands_for old) (take i numbers)
    pub small : list_any is_large_term (map (stands_for old) (take i numbers)) ≡ false

  pub own_begins : (old : List Term) (numbers : List ℕ) (ids : List Id) → ids ≡ [] → AreOwnSoFar old old numbers 0 ids
  own_begins old numbers ids none = record { grows = Grows_refl old; known = subst (AreKnown old) (sym none) tt; are = ap (map (tree_at old)) none; small = refl }

  pub own_on : (old now next : List Term) (numbers : List ℕ) (i n : ℕ) (ids new : List Id) (id : Id) → AreOwnSoFar old now numbers i ids → i < length numbers → n ≡ get_or numbers i 0 + raised → seen now pairs ≡ seen old pairs → Grows now next
      → is_large_term (resolved (seen now pairs) n) ≡ false → Names next id (resolved (seen now pairs) n) → new ≡ ids ++ id ∷ [] → AreOwnSoFar old next numbers (i + 1) new
  own_on old now next numbers i n ids new id was within is seen_same grows fine names e =
      let term : resolved (seen now pairs) n ≡ stands_for old (get_or numbers i 0) = (λ k. resolved (seen_same k) (is k)) in
      let more : map (stands_for old) (take (i + 1) numbers) ≡ map (stands_for old) (take i numbers) ++ stands_for old (get_or numbers i 0) ∷ [] = map_more (stands_for old) numbers i 0 within in
      let here = names.is ∙ term in
      let before = trees_at-grow now next ids grows was.known ∙ was.are in
      let none = was.small in
      let last : is_large_term (stands_for old (get_or numbers i 0)) ≡ false = sym (ap is_large_term term) ∙ fine in
      record {
        grows = Grows_trans old now next was.grows grows;
        known = subst (AreKnown next) (sym e) (AreKnown-append next ids id (AreKnown-grows now next ids grows was.known) names.known);
        are = ap (map (tree_at next)) e ∙ (map-append (tree_at next) ids (id ∷ []) ∙ ((λ k. before k ++ here k ∷ []) ∙ sym more));
        small = ap (list_any is_large_term) more ∙ (list_any-append is_large_term (map (stands_for old) (take i numbers)) (stands_for old (get_or numbers i 0) ∷ []) ∙ (λ k. none k || (last k || false)));
      }

  any_at : (f : ℕ → Term) (xs : List ℕ) (i : ℕ) → i < length xs → is_large_term (f (get_or xs i 0)) ≡ true → list_any is_large_term (map f xs) ≡ true
  any_at f [] i within large = absurd (omega arith)
  any_at f (x ∷ xs) zero within large = ap (λ b. b || list_any is_large_term (map f xs)) large
  any_at f (x ∷ xs) (suc i) within large = go (is_large_term (f x)) (any_at f xs i (omega arith) large) where
    go : (b : Bool) → list_any is_large_term (map f xs) ≡ true → (b || list_any is_large_term (map f xs)) ≡ true
    go true e = refl
    go false e = e

  pub own_large : (old now : List Term) (numbers : List ℕ) (i n : ℕ) → i < length numbers → n ≡ get_or numbers i 0 + raised → seen now pairs ≡ seen old pairs → is_large_term (resolved (seen now pairs) n) ≡ true → list_any is_large_term (map (stands_for old) numbers) ≡ true
  own_large old now numbers i n within is seen_same large =
      let term : resolved (seen now pairs) n ≡ stands_for old (get_or numbers i 0) = (λ k. resolved (seen_same k) (is k)) in
      any_at (stands_for old) numbers i within (sym (ap is_large_term term) ∙ large)

  pub own_ends : (old now : List Term) (numbers : List ℕ) (i : ℕ) (ids : List Id) → AreOwnSoFar old now numbers i ids → length numbers ≤ i → AreOwnTerms now (map (stands_for old) numbers) (Some ids)
  own_ends old now numbers i ids were past =
      let all : map (stands_for old) (take i numbers) ≡ map (stands_for old) numbers = ap (map (stands_for old)) (take_all i numbers past) in
      (record { known = were.known; are = were.are ∙ all }, sym (ap (list_any is_large_term) all) ∙ were.small)

-- the variables of a clause, without repeats, are below a bound of its terms' variables
all_distinct : (P : ℕ → Type 0) (xs : List ℕ) → AllByRecursion P xs → AllByRecursion P (distinct nat_eq xs)
all_distinct P [] all = tt
all_distinct P (x ∷ xs) all = (all.0, all_filter P (λ y. not (nat_eq x y)) (distinct nat_eq xs) (all_distinct P xs all.1))

pub numbers_below : (c : Clause Term) (n : ℕ) → AreBelow n (clause_terms c) → AllByRecursion (λ x. x < n) (distinct nat_eq (clause_variables c))
numbers_below c n below = all_distinct (λ x. x < n) (clause_variables c) (below_above n (clause_variables c) (clause_least c n below))

-- what holds of each number holds of the one at a place
pub each_at : (P : ℕ → Type 0) (xs : List ℕ) (i d : ℕ) → AllByRecursion P xs → i < length xs → P (get_or xs i d)
each_at P [] i d all within = absurd (omega arith)
each_at P (x ∷ xs) zero d all within = all.0
each_at P (x ∷ xs) (suc i) d all within = each_at P xs i d all.1 (omega arith)

-- The parts that say something.

abbrev pub telling : List (Clause Term) → List (Clause Term)
telling cs = filter (λ c. is_some (norm c)) cs

-- the part of the number is the one of the number that is left among the parts from the i-th on
pub record IsLeft (old now : List Term) (parts : List IdClause) (number i left : ℕ) : Type 0 where
  pub grows : Grows old now
  pub same : numbered (telling (map (clause_at old) parts)) number ≡ numbered (telling (map (clause_at old) (drop i parts))) left

at_drop : (parts : List IdClause) (i : ℕ) (part : IdClause) → i < length parts → part ≡ get_or parts i part → drop i parts ≡ part ∷ drop (i + 1) parts
at_drop parts i part within is =
    drop-cons parts i part within ∙ (ap (λ n. get_or parts i part ∷ drop n parts) (sym (add-one i)) ∙ ap (λ d. d ∷ drop (i + 1) parts) (sym is))

rest_are : (old : List Term) (parts : List IdClause) (i : ℕ) (part : IdClause) (b : Bool) → i < length parts → part ≡ get_or parts i part → is_some (norm (clause_at old part)) ≡ b
    → telling (map (clause_at old) (drop i parts)) ≡ cond b (clause_at old part ∷ telling (map (clause_at old) (drop (i + 1) parts))) (telling (map (clause_at old) (drop (i + 1) parts)))
rest_are old parts i part b within is says =
    ap (λ l. telling (map (clause_at old) l)) (at_drop parts i part within is) ∙ ap (λ c. cond c (clause_at old part ∷ telling (map (clause_at old) (drop (i + 1) parts))) (telling (map (clause_at old) (drop (i + 1) parts)))) says

pub left_begins : (old : List Term) (parts : List IdClause) (number : ℕ) → IsLeft old old parts number 0 number
left_begins old parts number = record { grows = Grows_refl old; same = refl }

-- a part that says nothing, and one that does
left_on : (old now next : List Term) (parts : List IdClause) (number i left : ℕ) (part : IdClause) → IsLeft old now parts number i left → i < length parts → part ≡ get_or parts i part → is_some (norm (clause_at old part)) ≡ false → Grows now next → IsLeft old next parts number (i + 1) left
left_on old now next parts number i left part was within is says grows = record { grows = Grows_trans old now next was.grows grows; same = was.same ∙ ap (λ l. numbered l left) (rest_are old parts i part false within is says) }

fewer : (c : Clause Term) (cs : List (Clause Term)) (left : ℕ) → (left ≡ 1 → ⊥) → numbered (c ∷ cs) left ≡ numbered cs (left - 1)
fewer c cs zero not_one = let e : 0 ≡ 0 - 1 = omega arith in ap (numbered cs) e
fewer c cs (suc zero) not_one = absurd (not_one refl)
fewer c cs (suc (suc k)) not_one = let e : suc k ≡ suc (suc k) - 1 = omega arith in ap (numbered cs) e

left_fewer : (old now next : List Term) (parts : List IdClause) (number i left less : ℕ) (part : IdClause) → IsLeft old now parts number i left → i < length parts → part ≡ get_or parts i part → is_some (norm (clause_at old part)) ≡ true → Grows now next → (left ≡ 1 → ⊥) → less ≡ left - 1
    → IsLeft old next parts number (i + 1) less
left_fewer old now next parts number i left less part was within is says grows not_one e = record {
  grows = Grows_trans old now next was.grows grows;
  same = was.same ∙ (ap (λ l. numbered l left) (rest_are old parts i part true within is says) ∙ (fewer (clause_at old part) (telling (map (clause_at old) (drop (i + 1) parts))) left not_one ∙ ap (numbered (telling (map (clause_at old) (drop (i + 1) parts)))) (sym e)));
}

-- whatever the part says
pub left_more : (old now next : List Term) (parts : List IdClause) (number i left less : ℕ) (part : IdClause) (says : Bool) → IsLeft old now parts number i left → i < length parts → part ≡ get_or parts i part → says ≡ is_some (norm (clause_at old part)) → Grows now next → (says && nat_eq left 1) ≡ false
    → less ≡ cond says (left - 1) left → IsLeft old next parts number (i + 1) less
left_more old now next parts number i left less part true was within is says grows other e =
    left_fewer old now next parts number i left less part was within is (sym says) grows (λ one. let holds = eq-eqb left 1 one in let clash : true ≡ false = sym holds ∙ other in absurd (cc)) e
left_more old now next parts number i left less part false was within is says grows other e =
    subst (λ (n : ℕ). IsLeft old next parts number (i + 1) n) (sym e) (left_on old now next parts number i left part was within is (sym says) grows)

both_true : (b c : Bool) → (b && c) ≡ true → (b ≡ true) × (c ≡ true)
both_true true c e = (refl, e)
both_true false c e = absurd (cc)

left_here : (old now : List Term) (parts : List IdClause) (number i left : ℕ) (part : IdClause) → IsLeft old now parts number i left → i < length parts → part ≡ get_or parts i part → is_some (norm (clause_at old part)) ≡ true → left ≡ 1
    → numbered (telling (map (clause_at old) parts)) number ≡ Some (clause_at old part)
left_here old now parts number i left part was within is says one = was.same ∙ (ap (λ l. numbered l left) (rest_are old parts i part true within is says) ∙ ap (numbered (clause_at old part ∷ telling (map (clause_at old) (drop (i + 1) parts)))) one)

pub left_at : (old now : List Term) (parts : List IdClause) (number i left : ℕ) (part : IdClause) (says : Bool) → IsLeft old now parts number i left → i < length parts → part ≡ get_or parts i part → says ≡ is_some (norm (clause_at old part)) → (says && nat_eq left 1) ≡ true
    → numbered (telling (map (clause_at old) parts)) number ≡ Some (clause_at old part)
left_at old now parts number i left part says was within is tells here =
    let both = both_true says (nat_eq left 1) here in
    left_here old now parts number i left part was within is (sym tells ∙ both.0) (eqb-true left 1 both.1)

none_numbered : (n : ℕ) → numbered {A = Clause Term} [] n ≡ None
none_numbered zero = refl
none_numbered (suc k) = refl

pub left_none : (old now : List Term) (parts : List IdClause) (number i left : ℕ) → IsLeft old now parts number i left → length parts ≤ i → numbered (telling (map (clause_at old) parts)) number ≡ None
left_none old now parts number i left was past = was.same ∙ (ap (λ l. numbered (telling (map (clause_at old) l)) left) (drop_of_length-le parts past) ∙ none_numbered left)

-- a part in a bank that grew
clause_in : (all : List Term) (cs : List IdClause) (i : ℕ) (d : IdClause) → AreClausesIn all cs → i < length cs → IsClauseIn all (get_or cs i d)
clause_in all [] i d known within = absurd (omega arith)
clause_in all (c ∷ cs) zero d known within = known.0
clause_in all (c ∷ cs) (suc i) d known within = clause_in all cs i d known.1 (omega arith)

pub part_later : (old now : List Term) (cs : List IdClause) (i : ℕ) (c : IdClause) → Grows old now → AreClausesIn old cs → i < length cs → c ≡ get_or cs i c → NamesClause now c (clause_at old c)
part_later old now cs i c grows known within is = NamesClause-grows old now c (clause_at old c) grows (record { known = subst (λ (d : IdClause). IsClauseIn old d) (sym is) (clause_in old cs i c known within); is = refl })

-- the part that was found
pub found_here : (old now next : List Term) (o : Option (Clause Term)) (found part : IdClause) → o ≡ Some (clause_at old part) → found ≡ part → NamesClause now part (clause_at old part) → Grows now next → NamesPart next (Some found) o
found_here old now next o found part is same names grows =
    subst (λ (p : Option (Clause Term)). NamesPart next (Some found) p) (sym is) (subst (λ (c : IdClause). NamesClause next c (clause_at old part)) (sym same) (NamesClause-grows now next part (clause_at old part) grows names))

-- The norm of a copy of a clause that is its own norm.
norm_of_copy : (mid : List Term) (copied : IdClause) (plain : Clause Term) → NamesClause mid copied plain → IsNormal plain → norm (clause_at mid copied) ≡ Some plain
norm_of_copy mid copied plain names normal = ap norm names.is ∙ normal.own

pub never_tautology : (mid now : List Term) (copied : IdClause) (plain : Clause Term) (found : Normal) → NamesClause mid copied plain → IsNormal plain → found ≡ variants.Tautology → NamesNorm now found (norm (clause_at mid copied)) → ⊥
never_tautology mid now copied plain found names normal is named =
    let none : norm (clause_at mid copied) ≡ None = subst (λ (n : Normal). NamesNorm now n (norm (clause_at mid copied))) is named in
    let clash : None ≡ Some plain = sym none ∙ norm_of_copy mid copied plain names normal in cc

pub own_norm : (mid now : List Term) (copied made : IdClause) (plain : Clause Term) (found : Normal) → NamesClause mid copied plain → IsNormal plain → found ≡ variants.Clause made → NamesNorm now found (norm (clause_at mid copied)) → NamesClause now made plain
own_norm mid now copied made plain found names normal is named =
    subst (λ (o : Option (Clause Term)). NamesNorm now (variants.Clause made) o) (norm_of_copy mid copied plain names normal)
    (subst (λ (n : Normal). NamesNorm now n (norm (clause_at mid copied))) is named)

-- whether a part says something
pub says_nothing : (now : List Term) (found : Normal) (o : Option (Clause Term)) → found ≡ variants.Tautology → NamesNorm now found o → false ≡ is_some o
says_nothing now found o is named = let none : o ≡ None = subst (λ (n : Normal). NamesNorm now n o) is named in sym (ap is_some none)

pub says_something : (now : List Term) (found : Normal) (made : IdClause) (o : Option (Clause Term)) → found ≡ variants.Clause made → NamesNorm now found o → true ≡ is_some o
says_something now found made o is named = go o (subst (λ (n : Normal). NamesNorm now n o) is named) where
  go : (o : Option (Clause Term)) → NamesNorm now (variants.Clause made) o → true ≡ is_some o
  go None h = absurd h
  go (Some c) h = refl
