-- Terms closed: the terms for variables in order, and terms under the substitution that closes.
use Rattle.std.proofs.Common.{◌≡◌, ◌∙◌, ℕ, zero, suc, ◌+◌, ◌-◌, ◌<◌, ◌≤◌, Bool, true, false, ◌&&◌, ◌||◌, not, cond, nat_eq, Option, option_map, unwrap_or, Result, Ok, Err, IfOk, List, [], ◌∷◌, ◌++◌, length, map, flat_map, take, get_or, refl, ap, sym, subst, append_assoc, append-nil, eqb-true, arith}
use Rattle.std.specs.List.{list_all, list_any, range_with_len}
use Rattle.std.specs.declared.alloc.AllocError.{AllocError}
use Rattle.std.proofs.lemmas.List.{map-append, map_more, length-map, take_all}
use Rattle.std.proofs.lemmas.List.Folds.{list_all-append, list_any-append}
use Rattle.std.proofs.lemmas.List.FromFn.{map-range_with_len_more}
use Rattle.std.proofs.lemmas.Option.{slice_get-map, slice_get-get_or, slice_get_past}
use Rattle.std.proofs.lemmas.Simd.{map-map}
use Rattle.spec_trees.specs.Tree.{Leaf, node, bind}
use Rattle.spec_trees.proofs.Rows.{bind-node}
use Rattle.spec_terms.specs.Term.{Term, Subst}
use Rattle.spec_clauses.specs.Fact.{terms_of}
use Rattle.spec_clauses.specs.Norm.{distinct, place_of}
use Rattle.spec_clauses.proofs.Distinct.{distinct-distinct, places_of_distinct}
use Rattle.spec_translation.specs.Visit.{is_large_term}
use Rattle.term_tree.specs.Bank.{symbol_of, tree_at, AreKnown, Names, Grows}
use Rattle.term_tree.specs.declared.bank.Id.{Id}
use Rattle.term_tree.specs.declared.bank.Sym as declared
use Rattle.term_tree.proofs.BankLaws.{Grows_refl, Grows_trans, AreKnown-grows, AreKnown-append, trees_at-grow}
use Rattle.clause_diffs.specs.declared.plain.Tree.{Tree}
use Rattle.clause_diffs.specs.declared.plain.Tree.TheVariants.{App}
use Rattle.clause_diffs.specs.Plain.{term_of}
use Rattle.clause_diffs.proofs.Lists.{flat_map_more}
use Rattle.clause_diffs.proofs.Walks.{known_at}
use Rattle.clause_form.specs.declared.plain.PlainFact.{PlainFact}
use Rattle.clause_form.specs.PlainFacts.{plain_fact_of}
use Rattle.clause_form.specs.Seen.{NameTerms}
use Rattle.spec_attack_runs.specs.Instance.{own_name, closing, next_after}
use Rattle.clause_instances.specs.declared.closing.Closing.{Closing}
use Rattle.clause_instances.specs.Closing.{term_for, Closes, IsClosing, AddsClosed}

-- The terms for variables in order.

closing_row : (terms : List Term) (n : ℕ) (variables : List ℕ) → map (closing terms n variables) (distinct nat_eq variables) ≡ map (term_for terms n) (range_with_len 0 (length (distinct nat_eq variables)))
unfolding closing
closing_row terms n variables =
    let order = distinct nat_eq variables in
    sym (map-map (term_for terms n) (λ x. place_of x order) order) ∙ ap (map (term_for terms n)) (places_of_distinct order (distinct-distinct nat_eq variables))

-- variables with the same first occurrences are closed alike
pub closing_same : (terms : List Term) (n : ℕ) (xs ys : List ℕ) → distinct nat_eq xs ≡ distinct nat_eq ys → closing terms n xs ≡ closing terms n ys
unfolding closing
closing_same terms n xs ys e = λ i x. term_for terms n (place_of x (e i))

pub next_same : (terms : List Term) (n : ℕ) (xs ys : List ℕ) → distinct nat_eq xs ≡ distinct nat_eq ys → next_after terms n xs ≡ next_after terms n ys
next_same terms n xs ys e = ap (λ order. n + (length order - length terms)) e

-- one of the given terms, and the next name
pub given_term : (all : List Term) (given : List Id) (n place : ℕ) (d : Id) → AreKnown all given → place < length given → Names all (get_or given place d) (term_for (map (tree_at all) given) n place)
given_term all given n place d known within = record {
  known = known_at all given place d known within;
  is = sym (ap (λ (o : Option Term). unwrap_or o (own_name (n + (place - length (map (tree_at all) given))))) (slice_get-map (tree_at all) given place ∙ ap (option_map (tree_at all)) (slice_get-get_or given place d within)));
}

pub lost_term : (all next : List Term) (given : List Id) (n place number : ℕ) (id : Id) → length given ≤ place → number ≡ n + (place - length given) → Names next id (own_name number) → Names next id (term_for (map (tree_at all) given) n place)
lost_term all next given n place number id past is names =
    let long = length-map given (tree_at all) in
    let none = slice_get-map (tree_at all) given place ∙ ap (option_map (tree_at all)) (slice_get_past given place past) in
    let same : own_name number ≡ term_for (map (tree_at all) given) n place =
    ap own_name (is ∙ ap (λ l. n + (place - l)) (sym long)) ∙ sym (ap (λ (o : Option Term). unwrap_or o (own_name (n + (place - length (map (tree_at all) given))))) none) in
    subst (λ (t : Term). Names next id t) same names

-- the first k of them
pub record AreFirst (old now : List Term) (given : List Id) (n k number : ℕ) (items : List Id) : Type 0 where
  pub grows : Grows old now
  pub known : AreKnown now items
  pub are : map (tree_at now) items ≡ map (term_for (map (tree_at old) given) n) (range_with_len 0 k)
  pub number_is : number ≡ n + (k - length given)

pub none_first : (old : List Term) (given : List Id) (n : ℕ) (items : List Id) → items ≡ [] → AreFirst old old given n 0 n items
none_first old given n items none = record {
  grows = Grows_refl old;
  known = subst (AreKnown old) (sym none) tt;
  are = ap (map (tree_at old)) none;
  number_is = omega arith;
}

pub one_first : (old now next : List Term) (given : List Id) (n k number later : ℕ) (items new : List Id) (id : Id) → AreFirst old now given n k number items → Grows now next → AreKnown old given
    → Names next id (term_for (map (tree_at now) given) n k) → later ≡ n + ((k + 1) - length given) → new ≡ items ++ id ∷ [] → AreFirst old next given n (k + 1) later new
one_first old now next given n k number later items new id was grows known names number_later e =
    let given_same = trees_at-grow old now given was.grows known in
    let one : tree_at next id ≡ term_for (map (tree_at old) given) n k = names.is ∙ ap (λ ts. term_for ts n k) given_same in
    let more = map-range_with_len_more (term_for (map (tree_at old) given) n) 0 k k (omega arith) in
    record {
      grows = Grows_trans old now next was.grows grows;
      known = subst (AreKnown next) (sym e) (AreKnown-append next items id (AreKnown-grows now next items grows was.known) names.known);
      are = ap (map (tree_at next)) e ∙ (map-append (tree_at next) items (id ∷ []) ∙ ((λ i. (trees_at-grow now next items grows was.known ∙ was.are) i ++ one i ∷ []) ∙ sym more));
      number_is = number_later;
    }

pub all_first : (old now : List Term) (given : List Id) (n k number : ℕ) (items : List Id) (variables : List ℕ) (made : Closing) → AreFirst old now given n k number items → length (distinct nat_eq variables) ≤ k → k ≤ length (distinct nat_eq variables)
    → made.order ≡ distinct nat_eq variables → made.terms ≡ items → IsClosing now (map (tree_at old) given) n variables made
all_first old now given n k number items variables made were past within order terms =
    let same : k ≡ length (distinct nat_eq variables) = omega arith in
    record {
      order = order;
      known = subst (AreKnown now) (sym terms) were.known;
      closes = ap (map (tree_at now)) terms ∙ (were.are ∙ (ap (λ l. map (term_for (map (tree_at old) given) n) (range_with_len 0 l)) same
          ∙ (sym (closing_row (map (tree_at old) given) n variables) ∙ ap (map (closing (map (tree_at old) given) n variables)) (sym order))));
    }

pub next_number : (old now : List Term) (given : List Id) (n k number : ℕ) (items : List Id) (variables : List ℕ) → AreFirst old now given n k number items → length (distinct nat_eq variables) ≤ k → k ≤ length (distinct nat_eq variables)
    → number ≡ next_after (map (tree_at old) given) n variables
next_number old now given n k number items variables were past within = let long = length-map given (tree_at old) in let is = were.number_is in omega arith

-- The term of a variable.

mapped_at : {X Y : Type 0} (f : X → Y) (xs : List X) (i : ℕ) (d : X) (e : Y) → i < length xs → get_or (map f xs) i e ≡ f (get_or xs i d)
mapped_at f [] i d e within = absurd (omega arith)
mapped_at f (x ∷ xs) zero d e within = refl
mapped_at f (x ∷ xs) (suc i) d e within = mapped_at f xs i d e (omega arith)

place_found : (x : ℕ) (xs : List ℕ) → place_of x xs < length xs → get_or xs (place_of x xs) 0 ≡ x
place_found x [] within = absurd (omega arith)
place_found x (y ∷ ys) within = go (nat_eq x y) refl within (place_found x ys) where
  go : (b : Bool) → nat_eq x y ≡ b → cond b 0 (suc (place_of x ys)) < suc (length ys) → (place_of x ys < length ys → get_or ys (place_of x ys) 0 ≡ x) → get_or (y ∷ ys) (cond b 0 (suc (place_of x ys))) 0 ≡ x
  go true e h later = sym (eqb-true x y e)
  go false e h later = later (omega arith)

pub closed_variable : (all : List Term) (made : Closing) (s : Subst) (x : ℕ) (d : Id) → Closes all made s → place_of x made.order < length made.terms → tree_at all (get_or made.terms (place_of x made.order) d) ≡ s x
closed_variable all made s x d closes within =
    let p = place_of x made.order in
    let long : length made.terms ≡ length made.order = sym (length-map made.terms (tree_at all)) ∙ (ap length closes ∙ length-map made.order s) in
    sym (mapped_at (tree_at all) made.terms p d (Leaf 0) within)
    ∙ (ap (λ l. get_or l p (Leaf 0)) closes ∙ (mapped_at s made.order p 0 (Leaf 0) (omega (arith, within, long)) ∙ ap s (place_found x made.order (omega (arith, within, long)))))

pub Closes-grows : (a b : List Term) (made : Closing) (s : Subst) → Grows a b → AreKnown a made.terms → Closes a made s → Closes b made s
Closes-grows a b made s grows known closes = trees_at-grow a b made.terms grows known ∙ closes

-- The terms of a term.

pub record AreClosedBy (old now : List Term) (made : Closing) (ids : List Id) (trees : List Tree) (i : ℕ) : Type 0 where
  pub grows : Grows old now
  pub known : AreKnown now ids
  pub terms : AreKnown now made.terms
  pub are : (s : Subst) → Closes old made s → map (tree_at now) ids ≡ map (λ t. bind s (term_of t)) (take i trees)

pub closed_begins : (old : List Term) (made : Closing) (ids : List Id) (trees : List Tree) → ids ≡ [] → AreKnown old made.terms → AreClosedBy old old made ids trees 0
closed_begins old made ids trees none known = record { grows = Grows_refl old; known = subst (AreKnown old) (sym none) tt; terms = known; are = λ s closes. ap (map (tree_at old)) none }

pub closed_on : (old now next : List Term) (made : Closing) (ids new : List Id) (trees : List Tree) (i : ℕ) (t : Tree) (id : Id) → AreClosedBy old now made ids trees i → AreKnown old made.terms → i < length trees → t ≡ get_or trees i t → Grows now next
    → id.index < length next → ((s : Subst) → Closes now made s → tree_at next id ≡ bind s (term_of t)) → new ≡ ids ++ id ∷ [] → AreClosedBy old next made new trees (i + 1)
closed_on old now next made ids new trees i t id was terms within is grows known closed e = record {
  grows = Grows_trans old now next was.grows grows;
  known = subst (AreKnown next) (sym e) (AreKnown-append next ids id (AreKnown-grows now next ids grows was.known) known);
  terms = AreKnown-grows now next made.terms grows was.terms;
  are = λ s closes.
      let one = closed s (Closes-grows old now made s was.grows terms closes) ∙ ap (λ u. bind s (term_of u)) is in
      let before = trees_at-grow now next ids grows was.known ∙ was.are s closes in
      ap (map (tree_at next)) e ∙ (map-append (tree_at next) ids (id ∷ []) ∙ ((λ j. before j ++ one j ∷ []) ∙ sym (map_more (λ u. bind s (term_of u)) trees i t within)));
}

pub closed_all : (old now : List Term) (made : Closing) (ids : List Id) (trees : List Tree) (i : ℕ) → AreClosedBy old now made ids trees i → length trees ≤ i → (s : Subst) → Closes old made s → map (tree_at now) ids ≡ map (λ t. bind s (term_of t)) trees
closed_all old now made ids trees i were past s closes = were.are s closes ∙ ap (map (λ t. bind s (term_of t))) (take_all i trees past)

pub closed_node : (s : Subst) (tree : Tree) (f : declared.Sym) (args : List Term) (items : List Tree) (ts : List Term) → tree ≡ App f args → map term_of items ≡ args → ts ≡ map (λ t. bind s (term_of t)) items → node (symbol_of f) ts ≡ bind s (term_of tree)
closed_node s tree f args items ts is seen are =
    ap (node (symbol_of f)) (are ∙ (sym (map-map (bind s) term_of items) ∙ ap (map (bind s)) seen))
    ∙ (sym (bind-node s (symbol_of f) args) ∙ sym (ap (λ t. bind s (term_of t)) is))

pub named_is : (next : List Term) (r : Result Id AllocError) (t u : Term) → t ≡ u → IfOk r (λ id. Names next id t) → IfOk r (λ id. tree_at next id ≡ u)
named_is next (Ok id) t u e names = names.is ∙ e
named_is next (Err x) t u e names = tt

-- Terms added behind others.

abbrev pub is_fine : Term → Bool
is_fine t = not (is_large_term t)

and_true : (b : Bool) → b ≡ (b && true)
and_true true = refl
and_true false = refl

pub one_added : (old next : List Term) (s : Subst) (t : Term) (before after : List Id) (id : Id) (small : Bool) → AreKnown old before → Grows old next → tree_at next id ≡ bind s t → after ≡ before ++ id ∷ [] → small ≡ is_fine (tree_at next id) → AddsClosed old next s (t ∷ []) before after small
one_added old next s t before after id small known grows closed e told = record {
  are = let earlier = trees_at-grow old next before grows known in ap (map (tree_at next)) e ∙ (map-append (tree_at next) before (id ∷ []) ∙ (λ i. earlier i ++ closed i ∷ []));
  are_small = told ∙ (ap is_fine closed ∙ and_true (is_fine (bind s t)));
}

pub one_known : (old next : List Term) (before after : List Id) (id : Id) → AreKnown old before → Grows old next → id.index < length next → after ≡ before ++ id ∷ [] → AreKnown next after
one_known old next before after id known grows here e = subst (AreKnown next) (sym e) (AreKnown-append next before id (AreKnown-grows old next before grows known) here)

-- the same terms behind none
pub adds_alone : (old now : List Term) (s : Subst) (ts us : List Term) (before after : List Id) (small : Bool) → before ≡ [] → ts ≡ us → AddsClosed old now s ts before after small → AddsClosed old now s us [] after small
adds_alone old now s ts us before after small none same added =
    subst (λ (l : List Id). AddsClosed old now s us l after small) none (subst (λ (l : List Term). AddsClosed old now s l before after small) same added)

pub none_added : (old : List Term) (s : Subst) (before : List Id) → AddsClosed old old s [] before before true
none_added old s before = record { are = sym (append-nil (map (tree_at old) before)); are_small = refl }

pub more_added : (old now next : List Term) (s : Subst) (ts us : List Term) (before mid after : List Id) (first second : Bool) → AddsClosed old now s ts before mid first → AddsClosed now next s us mid after second → AddsClosed old next s (ts ++ us) before after (first && second)
more_added old now next s ts us before mid after first second x y = record {
  are = y.are ∙ (ap (λ l. l ++ map (bind s) us) x.are ∙ (append_assoc (map (tree_at old) before) (map (bind s) ts) (map (bind s) us) ∙ ap (λ l. map (tree_at old) before ++ l) (sym (map-append (bind s) ts us))));
  are_small = (λ i. x.are_small i && y.are_small i) ∙ (sym (list_all-append is_fine (map (bind s) ts) (map (bind s) us)) ∙ ap (list_all is_fine) (sym (map-append (bind s) ts us)));
}

-- the terms of the first i items
pub record AreAdded {X : Type 0} (f : X → List Term) (old now : List Term) (made : Closing) (before after : List Id) (items : List X) (i : ℕ) (small : Bool) : Type 0 where
  pub grows : Grows old now
  pub known : AreKnown now after
  pub adds : (s : Subst) → Closes old made s → AddsClosed old now s (flat_map f (take i items)) before after small

pub added_begins : {X : Type 0} (f : X → List Term) (old : List Term) (made : Closing) (before : List Id) (items : List X) → AreKnown old before → AreAdded f old old made before before items 0 true
added_begins f old made before items known = record { grows = Grows_refl old; known = known; adds = λ s closes. none_added old s before }

pub added_on : {X : Type 0} (f : X → List Term) (old now next : List Term) (made : Closing) (before mid after : List Id) (items : List X) (i : ℕ) (x : X) (small one both : Bool) → AreAdded f old now made before mid items i small → AreKnown old made.terms → i < length items → x ≡ get_or items i x
    → Grows now next → AreKnown next after → ((s : Subst) → Closes now made s → AddsClosed now next s (f x) mid after one) → both ≡ (small && one) → AreAdded f old next made before after items (i + 1) both
added_on f old now next made before mid after items i x small one both was terms within is grows known adds e = record {
  grows = Grows_trans old now next was.grows grows;
  known = known;
  adds = λ s closes.
      let added = more_added old now next s (flat_map f (take i items)) (f x) before mid after small one (was.adds s closes) (adds s (Closes-grows old now made s was.grows terms closes)) in
      let more = flat_map_more f items i x within ∙ ap (λ y. flat_map f (take i items) ++ f y) (sym is) in
      subst (λ (ts : List Term). AddsClosed old next s ts before after both) (sym more) (subst (λ (b : Bool). AddsClosed old next s (flat_map f (take i items) ++ f x) before after b) (sym e) added);
}

pub added_ends : {X : Type 0} (f : X → List Term) (old now : List Term) (made : Closing) (before after : List Id) (items : List X) (ts : List Term) (i : ℕ) (small : Bool) → AreAdded f old now made before after items i small → length items ≤ i → flat_map f items ≡ ts
    → (s : Subst) → Closes old made s → AddsClosed old now s ts before after small
added_ends f old now made before after items ts i small were past seen s closes =
    subst (λ (us : List Term). AddsClosed old now s us before after small) (ap (flat_map f) (take_all i items past) ∙ seen) (were.adds s closes)

-- the terms of a fact
abbrev pub fact_terms : PlainFact → List Term
fact_terms fact = terms_of (plain_fact_of fact)

-- each tree by itself
abbrev pub one_term : Tree → List Term
one_term t = term_of t ∷ []

pub each_term : (trees : List Tree) → flat_map one_term trees ≡ map term_of trees
each_term [] = refl
each_term (t ∷ ts) = ap (λ l. term_of t ∷ l) (each_term ts)

-- Whether terms are over the limit of size.

pub all_fine : (ts : List Term) → list_all is_fine ts ≡ not (list_any is_large_term ts)
all_fine [] = refl
all_fine (t ∷ ts) = go (is_large_term t) (all_fine ts) where
  go : (b : Bool) → list_all is_fine ts ≡ not (list_any is_large_term ts) → (not b && list_all is_fine ts) ≡ not (b || list_any is_large_term ts)
  go true e = refl
  go false e = e

pub not_twice : (b c : Bool) → b ≡ not c → c ≡ not b
not_twice b true e = ap not (sym e)
not_twice b false e = ap not (sym e)

-- two lists were added to none
pub both_added : (old now next : List Term) (s : Subst) (ts us : List Term) (left right : List Id) (first second : Bool) → AddsClosed old now s ts [] left first → AddsClosed now next s us [] right second
    → list_any is_large_term (map (bind s) ts ++ map (bind s) us) ≡ not (first && second)
both_added old now next s ts us left right first second x y =
    let lefts = not_twice first (list_any is_large_term (map (bind s) ts)) (x.are_small ∙ all_fine (map (bind s) ts)) in
    let rights = not_twice second (list_any is_large_term (map (bind s) us)) (y.are_small ∙ all_fine (map (bind s) us)) in
    list_any-append is_large_term (map (bind s) ts) (map (bind s) us) ∙ ((λ i. lefts i || rights i) ∙ either first second) where
      either : (b c : Bool) → (not b || not c) ≡ not (b && c)
      either true c = refl
      either false c = refl

pub both_named : (old now next : List Term) (s : Subst) (ts us : List Term) (left right : List Id) (first second : Bool) → AddsClosed old now s ts [] left first → AddsClosed now next s us [] right second → Grows now next → AreKnown now left → AreKnown next right → (first && second) ≡ true
    → NameTerms next left (map (bind s) ts) × NameTerms next right (map (bind s) us) × (list_any is_large_term (map (bind s) ts ++ map (bind s) us) ≡ false)
both_named old now next s ts us left right first second x y grows left_known right_known fine =
    (record { known = AreKnown-grows now next left grows left_known; are = trees_at-grow now next left grows left_known ∙ x.are }, record { known = right_known; are = y.are }, both_added old now next s ts us left right first second x y ∙ ap not fine)

pub both_large : (old now next : List Term) (s : Subst) (ts us : List Term) (left right : List Id) (first second : Bool) → AddsClosed old now s ts [] left first → AddsClosed now next s us [] right second → (first && second) ≡ false → list_any is_large_term (map (bind s) ts ++ map (bind s) us) ≡ true
both_large old now next s ts us left right first second x y fails = both_added old now next s ts us left right first second x y ∙ ap not fails
