-- A bank's trees by its roots: what stands at each place, and what one more root and cutting back do.
use Rattle.std.proofs.Common.{◌≡◌, ℕ, zero, suc, Bool, ◌+◌, ◌≤◌, Some, List, [], ◌∷◌, ◌++◌, length, take, map, slice_get, unwrap_or, refl, sym, ap, ◌∙◌, subst, arith, append_assoc, append-nil, length-append, zero-add, suc-add}
use Rattle.std.proofs.lemmas.List.{map-append, length-map, take-map}
use Rattle.std.proofs.lemmas.Option.{slice_get-map}
use Rattle.std.specs.Option.{option_map}
use Rattle.spec_trees.specs.Tree.{Leaf, node}
use Rattle.spec_terms.specs.Term.{Term}
use Rattle.term_tree.specs.Bank.{symbol_of, tree_at, Grows}
use Rattle.term_tree.specs.declared.bank.Id.{Id}
use Rattle.term_tree.specs.Roots.{Root, Variable, Applied, tree_of, built, HasArgs, HaveArgs, told}
use Rattle.term_tree.proofs.BankLaws.{slice_get-next, Grows_trans, AreKnown-grows, trees_at-grow, take-grows}

pub built-length : (before : List Term) (rs : List Root) → length (built before rs) ≡ length before + length rs
built-length before [] = omega arith
built-length before (r ∷ rs) = omega (arith, built-length (before ++ tree_of before r ∷ []) rs, length-append before (tree_of before r ∷ []))

pub built-grows : (before : List Term) (rs : List Root) → Grows before (built before rs)
built-grows before [] = ([], sym (append-nil before))
built-grows before (r ∷ rs) = Grows_trans before (before ++ tree_of before r ∷ []) (built (before ++ tree_of before r ∷ []) rs) (tree_of before r ∷ [], refl) (built-grows (before ++ tree_of before r ∷ []) rs)

pub built-append : (before : List Term) (rs : List Root) (r : Root) → built before (rs ++ r ∷ []) ≡ built before rs ++ tree_of (built before rs) r ∷ []
built-append before [] r = refl
built-append before (x ∷ xs) r = built-append (before ++ tree_of before x ∷ []) xs r

pub HaveArgs-append : (before : List Term) (rs : List Root) (r : Root) → HaveArgs before rs → HasArgs (built before rs) r → HaveArgs before (rs ++ r ∷ [])
HaveArgs-append before [] r have args = (args, tt)
HaveArgs-append before (x ∷ xs) r have args = (have.0, HaveArgs-append (before ++ tree_of before x ∷ []) xs r have.1 args)

pub HaveArgs-take : (before : List Term) (rs : List Root) (n : ℕ) → HaveArgs before rs → HaveArgs before (take n rs)
HaveArgs-take before rs zero have = tt
HaveArgs-take before [] (suc n) have = tt
HaveArgs-take before (x ∷ xs) (suc n) have = (have.0, HaveArgs-take (before ++ tree_of before x ∷ []) xs n have.1)

-- cutting the roots cuts the trees
take-past : {X : Type 0} (xs ys : List X) (n : ℕ) → take (length xs + n) (xs ++ ys) ≡ xs ++ take n ys
take-past [] ys n = rw zero-add refl
take-past (x ∷ xs) ys n = rw suc-add (ap (λ zs. x ∷ zs) (take-past xs ys n))

pub built-take : (before : List Term) (rs : List Root) (n : ℕ) → n ≤ length rs → built before (take n rs) ≡ take (length before + n) (built before rs)
built-take before rs zero h =
    let (more, e) = built-grows before rs in
    sym (ap (λ l. take (length before + 0) l) e ∙ (take-past before more 0 ∙ append-nil before))
built-take before [] (suc n) h = absurd (omega arith)
built-take before (x ∷ xs) (suc n) h =
    let longer : length (before ++ tree_of before x ∷ []) + n ≡ length before + suc n = omega (arith, length-append before (tree_of before x ∷ [])) in
    built-take (before ++ tree_of before x ∷ []) xs n (omega arith) ∙ ap (λ m. take m (built (before ++ tree_of before x ∷ []) xs)) longer

HasArgs-grows : (a b : List Term) (r : Root) → Grows a b → HasArgs a r → HasArgs b r
HasArgs-grows a b (Variable x) grows h = tt
HasArgs-grows a b (Applied f args) grows h = AreKnown-grows a b args grows h

tree_of-grows : (a b : List Term) (r : Root) → Grows a b → HasArgs a r → tree_of b r ≡ tree_of a r
tree_of-grows a b (Variable x) grows h = refl
tree_of-grows a b (Applied f args) grows h = ap (node (symbol_of f)) (trees_at-grow a b args grows h)

-- a place of a bank: its root's arguments stand below it, and the root's tree stands there
pub record IsPlace (all : List Term) (k : ℕ) (r : Root) : Type 0 where
  pub below : HasArgs (take k all) r
  pub args : HasArgs all r
  pub at : slice_get all k ≡ Some (tree_of all r)

pub IsPlace-built : (before : List Term) (rs : List Root) (k : ℕ) (r : Root) → HaveArgs before rs → slice_get rs k ≡ Some r → IsPlace (built before rs) (length before + k) r
IsPlace-built before [] k r have found = cc
IsPlace-built before (x ∷ xs) zero r have found =
    let same : x ≡ r = cc in
    let first = before ++ tree_of before x ∷ [] in
    let (more, grown) = built-grows first xs in
    let grows = Grows_trans before first (built first xs) (tree_of before x ∷ [], refl) (more, grown) in
    let place : length before + 0 ≡ length before = omega arith in
    let stands : slice_get (built first xs) (length before) ≡ Some (tree_of before x) =
    ap (λ l. slice_get l (length before)) (grown ∙ append_assoc before (tree_of before x ∷ []) more) ∙ slice_get-next before (tree_of before x) more in
    let here : IsPlace (built first xs) (length before) x = record {
      below = subst (λ (l : List Term). HasArgs l x) (sym (take-grows before (built first xs) grows)) have.0;
      args = HasArgs-grows before (built first xs) x grows have.0;
      at = stands ∙ ap Some (sym (tree_of-grows before (built first xs) x grows have.0));
    } in
    subst (λ (y : Root). IsPlace (built first xs) (length before + 0) y) same (subst (λ (n : ℕ). IsPlace (built first xs) n x) (sym place) here)
IsPlace-built before (x ∷ xs) (suc k) r have found =
    let first = before ++ tree_of before x ∷ [] in
    let place : length first + k ≡ length before + suc k = omega (arith, length-append before (tree_of before x ∷ [])) in
    subst (λ (n : ℕ). IsPlace (built first xs) n r) place (IsPlace-built first xs k r have.1 found)

-- the tree of a place is that of its root
pub IsPlace-tree : (all : List Term) (id : Id) (r : Root) → IsPlace all id.index r → tree_at all id ≡ tree_of all r
IsPlace-tree all id r place = ap (λ o. unwrap_or o (Leaf 0)) place.at

-- what stands at a place of a bank that is seen as `all`, whose items show these roots
pub place_at : {E : Type 0} (root : E → Root) (es : List E) (all : List Term) (k : ℕ) (e : E) → built [] (map root es) ≡ all → HaveArgs [] (map root es) → slice_get es k ≡ Some e → IsPlace all k (root e)
place_at root es all k e view have found =
    let shown : slice_get (map root es) k ≡ Some (root e) = slice_get-map root es k ∙ ap (option_map root) found in
    let place = IsPlace-built [] (map root es) k (root e) have shown in
    subst (λ (l : List Term). IsPlace l k (root e)) view (subst (λ (n : ℕ). IsPlace (built [] (map root es)) n (root e)) (zero-add k) place)

-- what is told of each tree in order is told of the tree of each place
pub told_at : {E : Type 0} (tells : E → ℕ × Bool) (es : List E) (all : List Term) (k : ℕ) (e : E) (t : Term) → map tells es ≡ map told all → slice_get es k ≡ Some e → slice_get all k ≡ Some t → tells e ≡ told t
told_at tells es all k e t same found stands =
    let here : Some (tells e) ≡ Some (told t) =
    sym (slice_get-map tells es k ∙ ap (option_map tells) found) ∙ (ap (λ l. slice_get l k) same ∙ (slice_get-map told all k ∙ ap (option_map told) stands)) in
    cc

-- a bank has as many trees as items
pub items-length : {E : Type 0} (root : E → Root) (es : List E) (all : List Term) → built [] (map root es) ≡ all → length es ≡ length all
items-length root es all view = omega (arith, built-length [] (map root es), length-map es root, ap length view)

-- one more item's tree stands at the end
pub built-push : {E : Type 0} (root : E → Root) (es : List E) (all : List Term) (e : E) → built [] (map root es) ≡ all → built [] (map root (es ++ e ∷ [])) ≡ all ++ tree_of all (root e) ∷ []
built-push root es all e view =
    ap (built []) (map-append root es (e ∷ [])) ∙ (built-append [] (map root es) (root e) ∙ ap (λ (l : List Term). l ++ tree_of l (root e) ∷ []) view)

pub HaveArgs-push : {E : Type 0} (root : E → Root) (es : List E) (all : List Term) (e : E) → built [] (map root es) ≡ all → HaveArgs [] (map root es) → HasArgs all (root e) → HaveArgs [] (map root (es ++ e ∷ []))
HaveArgs-push root es all e view have args =
    subst (HaveArgs []) (sym (map-append root es (e ∷ []))) (HaveArgs-append [] (map root es) (root e) have (subst (λ (l : List Term). HasArgs l (root e)) (sym view) args))

pub told-push : {F : Type 0} (tells : F → ℕ × Bool) (fs : List F) (f : F) (all : List Term) (t : Term) → map tells fs ≡ map told all → tells f ≡ told t → map tells (fs ++ f ∷ []) ≡ map told (all ++ t ∷ [])
told-push tells fs f all t same one = map-append tells fs (f ∷ []) ∙ (cc (same, one) ∙ sym (map-append told all (t ∷ [])))

-- what is left of a bank that is cut back
pub built-cut : {E : Type 0} (root : E → Root) (es : List E) (all : List Term) (n : ℕ) → built [] (map root es) ≡ all → n ≤ length all → built [] (map root (take n es)) ≡ take n all
built-cut root es all n view within =
    let short : n ≤ length (map root es) = omega (arith, length-map es root, items-length root es all view, within) in
    ap (built []) (sym (take-map root n es)) ∙ (built-take [] (map root es) n short ∙ (ap (λ m. take m (built [] (map root es))) (zero-add n) ∙ ap (take n) view))

pub HaveArgs-cut : {E : Type 0} (root : E → Root) (es : List E) (n : ℕ) → HaveArgs [] (map root es) → HaveArgs [] (map root (take n es))
HaveArgs-cut root es n have = subst (HaveArgs []) (take-map root n es) (HaveArgs-take [] (map root es) n have)

pub told-cut : {F : Type 0} (tells : F → ℕ × Bool) (fs : List F) (all : List Term) (n : ℕ) → map tells fs ≡ map told all → map tells (take n fs) ≡ map told (take n all)
told-cut tells fs all n same = sym (take-map tells n fs) ∙ (ap (take n) same ∙ take-map told n all)
