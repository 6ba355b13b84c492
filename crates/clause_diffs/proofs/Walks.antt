-- Going down a term of a bank, and along ids and constraints: what stands there is known, and lower than the term.
use Rattle.std.proofs.Common.{◌≡◌, ℕ, zero, suc, ◌<◌, ◌≤◌, List, [], ◌∷◌, length, map, get_or, ap, sym, subst, refl, arith}
use Rattle.spec_trees.specs.Tree.{trees, node, depth, depths}
use Rattle.spec_terms.specs.Term.{Sym, Term}
use Rattle.term_tree.specs.Bank.{tree_at, AreKnown, Grows}
use Rattle.term_tree.specs.declared.bank.Id.{Id}
use Rattle.term_tree.proofs.BankLaws.{Grows-length, tree_at-grows}
use Rattle.clause_diffs.specs.Diffs.{DiffOf, IsDiffIn, AreDiffsIn}

pub known_at : (all : List Term) (ids : List Id) (i : ℕ) (d : Id) → AreKnown all ids → i < length ids → (get_or ids i d).index < length all
known_at all [] i d known within = absurd (omega arith)
known_at all (id ∷ ids) zero d known within = known.0
known_at all (id ∷ ids) (suc i) d known within = known_at all ids i d known.1 (omega arith)

pub lower_at : (all : List Term) (ids : List Id) (i : ℕ) (d : Id) → i < length ids → depth (tree_at all (get_or ids i d)) ≤ depths (trees (map (tree_at all) ids))
lower_at all [] i d within = absurd (omega arith)
lower_at all (id ∷ ids) zero d within = omega arith
lower_at all (id ∷ ids) (suc i) d within = omega (arith, lower_at all ids i d (omega arith))

pub argument_at : (all : List Term) (id : Id) (f : Sym) (args : List Id) (i : ℕ) (d : Id) → tree_at all id ≡ node f (map (tree_at all) args) → AreKnown all args → i < length args
    → ((get_or args i d).index < length all) × (depth (tree_at all (get_or args i d)) < depth (tree_at all id))
argument_at all id f args i d is known within =
    let lower = lower_at all args i d within in (known_at all args i d known within, omega (arith, ap depth is))

-- the same in a bank that grew
pub argument_later : (old now : List Term) (id : Id) (f : Sym) (args : List Id) (i : ℕ) (d : Id) → Grows old now → tree_at old id ≡ node f (map (tree_at old) args) → AreKnown old args → i < length args
    → ((get_or args i d).index < length now) × (depth (tree_at now (get_or args i d)) < depth (tree_at old id)) × (tree_at now (get_or args i d) ≡ tree_at old (get_or args i d))
argument_later old now id f args i d grows is known within =
    let at = argument_at old id f args i d is known within in
    let here = at.0 in
    let lower = at.1 in
    let longer = Grows-length old now grows in
    let same = tree_at-grows old now (get_or args i d) grows here in (omega arith, omega (arith, ap depth same), same)

-- a known id in a bank that grew
pub known_later : (old now : List Term) (ids : List Id) (i : ℕ) (d : Id) → Grows old now → AreKnown old ids → i < length ids → ((get_or ids i d).index < length now) × (tree_at now (get_or ids i d) ≡ tree_at old (get_or ids i d))
known_later old now ids i d grows known within =
    let here = known_at old ids i d known within in
    let longer = Grows-length old now grows in (omega arith, tree_at-grows old now (get_or ids i d) grows here)

-- what stands at a place doesn't depend on the default
pub got : {X : Type 0} (xs : List X) (i : ℕ) (d e : X) → i < length xs → get_or xs i d ≡ get_or xs i e
got [] i d e within = absurd (omega arith)
got (x ∷ xs) zero d e within = refl
got (x ∷ xs) (suc i) d e within = got xs i d e (omega arith)

-- a constraint among known constraints is known
diff_in : (all : List Term) (ds : List (DiffOf Id)) (i : ℕ) (d : DiffOf Id) → AreDiffsIn all ds → i < length ds → IsDiffIn all (get_or ds i d)
diff_in all [] i d known within = absurd (omega arith)
diff_in all (d ∷ ds) zero e known within = known.0
diff_in all (d ∷ ds) (suc i) e known within = diff_in all ds i e known.1 (omega arith)

pub diff_known_at : (all : List Term) (ds : List (DiffOf Id)) (i : ℕ) (d : DiffOf Id) → d ≡ get_or ds i d → AreDiffsIn all ds → i < length ds → IsDiffIn all d
diff_known_at all ds i d is known within = subst (λ (x : DiffOf Id). IsDiffIn all x) (sym is) (diff_in all ds i d known within)
