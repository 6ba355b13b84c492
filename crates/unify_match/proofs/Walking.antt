-- Following the bindings of variables.
use Rattle.std.proofs.Common.{◌≡◌, ℕ, ◌+◌, ◌≤◌, ◌<◌, max, Bool, true, false, ◌||◌, ◌⊎◌, inl, inr, Some, None, List, [], ◌∷◌, map, drop, length, get_or, nat_eq, refl, sym, ap, ◌∙◌, arith}
use Rattle.spec_trees.specs.Tree.{Leaf, node, bind}
use Rattle.spec_terms.specs.Term.{Sym, Term, Subst, has_var}
use Rattle.spec_terms.specs.Binding.{Solves, resolved}
use Rattle.spec_terms.specs.Rank.{height, ranks}
use Rattle.spec_terms.proofs.Resolve.{Solves-at, resolved-unbound}
use Rattle.spec_terms.proofs.Ranks.{ranks-fall}
use Rattle.spec_terms.proofs.Replace.{some_none}
use Rattle.term_tree.specs.Bank.{tree_at}
use Rattle.term_tree.specs.declared.bank.Id.{Id}
use Rattle.term_tree.proofs.BankLaws.{ids_at, ids_past}
use Rattle.unify_match.specs.declared.bound.Bound.{Bound}
use Rattle.unify_match.specs.Trail.{id_of}
use Rattle.unify_match.specs.Seen.{seen, IsReady, IsWalked}
use Rattle.unify_match.specs.declared.memo.Memo.{Memo}
use Rattle.unify_match.specs.Memo.{is_remembered, AreClear}
use Rattle.unify_match.proofs.SeenLemmas.{bound_to-seen, bound_to-seen_none, AreInBank-at, IsReady-sound, IsReady-solves}

-- `at` is on the way from `from`
pub record IsOnTheWay (all : List Term) (pairs : List Bound) (from at : Id) : Type 0 where
  pub known : at.index < length all
  pub same : (s : Subst) → Solves s (seen all pairs) → bind s (tree_at all at) ≡ bind s (tree_at all from)
  pub lower : height (ranks (seen all pairs)) (tree_at all at) ≤ height (ranks (seen all pairs)) (tree_at all from)
  pub stays : ((x : ℕ) → tree_at all from ≡ Leaf x → id_of pairs x ≡ None) → at ≡ from

pub way_begins : (all : List Term) (pairs : List Bound) (id : Id) → id.index < length all → IsOnTheWay all pairs id id
way_begins all pairs id known = record { known = known; same = λ s h. refl; lower = omega arith; stays = λ h. refl }

-- the id that a variable on the way is bound to is lower
pub way_falls : (all : List Term) (pairs : List Bound) (at next : Id) (x : ℕ) → IsReady all pairs → tree_at all at ≡ Leaf x → id_of pairs x ≡ Some next
    → height (ranks (seen all pairs)) (tree_at all next) < height (ranks (seen all pairs)) (tree_at all at)
way_falls all pairs at next x ready is e =
    let falls = ranks-fall (seen all pairs) (IsReady-sound all pairs ready) x (tree_at all next) (bound_to-seen all pairs x next e) in
    omega (arith, falls, ap (height (ranks (seen all pairs))) is)

-- and on the way too
pub way_goes_on : (all : List Term) (pairs : List Bound) (from at next : Id) (x : ℕ) → IsReady all pairs → IsOnTheWay all pairs from at → tree_at all at ≡ Leaf x → id_of pairs x ≡ Some next
    → IsOnTheWay all pairs from next
way_goes_on all pairs from at next x ready way is e = record {
  known = AreInBank-at all pairs x next ready.known e;
  same = λ s h. sym (Solves-at s (seen all pairs) x (tree_at all next) h (bound_to-seen all pairs x next e)) ∙ (sym (ap (bind s) is) ∙ way.same s h);
  lower = let falls = way_falls all pairs at next x ready is e in let lower = way.lower in omega arith;
  stays = λ unbound. absurd (some_none (sym e ∙ unbound x (sym (ap (tree_at all) (way.stays unbound)) ∙ is)));
}

-- where the way ends
pub way_ends : (all : List Term) (pairs : List Bound) (from at : Id) → IsOnTheWay all pairs from at → ((x : ℕ) → tree_at all at ≡ Leaf x → id_of pairs x ≡ None) → IsWalked all pairs from at
way_ends all pairs from at way unbound = record { known = way.known; same = way.same; lower = way.lower; unbound = unbound; stays = way.stays }

-- both ends stand for one term
pub walked-resolved : (all : List Term) (pairs : List Bound) (from to : Id) → IsReady all pairs → IsWalked all pairs from to → bind (resolved (seen all pairs)) (tree_at all to) ≡ bind (resolved (seen all pairs)) (tree_at all from)
walked-resolved all pairs from to ready walked = walked.same (resolved (seen all pairs)) (IsReady-solves all pairs ready)

-- whether a variable stands in what one of the ids' trees is under s
abbrev pub some_has : Subst → ℕ → List Term → List Id → Bool
some_has s x all [] = false
some_has s x all (id ∷ ids) = has_var x (bind s (tree_at all id)) || some_has s x all ids

-- the height of the highest of the ids' trees
abbrev pub heights_of : (ℕ → ℕ) → List Term → List Id → ℕ
heights_of h all [] = 0
heights_of h all (id ∷ ids) = max (height h (tree_at all id)) (heights_of h all ids)

pub some_has-node : (s : Subst) (x : ℕ) (all : List Term) (f : Sym) (ids : List Id) → has_var x (bind s (node f (map (tree_at all) ids))) ≡ some_has s x all ids
some_has-node s x all f [] = refl
some_has-node s x all f (id ∷ ids) = ap (λ b. has_var x (bind s (tree_at all id)) || b) (some_has-node s x all f ids)

pub heights_of-node : (h : ℕ → ℕ) (all : List Term) (f : Sym) (ids : List Id) → height h (node f (map (tree_at all) ids)) ≡ 1 + heights_of h all ids
heights_of-node h all f [] = refl
heights_of-node h all f (id ∷ ids) = let others = heights_of-node h all f ids in omega arith

-- the rest of a list of ids after the one at i
pub some_has-at : (s : Subst) (x : ℕ) (all : List Term) (ids : List Id) (i : ℕ) (id : Id) → drop i ids ≡ id ∷ drop (i + 1) ids → some_has s x all (drop i ids) ≡ (has_var x (bind s (tree_at all id)) || some_has s x all (drop (i + 1) ids))
some_has-at s x all ids i id e = ap (some_has s x all) e

pub walked-has : (all : List Term) (pairs : List Bound) (from to : Id) (x : ℕ) → IsReady all pairs → IsWalked all pairs from to
    → has_var x (bind (resolved (seen all pairs)) (tree_at all to)) ≡ has_var x (bind (resolved (seen all pairs)) (tree_at all from))
walked-has all pairs from to x ready walked = ap (has_var x) (walked-resolved all pairs from to ready walked)

-- an application has what its arguments have
pub has-args : (s : Subst) (x : ℕ) (all : List Term) (end : Id) (f : Sym) (ids : List Id) → tree_at all end ≡ node f (map (tree_at all) ids) → has_var x (bind s (tree_at all end)) ≡ some_has s x all ids
has-args s x all end f ids is = ap (λ t. has_var x (bind s t)) is ∙ some_has-node s x all f ids

-- and is higher than they are
pub args-lower : (h : ℕ → ℕ) (all : List Term) (end : Id) (f : Sym) (ids : List Id) → tree_at all end ≡ node f (map (tree_at all) ids) → heights_of h all ids < height h (tree_at all end)
args-lower h all end f ids is = omega (arith, ap (height h) is, heights_of-node h all f ids)

-- the height of the id at i is within that of the rest
pub height-at : (h : ℕ → ℕ) (all : List Term) (ids : List Id) (i : ℕ) (d : Id) → i < length ids → (height h (tree_at all (get_or ids i d)) ≤ heights_of h all (drop i ids)) × (heights_of h all (drop (i + 1) ids) ≤ heights_of h all (drop i ids))
height-at h all ids i d less = let e = ap (heights_of h all) (ids_at ids i d less) in (omega arith, omega arith)

-- nothing is remembered at first
pub AreClear-none : (all : List Term) (pairs : List Bound) (x : ℕ) (memo : Memo) → ((q : ℕ × ℕ) → is_remembered memo q ≡ false) → AreClear all pairs x memo
AreClear-none all pairs x memo none k remembered = let never = none (x, k) in cc

-- one more term in which the variable does not stand
pub AreClear-pass : (all : List Term) (pairs : List Bound) (x : ℕ) (old new : Memo) (id : Id) → AreClear all pairs x old → has_var x (bind (resolved (seen all pairs)) (tree_at all id)) ≡ false
    → ((q : ℕ × ℕ) → is_remembered new q ≡ true → (is_remembered old q ≡ true) ⊎ (q ≡ (x, id.index))) → AreClear all pairs x new
AreClear-pass all pairs x old new id were absent passed k remembered = let pair : ℕ × ℕ = (x, k) in go (passed pair remembered) where
  go : (is_remembered old (x, k) ≡ true) ⊎ (◌≡◌ {A = ℕ × ℕ} (x, k) (x, id.index)) → has_var x (bind (resolved (seen all pairs)) (tree_at all record { index = k })) ≡ false
  go (inl before) = were k before
  go (inr same) = ap (λ (q : ℕ × ℕ). has_var x (bind (resolved (seen all pairs)) (tree_at all record { index = q.1 }))) same ∙ absent

-- an end that is an unbound variable has itself alone
pub walked-variable : (all : List Term) (pairs : List Bound) (from to : Id) (y : ℕ) → IsWalked all pairs from to → tree_at all to ≡ Leaf y → bind (resolved (seen all pairs)) (tree_at all to) ≡ Leaf y
walked-variable all pairs from to y walked is = ap (bind (resolved (seen all pairs))) is ∙ resolved-unbound (seen all pairs) y (bound_to-seen_none all pairs y (walked.unbound y is))

pub has-variable : (all : List Term) (pairs : List Bound) (from to : Id) (x y : ℕ) → IsReady all pairs → IsWalked all pairs from to → tree_at all to ≡ Leaf y → nat_eq x y ≡ has_var x (bind (resolved (seen all pairs)) (tree_at all from))
has-variable all pairs from to x y ready walked is = sym (ap (has_var x) (walked-variable all pairs from to y walked is)) ∙ walked-has all pairs from to x ready walked

-- found in the argument at i
pub has-found : (all : List Term) (pairs : List Bound) (from to : Id) (x : ℕ) (f : Sym) (ids : List Id) (i : ℕ) (d : Id) → IsReady all pairs → IsWalked all pairs from to → tree_at all to ≡ node f (map (tree_at all) ids)
    → some_has (resolved (seen all pairs)) x all (drop i ids) ≡ some_has (resolved (seen all pairs)) x all ids → i < length ids → has_var x (bind (resolved (seen all pairs)) (tree_at all (get_or ids i d))) ≡ true
    → true ≡ has_var x (bind (resolved (seen all pairs)) (tree_at all from))
has-found all pairs from to x f ids i d ready walked is rest less here =
    let s = resolved (seen all pairs) in
    let found : some_has s x all (drop i ids) ≡ true = ap (some_has s x all) (ids_at ids i d less) ∙ ap (λ b. b || some_has s x all (drop (i + 1) ids)) here in
    sym (sym (walked-has all pairs from to x ready walked) ∙ (has-args s x all to f ids is ∙ (sym rest ∙ found)))

-- found in no argument
pub has-none : (all : List Term) (pairs : List Bound) (to : Id) (x : ℕ) (f : Sym) (ids : List Id) (i : ℕ) → tree_at all to ≡ node f (map (tree_at all) ids)
    → some_has (resolved (seen all pairs)) x all (drop i ids) ≡ some_has (resolved (seen all pairs)) x all ids → length ids ≤ i
    → has_var x (bind (resolved (seen all pairs)) (tree_at all to)) ≡ false
has-none all pairs to x f ids i is rest past =
    let s = resolved (seen all pairs) in
    has-args s x all to f ids is ∙ (sym rest ∙ ap (some_has s x all) (ids_past ids i past))
