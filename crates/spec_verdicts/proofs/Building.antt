-- How first rows are put together: those of lists of clauses, one behind another, and those of pairs in their order.
use Rattle.std.proofs.Common.{◌≡◌, ◌∙◌, ℕ, zero, suc, ◌+◌, ◌≤◌, Bool, true, false, ◌&&◌, cond, Some, List, [], ◌∷◌, ◌++◌, length, take, refl, ap, sym, subst, append_assoc, arith}
use Rattle.std.specs.Prelude.{slice_get, flat_map}
use Rattle.spec_calculus.specs.Syntax.{Query, Protocol}
use Rattle.spec_terms.specs.Term.{Term}
use Rattle.spec_clauses.specs.Fact.{Clause}
use Rattle.spec_clauses.specs.Selection.{select, is_solved}
use Rattle.spec_translation.specs.Satisfied.{is_bad}
use Rattle.spec_certificates.specs.Certificate.{Numbered, numbered_from, Pair, pairs_with, pairs_of_solved, pairs_of}
use Rattle.spec_verdicts.specs.FirstRows.{AreFirstCovers, AreFirstGoals, bad_clauses}
use Rattle.spec_verdicts.specs.First.{Gives, AllGive}

pub covers_append : (clauses cs ds : List (Clause Term)) (rows others : List (List ℕ)) → AreFirstCovers clauses cs rows → AreFirstCovers clauses ds others → AreFirstCovers clauses (cs ++ ds) (rows ++ others)
covers_append clauses [] ds [] others a b = b
covers_append clauses [] ds (row ∷ rows) others a b = absurd a
covers_append clauses (c ∷ cs) ds [] others a b = absurd a
covers_append clauses (c ∷ cs) ds (row ∷ rows) others a b = (a.0, covers_append clauses cs ds rows others a.1 b)

pub goals_append : (P : Protocol) (q : Query) (cs ds : List (Clause Term)) (rows others : List (List ℕ)) → AreFirstGoals P q cs rows → AreFirstGoals P q ds others → AreFirstGoals P q (cs ++ ds) (rows ++ others)
goals_append P q [] ds [] others a b = b
goals_append P q [] ds (row ∷ rows) others a b = absurd a
goals_append P q (c ∷ cs) ds [] others a b = absurd a
goals_append P q (c ∷ cs) ds (row ∷ rows) others a b = (a.0, goals_append P q cs ds rows others a.1 b)

pub give_append : (ps qs : List Pair) (made others : List (Clause Term)) → AllGive ps made → AllGive qs others → AllGive (ps ++ qs) (made ++ others)
give_append [] qs made others a b = subst (λ ms. AllGive qs (ms ++ others)) (sym a) b
give_append (p ∷ ps) qs made others a b =
    let (first, rest, g, more, is) = a in
    (first, rest ++ others, g, give_append ps qs rest others more b, ap (λ ms. ms ++ others) is ∙ append_assoc first rest others)

pub append_none : {X : Type 0} (xs : List X) → xs ++ [] ≡ xs
append_none [] = refl
append_none (x ∷ xs) = ap (λ ys. x ∷ ys) (append_none xs)

-- a pair that gives these, and no other
pub one_gives : (p : Pair) (made : List (Clause Term)) → Gives p made → AllGive (p ∷ []) made
one_gives p made g = (made, [], g, refl, sym (append_none made))

-- the first items, and one more
take_suc : {X : Type 0} (xs : List X) (k : ℕ) (x : X) → slice_get xs k ≡ Some x → take (suc k) xs ≡ take k xs ++ x ∷ []
take_suc [] k x e = cc
take_suc (y ∷ xs) zero x e = let same : y ≡ x = cc in ap (λ z. z ∷ []) same
take_suc (y ∷ xs) (suc k) x e = ap (λ zs. y ∷ zs) (take_suc xs k x e)

pub take_next : {X : Type 0} (xs : List X) (k : ℕ) (x : X) → slice_get xs k ≡ Some x → take (k + 1) xs ≡ take k xs ++ x ∷ []
take_next xs k x e = let place : suc k ≡ k + 1 = omega arith in subst (λ n. take n xs ≡ take k xs ++ x ∷ []) place (take_suc xs k x e)

pub take_past : {X : Type 0} (xs : List X) (k : ℕ) → length xs ≤ k → take k xs ≡ xs
take_past [] zero past = refl
take_past [] (suc k) past = refl
take_past (x ∷ xs) zero past = absurd (omega (arith, past))
take_past (x ∷ xs) (suc k) past = ap (λ ys. x ∷ ys) (take_past xs k (omega (arith, past)))

-- a clause at a place has the number behind it
pub number_at : (n : ℕ) (cs : List (Clause Term)) (k : ℕ) (c : Clause Term) → slice_get cs k ≡ Some c → slice_get (numbered_from n cs) k ≡ Some (record { number = n + k; clause = c })
number_at n [] k c e = cc
number_at n (d ∷ cs) zero c e = let same : d ≡ c = cc in let here : n ≡ n + 0 = omega arith in cc
number_at n (d ∷ cs) (suc k) c e =
    let number : (n + 1) + k ≡ n + suc k = omega arith in
    number_at (n + 1) cs k c e ∙ ap (λ (m : ℕ). Some (record { number = m; clause = c })) number

pub numbers_length : (n : ℕ) (cs : List (Clause Term)) → length (numbered_from n cs) ≡ length cs
numbers_length n [] = refl
numbers_length n (c ∷ cs) = ap suc (numbers_length (n + 1) cs)

flat_map_push : {X Y : Type 0} (f : X → List Y) (xs : List X) (x : X) → flat_map f (xs ++ x ∷ []) ≡ flat_map f xs ++ f x
flat_map_push f [] x = append_none (f x)
flat_map_push f (y ∷ xs) x = ap (λ zs. f y ++ zs) (flat_map_push f xs x) ∙ sym (append_assoc (f y) (flat_map f xs) (f x))

-- the pairs of a clause with the first of all, and with one more
pub pairs_with_next : (i : Numbered) (all : List Numbered) (k : ℕ) (j : Numbered) → slice_get all k ≡ Some j
    → flat_map (λ x. pairs_with i (select x.clause.hypotheses) x) (take (k + 1) all) ≡ flat_map (λ x. pairs_with i (select x.clause.hypotheses) x) (take k all) ++ pairs_with i (select j.clause.hypotheses) j
pairs_with_next i all k j e =
    let f = λ (x : Numbered). pairs_with i (select x.clause.hypotheses) x in
    ap (flat_map f) (take_next all k j e) ∙ flat_map_push f (take k all) j

pairs_of_push : (is : List Numbered) (i : Numbered) (all : List Numbered) → pairs_of (is ++ i ∷ []) all ≡ pairs_of is all ++ pairs_of_solved (select i.clause.hypotheses) i all
pairs_of_push [] i all = append_none (pairs_of_solved (select i.clause.hypotheses) i all)
pairs_of_push (j ∷ is) i all =
    ap (λ ps. pairs_of_solved (select j.clause.hypotheses) j all ++ ps) (pairs_of_push is i all)
    ∙ sym (append_assoc (pairs_of_solved (select j.clause.hypotheses) j all) (pairs_of is all) (pairs_of_solved (select i.clause.hypotheses) i all))

-- the pairs of the first of all clauses, and of one more
pub pairs_of_next : (all each : List Numbered) (k : ℕ) (i : Numbered) → slice_get all k ≡ Some i → pairs_of (take (k + 1) all) each ≡ pairs_of (take k all) each ++ pairs_of_solved (select i.clause.hypotheses) i each
pairs_of_next all each k i e = ap (λ is. pairs_of is each) (take_next all k i e) ∙ pairs_of_push (take k all) i each

-- the solved clauses that conclude `bad` behind others
pub bad_append : (cs ds : List (Clause Term)) → bad_clauses (cs ++ ds) ≡ bad_clauses cs ++ bad_clauses ds
bad_append [] ds = refl
bad_append (c ∷ cs) ds = go (is_solved c.hypotheses && is_bad c.conclusion) (bad_append cs ds)
  where
    go : (b : Bool) → bad_clauses (cs ++ ds) ≡ bad_clauses cs ++ bad_clauses ds → cond b (c ∷ bad_clauses (cs ++ ds)) (bad_clauses (cs ++ ds)) ≡ cond b (c ∷ bad_clauses cs) (bad_clauses cs) ++ bad_clauses ds
    go true e = ap (λ xs. c ∷ xs) e
    go false e = e
