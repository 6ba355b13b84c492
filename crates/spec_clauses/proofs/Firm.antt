-- Firm and loose hypotheses: both together are the hypotheses, and a firm one that is flat stays one flat fact.
use Rattle.std.proofs.Common.{◌≡◌, Bool, true, false, not, cond, List, [], ◌∷◌, ◌++◌, map, refl, append_assoc}
use Rattle.std.specs.Prelude.{filter, flat_map}
use Rattle.std.specs.List.{list_all}
use Rattle.spec_trees.specs.Tree.{Leaf, Node}
use Rattle.spec_trees.proofs.Equality.{and_true}
use Rattle.spec_terms.specs.Term.{Term, Subst}
use Rattle.spec_clauses.specs.Fact.{Fact, Att, Mess, Tab, Ev, Mev, Bad, fact_under, is_variable_known}
use Rattle.spec_clauses.specs.Flat.{flat, flat_under, is_flat, is_data}
use Rattle.spec_clauses.specs.Inclusion.{IsWithin}
use Rattle.spec_clauses.specs.Subsumption.{firm}
use Rattle.spec_clauses.proofs.Inclusion.{within_self, within-trans, within-append, within-exchange}

pub not_true : (b : Bool) → not b ≡ true → b ≡ false
not_true true e = cc
not_true false e = refl

-- each of two lists is included in the other
pub record AreAlike {X : Type 0} (xs ys : List X) : Type 0 where
  pub to : IsWithin xs ys
  pub from : IsWithin ys xs

-- what a test keeps and what it leaves out, beside each other
pub alike-filters : {X Y : Type 0} (f : X → List Y) (test : X → Bool) (xs : List X) → AreAlike (flat_map f xs) (flat_map f (filter (λ x. not (test x)) xs) ++ flat_map f (filter test xs))
alike-filters f test [] = record { to = tt; from = tt }
alike-filters {X} {Y} f test (x ∷ xs) = go (test x) (alike-filters f test xs) where
  out : List Y
  out = flat_map f (filter (λ x. not (test x)) xs)

  kept : List Y
  kept = flat_map f (filter test xs)

  go : (b : Bool) → AreAlike (flat_map f xs) (out ++ kept) → AreAlike (f x ++ flat_map f xs) (flat_map f (cond (not b) (x ∷ filter (λ x. not (test x)) xs) (filter (λ x. not (test x)) xs)) ++ flat_map f (cond b (x ∷ filter test xs) (filter test xs)))
  go true a = record {
    to = within-trans (f x ++ flat_map f xs) (f x ++ (out ++ kept)) (out ++ (f x ++ kept)) (within-append (f x) (flat_map f xs) (f x) (out ++ kept) (within_self (f x)) a.to) (within-exchange (f x) out kept);
    from = within-trans (out ++ (f x ++ kept)) (f x ++ (out ++ kept)) (f x ++ flat_map f xs) (within-exchange out (f x) kept) (within-append (f x) (out ++ kept) (f x) (flat_map f xs) (within_self (f x)) a.from);
  }
  go false a = rw (append_assoc (f x) out kept) (record {
    to = within-append (f x) (flat_map f xs) (f x) (out ++ kept) (within_self (f x)) a.to;
    from = within-append (f x) (out ++ kept) (f x) (flat_map f xs) (within_self (f x)) a.from;
  })

-- a flat fact that isn't `att` of a variable stays one flat fact under a substitution
pub firm_stays : (s : Subst) (h : Fact Term) → is_flat h ≡ true → is_variable_known h ≡ false → flat (fact_under s h) ≡ fact_under s h ∷ []
firm_stays s (Att phase (Leaf x)) a b = cc
firm_stays s (Att phase (Node f args)) a b = rw (not_true (is_data f) a) refl
firm_stays s (Mess phase t u) a b = refl
firm_stays s (Tab e ts) a b = refl
firm_stays s (Ev e ts) a b = refl
firm_stays s (Mev e ts) a b = refl
firm_stays s (Bad ts) a b = refl

pub firms_stay : (s : Subst) (hs : List (Fact Term)) → list_all is_flat hs ≡ true → flat_under s (firm hs) ≡ map (fact_under s) (firm hs)
firms_stay s [] flats = refl
firms_stay s (h ∷ hs) flats =
    let parts = and_true (is_flat h) (list_all is_flat hs) flats in
    go (is_variable_known h) refl parts.0 (firms_stay s hs parts.1) where
      go : (b : Bool) → is_variable_known h ≡ b → is_flat h ≡ true → flat_under s (firm hs) ≡ map (fact_under s) (firm hs)
          → flat_under s (cond (not b) (h ∷ firm hs) (firm hs)) ≡ map (fact_under s) (cond (not b) (h ∷ firm hs) (firm hs))
      go true e f below = below
      go false e f below = let first = firm_stays s h f e in λ i. first i ++ below i

-- flat facts are their own flat
pub flat_is_own : (h : Fact Term) → is_flat h ≡ true → flat h ≡ h ∷ []
flat_is_own (Att phase (Leaf x)) e = refl
flat_is_own (Att phase (Node f args)) e = rw (not_true (is_data f) e) refl
flat_is_own (Mess phase t u) e = refl
flat_is_own (Tab n ts) e = refl
flat_is_own (Ev n ts) e = refl
flat_is_own (Mev n ts) e = refl
flat_is_own (Bad ts) e = refl

pub flats_are_own : (hs : List (Fact Term)) → list_all is_flat hs ≡ true → flat_map flat hs ≡ hs
flats_are_own [] e = refl
flats_are_own (h ∷ hs) e =
    let parts = and_true (is_flat h) (list_all is_flat hs) e in
    let first = flat_is_own h parts.0 in
    let others = flats_are_own hs parts.1 in λ i. first i ++ others i
