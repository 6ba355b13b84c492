-- Variables, and what a pattern binds, are no more than the tokens, since each has a text of its own.
use Rattle.std.proofs.Common.{◌≡◌, ℕ, zero, suc, ◌+◌, ◌<◌, ◌≤◌, Bool, true, false, if◌then◌else◌, ◌||◌, List, [], ◌∷◌, ◌++◌, length, map, Some, None, bytes_eq, nat_eq, ◌⊎◌, inl, inr, refl, sym, ap, subst, ◌∙◌, arith, length-append}
use Rattle.std.proofs.lemmas.List.{map-append}
use Rattle.std.proofs.lemmas.Bool.{cases_lt, false≢true, eqb-true, eqb-false}
use Rattle.std.proofs.Math.Bool.{or-true}
use Rattle.std.specs.Cmp.Lexicographic.{bytes_decides}
use Rattle.spec_protocol_tokens.specs.Token.{Token}
use Rattle.spec_protocol_scope.specs.Names.{Texts, bound_as, variable_of, find_from, same_text}
use Rattle.spec_protocol_scope.specs.Spells.{texts}
use Rattle.scope_declarations.specs.declared.bound.Binding.{Binding}
use Rattle.scope_declarations.specs.declared.bound.Bindings.{Bindings}
use Rattle.scope_declarations.specs.declared.source.Text.{Text}
use Rattle.scope_declarations.specs.declared.variables.Variables.{Variables}
use Rattle.scope_declarations.specs.Variables.{FindsVariables}
use Rattle.scope_declarations.specs.Bound.{binding_of, name_of, FindsBindings}
use Rattle.scope_declarations.proofs.Found.{unmapped}
use Rattle.scope_declarations.specs.Within.{most_bound}
use Rattle.scope_declarations.specs.Text.{texts_of, is_among, passing, AreFew}

one_at_most : (b : Bool) → (if b then 1 else 0) ≤ 1
one_at_most true = omega arith
one_at_most false = omega arith

passing_few : (test : ℕ → Bool) (n : ℕ) → passing test n ≤ n
passing_few test zero = omega arith
passing_few test (suc n) = omega (arith, passing_few test n, one_at_most (test n))

kept_one : (b c : Bool) → (b ≡ true → c ≡ true) → (if b then 1 else 0) ≤ (if c then 1 else 0)
kept_one true true h = omega arith
kept_one true false h = absurd (false≢true (h refl))
kept_one false true h = omega arith
kept_one false false h = omega arith

-- what passes the first test passes the second
passing_kept : (first second : ℕ → Bool) (n : ℕ) → ((k : ℕ) → first k ≡ true → second k ≡ true) → passing first n ≤ passing second n
passing_kept first second zero h = omega arith
passing_kept first second (suc n) h = omega (arith, passing_kept first second n h, kept_one (first n) (second n) (h n))

one_if : (b c : Bool) → b ≡ false → c ≡ true → (if b then 1 else 0) + 1 ≤ (if c then 1 else 0)
one_if true c fails passes = absurd (false≢true (sym fails))
one_if false true fails passes = omega arith
one_if false false fails passes = absurd (false≢true passes)

-- and one more does
passing_more : (first second : ℕ → Bool) (n t : ℕ) → ((k : ℕ) → first k ≡ true → second k ≡ true) → t < n → first t ≡ false → second t ≡ true → passing first n + 1 ≤ passing second n
passing_more first second zero t h b fails passes = absurd (omega (arith, b))
passing_more first second (suc n) t h b fails passes = by_place (nat_eq t n) refl (λ earlier. passing_more first second n t h earlier fails passes)
  where
    by_place : (same : Bool) → nat_eq t n ≡ same → (t < n → passing first n + 1 ≤ passing second n) → passing first (suc n) + 1 ≤ passing second (suc n)
    by_place true e further =
        let is : t ≡ n = eqb-true t n e in
        omega (arith, passing_kept first second n h, one_if (first n) (second n) (ap first (sym is) ∙ fails) (ap second (sym is) ∙ passes))
    by_place false e further =
        let earlier : t < n = omega (arith, b, eqb-false t n e) in
        omega (arith, further earlier, kept_one (first n) (second n) (h n))

-- one more is among these, besides those that were
among_more : (text : Texts) (ns : List ℕ) (m k : ℕ) → is_among text (ns ++ m ∷ []) k ≡ is_among text ns k || same_text text m k
among_more text [] m k = last (same_text text m k)
  where
    last : (b : Bool) → b || false ≡ false || b
    last true = refl
    last false = refl
among_more text (n ∷ ns) m k = ap (λ b. same_text text n k || b) (among_more text ns m k) ∙ joined (same_text text n k) (is_among text ns k) (same_text text m k)
  where
    joined : (a b c : Bool) → a || (b || c) ≡ (a || b) || c
    joined true b c = refl
    joined false b c = refl

-- what is among some does not depend on the token but on its text
alike : (text : Texts) (ns : List ℕ) (m k : ℕ) → text m ≡ text k → is_among text ns m ≡ is_among text ns k
alike text [] m k e = refl
alike text (n ∷ ns) m k e = ap (λ word. bytes_eq (text n) word || is_among text ns m) e ∙ ap (λ b. same_text text n k || b) (alike text ns m k e)

-- a token that is not there has the text of the one behind the last
past : (bytes : List ℕ) (ts : List Token) (n : ℕ) → length ts ≤ n → texts bytes ts n ≡ texts bytes ts (length ts)
past bytes [] n b = refl
past bytes (t ∷ ts) zero b = absurd (omega (arith, b))
past bytes (t ∷ ts) (suc n) b = past bytes ts n (omega (arith, b))

pub few_none : (t : Text) → AreFew t []
few_none t = omega arith

-- a text that is not among theirs may come to them
pub few_more : (t : Text) (ns : List ℕ) (n : ℕ) → AreFew t ns → is_among (texts_of t) ns n ≡ false → AreFew t (ns ++ n ∷ [])
few_more t ns n few fresh = by_place (cases_lt n (length t.tokens.now))
  where
    kept : (k : ℕ) → is_among (texts_of t) ns k ≡ true → is_among (texts_of t) (ns ++ n ∷ []) k ≡ true
    kept k h = among_more (texts_of t) ns n k ∙ ap (λ b. b || same_text (texts_of t) n k) h

    itself : (m : ℕ) → texts_of t n ≡ texts_of t m → is_among (texts_of t) (ns ++ n ∷ []) m ≡ true
    itself m e = among_more (texts_of t) ns n m ∙ ap (λ b. is_among (texts_of t) ns m || b) ((bytes_decides (texts_of t n) (texts_of t m)).1 e) ∙ or-true (is_among (texts_of t) ns m)

    there : (m : ℕ) → m < length t.tokens.now + 1 → texts_of t n ≡ texts_of t m → AreFew t (ns ++ n ∷ [])
    there m b e =
        let more = passing_more (is_among (texts_of t) ns) (is_among (texts_of t) (ns ++ n ∷ [])) (length t.tokens.now + 1) m kept b (alike (texts_of t) ns m n (sym e) ∙ fresh) (itself m e) in
        omega (arith, few, more, length-append ns (n ∷ []))

    by_place : (n < length t.tokens.now) ⊎ (length t.tokens.now ≤ n) → AreFew t (ns ++ n ∷ [])
    by_place (inl h) = there n (omega (arith, h)) refl
    by_place (inr h) = there (length t.tokens.now) (omega arith) (past t.source.now t.tokens.now n h)

-- so few are at most the tokens, and one
few_tokens : (t : Text) (ns : List ℕ) → AreFew t ns → length ns ≤ most_bound
few_tokens t ns few = omega (arith, few, passing_few (is_among (texts_of t) ns) (length t.tokens.now + 1), t.few)

pub few_variables : (t : Text) (v : Variables) → FindsVariables t v → length v.items.items ≤ most_bound
few_variables t v found = few_tokens t v.items.items found.few

-- the number of a variable that is spelled as none of these is none
find_none : (text : Texts) (variables : List ℕ) (k n : ℕ) → find_from text k variables (text n) ≡ None → is_among text variables n ≡ false
find_none text [] k n h = refl
find_none text (m ∷ ms) k n h = by_test (same_text text m n) refl (find_none text ms (k + 1) n)
  where
    by_test : (b : Bool) → same_text text m n ≡ b → (find_from text (k + 1) ms (text n) ≡ None → is_among text ms n ≡ false) → is_among text (m ∷ ms) n ≡ false
    by_test true e further = absurd (let both : Some (k, m) ≡ None = ap (λ b. if b then Some (k, m) else find_from text (k + 1) ms (text n)) (sym e) ∙ h in cc)
    by_test false e further =
        ap (λ b. b || is_among text ms n) e ∙ further (ap (λ b. if b then Some (k, m) else find_from text (k + 1) ms (text n)) (sym e) ∙ h)

-- one variable more
pub variables_more : (t : Text) (variables now : List ℕ) (n : ℕ) → now ≡ variables ++ n ∷ [] → variable_of (texts_of t) variables n ≡ None → AreFew t variables → AreFew t now
variables_more t variables now n pushed fresh few =
    subst (AreFew t) (sym pushed) (few_more t variables n few (find_none (texts_of t) variables 1 n (unmapped (λ found. found.0) (find_from (texts_of t) 1 variables (texts_of t n)) fresh)))

bound_none : (text : Texts) (bindings : List Binding) (n : ℕ) → bound_as text (map binding_of bindings) n ≡ None → is_among text (map (λ b. b.token) bindings) n ≡ false
bound_none text [] n h = refl
bound_none text (b ∷ bs) n h = by_test (same_text text b.token n) refl (bound_none text bs n)
  where
    by_test : (test : Bool) → same_text text b.token n ≡ test → (bound_as text (map binding_of bs) n ≡ None → is_among text (map (λ b. b.token) bs) n ≡ false) → is_among text (map (λ b. b.token) (b ∷ bs)) n ≡ false
    by_test true e further = absurd (let both : Some (name_of b.name) ≡ None = ap (λ test. if test then Some (name_of b.name) else bound_as text (map binding_of bs) n) (sym e) ∙ h in cc)
    by_test false e further =
        ap (λ test. test || is_among text (map (λ b. b.token) bs) n) e ∙ further (ap (λ test. if test then Some (name_of b.name) else bound_as text (map binding_of bs) n) (sym e) ∙ h)

-- one binding more
pub bindings_more : (t : Text) (bindings now : List Binding) (b : Binding) → now ≡ bindings ++ b ∷ [] → bound_as (texts_of t) (map binding_of bindings) b.token ≡ None
    → AreFew t (map (λ b. b.token) bindings) → AreFew t (map (λ b. b.token) now)
bindings_more t bindings now b pushed fresh few =
    subst (AreFew t) (sym (ap (map (λ b. b.token)) pushed ∙ map-append (λ b. b.token) bindings (b ∷ [])))
    (few_more t (map (λ b. b.token) bindings) b.token few (bound_none (texts_of t) bindings b.token fresh))

length_tokens : (bindings : List Binding) → length (map (λ b. b.token) bindings) ≡ length bindings
length_tokens [] = refl
length_tokens (b ∷ bs) = omega (arith, length_tokens bs)

pub few_bindings : (t : Text) (b : Bindings) → FindsBindings t b → length b.items.items ≤ most_bound
few_bindings t b found = omega (arith, few_tokens t (map (λ b. b.token) b.items.items) found.few, length_tokens b.items.items)
