-- Whether a symbol is one of a protocol's, with so many arguments, is decided.
use Rattle.std.proofs.Common.{◌≡◌, ◌⊎◌, ◌∙◌, ℕ, ◌<◌, ◌≤◌, ◌^◌, Bool, true, false, Option, Some, None, List, refl, ap, sym, inl, inr, arith}
use Rattle.std.proofs.lemmas.Bool.{cases_eq, cases_lt}
use Rattle.spec_calculus.specs.Bounds.{most_digits, most_arguments}
use Rattle.spec_calculus.specs.Syntax.{Declared, Process, Nil, Output, Input, Parallel, Replication, New, Let, Event, Phase, Insert, Get, Protocol}
use Rattle.spec_calculus.specs.Points.{numbered, nodes, name_arguments}
use Rattle.spec_terms.specs.Term.{Sym, Ctor, Data, Tuple, Free, Point, Attacker}
use Rattle.spec_saturation.proofs.Offers.{named_once}
use Rattle.spec_certificate_text.specs.OfProtocol.{IsDeclared, IsConstructor, IsRestriction, IsShort, IsSymbolOf}

-- what is decided: it holds, or it is absurd
abbrev Decided : Type 0 → Type 0
Decided A = A ⊎ (A → ⊥)

both : {A B : Type 0} → Decided A → Decided B → Decided (A × B)
both (inl a) (inl b) = inl (a, b)
both (inl a) (inr never) = inr (λ h. never h.1)
both (inr never) d = inr (λ h. never h.0)

three : {A B C : Type 0} → Decided A → Decided B → Decided C → Decided (A × B × C)
three (inl a) (inl b) (inl c) = inl (a, b, c)
three (inl a) (inl b) (inr never) = inr (λ h. never h.2)
three (inl a) (inr never) d = inr (λ h. never h.1)
three (inr never) d e = inr (λ h. never h.0)

at_most : (m n : ℕ) → Decided (m ≤ n)
at_most m n = go (cases_lt n m) where
  go : (n < m) ⊎ (m ≤ n) → Decided (m ≤ n)
  go (inl less) = inr (λ h. omega arith)
  go (inr h) = inl h

short : (n : ℕ) → Decided (IsShort n)
short n = go (cases_lt n (10 ^ most_digits)) where
  go : (n < 10 ^ most_digits) ⊎ (10 ^ most_digits ≤ n) → Decided (IsShort n)
  go (inl h) = inl h
  go (inr more) = inr (λ h. omega arith)

same_bool : (a b : Bool) → Decided (a ≡ b)
same_bool true true = inl refl
same_bool true false = inr (λ h. cc)
same_bool false true = inr (λ h. cc)
same_bool false false = inl refl

declared : (ds : List Declared) (number : ℕ) → Decided (IsDeclared ds number)
declared ds number = go (numbered ds number) refl where
  go : (o : Option Declared) → numbered ds number ≡ o → Decided (IsDeclared ds number)
  go None e = inr (λ h. let there = h.there in cc)
  go (Some d) e = inl (record { declared = d; there = e })

constructor : (P : Protocol) (is_data : Bool) (number arguments : ℕ) → Decided (IsConstructor P is_data number arguments)
constructor P is_data number arguments = go (numbered P.constructors number) refl where
  one : (h : IsConstructor P is_data number arguments) (d : Declared) → numbered P.constructors number ≡ Some d → h.declared ≡ d
  one h d e = named_once (numbered P.constructors number) h.declared d h.there e

  of : (d : Declared) → numbered P.constructors number ≡ Some d → Decided ((d.is_data ≡ is_data) × (d.arity ≡ arguments)) → Decided (IsConstructor P is_data number arguments)
  of d e (inl h) = inl (record { declared = d; there = e; data_is = h.0; arity = h.1 })
  of d e (inr never) = inr (λ h. never (ap (λ x. x.is_data) (sym (one h d e)) ∙ h.data_is, ap (λ x. x.arity) (sym (one h d e)) ∙ h.arity))

  go : (o : Option Declared) → numbered P.constructors number ≡ o → Decided (IsConstructor P is_data number arguments)
  go None e = inr (λ h. let there = h.there in cc)
  go (Some d) e = of d e (both (same_bool d.is_data is_data) (cases_eq d.arity arguments))

-- a restriction with its word and what follows
abbrev IsNew : Process → Type 0
IsNew node = (word : List ℕ) × (next : Process) × (node ≡ New word next)

new : (node : Process) → Decided (IsNew node)
new Nil = inr (λ h. let e = h.2 in cc)
new (Output channel message next) = inr (λ h. let e = h.2 in cc)
new (Input channel pattern next) = inr (λ h. let e = h.2 in cc)
new (Parallel left right) = inr (λ h. let e = h.2 in cc)
new (Replication copied) = inr (λ h. let e = h.2 in cc)
new (New word next) = inl (word, next, refl)
new (Let pattern expression next otherwise) = inr (λ h. let e = h.2 in cc)
new (Event performed next) = inr (λ h. let e = h.2 in cc)
new (Phase number next) = inr (λ h. let e = h.2 in cc)
new (Insert table arguments next) = inr (λ h. let e = h.2 in cc)
new (Get table patterns condition next otherwise) = inr (λ h. let e = h.2 in cc)

restriction : (P : Protocol) (point arguments : ℕ) → Decided (IsRestriction P point arguments)
restriction P point arguments = go (numbered (nodes P.main) point) refl (numbered (name_arguments 0 P.main) point) refl where
  of : (node : Process) (count : ℕ) → numbered (nodes P.main) point ≡ Some node → numbered (name_arguments 0 P.main) point ≡ Some count → Decided (IsNew node) → Decided (count ≡ arguments) → Decided (IsRestriction P point arguments)
  of node count at has (inl h) (inl same) = inl (record { word = h.0; next = h.1; there = at ∙ ap Some h.2; arity = has ∙ ap Some same })
  of node count at has (inl h) (inr never) = inr (λ r. never (named_once (numbered (name_arguments 0 P.main) point) count arguments has r.arity))
  of node count at has (inr never) d = inr (λ r. never (r.word, r.next, named_once (numbered (nodes P.main) point) node (New r.word r.next) at r.there))

  go : (o : Option Process) → numbered (nodes P.main) point ≡ o → (p : Option ℕ) → numbered (name_arguments 0 P.main) point ≡ p → Decided (IsRestriction P point arguments)
  go None at p has = inr (λ r. let there = r.there in cc)
  go (Some node) at None has = inr (λ r. let arity = r.arity in cc)
  go (Some node) at (Some count) has = of node count at has (new node) (cases_eq count arguments)

pub symbol : (P : Protocol) (f : Sym) (n : ℕ) → Decided (IsSymbolOf P f n)
symbol P (Ctor f) n = constructor P false f n
symbol P (Data f) n = constructor P true f n
symbol P (Tuple parts) n = three (cases_eq parts n) (at_most 2 n) (at_most n most_arguments)
symbol P (Free name) n = both (declared P.frees name) (cases_eq n 0)
symbol P (Point point) n = both (restriction P point n) (short point)
symbol P Attacker n = cases_eq n 1
