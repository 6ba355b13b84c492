-- What the declarations of a file declare.
use Rattle.std.proofs.Common.{◌≡◌, ℕ, suc, ◌+◌, ◌≤◌, Bool, true, false, not, nat_eq, nat_le, ◌&&◌, List, [], ◌∷◌, length, is_some, Ok, inl, inr, refl, ap, subst, ◌∙◌, sym, arith}
use Rattle.std.specs.List.{AllByRecursion}
use Rattle.std.proofs.lemmas.Bool.{leb-true, eqb-true}
use Rattle.spec_calculus.specs.Bounds.{most_names, most_arguments, most_rules}
use Rattle.spec_calculus.specs.Syntax as calculus
use Rattle.spec_calculus.specs.Refusals.{AreUniform}
use Rattle.spec_calculus.proofs.Items.{each-weaker}
use Rattle.spec_calculus.proofs.Rules.{not_false}
use Rattle.spec_well_formed.specs.Signature.{Signature}
use Rattle.spec_well_formed.specs.Rules.{IsProperRule}
use Rattle.spec_well_formed.specs.Limits.{IsSmallRule, IsSmallDestructor}
use Rattle.spec_well_formed.specs.WellFormed.{IsRuleOver}
use Rattle.spec_protocol_grammar.specs.Sketch.{RuleSketch}
use Rattle.spec_protocol_scope.specs.Answers.{Twice, Kind, Arity, fault}
use Rattle.spec_protocol_scope.specs.Names.{signature_with, Texts, Names, Scope, count_of, look, is_variable, decimal, same_text}
use Rattle.spec_protocol_scope.specs.Terms.{count}
use Rattle.spec_protocol_scope.specs.Declarations as rules
use Rattle.spec_protocol_scope.specs.Declarations.{among}
use Rattle.spec_protocol_scope.proofs.Stepped.{stepped, kept, chosen, faulty, found_one}
use Rattle.spec_protocol_scope.proofs.Solid.{IsSolidProcess, IsSolidRule}
use Rattle.spec_protocol_scope.proofs.Rules.{Ruled, ruled}
use Rattle.spec_protocol_scope.proofs.Widening.{Widens, wider_rule}

-- a destructor as it should be
pub record IsDestructorOver (signature : Signature) (d : calculus.Destructor) : Type 0 where
  pub proper : AllByRecursion IsProperRule d.rules
  pub uniform : AreUniform d.rules
  pub over : AllByRecursion (IsRuleOver signature) d.rules
  pub small : IsSmallDestructor d

pub wider_destructor : (a b : Signature) → Widens a b → (d : calculus.Destructor) → IsDestructorOver a d → IsDestructorOver b d
wider_destructor a b widens d h = record { proper = h.proper; uniform = h.uniform; over = each-weaker _ _ (wider_rule a b widens) d.rules h.over; small = h.small }

-- the word of a token that declares a name
abbrev pub IsWordOf : (ℕ → Type 0) → Texts → List ℕ → Type 0
IsWordOf IsName text word = (n : ℕ) × IsName n × (text n ≡ word)

-- what is declared is as it should be, where each token that declares a name is such; and no table, where the file is plain
pub record AreDeclared (IsName : ℕ → Type 0) (Plain : Type 0) (text : Texts) (names : Names) : Type 0 where
  pub few : count_of names ≤ most_names
  pub frees : AllByRecursion (λ d. IsWordOf IsName text d.word × (is_variable d.word ≡ false)) names.frees
  pub constructors : AllByRecursion (λ d. IsWordOf IsName text d.word × (is_variable d.word ≡ false)) names.constructors
  pub arities : AllByRecursion (λ d. d.arity ≤ most_arguments) names.constructors
  pub destructors : AllByRecursion (λ d. IsWordOf IsName text d.word) names.destructors
  pub rules : AllByRecursion (IsDestructorOver (signature_with names)) names.destructors
  pub events : AllByRecursion (λ d. IsWordOf IsName text d.word) names.events
  pub event_arities : AllByRecursion (λ d. d.arity ≤ most_arguments) names.events
  pub tables : AllByRecursion (λ d. IsWordOf IsName text d.word) names.tables
  pub table_arities : AllByRecursion (λ d. d.arity ≤ most_arguments) names.tables
  pub no_tables : Plain → names.tables ≡ []
  pub macros : AllByRecursion (λ m. IsSolidProcess IsName Plain m.body) names.macros

-- a new name
pub record IsNew (s : Scope) (n : ℕ) (word : List ℕ) : Type 0 where
  pub unknown : is_some (look s n) ≡ false
  pub room : count_of s.names + 1 ≤ most_names
  pub is : word ≡ s.text n

pub new_name : (s : Scope) (n : ℕ) (word : List ℕ) → rules.new_name s n ≡ Ok word → IsNew s n word
new_name s n word e =
    elim (chosen (is_some (look s n)) (fault Twice n) _ word e) [
      | inl h ↦ absurd (faulty Twice n word h.1)
      | inr h ↦ let k = kept (nat_le (count_of s.names + 1) most_names) n (s.text n) word h.1 in
          record { unknown = h.0; room = leb-true (count_of s.names + 1) most_names k.0; is = k.1 }
    ]

no_variable : (known variable : Bool) → known ≡ false → (not known && variable) ≡ false → variable ≡ false
no_variable false variable k e = e
no_variable true variable k e = absurd (let same = k in cc)

-- a new name that is no variable's
pub new_symbol : (s : Scope) (n : ℕ) (word : List ℕ) → rules.new_symbol s n ≡ Ok word → IsNew s n word × (is_variable (s.text n) ≡ false)
new_symbol s n word e =
    elim (chosen (not (is_some (look s n)) && is_variable (s.text n)) (fault Kind n) _ word e) [
      | inl h ↦ absurd (faulty Kind n word h.1)
      | inr h ↦ let new = new_name s n word h.1 in (new, no_variable (is_some (look s n)) (is_variable (s.text n)) new.unknown h.0)
    ]

pub arity : (text : Texts) (n a : ℕ) → rules.arity text n ≡ Ok a → a ≤ most_arguments
arity text n a e = let k = kept (nat_le (decimal (text n)) most_arguments) n (decimal (text n)) a e in subst (λ (x : ℕ). x ≤ most_arguments) (sym k.1) (leb-true (decimal (text n)) most_arguments k.0)

-- the rules of a destructor behind the first
record Further (s : Scope) (given : ℕ) (many : ℕ) (rs : List calculus.Rule) : Type 0 where
  proper : AllByRecursion IsProperRule rs
  over : AllByRecursion (IsRuleOver (signature_with s.names)) rs
  small : AllByRecursion IsSmallRule rs
  counts : AllByRecursion (λ r. length r.left ≡ given) rs
  many_are : length rs ≡ many

module _ (IsName : ℕ → Type 0) (s : Scope) (first : RuleSketch) where
  further_rule : (r : RuleSketch) → IsSolidRule IsName r → (rule : calculus.Rule) → rules.further_rule s first r ≡ Ok rule → Ruled s (count first.arguments) rule
  further_rule r solid rule e =
      elim (chosen (not (nat_eq (count r.arguments) (count first.arguments))) (fault Arity r.first) _ rule e) [
        | inl h ↦ absurd (faulty Arity r.first rule h.1)
        | inr h ↦ elim (chosen (same_text s.text first.first r.first) (rules.rule s r) (fault Kind r.first) rule h.1) [
          | inl k ↦ subst (λ (n : ℕ). Ruled s n rule) (eqb-true (count r.arguments) (count first.arguments) (not_false (nat_eq (count r.arguments) (count first.arguments)) h.0)) (ruled s r solid.arguments solid.result rule k.1)
          | inr k ↦ absurd (faulty Kind r.first rule k.1)
        ]
      ]

  further_rules : (rs : List RuleSketch) → AllByRecursion (IsSolidRule IsName) rs → (made : List calculus.Rule) → rules.further_rules s first rs ≡ Ok made → Further s (count first.arguments) (length rs) made
  further_rules [] solid made e = subst (Further s (count first.arguments) 0) (found_one [] made e) (record { proper = tt; over = tt; small = tt; counts = tt; many_are = refl })
  further_rules (r ∷ rs) solid made e =
      let a = stepped (rules.further_rule s first r) _ made e in
      let b = stepped (rules.further_rules s first rs) _ made a.later in
      let one = further_rule r solid.0 a.value a.first in
      let others = further_rules rs solid.1 b.value b.first in
      subst (Further s (count first.arguments) (length (r ∷ rs))) (found_one (a.value ∷ b.value) made b.later)
      (record { proper = (one.proper, others.proper); over = (one.over, others.over); small = (one.small, others.small); counts = (one.counts, others.counts); many_are = ap suc others.many_are })

-- a destructor, with the word of its first rule
pub record Destructed (s : Scope) (n : ℕ) (d : calculus.Destructor) : Type 0 where
  pub new : IsNew s n d.word
  pub over : IsDestructorOver (signature_with s.names) d

pub destructor : (IsName : ℕ → Type 0) (s : Scope) (n : ℕ) (first : RuleSketch) (others : List RuleSketch) → IsSolidRule IsName first → AllByRecursion (IsSolidRule IsName) others
    → (d : calculus.Destructor) → rules.destructor s n first others ≡ Ok d → Destructed s first.first d
destructor IsName s n first others solid all d e =
    let word = stepped (rules.new_name s first.first) _ d e in
    let a = stepped (rules.rule s first) _ d word.later in
    let b = stepped (rules.further_rules s first others) _ d a.later in
    let k = kept (nat_le (1 + length others) most_rules) n (record { word = word.value; rules = a.value ∷ b.value }) d b.later in
    let one = ruled s first solid.arguments solid.result a.value a.first in
    let more = further_rules IsName s first others all b.value b.first in
    let few : 1 + length others ≤ most_rules = leb-true (1 + length others) most_rules k.0 in
    subst (Destructed s first.first) (sym k.1) (record {
      new = new_name s first.first word.value word.first;
      over = record {
        proper = (one.proper, more.proper);
        uniform = each-weaker _ _ (λ r h. h ∙ sym one.counts) b.value more.counts;
        over = (one.over, more.over);
        small = record { some = omega arith; few = omega (arith, more.many_are); rules = (one.small, more.small) };
      };
    })
