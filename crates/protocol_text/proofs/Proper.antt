-- Questions are proper queries, and the protocol that has them is as one that was read.
use Rattle.std.proofs.Common.{◌≡◌, ◌∙◌, ℕ, zero, suc, ◌+◌, ◌<◌, ◌≤◌, max, Some, List, [], ◌∷◌, ◌++◌, length, map, get_or, take, refl, ap, sym, subst, arith}
use Rattle.std.specs.List.{AllByRecursion, flat_map}
use Rattle.std.proofs.lemmas.List.{map-append}
use Rattle.spec_trees.specs.Tree.{Leaf, trees, sizes}
use Rattle.spec_calculus.specs.Bounds.{most_queries, most_arguments}
use Rattle.spec_calculus.specs.Syntax.{Name, Free, Made, Variable, Declared, EventTerm, Query, Correspondence, Protocol}
use Rattle.spec_calculus.specs.Points.{numbered}
use Rattle.spec_calculus.proofs.Items.{each-append, each-first, each-numbered, each-weaker, if_some-is}
use Rattle.spec_well_formed.specs.Signature.{Signature, signature_of}
use Rattle.spec_well_formed.specs.Leaves.{leaves_of, AreNumberedBehind}
use Rattle.spec_well_formed.specs.Limits.{IsSmallEvent, IsSmallQuery, IsWithinLimits}
use Rattle.spec_well_formed.specs.Rules.{HasProperRules}
use Rattle.spec_well_formed.specs.Queries.{IsFreeOrVariable, event_leaves, HasQueryLeaves, HasProperQueries}
use Rattle.spec_well_formed.specs.Terms.{IsTermOver}
use Rattle.spec_well_formed.specs.WellFormed.{IsQueryOver, IsWellScoped}
use Rattle.pi_tree.specs.declared.syntax.Term as written
use Rattle.pi_tree.specs.declared.syntax.Term.TheVariants.{Var}
use Rattle.pi_tree.specs.Terms.{term_of}
use Rattle.protocol_text.specs.declared.questions.Subject.{Subject}
use Rattle.protocol_text.specs.declared.questions.Subject.TheVariants.{Event, Left}
use Rattle.protocol_text.specs.Questions.{variables_from, any_event, never, asking}
use Rattle.protocol_text.specs.Asking.{IsQuestion, AreQuestions, IsAsking}

-- so many variables and one more
variables_more : (first count : ℕ) → variables_from first (suc count) ≡ variables_from first count ++ Leaf (Variable (first + count)) ∷ []
variables_more first zero = let e : first ≡ first + 0 = omega arith in ap (λ n. Leaf (Variable n) ∷ []) e
variables_more first (suc count) =
    let e : first + 1 + count ≡ first + suc count = omega arith in
    ap (λ ts. Leaf (Variable first) ∷ ts) (variables_more (first + 1) count ∙ ap (λ n. variables_from (first + 1) count ++ Leaf (Variable n) ∷ []) e)

pub one_more_variable : (items more : List written.Term) (index : ℕ) → more ≡ items ++ Var (index + 1) ∷ [] → map term_of items ≡ variables_from 1 index → map term_of more ≡ variables_from 1 (index + 1)
one_more_variable items more index is so_far =
    let number : index + 1 ≡ 1 + index = omega arith in
    let next : suc index ≡ index + 1 = omega arith in
    subst (λ n. map term_of more ≡ variables_from 1 n) next
    (ap (map term_of) is ∙ (map-append term_of items (Var (index + 1) ∷ []) ∙ (ap (λ ts. ts ++ Leaf (Variable (index + 1)) ∷ []) so_far
    ∙ (ap (λ n. variables_from 1 index ++ Leaf (Variable n) ∷ []) number ∙ sym (variables_more 1 index)))))

-- they are terms of one symbol, numbered in order
module _ (signature : Signature) where
  variables_over : (first count : ℕ) → AllByRecursion (IsTermOver signature (IsFreeOrVariable signature)) (variables_from first count)
  variables_over first zero = tt
  variables_over first (suc count) = (record { known = (tt, tt); arities = tt; few = omega arith }, variables_over (first + 1) count)

  variables_free : (first count : ℕ) → AllByRecursion (IsFreeOrVariable signature) (leaves_of (variables_from first count) ++ [])
  variables_free first zero = tt
  variables_free first (suc count) = (tt, variables_free (first + 1) count)

variables_numbered : (before count : ℕ) → AreNumberedBehind before (leaves_of (variables_from (before + 1) count) ++ [])
variables_numbered before zero = tt
variables_numbered before (suc count) =
    let greater : before + 1 ≡ max before (before + 1) = omega arith in
    (omega arith, omega arith, subst (λ n. AreNumberedBehind n (leaves_of (variables_from (before + 1 + 1) count) ++ [])) greater (variables_numbered (before + 1) count))

variables_length : (first count : ℕ) → count ≡ length (variables_from first count)
variables_length first zero = refl
variables_length first (suc count) = ap (λ n. suc n) (variables_length (first + 1) count)

variables_size : (first count : ℕ) → sizes (trees (variables_from first count)) ≡ count
variables_size first zero = refl
variables_size first (suc count) = let rest = variables_size (first + 1) count in omega arith

-- a query that may be asked of the protocol
record Fits (P : Protocol) (q : Query) : Type 0 where
  pub over : IsQueryOver (signature_of P) q
  pub small : IsSmallQuery q
  pub leaves : HasQueryLeaves P q

numbered_front : (before : ℕ) (xs ys : List Name) → AreNumberedBehind before (xs ++ ys) → AreNumberedBehind before (xs ++ [])
numbered_front before [] ys h = tt
numbered_front before (Variable i ∷ xs) ys h = (h.0, h.1, numbered_front (max before i) xs ys h.2)
numbered_front before (Free n ∷ xs) ys h = numbered_front before xs ys h
numbered_front before (Made p ∷ xs) ys h = numbered_front before xs ys h

module _ (P : Protocol) (limits : IsWithinLimits P) (scoped : IsWellScoped P) (proper : HasProperQueries P) where
  fits_event : (number : ℕ) (declared : Declared) → numbered P.events number ≡ Some declared → Fits P (never (any_event number declared.arity))
  fits_event number declared at =
      let few : declared.arity ≤ most_arguments = if_some-is (λ (d : Declared). d.arity ≤ most_arguments) (numbered P.events number) declared (each-numbered (λ (d : Declared). d.arity ≤ most_arguments) P.events number limits.events) at in
      let small : IsSmallEvent (any_event number declared.arity) = omega (arith, few, variables_size 1 declared.arity) in
      record {
        over = (record { declared = record { declared = declared; stands = at; is = variables_length 1 declared.arity }; arguments = variables_over (signature_of P) 1 declared.arity }, tt);
        small = (small, omega arith, tt);
        leaves = (variables_free (signature_of P) 1 declared.arity, variables_numbered 0 declared.arity);
      }

  fits_left : (number : ℕ) (left : EventTerm) (first : List EventTerm) (others : List (List EventTerm)) → numbered P.queries number ≡ Some (Correspondence left (first ∷ others)) → Fits P (never left)
  fits_left number left first others at =
      let q : Query = Correspondence left (first ∷ others) in
      let over : IsQueryOver (signature_of P) q = if_some-is (IsQueryOver (signature_of P)) (numbered P.queries number) q (each-numbered (IsQueryOver (signature_of P)) P.queries number scoped.queries) at in
      let small : IsSmallQuery q = if_some-is IsSmallQuery (numbered P.queries number) q (each-numbered IsSmallQuery P.queries number limits.asked) at in
      let leaves : HasQueryLeaves P q = if_some-is (HasQueryLeaves P) (numbered P.queries number) q (each-numbered (HasQueryLeaves P) P.queries number proper) at in
      let rest : List Name = flat_map (flat_map event_leaves) (first ∷ others) in
      record {
        over = (over.0, tt);
        small = (small.0, omega arith, tt);
        leaves = (each-append (IsFreeOrVariable (signature_of P)) (event_leaves left) [] (each-first (IsFreeOrVariable (signature_of P)) (event_leaves left) rest leaves.0) tt, numbered_front 0 (event_leaves left) rest leaves.1);
      }

  fits : (subject : Subject) (q : Query) → IsQuestion P subject q → Fits P q
  fits (Event number) q asks =
      let (declared, at, event) = asks.about in
      subst (Fits P) (sym (asks.is ∙ ap never event)) (fits_event number declared at)
  fits (Left number) q asks =
      let (first, others, at) = asks.about in
      subst (Fits P) (sym asks.is) (fits_left number asks.event first others at)

  pub question_leaves : (subject : Subject) (q : Query) → IsQuestion P subject q → HasQueryLeaves P q
  question_leaves subject q asks = (fits subject q asks).leaves

  all_fit : (subjects : List Subject) (queries : List Query) → AreQuestions P subjects queries → AllByRecursion (Fits P) queries
  all_fit [] [] are = tt
  all_fit [] (q ∷ queries) are = absurd are
  all_fit (subject ∷ subjects) [] are = absurd are
  all_fit (subject ∷ subjects) (q ∷ queries) are = (fits subject q are.0, all_fit subjects queries are.1)

pub question_count : (P : Protocol) (subjects : List Subject) (queries : List Query) → AreQuestions P subjects queries → length queries ≡ length subjects
question_count P [] [] are = refl
question_count P [] (q ∷ queries) are = absurd are
question_count P (subject ∷ subjects) [] are = absurd are
question_count P (subject ∷ subjects) (q ∷ queries) are = ap (λ n. suc n) (question_count P subjects queries are.1)

-- the protocol with questions about subjects that are there
pub is_asking : (P asked : Protocol) (subjects : List Subject) (queries : List Query) → IsWithinLimits P → HasProperRules P → IsWellScoped P → HasProperQueries P → length subjects ≤ most_queries → AreQuestions P subjects queries → asked ≡ asking P queries → IsAsking P subjects asked
is_asking P asked subjects queries limits rules scoped proper few are is =
    let fit = all_fit P limits scoped proper subjects queries are in
    let count = question_count P subjects queries are in
    subst (IsAsking P subjects) (sym is) (record {
      queries = queries;
      questions = are;
      is = refl;
      limits = record {
        names = limits.names;
        constructors = limits.constructors;
        events = limits.events;
        tables = limits.tables;
        destructors = limits.destructors;
        queries = omega (arith, few, count);
        asked = each-weaker (Fits P) IsSmallQuery (λ q f. f.small) queries fit;
        points = limits.points;
        way = limits.way;
        phases = limits.phases;
        entries = limits.entries;
      };
      rules = record { proper = rules.proper; uniform = rules.uniform };
      scoped = record {
        rules = scoped.rules;
        process = scoped.process;
        phases = scoped.phases;
        queries = each-weaker (Fits P) (IsQueryOver (signature_of P)) (λ q f. f.over) queries fit;
      };
      proper = each-weaker (Fits P) (HasQueryLeaves P) (λ q f. f.leaves) queries fit;
    })

-- one more question
questions_next : (P : Protocol) (subjects : List Subject) (index : ℕ) (asked : List Query) (subject : Subject) (q : Query) → index < length subjects → subject ≡ get_or subjects index subject → AreQuestions P (take index subjects) asked → IsQuestion P subject q → AreQuestions P (take (suc index) subjects) (asked ++ q ∷ [])
questions_next P [] index asked subject q within at so_far next = absurd (omega arith)
questions_next P (s ∷ subjects) zero [] subject q within at so_far next = (subst (λ t. IsQuestion P t q) at next, tt)
questions_next P (s ∷ subjects) zero (a ∷ asked) subject q within at so_far next = absurd so_far
questions_next P (s ∷ subjects) (suc index) [] subject q within at so_far next = absurd so_far
questions_next P (s ∷ subjects) (suc index) (a ∷ asked) subject q within at so_far next = (so_far.0, questions_next P subjects index asked subject q (omega arith) at so_far.1 next)

pub one_more_question : (P : Protocol) (subjects : List Subject) (index : ℕ) (asked more : List Query) (subject : Subject) (q : Query) → index < length subjects → subject ≡ get_or subjects index subject → more ≡ asked ++ q ∷ [] → AreQuestions P (take index subjects) asked → IsQuestion P subject q → AreQuestions P (take (index + 1) subjects) more
one_more_question P subjects index asked more subject q within at is so_far next =
    let number : suc index ≡ index + 1 = omega arith in
    subst (λ n. AreQuestions P (take n subjects) more) number (subst (AreQuestions P (take (suc index) subjects)) (sym is) (questions_next P subjects index asked subject q within at so_far next))
