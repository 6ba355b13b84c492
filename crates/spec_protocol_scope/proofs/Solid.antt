-- Sketches as reading gives them: no `()` stands where the grammar wants a part, each declared name is an identifier, and where
-- a plain file is read, no phase and no table is named.
use Rattle.std.proofs.Common.{◌≡◌, ℕ, ◌+◌, Bool, true, false, List, [], ◌∷◌, ◌++◌, Option, None, Some, refl}
use Rattle.std.specs.List.{AllByRecursion}
use Rattle.spec_calculus.proofs.Items.{each-weaker}
use Rattle.spec_protocol_grammar.specs.declared.class.Class.{Class}
use Rattle.spec_protocol_grammar.specs.declared.class.Class.TheVariants as w
use Rattle.spec_protocol_grammar.specs.Sketch.{TermSketch, Named, Grouped, TermsSketch, none, more, PatternSketch, NamedPattern, Equal, GroupedPattern, PatternsSketch, no_patterns, more_patterns, ConditionSketch, always, such_that, ProcessSketch, Process, BesideSketch, alone, beside, UnitSketch, Zero, Macro, Inner, Replicated, New, Output, Input, Happens, Let, If, Phase, Insert, Get, NextSketch, omitted, given, AlternativeSketch, QuerySketch, AttackerNew, Attacker, Correspondence, RuleSketch, DeclarationSketch, Free, Fun, Data, Reduc, Event, Table, Query, Definition, FileSketch}
use Rattle.spec_protocol_scope.specs.Plain.{is_plain_word}
use Rattle.spec_protocol_grammar.specs.Spelling as spelling
use Rattle.spec_protocol_grammar.specs.Spelling.{Item, one, no, nothing, kept, word, more_of, visible}

-- no `()` stands in the term
abbrev mutual
  pub IsSolid : TermSketch → Type 0
  IsSolid (Named n ts) = AreSolid ts
  IsSolid (Grouped n none) = ⊥
  IsSolid (Grouped n (more t ts)) = IsSolid t × AreSolid ts

  pub AreSolid : TermsSketch → Type 0
  AreSolid none = Unit {0}
  AreSolid (more t ts) = IsSolid t × AreSolid ts

-- nor in the pattern
abbrev mutual
  pub IsSolidPattern : PatternSketch → Type 0
  IsSolidPattern (NamedPattern n ps) = AreSolidPatterns ps
  IsSolidPattern (Equal n t) = IsSolid t
  IsSolidPattern (GroupedPattern n no_patterns) = ⊥
  IsSolidPattern (GroupedPattern n (more_patterns p ps)) = IsSolidPattern p × AreSolidPatterns ps

  pub AreSolidPatterns : PatternsSketch → Type 0
  AreSolidPatterns no_patterns = Unit {0}
  AreSolidPatterns (more_patterns p ps) = IsSolidPattern p × AreSolidPatterns ps

abbrev pub IsSolidCondition : ConditionSketch → Type 0
IsSolidCondition always = Unit {0}
IsSolidCondition (such_that t v) = IsSolid t × IsSolid v

abbrev pub IsSolidAlternative : AlternativeSketch → Type 0
IsSolidAlternative a = AreSolid a.atom.arguments × AllByRecursion (λ b. AreSolid b.arguments) a.others

-- a rule whose name is such a token
pub record IsSolidRule (IsName : ℕ → Type 0) (r : RuleSketch) : Type 0 where
  pub name : IsName r.first
  pub arguments : AreSolid r.arguments
  pub result : IsSolid r.result

-- a query that names no phase, where the file is plain
abbrev pub IsSolidPhase : (Plain : Type 0) → Option ℕ → Type 0
IsSolidPhase Plain None = Unit {0}
IsSolidPhase Plain (Some x) = Plain → ⊥

abbrev pub IsSolidQuery : (Plain : Type 0) → QuerySketch → Type 0
IsSolidQuery Plain (AttackerNew n x o) = IsSolidPhase Plain o
IsSolidQuery Plain (Attacker n t o) = IsSolid t × IsSolidPhase Plain o
IsSolidQuery Plain (Correspondence n a others) = AreSolid a.arguments × AllByRecursion IsSolidAlternative others

-- where each token that declares a name is such, and the file may be plain
module _ (IsName : ℕ → Type 0) (Plain : Type 0) where
  abbrev mutual
    pub IsSolidProcess : ProcessSketch → Type 0
    IsSolidProcess (Process u b) = IsSolidUnit u × IsSolidBeside b

    pub IsSolidBeside : BesideSketch → Type 0
    IsSolidBeside alone = Unit {0}
    IsSolidBeside (beside p) = IsSolidProcess p

    pub IsSolidUnit : UnitSketch → Type 0
    IsSolidUnit (Zero n) = Unit {0}
    IsSolidUnit (Macro n) = Unit {0}
    IsSolidUnit (Inner n p) = IsSolidProcess p
    IsSolidUnit (Replicated n u) = IsSolidUnit u
    IsSolidUnit (New n x k) = IsName x × IsSolidNext k
    IsSolidUnit (Output n c m k) = IsSolid c × IsSolid m × IsSolidNext k
    IsSolidUnit (Input n c p k) = IsSolid c × IsSolidPattern p × IsSolidNext k
    IsSolidUnit (Happens n a k) = AreSolid a.arguments × IsSolidNext k
    IsSolidUnit (Let n p t u k) = IsSolidPattern p × IsSolid t × IsSolidUnit u × IsSolidNext k
    IsSolidUnit (If n t v u k) = IsSolid t × IsSolid v × IsSolidUnit u × IsSolidNext k
    IsSolidUnit (Phase n x k) = (Plain → ⊥) × IsSolidNext k
    IsSolidUnit (Insert n a k) = (Plain → ⊥) × AreSolid a.arguments × IsSolidNext k
    IsSolidUnit (Get n t ps c u k) = (Plain → ⊥) × AreSolidPatterns ps × IsSolidCondition c × IsSolidUnit u × IsSolidNext k

    pub IsSolidNext : NextSketch → Type 0
    IsSolidNext omitted = Unit {0}
    IsSolidNext (given u) = IsSolidUnit u

  abbrev pub IsSolidDeclaration : DeclarationSketch → Type 0
  IsSolidDeclaration (Free n public x xs) = IsName x × AllByRecursion IsName xs
  IsSolidDeclaration (Fun n public x a) = IsName x
  IsSolidDeclaration (Data n x a) = IsName x
  IsSolidDeclaration (Reduc n r rs) = IsSolidRule IsName r × AllByRecursion (IsSolidRule IsName) rs
  IsSolidDeclaration (Event n x a) = IsName x
  IsSolidDeclaration (Table n x a) = IsName x × (Plain → ⊥)
  IsSolidDeclaration (Query n q) = IsSolidQuery Plain q
  IsSolidDeclaration (Definition n x p) = IsSolidProcess p

  pub record IsSolidFile (f : FileSketch) : Type 0 where
    pub declarations : AllByRecursion IsSolidDeclaration f.declarations
    pub main : IsSolidProcess f.main

pub each-split : {A : Type 0} (P : A → Type 0) (xs ys : List A) → AllByRecursion P (xs ++ ys) → AllByRecursion P xs × AllByRecursion P ys
each-split P [] ys h = (tt, h)
each-split P (x ∷ xs) ys h = let rest = each-split P xs ys h.1 in ((h.0, rest.0), rest.1)

-- what is spelled by items of which this holds is solid
module _ (Good : Item → Type 0) (never : Good nothing → ⊥) (IsName : ℕ → Type 0) (named : (l n : ℕ) → Good (kept l n w.Name) → IsName n)
    (Plain : Type 0) (later : (l : ℕ) (o : Option ℕ) (c : Class) → is_plain_word c ≡ false → Good (one l o c) → Plain → ⊥) where
  abbrev Each : List Item → Type 0
  Each items = AllByRecursion Good items

  split : (xs ys : List Item) → Each (xs ++ ys) → Each xs × Each ys
  split xs ys h = each-split Good xs ys h

  mutual
    term_solid : (t : TermSketch) (l : ℕ) → Each (spelling.term l t) → IsSolid t
    term_solid (Named n ts) l h = arguments_solid ts l h.1
    term_solid (Grouped n none) l h = never h.1.0
    term_solid (Grouped n (more t ts)) l h =
        let a = split (spelling.terms l (more t ts)) (word l w.Close ∷ []) h.1 in
        let b = split (spelling.term (l + 1) t) (spelling.more_terms l ts) a.0 in
        (term_solid t (l + 1) b.0, more_solid ts l b.1)

    arguments_solid : (ts : TermsSketch) (l : ℕ) → Each (spelling.arguments l ts) → AreSolid ts
    arguments_solid none l h = tt
    arguments_solid (more t ts) l h =
        let a = split (spelling.term (l + 1) t ++ spelling.more_terms l ts) (word l w.Close ∷ []) h.1 in
        let b = split (spelling.term (l + 1) t) (spelling.more_terms l ts) a.0 in
        (term_solid t (l + 1) b.0, more_solid ts l b.1)

    more_solid : (ts : TermsSketch) (l : ℕ) → Each (spelling.more_terms l ts) → AreSolid ts
    more_solid none l h = tt
    more_solid (more t ts) l h =
        let b = split (spelling.term (l + 1) t) (spelling.more_terms l ts) h.1 in
        (term_solid t (l + 1) b.0, more_solid ts l b.1)

  terms_solid : (ts : TermsSketch) (l : ℕ) → Each (spelling.terms l ts) → AreSolid ts
  terms_solid none l h = absurd (never h.0)
  terms_solid (more t ts) l h =
      let b = split (spelling.term (l + 1) t) (spelling.more_terms l ts) h in
      (term_solid t (l + 1) b.0, more_solid ts l b.1)

  mutual
    pattern_solid : (p : PatternSketch) (l : ℕ) → Each (spelling.pattern l p) → IsSolidPattern p
    pattern_solid (NamedPattern n ps) l h = pattern_arguments_solid ps l h.1
    pattern_solid (Equal n t) l h = term_solid t (l + 1) h.1
    pattern_solid (GroupedPattern n no_patterns) l h = never h.1.0
    pattern_solid (GroupedPattern n (more_patterns p ps)) l h =
        let a = split (spelling.patterns l (more_patterns p ps)) (word l w.Close ∷ []) h.1 in
        let b = split (spelling.pattern (l + 1) p) (spelling.commas_patterns l ps) a.0 in
        (pattern_solid p (l + 1) b.0, commas_solid ps l b.1)

    pattern_arguments_solid : (ps : PatternsSketch) (l : ℕ) → Each (spelling.pattern_arguments l ps) → AreSolidPatterns ps
    pattern_arguments_solid no_patterns l h = tt
    pattern_arguments_solid (more_patterns p ps) l h =
        let a = split (spelling.pattern (l + 1) p ++ spelling.commas_patterns l ps) (word l w.Close ∷ []) h.1 in
        let b = split (spelling.pattern (l + 1) p) (spelling.commas_patterns l ps) a.0 in
        (pattern_solid p (l + 1) b.0, commas_solid ps l b.1)

    commas_solid : (ps : PatternsSketch) (l : ℕ) → Each (spelling.commas_patterns l ps) → AreSolidPatterns ps
    commas_solid no_patterns l h = tt
    commas_solid (more_patterns p ps) l h =
        let b = split (spelling.pattern (l + 1) p) (spelling.commas_patterns l ps) h.1 in
        (pattern_solid p (l + 1) b.0, commas_solid ps l b.1)

  condition_solid : (c : ConditionSketch) (l : ℕ) → Each (spelling.condition l c) → IsSolidCondition c
  condition_solid always l h = tt
  condition_solid (such_that t v) l h =
      let a = split (spelling.term (l + 1) t) _ h.1 in
      (term_solid t (l + 1) a.0, term_solid v (l + 1) a.1.1)

  mutual
    process_solid : (p : ProcessSketch) (l : ℕ) → Each (spelling.process l p) → IsSolidProcess IsName Plain p
    process_solid (Process u b) l h =
        let a = split (spelling.unit (l + 1) u) (spelling.besides l b) h in
        (unit_solid u (l + 1) a.0, beside_solid b l a.1)

    beside_solid : (b : BesideSketch) (l : ℕ) → Each (spelling.besides l b) → IsSolidBeside IsName Plain b
    beside_solid alone l h = tt
    beside_solid (beside p) l h = process_solid p (l + 1) h.1

    unit_solid : (u : UnitSketch) (l : ℕ) → Each (spelling.unit l u) → IsSolidUnit IsName Plain u
    unit_solid (Zero n) l h = tt
    unit_solid (Macro n) l h = tt
    unit_solid (Inner n p) l h = process_solid p (l + 1) (split (spelling.process (l + 1) p) (word l w.Close ∷ []) h.1).0
    unit_solid (Replicated n u) l h = unit_solid u (l + 1) h.1
    unit_solid (New n x k) l h = (named l x h.1.0, next_solid k w.Semicolon l h.1.1)
    unit_solid (Output n c m k) l h =
        let a = split (spelling.term (l + 1) c) _ h.1.1 in
        let b = split (spelling.term (l + 1) m) _ a.1.1 in
        (term_solid c (l + 1) a.0, term_solid m (l + 1) b.0, next_solid k w.Semicolon l b.1.1)
    unit_solid (Input n c p k) l h =
        let a = split (spelling.term (l + 1) c) _ h.1.1 in
        let b = split (spelling.pattern (l + 1) p) _ a.1.1 in
        (term_solid c (l + 1) a.0, pattern_solid p (l + 1) b.0, next_solid k w.Semicolon l b.1.1)
    unit_solid (Happens n a k) l h =
        let b = split (spelling.atom (l + 1) a) _ h.1 in
        (arguments_solid a.arguments (l + 1) b.0.1, next_solid k w.Semicolon l b.1)
    unit_solid (Let n p t u k) l h =
        let a = split (spelling.pattern (l + 1) p) _ h.1 in
        let b = split (spelling.term (l + 1) t) _ a.1.1 in
        let c = split (spelling.unit (l + 1) u) _ b.1.1 in
        (pattern_solid p (l + 1) a.0, term_solid t (l + 1) b.0, unit_solid u (l + 1) c.0, next_solid k w.Else l c.1)
    unit_solid (If n t v u k) l h =
        let a = split (spelling.term (l + 1) t) _ h.1 in
        let b = split (spelling.term (l + 1) v) _ a.1.1 in
        let c = split (spelling.unit (l + 1) u) _ b.1.1 in
        (term_solid t (l + 1) a.0, term_solid v (l + 1) b.0, unit_solid u (l + 1) c.0, next_solid k w.Else l c.1)
    unit_solid (Phase n x k) l h = (later l (Some n) w.Phase refl h.0, next_solid k w.Semicolon l h.1.1)
    unit_solid (Insert n a k) l h =
        let b = split (spelling.atom (l + 1) a) _ h.1 in
        (later l (Some n) w.Insert refl h.0, arguments_solid a.arguments (l + 1) b.0.1, next_solid k w.Semicolon l b.1)
    unit_solid (Get n t ps c u k) l h =
        let a = split (spelling.pattern_arguments l ps ++ spelling.condition l c) _ h.1.1 in
        let b = split (spelling.pattern_arguments l ps) (spelling.condition l c) a.0 in
        let d = split (spelling.unit (l + 1) u) _ a.1.1 in
        (later l (Some n) w.Get refl h.0, pattern_arguments_solid ps l b.0, condition_solid c l b.1, unit_solid u (l + 1) d.0, next_solid k w.Else l d.1)

    next_solid : (k : NextSketch) (before : Class) (l : ℕ) → Each (spelling.next before l k) → IsSolidNext IsName Plain k
    next_solid omitted before l h = tt
    next_solid (given u) before l h = unit_solid u (l + 1) h.1

  -- further parts of a list
  each_part : {X : Type 0} (l : ℕ) (before : Class) (part : X → List Item) (xs : List X) → Each (more_of l before part xs) → AllByRecursion (λ x. Each (part x)) xs
  each_part l before part [] h = tt
  each_part l before part (x ∷ xs) h = let a = split (part x) (more_of l before part xs) h.1 in (a.0, each_part l before part xs a.1)

  alternative_solid : (a : AlternativeSketch) → Each (spelling.alternative a) → IsSolidAlternative a
  alternative_solid a h =
      let b = split (spelling.happening a.atom) _ h in
      (arguments_solid a.atom.arguments 1 b.0.1.1, each-weaker _ _ (λ x k. arguments_solid x.arguments 1 k.1.1) a.others (each_part 0 w.And spelling.happening a.others b.1))

  alternatives_solid : (as' : List AlternativeSketch) → Each (spelling.alternatives as') → AllByRecursion IsSolidAlternative as'
  alternatives_solid [] h = tt
  alternatives_solid (a ∷ others) h =
      let b = split (spelling.alternative a) _ h in
      (alternative_solid a b.0, each-weaker _ _ alternative_solid others (each_part 0 w.Or spelling.alternative others b.1))

  phase_solid : (o : Option ℕ) → Each (spelling.asked_phase o) → IsSolidPhase Plain o
  phase_solid None h = tt
  phase_solid (Some x) h = later 0 None w.Phase refl h.0

  query_solid : (q : QuerySketch) → Each (spelling.question q) → IsSolidQuery Plain q
  query_solid (AttackerNew n x o) h = phase_solid o h.1.1.1.1.1
  query_solid (Attacker n t o) h = let a = split (spelling.term 1 t) _ h.1.1 in (term_solid t 1 a.0, phase_solid o a.1.1)
  query_solid (Correspondence n a others) h =
      let b = split (spelling.atom 1 a) _ h.1 in
      (arguments_solid a.arguments 1 b.0.1, alternatives_solid others b.1.1)

  rule_solid : (r : RuleSketch) → Each (spelling.rule r) → IsSolidRule IsName r
  rule_solid r h =
      let a = split (spelling.terms 0 r.arguments) _ h.1.1 in
      record { name = named 0 r.first h.0; arguments = terms_solid r.arguments 0 a.0; result = term_solid r.result 1 a.1.1.1 }

  visible_rest : (n : ℕ) (public : Bool) (class : Class) (rest : List Item) → Each (visible n public class rest) → Each rest
  visible_rest n true class rest h = h.1
  visible_rest n false class rest h = h.1.1

  declaration_solid : (d : DeclarationSketch) → Each (spelling.declaration d) → IsSolidDeclaration IsName Plain d
  declaration_solid (Free n public x xs) h =
      let rest = visible_rest n public w.Free _ h in
      let a = split (more_of 0 w.Comma spelling.name xs) _ rest.1 in
      (named 0 x rest.0, each-weaker _ _ (λ y k. named 0 y k.0) xs (each_part 0 w.Comma spelling.name xs a.0))
  declaration_solid (Fun n public x a) h = named 0 x (visible_rest n public w.Fun (spelling.sized x a) h).0
  declaration_solid (Data n x a) h = named 0 x h.1.0
  declaration_solid (Reduc n r rs) h =
      let a = split (spelling.rule r ++ more_of 0 w.Semicolon spelling.rule rs) _ h.1 in
      let b = split (spelling.rule r) _ a.0 in
      (rule_solid r b.0, each-weaker _ _ rule_solid rs (each_part 0 w.Semicolon spelling.rule rs b.1))
  declaration_solid (Event n x a) h = named 0 x h.1.0
  declaration_solid (Table n x a) h = (named 0 x h.1.0, later 0 (Some n) w.Table refl h.0)
  declaration_solid (Query n q) h = query_solid q (split (spelling.question q) _ h.1).0
  declaration_solid (Definition n x p) h = process_solid p 1 (split (spelling.process 1 p) _ h.1.1.1).0

  declarations_solid : (ds : List DeclarationSketch) (behind : List Item) → Each (spelling.declarations ds behind) → AllByRecursion (IsSolidDeclaration IsName Plain) ds × Each behind
  declarations_solid [] behind h = (tt, h)
  declarations_solid (d ∷ ds) behind h =
      let a = split (spelling.declaration d) (spelling.declarations ds behind) h in
      let b = declarations_solid ds behind a.1 in
      ((declaration_solid d a.0, b.0), b.1)

  pub file_solid : (f : FileSketch) → Each (spelling.file f) → IsSolidFile IsName Plain f
  file_solid f h =
      let a = declarations_solid f.declarations (spelling.main f.first f.main) h in
      record { declarations = a.0; main = process_solid f.main 1 (split (spelling.process 1 f.main) _ a.1.1).0 }
