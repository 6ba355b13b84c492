-- The test of two classes.
use Rattle.std.proofs.Common.{◌≡◌, Bool, true, false, ◌&&◌, ◌||◌, List, [], ◌∷◌, get_or, refl, sym, ap, ◌∙◌}
use Rattle.std.proofs.lemmas.Bool.{eq-eqb, eqb-true}
use Rattle.spec_protocol_grammar.specs.declared.class.Class.{Class}
use Rattle.spec_protocol_grammar.specs.declared.class.Class.TheVariants as w
use Rattle.spec_protocol_grammar.specs.Classes.{code, same, fits}

-- the classes in order of their codes
abbrev classes : List Class
classes = w.Private ∷ w.Free ∷ w.Fun ∷ w.Data ∷ w.Reduc ∷ w.Event ∷ w.Query ∷ w.Attacker ∷ w.Process ∷ w.New ∷ w.False ∷ w.Let ∷ w.In ∷ w.Out ∷ w.If ∷ w.Then ∷ w.Else ∷ w.Phase ∷ w.Table ∷ w.Insert ∷ w.Get ∷ w.Suchthat ∷ w.Open ∷ w.Close ∷ w.Comma ∷ w.Semicolon ∷ w.Dot ∷ w.Slash ∷ w.Equals ∷ w.Implies ∷ w.Bar ∷ w.Or ∷ w.And ∷ w.Bang ∷ w.Arrow ∷ w.Name ∷ w.Zero ∷ w.Number ∷ w.Other ∷ w.End ∷ []

-- a class is the one that has its code
at_code : (c : Class) → get_or classes (code c) w.End ≡ c
at_code w.Private = refl
at_code w.Free = refl
at_code w.Fun = refl
at_code w.Data = refl
at_code w.Reduc = refl
at_code w.Event = refl
at_code w.Query = refl
at_code w.Attacker = refl
at_code w.Process = refl
at_code w.New = refl
at_code w.False = refl
at_code w.Let = refl
at_code w.In = refl
at_code w.Out = refl
at_code w.If = refl
at_code w.Then = refl
at_code w.Else = refl
at_code w.Phase = refl
at_code w.Table = refl
at_code w.Insert = refl
at_code w.Get = refl
at_code w.Suchthat = refl
at_code w.Open = refl
at_code w.Close = refl
at_code w.Comma = refl
at_code w.Semicolon = refl
at_code w.Dot = refl
at_code w.Slash = refl
at_code w.Equals = refl
at_code w.Implies = refl
at_code w.Bar = refl
at_code w.Or = refl
at_code w.And = refl
at_code w.Bang = refl
at_code w.Arrow = refl
at_code w.Name = refl
at_code w.Zero = refl
at_code w.Number = refl
at_code w.Other = refl
at_code w.End = refl

-- classes that pass the test are one
pub same-true : (a b : Class) → same a b ≡ true → a ≡ b
same-true a b h = sym (at_code a) ∙ ap (λ n. get_or classes n w.End) (eqb-true (code a) (code b) h) ∙ at_code b

-- one class passes it
pub true-same : (a b : Class) → a ≡ b → same a b ≡ true
true-same a b e = eq-eqb (code a) (code b) (ap code e)

-- what is wanted itself will do
pub same-fits : (a b : Class) → same a b ≡ true → fits a b ≡ true
same-fits a b e = either_true (same w.Number a && same w.Zero b) (same a b) e where
  either_true : (x y : Bool) → y ≡ true → (x || y) ≡ true
  either_true true y e = refl
  either_true false y e = e
