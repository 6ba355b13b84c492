-- Reading a level deeper, at the last level, and where nothing begins.
use Rattle.std.proofs.Common.{◌≡◌, ◌≢◌, ℕ, zero, suc, ◌+◌, ◌-◌, ◌<◌, Bool, true, false, cond, refl, sym, ap, subst, ◌∙◌, arith}
use Rattle.spec_protocol_grammar.specs.declared.class.Class.{Class}
use Rattle.spec_protocol_grammar.specs.declared.class.Class.TheVariants as w
use Rattle.spec_protocol_grammar.specs.Classes.{Source, same}
use Rattle.pi_parser.specs.Gives.{HasFault}
use Rattle.pi_parser.specs.declared.error.Fault.{Fault}
use Rattle.pi_parser.specs.declared.error.Fault.TheVariants as fault
use Rattle.spec_protocol_grammar.specs.Sketch.{TermSketch, PatternSketch, UnitSketch, ProcessSketch}
use Rattle.spec_protocol_grammar.specs.Reading.{Read, Found, Unexpected, TooDeep, step, Reader, built, both, optional, with_place, arguments_at, begins_term, term_by, term_at, begins_pattern, pattern_by, pattern_at, begins_atom, atom_from, atom_at, begins_unit, beside_from, process_from, unit_by, unit_at, process_at, question_by, declaration_by}

pub term_other : (most : ℕ) (below : Reader TermSketch) (c : Class) (s : Source) (at : ℕ) → c ≢ w.Name → c ≢ w.Open → term_by most below c s at ≡ Unexpected at
term_other most below w.Private s at n0 n1 = refl
term_other most below w.Free s at n0 n1 = refl
term_other most below w.Fun s at n0 n1 = refl
term_other most below w.Data s at n0 n1 = refl
term_other most below w.Reduc s at n0 n1 = refl
term_other most below w.Event s at n0 n1 = refl
term_other most below w.Query s at n0 n1 = refl
term_other most below w.Attacker s at n0 n1 = refl
term_other most below w.Process s at n0 n1 = refl
term_other most below w.New s at n0 n1 = refl
term_other most below w.False s at n0 n1 = refl
term_other most below w.Let s at n0 n1 = refl
term_other most below w.In s at n0 n1 = refl
term_other most below w.Out s at n0 n1 = refl
term_other most below w.If s at n0 n1 = refl
term_other most below w.Then s at n0 n1 = refl
term_other most below w.Else s at n0 n1 = refl
term_other most below w.Phase s at n0 n1 = refl
term_other most below w.Table s at n0 n1 = refl
term_other most below w.Insert s at n0 n1 = refl
term_other most below w.Get s at n0 n1 = refl
term_other most below w.Suchthat s at n0 n1 = refl
term_other most below w.Open s at n0 n1 = absurd (n1 refl)
term_other most below w.Close s at n0 n1 = refl
term_other most below w.Comma s at n0 n1 = refl
term_other most below w.Semicolon s at n0 n1 = refl
term_other most below w.Dot s at n0 n1 = refl
term_other most below w.Slash s at n0 n1 = refl
term_other most below w.Equals s at n0 n1 = refl
term_other most below w.Implies s at n0 n1 = refl
term_other most below w.Bar s at n0 n1 = refl
term_other most below w.Or s at n0 n1 = refl
term_other most below w.And s at n0 n1 = refl
term_other most below w.Bang s at n0 n1 = refl
term_other most below w.Arrow s at n0 n1 = refl
term_other most below w.Name s at n0 n1 = absurd (n0 refl)
term_other most below w.Zero s at n0 n1 = refl
term_other most below w.Number s at n0 n1 = refl
term_other most below w.Other s at n0 n1 = refl
term_other most below w.End s at n0 n1 = refl

pub pattern_other : (most left : ℕ) (below : Reader PatternSketch) (c : Class) (s : Source) (at : ℕ) → c ≢ w.Name → c ≢ w.Equals → c ≢ w.Open → pattern_by most left below c s at ≡ Unexpected at
pattern_other most left below w.Private s at n0 n1 n2 = refl
pattern_other most left below w.Free s at n0 n1 n2 = refl
pattern_other most left below w.Fun s at n0 n1 n2 = refl
pattern_other most left below w.Data s at n0 n1 n2 = refl
pattern_other most left below w.Reduc s at n0 n1 n2 = refl
pattern_other most left below w.Event s at n0 n1 n2 = refl
pattern_other most left below w.Query s at n0 n1 n2 = refl
pattern_other most left below w.Attacker s at n0 n1 n2 = refl
pattern_other most left below w.Process s at n0 n1 n2 = refl
pattern_other most left below w.New s at n0 n1 n2 = refl
pattern_other most left below w.False s at n0 n1 n2 = refl
pattern_other most left below w.Let s at n0 n1 n2 = refl
pattern_other most left below w.In s at n0 n1 n2 = refl
pattern_other most left below w.Out s at n0 n1 n2 = refl
pattern_other most left below w.If s at n0 n1 n2 = refl
pattern_other most left below w.Then s at n0 n1 n2 = refl
pattern_other most left below w.Else s at n0 n1 n2 = refl
pattern_other most left below w.Phase s at n0 n1 n2 = refl
pattern_other most left below w.Table s at n0 n1 n2 = refl
pattern_other most left below w.Insert s at n0 n1 n2 = refl
pattern_other most left below w.Get s at n0 n1 n2 = refl
pattern_other most left below w.Suchthat s at n0 n1 n2 = refl
pattern_other most left below w.Open s at n0 n1 n2 = absurd (n2 refl)
pattern_other most left below w.Close s at n0 n1 n2 = refl
pattern_other most left below w.Comma s at n0 n1 n2 = refl
pattern_other most left below w.Semicolon s at n0 n1 n2 = refl
pattern_other most left below w.Dot s at n0 n1 n2 = refl
pattern_other most left below w.Slash s at n0 n1 n2 = refl
pattern_other most left below w.Equals s at n0 n1 n2 = absurd (n1 refl)
pattern_other most left below w.Implies s at n0 n1 n2 = refl
pattern_other most left below w.Bar s at n0 n1 n2 = refl
pattern_other most left below w.Or s at n0 n1 n2 = refl
pattern_other most left below w.And s at n0 n1 n2 = refl
pattern_other most left below w.Bang s at n0 n1 n2 = refl
pattern_other most left below w.Arrow s at n0 n1 n2 = refl
pattern_other most left below w.Name s at n0 n1 n2 = absurd (n0 refl)
pattern_other most left below w.Zero s at n0 n1 n2 = refl
pattern_other most left below w.Number s at n0 n1 n2 = refl
pattern_other most left below w.Other s at n0 n1 n2 = refl
pattern_other most left below w.End s at n0 n1 n2 = refl

pub begins_pattern_other : (c : Class) → c ≢ w.Name → c ≢ w.Equals → c ≢ w.Open → begins_pattern c ≡ false
begins_pattern_other w.Private n0 n1 n2 = refl
begins_pattern_other w.Free n0 n1 n2 = refl
begins_pattern_other w.Fun n0 n1 n2 = refl
begins_pattern_other w.Data n0 n1 n2 = refl
begins_pattern_other w.Reduc n0 n1 n2 = refl
begins_pattern_other w.Event n0 n1 n2 = refl
begins_pattern_other w.Query n0 n1 n2 = refl
begins_pattern_other w.Attacker n0 n1 n2 = refl
begins_pattern_other w.Process n0 n1 n2 = refl
begins_pattern_other w.New n0 n1 n2 = refl
begins_pattern_other w.False n0 n1 n2 = refl
begins_pattern_other w.Let n0 n1 n2 = refl
begins_pattern_other w.In n0 n1 n2 = refl
begins_pattern_other w.Out n0 n1 n2 = refl
begins_pattern_other w.If n0 n1 n2 = refl
begins_pattern_other w.Then n0 n1 n2 = refl
begins_pattern_other w.Else n0 n1 n2 = refl
begins_pattern_other w.Phase n0 n1 n2 = refl
begins_pattern_other w.Table n0 n1 n2 = refl
begins_pattern_other w.Insert n0 n1 n2 = refl
begins_pattern_other w.Get n0 n1 n2 = refl
begins_pattern_other w.Suchthat n0 n1 n2 = refl
begins_pattern_other w.Open n0 n1 n2 = absurd (n2 refl)
begins_pattern_other w.Close n0 n1 n2 = refl
begins_pattern_other w.Comma n0 n1 n2 = refl
begins_pattern_other w.Semicolon n0 n1 n2 = refl
begins_pattern_other w.Dot n0 n1 n2 = refl
begins_pattern_other w.Slash n0 n1 n2 = refl
begins_pattern_other w.Equals n0 n1 n2 = absurd (n1 refl)
begins_pattern_other w.Implies n0 n1 n2 = refl
begins_pattern_other w.Bar n0 n1 n2 = refl
begins_pattern_other w.Or n0 n1 n2 = refl
begins_pattern_other w.And n0 n1 n2 = refl
begins_pattern_other w.Bang n0 n1 n2 = refl
begins_pattern_other w.Arrow n0 n1 n2 = refl
begins_pattern_other w.Name n0 n1 n2 = absurd (n0 refl)
begins_pattern_other w.Zero n0 n1 n2 = refl
begins_pattern_other w.Number n0 n1 n2 = refl
begins_pattern_other w.Other n0 n1 n2 = refl
begins_pattern_other w.End n0 n1 n2 = refl

pub unit_other : (most left : ℕ) (below : Reader UnitSketch) (inside : Reader ProcessSketch) (c : Class) (s : Source) (at : ℕ) → c ≢ w.Zero → c ≢ w.Name → c ≢ w.Open → c ≢ w.Bang → c ≢ w.New → c ≢ w.Out → c ≢ w.In → c ≢ w.Event → c ≢ w.Let → c ≢ w.If → c ≢ w.Phase → c ≢ w.Insert → c ≢ w.Get → unit_by most left below inside c s at ≡ Unexpected at
unit_other most left below inside w.Private s at n0 n1 n2 n3 n4 n5 n6 n7 n8 n9 n10 n11 n12 = refl
unit_other most left below inside w.Free s at n0 n1 n2 n3 n4 n5 n6 n7 n8 n9 n10 n11 n12 = refl
unit_other most left below inside w.Fun s at n0 n1 n2 n3 n4 n5 n6 n7 n8 n9 n10 n11 n12 = refl
unit_other most left below inside w.Data s at n0 n1 n2 n3 n4 n5 n6 n7 n8 n9 n10 n11 n12 = refl
unit_other most left below inside w.Reduc s at n0 n1 n2 n3 n4 n5 n6 n7 n8 n9 n10 n11 n12 = refl
unit_other most left below inside w.Event s at n0 n1 n2 n3 n4 n5 n6 n7 n8 n9 n10 n11 n12 = absurd (n7 refl)
unit_other most left below inside w.Query s at n0 n1 n2 n3 n4 n5 n6 n7 n8 n9 n10 n11 n12 = refl
unit_other most left below inside w.Attacker s at n0 n1 n2 n3 n4 n5 n6 n7 n8 n9 n10 n11 n12 = refl
unit_other most left below inside w.Process s at n0 n1 n2 n3 n4 n5 n6 n7 n8 n9 n10 n11 n12 = refl
unit_other most left below inside w.New s at n0 n1 n2 n3 n4 n5 n6 n7 n8 n9 n10 n11 n12 = absurd (n4 refl)
unit_other most left below inside w.False s at n0 n1 n2 n3 n4 n5 n6 n7 n8 n9 n10 n11 n12 = refl
unit_other most left below inside w.Let s at n0 n1 n2 n3 n4 n5 n6 n7 n8 n9 n10 n11 n12 = absurd (n8 refl)
unit_other most left below inside w.In s at n0 n1 n2 n3 n4 n5 n6 n7 n8 n9 n10 n11 n12 = absurd (n6 refl)
unit_other most left below inside w.Out s at n0 n1 n2 n3 n4 n5 n6 n7 n8 n9 n10 n11 n12 = absurd (n5 refl)
unit_other most left below inside w.If s at n0 n1 n2 n3 n4 n5 n6 n7 n8 n9 n10 n11 n12 = absurd (n9 refl)
unit_other most left below inside w.Then s at n0 n1 n2 n3 n4 n5 n6 n7 n8 n9 n10 n11 n12 = refl
unit_other most left below inside w.Else s at n0 n1 n2 n3 n4 n5 n6 n7 n8 n9 n10 n11 n12 = refl
unit_other most left below inside w.Phase s at n0 n1 n2 n3 n4 n5 n6 n7 n8 n9 n10 n11 n12 = absurd (n10 refl)
unit_other most left below inside w.Table s at n0 n1 n2 n3 n4 n5 n6 n7 n8 n9 n10 n11 n12 = refl
unit_other most left below inside w.Insert s at n0 n1 n2 n3 n4 n5 n6 n7 n8 n9 n10 n11 n12 = absurd (n11 refl)
unit_other most left below inside w.Get s at n0 n1 n2 n3 n4 n5 n6 n7 n8 n9 n10 n11 n12 = absurd (n12 refl)
unit_other most left below inside w.Suchthat s at n0 n1 n2 n3 n4 n5 n6 n7 n8 n9 n10 n11 n12 = refl
unit_other most left below inside w.Open s at n0 n1 n2 n3 n4 n5 n6 n7 n8 n9 n10 n11 n12 = absurd (n2 refl)
unit_other most left below inside w.Close s at n0 n1 n2 n3 n4 n5 n6 n7 n8 n9 n10 n11 n12 = refl
unit_other most left below inside w.Comma s at n0 n1 n2 n3 n4 n5 n6 n7 n8 n9 n10 n11 n12 = refl
unit_other most left below inside w.Semicolon s at n0 n1 n2 n3 n4 n5 n6 n7 n8 n9 n10 n11 n12 = refl
unit_other most left below inside w.Dot s at n0 n1 n2 n3 n4 n5 n6 n7 n8 n9 n10 n11 n12 = refl
unit_other most left below inside w.Slash s at n0 n1 n2 n3 n4 n5 n6 n7 n8 n9 n10 n11 n12 = refl
unit_other most left below inside w.Equals s at n0 n1 n2 n3 n4 n5 n6 n7 n8 n9 n10 n11 n12 = refl
unit_other most left below inside w.Implies s at n0 n1 n2 n3 n4 n5 n6 n7 n8 n9 n10 n11 n12 = refl
unit_other most left below inside w.Bar s at n0 n1 n2 n3 n4 n5 n6 n7 n8 n9 n10 n11 n12 = refl
unit_other most left below inside w.Or s at n0 n1 n2 n3 n4 n5 n6 n7 n8 n9 n10 n11 n12 = refl
unit_other most left below inside w.And s at n0 n1 n2 n3 n4 n5 n6 n7 n8 n9 n10 n11 n12 = refl
unit_other most left below inside w.Bang s at n0 n1 n2 n3 n4 n5 n6 n7 n8 n9 n10 n11 n12 = absurd (n3 refl)
unit_other most left below inside w.Arrow s at n0 n1 n2 n3 n4 n5 n6 n7 n8 n9 n10 n11 n12 = refl
unit_other most left below inside w.Name s at n0 n1 n2 n3 n4 n5 n6 n7 n8 n9 n10 n11 n12 = absurd (n1 refl)
unit_other most left below inside w.Zero s at n0 n1 n2 n3 n4 n5 n6 n7 n8 n9 n10 n11 n12 = absurd (n0 refl)
unit_other most left below inside w.Number s at n0 n1 n2 n3 n4 n5 n6 n7 n8 n9 n10 n11 n12 = refl
unit_other most left below inside w.Other s at n0 n1 n2 n3 n4 n5 n6 n7 n8 n9 n10 n11 n12 = refl
unit_other most left below inside w.End s at n0 n1 n2 n3 n4 n5 n6 n7 n8 n9 n10 n11 n12 = refl

pub begins_unit_other : (c : Class) → c ≢ w.Zero → c ≢ w.Name → c ≢ w.Open → c ≢ w.Bang → c ≢ w.New → c ≢ w.Out → c ≢ w.In → c ≢ w.Event → c ≢ w.Let → c ≢ w.If → c ≢ w.Phase → c ≢ w.Insert → c ≢ w.Get → begins_unit c ≡ false
begins_unit_other w.Private n0 n1 n2 n3 n4 n5 n6 n7 n8 n9 n10 n11 n12 = refl
begins_unit_other w.Free n0 n1 n2 n3 n4 n5 n6 n7 n8 n9 n10 n11 n12 = refl
begins_unit_other w.Fun n0 n1 n2 n3 n4 n5 n6 n7 n8 n9 n10 n11 n12 = refl
begins_unit_other w.Data n0 n1 n2 n3 n4 n5 n6 n7 n8 n9 n10 n11 n12 = refl
begins_unit_other w.Reduc n0 n1 n2 n3 n4 n5 n6 n7 n8 n9 n10 n11 n12 = refl
begins_unit_other w.Event n0 n1 n2 n3 n4 n5 n6 n7 n8 n9 n10 n11 n12 = absurd (n7 refl)
begins_unit_other w.Query n0 n1 n2 n3 n4 n5 n6 n7 n8 n9 n10 n11 n12 = refl
begins_unit_other w.Attacker n0 n1 n2 n3 n4 n5 n6 n7 n8 n9 n10 n11 n12 = refl
begins_unit_other w.Process n0 n1 n2 n3 n4 n5 n6 n7 n8 n9 n10 n11 n12 = refl
begins_unit_other w.New n0 n1 n2 n3 n4 n5 n6 n7 n8 n9 n10 n11 n12 = absurd (n4 refl)
begins_unit_other w.False n0 n1 n2 n3 n4 n5 n6 n7 n8 n9 n10 n11 n12 = refl
begins_unit_other w.Let n0 n1 n2 n3 n4 n5 n6 n7 n8 n9 n10 n11 n12 = absurd (n8 refl)
begins_unit_other w.In n0 n1 n2 n3 n4 n5 n6 n7 n8 n9 n10 n11 n12 = absurd (n6 refl)
begins_unit_other w.Out n0 n1 n2 n3 n4 n5 n6 n7 n8 n9 n10 n11 n12 = absurd (n5 refl)
begins_unit_other w.If n0 n1 n2 n3 n4 n5 n6 n7 n8 n9 n10 n11 n12 = absurd (n9 refl)
begins_unit_other w.Then n0 n1 n2 n3 n4 n5 n6 n7 n8 n9 n10 n11 n12 = refl
begins_unit_other w.Else n0 n1 n2 n3 n4 n5 n6 n7 n8 n9 n10 n11 n12 = refl
begins_unit_other w.Phase n0 n1 n2 n3 n4 n5 n6 n7 n8 n9 n10 n11 n12 = absurd (n10 refl)
begins_unit_other w.Table n0 n1 n2 n3 n4 n5 n6 n7 n8 n9 n10 n11 n12 = refl
begins_unit_other w.Insert n0 n1 n2 n3 n4 n5 n6 n7 n8 n9 n10 n11 n12 = absurd (n11 refl)
begins_unit_other w.Get n0 n1 n2 n3 n4 n5 n6 n7 n8 n9 n10 n11 n12 = absurd (n12 refl)
begins_unit_other w.Suchthat n0 n1 n2 n3 n4 n5 n6 n7 n8 n9 n10 n11 n12 = refl
begins_unit_other w.Open n0 n1 n2 n3 n4 n5 n6 n7 n8 n9 n10 n11 n12 = absurd (n2 refl)
begins_unit_other w.Close n0 n1 n2 n3 n4 n5 n6 n7 n8 n9 n10 n11 n12 = refl
begins_unit_other w.Comma n0 n1 n2 n3 n4 n5 n6 n7 n8 n9 n10 n11 n12 = refl
begins_unit_other w.Semicolon n0 n1 n2 n3 n4 n5 n6 n7 n8 n9 n10 n11 n12 = refl
begins_unit_other w.Dot n0 n1 n2 n3 n4 n5 n6 n7 n8 n9 n10 n11 n12 = refl
begins_unit_other w.Slash n0 n1 n2 n3 n4 n5 n6 n7 n8 n9 n10 n11 n12 = refl
begins_unit_other w.Equals n0 n1 n2 n3 n4 n5 n6 n7 n8 n9 n10 n11 n12 = refl
begins_unit_other w.Implies n0 n1 n2 n3 n4 n5 n6 n7 n8 n9 n10 n11 n12 = refl
begins_unit_other w.Bar n0 n1 n2 n3 n4 n5 n6 n7 n8 n9 n10 n11 n12 = refl
begins_unit_other w.Or n0 n1 n2 n3 n4 n5 n6 n7 n8 n9 n10 n11 n12 = refl
begins_unit_other w.And n0 n1 n2 n3 n4 n5 n6 n7 n8 n9 n10 n11 n12 = refl
begins_unit_other w.Bang n0 n1 n2 n3 n4 n5 n6 n7 n8 n9 n10 n11 n12 = absurd (n3 refl)
begins_unit_other w.Arrow n0 n1 n2 n3 n4 n5 n6 n7 n8 n9 n10 n11 n12 = refl
begins_unit_other w.Name n0 n1 n2 n3 n4 n5 n6 n7 n8 n9 n10 n11 n12 = absurd (n1 refl)
begins_unit_other w.Zero n0 n1 n2 n3 n4 n5 n6 n7 n8 n9 n10 n11 n12 = absurd (n0 refl)
begins_unit_other w.Number n0 n1 n2 n3 n4 n5 n6 n7 n8 n9 n10 n11 n12 = refl
begins_unit_other w.Other n0 n1 n2 n3 n4 n5 n6 n7 n8 n9 n10 n11 n12 = refl
begins_unit_other w.End n0 n1 n2 n3 n4 n5 n6 n7 n8 n9 n10 n11 n12 = refl

pub question_other : (most : ℕ) (c : Class) (s : Source) (at : ℕ) → c ≢ w.Attacker → c ≢ w.Event → question_by most c s at ≡ Unexpected at
question_other most w.Private s at n0 n1 = refl
question_other most w.Free s at n0 n1 = refl
question_other most w.Fun s at n0 n1 = refl
question_other most w.Data s at n0 n1 = refl
question_other most w.Reduc s at n0 n1 = refl
question_other most w.Event s at n0 n1 = absurd (n1 refl)
question_other most w.Query s at n0 n1 = refl
question_other most w.Attacker s at n0 n1 = absurd (n0 refl)
question_other most w.Process s at n0 n1 = refl
question_other most w.New s at n0 n1 = refl
question_other most w.False s at n0 n1 = refl
question_other most w.Let s at n0 n1 = refl
question_other most w.In s at n0 n1 = refl
question_other most w.Out s at n0 n1 = refl
question_other most w.If s at n0 n1 = refl
question_other most w.Then s at n0 n1 = refl
question_other most w.Else s at n0 n1 = refl
question_other most w.Phase s at n0 n1 = refl
question_other most w.Table s at n0 n1 = refl
question_other most w.Insert s at n0 n1 = refl
question_other most w.Get s at n0 n1 = refl
question_other most w.Suchthat s at n0 n1 = refl
question_other most w.Open s at n0 n1 = refl
question_other most w.Close s at n0 n1 = refl
question_other most w.Comma s at n0 n1 = refl
question_other most w.Semicolon s at n0 n1 = refl
question_other most w.Dot s at n0 n1 = refl
question_other most w.Slash s at n0 n1 = refl
question_other most w.Equals s at n0 n1 = refl
question_other most w.Implies s at n0 n1 = refl
question_other most w.Bar s at n0 n1 = refl
question_other most w.Or s at n0 n1 = refl
question_other most w.And s at n0 n1 = refl
question_other most w.Bang s at n0 n1 = refl
question_other most w.Arrow s at n0 n1 = refl
question_other most w.Name s at n0 n1 = refl
question_other most w.Zero s at n0 n1 = refl
question_other most w.Number s at n0 n1 = refl
question_other most w.Other s at n0 n1 = refl
question_other most w.End s at n0 n1 = refl

pub declaration_other : (most : ℕ) (c : Class) (s : Source) (at : ℕ) → c ≢ w.Private → c ≢ w.Free → c ≢ w.Fun → c ≢ w.Data → c ≢ w.Reduc → c ≢ w.Event → c ≢ w.Query → c ≢ w.Let → c ≢ w.Table → declaration_by most c s at ≡ Unexpected at
declaration_other most w.Private s at n0 n1 n2 n3 n4 n5 n6 n7 n8 = absurd (n0 refl)
declaration_other most w.Free s at n0 n1 n2 n3 n4 n5 n6 n7 n8 = absurd (n1 refl)
declaration_other most w.Fun s at n0 n1 n2 n3 n4 n5 n6 n7 n8 = absurd (n2 refl)
declaration_other most w.Data s at n0 n1 n2 n3 n4 n5 n6 n7 n8 = absurd (n3 refl)
declaration_other most w.Reduc s at n0 n1 n2 n3 n4 n5 n6 n7 n8 = absurd (n4 refl)
declaration_other most w.Event s at n0 n1 n2 n3 n4 n5 n6 n7 n8 = absurd (n5 refl)
declaration_other most w.Query s at n0 n1 n2 n3 n4 n5 n6 n7 n8 = absurd (n6 refl)
declaration_other most w.Attacker s at n0 n1 n2 n3 n4 n5 n6 n7 n8 = refl
declaration_other most w.Process s at n0 n1 n2 n3 n4 n5 n6 n7 n8 = refl
declaration_other most w.New s at n0 n1 n2 n3 n4 n5 n6 n7 n8 = refl
declaration_other most w.False s at n0 n1 n2 n3 n4 n5 n6 n7 n8 = refl
declaration_other most w.Let s at n0 n1 n2 n3 n4 n5 n6 n7 n8 = absurd (n7 refl)
declaration_other most w.In s at n0 n1 n2 n3 n4 n5 n6 n7 n8 = refl
declaration_other most w.Out s at n0 n1 n2 n3 n4 n5 n6 n7 n8 = refl
declaration_other most w.If s at n0 n1 n2 n3 n4 n5 n6 n7 n8 = refl
declaration_other most w.Then s at n0 n1 n2 n3 n4 n5 n6 n7 n8 = refl
declaration_other most w.Else s at n0 n1 n2 n3 n4 n5 n6 n7 n8 = refl
declaration_other most w.Phase s at n0 n1 n2 n3 n4 n5 n6 n7 n8 = refl
declaration_other most w.Table s at n0 n1 n2 n3 n4 n5 n6 n7 n8 = absurd (n8 refl)
declaration_other most w.Insert s at n0 n1 n2 n3 n4 n5 n6 n7 n8 = refl
declaration_other most w.Get s at n0 n1 n2 n3 n4 n5 n6 n7 n8 = refl
declaration_other most w.Suchthat s at n0 n1 n2 n3 n4 n5 n6 n7 n8 = refl
declaration_other most w.Open s at n0 n1 n2 n3 n4 n5 n6 n7 n8 = refl
declaration_other most w.Close s at n0 n1 n2 n3 n4 n5 n6 n7 n8 = refl
declaration_other most w.Comma s at n0 n1 n2 n3 n4 n5 n6 n7 n8 = refl
declaration_other most w.Semicolon s at n0 n1 n2 n3 n4 n5 n6 n7 n8 = refl
declaration_other most w.Dot s at n0 n1 n2 n3 n4 n5 n6 n7 n8 = refl
declaration_other most w.Slash s at n0 n1 n2 n3 n4 n5 n6 n7 n8 = refl
declaration_other most w.Equals s at n0 n1 n2 n3 n4 n5 n6 n7 n8 = refl
declaration_other most w.Implies s at n0 n1 n2 n3 n4 n5 n6 n7 n8 = refl
declaration_other most w.Bar s at n0 n1 n2 n3 n4 n5 n6 n7 n8 = refl
declaration_other most w.Or s at n0 n1 n2 n3 n4 n5 n6 n7 n8 = refl
declaration_other most w.And s at n0 n1 n2 n3 n4 n5 n6 n7 n8 = refl
declaration_other most w.Bang s at n0 n1 n2 n3 n4 n5 n6 n7 n8 = refl
declaration_other most w.Arrow s at n0 n1 n2 n3 n4 n5 n6 n7 n8 = refl
declaration_other most w.Name s at n0 n1 n2 n3 n4 n5 n6 n7 n8 = refl
declaration_other most w.Zero s at n0 n1 n2 n3 n4 n5 n6 n7 n8 = refl
declaration_other most w.Number s at n0 n1 n2 n3 n4 n5 n6 n7 n8 = refl
declaration_other most w.Other s at n0 n1 n2 n3 n4 n5 n6 n7 n8 = refl
declaration_other most w.End s at n0 n1 n2 n3 n4 n5 n6 n7 n8 = refl

pub term_lowest : (most left : ℕ) (s : Source) (at : ℕ) → left ≡ 0 → term_at most left s at ≡ cond (begins_term (s at).class) (TooDeep at) (Unexpected at)
unfolding term_at
term_lowest most left s at h = ap (λ (k : ℕ). term_at most k s at) h

pub term_deeper : (most left : ℕ) (s : Source) (at : ℕ) → 0 < left → term_at most left s at ≡ term_by most (term_at most (left - 1)) (s at).class s at
unfolding term_at
term_deeper most zero s at h = absurd (omega arith)
term_deeper most (suc left) s at h = ap (λ (k : ℕ). term_by most (term_at most k) (s at).class s at) (less left) where
  less : (n : ℕ) → n ≡ suc n - 1
  less n = omega arith

pub pattern_lowest : (most left : ℕ) (s : Source) (at : ℕ) → left ≡ 0 → pattern_at most left s at ≡ cond (begins_pattern (s at).class) (TooDeep at) (Unexpected at)
unfolding pattern_at
pattern_lowest most left s at h = ap (λ (k : ℕ). pattern_at most k s at) h

pub pattern_deeper : (most left : ℕ) (s : Source) (at : ℕ) → 0 < left → pattern_at most left s at ≡ pattern_by most (left - 1) (pattern_at most (left - 1)) (s at).class s at
unfolding pattern_at
pattern_deeper most zero s at h = absurd (omega arith)
pattern_deeper most (suc left) s at h = ap (λ (k : ℕ). pattern_by most k (pattern_at most k) (s at).class s at) (less left) where
  less : (n : ℕ) → n ≡ suc n - 1
  less n = omega arith

pub atom_lowest : (most left : ℕ) (s : Source) (at : ℕ) → left ≡ 0 → atom_at most left s at ≡ cond (begins_atom (s at).class) (TooDeep at) (Unexpected at)
unfolding atom_at
atom_lowest most left s at h = ap (λ (k : ℕ). atom_at most k s at) h

pub atom_deeper : (most left : ℕ) (s : Source) (at : ℕ) → 0 < left → atom_at most left s at ≡ built atom_from (with_place w.Name (arguments_at most (term_at most (left - 1)))) s at
unfolding atom_at
atom_deeper most zero s at h = absurd (omega arith)
atom_deeper most (suc left) s at h = ap (λ (k : ℕ). built atom_from (with_place w.Name (arguments_at most (term_at most k))) s at) (less left) where
  less : (n : ℕ) → n ≡ suc n - 1
  less n = omega arith

pub unit_lowest : (most left : ℕ) (s : Source) (at : ℕ) → left ≡ 0 → unit_at most left s at ≡ cond (begins_unit (s at).class) (TooDeep at) (Unexpected at)
unfolding unit_at
unit_lowest most left s at h = ap (λ (k : ℕ). unit_at most k s at) h

pub unit_deeper : (most left : ℕ) (s : Source) (at : ℕ) → 0 < left → unit_at most left s at ≡ unit_by most (left - 1) (unit_at most (left - 1)) (process_at most (left - 1)) (s at).class s at
unfolding unit_at
unit_deeper most zero s at h = absurd (omega arith)
unit_deeper most (suc left) s at h = ap (λ (k : ℕ). unit_by most k (unit_at most k) (process_at most k) (s at).class s at) (less left) where
  less : (n : ℕ) → n ≡ suc n - 1
  less n = omega arith

pub process_lowest : (most left : ℕ) (s : Source) (at : ℕ) → left ≡ 0 → process_at most left s at ≡ cond (begins_unit (s at).class) (TooDeep at) (Unexpected at)
unfolding process_at
process_lowest most left s at h = ap (λ (k : ℕ). process_at most k s at) h

pub process_deeper : (most left : ℕ) (s : Source) (at : ℕ) → 0 < left → process_at most left s at ≡ built process_from (both (unit_at most (left - 1)) (built beside_from (optional w.Bar (process_at most (left - 1))))) s at
unfolding process_at
process_deeper most zero s at h = absurd (omega arith)
process_deeper most (suc left) s at h = ap (λ (k : ℕ). built process_from (both (unit_at most k) (built beside_from (optional w.Bar (process_at most k)))) s at) (less left) where
  less : (n : ℕ) → n ≡ suc n - 1
  less n = omega arith

-- the fault below the last level
lowest_fault : {X : Type 0} (b : Bool) (at : ℕ) (e : Fault) (read : Read X) → e ≡ cond b (fault.TooDeep at) (fault.Unexpected at) → read ≡ cond b (TooDeep at) (Unexpected at) → HasFault e read
lowest_fault {X} true at e read h r = subst (λ (f : Fault). HasFault f read) (sym h) r
lowest_fault {X} false at e read h r = subst (λ (f : Fault). HasFault f read) (sym h) r

pub term_bottom : (most left : ℕ) (s : Source) (at : ℕ) (b : Bool) (e : Fault) → left ≡ 0 → b ≡ begins_term (s at).class → e ≡ cond b (fault.TooDeep at) (fault.Unexpected at) → HasFault e (term_at most left s at)
term_bottom most left s at b e l t h = lowest_fault b at e (term_at most left s at) h (term_lowest most left s at l ∙ ap (λ d. cond d (TooDeep at) (Unexpected at)) (sym t))

pub pattern_bottom : (most left : ℕ) (s : Source) (at : ℕ) (b : Bool) (e : Fault) → left ≡ 0 → b ≡ begins_pattern (s at).class → e ≡ cond b (fault.TooDeep at) (fault.Unexpected at) → HasFault e (pattern_at most left s at)
pattern_bottom most left s at b e l t h = lowest_fault b at e (pattern_at most left s at) h (pattern_lowest most left s at l ∙ ap (λ d. cond d (TooDeep at) (Unexpected at)) (sym t))

pub unit_bottom : (most left : ℕ) (s : Source) (at : ℕ) (b : Bool) (e : Fault) → left ≡ 0 → b ≡ begins_unit (s at).class → e ≡ cond b (fault.TooDeep at) (fault.Unexpected at) → HasFault e (unit_at most left s at)
unit_bottom most left s at b e l t h = lowest_fault b at e (unit_at most left s at) h (unit_lowest most left s at l ∙ ap (λ d. cond d (TooDeep at) (Unexpected at)) (sym t))

pub process_bottom : (most left : ℕ) (s : Source) (at : ℕ) (b : Bool) (e : Fault) → left ≡ 0 → b ≡ begins_unit (s at).class → e ≡ cond b (fault.TooDeep at) (fault.Unexpected at) → HasFault e (process_at most left s at)
process_bottom most left s at b e l t h = lowest_fault b at e (process_at most left s at) h (process_lowest most left s at l ∙ ap (λ d. cond d (TooDeep at) (Unexpected at)) (sym t))

atom_begins : (c : Class) → same w.Name c ≡ begins_atom c
atom_begins w.Private = refl
atom_begins w.Free = refl
atom_begins w.Fun = refl
atom_begins w.Data = refl
atom_begins w.Reduc = refl
atom_begins w.Event = refl
atom_begins w.Query = refl
atom_begins w.Attacker = refl
atom_begins w.Process = refl
atom_begins w.New = refl
atom_begins w.False = refl
atom_begins w.Let = refl
atom_begins w.In = refl
atom_begins w.Out = refl
atom_begins w.If = refl
atom_begins w.Then = refl
atom_begins w.Else = refl
atom_begins w.Phase = refl
atom_begins w.Table = refl
atom_begins w.Insert = refl
atom_begins w.Get = refl
atom_begins w.Suchthat = refl
atom_begins w.Open = refl
atom_begins w.Close = refl
atom_begins w.Comma = refl
atom_begins w.Semicolon = refl
atom_begins w.Dot = refl
atom_begins w.Slash = refl
atom_begins w.Equals = refl
atom_begins w.Implies = refl
atom_begins w.Bar = refl
atom_begins w.Or = refl
atom_begins w.And = refl
atom_begins w.Bang = refl
atom_begins w.Arrow = refl
atom_begins w.Name = refl
atom_begins w.Zero = refl
atom_begins w.Number = refl
atom_begins w.Other = refl
atom_begins w.End = refl

pub atom_bottom : (most left : ℕ) (s : Source) (at : ℕ) → left ≡ 0 → same w.Name (s at).class ≡ true → atom_at most left s at ≡ TooDeep at
atom_bottom most left s at l h = atom_lowest most left s at l ∙ ap (λ b. cond b (TooDeep at) (Unexpected at)) (sym (atom_begins (s at).class) ∙ h)

pub atom_refused : (most left : ℕ) (s : Source) (at : ℕ) → same w.Name (s at).class ≡ false → atom_at most left s at ≡ Unexpected at
unfolding atom_at
atom_refused most zero s at h = ap (λ b. cond b (TooDeep at) (Unexpected at)) (sym (atom_begins (s at).class) ∙ h)
atom_refused most (suc left) s at h = ap (λ b. step (cond b (step (arguments_at most (term_at most left) s (at + 1)) (λ x e. Found ((s at).number, x) e)) (Unexpected at)) (λ x e. Found (atom_from x) e)) h
