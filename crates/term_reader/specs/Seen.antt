-- What contracts see of how far a term was read.
use Rattle.std.specs.Prelude.{List, map, reverse, Option, Some, None}
use Rattle.term_tree.specs.Bank.{symbol_of}
use Rattle.clause_form.specs.Plain.{term_of}
use Rattle.spec_certificate_text.specs.Names as names
use Rattle.spec_certificate_text.specs.Terms as terms
use Rattle.term_reader.specs.declared.words.Named.{Named}
use Rattle.term_reader.specs.declared.words.CalledEvent.{CalledEvent}
use Rattle.term_reader.specs.declared.state.Open.{Open}
use Rattle.term_reader.specs.declared.state.Heads.{Heads}
use Rattle.term_reader.specs.declared.state.Mode.{Mode}
use Rattle.term_reader.specs.declared.state.Mode.TheVariants.{Begins, InWord, InDigits, AtBracket, InBound, Ended}
use Rattle.term_reader.specs.declared.state.Reading.{Reading}

abbrev pub named_of : Named → names.Named
named_of n = record { symbol = symbol_of n.symbol; arity = n.arity }

abbrev pub found_of : Option Named → Option names.Named
found_of None = None
found_of (Some n) = Some (named_of n)

abbrev pub called_of : CalledEvent → names.CalledEvent
called_of e = record { number = e.number; arity = e.arity }

abbrev pub event_of : Option CalledEvent → Option names.CalledEvent
event_of None = None
event_of (Some e) = Some (called_of e)

abbrev pub open_of : Open → terms.Open
open_of o = record { symbol = symbol_of o.symbol; arity = o.arity; place = o.place; arguments = o.arguments }

-- the innermost stands last
abbrev pub heads_of : Heads → List terms.Open
heads_of h = reverse (map open_of h.items.items)

abbrev pub mode_of : Mode → terms.Mode
mode_of Begins = terms.Begins
mode_of (InWord word) = terms.InWord word.items
mode_of (InDigits name) = terms.InDigits name.word.items name.digits.items
mode_of AtBracket = terms.AtBracket
mode_of (InBound digits) = terms.InBound digits.items
mode_of (Ended t) = terms.Ended (term_of t)

abbrev pub reading_of : Reading → terms.Reading
reading_of r = record { heads = heads_of r.heads; mode = mode_of r.mode; from = r.from }
