use Rattle.std.proofs.Common.{◌∙◌, None, Some, length, slice_get, option_and_then, refl, sym, ap}
use Rattle.std.proofs.lemmas.Option.{slice_get_read, slice_get_past}
use borrow.Author.Tests.{ltb-true, ltb-false}
use Rattle.attack_state.proofs.Named.{named_read}
use Rattle.attack_state.proofs.values.Names.get.Goals as goal

pub returns-in-None : goal.returns-in-None
returns-in-None c = λ all names shared known h listing.
    let items = c.args.self.now.items.items in
    named_read all shared items names c.args.self.now.classes c.args.term known h listing c.first.result c.first.ensures None (ap (option_and_then (slice_get items)) c.in-None.is)

pub returns-in-None-get : goal.returns-in-None-get
returns-in-None-get c = λ all names shared known h listing.
    let items = c.args.self.now.items.items in
    let number = c.in-Some.number in
    let past = ltb-false number (length c.deref.result.now) (sym c.in-None-get.ensures.lookup.0) in
    let none = ap (λ xs. slice_get xs number) (sym c.deref.ensures.value) ∙ slice_get_past c.deref.result.now number past in
    named_read all shared items names c.args.self.now.classes c.args.term known h listing c.first.result c.first.ensures None (ap (option_and_then (slice_get items)) c.in-Some.is ∙ none)

pub returns-in-Some-get : goal.returns-in-Some-get
returns-in-Some-get c = λ all names shared known h listing.
    let items = c.args.self.now.items.items in
    let number = c.in-Some.number in
    let found = c.in-Some-get.ensures.lookup in
    let within = ltb-true number (length c.deref.result.now) (sym found.0) in
    let there = ap (λ xs. slice_get xs number) (sym c.deref.ensures.value) ∙ slice_get_read c.deref.result.now (length c.deref.result.now) number c.in-Some-get.named.now refl within found.1 in
    named_read all shared items names c.args.self.now.classes c.args.term known h listing c.first.result c.first.ensures (Some c.in-Some-get.named.now) (ap (option_and_then (slice_get items)) c.in-Some.is ∙ there)
