use Rattle.std.proofs.Common.{◌≡◌, ◌∙◌, suc, false, Some, List, length, slice_get, refl, sym, ap, arith}
use Rattle.std.proofs.lemmas.Option.{slice_get_read}
use Rattle.std.specs.List.{list_any}
use Rattle.log_entries.specs.declared.log.PlainEntry.{PlainEntry}
use Rattle.log_text.specs.Derived.{is_of}
use Rattle.log_text.proofs.Derives.{first_part}
use Rattle.log_text.proofs.tree.Derivation.part_of.Goals as goal

pub returns-in-Some-get : goal.returns-in-Some-get
returns-in-Some-get c = λ entries tell.
    let new : list_any (is_of c.args.number) c.args.self.now.lines.items ≡ false = cc in
    let is : c.args.number ≡ suc c.in-Some.index = omega arith in
    let listed = c.deref.ensures.value ∙ c.log.view_is in
    let there : slice_get c.args.log.now c.in-Some.index ≡ Some c.in-Some-get.entry.now = ap (λ (xs : List PlainEntry). slice_get xs c.in-Some.index) (sym listed)
    ∙ slice_get_read c.deref.result.now (length c.deref.result.now) c.in-Some.index c.in-Some-get.entry.now refl c.in-Some-get.ensures.lookup.3.0 c.in-Some-get.ensures.lookup.1 in
    first_part c.args.log.now entries c.args.self.now.lines.items c.args.number c.in-Some.index c.in-Some-get.entry.now tell new is there
