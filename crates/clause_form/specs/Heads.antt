-- What contracts see of the parts of a fact over ids.
use Rattle.std.specs.Prelude.{List}
use Rattle.term_tree.specs.declared.bank.Id.{Id}
use Rattle.spec_clauses.specs.Head as horn
use Rattle.clause_form.specs.declared.heads.Head.{Head}
use Rattle.clause_form.specs.declared.heads.Head.TheVariants.{Att, Mess, Tab, Ev, Mev, Bad}
use Rattle.clause_form.specs.declared.heads.Parts.{Parts}
use Rattle.clause_form.specs.declared.heads.Parts.TheVariants.{One, Two, All}

abbrev pub head_seen : Head → horn.Head
head_seen (Att k) = horn.Att k
head_seen (Mess k) = horn.Mess k
head_seen (Tab n) = horn.Tab n
head_seen (Ev e) = horn.Ev e
head_seen (Mev e) = horn.Mev e
head_seen Bad = horn.Bad

abbrev pub terms_seen : Parts → List Id
terms_seen (One ts) = ts
terms_seen (Two ts) = ts
terms_seen (All ts) = ts.now
