use Rattle.std.proofs.Common.{◌≡◌, [], None, Some, refl, sym, subst, rules}
use Rattle.std.specs.Prelude.{length}
use Rattle.log_entries.specs.Numbers.{AreNumbersWithin}
use Rattle.fact_classes.specs.Classes.{listed}
use Rattle.log_entries.specs.Classes.{class_at}
use Rattle.log_entries.specs.Live.{kept_prints}
use Rattle.log_walks.proofs.Partners.{class_there}
use Rattle.log_walks.proofs.Scanning.{class_partners, all_partners}
use Rattle.log_walks.proofs.pairs.class_partner.Goals as goal

pub returns-in-None : goal.returns-in-None
returns-in-None c =
    let walk = c.args.walk.now in
    all_partners walk.items.items (kept_prints walk.live.prints.items) c.args.numbers.now c.args.numbers.now [] c.args.later c.args.from c.partner.result c.requires.alive refl refl c.partner.ensures.partner c.partner.ensures.met

pub partner-requires-in-Some-clause-left : goal.partner-requires-in-Some-clause-left
partner-requires-in-Some-clause-left c =
    let walk = c.args.walk.now in
    let many = c.requires.many in
    let own = subst (λ ns. AreNumbersWithin (length walk.items.items) ns) (sym c.of.ensures) (c.requires.classed (Some c.in-Some.class)).within in
    subst (λ n. AreNumbersWithin n c.of.result.now) (sym many) own

pub partner-requires-in-Some-clause-right : goal.partner-requires-in-Some-clause-right
partner-requires-in-Some-clause-right c =
    let walk = c.args.walk.now in
    let many = c.requires.many in
    let rest : c.deref.result.now ≡ listed c.args.classes.now None = search rules in
    let own = subst (λ ns. AreNumbersWithin (length walk.items.items) ns) (sym rest) (c.requires.classed None).within in
    subst (λ n. AreNumbersWithin n c.deref.result.now) (sym many) own

pub returns-in-Some : goal.returns-in-Some
returns-in-Some c =
    let walk = c.args.walk.now in
    let rest : c.deref.result.now ≡ listed c.args.classes.now None = search rules in
    let class : class_at (kept_prints walk.live.prints.items) c.args.later ≡ Some c.in-Some.class = class_there walk.live.prints.items c.args.later c.index.result.now (Some c.in-Some.class) c.index.ensures c.requires.some c.requires.within c.in-Some.ensures in
    class_partners walk.items.items (kept_prints walk.live.prints.items) c.args.numbers.now c.of.result.now c.deref.result.now c.args.classes.now c.args.later c.args.from c.in-Some.class c.partner-in-Some.result c.requires.alive c.requires.classed class c.of.ensures rest c.partner-in-Some.ensures.partner c.partner-in-Some.ensures.met
