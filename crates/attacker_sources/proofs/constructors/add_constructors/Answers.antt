use Rattle.std.proofs.Common.{◌∙◌, [], ◌∷◌, ◌+◌, filter_map, map, take, refl, ap}
use Rattle.std.specs.List.{enumerate_from}
use Rattle.pi_tree.specs.Names.{declared_of}
use Rattle.clause_sources.proofs.Telling.{none_told}
use Rattle.attacker_sources.specs.Deeds.{constructor_deed}
use Rattle.attacker_sources.proofs.Numbering.{made_more, all_numbered}
use Rattle.attacker_sources.proofs.Adding.{told_as, told_on}
use Rattle.attacker_sources.proofs.constructors.add_constructors.Goals as goal

pub each-init : goal.each-init
each-init g c = record { bank = refl; tells = none_told c.args.sources.now }

pub each-preserved : goal.each-preserved
each-preserved g c =
    let items = c.deref-declared-items.result.now in
    let i = c.each.index in
    let made = constructor_deed c.args.at.phase in
    record {
      bank = c.add_constructor.ensures.bank ∙ c.each.invariant.bank;
      tells = told_on c.args.sources.now c.each.sources c.add_constructor.new.sources (filter_map made (enumerate_from 1 (map declared_of (take i items)))) (filter_map made ((i + 1, declared_of c.declared-item.result) ∷ []))
          (filter_map made (enumerate_from 1 (map declared_of (take (i + 1) items)))) c.each.invariant.tells c.in_ok-add_constructor.ensures.tells
          (made_more declared_of made items i c.declared-item.result c.each-test.true c.declared-item.is);
    }

pub returns-clause-tells : goal.returns-clause-tells
returns-clause-tells g c =
    let items = c.deref-declared-items.result.now in
    let made = constructor_deed c.args.at.phase in
    told_as c.args.sources.now c.each.sources (filter_map made (enumerate_from 1 (map declared_of (take c.each.index items)))) (filter_map made (enumerate_from 1 c.args.ctors.now))
    (ap (filter_map made) (all_numbered declared_of items c.args.ctors.now c.each.index c.each-test.false (ap (map declared_of) c.deref-declared-items.ensures.value ∙ c.ctors.view_is))) c.each.invariant.tells
