use Rattle.std.proofs.Common.{◌∙◌, [], ◌∷◌, ◌+◌, filter_map, map, take, refl, sym, ap}
use Rattle.std.specs.List.{enumerate_from}
use Rattle.std.proofs.lemmas.List.{map-append}
use Rattle.spec_translation.specs.Attacker.{name_known}
use Rattle.spec_attack_runs.specs.Gathered.{idle}
use Rattle.pi_tree.specs.Names.{declared_of}
use Rattle.clause_sources.proofs.Telling.{none_told}
use Rattle.attacker_sources.proofs.Numbering.{made_more, all_numbered}
use Rattle.attacker_sources.proofs.Adding.{told_as, told_on}
use Rattle.attacker_sources.proofs.names.add_names.Goals as goal

pub each-init : goal.each-init
each-init g c = record { bank = refl; tells = none_told c.args.sources.now }

pub each-preserved : goal.each-preserved
each-preserved g c =
    let items = c.deref-declared-items.result.now in
    let i = c.each.index in
    let before = filter_map name_known (enumerate_from 1 (map declared_of (take i items))) in
    let one = filter_map name_known ((i + 1, declared_of c.declared-item.result) ∷ []) in
    record {
      bank = c.add_name.ensures.bank ∙ c.each.invariant.bank;
      tells = told_on c.args.sources.now c.each.sources c.add_name.new.sources (map idle before) (map idle one) (map idle (filter_map name_known (enumerate_from 1 (map declared_of (take (i + 1) items)))))
          c.each.invariant.tells c.in_ok-add_name.ensures.tells (sym (map-append idle before one) ∙ ap (map idle) (made_more declared_of name_known items i c.declared-item.result c.each-test.true c.declared-item.is));
    }

pub returns-clause-tells : goal.returns-clause-tells
returns-clause-tells g c =
    let items = c.deref-declared-items.result.now in
    told_as c.args.sources.now c.each.sources (map idle (filter_map name_known (enumerate_from 1 (map declared_of (take c.each.index items))))) (map idle (filter_map name_known (enumerate_from 1 c.args.frees.now)))
    (ap (λ l. map idle (filter_map name_known l)) (all_numbered declared_of items c.args.frees.now c.each.index c.each-test.false (ap (map declared_of) c.deref-declared-items.ensures.value ∙ c.frees.view_is))) c.each.invariant.tells
