use Rattle.std.proofs.Common.{List, ap, map, subst, sym, take}
use Rattle.spec_clauses.specs.Fact as horn
use Rattle.spec_clauses.specs.Inclusion.{IsWithin}
use Rattle.term_tree.specs.declared.bank.Id.{Id}
use Rattle.fact_placing.proofs.Listing.{unref}
use Rattle.multiset_subsume.proofs.Parting.{member_more, member_all}
use Rattle.multiset_subsume.proofs.parts.members.Goals as goal

pub each-init : goal.each-init
each-init c = subst (λ (fs : List (horn.Fact Id)). IsWithin fs (map unref (take 0 c.args.facts.now))) (sym (ap (map unref) c.new-found.ensures.items)) tt

pub each-preserved : goal.each-preserved
each-preserved c = member_more c.args.facts.now c.each.i c.index-facts-i.result _ (map unref c.each.found.items) (map unref c.add_member.new.found.items) c.each-test.true c.index-facts-i.is c.in_ok-add_member.ensures c.each.invariant

pub returns : goal.returns
returns c = member_all c.args.facts.now c.each.i (map unref c.each.found.items) c.each-test.false c.each.invariant
