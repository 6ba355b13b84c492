use Rattle.std.proofs.Common.{◌≤◌, ◌-◌, List, length, drop, subst, arith}
use Rattle.std.proofs.lemmas.List.{length-take, take_all}
use Rattle.pi_tree.specs.Protocols.{protocol_of}
use Rattle.protocol_text.specs.declared.questions.Subject.{Subject}
use Rattle.hx.specs.Noted.{AreFound}
use Rattle.hx.proofs.Noting.{part_there, none_found, part_found}
use Rattle.hx.proofs.impossible.never_among.Goals as goal

pub each-init : goal.each-init
each-init c = record {
  within = omega arith;
  found = none_found (protocol_of c.args.protocol.now) c.args.budget c.args.subjects.now _ c.new-events.ensures.items c.new-queries.ensures.items;
}

pub note_never-requires-clause-there : goal.note_never-requires-clause-there
note_never-requires-clause-there c = part_there (protocol_of c.args.protocol.now) c.args.subjects.now c.each.from c.part_end-to.result c.requires.there

pub note_never-requires-clause-few : goal.note_never-requires-clause-few
note_never-requires-clause-few c =
    let part = length-take (c.part_end-to.result - c.each.from) (drop c.each.from c.args.subjects.now) in
    omega (arith, part, c.part_end-to.ensures.few)

pub each-preserved : goal.each-preserved
each-preserved c =
    let ordered : c.each.from ≤ c.part_end-to.result = omega (arith, c.part_end-to.ensures.later) in
    record {
      within = omega (arith, c.part_end-to.ensures.within);
      found = part_found (protocol_of c.args.protocol.now) c.args.budget c.args.subjects.now c.each.from c.part_end-to.result c.each.found c.note_never.new.found ordered c.each.invariant.found c.in_ok-note_never.ensures;
    }

pub returns : goal.returns
returns c =
    let past : length c.args.subjects.now ≤ c.each.from = omega (arith, c.each-test.false) in
    subst (λ (subjects : List Subject). AreFound (protocol_of c.args.protocol.now) c.args.budget subjects c.each.found) (take_all c.each.from c.args.subjects.now past) c.each.invariant.found
