use Rattle.std.proofs.Common.{◌∙◌, ap}
use Rattle.std.proofs.lemmas.List.{take_all}
use Rattle.cert_writer.specs.Unsolved.{some_places}
use Rattle.cert_writer.proofs.Unsolved.{place_more}
use Rattle.cert_writer.proofs.all_pairs.places_of.Goals as goal

pub each-preserved : goal.each-preserved
each-preserved c = place_more c.args.prints.now c.each.place _ c.each.places.items c.add_place.new.places.items c.each-test.true c.in_ok-add_place.ensures c.each.invariant

pub returns : goal.returns
returns c = c.each.invariant ∙ ap (some_places 0) (take_all c.each.place c.args.prints.now c.each-test.false)
