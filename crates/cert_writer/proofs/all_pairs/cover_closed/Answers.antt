use Rattle.std.proofs.Common.{◌∙◌, map, option_map, ap, sym, arith}
use Rattle.std.proofs.lemmas.Grind.{common_steps}
use Rattle.fact_fingerprint.specs.Seen.{fingerprint_seen}
use Rattle.cert_writer.specs.Unsolved.{some_places}
use Rattle.cert_writer.proofs.all_pairs.cover_closed.Goals as goal

pub keep_all-requires-clause-unsolved : goal.keep_all-requires-clause-unsolved
keep_all-requires-clause-unsolved g c = record {
  prints = ap (map (option_map fingerprint_seen)) c.deref-2.ensures.value ∙ c.in_ok-prints.ensures;
  places = c.deref-3.ensures.value ∙ (c.in_ok-places.ensures ∙ ap (some_places 0) (c.deref.ensures.value ∙ sym c.deref-2.ensures.value));
}

pub cover_pairs-requires-clause-begin : goal.cover_pairs-requires-clause-begin
cover_pairs-requires-clause-begin g c = grind (arith, common_steps)

pub cover_pairs-requires-clause-known : goal.cover_pairs-requires-clause-known
cover_pairs-requires-clause-known g c = grind (arith, common_steps)

pub returns-clause-bank : goal.returns-clause-bank
returns-clause-bank g c = grind (arith, common_steps)

pub cover_pairs-requires-clause-ready : goal.cover_pairs-requires-clause-ready
cover_pairs-requires-clause-ready g c = grind (arith, common_steps)

pub returns-clause-known : goal.returns-clause-known
returns-clause-known g c = grind (arith, common_steps)

pub returns-clause-rows : goal.returns-clause-rows
returns-clause-rows g c = grind (arith, common_steps)
