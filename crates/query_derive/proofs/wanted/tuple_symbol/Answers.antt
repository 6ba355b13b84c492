use Rattle.std.proofs.Common.{◌≡◌, length, ap, map, arith}
use Rattle.std.proofs.lemmas.List.{length-map}
use Rattle.spec_terms.specs.Term.{Tuple}
use Rattle.pi_tree.specs.Terms.{term_of}
use Rattle.spec_trees.proofs.Rows.{length-le-sizes}
use Rattle.query_derive.proofs.wanted.tuple_symbol.Goals as goal

pub overflow_cast-result : goal.overflow_cast-result
overflow_cast-result c =
    let are : map term_of c.parts.inside.items.items ≡ c.args.parts.now = c.parts.view_is in
    omega (arith, c.len.ensures, c.parts.inside.items.ok.0, ap length are, length-map c.parts.inside.items.items term_of, length-le-sizes c.args.parts.now, c.requires)

pub returns : goal.returns
returns c =
    let are : map term_of c.parts.inside.items.items ≡ c.args.parts.now = c.parts.view_is in
    let count : c.len.result ≡ length c.args.parts.now = omega (arith, c.len.ensures, c.parts.inside.items.ok.0, ap length are, length-map c.parts.inside.items.items term_of) in ap Tuple count
