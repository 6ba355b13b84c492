-- The texts of two small certificates, as they were worked out by hand.
use Rattle.std.proofs.Common.{◌≡◌, [], refl, arith}
use Rattle.std.specs.Prelude.{codes}
use Rattle.std.proofs.lemmas.Fmt.{decimal_digit}
use Rattle.spec_certificate_text.specs.Examples.{answering}
use Rattle.spec_node_tables.specs.Text.{text_with_nodes}
use Rattle.spec_node_tables.specs.Examples.{silent, silent_certificate, paired}

pub silent_text : text_with_nodes silent silent_certificate [] ≡ codes "cert 2\nn c\nn v0\nn @ 2\nn v1\nn s\nc => att(1)\nc => att(3)\nc mess(4,2), att(4) => att(2)\nc att(2), att(4) => mess(2,4)\nc att(5) => bad()\nr 1\nr 2\nr 3 1\nr 4\nr 5 1\nend\n"
silent_text = rw (decimal_digit 0 (omega arith), decimal_digit 1 (omega arith), decimal_digit 2 (omega arith), decimal_digit 3 (omega arith), decimal_digit 4 (omega arith), decimal_digit 5 (omega arith)) refl

pub paired_text : text_with_nodes answering paired [] ≡ codes "cert 2\nn v0\nn n@3 1\nn k\nn enc 2 3\nn () 2 4\nc mev(begin(2)) => att(5)\nr 1 1\ng 1 1\nend\n"
paired_text = rw (decimal_digit 0 (omega arith), decimal_digit 1 (omega arith), decimal_digit 2 (omega arith), decimal_digit 3 (omega arith), decimal_digit 4 (omega arith), decimal_digit 5 (omega arith)) refl
