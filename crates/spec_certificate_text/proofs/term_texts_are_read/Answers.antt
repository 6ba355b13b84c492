use Rattle.spec_certificate_text.proofs.Read.{term_text-read}
use Rattle.spec_certificate_text.proofs.term_texts_are_read.Goals as goal

pub returns : goal.returns
returns c = λ P t at b rest names is shallow ends. term_text-read P names t is shallow at b rest ends
