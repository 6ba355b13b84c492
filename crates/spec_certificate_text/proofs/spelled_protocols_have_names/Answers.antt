use Rattle.spec_certificate_text.proofs.spelled_protocols_have_names.Goals as goal

pub returns : goal.returns
returns c = λ bytes P spells. record { words = c.words.ensures bytes P spells; distinct = c.distinct_words.ensures bytes P spells }
