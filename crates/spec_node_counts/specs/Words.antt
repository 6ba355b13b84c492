-- Reading the heads of nodes that begin with a word.
use Rattle.spec_calculus.specs.Syntax.{Protocol}
use Rattle.spec_certificate_text.specs.Outcomes.{next, Reader}
use Rattle.spec_certificate_text.specs.ReadWords.{read_word}
use Rattle.spec_node_reading.specs.ReadNodes.{HeadRead, word_head}

-- a word, and what it names as the head of a node
abbrev pub read_word_head : Protocol → Reader HeadRead
read_word_head P bytes at = next (read_word bytes at) (λ word p r. word_head P word at p r)
