use Rattle.std.proofs.Common.{arith}
use Rattle.raw_image.proofs.Common.{header_view, word_count}
use Rattle.raw_image.proofs.Bodies.{whole_words, finished}
use Rattle.raw_image.proofs.stage.Body.finish.Goals as goal

pub from_words-requires : goal.from_words-requires
from_words-requires c =
    let b = c.args.self in
    (whole_words b.words.items b.high (word_count (header_view b.shape)) (omega arith) b.within).0

pub returns-clause-answer : goal.returns-clause-answer
returns-clause-answer c =
    let b = c.args.self in
    finished (header_view b.shape) c.from_words.result b.words.items b.high (omega arith) b.within c.from_words.ensures.valid c.from_words.ensures.value
