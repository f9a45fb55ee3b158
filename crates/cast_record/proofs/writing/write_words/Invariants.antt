use Rattle.std.proofs.Common.{drop, map, ◌++◌, ◌∷◌, []}
use Rattle.std.specs.List.{join_with_byte}
use Rattle.cast_record.specs.Words.{word_text}
use Rattle.cast_record.proofs.WrittenLemmas.{IsGoing}
use Rattle.cast_record.proofs.WritingLemmas.{others_text}
use Rattle.cast_record.proofs.writing.write_words.Given as goal

abbrev pub invariant-loop-word : goal.invariant-loop-word
invariant-loop-word g l = IsGoing (g.W.Write.contents l.fn.writer.inner) (g.W.Write.contents l.writer.inner) l.writer.failed
    (join_with_byte 32 (l.name ∷ map word_text l.words) ++ 10 ∷ [])
    (others_text (map word_text (drop l.word-index l.words)) ++ 10 ∷ [])
