use Rattle.std.proofs.Common.{◌+◌, length, drop, refl, sym, ◌∙◌}
use Rattle.cast_record.proofs.ReadLemmas.{text_same}
use Rattle.cast_judge.proofs.ItemLemmas.{after_feed}
use Rattle.cast_judge.proofs.kept_node.KeptNode.end_of_word.Goals as goal

pub returns-then-eq : goal.returns-then-eq
returns-then-eq c =
    let word = c.in_ok-word.word.now in
    let bytes = c.args.bytes.now in
    record {
      word = word;
      after = drop (length word + 1) bytes;
      is_at = c.in_ok-word.ensures;
      cut = after_feed bytes word (text_same _ word (sym c.eq.ensures ∙ c.if-eq.true)) c.if-length-bytes.true c.if-bytes-length-eq10.true;
      ends = refl;
    }
