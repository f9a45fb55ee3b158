use Rattle.std.proofs.Common.{◌++◌, ap, sym, codes, rules}
use Rattle.std.specs.List.{range_with_len}
use Rattle.cast_record.proofs.WrittenLemmas.{going_start, going_again, going_more, going_breaks, going_last}
use Rattle.cast_live.specs.Live.{end_text, counts_text}
use Rattle.cast_live.proofs.SummaryLemmas.{all_counts, counts-next, counts-end}
use Rattle.cast_live.proofs.summary.write_node.Goals as goal

pub returns-in_err-write_end-clause-text : goal.returns-in_err-write_end-clause-text
returns-in_err-write_end-clause-text g c past st =
    let named = ap (λ n. end_text n c.args.ended ++ (counts_text c.args.config.now past c.args.node (range_with_len 0 c.args.config.now.nodes) ++ codes "\n")) (sym c.from.ensures) in
    going_breaks _ _ c.from_residual.result c.from_residual.ensures.1 (going_again (going_start c.requires.writer) named) c.in_err-write_end.ensures

pub loop-sender-init : goal.loop-sender-init
loop-sender-init g c = record {
  sound = c.in_ok-write_end.ensures.sound;
  going = λ past st.
      let named = ap (λ n. end_text n c.args.ended ++ (counts_text c.args.config.now past c.args.node (range_with_len 0 c.args.config.now.nodes) ++ codes "\n")) (sym c.from.ensures) in
      going_again (going_more (going_again (going_start c.requires.writer) named) c.in_ok-write_end.ensures) (ap (λ counts. counts ++ codes "\n") (all_counts c.args.config.now past c.args.node c.args.config.now.nodes));
}

pub returns-in_err-write_count-clause-text : goal.returns-in_err-write_count-clause-text
returns-in_err-write_count-clause-text g c past st =
    let next = counts-next c.args.config.now past c.args.node c.loop-sender.sender c.args.config.now.nodes c.delivered_count.result (search rules) (c.delivered_count.ensures past st) (codes "\n") in
    going_breaks _ _ c.from_residual-in_err-write_count.result c.from_residual-in_err-write_count.ensures.1 (going_again (c.loop-sender.invariant.going past st) next) c.in_err-write_count.ensures

pub loop-sender-preserved : goal.loop-sender-preserved
loop-sender-preserved g c = record {
  sound = c.in_ok-write_count.ensures.sound;
  going = λ past st.
      let next = counts-next c.args.config.now past c.args.node c.loop-sender.sender c.args.config.now.nodes c.delivered_count.result (search rules) (c.delivered_count.ensures past st) (codes "\n") in
      going_more (going_again (c.loop-sender.invariant.going past st) next) c.in_ok-write_count.ensures;
}

pub returns-clause-text : goal.returns-clause-text
returns-clause-text g c past st =
    let all = counts-end c.args.config.now past c.args.node c.loop-sender.sender c.args.config.now.nodes (search rules) (codes "\n") in
    going_last _ _ c.write_bytes.result (going_again (c.loop-sender.invariant.going past st) all) c.write_bytes.ensures
