use Rattle.cast_record.proofs.WrittenLemmas.{going_start, going_again, going_more, going_breaks, going_last}
use Rattle.cast_live.proofs.SummaryLemmas.{nodes_named, rest_named, stands_named}
use Rattle.cast_live.proofs.summary.write_summary.Goals as goal

pub returns-in_err-write_nodes : goal.returns-in_err-write_nodes
returns-in_err-write_nodes g c =
    let run = c.args.run.now in
    let named = nodes_named run run.summary c.config.result.now c.reports.result.now c.config.ensures c.reports.ensures.shown in
    let stands = stands_named run c.config.result.now c.config.ensures c.requires.run in
    going_breaks _ _ c.from_residual.result c.from_residual.ensures.1 (going_again (going_start c.requires.writer) named) (c.in_err-write_nodes.ensures.text _ stands)

pub returns-in_err-write_bytes : goal.returns-in_err-write_bytes
returns-in_err-write_bytes g c =
    let run = c.args.run.now in
    let named = nodes_named run run.summary c.config.result.now c.reports.result.now c.config.ensures c.reports.ensures.shown in
    let stands = stands_named run c.config.result.now c.config.ensures c.requires.run in
    let rest = rest_named run.summary c.rest_line.result.now c.rest_line.ensures in
    going_breaks _ _ c.from_residual-in_err-write_bytes.result c.from_residual-in_err-write_bytes.ensures.1 (going_again (going_more (going_again (going_start c.requires.writer) named) (c.in_ok-write_nodes.ensures.text _ stands)) rest) c.in_err-write_bytes.ensures

pub returns-in_err-write_bytes-2 : goal.returns-in_err-write_bytes-2
returns-in_err-write_bytes-2 g c =
    let run = c.args.run.now in
    let named = nodes_named run run.summary c.config.result.now c.reports.result.now c.config.ensures c.reports.ensures.shown in
    let stands = stands_named run c.config.result.now c.config.ensures c.requires.run in
    let rest = rest_named run.summary c.rest_line.result.now c.rest_line.ensures in
    going_breaks _ _ c.from_residual-in_err-write_bytes-2.result c.from_residual-in_err-write_bytes-2.ensures.1 (going_more (going_again (going_more (going_again (going_start c.requires.writer) named) (c.in_ok-write_nodes.ensures.text _ stands)) rest) c.in_ok-write_bytes.ensures) c.in_err-write_bytes-2.ensures

pub returns : goal.returns
returns g c =
    let run = c.args.run.now in
    let named = nodes_named run run.summary c.config.result.now c.reports.result.now c.config.ensures c.reports.ensures.shown in
    let stands = stands_named run c.config.result.now c.config.ensures c.requires.run in
    let rest = rest_named run.summary c.rest_line.result.now c.rest_line.ensures in
    going_last _ _ c.write_verdict.result (going_more (going_more (going_again (going_more (going_again (going_start c.requires.writer) named) (c.in_ok-write_nodes.ensures.text _ stands)) rest) c.in_ok-write_bytes.ensures) c.in_ok-write_bytes-2.ensures)
    c.write_verdict.ensures
