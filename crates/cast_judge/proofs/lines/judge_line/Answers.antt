use Rattle.std.proofs.Common.{sym, ◌∙◌, ap, option_map}
use Rattle.cast_message.proofs.Results.{on_err}
use Rattle.cast_record.specs.WordLines.{line_said}
use Rattle.cast_judge.proofs.JudgedLemmas.{judges_broken, judges_kept, line_fits}
use Rattle.cast_judge.proofs.lines.judge_line.Goals as goal

pub returns-in-Some-broken_rule-clause-judged : goal.returns-in-Some-broken_rule-clause-judged
returns-in-Some-broken_rule-clause-judged c past s short =
    judges_broken past c.args.bytes.now (line_said c.in-Some.line) c.in-Some-broken_rule.rule c.args.kept.now s (sym c.read_words.ensures ∙ ap (option_map line_said) c.in-Some.is) (sym c.in-Some-broken_rule.ensures)

pub returns-clause-judged : goal.returns-clause-judged
returns-clause-judged c past s short =
    judges_kept past c.args.bytes.now (line_said c.in-Some.line) c.args.kept.now c.keep.new.self s short (sym c.read_words.ensures ∙ ap (option_map line_said) c.in-Some.is) (sym c.broken_rule.ensures ∙ c.in_default-broken_rule.is) c.in_ok-keep.ensures

pub returns-in_err-keep-clause-wants : goal.returns-in_err-keep-clause-wants
returns-in_err-keep-clause-wants c past s =
    on_err _
    (line_fits past c.args.bytes.now (line_said c.in-Some.line) c.args.kept.now s (sym c.read_words.ensures ∙ ap (option_map line_said) c.in-Some.is) (sym c.broken_rule.ensures ∙ c.in_default-broken_rule.is))
