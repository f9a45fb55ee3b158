use Rattle.std.proofs.Common.{◌++◌, ◌∷◌, [], Err, sym, subst}
use Rattle.std.proofs.lemmas.Result.{err_from_is_err_and}
use Rattle.cast_record.specs.declared.line.Line.TheVariants.{End}
use Rattle.cast_record.specs.Lines.{head_of}
use Rattle.cast_record.specs.Text.{line_text, record_text}
use Rattle.cast_text.specs.Played.{played}
use Rattle.cast_text.specs.Recorded.{lines_of}
use Rattle.cast_text.specs.RecordLaws.{wants_memory, writes_then, breaks_longer}
use Rattle.cast_text.specs.Text.{BreaksOff, Writes}
use Rattle.cast_text.proofs.Recording.{ended, front_of, not_memory}
use Rattle.cast_text.proofs.record.write_script_record.Goals as goal

pub returns-in_err-world-clause-text : goal.returns-in_err-world-clause-text
returns-in_err-world-clause-text g c =
    let p = err_from_is_err_and c.from_residual.result c.from_residual.ensures.1 in
    rw (p.1, p.2) (wants_memory _ c.requires)

pub returns-in_err-put_head-clause-text : goal.returns-in_err-put_head-clause-text
returns-in_err-put_head-clause-text g c =
    let p = err_from_is_err_and c.from_residual-in_err-put_head.result c.from_residual-in_err-put_head.ensures.1 in
    let script = c.args.script.now in
    rw (p.1, p.2) (breaks_longer c.in_err-put_head.field-0.0 _ _ _ (line_text (head_of script.config) ++ 10 ∷ []) (record_text (lines_of (played script) ++ End ∷ [])) c.in_err-put_head.ensures.text)

pub returns-in_err-play-clause-text : goal.returns-in_err-play-clause-text
returns-in_err-play-clause-text g c =
    let p = err_from_is_err_and c.from_residual-in_err-play.result c.from_residual-in_err-play.ensures.1 in
    let script = c.args.script.now in
    let lines = lines_of (played script) in
    let why = c.in_err-play.field-0.0 in
    let breaks = subst (BreaksOff why _ _ _) (sym (ended lines)) (breaks_longer why _ _ _ (record_text lines) (line_text End ++ 10 ∷ []) c.in_err-play.ensures.saw) in
    rw (p.1, p.2) (writes_then _ _ _ _ _ (Err why) (line_text (head_of script.config) ++ 10 ∷ []) (record_text (lines ++ End ∷ [])) c.in_ok-put_head.ensures.text breaks)

pub returns-clause-text : goal.returns-clause-text
returns-clause-text g c =
    let script = c.args.script.now in
    let lines = lines_of (played script) in
    let tail = subst (Writes _ _ _ c.put_line.result) (sym (ended lines)) (writes_then _ _ _ _ _ c.put_line.result (record_text lines) (line_text End ++ 10 ∷ []) c.in_ok-play.ensures.saw c.put_line.ensures.text) in
    writes_then _ _ _ _ _ c.put_line.result (line_text (head_of script.config) ++ 10 ∷ []) (record_text (lines ++ End ∷ [])) c.in_ok-put_head.ensures.text tail

pub returns-in_err-world-clause-memory : goal.returns-in_err-world-clause-memory
returns-in_err-world-clause-memory g c =
    let p = err_from_is_err_and c.from_residual.result c.from_residual.ensures.1 in
    rw (p.1, p.2) (λ _. (wants_memory _ c.requires).1)

pub returns-in_err-put_head-clause-memory : goal.returns-in_err-put_head-clause-memory
returns-in_err-put_head-clause-memory g c =
    let p = err_from_is_err_and c.from_residual-in_err-put_head.result c.from_residual-in_err-put_head.ensures.1 in
    let script = c.args.script.now in
    let why = c.in_err-put_head.field-0.0 in
    rw (p.1, p.2) (λ _. front_of why _ _ _ _ (breaks_longer why _ _ _ (line_text (head_of script.config) ++ 10 ∷ []) (record_text (lines_of (played script))) c.in_err-put_head.ensures.text))

pub returns-in_err-play-clause-memory : goal.returns-in_err-play-clause-memory
returns-in_err-play-clause-memory g c =
    let p = err_from_is_err_and c.from_residual-in_err-play.result c.from_residual-in_err-play.ensures.1 in
    let script = c.args.script.now in
    let why = c.in_err-play.field-0.0 in
    rw (p.1, p.2) (λ _. front_of why _ _ _ _ (writes_then _ _ _ _ _ (Err why) (line_text (head_of script.config) ++ 10 ∷ []) (record_text (lines_of (played script))) c.in_ok-put_head.ensures.text c.in_err-play.ensures.saw))

pub returns-clause-memory : goal.returns-clause-memory
returns-clause-memory g c = not_memory _ c.put_line.result c.put_line.ensures.fault
