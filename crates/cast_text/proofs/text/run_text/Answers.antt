use Rattle.std.proofs.Common.{◌<◌, ◌^◌, List, length, subst}
use Rattle.cast_script.specs.declared.script.ScriptEvent.{ScriptEvent}
use Rattle.cast_text.specs.Ranges.{HaveScriptRanges}
use Rattle.cast_text.proofs.GoodRecords.{record_is_good}
use Rattle.cast_text.proofs.Whole.{text_recorded}
use Rattle.cast_text.proofs.text.run_text.Goals as goal

pub returns-clause-exact : goal.returns-clause-exact
returns-clause-exact g c =
    let ranges = subst HaveScriptRanges c.as_slice.ensures c.tell_ranges.ensures.ranges in
    let few = subst (λ (events : List ScriptEvent). length events < 2 ^ 64) c.as_slice.ensures c.tell_ranges.ensures.few in
    text_recorded _ _ _ c.read_script_text.new.reader.failed c.write_script_record.new.writer.failed c.in_ok-script.script c.write_script_record.result c.in_ok-script.ensures.ok (record_is_good c.in_ok-script.script ranges few) c.write_script_record.ensures.text c.write_script_record.ensures.memory
