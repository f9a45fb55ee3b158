use Rattle.std.proofs.Common.{List, ℕ, subst}
use Rattle.std.proofs.lemmas.Result.{err_from_is_err_and}
use Rattle.cast_record.specs.Migration.{IsMigrated}
use Rattle.cast_record.specs.Written.{WrotePrefix}
use Rattle.cast_text.proofs.MigratingLemmas.{input_migrated, migrated_breaks}
use Rattle.cast_text.proofs.migrate.migrate_text.Goals as goal

pub returns-in_err-write_bytes-clause-exact : goal.returns-in_err-write_bytes-clause-exact
returns-in_err-write_bytes-clause-exact g c =
    let p = err_from_is_err_and c.from_residual-in_err-write_bytes.result c.from_residual-in_err-write_bytes.ensures.1 in
    let is = subst (λ (bytes : List ℕ). IsMigrated bytes c.in-Ok.migrated.items) c.as_slice.ensures.value c.in-Ok.ensures.exact in
    let read = input_migrated (g.R.Read.remaining c.args.reader.now.inner) c.in_ok-input.input.items c.in-Ok.migrated.items c.in_ok-input.ensures.whole c.in_ok-input.ensures.short is in
    let wrote = subst (λ (bytes : List ℕ). WrotePrefix (g.W.Write.contents c.args.writer.now.inner) (g.W.Write.contents c.write_bytes.new.writer.inner) c.write_bytes.new.writer.failed bytes) c.as_slice-2.ensures.value c.in_err-write_bytes.ensures in
    rw (p.1, p.2) (migrated_breaks (g.R.Read.remaining c.args.reader.now.inner) (g.W.Write.contents c.args.writer.now.inner) (g.W.Write.contents c.write_bytes.new.writer.inner) c.write_bytes.new.writer.failed c.in-Ok.migrated.items read wrote)
