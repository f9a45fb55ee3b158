use Rattle.std.proofs.Common.{rules, ◌∙◌, ◌∷◌, ap, option_map}
use Rattle.cast_record.specs.Parts.{parts_of}
use Rattle.cast_record.proofs.MigrationLemmas.{migrates_so, same_verdict, no_feed, other_head, long_enough}
use Rattle.cast_record.proofs.migration.migrate.Goals as goal

pub returns-clause-exact : goal.returns-clause-exact
returns-clause-exact c =
    let cut = c.split_part.ensures ∙ ap (λ rest. c.split_part.result.0.now ∷ parts_of 10 (option_map (λ r. r.now) rest)) c.in-Some.is in
    migrates_so _ c.args.text.now c.split_part.result.0.now c.in-Some.rest.now c.with_new_head.result c.map_err.result cut (c.is_head.ensures.yes c.if-not-is_head.false) (λ e fault p. search rules) c.with_new_head.ensures c.map_err.ensures.cases

pub returns-clause-law : goal.returns-clause-law
returns-clause-law c = same_verdict c.args.text.now c.map_err.result (returns-clause-exact c)

pub with_new_head-requires : goal.with_new_head-requires
with_new_head-requires c = long_enough c.split_part.result.0.now (c.is_head.ensures.yes c.if-not-is_head.false)

pub returns-then-not-is_head-clause-exact : goal.returns-then-not-is_head-clause-exact
returns-then-not-is_head-clause-exact c =
    let cut = c.split_part.ensures ∙ ap (λ rest. c.split_part.result.0.now ∷ parts_of 10 (option_map (λ r. r.now) rest)) c.in-Some.is in
    other_head c.args.text.now c.split_part.result.0.now (parts_of 10 (option_map (λ r. r.now) c.split_part.result.1)) c.split_part.ensures (c.is_head.ensures.no c.if-not-is_head.true)

pub returns-in_default-clause-exact : goal.returns-in_default-clause-exact
returns-in_default-clause-exact c =
    let cut = c.split_part.ensures ∙ ap (λ rest. c.split_part.result.0.now ∷ parts_of 10 (option_map (λ r. r.now) rest)) c.in_default.is in
    no_feed c.args.text.now c.split_part.result.0.now cut
