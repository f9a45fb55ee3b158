use Rattle.cast_script.proofs.plain.script.Goals as goal

pub returns : goal.returns
returns c = λ found like. rw (c.new.ensures, c.new-2.ensures) (c.in_ok-config.ensures found c.args.parts.events like)
