use Rattle.cast_box.proofs.opening.Opening.new.Given as goal

abbrev pub ghosts-set_limits : goal.ghosts-set_limits
ghosts-set_limits g a = record { size = a.size; putters = a.putters }
