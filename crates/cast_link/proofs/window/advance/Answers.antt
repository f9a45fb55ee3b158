use Rattle.std.proofs.Common.{ℕ, List, ap, ◌∙◌, arith}
use Rattle.cast_link.specs.Taken.{is_marked}
use Rattle.cast_link.proofs.Slots.{Moves, moved_window, moved_set}
use Rattle.cast_link.proofs.window.advance.Goals as goal
use Rattle.cast_link.proofs.window.advance.Goals.{After-gather}

moves : (c : After-gather) → Moves c.args.base.now c.args.words.now.items c.args.far.now.keys c.first_free-next.result c.gather.new.words.items c.gather.new.far.keys
moves c =
    let next = c.first_free-next.result in
    record {
      later = c.first_free-next.ensures.least;
      taken = c.first_free-next.ensures.taken;
      free = c.first_free-next.ensures.free;
      same = λ slot l. c.gather.ensures.same slot l ∙ ap (λ (ws : List ℕ). is_marked next ws c.args.far.now.keys slot) c.drop_front.ensures.words;
      short = c.gather.ensures.short;
      beyond = c.gather.ensures.beyond;
    }

pub returns-clause-after : goal.returns-clause-after
returns-clause-after c = moved_set _ _ _ _ _ _ (moves (goal.at.returns-clause-after c).After-gather) (omega (arith, c.requires.more))

pub returns-clause-window : goal.returns-clause-window
returns-clause-window c = moved_window _ _ _ _ _ _ (moves (goal.at.returns-clause-window c).After-gather)
