-- One more event at the end of a run.
use Rattle.std.proofs.Common.{◌≡◌, refl, ap, List, [], ◌∷◌, ◌++◌}
use Rattle.cast_message.specs.declared.config.Config.{Config}
use Rattle.cast_message.specs.declared.event.Event.{Event}
use Rattle.cast_model.specs.History.{History}
use Rattle.cast_model.specs.Replies.{reply, after, history_from, replies_from}

pub history_from-push : (config : Config) (past : History) (events : List Event) (event : Event) → history_from config past (events ++ event ∷ []) ≡ after config (history_from config past events) event
unfolding history_from
history_from-push config past [] event = refl
history_from-push config past (e ∷ events) event = history_from-push config (after config past e) events event

pub replies_from-push : (config : Config) (past : History) (events : List Event) (event : Event) → replies_from config past (events ++ event ∷ []) ≡ replies_from config past events ++ reply config (history_from config past events) event ∷ []
unfolding history_from replies_from
replies_from-push config past [] event = refl
replies_from-push config past (e ∷ events) event = ap (λ rest. reply config past e ∷ rest) (replies_from-push config (after config past e) events event)
