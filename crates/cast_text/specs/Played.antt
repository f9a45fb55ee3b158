-- What is taken as a script is played, in order: its events, and those of its settles.
--     tried config index past events    the result of these events, up to the first that is refused
--     settled config index past         the result of a settle: two rounds, the second planned after the first
--     played script                     everything that is taken
use Rattle.std.specs.Prelude.{◌≡◌, ℕ, ◌+◌, Bool, true, false, not, is_some, is_ok, ◌⊎◌, if◌then◌else◌, List, [], ◌∷◌, ◌++◌, Option, Some, None, Result, Ok, Err}
use Rattle.cast_message.specs.declared.config.Config.{Config}
use Rattle.cast_message.specs.declared.event.Event.{Event}
use Rattle.cast_message.specs.declared.event.Answer.{Answer}
use Rattle.cast_message.specs.declared.event.StepFault.{StepFault}
use Rattle.cast_model.specs.History.{History}
use Rattle.cast_model.specs.Replies.{is_want_of_memory, fault, reply, after}
use Rattle.cast_model.specs.Rounds.{Due, plan}
use Rattle.cast_script.specs.declared.script.Script.{Script}
use Rattle.cast_script.specs.declared.script.ScriptEvent.{ScriptEvent}
use Rattle.cast_script.specs.declared.script.ScriptEvent.TheVariants.{Core, Settle}
use Rattle.cast_text.specs.declared.fault.TextFault.{TextFault}
use Rattle.cast_text.specs.declared.fault.TextFault.TheVariants.{Memory}
use Rattle.cast_world.specs.Group.{State, Stands}
use Rattle.cast_world.specs.Moves.{IsSilent}
use Rattle.cast_world.specs.Settled.{SettlesFront}

-- an event with its place in the script and the reply to it, or where a settle begins and ends
pub data Played : Type 0 where
  Taken : (index : ℕ) (event : Event) (reply : Result Answer StepFault) → Played
  SettleBegun : Played
  SettleEnded : (index : ℕ) → Played

-- The result of some events: what was taken, what has happened after them, and whether one of them was refused.
pub record Left : Type 0 where
  pub took : List Played
  pub past : History
  pub stopped : Bool

-- a refused event is the last
abbrev pub tried_by : Option StepFault → Played → History → Left → Left
tried_by None one past rest = record { took = one ∷ rest.took; past = rest.past; stopped = rest.stopped }
tried_by (Some refusal) one past rest = record { took = one ∷ []; past = past; stopped = true }

unfoldable pub tried : Config → ℕ → History → List Event → Left
tried config index past [] = record { took = []; past = past; stopped = false }
tried config index past (event ∷ events) =
    tried_by (fault config past event) (Taken index event (reply config past event)) past
    (tried config index (event ∷ past) events)

-- the result of one event
abbrev pub one_left : Config → ℕ → History → Event → Left
one_left config index past event =
    record {
      took = Taken index event (reply config past event) ∷ [];
      past = after config past event;
      stopped = is_some (fault config past event);
    }

-- the result of one round
abbrev pub round_left : Config → ℕ → History → Left
round_left config index past = tried config index past (plan config past)

-- one after the other
abbrev pub joined : Left → Left → Left
joined first rest = record { took = first.took ++ rest.took; past = rest.past; stopped = rest.stopped }

-- a second round, unless the first was refused
abbrev pub settled : Config → ℕ → History → Left
settled config index past =
    if (round_left config index past).stopped
    then round_left config index past
    else joined (round_left config index past) (round_left config index (round_left config index past).past)

-- the result of the script's event with this index
abbrev pub left_by : Config → ℕ → History → ScriptEvent → Left
left_by config index past (Core event) = one_left config index past event
left_by config index past Settle =
    record {
      took = SettleBegun ∷ ((settled config index past).took ++ SettleEnded index ∷ []);
      past = (settled config index past).past;
      stopped = false;
    }

unfoldable pub played_from : Config → ℕ → History → List ScriptEvent → List Played
played_from config index past [] = []
played_from config index past (event ∷ events) =
    (left_by config index past event).took
    ++ played_from config (index + 1) (left_by config index past event).past events

abbrev pub played : Script → List Played
played script = played_from script.config 0 [] script.events

-- how these were shown to an observer: its states before and after, and whether it failed
abbrev pub Seeing : Type 0 → Type 1
Seeing O = O → O → Result (Unit {0}) TextFault → List Played → Type 0

-- What an observer sees is appended to what it saw; after a failure it sees nothing. Memory may run out at any time.
pub record Observes {O : Type 0} (saw : Seeing O) (ready : O → Type 0) : Type 0 where
  pub none : (o : O) → ready o → saw o o (Ok tt) []
  pub more : (o p q : O) (result : Result (Unit {0}) TextFault) (first rest : List Played)
      → saw o p (Ok tt) first → saw p q result rest → saw o q result (first ++ rest)
  pub broken : (o p : O) (why : TextFault) (first rest : List Played) → saw o p (Err why) first
      → saw o p (Err why) (first ++ rest)
  pub wants : (o : O) (whole : List Played) → ready o → saw o o (Err Memory) whole

-- it ignores an accepted silent event: a send, an acknowledgement, or an arrival that delivers and decides nothing
abbrev pub Overlooks : {O : Type 0} → Seeing O → (O → Type 0) → O → Type 0
Overlooks saw ready o =
    (index : ℕ) (event : Event) (answer : Answer) → ready o → IsSilent (Ok answer)
    → saw o o (Ok tt) (Taken index event (Ok answer) ∷ [])

-- nothing was done; or an observer overlooks such events, and by them the first of some due slots were settled
abbrev pub Skips : {O : Type 0} → Seeing O → (O → Type 0) → O → State → List Due → List Due → State → Type 0
Skips saw ready o world old new after =
    ((old ≡ new) × (after ≡ world)) ⊎ (Overlooks saw ready o × SettlesFront world old new after)

-- Some events were taken, up to the first that is refused, and an observer saw them. It is known whether all were
-- accepted, and their result.
abbrev pub Plays : {O : Type 0} → Seeing O → Config → Left → State → O → O → Result Bool TextFault → Type 0
Plays saw config left world old new (Ok all) =
    (all ≡ not left.stopped) × Stands config left.past world × saw old new (Ok tt) left.took
Plays saw config left world old new (Err fault) = saw old new (Err fault) left.took

-- the same for the result of a script's event
abbrev pub PlaysAll : {O : Type 0} → Seeing O → Config → Left → State → O → O
    → Result (Unit {0}) TextFault → Type 0
PlaysAll saw config left world old new (Ok done) = Stands config left.past world × saw old new (Ok tt) left.took
PlaysAll saw config left world old new (Err fault) = saw old new (Err fault) left.took

-- An event was taken with this reply, and an observer saw it, unless memory ran out. It is known whether it was
-- accepted.
abbrev pub ShowsReply : {O : Type 0} → Seeing O → ℕ → Event → Result Answer StepFault → O → O
    → Result Bool TextFault → Type 0
ShowsReply saw index event reply old new (Ok accepted) =
    (is_want_of_memory reply ≡ false) × (accepted ≡ is_ok reply)
    × saw old new (Ok tt) (Taken index event reply ∷ [])
ShowsReply saw index event reply old new (Err fault) =
    ((is_want_of_memory reply ≡ false) × saw old new (Err fault) (Taken index event reply ∷ []))
    ⊎ ((is_want_of_memory reply ≡ true) × ((whole : List Played) → saw old new (Err fault) whole))
