-- The plain case of a script, by its tokens: an object of words, numbers, empty lists and one list of events, each an
-- array of words and numbers.
--     IsCell old d rest            the first token is the word or the number d, and these are the others
--     AreCells old ds rest         the first tokens are these, up to the end of their array
--     GivesCells said old result rest   if there is an answer, the first tokens are cells that say it
--     IsEvent old event rest       the first tokens are an array that is this event
--     AreEvents old events rest    the first tokens are these events, up to the end of their array
--     IsValueOf old d rest         the first tokens are those of the value d
--     IsLike found shown events    the members say what `shown` says, except that these are the events
--     SaysMembers old d events rest     the first tokens are those of members that are like d in this way
--     SaysPlain shown settings     members that are like it say these settings, and nothing else but the events
use Rattle.std.specs.Prelude.{◌≡◌, ℕ, ◌≤◌, List, [], ◌∷◌, ◌++◌, codes, false, Option, Some, Result, Ok, IfOk}
use Rattle.std.specs.Str.{bytes_eq}
use Rattle.json.specs.Token.{Token}
use Rattle.json.specs.Json as json
use Rattle.json.specs.Tree.{json_tokens, members_tokens, depth, members_depth}
use Rattle.serde_json.specs.Data.{Data, null, boolean, number, string, array, object, Members, no_members}
use Rattle.serde_json.specs.Find.{get}
use Rattle.serde_json.specs.Read as value
use Rattle.cast_script.specs.declared.element.Unread.{Unread}
use Rattle.cast_script.specs.declared.script.ScriptEvent.{ScriptEvent}
use Rattle.cast_script.specs.Element.{event_at, event_of}
use Rattle.cast_script.specs.Faults.{elements_from}
use Rattle.cast_script.specs.declared.script.RunSettings.{RunSettings}
use Rattle.cast_script.specs.Members.{has_known_members, list_of}
use Rattle.cast_script.specs.Script.{script_of}

abbrev pub IsCell : List Token → Data → List Token → Type 0
IsCell old null rest = ⊥
IsCell old (boolean b) rest = ⊥
IsCell old (number n) rest =
    (s : List ℕ) × (old ≡ Token.number s ∷ rest) × (value.number_of s ≡ Some n)
IsCell old (string s) rest = old ≡ Token.string s ∷ rest
IsCell old (array ds) rest = ⊥
IsCell old (object ms) rest = ⊥

abbrev pub AreCells : List Token → List Data → List Token → Type 0
AreCells old [] rest = old ≡ Token.end_array ∷ rest
AreCells old (d ∷ ds) rest = (next : List Token) × IsCell old d next × AreCells next ds rest

-- if there is an answer, the first tokens are cells that say it, up to the end of their array
abbrev pub GivesCells : {A : Type 0} → (List Data → Option A) → List Token → Result A Unread
    → List Token → Type 0
GivesCells said old result rest =
    IfOk result (λ x. (ds : List Data) × AreCells old ds rest × (said ds ≡ Some x))

abbrev pub IsEvent : List Token → ScriptEvent → List Token → Type 0
IsEvent old event rest =
    (next : List Token) × (ds : List Data) × (old ≡ Token.begin_array ∷ next)
    × AreCells next ds rest × (event_at ds ≡ Some event)

abbrev pub AreEvents : List Token → List ScriptEvent → List Token → Type 0
AreEvents old [] rest = old ≡ Token.end_array ∷ rest
AreEvents old (event ∷ events) rest =
    (next : List Token) × IsEvent old event next × AreEvents next events rest

abbrev pub IsValueOf : List Token → Data → List Token → Type 0
IsValueOf old d rest =
    (j : json.Json) × (old ≡ json_tokens j ++ rest) × (depth j ≤ 2) × (value.of_json j ≡ Some d)

pub record IsLike (found : Members) (shown : Data) (events : List ScriptEvent) : Type 0 where
  pub same : (name : List ℕ) → bytes_eq name (codes "events") ≡ false →
      get name (object found) ≡ get name shown
  pub known : has_known_members (object found) ≡ has_known_members shown
  pub values : List Data
  pub list : list_of (codes "events") (object found) ≡ Some values
  pub says : elements_from event_of 1 values ≡ Ok events

abbrev pub SaysMembers : List Token → Data → List ScriptEvent → List Token → Type 0
SaysMembers old shown events rest =
    (ms : json.Members) × (found : Members) × (old ≡ members_tokens ms ++ rest)
    × (members_depth ms ≤ 2) × (value.of_members ms no_members ≡ Some found)
    × IsLike found shown events

abbrev pub SaysPlain : Data → RunSettings → Type 0
SaysPlain shown settings =
    (found : Members) (events : List ScriptEvent) → IsLike found shown events
    → script_of (object found)
    ≡ Ok (record { settings = settings; events = events; plan = []; jobs = [] })
