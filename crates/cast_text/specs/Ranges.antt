-- The ranges of a script's numbers and bytes, which its types guarantee.
use Rattle.std.specs.Prelude.{◌^◌, ◌<◌, List}
use Rattle.std.specs.List.{All}
use Rattle.cast_message.specs.declared.event.Event.{Event}
use Rattle.cast_message.specs.declared.event.Event.TheVariants.{Order}
use Rattle.cast_message.specs.declared.message.Item.{Item}
use Rattle.cast_message.specs.declared.message.Item.TheVariants.{Data, Propose, Close}
use Rattle.cast_record.specs.Hex.{AreBytes}
use Rattle.cast_script.specs.declared.script.ScriptEvent.{ScriptEvent}
use Rattle.cast_script.specs.declared.script.ScriptEvent.TheVariants.{Core, Settle}

abbrev pub HasItemRange : Item → Type 0
HasItemRange (Data payload) = AreBytes payload
HasItemRange (Propose instance value) = (instance < 2 ^ 64) × (value < 2 ^ 64)
HasItemRange Close = Unit {0}

abbrev pub HasEventRange : Event → Type 0
HasEventRange (Order node item) = HasItemRange item
HasEventRange _ = Unit {0}

abbrev pub HasScriptRange : ScriptEvent → Type 0
HasScriptRange (Core event) = HasEventRange event
HasScriptRange Settle = Unit {0}

abbrev pub HaveScriptRanges : List ScriptEvent → Type 0
HaveScriptRanges events = All HasScriptRange events
