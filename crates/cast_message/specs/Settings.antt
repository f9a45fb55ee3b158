-- A configuration by the names of its values.
--     IsConfigOf settings config    it has these values
--     causes_of settings            why these values are refused, in the order of trying
use Rattle.std.specs.Prelude.{◌≡◌, List}
use Rattle.cast_message.specs.Limits.{ConfigCause, config_causes}
use Rattle.cast_message.specs.declared.config.Config.{Config}
use Rattle.cast_message.specs.declared.settings.Settings.{Settings}

abbrev pub IsConfigOf : Settings → Config → Type 0
IsConfigOf settings config =
    (config.nodes ≡ settings.nodes) × (config.faults ≡ settings.faults)
    × (config.choices ≡ settings.choices) × (config.item_limit ≡ settings.item_limit)
    × (config.log_limit ≡ settings.log_limit) × (config.box_size ≡ settings.box_size)
    × (config.first_stamp ≡ settings.first_stamp) × (config.mode ≡ settings.mode)

abbrev pub causes_of : Settings → List ConfigCause
causes_of s =
    config_causes s.nodes s.faults s.choices s.item_limit s.log_limit s.box_size s.mode
