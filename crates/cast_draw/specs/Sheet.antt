-- What a picture shows of a run so far, and what is kept for what it shows later.
--     blank config window     nothing has happened
--     sheet_of picture        what a picture keeps
use Rattle.std.specs.Prelude.{ℕ, Bool, ◌&&◌, nat_le, List, [], map, replicate, Option, None}
use Rattle.std.specs.List.{range_with_len}
use Rattle.cast_message.specs.declared.config.Config.{Config}
use Rattle.cast_draw.specs.declared.window.Window.{Window}
use Rattle.cast_draw.specs.declared.frames.MadeFrame.{MadeFrame}
use Rattle.cast_draw.specs.declared.mark.Mark.{Mark}
use Rattle.cast_draw.specs.declared.mark.Ground.{Ground}
use Rattle.cast_draw.specs.declared.picture.Picture.{Picture}
use Rattle.cast_draw.specs.Gifts.{Gifts, nothing_given}

pub record Sheet : Type 0 where
  pub config : Config
  pub window : Window
  pub columns : ℕ  -- how many there are
  pub settle : ℕ  -- how many there were when the last settle began
  pub grounds : List Ground
  pub marks : List Mark
  pub gifts : List Gifts  -- by node
  pub made : List (List MadeFrame)  -- by node, the frames that it made, in order
  pub crashes : List (Option ℕ)  -- by node, the column at which it crashed

abbrev pub shows : Window → ℕ → Bool
shows window index = nat_le window.from index && nat_le index window.to

abbrev pub blank : Config → Window → Sheet
blank config window = record {
  config = config;
  window = window;
  columns = 0;
  settle = 0;
  grounds = [];
  marks = [];
  gifts = map (nothing_given config.nodes) (range_with_len 0 config.nodes);
  made = replicate config.nodes [];
  crashes = replicate config.nodes None;
}

abbrev pub sheet_of : Picture → Sheet
sheet_of picture = record {
  config = picture.config;
  window = picture.window;
  columns = picture.layout;
  settle = picture.settle;
  grounds = picture.grounds;
  marks = picture.marks;
  gifts = picture.links.items;
  made = picture.made.items;
  crashes = picture.crashes.items;
}
