-- What a node keeps, as callers see it.
--     Kept                           the node's own number, items and frames, its links, and what it keeps about pairs
--     link_to kept q                 what it gave q
--     taken_from kept r              the slots that it took from r
--     knowers_of kept s i            the nodes that it knows to hold the pair, none if it doesn't hold it itself
--     holds kept s i                 it holds the pair: the pair waits, or had its turn
--     nothing_kept config me         what a node keeps that has done nothing
use Rattle.std.specs.Prelude.{ℕ, Bool, true, List, [], replicate, slice_index_or}
use Rattle.std.specs.Ordering.{nat_cmp}
use Rattle.std.specs.FinSet as set
use Rattle.std.specs.FinMap as map
use Rattle.cast_message.specs.declared.config.Config.{Config}
use Rattle.cast_message.specs.declared.message.Item.{Item}
use Rattle.cast_message.specs.declared.message.Message.{Message}
use Rattle.cast_link.specs.Links.{Link}
use Rattle.cast_fifo.specs.HeldBack.{held_of, came}
use Rattle.cast_node.specs.Delivering.{Delivering, nothing_delivered, knowers_in}

pub record Kept : Type 0 where
  pub config : Config
  pub me : ℕ
  pub live : Bool
  pub frames : ℕ  -- how many it made
  pub stream : List Item  -- the items that it ordered
  pub outgoing : List (Link Message)  -- by peer
  pub incoming : List (set.FinSet nat_cmp)  -- by peer
  pub deliveries : Delivering

abbrev pub link_to : Kept → ℕ → Link Message
link_to kept q = slice_index_or kept.outgoing q (record { given = 0; owed = map.empty })

abbrev pub taken_from : Kept → ℕ → set.FinSet nat_cmp
taken_from kept r = slice_index_or kept.incoming r set.empty

abbrev pub knowers_of : Kept → ℕ → ℕ → set.FinSet nat_cmp
knowers_of kept s i = knowers_in kept.deliveries.knowers s i

abbrev pub holds : Kept → ℕ → ℕ → Bool
holds kept s i = came (held_of kept.deliveries.hold_back s) i

abbrev pub nothing_kept : Config → ℕ → Kept
nothing_kept config me = record {
  config = config;
  me = me;
  live = true;
  frames = 0;
  stream = [];
  outgoing = replicate config.nodes (record { given = 0; owed = map.empty });
  incoming = replicate config.nodes set.empty;
  deliveries = nothing_delivered config;
}
