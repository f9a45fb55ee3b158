-- What a node's fields keep, and how what it keeps is told apart.
--     slots_of links   the slots taken, by peer, without their room
--     Owes             what is owed to peers has a sender and a number within the limits
--     with_proposal    the instances of proposals, with that of an item; without_proposal: without it
--     IsNode           the lists have a place for each node, and what is cached about the stream is right
use Rattle.std.specs.Prelude.{◌≡◌, ℕ, ◌+◌, ◌≤◌, ◌<◌, Bool, false, List, length, map, refl}
use Rattle.std.specs.List.{list_any}
use Rattle.std.specs.Ordering.{nat_cmp}
use Rattle.std.specs.FinSet as set
use Rattle.std.specs.Coded.{Coded, code_by, coded×, coded_ℕ, coded_list, coded_bool}
use Rattle.cast_message.specs.declared.config.Config.{Config}
use Rattle.cast_message.specs.declared.message.Item.{Item}
use Rattle.cast_message.specs.declared.message.Item.TheVariants.{Propose}
use Rattle.cast_message.specs.declared.message.Message.{Message}
use Rattle.cast_message.specs.Items.{is_close, proposes_in}
use Rattle.cast_link.specs.Links.{Link, link_code}
use Rattle.cast_link.specs.Taken.{Inward}
use Rattle.cast_fifo.specs.declared.waiting.Waiting.{Waiting}
use Rattle.cast_node.specs.Giving.{OwesOnly}
use Rattle.cast_node.specs.Kept.{Kept}
use Rattle.cast_node.specs.Delivering.{Delivering}
use Rattle.cast_node.specs.Code.{delivering_code}

abbrev pub slots_of : List Inward → List (set.FinSet nat_cmp)
slots_of links = map (λ l. l.slots) links

-- a message within the limits
abbrev pub IsWithin : ℕ → ℕ → Message → Type 0
IsWithin nodes limit message = (message.sender < nodes) × (message.number < limit)

abbrev pub Owes : ℕ → ℕ → List (Link Message) → Type 0
Owes nodes limit links = OwesOnly (IsWithin nodes limit) links

abbrev pub with_proposal : set.FinSet nat_cmp → Item → set.FinSet nat_cmp
with_proposal proposed (Propose instance value) = set.insert proposed instance
with_proposal proposed _ = proposed

abbrev pub without_proposal : set.FinSet nat_cmp → Item → set.FinSet nat_cmp
without_proposal proposed (Propose instance value) = set.remove proposed instance
without_proposal proposed _ = proposed

pub record IsNode (config : Config) (me : ℕ) (stream : List Item) (closed : Bool)
    (proposed : set.FinSet nat_cmp) (outgoing : List (Link Message))
    (incoming : List (set.FinSet nat_cmp)) (deliveries : Delivering) : Type 0 where
  pub place : me < config.nodes
  pub room : closed ≡ false → length stream + 1 ≤ config.item_limit
  pub closes : closed ≡ list_any is_close stream
  pub proposals : (j : ℕ) → set.contains proposed j ≡ list_any (proposes_in j) stream
  pub peers_out : length outgoing ≡ config.nodes
  pub peers_in : length incoming ≡ config.nodes
  pub senders : length deliveries.hold_back ≡ config.nodes
  pub rows : length deliveries.knowers ≡ config.nodes
  pub owes : Owes config.nodes config.item_limit outgoing

abbrev pub kept_code : Coded Config → Coded Item → Coded Message → Coded Waiting → Coded Kept
kept_code config item message waiting =
    code_by
    (Config × (ℕ × (Bool × (ℕ × (List Item × (List (Link Message)
    × (List (set.FinSet nat_cmp) × Delivering)))))))
    (coded× config (coded× coded_ℕ (coded× coded_bool (coded× coded_ℕ (coded× (coded_list item)
    (coded× (coded_list (link_code message)) (coded× (coded_list (set.code coded_ℕ))
    (delivering_code item waiting))))))))
    (λ k. (k.config, (k.me, (k.live, (k.frames, (k.stream, (k.outgoing, (k.incoming, k.deliveries))))))))
    (λ p. record {
      config = p.0;
      me = p.1.0;
      live = p.1.1.0;
      frames = p.1.1.1.0;
      stream = p.1.1.1.1.0;
      outgoing = p.1.1.1.1.1.0;
      incoming = p.1.1.1.1.1.1.0;
      deliveries = p.1.1.1.1.1.1.1;
    })
    (λ _. refl)
