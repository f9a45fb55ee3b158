-- What a node gives its peers: each message once, and a link to each peer, whose slots keep the places of messages.
--     Outbound                   the messages, room for how many more, and the links by peer
--     outbound_code              how they are told apart
--     kept_message messages place      the message at a place
--     owed_through messages owed       what is owed, if each slot keeps the place of its message
--     link_through messages link       the same for a link
--     links_of out               the links as their peers see them, with messages
--     HasRoomFor out             there is room for one more message, at each link too
--     OwesBelow n links          each owed slot keeps a place below n
--     IsOutgoing n links owed    at most 64 links, with places below n; exactly these peers are owed a slot
use Rattle.std.specs.Prelude.{ℕ, ◌^◌, ◌<◌, ◌≤◌, List, length, map, slice_index_or, refl}
use Rattle.std.specs.List.{All}
use Rattle.std.specs.Ordering.{nat_cmp}
use Rattle.std.specs.FinMap as finite
use Rattle.std.specs.FinSet as set
use Rattle.std.specs.Coded.{Coded, code_by, coded×, coded_ℕ, coded_list}
use Rattle.cast_message.specs.declared.message.Item.TheVariants.{Close}
use Rattle.cast_message.specs.declared.message.Message.{Message}
use Rattle.cast_link.specs.Links.{Link, Outward, outward_code}
use Rattle.cast_node.specs.Giving.{OwesOnly, AreOwed, HasRoom, bare}

pub record Outbound : Type 0 where
  pub messages : List Message
  pub spare : ℕ
  pub links : List (Outward ℕ)  -- by peer

abbrev pub outbound_code : Coded Message → Coded Outbound
outbound_code message =
    code_by (List Message × (ℕ × List (Outward ℕ)))
    (coded× (coded_list message) (coded× coded_ℕ (coded_list (outward_code coded_ℕ))))
    (λ out. (out.messages, (out.spare, out.links)))
    (λ p. record { messages = p.0; spare = p.1.0; links = p.1.1 }) (λ _. refl)

-- a default if there is no message there, but no slot keeps such a place
abbrev pub kept_message : List Message → ℕ → Message
kept_message messages place =
    slice_index_or messages place (record { sender = 0; number = 0; item = Close })

unfoldable pub owed_through : List Message → finite.FinMap nat_cmp ℕ → finite.FinMap nat_cmp Message
owed_through messages owed =
    finite.from_sorted (map (λ e. (e.0, kept_message messages e.1)) (finite.entries owed))

abbrev pub link_through : List Message → Link ℕ → Link Message
link_through messages link =
    record { given = link.given; owed = owed_through messages link.owed }

abbrev pub links_of : Outbound → List (Link Message)
links_of out = map (link_through out.messages) (bare out.links)

abbrev pub HasRoomFor : Outbound → Type 0
HasRoomFor out = (length out.messages < 2 ^ 32) × (0 < out.spare) × All HasRoom out.links

abbrev pub OwesBelow : ℕ → List (Link ℕ) → Type 0
OwesBelow n links = OwesOnly (λ place. place < n) links

pub record IsOutgoing (n : ℕ) (links : List (Link ℕ)) (owed : set.FinSet nat_cmp) : Type 0 where
  pub below : OwesBelow n links
  pub peers : length links ≤ 64
  pub owes : AreOwed links owed
