-- The text of a replay is read as the replay.
use Rattle.std.proofs.Common.{◌≡◌, ℕ, ◌+◌, ◌*◌, ◌/◌, ◌%◌, ◌<◌, ◌≤◌, ◌^◌, List, [], ◌∷◌, ◌++◌, true, false, nat_lt, map, codes, decimal, Option, Some, Ok, Err, option_map, option_and_then, append-nil, ap, refl, sym, ◌∙◌, arith, IsUtf8, subst}
use Rattle.std.specs.List.{AllByRecursion, join_with_byte}
use Rattle.std.proofs.lemmas.Bool.Decides.{nat_tests}
use Rattle.std.proofs.lemmas.Str.{IsUtf8-append, IsUtf8-nil, IsUtf8-from_ascii}
use Rattle.std.proofs.lemmas.Fmt.{IsAscii-decimal}
use Rattle.std.proofs.lemmas.Bool.{lt-leb}
use Rattle.json.specs.Json as json
use Rattle.json.specs.Token.{Token}
use Rattle.json.specs.Tree as tree
use Rattle.json.proofs.Printed.Trees.{value-json_tokens}
use Rattle.json.proofs.Printed.Utf8.{are_ascii, IsUtf8-are_ascii}
use Rattle.serde_json.specs.Data as value
use Rattle.serde_json.specs.Data.{Data, Items, Members, unsigned, put}
use Rattle.serde_json.specs.Read.{read, max_depth, of_json, of_items, of_members}
use Rattle.serde_json.proofs.Numbers.{number_of-decimal}
use Rattle.cast_message.specs.Limits.{fault_factor, config_causes, first_config_fault, is_outside}
use Rattle.cast_message.specs.declared.config.Config.{Config as Checked}
use Rattle.cast_message.specs.declared.config.Mode.{Mode}
use Rattle.cast_message.specs.declared.config.Mode.TheVariants.{Basic, Uniform}
use Rattle.cast_message.specs.declared.event.Event.{Event}
use Rattle.cast_message.specs.declared.event.Event.TheVariants.{Order, Send, Ack, Arrive, Crash}
use Rattle.cast_message.specs.declared.message.Item.TheVariants.{Data as Bytes, Propose, Close}
use Rattle.cast_record.specs.Hex.{hex, hex_digit}
use Rattle.cast_record.specs.Hex.{AreBytes}
use Rattle.cast_record.specs.Modes.{mode_word, mode_named}
use Rattle.cast_script.specs.declared.script.ScriptEvent.TheVariants.{Core}
use Rattle.cast_script.specs.declared.script.ScriptFault.TheVariants.{NotJson, Shape, Config, Memory}
use Rattle.cast_record.proofs.UnhexLemmas.{unhex_again}
use Rattle.cast_script.specs.Places.{places}
use Rattle.cast_script.specs.Faults.{elements_from}
use Rattle.cast_script.specs.Element.{event_of}
use Rattle.cast_script.specs.Members.{group_of, settings_of}
use Rattle.cast_script.specs.Script.{settings_in, checked, script_in, script_of, said}
use Rattle.cast_script.specs.Replay.{Atom, word, number, digits, word_text, atom_text, event_atoms, event_text, others_text, events_text, members, member_text, members_text, script_text, replay, SaysReplay, IsReplayIn}
use Rattle.cast_script.specs.ReplayRanges.{IsAtomWithin, AreAtomsWithin, AreMembersWithin, IsEventWithin}
use Rattle.cast_script.proofs.ReplayWriting.{cells_text, join-cells}
use Rattle.cast_script.proofs.ReplayTokens.{IsPlainAtom, ArePlain, ArePlainMembers, event_plain, members_plain, atom_json, atoms_json, events_json, members_json, list_json, script_json, text_tokens}

-- ---- the value that the JSON is

abbrev atom_data : Atom → Data
atom_data (word s) = value.string s
atom_data (number n) = value.number (unsigned n)
atom_data (digits bytes) = value.string (hex bytes)

abbrev atoms_data : List Atom → Items
atoms_data [] = value.no_items
atoms_data (a ∷ more) = value.item (atom_data a) (atoms_data more)

abbrev events_data : List Event → Items
events_data [] = value.no_items
events_data (e ∷ es) = value.item (value.array (atoms_data (event_atoms e))) (events_data es)

abbrev put_all : List (List ℕ × Atom) → Members → Members
put_all [] found = found
put_all (m ∷ ms) found = put_all ms (put m.0 (atom_data m.1) found)

abbrev script_data : Checked → List Event → Data
script_data config events = value.object (put (codes "events") (value.array (events_data events)) (put_all (members config) value.no_members))

atom_value : (a : Atom) → IsAtomWithin a → of_json (atom_json a) ≡ Some (atom_data a)
atom_value (word s) within = refl
atom_value (number n) within = ap (option_map value.number) (number_of-decimal n within)
atom_value (digits bytes) within = refl

atoms_value : (list : List Atom) → AreAtomsWithin list → of_items (atoms_json list) ≡ Some (atoms_data list)
atoms_value [] within = refl
atoms_value (a ∷ more) within = rw (atom_value a within.0, atoms_value more within.1) refl

events_value : (es : List Event) → AllByRecursion IsEventWithin es → of_items (events_json es) ≡ Some (events_data es)
events_value [] within = refl
events_value (e ∷ es) within = rw (atoms_value (event_atoms e) within.0.atoms, events_value es within.1) refl

members_value : (ms : List (List ℕ × Atom)) (last : json.Members) (found : Members) → AreMembersWithin ms → of_members (members_json ms last) found ≡ of_members last (put_all ms found)
members_value [] last found within = refl
members_value (m ∷ ms) last found within =
    ap (option_and_then (λ d. of_members (members_json ms last) (put m.0 d found))) (atom_value m.1 within.0)
    ∙ members_value ms last (put m.0 (atom_data m.1) found) within.1

script_value : (config : Checked) (events : List Event) → AreMembersWithin (members config) → AllByRecursion IsEventWithin events → of_json (script_json config events) ≡ Some (script_data config events)
script_value config events small within =
    let found = put_all (members config) value.no_members in
    ap (option_map value.object)
    (members_value (members config) (list_json events) value.no_members small
    ∙ ap (λ o. option_and_then (λ d. Some (put (codes "events") d found)) (option_map value.array o)) (events_value events within))

-- ---- the nesting

atom_flat : (a : Atom) → tree.depth (atom_json a) ≡ 0
atom_flat (word s) = refl
atom_flat (number n) = refl
atom_flat (digits bytes) = refl

atoms_flat : (list : List Atom) → tree.items_depth (atoms_json list) ≡ 0
atoms_flat [] = refl
atoms_flat (a ∷ more) = omega (arith, atom_flat a, atoms_flat more)

events_shallow : (es : List Event) → tree.items_depth (events_json es) ≤ 1
events_shallow [] = omega arith
events_shallow (e ∷ es) = omega (arith, atoms_flat (event_atoms e), events_shallow es)

members_shallow : (ms : List (List ℕ × Atom)) (last : json.Members) → tree.members_depth (members_json ms last) ≤ tree.members_depth last
members_shallow [] last = omega arith
members_shallow (m ∷ ms) last = omega (arith, atom_flat m.1, members_shallow ms last)

script_shallow : (config : Checked) (events : List Event) → tree.depth (script_json config events) ≤ max_depth
script_shallow config events = omega (arith, members_shallow (members config) (list_json events), events_shallow events)

abbrev read_tokens : List Token → Option Data
read_tokens ts = option_and_then of_json (option_and_then (λ p. json.if_last p.0 p.1) (json.value max_depth ts))

text_value : (config : Checked) (events : List Event) → AreMembersWithin (members config) → AllByRecursion IsEventWithin events → read (script_text config events) ≡ Some (script_data config events)
text_value config events small within =
    let j = script_json config events in
    ap read_tokens (text_tokens config events small within ∙ sym (append-nil (tree.json_tokens j)))
    ∙ ap (λ o. option_and_then of_json (option_and_then (λ p. json.if_last p.0 p.1) o)) (value-json_tokens j max_depth [] (script_shallow config events))
    ∙ script_value config events small within

-- ---- the bytes are characters

word_utf8 : (s : List ℕ) → IsUtf8 s → IsUtf8 (word_text s)
word_utf8 s u = IsUtf8-append (34 ∷ []) (s ++ 34 ∷ []) (IsUtf8-are_ascii (34 ∷ []) refl) (IsUtf8-append s (34 ∷ []) u (IsUtf8-are_ascii (34 ∷ []) refl))

digit_ascii : (n : ℕ) → n < 16 → nat_lt (hex_digit n) 128 ≡ true
digit_ascii n small = grind (arith, nat_tests)

hex_ascii : (bytes : List ℕ) → AreBytes bytes → are_ascii (hex bytes) ≡ true
hex_ascii [] small = refl
hex_ascii (b ∷ bytes) small = rw (digit_ascii (b / 16) (omega (arith, small.0)), digit_ascii (b % 16) (omega arith)) (hex_ascii bytes small.1)

atom_utf8 : (a : Atom) → IsPlainAtom a → IsAtomWithin a → IsUtf8 (atom_text a)
atom_utf8 (word s) plain within = word_utf8 s (IsUtf8-are_ascii s plain.1)
atom_utf8 (number n) plain within = IsUtf8-from_ascii (decimal n) (IsAscii-decimal n within)
atom_utf8 (digits bytes) plain within = word_utf8 (hex bytes) (IsUtf8-are_ascii (hex bytes) (hex_ascii bytes within))

cells_utf8 : (list : List Atom) → ArePlain list → AreAtomsWithin list → IsUtf8 (cells_text (map atom_text list))
cells_utf8 [] plain within = IsUtf8-nil
cells_utf8 (a ∷ more) plain within =
    IsUtf8-append (44 ∷ []) (atom_text a ++ cells_text (map atom_text more)) (IsUtf8-are_ascii (44 ∷ []) refl)
    (IsUtf8-append (atom_text a) (cells_text (map atom_text more)) (atom_utf8 a plain.0 within.0) (cells_utf8 more plain.1 within.1))

array_utf8 : (list : List Atom) → ArePlain list → AreAtomsWithin list → IsUtf8 (join_with_byte 44 (map atom_text list))
array_utf8 [] plain within = IsUtf8-nil
array_utf8 (a ∷ more) plain within =
    subst IsUtf8 (sym (join-cells (atom_text a) (map atom_text more)))
    (IsUtf8-append (atom_text a) (cells_text (map atom_text more)) (atom_utf8 a plain.0 within.0) (cells_utf8 more plain.1 within.1))

event_utf8 : (event : Event) → IsEventWithin event → IsUtf8 (event_text event)
event_utf8 event within =
    let inner = join_with_byte 44 (map atom_text (event_atoms event)) in
    IsUtf8-append (91 ∷ []) (inner ++ 93 ∷ []) (IsUtf8-are_ascii (91 ∷ []) refl)
    (IsUtf8-append inner (93 ∷ []) (array_utf8 (event_atoms event) (event_plain event) within.atoms) (IsUtf8-are_ascii (93 ∷ []) refl))

others_utf8 : (es : List Event) → AllByRecursion IsEventWithin es → IsUtf8 (others_text es)
others_utf8 [] within = IsUtf8-nil
others_utf8 (e ∷ es) within =
    IsUtf8-append (44 ∷ 10 ∷ []) (event_text e ++ others_text es) (IsUtf8-are_ascii (44 ∷ 10 ∷ []) refl)
    (IsUtf8-append (event_text e) (others_text es) (event_utf8 e within.0) (others_utf8 es within.1))

events_utf8 : (es : List Event) → AllByRecursion IsEventWithin es → IsUtf8 (events_text es)
events_utf8 [] within = IsUtf8-nil
events_utf8 (e ∷ es) within =
    IsUtf8-append (10 ∷ []) (event_text e ++ others_text es) (IsUtf8-are_ascii (10 ∷ []) refl)
    (IsUtf8-append (event_text e) (others_text es) (event_utf8 e within.0) (others_utf8 es within.1))

members_utf8 : (ms : List (List ℕ × Atom)) → ArePlainMembers ms → AreMembersWithin ms → IsUtf8 (members_text ms)
members_utf8 [] plain within = IsUtf8-nil
members_utf8 (m ∷ ms) plain within =
    IsUtf8-append (member_text m) (members_text ms)
    (IsUtf8-append (word_text m.0) (58 ∷ (atom_text m.1 ++ 44 ∷ [])) (word_utf8 m.0 (IsUtf8-are_ascii m.0 plain.0.1))
    (IsUtf8-append (58 ∷ []) (atom_text m.1 ++ 44 ∷ []) (IsUtf8-are_ascii (58 ∷ []) refl)
    (IsUtf8-append (atom_text m.1) (44 ∷ []) (atom_utf8 m.1 plain.1 within.0) (IsUtf8-are_ascii (44 ∷ []) refl))))
    (members_utf8 ms plain.2 within.1)

text_utf8 : (config : Checked) (events : List Event) → AreMembersWithin (members config) → AllByRecursion IsEventWithin events → IsUtf8 (script_text config events)
text_utf8 config events small within =
    let last = codes "\n]}" in
    let list = codes "\"events\":[" in
    IsUtf8-append (123 ∷ []) (members_text (members config) ++ (list ++ (events_text events ++ last))) (IsUtf8-are_ascii (123 ∷ []) refl)
    (IsUtf8-append (members_text (members config)) (list ++ (events_text events ++ last)) (members_utf8 (members config) (members_plain config) small)
    (IsUtf8-append list (events_text events ++ last) (IsUtf8-are_ascii list refl)
    (IsUtf8-append (events_text events) last (events_utf8 events within) (IsUtf8-are_ascii last refl))))

-- ---- the script that the value is

node_small : (p : ℕ) → p < 256 → nat_lt p 256 ≡ true
node_small p small = grind (arith, nat_tests)

event_again : (event : Event) → IsEventWithin event → event_of (value.array (atoms_data (event_atoms event))) ≡ Some (Core event)
event_again (Order node (Bytes payload)) within = rw (node_small node within.nodes, unhex_again payload within.atoms.1.1.1.0) refl
event_again (Order node (Propose instance value)) within = rw (node_small node within.nodes) refl
event_again (Order node Close) within = rw (node_small node within.nodes) refl
event_again (Send from to slot) within = rw (node_small from within.nodes.0, node_small to within.nodes.1) refl
event_again (Ack from to slot) within = rw (node_small from within.nodes.0, node_small to within.nodes.1) refl
event_again (Arrive from seq) within = rw (node_small from within.nodes) refl
event_again (Crash node) within = rw (node_small node within.nodes) refl

events_again : (es : List Event) (index : ℕ) → AllByRecursion IsEventWithin es → elements_from event_of index (places (events_data es)) ≡ Ok (map Core es)
events_again [] index within = refl
events_again (e ∷ es) index within = rw (event_again e within.0, events_again es (index + 1) within.1) refl

inside : (low high n : ℕ) → low ≤ n → n ≤ high → is_outside low high n ≡ false
inside low high n a b = grind (arith, nat_tests)

config_again : (c : Checked) → checked (settings_in c 4000000) ≡ Ok (settings_in c 4000000)
unfolding first_config_fault config_causes
config_again c =
    rw (
      inside 1 64 c.nodes c.some_node c.nodes_in_range,
      lt-leb c.nodes c.faults c.faults_in_range,
      inside 1 c.nodes c.choices c.some_choice c.choices_in_range,
      inside 1 4096 c.item_limit c.some_item c.items_in_range,
      inside 1 65536 c.log_limit c.some_entry c.log_in_range,
      inside 1 4096 c.box_size c.some_place c.box_in_range,
      lt-leb c.nodes (fault_factor c.mode * c.faults) c.mode_in_range,
    ) refl

mode_again : (mode : Mode) → mode_named (mode_word mode) ≡ Some mode
mode_again Basic = refl
mode_again Uniform = refl

settings_again : (config : Checked) (events : List Event) → settings_of (script_data config events) ≡ Some (settings_in config 4000000)
unfolding settings_of group_of
settings_again config events = rw (mode_again config.mode) refl

data_again : (config : Checked) (events : List Event) → AllByRecursion IsEventWithin events → script_of (script_data config events) ≡ Ok (replay config events)
unfolding script_of script_in
data_again config events within = rw (settings_again config events, events_again events 1 within, config_again config) refl

-- ---- the law

pub says_replay : (config : Checked) (events : List Event) → AreMembersWithin (members config) → AllByRecursion IsEventWithin events → SaysReplay (script_text config events) config events
says_replay config events small within = record {
  value = script_data config events;
  is = (text_utf8 config events small within, text_value config events small within);
  says = data_again config events within;
}

one_value : (bytes : List ℕ) (d e : Data) → read bytes ≡ Some d → read bytes ≡ Some e → d ≡ e
one_value bytes d e p q = cc

pub is_replay : (text : List ℕ) (config : Checked) (events : List Event) → SaysReplay text config events → IsReplayIn text config events
is_replay text config events s (Ok script) h =
    let same = one_value text h.0 s.value h.1.1 s.is.1 in
    let result : Ok (said script) ≡ Ok (replay config events) = sym h.2 ∙ ap script_of same ∙ s.says in
    cc
is_replay text config events s (Err NotJson) h = absurd (h s.value s.is)
is_replay text config events s (Err (Shape index)) h =
    let same = one_value text h.0 s.value h.1.1 s.is.1 in
    let result : Err (Shape index) ≡ Ok (replay config events) = sym h.2 ∙ ap script_of same ∙ s.says in
    absurd (cc)
is_replay text config events s (Err (Config fault)) h =
    let same = one_value text h.0 s.value h.1.1 s.is.1 in
    let result : Err (Config fault) ≡ Ok (replay config events) = sym h.2 ∙ ap script_of same ∙ s.says in
    absurd (cc)
is_replay text config events s (Err Memory) h = refl

pub members_small : (config : Checked) → config.first_stamp < 2 ^ 64 → AreMembersWithin (members config)
members_small config stamp = (omega (arith, config.nodes_in_range), (omega (arith, config.nodes_in_range, config.faults_in_range), (omega (arith, config.nodes_in_range, config.choices_in_range), (omega (arith, config.items_in_range), (omega (arith, config.log_in_range), (omega (arith, config.box_in_range), (stamp, (tt, tt))))))))
