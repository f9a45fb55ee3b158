-- The text of a replay has the tokens of its JSON.
use Rattle.std.proofs.Common.{◌≡◌, ℕ, ◌/◌, ◌%◌, ◌<◌, ◌≤◌, List, [], ◌∷◌, ◌++◌, true, false, map, codes, decimal, append_assoc, ap, refl, sym, ◌∙◌, arith, inr, subst}
use Rattle.std.specs.List.{join_with_byte}
use Rattle.std.specs.List.{AllByRecursion}
use Rattle.std.proofs.lemmas.Bool.Decides.{nat_tests}
use Rattle.json.specs.Token.{Token}
use Rattle.json.specs.Lex.{tokens}
use Rattle.json.specs.Json as json
use Rattle.json.specs.Print.{escape_byte, escape, ArePrintable}
use Rattle.json.specs.Spaced.{AreGaps, print_spaced}
use Rattle.json.specs.Tree.{json_tokens, items_tokens, members_tokens, HasNumbers, ItemsHaveNumbers, MembersHaveNumbers}
use Rattle.json.proofs.Printed.Strings.{escape_byte_plain}
use Rattle.json.proofs.Printed.Tokens.{tokens-print_spaced}
use Rattle.json.proofs.Printed.Trees.{ArePrintable-json_tokens}
use Rattle.json.proofs.Printed.Decimals.{IsNumber-decimal}
use Rattle.json.proofs.Printed.Utf8.{are_ascii}
use Rattle.cast_message.specs.declared.config.Config.{Config}
use Rattle.cast_message.specs.declared.config.Mode.{Mode}
use Rattle.cast_message.specs.declared.config.Mode.TheVariants.{Basic, Uniform}
use Rattle.cast_message.specs.declared.event.Event.{Event}
use Rattle.cast_message.specs.declared.event.Event.TheVariants.{Order, Send, Ack, Arrive, Crash}
use Rattle.cast_message.specs.declared.message.Item.{Item}
use Rattle.cast_message.specs.declared.message.Item.TheVariants.{Data, Propose, Close}
use Rattle.cast_record.specs.Hex.{hex, hex_digit}
use Rattle.cast_record.specs.Hex.{AreBytes}
use Rattle.cast_record.specs.Modes.{mode_word}
use Rattle.cast_script.specs.Replay.{Atom, word, number, digits, word_text, atom_text, item_atoms, event_atoms, event_text, others_text, events_text, members, member_text, members_text, script_text}
use Rattle.cast_script.specs.ReplayRanges.{IsAtomWithin, AreAtomsWithin, AreMembersWithin, IsEventWithin}
use Rattle.cast_script.proofs.ReplayWriting.{cells_text, join-cells}

-- ---- the tokens, with a line feed before each event and before the end of their array

abbrev Spaced : Type 0
Spaced = List (List ℕ × Token)

abbrev bare : Token → List ℕ × Token
bare t = ([], t)

abbrev atom_token : Atom → Token
atom_token (word s) = Token.string s
atom_token (number n) = Token.number (decimal n)
atom_token (digits bytes) = Token.string (hex bytes)

abbrev atoms_spaced : List Atom → Spaced → Spaced
atoms_spaced [] rest = rest
atoms_spaced (a ∷ more) rest = bare (atom_token a) ∷ atoms_spaced more rest

abbrev events_spaced : List Event → Spaced
events_spaced [] = (10 ∷ [], Token.end_array) ∷ bare Token.end_object ∷ []
events_spaced (e ∷ es) = (10 ∷ [], Token.begin_array) ∷ atoms_spaced (event_atoms e) (bare Token.end_array ∷ events_spaced es)

abbrev members_spaced : List (List ℕ × Atom) → Spaced → Spaced
members_spaced [] rest = rest
members_spaced (m ∷ ms) rest = bare (Token.key m.0) ∷ bare (atom_token m.1) ∷ members_spaced ms rest

abbrev list_spaced : List Event → Spaced
list_spaced events = bare Token.begin_array ∷ events_spaced events

abbrev script_spaced : Config → List Event → Spaced
script_spaced config events = bare Token.begin_object ∷ members_spaced (members config) (bare (Token.key (codes "events")) ∷ list_spaced events)

-- ---- words of ASCII that need no escape

abbrev pub IsPlain : List ℕ → Type 0
IsPlain s = (escape s ≡ s) × (are_ascii s ≡ true)

abbrev pub IsPlainAtom : Atom → Type 0
IsPlainAtom (word s) = IsPlain s
IsPlainAtom (number n) = Unit {0}
IsPlainAtom (digits bytes) = Unit {0}

abbrev pub ArePlain : List Atom → Type 0
ArePlain [] = Unit {0}
ArePlain (a ∷ more) = IsPlainAtom a × ArePlain more

abbrev pub ArePlainMembers : List (List ℕ × Atom) → Type 0
ArePlainMembers [] = Unit {0}
ArePlainMembers (m ∷ ms) = IsPlain m.0 × IsPlainAtom m.1 × ArePlainMembers ms

digit_plain : (n : ℕ) → n < 16 → escape_byte (hex_digit n) ≡ hex_digit n ∷ []
digit_plain n small =
    let low : 48 ≤ hex_digit n = grind (arith, nat_tests) in
    let high : hex_digit n < 103 = grind (arith, nat_tests) in
    let no_backslash : hex_digit n ≡ 92 → ⊥ = λ e. grind (arith, nat_tests) in
    escape_byte_plain (hex_digit n) (λ e. omega arith) no_backslash (omega arith)

hex_plain : (bytes : List ℕ) → AreBytes bytes → escape (hex bytes) ≡ hex bytes
hex_plain [] small = refl
hex_plain (b ∷ bytes) small =
    let high = digit_plain (b / 16) (omega (arith, small.0)) in
    let low = digit_plain (b % 16) (omega arith) in
    let rest = hex_plain bytes small.1 in
    λ i. high i ++ (low i ++ rest i)

item_plain : (item : Item) → ArePlain (item_atoms item)
unfolding escape_byte
item_plain (Data payload) = ((refl, refl), (tt, tt))
item_plain (Propose instance value) = ((refl, refl), (tt, (tt, tt)))
item_plain Close = ((refl, refl), tt)

pub event_plain : (event : Event) → ArePlain (event_atoms event)
unfolding escape_byte
event_plain (Order node item) = ((refl, refl), (tt, item_plain item))
event_plain (Send from to slot) = ((refl, refl), (tt, (tt, (tt, tt))))
event_plain (Ack from to slot) = ((refl, refl), (tt, (tt, (tt, tt))))
event_plain (Arrive from seq) = ((refl, refl), (tt, (tt, tt)))
event_plain (Crash node) = ((refl, refl), (tt, tt))

mode_plain : (mode : Mode) → IsPlain (mode_word mode)
unfolding escape_byte
mode_plain Basic = (refl, refl)
mode_plain Uniform = (refl, refl)

pub members_plain : (config : Config) → ArePlainMembers (members config)
unfolding escape_byte
members_plain config = ((refl, refl), tt, ((refl, refl), tt, ((refl, refl), tt, ((refl, refl), tt, ((refl, refl), tt, ((refl, refl), tt, ((refl, refl), tt, ((refl, refl), mode_plain config.mode, tt))))))))

-- ---- the text is those tokens, printed

printed_after_colon : (a : Atom) (ps : Spaced) → IsPlainAtom a → IsAtomWithin a → print_spaced false (bare (atom_token a) ∷ ps) ≡ atom_text a ++ print_spaced true ps
unfolding print_spaced
printed_after_colon (word s) ps plain within = ap (λ x. (34 ∷ (x ++ 34 ∷ [])) ++ print_spaced true ps) plain.0
printed_after_colon (number n) ps plain within = refl
printed_after_colon (digits bytes) ps plain within = ap (λ x. (34 ∷ (x ++ 34 ∷ [])) ++ print_spaced true ps) (hex_plain bytes within)

printed_after_comma : (a : Atom) (ps : Spaced) → IsPlainAtom a → IsAtomWithin a → print_spaced true (bare (atom_token a) ∷ ps) ≡ 44 ∷ (atom_text a ++ print_spaced true ps)
unfolding print_spaced
printed_after_comma (word s) ps plain within = ap (λ x. 44 ∷ ((34 ∷ (x ++ 34 ∷ [])) ++ print_spaced true ps)) plain.0
printed_after_comma (number n) ps plain within = refl
printed_after_comma (digits bytes) ps plain within = ap (λ x. 44 ∷ ((34 ∷ (x ++ 34 ∷ [])) ++ print_spaced true ps)) (hex_plain bytes within)

others_printed : (more : List Atom) (ps : Spaced) → ArePlain more → AreAtomsWithin more → print_spaced true (atoms_spaced more ps) ≡ cells_text (map atom_text more) ++ print_spaced true ps
others_printed [] ps plain within = refl
others_printed (a ∷ more) ps plain within =
    printed_after_comma a (atoms_spaced more ps) plain.0 within.0
    ∙ ap (λ r. 44 ∷ (atom_text a ++ r)) (others_printed more ps plain.1 within.1)
    ∙ ap (λ r. 44 ∷ r) (sym (append_assoc (atom_text a) (cells_text (map atom_text more)) (print_spaced true ps)))

regroup : (a c p : List ℕ) → a ++ (c ++ 93 ∷ p) ≡ ((a ++ c) ++ 93 ∷ []) ++ p
regroup a c p = simp append_assoc

array_printed : (a : Atom) (more : List Atom) (ps : Spaced) → ArePlain (a ∷ more) → AreAtomsWithin (a ∷ more)
    → print_spaced false (atoms_spaced (a ∷ more) (bare Token.end_array ∷ ps)) ≡ (join_with_byte 44 (map atom_text (a ∷ more)) ++ 93 ∷ []) ++ print_spaced true ps
unfolding print_spaced
array_printed a more ps plain within =
    let others = cells_text (map atom_text more) in
    printed_after_colon a (atoms_spaced more (bare Token.end_array ∷ ps)) plain.0 within.0
    ∙ ap (λ r. atom_text a ++ r) (others_printed more (bare Token.end_array ∷ ps) plain.1 within.1)
    ∙ regroup (atom_text a) others (print_spaced true ps)
    ∙ ap (λ j. (j ++ 93 ∷ []) ++ print_spaced true ps) (sym (join-cells (atom_text a) (map atom_text more)))

event_printed : (event : Event) (ps : Spaced) → IsEventWithin event
    → print_spaced false (atoms_spaced (event_atoms event) (bare Token.end_array ∷ ps)) ≡ (join_with_byte 44 (map atom_text (event_atoms event)) ++ 93 ∷ []) ++ print_spaced true ps
event_printed (Order node item) ps within = array_printed (word (codes "order")) (number node ∷ item_atoms item) ps (event_plain (Order node item)) within.atoms
event_printed (Send from to slot) ps within = array_printed (word (codes "send")) (number from ∷ number to ∷ number slot ∷ []) ps (event_plain (Send from to slot)) within.atoms
event_printed (Ack from to slot) ps within = array_printed (word (codes "ack")) (number from ∷ number to ∷ number slot ∷ []) ps (event_plain (Ack from to slot)) within.atoms
event_printed (Arrive from seq) ps within = array_printed (word (codes "arrive")) (number from ∷ number seq ∷ []) ps (event_plain (Arrive from seq)) within.atoms
event_printed (Crash node) ps within = array_printed (word (codes "crash")) (number node ∷ []) ps (event_plain (Crash node)) within.atoms

other_events_printed : (es : List Event) → AllByRecursion IsEventWithin es → print_spaced true (events_spaced es) ≡ others_text es ++ codes "\n]}"
unfolding print_spaced
other_events_printed [] within = refl
other_events_printed (e ∷ es) within =
    ap (λ r. 44 ∷ 10 ∷ 91 ∷ r) (event_printed e (events_spaced es) within.0)
    ∙ ap (λ r. 44 ∷ 10 ∷ (event_text e ++ r)) (other_events_printed es within.1)
    ∙ ap (λ r. 44 ∷ 10 ∷ r) (sym (append_assoc (event_text e) (others_text es) (codes "\n]}")))

events_printed : (es : List Event) → AllByRecursion IsEventWithin es → print_spaced false (events_spaced es) ≡ events_text es ++ codes "\n]}"
unfolding print_spaced
events_printed [] within = refl
events_printed (e ∷ es) within =
    ap (λ r. 10 ∷ 91 ∷ r) (event_printed e (events_spaced es) within.0)
    ∙ ap (λ r. 10 ∷ (event_text e ++ r)) (other_events_printed es within.1)
    ∙ ap (λ r. 10 ∷ r) (sym (append_assoc (event_text e) (others_text es) (codes "\n]}")))

-- a member begins with a comma after another
with_comma : (ms : List (List ℕ × Atom)) (k : List ℕ) (ps : Spaced)
    → print_spaced true (members_spaced ms (bare (Token.key k) ∷ ps)) ≡ 44 ∷ print_spaced false (members_spaced ms (bare (Token.key k) ∷ ps))
unfolding print_spaced
with_comma [] k ps = refl
with_comma (m ∷ ms) k ps = refl

regroup_member : (k v r : List ℕ) → ((34 ∷ (k ++ 34 ∷ [])) ++ 58 ∷ []) ++ (v ++ 44 ∷ r) ≡ ((34 ∷ (k ++ 34 ∷ [])) ++ (58 ∷ (v ++ 44 ∷ []))) ++ r
regroup_member k v r = simp append_assoc

members_printed : (ms : List (List ℕ × Atom)) (k : List ℕ) (ps : Spaced) → ArePlainMembers ms → AreMembersWithin ms
    → print_spaced false (members_spaced ms (bare (Token.key k) ∷ ps)) ≡ members_text ms ++ print_spaced false (bare (Token.key k) ∷ ps)
unfolding print_spaced
members_printed [] k ps plain within = refl
members_printed (m ∷ ms) k ps plain within =
    let rest = members_spaced ms (bare (Token.key k) ∷ ps) in
    ap (λ s. ((34 ∷ (s ++ 34 ∷ [])) ++ 58 ∷ []) ++ print_spaced false (bare (atom_token m.1) ∷ rest)) plain.0.0
    ∙ ap (λ r. (word_text m.0 ++ 58 ∷ []) ++ r) (printed_after_colon m.1 rest plain.1 within.0 ∙ ap (λ r. atom_text m.1 ++ r) (with_comma ms k ps))
    ∙ regroup_member m.0 (atom_text m.1) (print_spaced false rest)
    ∙ ap (λ r. member_text m ++ r) (members_printed ms k ps plain.2 within.1)
    ∙ sym (append_assoc (member_text m) (members_text ms) (print_spaced false (bare (Token.key k) ∷ ps)))

pub script_printed : (config : Config) (events : List Event) → AreMembersWithin (members config) → AllByRecursion IsEventWithin events → print_spaced false (script_spaced config events) ≡ script_text config events
unfolding print_spaced escape_byte
script_printed config events small within =
    ap (λ r. 123 ∷ r) (members_printed (members config) (codes "events") (list_spaced events) (members_plain config) small)
    ∙ ap (λ r. 123 ∷ (members_text (members config) ++ (codes "\"events\":[" ++ r))) (events_printed events within)

-- ---- the JSON

abbrev pub atom_json : Atom → json.Json
atom_json (word s) = json.string s
atom_json (number n) = json.number (decimal n)
atom_json (digits bytes) = json.string (hex bytes)

abbrev pub atoms_json : List Atom → json.Items
atoms_json [] = json.no_items
atoms_json (a ∷ more) = json.item (atom_json a) (atoms_json more)

abbrev pub events_json : List Event → json.Items
events_json [] = json.no_items
events_json (e ∷ es) = json.item (json.array (atoms_json (event_atoms e))) (events_json es)

abbrev pub members_json : List (List ℕ × Atom) → json.Members → json.Members
members_json [] last = last
members_json (m ∷ ms) last = json.member m.0 (atom_json m.1) (members_json ms last)

abbrev pub list_json : List Event → json.Members
list_json events = json.member (codes "events") (json.array (events_json events)) json.no_members

abbrev pub script_json : Config → List Event → json.Json
script_json config events = json.object (members_json (members config) (list_json events))

abbrev bared : Spaced → List Token
bared ps = map (λ p. p.1) ps

atom_tokens : (a : Atom) → json_tokens (atom_json a) ≡ atom_token a ∷ []
atom_tokens (word s) = refl
atom_tokens (number n) = refl
atom_tokens (digits bytes) = refl

atoms_tokens : (list : List Atom) (ps : Spaced) → bared (atoms_spaced list (bare Token.end_array ∷ ps)) ≡ items_tokens (atoms_json list) ++ bared ps
atoms_tokens [] ps = refl
atoms_tokens (a ∷ more) ps =
    ap (λ l. atom_token a ∷ l) (atoms_tokens more ps)
    ∙ ap (λ l. (l ++ items_tokens (atoms_json more)) ++ bared ps) (sym (atom_tokens a))

events_tokens : (es : List Event) → bared (events_spaced es) ≡ items_tokens (events_json es) ++ Token.end_object ∷ []
events_tokens [] = refl
events_tokens (e ∷ es) =
    let this = items_tokens (atoms_json (event_atoms e)) in
    ap (λ l. Token.begin_array ∷ l) (atoms_tokens (event_atoms e) (events_spaced es)
    ∙ ap (λ l. this ++ l) (events_tokens es)
    ∙ sym (append_assoc this (items_tokens (events_json es)) (Token.end_object ∷ [])))

members_tokens_are : (ms : List (List ℕ × Atom)) (ps : Spaced) (last : json.Members) → bared ps ≡ members_tokens last → bared (members_spaced ms ps) ≡ members_tokens (members_json ms last)
members_tokens_are [] ps last e = e
members_tokens_are (m ∷ ms) ps last e =
    ap (λ l. Token.key m.0 ∷ atom_token m.1 ∷ l) (members_tokens_are ms ps last e)
    ∙ ap (λ l. Token.key m.0 ∷ (l ++ members_tokens (members_json ms last))) (sym (atom_tokens m.1))

script_tokens : (config : Config) (events : List Event) → bared (script_spaced config events) ≡ json_tokens (script_json config events)
script_tokens config events =
    ap (λ l. Token.begin_object ∷ l) (members_tokens_are (members config) (bare (Token.key (codes "events")) ∷ list_spaced events) (list_json events)
    (ap (λ l. Token.key (codes "events") ∷ Token.begin_array ∷ l) (events_tokens events)))

-- ---- it can be printed

atoms_gaps : (list : List Atom) (ps : Spaced) → AreGaps ps → AreGaps (atoms_spaced list ps)
atoms_gaps [] ps h = h
atoms_gaps (a ∷ more) ps h = (tt, atoms_gaps more ps h)

events_gaps : (es : List Event) → AreGaps (events_spaced es)
events_gaps [] = ((inr refl, tt), (tt, tt))
events_gaps (e ∷ es) = ((inr refl, tt), atoms_gaps (event_atoms e) (bare Token.end_array ∷ events_spaced es) (tt, events_gaps es))

members_gaps : (ms : List (List ℕ × Atom)) (ps : Spaced) → AreGaps ps → AreGaps (members_spaced ms ps)
members_gaps [] ps h = h
members_gaps (m ∷ ms) ps h = (tt, (tt, members_gaps ms ps h))

script_gaps : (config : Config) (events : List Event) → AreGaps (script_spaced config events)
script_gaps config events = (tt, members_gaps (members config) (bare (Token.key (codes "events")) ∷ list_spaced events) (tt, (tt, events_gaps events)))

atom_numbers : (a : Atom) → IsAtomWithin a → HasNumbers (atom_json a)
atom_numbers (word s) within = tt
atom_numbers (number n) within = IsNumber-decimal n within
atom_numbers (digits bytes) within = tt

atoms_numbers : (list : List Atom) → AreAtomsWithin list → ItemsHaveNumbers (atoms_json list)
atoms_numbers [] within = tt
atoms_numbers (a ∷ more) within = (atom_numbers a within.0, atoms_numbers more within.1)

events_numbers : (es : List Event) → AllByRecursion IsEventWithin es → ItemsHaveNumbers (events_json es)
events_numbers [] within = tt
events_numbers (e ∷ es) within = (atoms_numbers (event_atoms e) within.0.atoms, events_numbers es within.1)

members_numbers : (ms : List (List ℕ × Atom)) (last : json.Members) → AreMembersWithin ms → MembersHaveNumbers last → MembersHaveNumbers (members_json ms last)
members_numbers [] last within h = h
members_numbers (m ∷ ms) last within h = (atom_numbers m.1 within.0, members_numbers ms last within.1 h)

-- the tokens of the text
pub text_tokens : (config : Config) (events : List Event) → AreMembersWithin (members config) → AllByRecursion IsEventWithin events
    → tokens (script_text config events) ≡ json_tokens (script_json config events)
text_tokens config events small within =
    let same = script_tokens config events in
    let numbers : HasNumbers (script_json config events) = members_numbers (members config) (list_json events) small (events_numbers events within, tt) in
    let printable = subst ArePrintable (sym same) (ArePrintable-json_tokens (script_json config events) numbers) in
    ap tokens (sym (script_printed config events small within)) ∙ tokens-print_spaced (script_spaced config events) (script_gaps config events) printable ∙ same
