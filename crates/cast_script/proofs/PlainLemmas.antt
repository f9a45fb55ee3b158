-- The tokens of a plain script are those of a value, and the value says the script.
use Rattle.std.proofs.Common.{◌≡◌, ℕ, ◌+◌, ◌≤◌, ◌<◌, List, [], ◌∷◌, ◌++◌, length, codes, Bool, true, false, ◌&&◌, ok_or, bytes_eq, Option, Some, None, Result, Ok, Err, IfOk, IfSome, Ordering, Less, Equal, Greater, nat_cmp, is_eq, true≢false, refl, sym, ap, ◌∙◌, subst, append_assoc, append-nil, length-append, arith}
use Rattle.std.proofs.lemmas.Map.Text.{is_eq-slice_cmp}
use Rattle.std.proofs.lemmas.Slice.Eq.{bytes_eq-Decides}
use Rattle.std.specs.Cmp.Lexicographic.{slice_cmp}
use Rattle.std.specs.Ordering.{match_ordering}
use Rattle.cast_record.specs.Numbers as words
use Rattle.cast_record.proofs.NumberLemmas.{number_takes}
use Rattle.json.specs.Token.{Token}
use Rattle.json.specs.Json as json
use Rattle.json.specs.Json.{after_end_array, read_key}
use Rattle.json.specs.Lex.{tokens}
use Rattle.json.specs.Tree.{json_tokens, items_tokens, members_tokens, depth, items_depth, members_depth}
use Rattle.json.proofs.Printed.Trees.{value-json_tokens}
use Rattle.serde_json.specs.Data as value
use Rattle.serde_json.specs.Data.{Data, Items, Members, put, unsigned}
use Rattle.serde_json.specs.Find.{get_member}
use Rattle.serde_json.specs.Read.{read, of_json, of_items, of_members, max_depth, number_of}
use Rattle.serde_json.proofs.Numbers.{number_of-decimal}
use Rattle.serde_json.proofs.Views.{get_member-put, get_member-put_other}
use Rattle.cast_script.specs.declared.element.Unread.{Unread}
use Rattle.cast_script.specs.declared.script.ScriptEvent.{ScriptEvent}
use Rattle.cast_script.specs.declared.script.RunSettings.{RunSettings}
use Rattle.cast_script.specs.Places.{places}
use Rattle.cast_script.specs.Element.{event_of, event_at}
use Rattle.cast_script.specs.Faults.{elements_from}
use Rattle.cast_script.specs.Members.{is_member, all_known, has_known_members, group_of, settings_of, list_of, or_empty}
use Rattle.cast_script.specs.Plain.{IsCell, AreCells, IsEvent, AreEvents, IsValueOf, IsLike, SaysMembers}
use Rattle.cast_script.specs.Script.{checked, script_in, script_of}
use Rattle.cast_script.specs.Unread.{Gives}

pub ok_with : {A E : Type 0} {P Q : A → Type 0} (r : Result A E) → ((x : A) → P x → Q x) → IfOk r P → IfOk r Q
ok_with (Ok x) f h = f x h
ok_with (Err e) f h = tt

pub gives_ok : {A : Type 0} (r : Result A Unread) (element : Option A) → Gives r element → IfOk r (λ x. element ≡ Some x)
gives_ok (Ok x) element is = is
gives_ok (Err unread) element is = tt

pub some_or : {A E : Type 0} (P Q : A → Type 0) (o : Option A) (e : E) → ((x : A) → P x → Q x) → IfSome o P → IfOk (ok_or o e) Q
some_or P Q None e f h = tt
some_or P Q (Some x) e f h = f x h

-- ---- a number's text

plain_number : (s : List ℕ) (n : ℕ) → words.number_of s ≡ Some n → number_of s ≡ Some (unsigned n)
plain_number s n e =
    let is = number_takes s n e in
    ap number_of is.0 ∙ number_of-decimal n is.1

pub number_or : {E : Type 0} (s : List ℕ) (o : Option ℕ) (e : E) → o ≡ words.number_of s → IfOk (ok_or o e) (λ n. number_of s ≡ Some (unsigned n))
number_or s None e is = tt
number_or s (Some n) e is = plain_number s n (sym is)

-- ---- cells

pub closed : (old new : List Token) → after_end_array old ≡ Some new → old ≡ Token.end_array ∷ new
closed [] new e = absurd (cc)
closed (Token.begin_object ∷ ts) new e = absurd (cc)
closed (Token.end_object ∷ ts) new e = absurd (cc)
closed (Token.begin_array ∷ ts) new e = absurd (cc)
closed (Token.end_array ∷ ts) new e = cc
closed (Token.key s ∷ ts) new e = absurd (cc)
closed (Token.string s ∷ ts) new e = absurd (cc)
closed (Token.number s ∷ ts) new e = absurd (cc)
closed (Token.boolean b ∷ ts) new e = absurd (cc)
closed (Token.null ∷ ts) new e = absurd (cc)
closed (Token.bad ∷ ts) new e = absurd (cc)

abbrev rest_of : Option (Option (List ℕ) × List Token) → List Token
rest_of None = []
rest_of (Some p) = p.1

abbrev name_of : Option (Option (List ℕ) × List Token) → Option (List ℕ)
name_of None = None
name_of (Some p) = p.0

abbrev or_nameless : Option (List ℕ) → List ℕ
or_nameless None = []
or_nameless (Some k) = k

unnamed : (k : List ℕ) → None ≡ Some k → ⊥
unnamed k e = absurd (cc)

pub keyed : (old new : List Token) (k : List ℕ) → read_key old ≡ Some (Some k, new) → old ≡ Token.key k ∷ new
keyed [] new k e = absurd (cc)
keyed (Token.begin_object ∷ ts) new k e = absurd (cc)
keyed (Token.end_object ∷ ts) new k e = absurd (unnamed k (ap name_of e))
keyed (Token.begin_array ∷ ts) new k e = absurd (cc)
keyed (Token.end_array ∷ ts) new k e = absurd (cc)
keyed (Token.key s ∷ ts) new k e = ap (λ o. Token.key (or_nameless (name_of o)) ∷ rest_of o) e
keyed (Token.string s ∷ ts) new k e = absurd (cc)
keyed (Token.number s ∷ ts) new k e = absurd (cc)
keyed (Token.boolean b ∷ ts) new k e = absurd (cc)
keyed (Token.null ∷ ts) new k e = absurd (cc)
keyed (Token.bad ∷ ts) new k e = absurd (cc)

pub ended : (old new : List Token) → read_key old ≡ Some (None, new) → old ≡ Token.end_object ∷ new
ended [] new e = absurd (cc)
ended (Token.begin_object ∷ ts) new e = absurd (cc)
ended (Token.end_object ∷ ts) new e = ap (λ o. Token.end_object ∷ rest_of o) e
ended (Token.begin_array ∷ ts) new e = absurd (cc)
ended (Token.end_array ∷ ts) new e = absurd (cc)
ended (Token.key s ∷ ts) new e = absurd (unnamed s (sym (ap name_of e)))
ended (Token.string s ∷ ts) new e = absurd (cc)
ended (Token.number s ∷ ts) new e = absurd (cc)
ended (Token.boolean b ∷ ts) new e = absurd (cc)
ended (Token.null ∷ ts) new e = absurd (cc)
ended (Token.bad ∷ ts) new e = absurd (cc)

record IsJson (old : List Token) (d : Data) (rest : List Token) (deep : ℕ) : Type 0 where
  is : json.Json
  tokens_are : old ≡ json_tokens is ++ rest
  shallow : depth is ≤ deep
  says : of_json is ≡ Some d

record AreItems (old : List Token) (ds : List Data) (rest : List Token) (deep : ℕ) : Type 0 where
  are : json.Items
  data_are : Items
  tokens_are : old ≡ items_tokens are ++ rest
  shallow : items_depth are ≤ deep
  says : of_items are ≡ Some data_are
  places_are : places data_are ≡ ds

cell_json : (d : Data) (old rest : List Token) → IsCell old d rest → IsJson old d rest 0
cell_json value.null old rest h = absurd h
cell_json (value.boolean b) old rest h = absurd h
cell_json (value.number n) old rest h = record { is = json.number h.0; tokens_are = h.1; shallow = omega arith; says = rw h.2 refl }
cell_json (value.string s) old rest h = record { is = json.string s; tokens_are = h; shallow = omega arith; says = refl }
cell_json (value.array ds) old rest h = absurd h
cell_json (value.object ms) old rest h = absurd h

before_items : {old next rest : List Token} {d : Data} {ds : List Data} {deep : ℕ} → IsJson old d next deep → AreItems next ds rest deep → AreItems old (d ∷ ds) rest deep
before_items {rest = rest} {d = d} first more = record {
  are = json.item first.is more.are;
  data_are = value.item d more.data_are;
  tokens_are = first.tokens_are ∙ ap (λ ts. json_tokens first.is ++ ts) more.tokens_are ∙ sym (append_assoc (json_tokens first.is) (items_tokens more.are) rest);
  shallow = omega (arith, first.shallow, more.shallow);
  says = rw (first.says, more.says) refl;
  places_are = ap (λ ds. d ∷ ds) more.places_are;
}

no_more : {old rest : List Token} {deep : ℕ} → old ≡ Token.end_array ∷ rest → AreItems old [] rest deep
no_more e = record { are = json.no_items; data_are = value.no_items; tokens_are = e; shallow = omega arith; says = refl; places_are = refl }

cells_json : (old : List Token) (ds : List Data) (rest : List Token) → AreCells old ds rest → AreItems old ds rest 0
cells_json old [] rest h = no_more h
cells_json old (d ∷ ds) rest h = before_items (cell_json d old h.0 h.1) (cells_json h.0 ds rest h.2)

array_json : {old next rest : List Token} {ds : List Data} {deep : ℕ} → old ≡ Token.begin_array ∷ next → (items : AreItems next ds rest deep) → IsJson old (value.array items.data_are) rest (deep + 1)
array_json opened items = record {
  is = json.array items.are;
  tokens_are = opened ∙ ap (λ ts. Token.begin_array ∷ ts) items.tokens_are;
  shallow = omega (arith, items.shallow);
  says = rw items.says refl;
}

-- ---- events

record IsEventJson (old : List Token) (event : ScriptEvent) (rest : List Token) : Type 0 where
  data_is : Data
  json_is : IsJson old data_is rest 1
  event_is : event_of data_is ≡ Some event

event_json : (old : List Token) (event : ScriptEvent) (rest : List Token) → IsEvent old event rest → IsEventJson old event rest
event_json old event rest h =
    let items = cells_json h.0 h.1 rest h.3 in
    record { data_is = value.array items.data_are; json_is = array_json h.2 items; event_is = ap event_at items.places_are ∙ h.4 }

record AreEventsJson (old : List Token) (events : List ScriptEvent) (rest : List Token) : Type 0 where
  values : List Data
  items_are : AreItems old values rest 1
  events_are : (index : ℕ) → elements_from event_of index values ≡ Ok events

events_json : (old : List Token) (events : List ScriptEvent) (rest : List Token) → AreEvents old events rest → AreEventsJson old events rest
events_json old [] rest h = record { values = []; items_are = no_more h; events_are = λ index. refl }
events_json old (event ∷ events) rest h =
    let first = event_json old event h.0 h.1 in
    let more = events_json h.0 events rest h.2 in
    record {
      values = first.data_is ∷ more.values;
      items_are = before_items first.json_is more.items_are;
      events_are = λ index. rw (first.event_is, more.events_are (index + 1)) refl;
    }

-- the events so far, whatever follows
pub record IsReading (start current : List Token) (events : List ScriptEvent) : Type 0 where
  pub goes_on : (more : List ScriptEvent) (rest : List Token) → AreEvents current more rest → AreEvents start (events ++ more) rest

pub reading_start : (start : List Token) → IsReading start start []
reading_start start = record { goes_on = λ more rest h. h }

pub reading_next : (start current next : List Token) (events : List ScriptEvent) (event : ScriptEvent) → IsReading start current events → IsEvent current event next → IsReading start next (events ++ event ∷ [])
reading_next start current next events event reading is = record {
  goes_on = λ more rest h. subst (λ es. AreEvents start es rest) (sym (append_assoc events (event ∷ []) more)) (reading.goes_on (event ∷ more) rest (next, is, h));
}

pub reading_done : (start current rest : List Token) (events : List ScriptEvent) → IsReading start current events → current ≡ Token.end_array ∷ rest → AreEvents start events rest
reading_done start current rest events reading e = subst (λ es. AreEvents start es rest) (append-nil events) (reading.goes_on [] rest e)

-- ---- members

and_twice : (a b : Bool) → (a && b) ≡ (a && (a && b))
and_twice true b = refl
and_twice false b = refl

and_swap : (a b c : Bool) → (a && (b && c)) ≡ (b && (a && c))
and_swap true true c = refl
and_swap true false c = refl
and_swap false true c = refl
and_swap false false c = refl

same_name : (k l : List ℕ) → slice_cmp nat_cmp k l ≡ Equal → k ≡ l
same_name k l e = (bytes_eq-Decides k l).0 (sym (is_eq-slice_cmp k l) ∙ ap is_eq e)

known_put_at : (o : Ordering) (k l : List ℕ) (d e : Data) (ms : Members) → slice_cmp nat_cmp k l ≡ o → all_known (put k d ms) ≡ (is_member k && all_known ms)
    → all_known (match_ordering o (value.member k d (value.member l e ms)) (value.member l d ms) (value.member l e (put k d ms))) ≡ (is_member k && (is_member l && all_known ms))
known_put_at Less k l d e ms is later = refl
known_put_at Equal k l d e ms is later = and_twice (is_member l) (all_known ms) ∙ ap (λ name. is_member name && (is_member l && all_known ms)) (sym (same_name k l is))
known_put_at Greater k l d e ms is later = ap (λ b. is_member l && b) later ∙ and_swap (is_member l) (is_member k) (all_known ms)

known_put : (k : List ℕ) (d : Data) (ms : Members) → all_known (put k d ms) ≡ (is_member k && all_known ms)
known_put k d value.no_members = refl
known_put k d (value.member l e ms) = known_put_at (slice_cmp nat_cmp k l) k l d e ms refl (known_put k d ms)

both_known : (k : List ℕ) (d e : Data) (found shown : Members) → all_known found ≡ all_known shown → all_known (put k d found) ≡ all_known (put k e shown)
both_known k d e found shown same = known_put k d found ∙ ap (λ b. is_member k && b) same ∙ sym (known_put k e shown)

apart : (k l : List ℕ) → bytes_eq k l ≡ false → k ≡ l → ⊥
apart k l e same = true≢false (sym ((bytes_eq-Decides k l).1 same) ∙ e)

found_put : (b : Bool) (name k : List ℕ) (d : Data) (found shown : Members) → bytes_eq name k ≡ b → get_member name found ≡ get_member name shown → get_member name (put k d found) ≡ get_member name (put k d shown)
found_put true name k d found shown is same =
    let here : name ≡ k = (bytes_eq-Decides name k).0 is in
    rw here (get_member-put k d found ∙ sym (get_member-put k d shown))
found_put false name k d found shown is same =
    get_member-put_other name k d found (apart name k is) ∙ same ∙ sym (get_member-put_other name k d shown (apart name k is))

like_other : (found shown : Members) (events : List ScriptEvent) (k : List ℕ) (d : Data) → bytes_eq k (codes "events") ≡ false → IsLike found (value.object shown) events → IsLike (put k d found) (value.object (put k d shown)) events
like_other found shown events k d other like = record {
  same = λ name h. found_put (bytes_eq name k) name k d found shown refl (like.same name h);
  known = both_known k d d found shown like.known;
  values = like.values;
  list = ap or_empty (get_member-put_other (codes "events") k d found (λ e. apart k (codes "events") other (sym e))) ∙ like.list;
  says = like.says;
}

like_events : (found shown : Members) (before events : List ScriptEvent) (k : List ℕ) (ds : Items) (e : Data) → k ≡ codes "events" → elements_from event_of 1 (places ds) ≡ Ok events → IsLike found (value.object shown) before
    → IsLike (put k (value.array ds) found) (value.object (put k e shown)) events
like_events found shown before events k ds e is says like =
    let found_there : get_member (codes "events") (put k (value.array ds) found) ≡ Some (value.array ds) = subst (λ name. get_member name (put k (value.array ds) found) ≡ Some (value.array ds)) is (get_member-put k (value.array ds) found) in
    let elsewhere = λ (name : List ℕ) (h : bytes_eq name (codes "events") ≡ false). λ (at : name ≡ k). apart name (codes "events") h (at ∙ is) in
    record {
      same = λ name h. get_member-put_other name k (value.array ds) found (elsewhere name h) ∙ like.same name h ∙ sym (get_member-put_other name k e shown (elsewhere name h));
      known = both_known k (value.array ds) e found shown like.known;
      values = places ds;
      list = ap or_empty found_there;
      says = says;
    }

-- the members so far, whatever follows
pub record AreRead (start current : List Token) (shown : Members) (events : List ScriptEvent) : Type 0 where
  pub found : Members
  pub like : IsLike found (value.object shown) events
  pub goes_on : (more : json.Members) (all : Members) (rest : List Token) → current ≡ members_tokens more ++ rest → members_depth more ≤ 2 → of_members more found ≡ Some all
      → (ms : json.Members) × (start ≡ members_tokens ms ++ rest) × (members_depth ms ≤ 2) × (of_members ms value.no_members ≡ Some all)

pub members_start : (start : List Token) → AreRead start start value.no_members []
members_start start = record {
  found = value.no_members;
  like = record { same = λ name h. refl; known = refl; values = []; list = refl; says = refl };
  goes_on = λ more all rest e shallow says. (more, e, shallow, says);
}

member_next : (start current next after : List Token) (k : List ℕ) (d : Data) (found : Members) (more : json.Members) (all : Members) (rest : List Token) → current ≡ Token.key k ∷ next → (first : IsValueOf next d after)
    → after ≡ members_tokens more ++ rest → members_depth more ≤ 2 → of_members more (put k d found) ≡ Some all
    → (current ≡ members_tokens (json.member k first.0 more) ++ rest) × (members_depth (json.member k first.0 more) ≤ 2) × (of_members (json.member k first.0 more) found ≡ Some all)
member_next start current next after k d found more all rest key first e shallow says = (
  key ∙ ap (λ ts. Token.key k ∷ ts) (first.1 ∙ ap (λ ts. json_tokens first.0 ++ ts) e ∙ sym (append_assoc (json_tokens first.0) (members_tokens more) rest)),
  omega (arith, first.2, shallow),
  rw first.3 says,
)

pub member_read : (start current next after : List Token) (k : List ℕ) (d : Data) (shown : Members) (events : List ScriptEvent) → AreRead start current shown events → current ≡ Token.key k ∷ next → IsValueOf next d after
    → bytes_eq k (codes "events") ≡ false → AreRead start after (put k d shown) events
member_read start current next after k d shown events read key first other = record {
  found = put k d read.found;
  like = like_other read.found shown events k d other read.like;
  goes_on = λ more all rest e shallow says. let m = member_next start current next after k d read.found more all rest key first e shallow says in read.goes_on (json.member k first.0 more) all rest m.0 m.1 m.2;
}

pub events_read : (start current next inner after : List Token) (k : List ℕ) (e : Data) (shown : Members) (before events : List ScriptEvent) → AreRead start current shown before → current ≡ Token.key k ∷ next → next ≡ Token.begin_array ∷ inner → AreEvents inner events after
    → bytes_eq k (codes "events") ≡ true → AreRead start after (put k e shown) events
events_read start current next inner after k e shown before events read key opened are named =
    let is = (bytes_eq-Decides k (codes "events")).0 named in
    let list = events_json inner events after are in
    let j = array_json opened list.items_are in
    let d = value.array list.items_are.data_are in
    let first : IsValueOf next d after = (j.is, j.tokens_are, j.shallow, j.says) in
    let says = ap (elements_from event_of 1) list.items_are.places_are ∙ list.events_are 1 in
    record {
      found = put k d read.found;
      like = like_events read.found shown before events k list.items_are.data_are e is says read.like;
      goes_on = λ more all rest e shallow says. let m = member_next start current next after k d read.found more all rest key first e shallow says in read.goes_on (json.member k first.0 more) all rest m.0 m.1 m.2;
    }

pub members_done : (start current rest : List Token) (shown : Members) (events : List ScriptEvent) → AreRead start current shown events → current ≡ Token.end_object ∷ rest → SaysMembers start (value.object shown) events rest
members_done start current rest shown events read e =
    let all = read.goes_on json.no_members read.found rest e (omega arith) refl in
    (all.0, read.found, all.1, all.2, all.3, read.like)

-- ---- the script

pub text_says : (text ts : List Token) → text ≡ Token.begin_object ∷ ts → (shown : Data) (events : List ScriptEvent) → (says : SaysMembers ts shown events []) → json.value max_depth text ≡ Some (json.object says.0, [])
text_says text ts opened shown events says =
    ap (json.value max_depth) (opened ∙ ap (λ rest. Token.begin_object ∷ rest) says.2) ∙ value-json_tokens (json.object says.0) max_depth [] (omega (arith, says.3))

pub plain_value : (text : List ℕ) (ts : List Token) (shown : Data) (events : List ScriptEvent) → tokens text ≡ Token.begin_object ∷ ts → (says : SaysMembers ts shown events []) → read text ≡ Some (value.object says.1)
plain_value text ts shown events opened says = rw (text_says (tokens text) ts opened shown events says) (rw says.4 refl)

settings_like : (found : Members) (shown : Data) (events : List ScriptEvent) → IsLike found shown events → settings_of (value.object found) ≡ settings_of shown
unfolding settings_of group_of
settings_like found shown events like =
    rw (
      like.same (codes "nodes") refl,
      like.same (codes "faults") refl,
      like.same (codes "choices") refl,
      like.same (codes "item_limit") refl,
      like.same (codes "log_limit") refl,
      like.same (codes "box_size") refl,
      like.same (codes "first_stamp") refl,
      like.same (codes "turns") refl,
      like.same (codes "mode") refl,
    ) refl

pub plain_script : (found : Members) (shown : Data) (events : List ScriptEvent) (settings within : RunSettings) → IsLike found shown events → has_known_members shown ≡ true → settings_of shown ≡ Some settings
    → list_of (codes "plan") shown ≡ Some [] → list_of (codes "jobs") shown ≡ Some [] → checked settings ≡ Ok within
    → script_of (value.object found) ≡ Ok (record { settings = within; events = events; plan = []; jobs = [] })
unfolding script_of script_in
plain_script found shown events settings within like known says plan jobs limits =
    rw (
      like.known ∙ known,
      settings_like found shown events like ∙ says,
      like.list,
      ap or_empty (like.same (codes "plan") refl) ∙ plan,
      ap or_empty (like.same (codes "jobs") refl) ∙ jobs,
      like.says,
      limits,
    ) refl

-- ---- reading comes to an end

taken_one : (old rest : List Token) (t : Token) → old ≡ t ∷ rest → length rest < length old
taken_one old rest t e = rw e (omega arith)

cell_shorter : (d : Data) (old rest : List Token) → IsCell old d rest → length rest < length old
cell_shorter value.null old rest h = absurd h
cell_shorter (value.boolean b) old rest h = absurd h
cell_shorter (value.number n) old rest h = taken_one old rest (Token.number h.0) h.1
cell_shorter (value.string s) old rest h = taken_one old rest (Token.string s) h
cell_shorter (value.array ds) old rest h = absurd h
cell_shorter (value.object ms) old rest h = absurd h

cells_shorter : (old : List Token) (ds : List Data) (rest : List Token) → AreCells old ds rest → length rest < length old
cells_shorter old [] rest h = taken_one old rest Token.end_array h
cells_shorter old (d ∷ ds) rest h = omega (arith, cell_shorter d old h.0 h.1, cells_shorter h.0 ds rest h.2)

pub event_shorter : (old : List Token) (event : ScriptEvent) (rest : List Token) → IsEvent old event rest → length rest < length old
event_shorter old event rest h = omega (arith, taken_one old h.0 Token.begin_array h.2, cells_shorter h.0 h.1 rest h.3)

pub events_shorter : (old : List Token) (events : List ScriptEvent) (rest : List Token) → AreEvents old events rest → length rest < length old
events_shorter old [] rest h = taken_one old rest Token.end_array h
events_shorter old (event ∷ events) rest h = omega (arith, event_shorter old event h.0 h.1, events_shorter h.0 events rest h.2)

pub value_no_longer : (old : List Token) (d : Data) (rest : List Token) → IsValueOf old d rest → length rest ≤ length old
value_no_longer old d rest h = omega (arith, ap length h.1, length-append (json_tokens h.0) rest)
