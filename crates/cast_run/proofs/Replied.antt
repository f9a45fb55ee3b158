-- A job that submits a list: where its node stopped, none of its orders is left at the desk.
use Rattle.std.proofs.Common.{◌≡◌, ℕ, suc, ◌+◌, ◌≤◌, Bool, true, false, cond, List, [], ◌∷◌, ◌++◌, length, map, take, slice_get, Option, Some, None, if◌then◌else◌, refl, ap, ◌∙◌, ◌==◌, arith}
use Rattle.std.specs.List.{filter}
use Rattle.std.proofs.lemmas.List.{length-take}
use Rattle.std.proofs.lemmas.Option.{slice_get_within}
use Rattle.cast_message.specs.declared.config.Config.{Config}
use Rattle.cast_message.specs.declared.message.Decision.{Decision}
use Rattle.cast_message.specs.declared.event.Event.{Event}
use Rattle.cast_message.specs.declared.event.Event.TheVariants.{Order, Send, Arrive, Ack, Crash}
use Rattle.cast_message.specs.declared.event.Outcome.{Outcome}
use Rattle.cast_message.specs.declared.message.Message.{Message}
use Rattle.cast_log.specs.declared.entry.Entry.{Entry}
use Rattle.cast_log.specs.declared.entry.EntryKind.{EntryKind}
use Rattle.cast_log.specs.declared.entry.EntryKind.TheVariants.{Step, Refused}
use Rattle.cast_log.specs.declared.entry.Origin.{Origin}
use Rattle.cast_desk.specs.declared.notice.Notice.{Notice}
use Rattle.cast_desk.specs.declared.notice.Notice.TheVariants.{Reply, Delivered, Decided}
use Rattle.cast_desk.specs.Feed.{feed_from, told_by, reply_of, news_of, orders_in}
use Rattle.cast_engine.specs.Serving.{Matches, IsAnswered, entries_of, is_of, origin_in}
use Rattle.cast_node.specs.declared.report.EngineEnd.TheVariants.{Stopped}
use Rattle.cast_node.specs.declared.report.NodeReport.{NodeReport}
use Rattle.cast_run.specs.declared.reports.ClientReport.{ClientReport}
use Rattle.cast_run.specs.declared.submit_all.SubmitAll.{SubmitAll}
use Rattle.cast_run.specs.Jobs.{replies_in}
use Rattle.cast_run.specs.SubmitAll.{SubmitsGiven}
use Rattle.cast_run.proofs.Submitting.{all_sent}
use Rattle.cast_run.specs.Serves.{AreServed, IsServed}
use Rattle.cast_box.proofs.Closing.{found}

replies_in_both : (xs ys : List Notice) → replies_in (xs ++ ys) ≡ replies_in xs + replies_in ys
unfolding replies_in
replies_in_both [] ys = omega arith
replies_in_both (x ∷ xs) ys = let rest = replies_in_both xs ys in omega arith

no_reply_delivered : (messages : List Message) → replies_in (map Delivered messages) ≡ 0
unfolding replies_in
no_reply_delivered [] = refl
no_reply_delivered (m ∷ ms) = let rest = no_reply_delivered ms in omega arith

no_reply_decided : (decisions : List Decision) → replies_in (map Decided decisions) ≡ 0
unfolding replies_in
no_reply_decided [] = refl
no_reply_decided (d ∷ ds) = let rest = no_reply_decided ds in omega arith

no_reply_news : (outcome : Outcome) → replies_in (news_of outcome) ≡ 0
no_reply_news outcome =
    let both = replies_in_both (map Delivered outcome.deliveries) (map Decided outcome.decisions) in
    let delivered = no_reply_delivered outcome.deliveries in
    let decided = no_reply_decided outcome.decisions in
    omega arith

-- a notice that may be told is one reply at most
once : (b : Bool) (notice : Notice) → replies_in (if b then notice ∷ [] else []) ≤ cond b 1 0
unfolding replies_in
once true (Reply ticket outcome) = omega arith
once true (Delivered message) = omega arith
once true (Decided decision) = omega arith
once false notice = omega arith

nothing : (b : Bool) → replies_in [] ≤ cond b 1 0
unfolding replies_in
nothing b = omega arith

one_reply : (client number : ℕ) (event : Event) (origin : Option Origin) → replies_in (reply_of client event origin number) ≤ cond (is_of client origin) 1 0
one_reply client number (Order node item) (Some origin) = once (origin.client == client) _
one_reply client number (Order node item) None = nothing false
one_reply client number (Send from to slot) origin = nothing (is_of client origin)
one_reply client number (Arrive from seq) origin = nothing (is_of client origin)
one_reply client number (Ack from to slot) origin = nothing (is_of client origin)
one_reply client number (Crash node) origin = nothing (is_of client origin)

one_told : (client number : ℕ) (kind : EntryKind) → replies_in (told_by client number kind) ≤ cond (is_of client (origin_in kind)) 1 0
one_told client number (Step event origin outcome) =
    let both = replies_in_both (reply_of client event origin number) (news_of outcome) in
    let one = one_reply client number event origin in
    let none = no_reply_news outcome in
    omega arith
one_told client number (Refused origin fault) = once (origin.client == client) _

longer_by : {A : Type 0} (b : Bool) (x : A) (xs : List A) → length (if b then x ∷ xs else xs) ≡ cond b 1 0 + length xs
longer_by true x xs = omega arith
longer_by false x xs = omega arith

-- a log tells a client no more replies than it has entries of it
pub replies_within : (client number : ℕ) (log : List Entry) → replies_in (feed_from client number log) ≤ length (entries_of client log)
unfolding entries_of replies_in
replies_within client number [] = omega arith
replies_within client number (e ∷ es) =
    let rest = replies_within client (number + orders_in e.kind) es in
    let here = one_told client number e.kind in
    let both = replies_in_both (told_by client number e.kind) (feed_from client (number + orders_in e.kind) es) in
    let is : Entry → Bool = λ e. is_of client (origin_in e.kind) in
    let longer = longer_by (is e) e (filter is es) in
    omega arith

matched : {A B : Type 0} (R : A → B → Type 0) (xs : List A) (ys : List B) → Matches R xs ys → length xs ≡ length ys
unfolding Matches
matched R [] [] m = refl
matched R [] (y ∷ ys) m = absurd m
matched R (x ∷ xs) [] m = absurd m
matched R (x ∷ xs) (y ∷ ys) m = ap suc (matched R xs ys m.1)

-- a job that is done has a reply to each of its orders, so each was taken off the desk
nothing_left : (config : Config) (handed : List (ℕ × SubmitAll)) (reports : List NodeReport) (i : ℕ) (job : SubmitAll) (r : ClientReport) → IsServed config SubmitsGiven handed reports i job r
    → (report : NodeReport) → slice_get reports r.node ≡ Some report → report.ended ≡ Stopped → r.left ≡ 0
nothing_left config handed reports i job r s report at ended =
    let same : s.report ≡ report = cc in
    let submits = s.holds in
    let all = submits.all (s.stopped (ap (λ (n : NodeReport). n.ended) same ∙ ended)) in
    let sent = all_sent s.handed.left job.left s.sent submits.first all.0 in
    let given = submits.count.0 ∙ submits.count.1 in
    let heard = submits.replies.0 in
    let told = ap replies_in s.notices.1 ∙ replies_in_both s.got s.notices.0 in
    let within = replies_within r.client 0 s.report.log in
    let taken = matched (IsAnswered config r.node s.trail) (entries_of r.client s.report.log) (take r.tickets s.sent) s.entries ∙ length-take r.tickets s.sent in
    let many = s.many in
    omega (arith, given, all.1, sent, heard, told, within, taken, many)

pub none_left : (config : Config) (handed : List (ℕ × SubmitAll)) (reports : List NodeReport) (back : List SubmitAll) (clients : List ClientReport) → AreServed config SubmitsGiven handed reports back clients
    → (i : ℕ) (r : ClientReport) (report : NodeReport) → slice_get clients i ≡ Some r → slice_get reports r.node ≡ Some report → report.ended ≡ Stopped → r.left ≡ 0
none_left config handed reports back clients served i r report there at ended =
    let within = slice_get_within clients i r there in
    let job = found back i (omega (arith, within, served.0, served.1)) in
    nothing_left config handed reports i job.0 r (served.2 i job.0 r job.1 there) report at ended
