use Rattle.std.proofs.Common.{◌≡◌, ◌∷◌, Some, true, false, codes, bytes_eq, ◌<◌, length, option_map, sym, ap, ◌∙◌, subst, arith}
use Rattle.json.specs.Token.{Token}
use Rattle.serde_json.specs.Data.{no_members, put}
use Rattle.serde_json.specs.View.{view, members_view}
use Rattle.serde_json.proofs.Views.{view-Object}
use Rattle.cast_script.proofs.PlainLemmas.{AreRead, keyed, ended, members_start, member_read, events_read, members_done, events_shorter, value_no_longer}
use Rattle.cast_script.specs.Plain.{SaysMembers}
use Rattle.cast_script.proofs.plain.members.Goals.{then-eq+in_ok-events, else-eq+in_ok-value}
use Rattle.cast_script.proofs.plain.members.Goals as goal

pub members-init : goal.members-init
members-init c =
    let start = c.args.reader.now in
    subst (λ es. AreRead start start (members_view es) c.new-events.result) (sym c.new-others.ensures.empty)
    (subst (AreRead start start no_members) (sym c.new-events.ensures) (members_start start))

pub members-smaller : goal.members-smaller
members-smaller c =
    let name = c.in-Some.name.now in
    let next = c.next_name.new.reader in
    let key : c.members.reader ≡ Token.key name ∷ next = keyed c.members.reader next name (c.in_ok-name.ensures ∙ ap (λ o. Some (option_map (λ s. s.now) o, next)) c.in-Some.is) in
    let less : length c.if-eq.reader < length c.members.reader = elim c.if-eq.branch [
      | then-eq+in_ok-events w ↦ let h = w.in_ok-events.ensures in omega (arith, ap length w.reader-is, events_shorter h.0 w.in_ok-events.events w.list_of_events.new.reader h.2, ap length h.1, ap length key)
      | else-eq+in_ok-value w ↦ omega (arith, ap length w.reader-is, value_no_longer next (view w.in_ok-value.value) w.value.new.reader w.in_ok-value.ensures, ap length key)
    ] in
    less

pub members-preserved : goal.members-preserved
members-preserved c =
    let start = c.args.reader.now in
    let name = c.in-Some.name.now in
    let next = c.next_name.new.reader in
    let key : c.members.reader ≡ Token.key name ∷ next = keyed c.members.reader next name (c.in_ok-name.ensures ∙ ap (λ o. Some (option_map (λ s. s.now) o, next)) c.in-Some.is) in
    let shown = members_view c.members.others.entries in
    let inserted : members_view c.set_member.new.members.entries ≡ put name (view c.if-eq.value) shown = c.in_ok-set_member.ensures in
    elim c.if-eq.branch [
      | then-eq+in_ok-events w ↦
          let h = w.in_ok-events.ensures in
          let named : bytes_eq name (codes "events") ≡ true = grind arith in
          rw (inserted, w.reader-is, w.events-is) (events_read start c.members.reader next h.0 w.list_of_events.new.reader name (view c.if-eq.value) shown c.members.events w.in_ok-events.events c.members.invariant key h.1 h.2 named)
      | else-eq+in_ok-value w ↦
          let other : bytes_eq name (codes "events") ≡ false = grind arith in
          let is = ap view w.value-is in
          rw (inserted, w.reader-is, w.events-is, is) (member_read start c.members.reader next w.value.new.reader name (view w.in_ok-value.value) shown c.members.events c.members.invariant key w.in_ok-value.ensures other)
    ]

pub returns : goal.returns
returns c =
    let rest = c.next_name.new.reader in
    let end : c.members.reader ≡ Token.end_object ∷ rest = ended c.members.reader rest (c.in_ok-name.ensures ∙ ap (λ o. Some (option_map (λ s. s.now) o, rest)) c.in_default.is) in
    subst (λ d. SaysMembers c.args.reader.now d c.members.events rest) (sym (view-Object c.members.others))
    (members_done c.args.reader.now c.members.reader rest (members_view c.members.others.entries) c.members.events c.members.invariant end)
