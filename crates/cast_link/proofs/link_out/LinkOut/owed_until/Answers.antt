use Rattle.std.proofs.Common.{◌≡◌, ◌<◌, ◌∙◌, sym, ap, arith, inl, inr, true≢false}
use Rattle.std.specs.Prelude.{is_some}
use Rattle.std.specs.FinMap as map
use Rattle.std.proofs.lemmas.Bool.{cases_lt}
use Rattle.cast_link.specs.Links.{Outward}
use Rattle.cast_link.proofs.Windows.{get-owed_map, none_past}
use Rattle.cast_link.proofs.link_out.LinkOut.owed_until.Goals as goal

pub returns : goal.returns
returns g c =
    let past = c.loop-slot-test.false in
    let most = c.max.ensures in
    let end = c.given-slot-end.ensures in
    let again = c.given.ensures in
    let given = ap (λ (k : Outward g.row.T.Denot). k.link.given) c.self.view_is in
    record {
      order = omega (arith, most);
      each = λ other l m. c.loop-slot.invariant other l (omega (arith, m, l, most, past, end, again));
      more = λ held. elim (cases_lt c.args.from c.given.result) [
        | inl l ↦ (omega (arith, most, l))
        | inr l ↦ absurd (true≢false (sym held ∙ ap is_some (sym (ap (λ (k : Outward g.row.T.Denot). map.get k.link.owed c.args.from) c.self.view_is) ∙ get-owed_map c.self.inside.base c.self.inside.places.items c.args.from ∙ none_past c.self.inside.base c.self.inside.places.items c.args.from (omega (arith, l, again, given)))))
      ];
    }
