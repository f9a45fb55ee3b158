use Rattle.std.proofs.Common.{◌<◌, ◌≤◌, inl, inr, deque_len, true≢false, None, length, refl, sym, ap, ◌∙◌, arith}
use Rattle.std.specs.FinMap as map
use Rattle.std.specs.Option.{option_copied}
use Rattle.std.proofs.lemmas.List.{get_or_default}
use Rattle.std.proofs.lemmas.Bool.Decides.{leb_tells}
use Rattle.cast_link.specs.Links.{Outward}
use Rattle.cast_link.proofs.Windows.{get-owed_map, none_past, none_below, owed_inside}
use Rattle.cast_link.proofs.link_out.LinkOut.get.Goals as goal

pub returns-in_err-place : goal.returns-in_err-place
returns-in_err-place g c = ap option_copied c.from_residual.ensures ∙ sym (sym (ap (λ (k : Outward g.row.T.Denot). map.get k.link.owed c.args.slot) c.self.view_is) ∙ get-owed_map c.self.inside.base c.self.inside.places.items c.args.slot ∙ none_below _ _ c.args.slot (omega (arith, c.in_err-place.ensures)))

pub returns-in_err-get : goal.returns-in_err-get
returns-in_err-get g c =
    let past : deque_len c.self.inside.places ≤ c.in_ok-place.place = elim (leb_tells (deque_len c.self.inside.places) c.in_ok-place.place) [ inl l ↦ l.1 | inr l ↦ absurd (true≢false (sym (c.in_err-get.ensures.variant.1 l.1))) ] in
    ap option_copied c.from_residual-in_err-get.ensures ∙ sym (sym (ap (λ (k : Outward g.row.T.Denot). map.get k.link.owed c.args.slot) c.self.view_is) ∙ get-owed_map c.self.inside.base c.self.inside.places.items c.args.slot ∙ none_past c.self.inside.base c.self.inside.places.items c.args.slot (omega (arith, past, c.in_ok-place.ensures, c.self.inside.places.ok)))

pub returns : goal.returns
returns g c =
    let places = c.self.inside.places.items in
    let inside : c.in_ok-place.place < deque_len c.self.inside.places = c.in_ok-get.ensures.variant.0 refl in
    let within : c.in_ok-place.place < length places = omega (arith, inside, c.self.inside.places.ok) in
    c.as_ref.ensures.value ∙ c.in_ok-get.ensures.lookup ∙ get_or_default places c.in_ok-place.place c.in_ok-get.field-0.now None within ∙ sym (sym (ap (λ (k : Outward g.row.T.Denot). map.get k.link.owed c.args.slot) c.self.view_is) ∙ get-owed_map c.self.inside.base places c.args.slot ∙ owed_inside c.self.inside.base places c.args.slot c.in_ok-place.place (omega (arith, c.in_ok-place.ensures)))
