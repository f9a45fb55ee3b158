use Rattle.std.proofs.Common.{◌≡◌, suc, Bor, refl, false, true≢false, ◌+◌, Option, Some, None, is_some, sym, ap, ◌∙◌, arith, inl, inr}
use Rattle.std.specs.FinMap as map
use Rattle.std.specs.Option.{option_copied}
use Rattle.std.proofs.lemmas.Bool.Decides.{leb_tells}
use Rattle.cast_message.specs.Bits.{is_set}
use Rattle.cast_link.specs.Links.{Outward}
use Rattle.cast_link.proofs.Windows.{get-owed_map, none_past, none_below}
use Rattle.cast_link.proofs.Marks.{none_in_word}
use Rattle.cast_link.proofs.link_out.LinkOut.least_owed.Goals as goal

pub loop-slot-init : goal.loop-slot-init
loop-slot-init g c = record {
  from = omega (arith, c.max-slot.ensures);
  base = omega (arith, c.max-slot.ensures);
  none = λ other l m. sym (ap (λ (k : Outward g.row.T.Denot). map.get k.link.owed other) c.self.view_is) ∙ get-owed_map c.self.inside.base c.self.inside.places.items other ∙ none_below c.self.inside.base c.self.inside.places.items other (omega (arith, c.max-slot.ensures, l, m));
}

copied_none : {X : Type 0} (o : Option (Bor X)) → is_some o ≡ false → option_copied o ≡ None
copied_none None e = refl
copied_none (Some x) e = absurd (true≢false e)

pub loop-slot-preserved : goal.loop-slot-preserved
loop-slot-preserved g c =
    let i = c.loop-slot.invariant in
    let slot = c.loop-slot.slot in
    let here : map.get c.args.self.now.link.owed slot ≡ None = sym c.get.ensures ∙ copied_none c.get.result (sym c.is_some.ensures ∙ c.if-is_some.false) in
    record {
      from = omega (arith, i.from, c.saturating_add-slot.ensures, c.max.ensures, c.args.from, c.ranges.from);
      base = omega (arith, i.base, c.saturating_add-slot.ensures, c.max.ensures);
      none = λ other l m. elim (leb_tells (suc other) slot) [
        | inl h ↦ i.none other l h.1
        | inr h ↦ elim (leb_tells (suc slot) other) [
          | inl f ↦
              sym (ap (λ (k : Outward g.row.T.Denot). map.get k.link.owed other) c.self.view_is)
              ∙ none_in_word c.self.inside.base c.self.inside.places.items c.self.inside.marks.items c.self.inside.owed slot c.full_word-acknowledged.result other c.self.invariant i.base
              (λ k n. ap (λ bit. is_set c.self.inside.marks.items (bit + k)) (sym c.bit_of.ensures) ∙ c.full_word-acknowledged.ensures.set k n)
              (omega (arith, f.1))
              (omega (arith, m, f.1, c.saturating_add-slot.ensures, c.max.ensures))
          | inr f ↦ ap (map.get c.args.self.now.link.owed) (let e : other ≡ slot = omega (arith, h.1, f.1) in e) ∙ here
        ]
      ];
    }

pub returns : goal.returns
returns g c other l = elim (leb_tells (c.loop-slot.slot) other) [
  | inl h ↦ sym (ap (λ (k : Outward g.row.T.Denot). map.get k.link.owed other) c.self.view_is) ∙ get-owed_map c.self.inside.base c.self.inside.places.items other ∙ none_past c.self.inside.base c.self.inside.places.items other (omega (arith, h.1, c.loop-slot-test.false, c.given.ensures, ap (λ (k : Outward g.row.T.Denot). k.link.given) c.self.view_is))
  | inr h ↦ c.loop-slot.invariant.none other l h.1
]
