use Rattle.std.proofs.Common.{◌≡◌, ◌+◌, ◌<◌, ◌/◌, [], ◌∷◌, ◌++◌, length, Some, ap, ◌∙◌, arith, length-append}
use Rattle.std.specs.FinMap as map
use Rattle.std.proofs.lemmas.Bool.Decides.{nat_tests}
use Rattle.cast_link.specs.Taken.{bit_of}
use Rattle.cast_link.specs.Links.{Outward, link_of}
use Rattle.cast_link.proofs.Windows.{owed_map-push, len-owed_map}
use Rattle.cast_link.proofs.Marks.{one_given}
use Rattle.cast_link.proofs.link_out.LinkOut.give_reserved.Goals as goal

pub overflow_add-self : goal.overflow_add-self
overflow_add-self g c = omega (arith, c.self.invariant.count, c.self.invariant.fits, len-owed_map c.self.inside.base c.self.inside.places.items, c.requires.number, ap (λ (o : Outward g.row.T.Denot). o.link.given) c.self.view_is)

pub invariant_of-self : goal.invariant_of-self
invariant_of-self g c =
    let base = c.self.inside.base in
    let places = c.self.inside.places.items in
    let given = ap (λ (o : Outward g.row.T.Denot). o.link.given) c.self.view_is in
    let seen = ap (λ (o : Outward g.row.T.Denot). o.room) c.self.view_is ∙ c.requires.room in
    let room : bit_of base (base + length places) / 64 < length c.self.inside.marks.items = grind (arith, nat_tests, seen) in
    one_given base places c.push_back_reserved.new.self.items c.self.inside.marks.items c.self.inside.owed c.args.kept c.self.invariant c.push_back_reserved.ensures.items (omega (arith, given, c.requires.number)) room

pub returns-clause-after : goal.returns-clause-after
returns-clause-after g c =
    let base = c.self.inside.base in
    let places = c.self.inside.places.items in
    let view = c.self.view_is in
    let given : base + length (places ++ Some c.args.kept ∷ []) ≡ c.args.self.now.link.given + 1 = omega (arith, length-append places (Some c.args.kept ∷ []), ap (λ (o : Outward g.row.T.Denot). o.link.given) view) in
    ap (link_of base) c.push_back_reserved.ensures.items
    ∙ (λ i. record { given = given i; owed = (owed_map-push base places c.args.kept ∙ (λ k. map.insert (view k).link.owed (view k).link.given c.args.kept)) i })
