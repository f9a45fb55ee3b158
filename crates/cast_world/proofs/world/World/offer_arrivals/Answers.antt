use Rattle.std.proofs.Common.{◌∙◌, ◌++◌, arith, ap, refl, sym}
use Rattle.std.specs.Prelude.{slice_get}
use Rattle.std.specs.List.{filter, flat_map, range_with_len}
use Rattle.cast_message.specs.declared.event.Event.TheVariants.{Arrive}
use Rattle.cast_model.specs.History.{frames}
use Rattle.cast_world.specs.Offers.{is_possible, brings_news, arrival_new}
use Rattle.cast_world.proofs.Offering.{grown_by, grown_not}
use Rattle.cast_world.proofs.Stepping.{made_count}
use Rattle.cast_world.proofs.world.World.offer_arrivals.Goals.{then-brings_news+in_ok-offer, else-brings_news}
use Rattle.cast_world.proofs.world.World.offer_arrivals.Goals as goal

pub loop-seq-preserved : goal.loop-seq-preserved
loop-seq-preserved c config past st = elim c.if-brings_news.branch [
  | then-brings_news+in_ok-offer w ↦
      grown_by (arrival_new past c.args.from) (is_possible config past) c.loop-seq.seq c.args.events.now.items c.loop-seq.events.items c.if-brings_news.events.items (Arrive c.args.from c.loop-seq.seq) (brings_news past c.args.from (slice_get (frames past c.args.from) c.loop-seq.seq)) refl
      (sym (c.brings_news.ensures config past st) ∙ w.if-brings_news.true) (c.loop-seq.invariant config past st) ((λ k. (w.events-is k).items) ∙ w.in_ok-offer.ensures config past st)
  | else-brings_news w ↦
      grown_not (arrival_new past c.args.from) (is_possible config past) c.loop-seq.seq c.args.events.now.items c.loop-seq.events.items c.if-brings_news.events.items (Arrive c.args.from c.loop-seq.seq) (brings_news past c.args.from (slice_get (frames past c.args.from) c.loop-seq.seq)) refl
      (sym (c.brings_news.ensures config past st) ∙ w.if-brings_news.false) (c.loop-seq.invariant config past st) (λ k. (w.events-is k).items)
]

pub returns : goal.returns
returns c config past st =
    c.loop-seq.invariant config past st
    ∙ ap (λ n. c.args.events.now.items ++ filter (is_possible config past) (flat_map (arrival_new past c.args.from) (range_with_len 0 n)))
    (omega (arith, c.loop-seq.auto.seq-end, c.loop-seq-test.false, c.frame_count-seq-end.ensures.value, made_count config past c.args.self.now st c.args.from))
