-- The same engine, call after call.
use Rattle.std.proofs.Common.{◌≡◌, ◌∙◌, sym, subst, Option, Some}
use Rattle.cast_desk.specs.declared.desk.Desk.{Desk}
use Rattle.cast_box.specs.Ends.{IsSameTaker, AreSamePutters}
use Rattle.cast_box.proofs.Same.{taker_same, putters_same, taker_again, putter_again, putters_again}
use Rattle.cast_resend.specs.declared.resend.Resend.{Resend}
use Rattle.cast_engine.specs.Engines.{EngineState, IsSameDesk, IsSameEngine}

desk_self : (d : Option Desk) → IsSameDesk d d
desk_self d = record { none = λ e. e; some = λ x e. (x, e, taker_same x.orders, putters_same x.trays.items) }

pub desk_same : (old new : Option Desk) → new ≡ old → IsSameDesk old new
desk_same old new is = let P : Option Desk → Type 0 = λ d. IsSameDesk old d in subst P (sym is) (desk_self old)

pub desk_again : (c d e : Option Desk) → IsSameDesk c d → IsSameDesk d e → IsSameDesk c e
desk_again c d e p q = record {
  none = λ none. p.none (q.none none);
  some = λ x at. let one = q.some x at in let two = p.some one.0 one.1 in
      (two.0, two.1, taker_again two.0.orders one.0.orders x.orders two.2 one.2, putters_again two.0.trays.items one.0.trays.items x.trays.items two.3 one.3);
}

-- where a desk was used, its ends are the same
pub desk_used : (old : Option Desk) (was now : Desk) → old ≡ Some was → IsSameTaker was.orders now.orders → AreSamePutters was.trays.items now.trays.items → IsSameDesk old (Some now)
desk_used old was now is t p = record {
  none = λ none. cc;
  some = λ d e. let same : now ≡ d = cc in let P : Desk → Type 0 = λ z. (w : Desk) × (old ≡ Some w) × IsSameTaker w.orders z.orders × AreSamePutters w.trays.items z.trays.items in subst P same (was, is, t, p);
}

pub engine_again : (a b c : EngineState) → IsSameEngine a b → IsSameEngine b c → IsSameEngine a c
engine_again a b c f g = record {
  config = g.config ∙ f.config;
  me = g.me ∙ f.me;
  crash = g.crash ∙ f.crash;
  outbox = putter_again a.outbox b.outbox c.outbox f.outbox g.outbox;
  inbox = taker_again a.inbox b.inbox c.inbox f.inbox g.inbox;
  desk = desk_again a.desk b.desk c.desk f.desk g.desk;
}

pub same_resent : (a b : EngineState) (r : Resend) → IsSameEngine a b → IsSameEngine a (record b { resend = r })
same_resent a b r same = record { config = same.config; me = same.me; crash = same.crash; outbox = same.outbox; inbox = same.inbox; desk = same.desk }
