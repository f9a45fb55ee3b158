-- A node that has done nothing stands for no steps.
use Rattle.std.proofs.Common.{ℕ, ◌<◌, refl, sym, ◌∙◌, ap, subst, not, ◌&&◌, [], Some, None, arith}
use Rattle.std.specs.Prelude.{slice_index_or, if◌then◌else◌}
use Rattle.std.specs.Ordering.{nat_cmp}
use Rattle.std.specs.FinSet as set
use Rattle.std.specs.FinSet.{contains-empty}
use Rattle.std.specs.FinMap as finite
use Rattle.std.specs.FinMap.{get-empty, len-empty}
use Rattle.std.proofs.lemmas.Bool.{le-ltb}
use Rattle.cast_message.specs.declared.config.Config.{Config}
use Rattle.cast_message.specs.declared.message.Message.{Message}
use Rattle.cast_model.specs.History.{has_pair}
use Rattle.cast_model.specs.Steps.{each, frame_count, held}
use Rattle.cast_model.specs.OwnSteps.{own_live, own_given, own_taken, own_acked, own_owed, own_is_ready, own_log, message_in, message_at, IsOwnAccepted}
use Rattle.cast_fifo.specs.HeldBack.{nothing_held}
use Rattle.cast_fifo.specs.HoldsBack.{HoldsBack}
use Rattle.cast_node.specs.Kept.{nothing_kept}
use Rattle.cast_node.specs.Stands.{item_at, newest_first, StandsOut, Stands}
use Rattle.cast_node.proofs.Places.{at_replicate, length-replicated}

nothing_out : (me q : ℕ) → StandsOut me [] q (record { given = 0; owed = finite.empty })
unfolding own_given held own_owed
nothing_out me q = record {
  given = refl;
  owed = λ slot. get-empty nat_cmp slot ∙ sym (ap (λ b. if b && not (own_acked [] q slot) then Some (message_in [] slot) else None) (le-ltb slot 0 (omega arith)));
  count = len-empty nat_cmp Message;
}

nothing_back : (config : Config) (me s : ℕ) → HoldsBack (item_at (held me []) s) (own_is_ready config me [] s) nothing_held
unfolding held message_at own_is_ready has_pair
nothing_back config me s = record {
  below = λ i l. absurd (omega (arith, l));
  stops = refl;
  waits = λ i l. refl;
  ascends = tt;
  closed = refl;
}

pub stands_for_nothing : (config : Config) (me : ℕ) → me < config.nodes → Stands config me [] (nothing_kept config me)
unfolding IsOwnAccepted own_live frame_count own_taken own_log newest_first has_pair held each
stands_for_nothing config me place = record {
  accepted = tt;
  place = place;
  same_config = refl;
  same_me = refl;
  live = refl;
  frames = refl;
  stream = refl;
  peers_out = length-replicated config.nodes (record { given = 0; owed = finite.empty });
  out = λ q l e. subst (StandsOut me [] q) (sym (at_replicate config.nodes q (record { given = 0; owed = finite.empty }))) (nothing_out me q);
  peers_in = length-replicated config.nodes (set.empty {R = nat_cmp});
  taken = λ r slot l. ap (λ taken. set.contains taken slot) (at_replicate config.nodes r (set.empty {R = nat_cmp})) ∙ contains-empty nat_cmp slot;
  senders_back = length-replicated config.nodes nothing_held;
  holds_back = λ s l. subst (HoldsBack (item_at (held me []) s) (own_is_ready config me [] s)) (sym (at_replicate config.nodes s nothing_held)) (nothing_back config me s);
  senders_known = length-replicated config.nodes [];
  knows = λ s i r l. ap (λ row. set.contains (slice_index_or row i (set.empty {R = nat_cmp})) r) (at_replicate config.nodes s []) ∙ contains-empty nat_cmp r;
  senders_delivered = length-replicated config.nodes [];
  delivers = λ s l. at_replicate config.nodes s [];
  agrees = refl;
}
