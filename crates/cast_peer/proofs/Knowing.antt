-- What is known of a peer by what it did.
use Rattle.std.proofs.Common.{◌≡◌, ℕ, zero, suc, ◌+◌, ◌<◌, max, Bool, false, List, [], ◌∷◌, ◌++◌, slice_get, Option, Some, None, sym, refl, ap, ◌∙◌, subst, ◌⊎◌, inl, inr, ⊎_elim, arith}
use Rattle.cast_message.specs.declared.config.Config.{Config}
use Rattle.cast_model.specs.Steps.{Step, Arrived, Stopped, making}
use Rattle.cast_message.specs.declared.message.FrameKind.{FrameKind}
use Rattle.cast_message.specs.declared.message.FrameKind.TheVariants as kinds
use Rattle.cast_log.specs.declared.entry.Entry.{Entry}
use Rattle.cast_log.specs.declared.entry.Origin.{Origin}
use Rattle.cast_log.specs.declared.entry.EntryKind.TheVariants.{Step as StepEntry, Refused}
use Rattle.cast_node.specs.Linked.{event_of, outcome_in_answer}
use Rattle.cast_journal.specs.declared.order.OrderIn.{OrderIn}
use Rattle.cast_journal.specs.declared.parcel.Parcel.{Parcel}
use Rattle.cast_journal.specs.Lists.{Has}
use Rattle.cast_journal.proofs.Lists.{has_left, has_last, has_none, has_snoc}
use Rattle.cast_journal.specs.Journals.{JournalState, LogsStep, LogsRefusal, LogsOrder, OnlyEnds, Halts, Rises, is_arrival_event, KeepsOf}
use Rattle.cast_journal.specs.Runs.{origin_of}
use Rattle.cast_journal.proofs.Journaling.{rises_more}
use Rattle.cast_journal.proofs.Running.{halt_kept, came_kept, same_me, order_kept, made_kept}
use Rattle.cast_journal.proofs.RunLogs.{keeps_new}
use Rattle.cast_wire.specs.Law.{HasNumbers}
use Rattle.cast_peer.specs.Peers.{begun, packet_of, bytes_of, Takes}
use Rattle.cast_peer.specs.Law.{Did, Gave, Lost, Took, Asked, Ended, Makes, Does, IsRunOf}

pub record Known (group : ℕ) (config : Config) (me : ℕ) (ds : List Did) (j : JournalState) : Type 0 where
  pub put : List Parcel
  pub came : List (ℕ × Parcel)
  pub orders : List (ℕ × OrderIn)
  pub keeps : KeepsOf j put None came None orders
  pub took : (m : ℕ × Parcel) → Has came m → Has ds (Took (bytes_of group m.1)) × HasNumbers (packet_of group m.1)
  pub given : (b : List ℕ) → Has ds (Gave b) → (x : Parcel) × Has put x × (b ≡ bytes_of group x) × HasNumbers (packet_of group x)
  pub same_config : j.config ≡ config
  pub same_me : j.node.me ≡ me
  pub rises : Rises config.first_stamp j.log j.clock

has_more : {A : Type 0} (y : A) (xs : List A) (x : A) → Has xs x → Has (y ∷ xs) x
has_more y xs x h = (suc h.0, h.1)

-- the stamps rise on
rise_step : (first : ℕ) (old new : JournalState) (step : Step) (origin : Option Origin) (above : ℕ) (l : LogsStep old new step origin above)
    → (is_arrival_event (event_of old.node.me step) ≡ false → above ≡ old.clock) → Rises first old.log old.clock → Rises first new.log new.clock
rise_step first old new step origin above l quiet r =
    let e : Entry = record { stamp = l.stamp; kind = StepEntry (event_of old.node.me step) origin (outcome_in_answer l.answer) } in
    subst (λ c. Rises first new.log c) (sym l.logs.clock) (subst (λ g. Rises first g l.stamp) (sym l.logs.log)
    (rises_more old.log first old.clock e r (omega (arith, l.next), λ h. let same = quiet h in omega (arith, l.next, same))))

rise_refusal : (first : ℕ) (old new : JournalState) (order : OrderIn) (l : LogsRefusal old new order) → Rises first old.log old.clock → Rises first new.log new.clock
rise_refusal first old new order l r =
    let e : Entry = record { stamp = l.stamp; kind = Refused (origin_of order) l.fault } in
    subst (λ c. Rises first new.log c) (sym l.logs.clock) (subst (λ g. Rises first g l.stamp) (sym l.logs.log)
    (rises_more old.log first old.clock e r (omega (arith, l.next), λ h. l.next)))

rise_order : (first : ℕ) (old new : JournalState) (order : OrderIn) → LogsOrder old new order → Rises first old.log old.clock → Rises first new.log new.clock
rise_order first old new order h r = ⊎_elim (λ l. rise_step first old new _ _ old.clock l (λ _. refl) r) (λ l. rise_refusal first old new order l r) h

quiet_making : (p : ℕ) (clock : ℕ) (kind : FrameKind) (to slot : ℕ) → is_arrival_event (event_of p (making kind to slot)) ≡ false → clock ≡ clock
quiet_making p clock kind to slot h = refl

module _ (group : ℕ) (config : Config) (me : ℕ) (ds : List Did) (old new : JournalState) (k : Known group config me ds old) where
  -- a frame was made
  made : (d : Did) (x : Parcel) → Makes group old x new → ((b : List ℕ) → Has (d ∷ ds) (Gave b) → Has ds (Gave b) ⊎ (b ≡ bytes_of group x)) → Known group config me (d ∷ ds) new
  made d x m news =
      let l = m.makes.0 in record {
        put = k.put ++ x ∷ [];
        came = k.came;
        orders = k.orders;
        keeps = made_kept old new k.put (k.put ++ x ∷ []) None None k.came None k.orders k.keeps x old.clock m.makes.2 refl (inl (refl, refl)) m.kind m.to m.slot l m.makes.1;
        took = λ n h. let t = k.took n h in (has_more d ds _ t.0, t.1);
        given = λ b h. ⊎_elim
            (λ (o : Has ds (Gave b)). let g = k.given b o in (g.0, has_left k.put (x ∷ []) g.0 g.1, g.2, g.3))
            (λ (e : b ≡ bytes_of group x). (x, has_last k.put x, e, m.numbers)) (news b h);
        same_config = l.logs.same_config ∙ k.same_config;
        same_me = same_me old new k.put None k.came None k.orders k.keeps (making m.kind m.to m.slot) None old.clock l ∙ k.same_me;
        rises = rise_step config.first_stamp old new (making m.kind m.to m.slot) None old.clock l (quiet_making old.node.me old.clock m.kind m.to m.slot) k.rises;
      }

  same_bytes : (b c : List ℕ) → ◌≡◌ {A = Option Did} (Some (Gave b)) (Some (Gave c)) → b ≡ c
  same_bytes b c e = cc

  -- what was given before was given
  before_gave : (c : List ℕ) (x : Parcel) → c ≡ bytes_of group x → (b : List ℕ) → Has (Gave c ∷ ds) (Gave b) → Has ds (Gave b) ⊎ (b ≡ bytes_of group x)
  before_gave c x is b (zero, e) = inr (sym (same_bytes c b e) ∙ is)
  before_gave c x is b (suc i, e) = inl (i, e)

  before_lost : (b : List ℕ) → Has (Lost ∷ ds) (Gave b) → Has ds (Gave b)
  before_lost b (zero, e) = absurd cc
  before_lost b (suc i, e) = (i, e)

  before_took : (c b : List ℕ) → Has (Took c ∷ ds) (Gave b) → Has ds (Gave b)
  before_took c b (zero, e) = absurd cc
  before_took c b (suc i, e) = (i, e)

  before_asked : (order : OrderIn) (b : List ℕ) → Has (Asked order ∷ ds) (Gave b) → Has ds (Gave b)
  before_asked order b (zero, e) = absurd cc
  before_asked order b (suc i, e) = (i, e)

  before_ended : (b : List ℕ) → Has (Ended ∷ ds) (Gave b) → Has ds (Gave b)
  before_ended b (zero, e) = absurd cc
  before_ended b (suc i, e) = (i, e)

  took_now : (bytes : List ℕ) → Takes group old bytes new → Known group config me (Took bytes ∷ ds) new
  took_now bytes t =
      let l = t.takes.0 in let m : ℕ × Parcel = (0, t.x) in
      let Tells : ℕ × Parcel → Type 0 = λ n. Has (Took bytes ∷ ds) (Took (bytes_of group n.1)) × HasNumbers (packet_of group n.1) in
      let last : Tells m = ((0, ap (λ b. Some (Took b)) t.is), t.numbers) in
      record {
        put = k.put;
        came = k.came ++ m ∷ [];
        orders = k.orders;
        keeps = came_kept old new k.put None k.came k.orders m k.keeps t.takes.1 l;
        took = λ n h. ⊎_elim (λ (o : Has k.came n). let g = k.took n o in (has_more (Took bytes) ds _ g.0, g.1)) (λ (e : m ≡ n). subst Tells e last) (has_snoc k.came m n h);
        given = λ b h. k.given b (before_took bytes b h);
        same_config = l.logs.same_config ∙ k.same_config;
        same_me = same_me old new k.put None k.came None k.orders k.keeps (Arrived t.x.frame) None t.x.stamp l ∙ k.same_me;
        rises = rise_step config.first_stamp old new (Arrived t.x.frame) None t.x.stamp l (λ h. absurd cc) k.rises;
      }

  asked_me : (order : OrderIn) → LogsOrder old new order → new.node.me ≡ old.node.me
  asked_me order h = ⊎_elim (λ l. same_me old new k.put None k.came None k.orders k.keeps _ _ old.clock l) (λ (l : LogsRefusal old new order). ap (λ n. n.me) l.gives.1) h

  asked_config : (order : OrderIn) → LogsOrder old new order → new.config ≡ old.config
  asked_config order h = ⊎_elim (λ l. l.logs.same_config) (λ (l : LogsRefusal old new order). l.logs.same_config) h

  asked_now : (order : OrderIn) → LogsOrder old new order → Known group config me (Asked order ∷ ds) new
  asked_now order h = record {
    put = k.put;
    came = k.came;
    orders = k.orders ++ (0, order) ∷ [];
    keeps = order_kept old new k.put None k.came None k.orders k.keeps order 0 h;
    took = λ n o. let t = k.took n o in (has_more (Asked order) ds _ t.0, t.1);
    given = λ b o. k.given b (before_asked order b o);
    same_config = asked_config order h ∙ k.same_config;
    same_me = asked_me order h ∙ k.same_me;
    rises = rise_order config.first_stamp old new order h k.rises;
  }

  halted_me : Halts old new → new.node.me ≡ old.node.me
  halted_me h = ⊎_elim (λ (e : OnlyEnds old new). ap (λ (j : JournalState). j.node.me) e) (λ l. same_me old new k.put None k.came None k.orders k.keeps Stopped None old.clock l) h

  halted_config : Halts old new → new.config ≡ old.config
  halted_config h = ⊎_elim (λ (e : OnlyEnds old new). ap (λ (j : JournalState). j.config) e) (λ l. l.logs.same_config) h

  halted_rises : Halts old new → Rises config.first_stamp new.log new.clock
  halted_rises h = ⊎_elim (λ (e : OnlyEnds old new). subst (λ (j : JournalState). Rises config.first_stamp j.log j.clock) (sym e) k.rises) (λ l. rise_step config.first_stamp old new Stopped None old.clock l (λ _. refl) k.rises) h

  ended_now : Halts old new → Known group config me (Ended ∷ ds) new
  ended_now h = record {
    put = k.put;
    came = k.came;
    orders = k.orders;
    keeps = halt_kept old new k.put None k.came None k.orders k.keeps h;
    took = λ n o. let t = k.took n o in (has_more Ended ds _ t.0, t.1);
    given = λ b o. k.given b (before_ended b o);
    same_config = halted_config h ∙ k.same_config;
    same_me = halted_me h ∙ k.same_me;
    rises = halted_rises h;
  }

  does : (d : Did) → Does group old d new → Known group config me (d ∷ ds) new
  does (Gave bytes) h = made (Gave bytes) h.0 h.1 (before_gave bytes h.0 h.2)
  does Lost h = made Lost h.0 h.1 (λ b o. inl (before_lost b o))
  does (Took bytes) h = took_now bytes h
  does (Asked order) h = asked_now order h
  does Ended h = ended_now h

nothing : (group : ℕ) (config : Config) (me : ℕ) → me < config.nodes → (turns : ℕ) → Known group config me [] (begun config me turns)
unfolding Rises
nothing group config me lt turns = record {
  put = [];
  came = [];
  orders = [];
  keeps = keeps_new config me lt;
  took = λ m h. absurd (has_none m h);
  given = λ b h. absurd (has_none (Gave b) h);
  same_config = refl;
  same_me = refl;
  rises = refl;
}

pub known : (group : ℕ) (config : Config) (me : ℕ) → me < config.nodes → (ds : List Did) (j : JournalState) → IsRunOf group config me ds j → Known group config me ds j
unfolding IsRunOf
known group config me lt [] j r = subst (Known group config me []) (sym r.1) (nothing group config me lt r.0)
known group config me lt (d ∷ ds) j r = does group config me ds r.0 j (known group config me lt ds r.0 r.1) d r.2
