-- What is remembered about the slots that were sent, call by call.
use Rattle.std.proofs.Common.{◌≡◌, ◌≢◌, ℕ, ◌<◌, Bool, true, false, not, ◌&&◌, List, Option, Some, None, if◌then◌else◌, refl, sym, ap, ◌∙◌, subst, inl, inr, ⊎_elim}
use Rattle.std.specs.Prelude.{IsTrue, IsFalse, is_some, nat_eq}
use Rattle.std.specs.FinMap as finite
use Rattle.std.proofs.lemmas.Bool.{ltb-true}
use Rattle.std.proofs.lemmas.Bool.Decides.{eqb_tells}
use Rattle.cast_message.specs.declared.config.Config.{Config}
use Rattle.cast_message.specs.declared.message.FrameKind.{FrameKind}
use Rattle.cast_message.specs.declared.message.FrameKind.TheVariants as kinds
use Rattle.cast_message.specs.declared.message.Message.{Message}
use Rattle.cast_model.specs.Steps.{Step, Arrived, Stopped, making}
use Rattle.cast_log.specs.declared.entry.Origin.{Origin}
use Rattle.cast_node.specs.Kept.{Kept, link_to}
use Rattle.cast_node.specs.Turns.{kept_after}
use Rattle.cast_desk.specs.declared.desk.Desk.{Desk}
use Rattle.cast_journal.specs.declared.order.OrderIn.{OrderIn}
use Rattle.cast_journal.specs.declared.parcel.Parcel.{Parcel}
use Rattle.cast_journal.specs.Journals.{JournalState, LogsStep, LogsOrder, OnlyEnds, Halts, MayLog}
use Rattle.cast_resend.specs.declared.resend.Resend.{Resend}
use Rattle.cast_resend.specs.Dues.{owes}
use Rattle.cast_resend.specs.Hopes.{IsDueTo}
use Rattle.cast_resend.specs.Keeps.{Keeps, HasPlace, GivesPast, OwesLess}
use Rattle.cast_resend.proofs.Keeping.{keeps_less, less_past, less_self}
use Rattle.cast_resend.proofs.Nodes.{less_sent, less_acknowledged, less_stopped, gives_ordered, gives_arrived, first_of_two, second}
use Rattle.cast_engine.specs.declared.feeding.Place.{Place}
use Rattle.cast_engine.specs.Engines.{EngineState, EngineStays}

-- the node keeps what it kept
pub keeps_same : (old new : JournalState) (r : Resend) → new.node ≡ old.node → Keeps old.node r → Keeps new.node r
keeps_same old new r e k = subst (λ n. Keeps n r) (sym e) k

keeps_step : (old new : JournalState) (r : Resend) (step : Step) (origin : Option Origin) (above : ℕ) → LogsStep old new step origin above → OwesLess old.node (kept_after old.node step) → Keeps old.node r → Keeps new.node r
keeps_step old new r step origin above l less k = keeps_less old.node new.node r (subst (OwesLess old.node) (sym l.gives.2) less) k

pub keeps_halt : (old new : JournalState) (r : Resend) → Halts old new → Keeps old.node r → Keeps new.node r
keeps_halt old new r h k =
    ⊎_elim (λ (e : OnlyEnds old new). keeps_same old new r (ap (λ (j : JournalState). j.node) e) k)
    (λ (l : LogsStep old new Stopped None old.clock). keeps_step old new r Stopped None old.clock l (less_stopped old.node) k) h

-- a journal that was asked whether an entry may be logged
pub keeps_asked : (old new : JournalState) (r : Resend) (may : Bool) → (IsTrue may → (new ≡ old) × MayLog old) → (IsFalse may → Halts old new) → Keeps old.node r → Keeps new.node r
keeps_asked old new r true on off k = keeps_same old new r (ap (λ (j : JournalState). j.node) (on refl).0) k
keeps_asked old new r false on off k = keeps_halt old new r (off refl) k

less_made : (kept : Kept) (kind : FrameKind) (to slot : ℕ) → OwesLess kept (kept_after kept (making kind to slot))
less_made kept kinds.Carry to slot = less_sent kept to slot
less_made kept kinds.Took to slot = less_acknowledged kept to slot

-- a frame was made
module _ (old new : JournalState) (kind : FrameKind) (to slot above : ℕ) (l : LogsStep old new (making kind to slot) None above) where
  pub keeps_made : (r : Resend) → Keeps old.node r → Keeps new.node r
  keeps_made r k = keeps_step old new r (making kind to slot) None above l (less_made old.node kind to slot) k

-- an order was taken, so that any peer may have been given slots
pub keeps_ordered : (old new : JournalState) (order : OrderIn) (r r' : Resend) → LogsOrder old new order → ((before after : Kept) → Keeps before r → GivesPast before after → Keeps after r') → Keeps old.node r → Keeps new.node r'
keeps_ordered old new order r r' logs given k = given old.node new.node k (elim logs [
  | inl l ↦ subst (GivesPast old.node) (sym l.gives.2) (gives_ordered old.node order.item)
  | inr l ↦ subst (GivesPast old.node) (sym l.gives.1) (less_past old.node old.node (less_self old.node))
])

-- a frame arrived
pub keeps_arrived : (old new : JournalState) (x : Parcel) (news : Bool) (r r' : Resend) → LogsStep old new (Arrived x.frame) None x.stamp → (IsFalse news → OwesLess old.node (kept_after old.node (Arrived x.frame)))
    → ((before after : Kept) → Keeps before r → GivesPast before after → (IsFalse news → OwesLess before after) → Keeps after r') → Keeps old.node r → Keeps new.node r'
keeps_arrived old new x news r r' l less noted k =
    noted old.node new.node k (subst (GivesPast old.node) (sym l.gives.2) (gives_arrived old.node x.frame)) (λ none. subst (OwesLess old.node) (sym l.gives.2) (less none))

-- ---- a slot that is due

some_first : (a b : Bool) (m : Message) → is_some (if a && b then Some m else None) ≡ true → a ≡ true
some_first true b m e = refl
some_first false b m e = absurd cc

differs : (q me : ℕ) → not (nat_eq q me) ≡ true → q ≢ me
differs q me e = elim (eqb_tells q me) [ inl t ↦ absurd (let clash : false ≡ true = sym (ap not t.0) ∙ e in cc) | inr t ↦ t.1 ]

module _ (j : JournalState) (put : List Parcel) (held : Option Parcel) (taken : List (ℕ × Parcel)) (waiting : Option Parcel) (desk : Option Desk) (places : List Place) (k : EngineStays j put held taken waiting desk places) where
  -- what is owed was given
  owed_given : (to slot : ℕ) → owes j.node to slot ≡ true → slot < (link_to j.node to).given
  owed_given to slot e =
      let s = k.keeps.stands in
      let peer = first_of_two _ _ e in
      let within : to < j.config.nodes = subst (λ (n : ℕ). to < n) (ap (λ (c : Config). c.nodes) s.same_config) (ltb-true to j.node.config.nodes (first_of_two _ _ peer)) in
      let out = s.out to within (differs to j.node.me (second _ _ peer)) in
      let found : is_some (finite.get (link_to j.node to).owed slot) ≡ true = second _ _ e in
      subst (λ n. slot < n) (sym out.given) (ltb-true slot _ (some_first _ _ _ (sym (ap is_some (out.owed slot)) ∙ found)))

  due_owed : (r : Resend) (to slot : ℕ) → IsDueTo j.node r to slot → owes j.node to slot ≡ true
  due_owed r to slot due = elim due.2 [ inl again ↦ again.1 | inr first ↦ first.owed ]

  pub keeps_noted : (r r' : Resend) (to slot : ℕ) → ((kept : Kept) → Keeps kept r → IsDueTo kept r to slot → slot < (link_to kept to).given → HasPlace r → Keeps kept r') → Keeps j.node r → IsDueTo j.node r to slot → HasPlace r → Keeps j.node r'
  keeps_noted r r' to slot noted kept due place = noted j.node kept due (owed_given to slot (due_owed r to slot due)) place

pub due_of : (a b : Kept) (r : Resend) (to slot : ℕ) → a ≡ b → IsDueTo a r to slot → IsDueTo b r to slot
due_of a b r to slot same due = subst (λ n. IsDueTo n r to slot) same due

due_frames : (kept : Kept) (frames : ℕ) (r : Resend) (to slot : ℕ) → IsDueTo kept r to slot → IsDueTo (record kept { frames = frames }) r to slot
due_frames kept frames r to slot due = (
  due.0,
  due.1,
  elim due.2 [
    | inl again ↦ inl again
    | inr first ↦ inr (record { owed = first.owed; new = first.new; room = first.room; least = first.least })
  ],
)

-- a frame that was made leaves what is due as it was
pub due_still : (old new : EngineState) (to slot : ℕ) → new.resend ≡ old.resend → new.node ≡ record old.node { frames = new.node.frames } → IsDueTo old.node old.resend to slot → IsDueTo new.node new.resend to slot
due_still old new to slot same only due =
    subst (λ (n : Kept). IsDueTo n new.resend to slot) (sym only) (due_frames old.node new.node.frames new.resend to slot (subst (λ (r : Resend). IsDueTo old.node r to slot) (sym same) due))
