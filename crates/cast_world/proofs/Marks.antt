-- What a mark says of its frame.
use Rattle.std.proofs.Common.{◌≡◌, ℕ, sym, subst, Bool, true, false, cond, List, Result}
use Rattle.std.specs.Prelude.{◌==◌, slice_index_or}
use Rattle.cast_message.specs.declared.config.Config.{Config}
use Rattle.cast_message.specs.declared.event.Answer.{Answer}
use Rattle.cast_message.specs.declared.event.StepFault.{StepFault}
use Rattle.cast_message.specs.declared.message.Item.{Item}
use Rattle.cast_message.specs.declared.message.Item.TheVariants.{Close}
use Rattle.cast_message.specs.declared.message.Frame.{Frame}
use Rattle.cast_message.specs.declared.message.FrameBody.{FrameBody}
use Rattle.cast_message.specs.declared.message.FrameBody.TheVariants.{Carry, Took}
use Rattle.cast_model.specs.Steps.{Arrived}
use Rattle.cast_node.specs.Kept.{Kept}
use Rattle.cast_node.specs.Calls.{carried_frame, took_frame}
use Rattle.cast_node.specs.Turns.{Gives}
use Rattle.cast_world.specs.declared.frames.Mark.{Mark}
use Rattle.cast_world.specs.Group.{node_in, frame_in}

module _ (config : Config) (nodes : List Kept) (mark : Mark) where
  abbrev item : Item
  item = slice_index_or (node_in config nodes mark.sender).stream mark.number Close

  abbrev body : Bool → FrameBody
  body b = cond b (Took mark.slot) (Carry mark.slot (record { sender = mark.sender; number = mark.number; item = item }))

  module _ (kept new : Kept) (target : mark.to ≡ kept.me) (from seq : ℕ) (reply : ℕ → Result Answer StepFault) where
    gives_body : (b : Bool) → (mark.sender == 255) ≡ b → Gives kept (Arrived (record { from = from; seq = seq; to = kept.me; body = body b })) (reply kept.me) new → Gives kept (Arrived (frame_in config nodes from seq mark)) (reply mark.to) new
    gives_body b is = subst (λ (f : Frame). Gives kept (Arrived f) (reply f.to) new) (λ k. record { from = from; seq = seq; to = sym target k; body = body (sym is k) })

    pub gives_word : (slot : ℕ) → slot ≡ mark.slot → (mark.sender == 255) ≡ true → Gives kept (Arrived (took_frame kept.me from seq slot)) (reply kept.me) new → Gives kept (Arrived (frame_in config nodes from seq mark)) (reply mark.to) new
    gives_word slot same is g = gives_body true is (subst (λ x. Gives kept (Arrived (took_frame kept.me from seq x)) (reply kept.me) new) same g)

    pub gives_again : (slot number : ℕ) → slot ≡ mark.slot → number ≡ mark.number → (mark.sender == 255) ≡ false → ((seq : ℕ) (item : Item) → Gives kept (Arrived (carried_frame kept.me from seq slot mark.sender number item)) (reply kept.me) new) → Gives kept (Arrived (frame_in config nodes from seq mark)) (reply mark.to) new
    gives_again slot number one two is g = gives_body false is (subst (λ x. Gives kept (Arrived (carried_frame kept.me from seq x mark.sender mark.number item)) (reply kept.me) new) one (subst (λ x. Gives kept (Arrived (carried_frame kept.me from seq slot mark.sender x item)) (reply kept.me) new) two (g seq item)))
