-- What each node of a group knows about itself after all have ended, and what is known about the frames between them.
--     WasPutBefore config Put stamp frame     some node put the frame, and the step that made it has a smaller stamp
--     NodeTells config Put p trail report     a node's log has these steps; it put frames that they made, each with the
--                                             stamp of its step; each arrived frame was put before
use Rattle.std.specs.Prelude.{◌≡◌, ℕ, ◌<◌, slice_get, Some}
use Rattle.cast_message.specs.declared.config.Config.{Config}
use Rattle.cast_message.specs.declared.message.Frame.{Frame}
use Rattle.cast_node.specs.declared.report.NodeReport.{NodeReport}
use Rattle.cast_node.specs.Linked.{Trail, stamped, made_in, IsLogOf, EachArrival}

abbrev pub WasPutBefore : Config → (ℕ → ℕ → Frame → Type 0) → ℕ → Frame → Type 0
WasPutBefore config Put stamp frame =
    (sent r : ℕ) × (sent < stamp) × (r < config.nodes) × Put r sent frame

pub record NodeTells (config : Config) (Put : ℕ → ℕ → Frame → Type 0) (p : ℕ)
    (trail : Trail) (report : NodeReport) : Type 0 where
  pub log : IsLogOf config p trail report.log report.node
  pub puts : (sent : ℕ) (frame : Frame) → Put p sent frame →
      slice_get (made_in config p trail) frame.seq ≡ Some (stamped sent frame)
  pub came : EachArrival (WasPutBefore config Put) trail
