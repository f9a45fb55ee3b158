-- Nodes of which each tells its own, with frames that were put before they arrived, are linked.
use Rattle.std.proofs.Common.{◌≡◌, ℕ, ◌<◌, sym, ◌∙◌, subst, List, length, Option, Some}
use Rattle.std.specs.Prelude.{slice_get}
use Rattle.std.proofs.lemmas.Option.{slice_get_within}
use Rattle.cast_message.specs.declared.config.Config.{Config}
use Rattle.cast_message.specs.declared.message.Frame.{Frame}
use Rattle.cast_node.specs.declared.report.NodeReport.{NodeReport}
use Rattle.cast_node.specs.Linked.{Trail, stamped, made_in, IsLogOf, IsMadeBefore, Linked}
use Rattle.cast_node.specs.Linking.{WasPutBefore, NodeTells}
use Rattle.cast_node.proofs.Logging.{made_numbered, each_arrival, choose}

module _ (config : Config) (reports : List NodeReport) (size : length reports ≡ config.nodes) (Put : ℕ → ℕ → Frame → Type 0)
    (each : (p : ℕ) → p < config.nodes → (trail : Trail) × ((report : NodeReport) × (slice_get reports p ≡ Some report) × NodeTells config Put p trail report)) where
  Tells : ℕ → Trail → Type 0
  Tells p trail = (report : NodeReport) × (slice_get reports p ≡ Some report) × NodeTells config Put p trail report

  pub linked_from : Linked config reports
  unfolding Tells
  linked_from =
      let c = choose config.nodes Tells each in
      let trails = c.0 in
      let tells = c.1 in
      record {
        size = size;
        trails = trails;
        logs = λ p report at.
            let l : p < config.nodes = subst (λ n. p < n) size (slice_get_within reports p report at) in
            let t = tells p l in
            let same : t.0 ≡ report = (let e : ◌≡◌ {A = Option NodeReport} (Some t.0) (Some report) = sym t.1 ∙ at in cc) in
            subst (λ r. IsLogOf config p (trails p) r.log r.node) same t.2.log;
        arrivals = λ p l. each_arrival (WasPutBefore config Put) (IsMadeBefore config trails) (λ stamp frame w. made_by trails tells stamp frame w) (trails p) (tells p l).2.came;
      }
    where
      made_by : (trails : ℕ → Trail) → ((p : ℕ) → p < config.nodes → Tells p (trails p)) → (stamp : ℕ) (frame : Frame) → WasPutBefore config Put stamp frame → IsMadeBefore config trails stamp frame
      made_by trails tells stamp frame w =
          let r = w.1 in
          let t = (tells r w.3).2 in
          let made = t.puts w.0 frame w.4 in
          let from_is : frame.from ≡ r = (made_numbered config r (trails r) t.log.accepted frame.seq (stamped w.0 frame) made).0 in
          (w.0, w.2, subst (λ q. q < config.nodes) (sym from_is) w.3, subst (λ q. slice_get (made_in config q (trails q)) frame.seq ≡ Some (stamped w.0 frame)) (sym from_is) made)
