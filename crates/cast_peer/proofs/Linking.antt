-- Peers that took no packet but those of peers are linked.
use Rattle.std.proofs.Common.{◌≡◌, ℕ, ◌<◌, List, [], ◌++◌, length, slice_get, Some, None, sym, refl, ap, ◌∙◌, subst}
use Rattle.std.specs.Option.{option_to_list}
use Rattle.cast_message.specs.declared.config.Config.{Config}
use Rattle.cast_message.specs.declared.message.Frame.{Frame}
use Rattle.cast_log.specs.declared.entry.Entry.{Entry}
use Rattle.cast_node.specs.Kept.{Kept}
use Rattle.cast_node.specs.declared.report.NodeReport.{NodeReport}
use Rattle.cast_node.specs.Linked.{Trail, IsLogOf, made_in, stamped, taken, Linked}
use Rattle.cast_node.specs.Linking.{WasPutBefore, NodeTells}
use Rattle.cast_node.proofs.Linking.{linked_from}
use Rattle.cast_node.proofs.Logging.{each_arrival}
use Rattle.cast_journal.specs.declared.parcel.Parcel.{Parcel}
use Rattle.cast_journal.specs.Lists.{Has}
use Rattle.cast_journal.proofs.Lists.{has_left}
use Rattle.cast_journal.specs.Journals.{JournalState}
use Rattle.cast_journal.specs.Runs.{EngineKeeps, parcel, trail_of, parcels_of, made_of, CameBefore}
use Rattle.cast_journal.proofs.RunLogs.{rises_pairs, run_tells, run_taken, run_arrivals, handed_made}
use Rattle.cast_journal.proofs.Arrivals.{was_taken, arrivals_came}
use Rattle.cast_wire.specs.declared.packet.Packet.{Packet}
use Rattle.cast_wire.specs.Law.{HasNumbers}
use Rattle.cast_wire.proofs.Cutting.{same_packet}
use Rattle.cast_peer.specs.Peers.{packet_of, bytes_of}
use Rattle.cast_peer.specs.Law.{Did, Gave, Took, IsPeer, TookNoOthers, ArePeersLinked}
use Rattle.cast_peer.proofs.Knowing.{Known, known}

abbrev parcel_in : Packet → Parcel
parcel_in x = record { stamp = x.stamp; frame = x.frame }

-- bytes are those of one frame and stamp
same_parcel : (group : ℕ) (x y : Parcel) → HasNumbers (packet_of group x) → HasNumbers (packet_of group y) → bytes_of group x ≡ bytes_of group y → x ≡ y
same_parcel group x y nx ny e = ap parcel_in (same_packet (packet_of group x) (packet_of group y) nx ny e)

module _ (group : ℕ) (config : Config) (did : ℕ → List Did) (reports : List NodeReport) (only : TookNoOthers config did) where
  abbrev Put : ℕ → ℕ → Frame → Type 0
  Put r sent frame = Has (did r) (Gave (bytes_of group (parcel sent frame))) × HasNumbers (packet_of group (parcel sent frame))

  module _ (p : ℕ) (lt : p < config.nodes) (report : NodeReport) (is : IsPeer group config p (did p) report) where
    abbrev j : JournalState
    j = is.j

    k : Known group config p (did p) is.j
    k = known group config p lt (did p) is.j is.runs

    keeps : EngineKeeps config p is.j.node is.j.log is.j.clock k.put None k.came None k.orders
    keeps =
        let P : Config → ℕ → Type 0 = λ c m. EngineKeeps c m is.j.node is.j.log is.j.clock k.put None k.came None k.orders in
        subst (λ c. P c p) k.same_config (subst (P is.j.config) k.same_me k.keeps)

    abbrev trail : Trail
    trail = trail_of keeps.run

    own_log : IsLogOf config p trail is.j.log is.j.node
    own_log = record {
      rising = rises_pairs is.j.log config.first_stamp is.j.clock k.rises;
      tells = ap taken keeps.is_log ∙ run_tells config p keeps.run;
      accepted = run_taken config p keeps.run keeps.runs;
      stands = keeps.stands;
      reached = keeps.reached;
    }

    puts : (sent : ℕ) (frame : Frame) → Put p sent frame → slice_get (made_in config p trail) frame.seq ≡ Some (stamped sent frame)
    puts sent frame put =
        let g = k.given (bytes_of group (parcel sent frame)) put.0 in
        let same : parcel sent frame ≡ g.0 = same_parcel group (parcel sent frame) g.0 put.1 g.3 g.2 in
        let At : Parcel → Type 0 = λ x. slice_get (made_in config p trail) x.frame.seq ≡ Some (made_of x) in
        subst At (sym same) (handed_made config p keeps.run keeps.runs (k.put ++ option_to_list None) keeps.handed g.0 (has_left k.put [] g.0 g.1))

    was_put : (stamp : ℕ) (frame : Frame) → CameBefore k.came stamp frame → WasPutBefore config Put stamp frame
    was_put stamp frame w =
        let t = k.took (w.0, parcel w.1 frame) w.2 in
        let r = only p (bytes_of group (parcel w.1 frame)) lt t.0 in
        (w.1, r.0, w.3, r.1, (r.2, t.1))

    tells : NodeTells config Put p trail report
    tells = record {
      log = subst (λ (n : Kept). IsLogOf config p trail report.log n) is.node (subst (λ (l : List Entry). IsLogOf config p trail l is.j.node) is.log own_log);
      puts = puts;
      came = each_arrival (CameBefore k.came) (WasPutBefore config Put) was_put trail
          (arrivals_came k.came trail (parcels_of keeps.run) (run_arrivals config p config.first_stamp keeps.run keeps.runs keeps.stamped) (was_taken p k.came (parcels_of keeps.run) None keeps.taken_in));
    }

pub links : ArePeersLinked
links group config did reports size each only =
    linked_from config reports size (Put group config did reports only)
    (λ p lt. let e = each p lt in
    (trail group config did reports only p lt e.0 e.2, (e.0, e.1, tells group config did reports only p lt e.0 e.2)))
