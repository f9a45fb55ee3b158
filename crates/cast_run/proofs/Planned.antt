-- What arrives in a group is no more than the plan of its carriers lets through.
use Rattle.std.proofs.Common.{◌≡◌, ℕ, zero, suc, ◌<◌, ◌≤◌, ◌==◌, Bool, true, false, cond, eqb, eq-eqb, List, [], ◌∷◌, ◌++◌, length, map, replicate, fold, count_by, slice_get, Some, sym, refl, ap, ◌∙◌, subst, arith}
use Rattle.std.proofs.lemmas.Bool.{and_from, and_parts, eqb-true, false≢true}
use Rattle.std.proofs.lemmas.List.{map-append, append_assoc}
use Rattle.std.proofs.lemmas.List.Sums.{sum_by-append, sum_by-cons}
use Rattle.std.proofs.lemmas.Option.{slice_get_within}
use Rattle.cast_box.specs.Lists.{of, put_by, IsFair, StartsWith}
use Rattle.cast_box.proofs.Lists.{of-append, sole_items, put_by_past}
use Rattle.cast_box.proofs.Closing.{map_at, get_middle}
use Rattle.cast_message.specs.declared.config.Config.{Config}
use Rattle.cast_message.specs.declared.message.Frame.{Frame}
use Rattle.cast_message.specs.declared.plan.Fault.{Fault}
use Rattle.cast_node.specs.declared.report.NodeReport.{NodeReport}
use Rattle.cast_node.specs.Linked.{Trail, Made, IsLogOf, EachArrival, made_in}
use Rattle.cast_node.proofs.Logging.{choose, each_arrival, made_numbered}
use Rattle.cast_journal.specs.declared.parcel.Parcel.{Parcel}
use Rattle.cast_carrier.specs.declared.fate.Ordinals.{Ordinals}
use Rattle.cast_journal.specs.Lists.{Has}
use Rattle.cast_journal.specs.Runs.{parcel, made_of}
use Rattle.cast_journal.proofs.Arrivals.{HasTakenEach, was_taken, arrivals_came, no_more_arrived}
use Rattle.cast_carrier.specs.Fates.{fate_in, counted_in}
use Rattle.cast_carrier.specs.Copies.{none_taken, copies, is_for, frames_for, counted_all, due}
use Rattle.cast_engine.specs.Engines.{EngineState}
use Rattle.cast_carrier.specs.Carriers.{CarrierState}
use Rattle.cast_run.specs.Group.{IsGathered}
use Rattle.cast_carrier.proofs.Copying.{IsThrough, due_is_through, due_once, same_read}
use Rattle.cast_node.proofs.Logging.{get_left}
use Rattle.cast_run.specs.Planned.{ordinals_of, frames_to, is_same_frame, times_arrived, Allows, Arrives, frames_made, KeepsTo, HaveFaults}
use Rattle.cast_run.proofs.Together.{CameFrom, OfNode, of_node, taken_was_put, only_one}

-- ---- lists

module _ {A : Type 0} where
  fair_one : (put : List A) (taken left : List (ℕ × A)) → IsFair (put ∷ []) taken left → map (λ m. m.1) (taken ++ left) ≡ put
  fair_one put taken left fair = sole_items (taken ++ left) (λ a h. fair a ∙ put_by_past (put ∷ []) a h) ∙ fair 0

  -- what was taken stands in its place of what was put
  taken_in_place : (taken left : List (ℕ × A)) (put : List A) → map (λ m. m.1) (taken ++ left) ≡ put → (i : ℕ) (m : ℕ × A) → slice_get taken i ≡ Some m → slice_get put i ≡ Some m.1
  taken_in_place taken left put all i m at = ap (λ l. slice_get l i) (sym all) ∙ map_at (λ n. n.1) (taken ++ left) i m (get_left taken left i m at)

  -- one at least passes where one that stands there does
  some_pass : (test : A → Bool) (xs : List A) (x : A) → Has xs x → test x ≡ true → 0 < count_by test xs
  some_pass test xs x has passes = by_place xs has.0 has.1
    where
      by_place : (xs : List A) (i : ℕ) → slice_get xs i ≡ Some x → 0 < count_by test xs
      by_place [] i e = absurd cc
      by_place (y ∷ ys) zero e =
          let here : y ≡ x = cc in
          let ones : Bool → ℕ = λ b. cond b 1 0 in
          let one : ones (test y) ≡ ones true = ap ones (ap test here ∙ passes) in
          omega (arith, one, sum_by-cons (λ z. cond (test z) 1 0) y ys)
      by_place (y ∷ ys) (suc i) e = omega (arith, by_place ys i e, sum_by-cons (λ z. cond (test z) 1 0) y ys)

  -- where each item that passes is of one putter, no more pass than of that putter's
  count_own : (test : A → Bool) (a : ℕ) (ms : List (ℕ × A)) → ((i : ℕ) (m : ℕ × A) → slice_get ms i ≡ Some m → test m.1 ≡ true → m.0 ≡ a) → count_by (λ m. test m.1) ms ≤ count_by test (of a ms)
  count_own test a [] own = omega arith
  count_own test a (m ∷ ms) own = by_cases (test m.1) (eqb a m.0) refl refl (count_own test a ms (λ i k at. own (suc i) k at))
    where
      by_cases : (t b : Bool) → test m.1 ≡ t → eqb a m.0 ≡ b → count_by (λ k. test k.1) ms ≤ count_by test (of a ms) → count_by (λ k. test k.1) (m ∷ ms) ≤ count_by test (cond b (m.1 ∷ of a ms) (of a ms))
      by_cases t true passes mine rest = omega (arith, rest, sum_by-cons (λ (k : ℕ × A). cond (test k.1) 1 0) m ms, sum_by-cons (λ k. cond (test k) 1 0) m.1 (of a ms))
      by_cases true false passes other rest = absurd (false≢true (sym other ∙ eq-eqb a m.0 (sym (own 0 m refl passes))))
      by_cases false false passes other rest =
          let ones : Bool → ℕ = λ b. cond b 1 0 in
          let none : ones (test m.1) ≡ ones false = ap ones passes in
          omega (arith, rest, none, sum_by-cons (λ (k : ℕ × A). cond (test k.1) 1 0) m ms)

  -- of a putter no more was taken than it put
  count_taken : (test : A → Bool) (a : ℕ) (taken left : List (ℕ × A)) (put : List A) → of a (taken ++ left) ≡ put → count_by test (of a taken) ≤ count_by test put
  count_taken test a taken left put is =
      let all = ap (count_by test) (sym (of-append a taken left) ∙ is) in
      omega (arith, all, sum_by-append (λ k. cond (test k) 1 0) (of a taken) (of a left))

  put_by_at : (lists : List (List A)) (a : ℕ) (l : List A) → slice_get lists a ≡ Some l → put_by lists a ≡ l
  put_by_at [] a l e = absurd cc
  put_by_at (x ∷ xs) zero l e = let is : x ≡ l = cc in is
  put_by_at (x ∷ xs) (suc a) l e = put_by_at xs a l e

-- ---- frames and the parcels that they are in

abbrev frame_of : ℕ × Parcel → Frame
frame_of m = m.1.frame

abbrev frame_in : Made → Frame
frame_in made = made.frame

frames_of_items : (ms : List (ℕ × Parcel)) → map frame_in (map made_of (map (λ m. m.1) ms)) ≡ map frame_of ms
frames_of_items [] = refl
frames_of_items (m ∷ ms) = ap (λ l. m.1.frame ∷ l) (frames_of_items ms)

counted_same : (o : List Ordinals) (ms : List (ℕ × Parcel)) → counted_all o ms ≡ fold counted_in o (map frame_of ms)
counted_same o [] = refl
counted_same o (m ∷ ms) = counted_same (counted_in o m.1.frame) ms

frames_same : (q : ℕ) (ms : List (ℕ × Parcel)) → frames_for q ms ≡ frames_to q (map frame_of ms)
frames_same q [] = refl
frames_same q (m ∷ ms) =
    let a = sum_by-cons (λ (k : ℕ × Parcel). cond (k.1.frame.to == q) 1 0) m ms in
    let b = sum_by-cons (λ (f : Frame). cond (f.to == q) 1 0) (frame_of m) (map frame_of ms) in
    omega (arith, a, b, frames_same q ms)

same_parts : (frame other : Frame) → is_same_frame frame other ≡ true → (other.from ≡ frame.from) × (other.seq ≡ frame.seq)
same_parts frame other same = let parts = and_parts (other.from == frame.from) (other.seq == frame.seq) same in (eqb-true other.from frame.from parts.0, eqb-true other.seq frame.seq parts.1)

module _ (config : Config) (engines : List EngineState) (carriers : List CarrierState) (reports : List NodeReport) (g : IsGathered config engines carriers reports)
    (many : length engines ≡ config.nodes) (size : length reports ≡ config.nodes) (faults : ℕ → List Fault) (have : HaveFaults faults carriers)
    (wide : (p : ℕ) (c : CarrierState) → slice_get carriers p ≡ Some c → length c.inboxes ≡ config.nodes) where
  abbrev Node : ℕ → Type 0
  Node = OfNode config engines carriers reports g many size

  -- what is known of a node that has these steps
  record Knows (p : ℕ) (trail : Trail) : Type 0 where
    node : Node p
    log : IsLogOf config p trail node.report.log node.report.node
    handed : StartsWith (made_in config p trail) (map made_of node.e.outbox.put)
    came : EachArrival (CameFrom node.e) trail
    each_taken : HasTakenEach node.e.inbox.taken trail

  knows : (p : ℕ) → p < config.nodes → (trail : Trail) × Knows p trail
  knows p l =
      let n : Node p = of_node config engines carriers reports g many size p l in
      let t = n.tells in
      let L : Config → ℕ → Type 0 = λ c m. IsLogOf c m t.trail n.report.log n.report.node in
      let S : Config → ℕ → Type 0 = λ c m. StartsWith (made_in c m t.trail) (map made_of n.e.outbox.put) in (
        t.trail,
        record {
          node = n;
          log = subst (λ c. L c p) n.config_is (subst (L n.e.config) n.me_is t.tells);
          handed = subst (λ c. S c p) n.config_is (subst (S n.e.config) n.me_is t.handed);
          came = arrivals_came n.e.inbox.taken t.trail t.parcels t.arrived (was_taken n.e.me n.e.inbox.taken t.parcels n.e.waiting t.taken_in);
          each_taken = λ test. no_more_arrived test n.e.me n.e.inbox.taken n.e.waiting t.trail t.parcels t.arrived t.taken_in;
        },
      )

  abbrev passes : Frame → Parcel → Bool
  passes frame x = is_same_frame frame x.frame

  -- how a frame that arrived came through the carrier of its maker
  record Carried (q number sent : ℕ) (frame : Frame) (inbox_taken : List (ℕ × Parcel)) : Type 0 where
    maker : EngineState
    maker_at : slice_get engines number ≡ Some maker
    was_put : Has maker.outbox.put (parcel sent frame)
    taken : List (ℕ × Parcel)
    left : List (ℕ × Parcel)
    all : map (λ m. m.1) (taken ++ left) ≡ maker.outbox.put
    through : IsThrough (faults number) (replicate config.nodes none_taken) (passes frame) q taken
    most : count_by (passes frame) (of number inbox_taken) ≤ due (faults number) config.nodes (passes frame) q 0 taken

  carried : (q : ℕ) (e : EngineState) (number sent : ℕ) (frame : Frame) → slice_get engines q ≡ Some e → Has e.inbox.taken (let m : ℕ × Parcel = (number, parcel sent frame) in m) → Carried q number sent frame e.inbox.taken
  carried q e number sent frame at has =
      let x = parcel sent frame in
      let test = passes frame in
      let into = g.inbox q e at in
      let put = taken_was_put into.0 e.inbox.taken into.1 number x into.3 has in
      let column = into.2 number put.0 put.1 in
      let c = column.0 in
      let inbox = column.1 in
      let in_box : Has inbox.put x = subst (λ l. Has l x) column.4 put.2 in
      let kept = g.carrier number c column.2 in
      let brought = kept.0 q inbox x column.3 in_box in
      let out = g.outbox number c column.2 in
      let sent_by = taken_was_put (out.0.outbox.put ∷ []) c.outbox.taken out.1 brought.1.0 x out.3 brought.1.1 in
      let one = some_pass test inbox.put x in_box (and_from _ _ (eq-eqb frame.from frame.from refl) (eq-eqb frame.seq frame.seq refl)) in
      let most = kept.1 test q inbox column.3 in
      let all_put : of number (e.inbox.taken ++ into.1) ≡ inbox.put = into.3 number ∙ put_by_at into.0 number put.0 put.1 ∙ column.4 in
      let few = count_taken test number e.inbox.taken into.1 inbox.put all_put in
      let own : due c.faults (length c.inboxes) test q 0 c.outbox.taken ≡ due (faults number) config.nodes test q 0 c.outbox.taken =
      ap (λ l. due l (length c.inboxes) test q 0 c.outbox.taken) (have number c column.2) ∙ ap (λ n. due (faults number) n test q 0 c.outbox.taken) (wide number c column.2) in
      record {
        maker = out.0;
        maker_at = out.2;
        was_put = subst (λ l. Has l x) (sym (only_one out.0.outbox.put sent_by.0 brought.1.0 sent_by.1)) sent_by.2;
        taken = c.outbox.taken;
        left = out.1;
        all = fair_one out.0.outbox.put c.outbox.taken out.1 out.3;
        through = due_is_through (faults number) (replicate config.nodes none_taken) test q c.outbox.taken (omega (arith, one, most, own));
        most = omega (arith, few, most, own);
      }

  module _ (trails : ℕ → Trail) (tells : (p : ℕ) → p < config.nodes → Knows p (trails p)) where
    -- the frames that a node made: those before one that its carrier took, that one, and those after it
    module _ (number : ℕ) (here : number < config.nodes) (maker : EngineState) (maker_at : slice_get engines number ≡ Some maker) where
      abbrev made : List Made
      made = made_in config number (trails number)

      handed : StartsWith made (map made_of maker.outbox.put)
      handed =
          let k = tells number here in
          subst (λ (z : EngineState). StartsWith made (map made_of z.outbox.put)) (same_read engines number k.node.e maker k.node.e_at maker_at) k.handed

      at_place : (i : ℕ) (x : Parcel) → slice_get maker.outbox.put i ≡ Some x → slice_get made i ≡ Some (made_of x)
      at_place i x at = ap (λ l. slice_get l i) handed.1 ∙ get_left (map made_of maker.outbox.put) handed.0 i (made_of x) (map_at made_of maker.outbox.put i x at)

      numbered : (i : ℕ) (x : Parcel) → slice_get maker.outbox.put i ≡ Some x → (x.frame.from ≡ number) × (x.frame.seq ≡ i)
      numbered i x at = made_numbered config number (trails number) (tells number here).log.accepted i (made_of x) (at_place i x at)

      -- one frame has each number
      same_frame : (x y : Parcel) → Has maker.outbox.put x → Has maker.outbox.put y → x.frame.seq ≡ y.frame.seq → x.frame ≡ y.frame
      same_frame x y hx hy same =
          let place : hx.0 ≡ hy.0 = sym (numbered hx.0 x hx.1).1 ∙ same ∙ (numbered hy.0 y hy.1).1 in
          ap frame_in (same_read made hy.0 (made_of x) (made_of y) (ap (slice_get made) (sym place) ∙ at_place hx.0 x hx.1) (at_place hy.0 y hy.1))

      frames_split : (before after left : List (ℕ × Parcel)) (m : ℕ × Parcel) → map (λ k. k.1) ((before ++ m ∷ after) ++ left) ≡ maker.outbox.put
          → frames_made config number (trails number) ≡ map frame_of before ++ frame_of m ∷ (map frame_of (after ++ left) ++ map frame_in handed.0)
      frames_split before after left m all =
          ap (map frame_in) handed.1 ∙ map-append frame_in (map made_of maker.outbox.put) handed.0
          ∙ ap (λ l. map frame_in (map made_of l) ++ map frame_in handed.0) (sym all)
          ∙ ap (λ l. l ++ map frame_in handed.0) (frames_of_items ((before ++ m ∷ after) ++ left) ∙ ap (map frame_of) (append_assoc before (m ∷ after) left) ∙ map-append frame_of before (m ∷ (after ++ left)))
          ∙ append_assoc (map frame_of before) (frame_of m ∷ map frame_of (after ++ left)) (map frame_in handed.0)

    -- what arrives of a frame, wherever it is taken from, came through its maker's carrier
    own_number : (q : ℕ) (e : EngineState) → slice_get engines q ≡ Some e → (frame : Frame) (number : ℕ) → frame.from ≡ number
        → (i : ℕ) (m : ℕ × Parcel) → slice_get e.inbox.taken i ≡ Some m → passes frame m.1 ≡ true → m.0 ≡ number
    own_number q e at frame number from_is i m at_m found =
        let it = carried q e m.0 m.1.stamp m.1.frame at (i, at_m) in
        let there : m.0 < config.nodes = subst (λ n. m.0 < n) many (slice_get_within engines m.0 it.maker it.maker_at) in
        let from = (numbered m.0 there it.maker it.maker_at it.was_put.0 m.1 it.was_put.1).0 in
        sym from ∙ (same_parts frame m.1.frame found).0 ∙ from_is

    -- of what a carrier took no other has the number
    only_there : (number : ℕ) (here : number < config.nodes) (maker : EngineState) (maker_at : slice_get engines number ≡ Some maker) (q : ℕ) (frame : Frame)
        (before after left : List (ℕ × Parcel)) (m : ℕ × Parcel) → map (λ k. k.1) ((before ++ m ∷ after) ++ left) ≡ maker.outbox.put → m.1.frame.seq ≡ frame.seq
        → (i : ℕ) (k : ℕ × Parcel) → slice_get (before ++ m ∷ after) i ≡ Some k → is_for (passes frame) q k.1 ≡ true → i ≡ length before
    only_there number here maker maker_at q frame before after left m whole seq_is i k at_k found =
        let in_place = taken_in_place (before ++ m ∷ after) left maker.outbox.put whole in
        let pass = and_parts (k.1.frame.to == q) (passes frame k.1) found in
        let one = (numbered number here maker maker_at i k.1 (in_place i k at_k)).1 in
        let other = (numbered number here maker maker_at (length before) m.1 (in_place (length before) m (get_middle before m after))).1 in
        sym one ∙ (same_parts frame k.1.frame pass.1).1 ∙ sym seq_is ∙ other

    let_through : (q : ℕ) (e : EngineState) → slice_get engines q ≡ Some e → (stamp : ℕ) (frame : Frame) → CameFrom e stamp frame
        → (trail : Trail) → HasTakenEach e.inbox.taken trail → Arrives config faults trails trail frame
    let_through q e at stamp frame came trail each =
        let number = came.0 in
        let it = carried q e number came.1 frame at came.2 in
        let t = it.through in
        let here : number < config.nodes = subst (λ n. number < n) many (slice_get_within engines number it.maker it.maker_at) in
        let whole : map (λ k. k.1) ((t.before ++ t.m ∷ t.after) ++ it.left) ≡ it.maker.outbox.put = ap (λ l. map (λ k. k.1) (l ++ it.left)) (sym t.split) ∙ it.all in
        let pass = and_parts (t.m.1.frame.to == q) (passes frame t.m.1) t.passes in
        let seq_is = (same_parts frame t.m.1.frame pass.1).1 in
        let place : Has it.maker.outbox.put t.m.1 = (length t.before, taken_in_place (t.before ++ t.m ∷ t.after) it.left it.maker.outbox.put whole (length t.before) t.m (get_middle t.before t.m t.after)) in
        let is : frame_of t.m ≡ frame = same_frame number here it.maker it.maker_at t.m.1 (parcel came.1 frame) place it.was_put seq_is in
        let from_is : frame.from ≡ number = (numbered number here it.maker it.maker_at it.was_put.0 (parcel came.1 frame) it.was_put.1).0 in
        let more = map frame_of (t.after ++ it.left) ++ map frame_in (handed number here it.maker it.maker_at).0 in
        let before = map frame_of t.before in
        let P : ℕ → Frame → Type 0 = λ a f.
        (frames_made config a (trails a) ≡ before ++ f ∷ more) × Allows (fate_in (faults a) (ordinals_of config.nodes before) f) (frames_to f.to more) (times_arrived frame trail) in
        let fate = ap (λ o. fate_in (faults number) o t.m.1.frame) (counted_same (replicate config.nodes none_taken) t.before) in
        let enough = frames_more q t.after it.left (map frame_in (handed number here it.maker it.maker_at).0) in
        let to_is : t.m.1.frame.to ≡ q = eqb-true t.m.1.frame.to q pass.0 in
        let at_most = ap (λ l. due (faults number) config.nodes (passes frame) q 0 l) t.split in
        let own = count_own (passes frame) number e.inbox.taken (λ i m at_m found. own_number q e at frame number from_is i m at_m found) in
        let once = due_once (faults number) (replicate config.nodes none_taken) (passes frame) q 0 t.before t.m t.after
        (λ i k at_k found. only_there number here it.maker it.maker_at q frame t.before t.after it.left t.m whole seq_is i k at_k found) in
        let rest = subst (λ a. P a frame) (sym from_is) (subst (P number) is (
          frames_split number here it.maker it.maker_at t.before t.after it.left t.m whole,
          (
            ap (λ f. f.lost) (sym fate) ∙ t.spared,
            subst (λ k. (fate_in (faults number) (ordinals_of config.nodes before) t.m.1.frame).delay ≤ frames_to k more) (sym to_is)
                (let same = ap (λ f. f.delay) fate in let w = t.waited in omega (arith, same, w, enough)),
            (let same = ap (λ f. copies f.twice) fate in omega (arith, each (is_same_frame frame), own, it.most, at_most, once, same)),
          ),
        )) in
        (subst (λ n. n < config.nodes) (sym from_is) here, (before, more, rest.0, rest.1))
      where
        frames_more : (q : ℕ) (after left : List (ℕ × Parcel)) (rest : List Frame) → frames_for q after ≤ frames_to q (map frame_of (after ++ left) ++ rest)
        frames_more q after left rest =
            let f : Frame → ℕ = λ z. cond (z.to == q) 1 0 in
            let a = frames_same q after in
            let b = ap (λ l. frames_to q (l ++ rest)) (map-append frame_of after left) in
            let c = sum_by-append f (map frame_of after ++ map frame_of left) rest in
            let d = sum_by-append f (map frame_of after) (map frame_of left) in
            omega (arith, a, b, c, d)

  pub keeps_to : KeepsTo config faults reports
  keeps_to =
      let known = choose config.nodes Knows knows in
      record {
        size = size;
        trails = known.0;
        logs = λ p report at.
            let k = known.1 p (subst (λ n. p < n) size (slice_get_within reports p report at)) in
            subst (λ r. IsLogOf config p (known.0 p) r.log r.node) (same_read reports p k.node.report report k.node.report_at at) k.log;
        arrivals = λ q l.
            let k = known.1 q l in
            each_arrival (CameFrom k.node.e) _ (λ stamp frame came. let_through known.0 known.1 q k.node.e k.node.e_at stamp frame came (known.0 q) k.each_taken) (known.0 q) k.came;
      }
