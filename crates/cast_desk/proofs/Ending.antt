-- Boxes of clients that are ended one by one.
use Rattle.std.proofs.Common.{◌≡◌, ℕ, zero, suc, ◌+◌, List, [], ◌∷◌, ◌++◌, length, map, slice_get, Some, sym, refl, ap, ◌∙◌, arith}
use Rattle.std.proofs.lemmas.List.{length-map, length-append, map-append, append_assoc, append-nil}
use Rattle.cast_box.proofs.Closing.{get_middle, no_length, map_at, both_more}
use Rattle.cast_box.specs.Lists.{of, put_by, IsFair, StartsWith}
use Rattle.cast_box.specs.Ends.{PutterEnd, TakerEnd, AreAllEnds, IsNextToEnd, HaveAllEnded}
use Rattle.cast_journal.specs.declared.order.OrderIn.{OrderIn}
use Rattle.cast_desk.specs.declared.notice.Notice.{Notice}
use Rattle.cast_desk.specs.Desk.{ClientState, IsDeskOf}

abbrev pub puts : List ClientState → List (List OrderIn)
puts cs = map (λ (c : ClientState). c.orders.put) cs

abbrev pub with_ended : TakerEnd OrderIn → List (List OrderIn) → TakerEnd OrderIn
with_ended t l = record t { ended = l }

-- the first clients have ended, and each has taken what began its tray
pub record Ending (all : List ClientState) (orders : TakerEnd OrderIn) (trays : List (PutterEnd Notice))
    (seen rest : List ClientState) (more : List (PutterEnd Notice)) (now : TakerEnd OrderIn) : Type 0 where
  pub front : List (PutterEnd Notice)
  pub clients_are : all ≡ seen ++ rest
  pub trays_are : trays ≡ front ++ more
  pub as_many : length front ≡ length seen
  pub now_is : now ≡ with_ended orders (puts seen)
  pub took : (c : ℕ) (client : ClientState) (tray : PutterEnd Notice) → slice_get seen c ≡ Some client → slice_get front c ≡ Some tray
      → StartsWith tray.put (map (λ (m : ℕ × Notice). m.1) client.tray.taken)

put_at : (cs : List ClientState) (c : ℕ) (client : ClientState) → slice_get cs c ≡ Some client → put_by (puts cs) c ≡ client.orders.put
put_at [] c client e = absurd cc
put_at (x ∷ xs) zero client e = let h : x ≡ client = cc in ap (λ (z : ClientState). z.orders.put) h
put_at (x ∷ xs) (suc c) client e = put_at xs c client e

module _ (all : List ClientState) (orders : TakerEnd OrderIn) (trays : List (PutterEnd Notice)) (is : IsDeskOf all orders trays) where
  pub ending_none : (rest : List ClientState) (more : List (PutterEnd Notice)) → rest ≡ all → more ≡ trays → Ending all orders trays [] rest more orders
  ending_none rest more p q = record {
    front = [];
    clients_are = sym p;
    trays_are = sym q;
    as_many = refl;
    now_is = let e = is.desk.2 in let P : TakerEnd OrderIn → List (List OrderIn) → TakerEnd OrderIn = with_ended in ap (P orders) e;
    took = λ c client tray e. absurd cc;
  }

  module _ (seen rest : List ClientState) (more : List (PutterEnd Notice)) (now : TakerEnd OrderIn) (e : Ending all orders trays seen rest more now) where
    lengths : length more ≡ length rest
    lengths =
        let a = ap length e.clients_are ∙ length-append seen rest in
        let b = ap length e.trays_are ∙ length-append e.front more in
        let c = is.width in
        let d = e.as_many in
        omega arith

    module _ (c : ClientState) (rest' : List ClientState) (h : rest ≡ c ∷ rest') where
      whole : all ≡ seen ++ c ∷ rest'
      whole = e.clients_are ∙ ap (λ l. seen ++ l) h

      at_client : slice_get all (length seen) ≡ Some c
      at_client = ap (λ l. slice_get l (length seen)) whole ∙ get_middle seen c rest'

      pub next_to_end : IsNextToEnd c.orders now
      next_to_end =
          let it = is.desk.1 (length seen) c.orders (map_at (λ (z : ClientState). z.orders) all (length seen) c at_client) in (
            it.0 ∙ sym (ap (λ (t : TakerEnd OrderIn). t.home) e.now_is),
            it.1 ∙ sym (ap (λ (t : TakerEnd OrderIn). length t.ended) e.now_is ∙ length-map seen (λ (z : ClientState). z.orders.put)),
          )

      module _ (t : PutterEnd Notice) (more' : List (PutterEnd Notice)) (k : more ≡ t ∷ more') where
        at_tray : slice_get trays (length seen) ≡ Some t
        at_tray = ap (slice_get trays) (sym e.as_many) ∙ ap (λ l. slice_get l (length e.front)) (e.trays_are ∙ ap (λ l. e.front ++ l) k) ∙ get_middle e.front t more'

        pub tray_ends : AreAllEnds (t ∷ []) c.tray
        tray_ends = is.tray (length seen) c t at_client at_tray

        pub ending_more : (now' : TakerEnd OrderIn) → now' ≡ with_ended now (now.ended ++ c.orders.put ∷ []) → StartsWith t.put (map (λ (m : ℕ × Notice). m.1) c.tray.taken)
            → Ending all orders trays (seen ++ c ∷ []) rest' more' now'
        ending_more now' n s =
            let put_of : ClientState → List OrderIn = λ z. z.orders.put in
            let P : TakerEnd OrderIn → List (List OrderIn) → TakerEnd OrderIn = with_ended in
            record {
              front = e.front ++ t ∷ [];
              clients_are = whole ∙ sym (append_assoc seen (c ∷ []) rest');
              trays_are = e.trays_are ∙ ap (λ l. e.front ++ l) k ∙ sym (append_assoc e.front (t ∷ []) more');
              as_many = length-append e.front (t ∷ []) ∙ ap (λ m. m + 1) e.as_many ∙ sym (length-append seen (c ∷ []));
              now_is = n ∙ ap (λ (z : TakerEnd OrderIn). P z (z.ended ++ c.orders.put ∷ [])) e.now_is ∙ ap (P orders) (sym (map-append put_of seen (c ∷ [])));
              took = both_more (λ i client tray. StartsWith tray.put (map (λ (m : ℕ × Notice). m.1) client.tray.taken)) seen e.front c t (sym e.as_many) e.took s;
            }

    module _ (done : length rest ≡ 0) where
      all_seen : all ≡ seen
      all_seen = e.clients_are ∙ ap (λ l. seen ++ l) (no_length rest done) ∙ append-nil seen

      all_trays : trays ≡ e.front
      all_trays = e.trays_are ∙ ap (λ l. e.front ++ l) (no_length more (lengths ∙ done)) ∙ append-nil e.front

      pub have_ended : HaveAllEnded now
      have_ended =
          let n = e.now_is in
          ap (λ (t : TakerEnd OrderIn). length t.ended) n ∙ length-map seen (λ (z : ClientState). z.orders.put)
          ∙ sym (ap length all_seen) ∙ sym (length-map all (λ (z : ClientState). z.orders)) ∙ is.desk.0 ∙ sym (ap (λ (t : TakerEnd OrderIn). t.putters) n)

      pub put_all : now.ended ≡ puts all
      put_all = ap (λ (t : TakerEnd OrderIn). t.ended) e.now_is ∙ sym (ap puts all_seen)

      pub same_taken : now.taken ≡ orders.taken
      same_taken = ap (λ (t : TakerEnd OrderIn). t.taken) e.now_is

      pub same_size : now.size ≡ orders.size
      same_size = ap (λ (t : TakerEnd OrderIn). t.size) e.now_is

      pub all_took : (c : ℕ) (client : ClientState) (tray : PutterEnd Notice) → slice_get all c ≡ Some client → slice_get trays c ≡ Some tray
          → StartsWith tray.put (map (λ (m : ℕ × Notice). m.1) client.tray.taken)
      all_took c client tray p q = e.took c client tray (ap (λ l. slice_get l c) (sym all_seen) ∙ p) (ap (λ l. slice_get l c) (sym all_trays) ∙ q)

      pub orders_fair : (put : List (List OrderIn)) (taken left : List (ℕ × OrderIn)) → put ≡ now.ended → taken ≡ now.taken → IsFair put taken left
          → (c : ℕ) (client : ClientState) → slice_get all c ≡ Some client → of c (orders.taken ++ left) ≡ client.orders.put
      orders_fair put taken left p t fair c client at =
          ap (λ l. of c (l ++ left)) (sym (t ∙ same_taken)) ∙ fair c ∙ ap (λ l. put_by l c) (p ∙ put_all) ∙ put_at all c client at
