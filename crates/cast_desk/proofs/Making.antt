-- Clients and trays that are made one by one.
use Rattle.std.proofs.Common.{◌≡◌, ℕ, ◌+◌, List, [], ◌∷◌, ◌++◌, length, map, slice_get, Some, sym, refl, ap, ◌∙◌, subst, arith}
use Rattle.std.proofs.lemmas.List.{length-map, length-append, map-append}
use Rattle.std.proofs.lemmas.Option.{slice_get_within}
use Rattle.cast_box.proofs.Closing.{found, map_at, each_more, both_more}
use Rattle.cast_box.specs.Ends.{PutterEnd, TakerEnd, AreAllEnds, AreNew}
use Rattle.cast_journal.specs.declared.order.OrderIn.{OrderIn}
use Rattle.cast_desk.specs.declared.notice.Notice.{Notice}
use Rattle.cast_desk.specs.Desk.{ClientState, IsDeskOf, IsNewDesk, IsNewTray, new_client}

pub record Made (size first : ℕ) (ps : List (PutterEnd OrderIn)) (all : List ClientState) (trays : List (PutterEnd Notice)) : Type 0 where
  pub orders : map (λ (c : ClientState). c.orders) all ≡ ps
  pub width : length trays ≡ length all
  pub tray : (c : ℕ) (client : ClientState) (t : PutterEnd Notice) → slice_get all c ≡ Some client → slice_get trays c ≡ Some t → IsNewTray size t client.tray
  pub client : (c : ℕ) (client : ClientState) → slice_get all c ≡ Some client → (client.number ≡ c) × (client.first_ticket ≡ first)

module _ (size first : ℕ) (ps : List (PutterEnd OrderIn)) (all : List ClientState) (trays : List (PutterEnd Notice)) (m : Made size first ps all trays) where
  pub made_more : (p : PutterEnd OrderIn) (t : PutterEnd Notice) (u : TakerEnd Notice) → IsNewTray size t u
      → Made size first (ps ++ p ∷ []) (all ++ new_client (length all) first p u ∷ []) (trays ++ t ∷ [])
  made_more p t u is =
      let orders_of : ClientState → PutterEnd OrderIn = λ c. c.orders in
      let client = new_client (length all) first p u in
      record {
        orders = map-append orders_of all (client ∷ []) ∙ ap (λ l. l ++ p ∷ []) m.orders;
        width = length-append trays (t ∷ []) ∙ ap (λ n. n + 1) m.width ∙ sym (length-append all (client ∷ []));
        tray = both_more (λ c d s. IsNewTray size s d.tray) all trays client t (sym m.width) m.tray is;
        client = each_more (λ c d. (d.number ≡ c) × (d.first_ticket ≡ first)) all client m.client (refl, refl);
      }

  module _ (orders : TakerEnd OrderIn) (ends : AreAllEnds ps orders) (new : AreNew ps orders) (is_size : orders.size ≡ size) where
    many : length all ≡ length ps
    many = sym (length-map all (λ c. c.orders)) ∙ ap length m.orders

    pub made_ends : IsDeskOf all orders trays
    made_ends = record {
      desk = let P : List (PutterEnd OrderIn) → Type 0 = λ l. AreAllEnds l orders in subst P (sym m.orders) ends;
      width = m.width;
      tray = λ c d t e f. (m.tray c d t e f).0;
      number = λ c d e. (m.client c d e).0;
    }

    pub made_count : length all ≡ orders.putters
    made_count = many ∙ ends.0

    pub made_new : IsNewDesk size first all orders trays
    made_new = record {
      client = λ c d e.
          let p = ap (λ l. slice_get l c) (sym m.orders) ∙ map_at (λ (z : ClientState). z.orders) all c d e in
          let fresh = new.0 c d.orders p in
          let t = found trays c (let w = m.width in let k = slice_get_within all c d e in omega arith) in
          let is = m.tray c d t.0 e t.1 in
          ((m.client c d e).1, fresh.2, fresh.0 ∙ is_size, fresh.1, is.1.1, is.2);
      desk = (new.1, is_size);
      tray = λ c t f.
          let d = found all c (let w = m.width in let k = slice_get_within trays c t f in omega arith) in
          let is = m.tray c d.0 t d.1 f in
          let fresh = is.1.0 0 t refl in
          (fresh.2, fresh.0 ∙ is.2, fresh.1 ∙ sym is.0.0);
    }

pub made_as : (size first : ℕ) (ps : List (PutterEnd OrderIn)) (all all' : List ClientState) (trays trays' : List (PutterEnd Notice))
    → all' ≡ all → trays' ≡ trays → Made size first ps all trays → Made size first ps all' trays'
made_as size first ps all all' trays trays' p q m =
    let P : List ClientState → List (PutterEnd Notice) → Type 0 = λ l t. Made size first ps l t in
    subst (λ l. P l trays') (sym p) (subst (P all) (sym q) m)

-- where all putters have been seen
pub made_all : (size first : ℕ) (ps seen : List (PutterEnd OrderIn)) (all : List ClientState) (trays : List (PutterEnd Notice)) (orders : TakerEnd OrderIn)
    → ps ≡ seen → AreAllEnds ps orders → AreNew ps orders → orders.size ≡ size → Made size first seen all trays
    → IsDeskOf all orders trays × (length all ≡ orders.putters) × IsNewDesk size first all orders trays
made_all size first ps seen all trays orders e ends new is m =
    let P : List (PutterEnd OrderIn) → Type 0 = λ l. AreAllEnds l orders × AreNew l orders in
    let now = subst P e (ends, new) in
    (made_ends size first seen all trays m orders now.0 now.1 is, made_count size first seen all trays m orders now.0 now.1 is, made_new size first seen all trays m orders now.0 now.1 is)
