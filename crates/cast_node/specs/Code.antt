-- How values of the node's types are told apart, and what they keep.
--     IsSound            the lists have a place for each sender
use Rattle.std.specs.Prelude.{◌≡◌, ℕ, Bool, List, length, refl}
use Rattle.std.specs.Ordering.{nat_cmp}
use Rattle.std.specs.FinSet as set
use Rattle.std.specs.Coded.{Coded, code_by, coded×, coded_ℕ, coded_list, coded_bool}
use Rattle.cast_message.specs.declared.message.Item.{Item}
use Rattle.cast_fifo.specs.declared.waiting.Waiting.{Waiting}
use Rattle.cast_fifo.specs.HeldBack.{HeldBack}
use Rattle.cast_agree.specs.Counted.{Counted, counted_code}
use Rattle.cast_node.specs.Delivering.{Delivering}

abbrev pub held_back_code : Coded Waiting → Coded HeldBack
held_back_code waiting =
    code_by (ℕ × (Bool × List (ℕ × Waiting)))
    (coded× coded_ℕ (coded× coded_bool (coded_list (coded× coded_ℕ waiting))))
    (λ h. (h.next, (h.closed, h.waiting)))
    (λ p. record { next = p.0; closed = p.1.0; waiting = p.1.1 }) (λ _. refl)

pub record IsSound (knowers : List (List (set.FinSet nat_cmp))) (hold_back : List HeldBack)
    (delivered : List (List Item)) : Type 0 where
  pub rows : length knowers ≡ length hold_back
  pub streams : length delivered ≡ length hold_back

abbrev pub delivering_code : Coded Item → Coded Waiting → Coded Delivering
delivering_code item waiting =
    code_by
    (List (List (set.FinSet nat_cmp)) × (List HeldBack × (List (List Item) × Counted)))
    (coded× (coded_list (coded_list (set.code coded_ℕ)))
    (coded× (coded_list (held_back_code waiting))
    (coded× (coded_list (coded_list item)) counted_code)))
    (λ d. (d.knowers, (d.hold_back, (d.delivered, d.agree))))
    (λ p. record { knowers = p.0; hold_back = p.1.0; delivered = p.1.1.0; agree = p.1.1.1 })
    (λ _. refl)
