-- What is told of a log that has one entry more.
use Rattle.std.proofs.Common.{◌≡◌, ◌≢◌, ℕ, zero, suc, ◌+◌, ◌^◌, ◌%◌, ◌<◌, ◌≤◌, List, [], ◌∷◌, ◌++◌, length, map, take, get_or, refl, sym, ap, ◌∙◌, arith, Bor}
use Rattle.std.proofs.lemmas.List.{append-nil, append_assoc, map-append, take_more}
use Rattle.cast_message.specs.declared.event.Event.{Event}
use Rattle.cast_message.specs.declared.event.Event.TheVariants.{Order, Send, Ack, Arrive, Crash}
use Rattle.cast_log.specs.declared.entry.Entry.{Entry}
use Rattle.cast_log.specs.declared.entry.EntryKind.{EntryKind}
use Rattle.cast_log.specs.declared.entry.EntryKind.TheVariants.{Step, Refused}
use Rattle.cast_log.specs.declared.log.KindRef.{KindRef}
use Rattle.cast_log.specs.declared.log.KindRef.TheVariants.{Sent as SentRef, Acked as AckedRef, Arrived as ArrivedRef, Whole}
use Rattle.cast_log.specs.Logged.{shown_kind}
use Rattle.cast_desk.specs.declared.notice.Notice.{Notice}
use Rattle.cast_desk.specs.Feed.{feed_from, told_by, orders_in, order_count, orders_of}

pub take_within : {A : Type 0} (xs : List A) (n : ℕ) → length (take n xs) ≤ length xs
take_within [] zero = omega arith
take_within [] (suc n) = omega arith
take_within (x ∷ xs) zero = omega arith
take_within (x ∷ xs) (suc n) = let rest = take_within xs n in omega arith

pub take_all : {A : Type 0} (xs : List A) (n : ℕ) → length xs ≤ n → take n xs ≡ xs
take_all [] zero h = refl
take_all [] (suc n) h = refl
take_all (x ∷ xs) zero h = absurd (omega arith)
take_all (x ∷ xs) (suc n) h = ap (λ l. x ∷ l) (take_all xs n (omega arith))

pub feed_snoc : (client number : ℕ) (log : List Entry) (e : Entry) → feed_from client number (log ++ e ∷ []) ≡ feed_from client number log ++ told_by client (number + orders_of log) e.kind
feed_snoc client number [] e = let same : number ≡ number + 0 = omega arith in append-nil (told_by client number e.kind) ∙ ap (λ n. told_by client n e.kind) same
feed_snoc client number (x ∷ xs) e =
    ap (λ l. told_by client number x.kind ++ l) (feed_snoc client (number + orders_in x.kind) xs e)
    ∙ ap (λ n. told_by client number x.kind ++ (feed_from client (number + orders_in x.kind) xs ++ told_by client n e.kind)) (omega arith)
    ∙ sym (append_assoc (told_by client number x.kind) (feed_from client (number + orders_in x.kind) xs) (told_by client (number + orders_of (x ∷ xs)) e.kind))

pub orders_snoc : (log : List Entry) (e : Entry) → orders_of (log ++ e ∷ []) ≡ orders_of log + orders_in e.kind
orders_snoc [] e = omega arith
orders_snoc (x ∷ xs) e = let rest = orders_snoc xs e in omega arith

order_or_not : (event : Event) → order_count event ≤ 1
order_or_not (Order n i) = omega arith
order_or_not (Send f t s) = omega arith
order_or_not (Ack f t s) = omega arith
order_or_not (Arrive f s) = omega arith
order_or_not (Crash n) = omega arith

one_or_none : (kind : EntryKind) → orders_in kind ≤ 1
one_or_none (Step event origin outcome) = order_or_not event
one_or_none (Refused origin fault) = omega arith

pub orders_within : (log : List Entry) → orders_of log ≤ length log
orders_within [] = omega arith
orders_within (x ∷ xs) = let one = one_or_none x.kind in let rest = orders_within xs in omega arith

pub no_left : {A : Type 0} (xs ys : List A) → xs ++ ys ≡ [] → xs ≡ []
no_left [] ys none = refl
no_left (x ∷ xs) ys none = absurd cc

pub no_right : {A : Type 0} (xs ys : List A) → xs ++ ys ≡ [] → ys ≡ []
no_right [] ys none = none
no_right (x ∷ xs) ys none = absurd cc

-- where an entry tells something, the log does
pub fed_at : (client number : ℕ) (log : List Entry) (i : ℕ) (e : Entry) → i < length log → e ≡ get_or log i e → told_by client (number + orders_of (take i log)) e.kind ≢ [] → feed_from client number log ≢ []
fed_at client number [] i e lt is told none = absurd (omega arith)
fed_at client number (x ∷ xs) zero e lt is told none =
    let same : number + 0 ≡ number = omega arith in
    told (ap (λ n. told_by client n e.kind) same ∙ ap (λ (y : Entry). told_by client number y.kind) is ∙ no_left (told_by client number x.kind) (feed_from client (number + orders_in x.kind) xs) none)
fed_at client number (x ∷ xs) (suc i) e lt is told none =
    let same : number + orders_of (x ∷ take i xs) ≡ number + orders_in x.kind + orders_of (take i xs) = omega arith in
    fed_at client (number + orders_in x.kind) xs i e (omega arith) is (λ t. told (ap (λ n. told_by client n e.kind) same ∙ t)) (no_right (told_by client number x.kind) (feed_from client (number + orders_in x.kind) xs) none)

-- a step without news tells nobody anything, and is no order
pub silent_tells_none : (kind : KindRef) → ((whole : Bor EntryKind) → kind ≡ Whole whole → ⊥) → (client number : ℕ)
    → (told_by client number (shown_kind kind) ≡ []) × (orders_in (shown_kind kind) ≡ 0)
silent_tells_none (SentRef from to slot) other client number = (refl, refl)
silent_tells_none (AckedRef from to slot) other client number = (refl, refl)
silent_tells_none (ArrivedRef from seq) other client number = (refl, refl)
silent_tells_none (Whole whole) other client number = absurd (other whole refl)

-- something is mapped, where there is something
pub mapped_some : {A B : Type 0} (f : A → B) (xs : List A) (i : ℕ) → i < length xs → map f xs ≢ []
mapped_some f [] i lt none = absurd (omega arith)
mapped_some f (x ∷ xs) i lt none = absurd cc

module _ (client : ℕ) (log : List Entry) (i : ℕ) (e : Entry) (lt : i < length log) (is : e ≡ get_or log i e) where
  more : take (i + 1) log ≡ take i log ++ e ∷ []
  more = take_more log i e lt ∙ ap (λ x. take i log ++ x ∷ []) (sym is)

  pub fed_more : (old new : List Notice) (orders : ℕ) → old ≡ feed_from client 0 (take i log) → orders ≡ orders_of (take i log) → new ≡ old ++ told_by client orders e.kind
      → new ≡ feed_from client 0 (take (i + 1) log)
  fed_more old new orders p q r =
      let seen = take i log in
      let zero_on : 0 + orders_of seen ≡ orders_of seen = omega arith in
      r ∙ ap (λ l. l ++ told_by client orders e.kind) p ∙ ap (λ n. feed_from client 0 seen ++ told_by client n e.kind) (q ∙ sym zero_on)
      ∙ sym (feed_snoc client 0 seen e) ∙ ap (feed_from client 0) (sym more)

  pub counted_more : (orders k : ℕ) → orders ≡ orders_of (take i log) → k ≡ orders_in e.kind → length log < 2 ^ 64 → (orders + k) % 18446744073709551616 ≡ orders_of (take (i + 1) log)
  counted_more orders k p q cap =
      let sum : orders_of (take (i + 1) log) ≡ orders_of (take i log) + orders_in e.kind = ap orders_of more ∙ orders_snoc (take i log) e in
      let within = orders_within (take (i + 1) log) in
      let short = take_within log (i + 1) in
      omega arith

-- one element more of a list was written down
pub mapped_more : {A B : Type 0} (f : A → B) (old now new : List B) (xs : List A) (i : ℕ) (x : A) → i < length xs → x ≡ get_or xs i x
    → now ≡ old ++ map f (take i xs) → new ≡ now ++ f x ∷ [] → new ≡ old ++ map f (take (i + 1) xs)
mapped_more f old now new xs i x lt is p q =
    q ∙ ap (λ l. l ++ f x ∷ []) p ∙ append_assoc old (map f (take i xs)) (f x ∷ []) ∙ ap (λ l. old ++ l) (sym (map-append f (take i xs) (x ∷ [])))
    ∙ ap (λ l. old ++ map f l) (sym (take_more xs i x lt ∙ ap (λ y. take i xs ++ y ∷ []) (sym is)))
