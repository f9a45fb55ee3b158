-- Each step on a box keeps its rule.
use Rattle.std.proofs.Common.{◌≡◌, ◌≢◌, ℕ, zero, suc, ◌+◌, ◌<◌, ◌≤◌, true, false, cond, eqb, List, [], ◌∷◌, ◌++◌, length, set, sym, refl, ap, ◌∙◌, subst, ⊎_elim, eq-eqb, ne_eqb, arith, ◌⊎◌, inl, inr}
use Rattle.std.proofs.lemmas.List.{append-nil, append_assoc, get_or_append_left, get_or_at, length-append}
use Rattle.std.proofs.Math.Decide.{dec_lt}
use mathlib.Core.Logic.{dite}
use mathlib.Core.Option.{Option, some, none, some-injective, some-ne-none}
use lib.ListN.{get_elem?}
use Rattle.crossbeam_queue.specs.Fifo.{Pushes, Pops, Forks, Merges, Learns}
use Rattle.crossbeam_queue.proofs.Lists.{at_set}
use Rattle.cast_box.specs.declared.rule.Known.{Known}
use Rattle.cast_box.specs.declared.rule.Role.TheVariants.{Putting, Taking, Gathering, Ended}
use Rattle.cast_box.specs.Lists.{of, put_by}
use Rattle.cast_box.specs.Rule.{Ruled, Fits, IsPutter, IsTaker, IsGatherer, putter, taker, gatherer, spent, Puts, Takes, Closes, Empties, ShowsPutter, ShowsEnded, ShowsAll, ShowsLeft}
use Rattle.cast_box.proofs.Lists.{of-append, of_mine, of_same, of_other, put_by_past, all_below}

-- the seats with seat b changed
seat_with : (ℕ → Option ℕ) → ℕ → Option ℕ → ℕ → Option ℕ
seat_with seat b o a = cond (eqb a b) o (seat a)

seat_same : (seat : ℕ → Option ℕ) (b : ℕ) (o : Option ℕ) → seat_with seat b o b ≡ o
unfolding seat_with
seat_same seat b o = ap (λ t. cond t o (seat b)) (eq-eqb b b refl)

seat_other : (seat : ℕ → Option ℕ) (a b : ℕ) (o : Option ℕ) → a ≢ b → seat_with seat b o a ≡ seat a
unfolding seat_with
seat_other seat a b o n = ap (λ t. cond t o (seat a)) (ne_eqb a b n)

-- a seat that was none is none, also where it is the one that was made none
still_none : (seat : ℕ → Option ℕ) (a b : ℕ) → seat a ≡ none → seat_with seat b none a ≡ none
unfolding seat_with
still_none seat a b e = elim (eqb a b) as (λ t. cond t none (seat a) ≡ none) [ true ↦ refl | false ↦ e ]

-- two putters with different seats are two
apart : (seat : ℕ → Option ℕ) (a b i j : ℕ) → seat a ≡ some i → seat b ≡ some j → i ≢ j → a ≢ b
apart seat a b i j p q n e = n (some-injective i j (sym p ∙ ap seat e ∙ q))

seated : (seat : ℕ → Option ℕ) (a b i : ℕ) → seat a ≡ none → seat b ≡ some i → a ≢ b
seated seat a b i p q e = some-ne-none i (sym q ∙ sym (ap seat e) ∙ p)

module _ {T : Type 0} where
  at_snoc : (l : List (Known T)) (a b : Known T) (j : ℕ) → get_elem? (l ++ a ∷ []) j ≡ some b → (get_elem? l j ≡ some b) ⊎ ((j ≡ length l) × (a ≡ b))
  at_snoc [] a b zero e = inr (refl, some-injective a b e)
  at_snoc [] a b (suc j) e = absurd (some-ne-none b (sym e))
  at_snoc (x ∷ xs) a b zero e = inl e
  at_snoc (x ∷ xs) a b (suc j) e = ⊎_elim (λ t. inl t) (λ (t : (j ≡ length xs) × (a ≡ b)). inr (ap suc t.0, t.1)) (at_snoc xs a b j e)

  abbrev All : (ℕ → Known T → Type 0) → List (Known T) → Type 0
  All F views = (pass : ℕ) (v : Known T) → get_elem? views pass ≡ some v → F pass v

  at_same : (F : ℕ → Known T → Type 0) {i j : ℕ} {w u : Known T} → F i w → (j ≡ i) × (w ≡ u) → F j u
  at_same F h is = subst (λ (y : ℕ × Known T). F y.0 y.1) (λ k. (sym is.0 k, is.1 k)) h

  all_set : (F : ℕ → Known T → Type 0) (views : List (Known T)) (pass : ℕ) (w : Known T) → F pass w
      → ((j : ℕ) (u : Known T) → j ≢ pass → get_elem? views j ≡ some u → F j u) → All F (set views pass w)
  all_set F views pass w mine others j u e = ⊎_elim (at_same F mine) (λ x. others j u x.0 x.1) (at_set views pass j w u e)

  all_snoc : (F : ℕ → Known T → Type 0) (views : List (Known T)) (w : Known T) → All F views → F (length views) w → All F (views ++ w ∷ [])
  all_snoc F views w old new j u e = ⊎_elim (old j u) (at_same F new) (at_snoc views w u j e)

  module _ {reader : ℕ} {seat : ℕ → Option ℕ} {put : ℕ → List T} {taken items : List (ℕ × T)} {size putters pass : ℕ} {v : Known T} where
    putter_fits : v.role ≡ Putting → IsPutter reader seat put taken items size putters pass v → Fits reader seat put taken items size putters pass v
    putter_fits is mine = record { as_putter = λ r. mine; as_taker = λ r. cc; as_gatherer = λ r. cc }

    taker_fits : v.role ≡ Taking → IsTaker reader seat put taken items size putters pass v → Fits reader seat put taken items size putters pass v
    taker_fits is mine = record { as_putter = λ r. cc; as_taker = λ r. mine; as_gatherer = λ r. cc }

    gatherer_fits : v.role ≡ Gathering → IsGatherer reader seat put taken items size putters pass v → Fits reader seat put taken items size putters pass v
    gatherer_fits is mine = record { as_putter = λ r. cc; as_taker = λ r. cc; as_gatherer = λ r. mine }

    -- an end that was given up fits every box
    spent_fits : v.role ≡ Ended → Fits reader seat put taken items size putters pass v
    spent_fits is = record { as_putter = λ r. cc; as_taker = λ r. cc; as_gatherer = λ r. cc }

    -- what a putter knows goes on to hold where its seat and what it has put stay
    putter_stays : {seat' : ℕ → Option ℕ} {put' : ℕ → List T} {taken' items' : List (ℕ × T)}
        → IsPutter reader seat put taken items size putters pass v → seat' v.number ≡ some pass → put' v.number ≡ put v.number → IsPutter reader seat' put' taken' items' size putters pass v
    putter_stays his sits same = record { sits = sits; put_is = his.put_is ∙ sym same; size_is = his.size_is; putters_is = his.putters_is; below = his.below }

  module _ {items : List (ℕ × T)} {views : List (Known T)} (h : Ruled items views) where
    -- the reader's end changes, and an end beside it is a putter or was given up
    fits_beside : {seat' : ℕ → Option ℕ} {put' : ℕ → List T} {taken' items' : List (ℕ × T)} {size' putters' : ℕ} (pass : ℕ) → pass ≡ h.reader
        → (j : ℕ) (u : Known T) → j ≢ pass → get_elem? views j ≡ some u
        → (IsPutter h.reader h.seat h.put h.taken items h.size h.putters j u → IsPutter h.reader seat' put' taken' items' size' putters' j u)
        → Fits h.reader seat' put' taken' items' size' putters' j u
    fits_beside pass reads j u other e stays =
        let old = h.fits j u e in
        record {
          as_putter = λ r. stays (old.as_putter r);
          as_taker = λ r. absurd (other ((old.as_taker r).reads ∙ sym reads));
          as_gatherer = λ r. absurd (other ((old.as_gatherer r).reads ∙ sym reads));
        }

    -- the reader's end changes the box, and what each putter has put stays
    changes : {items' : List (ℕ × T)} {views' : List (Known T)} (seat' : ℕ → Option ℕ) (taken' : List (ℕ × T)) (size' putters' : ℕ)
        → ((a : ℕ) → of a (taken' ++ items') ≡ h.put a) → length items' ≤ size' → ((a : ℕ) → putters' ≤ a → h.put a ≡ [])
        → All (Fits h.reader seat' h.put taken' items' size' putters') views' → Ruled items' views'
    changes seat' taken' size' putters' fair room within fits =
        record { reader = h.reader; seat = seat'; put = h.put; taken = taken'; size = size'; putters = putters'; fair = fair; room = room; within = within; fits = fits }

  pub begins : Ruled {T = T} [] (taker 0 0 0 [] [] ∷ [])
  begins = record {
    reader = 0;
    seat = λ a. none;
    put = λ a. [];
    taken = [];
    size = 0;
    putters = 0;
    fair = λ a. refl;
    room = omega arith;
    within = λ a h. refl;
    fits = all_snoc _ [] _ (λ j u e. absurd (some-ne-none u (sym e)))
        (taker_fits refl (record {
          reads = refl;
          taken_is = refl;
          unmade = λ a h. (refl, refl);
          ended = λ a h. absurd (omega arith);
          ended_made = omega arith;
          size_is = refl;
          putters_is = refl;
          made_within = omega arith;
        }));
  }

  -- the first end is told the limits of its box, before any other end is made
  pub limits : (pass size putters : ℕ) (v : Known T) → v ≡ taker 0 0 0 [] [] → Forks Ruled pass v (taker size putters 0 [] []) spent
  limits pass size putters v is items views h at =
      let mine = (h.fits pass v at).as_taker (ap (λ w. w.role) is) in
      let fresh : (a : ℕ) → (h.seat a ≡ none) × (h.put a ≡ []) = λ a. mine.unmade a (let n = ap (λ (w : Known T). w.number) is in omega arith) in
      let room : length items ≤ size = let none_yet = h.room in let size_is = mine.size_is in let zero_is = ap (λ (w : Known T). w.size) is in omega arith in
      changes h h.seat h.taken size putters h.fair room (λ a k. (fresh a).1)
      (all_snoc _ _ _
      (all_set _ views pass _
      (taker_fits refl (record {
        reads = mine.reads;
        taken_is = sym (ap (λ (w : Known T). w.taken) is) ∙ mine.taken_is;
        unmade = λ a k. fresh a;
        ended = λ a k. absurd (omega arith);
        ended_made = omega arith;
        size_is = refl;
        putters_is = refl;
        made_within = omega arith;
      }))
      (λ j u other e. fits_beside h pass mine.reads j u other e (λ his. absurd (seated h.seat u.number u.number j (fresh u.number).0 his.sits refl))))
      (spent_fits refl))

  pub puts : (n pass : ℕ) (v : Known T) (x : T) → v.role ≡ Putting → v.size ≡ n → Pushes Ruled n pass v (v.number, x) (Puts v (v.number, x))
  puts n pass v x may size_is items views room h at =
      let w : Known T = putter v.size v.putters v.number (v.put ++ x ∷ []) in
      let m : ℕ × T = (v.number, x) in
      let mine = (h.fits pass v at).as_putter may in
      let put' : ℕ → List T = λ a. h.put a ++ of a (m ∷ []) in
      let same : (a : ℕ) → a ≢ v.number → put' a ≡ h.put a = λ a ne. ap (λ l. h.put a ++ l) (of_other a v.number x ne) ∙ append-nil (h.put a) in (
        w,
        record {
          reader = h.reader;
          seat = h.seat;
          put = put';
          taken = h.taken;
          size = h.size;
          putters = h.putters;
          fair = λ a. ap (of a) (sym (append_assoc h.taken items (m ∷ []))) ∙ of-append a (h.taken ++ items) (m ∷ []) ∙ ap (λ l. l ++ of a (m ∷ [])) (h.fair a);
          room = let long = length-append items (m ∷ []) in let same_size = mine.size_is in omega arith;
          within = λ a k. let lt = mine.below in let ne : a ≢ v.number = omega arith in same a ne ∙ h.within a k;
          fits = all_set _ views pass w
              (putter_fits refl (record {
                sits = mine.sits;
                put_is = ap (λ l. l ++ x ∷ []) mine.put_is ∙ ap (λ l. h.put v.number ++ l) (sym (of_same v.number x));
                size_is = mine.size_is;
                putters_is = mine.putters_is;
                below = mine.below;
              }))
              (λ j u other e. let old = h.fits j u e in record {
                as_putter = λ r. let his = old.as_putter r in putter_stays his his.sits (same u.number (apart h.seat u.number v.number j pass his.sits mine.sits other));
                as_taker = λ r. let his = old.as_taker r in record {
                  reads = his.reads;
                  taken_is = his.taken_is;
                  unmade = λ a k. let no = his.unmade a k in (no.0, same a (seated h.seat a v.number pass no.0 mine.sits) ∙ no.1);
                  ended = λ a k. let no = his.ended a k in (no.0, no.1 ∙ sym (same a (seated h.seat a v.number pass no.0 mine.sits)));
                  ended_made = his.ended_made;
                  size_is = his.size_is;
                  putters_is = his.putters_is;
                  made_within = his.made_within;
                };
                as_gatherer = λ r. let his = old.as_gatherer r in absurd (seated h.seat v.number v.number pass (his.all_ended v.number) mine.sits refl);
              });
        },
        refl,
      )

  pub puts_as : (a n pass : ℕ) (v : Known T) (x : T) → v.role ≡ Putting → v.size ≡ n → v.number ≡ a → Pushes Ruled n pass v (a, x) (Puts v (a, x))
  puts_as a n pass v x may size_is is = let P : ℕ → Type 0 = λ b. Pushes Ruled n pass v (b, x) (Puts v (b, x)) in subst P is (puts n pass v x may size_is)

  not_nil : (x : T) (xs ys : List T) → xs ++ x ∷ ys ≡ [] → ⊥
  not_nil x [] ys e = cc
  not_nil x (y ∷ xs) ys e = cc

  -- an item in the middle stands among its putter's items
  brought : (xs : List (ℕ × T)) (m : ℕ × T) (ys : List (ℕ × T)) → of m.0 (xs ++ m ∷ ys) ≡ of m.0 xs ++ m.1 ∷ of m.0 ys
  brought xs m ys = of-append m.0 xs (m ∷ ys) ∙ ap (λ l. of m.0 xs ++ l) (of_mine m ys)

  pub shows_putter : (pass : ℕ) (v : Known T) → v.role ≡ Putting → Learns Ruled pass v (ShowsPutter v)
  shows_putter pass v may items views h at =
      let mine = (h.fits pass v at).as_putter may in
      let B : ℕ → Type 0 = λ n. (before : List (ℕ × T)) (m : ℕ × T) (after : List (ℕ × T)) → items ≡ before ++ m ∷ after → m.0 < n in
      let below : B h.putters = λ before m after e. dite (dec_lt m.0 h.putters) (λ y. y)
      (λ n. absurd (not_nil m.1 (of m.0 (h.taken ++ before)) (of m.0 after)
      (sym (brought (h.taken ++ before) m after) ∙ ap (of m.0) (append_assoc h.taken before (m ∷ after) ∙ ap (λ l. h.taken ++ l) (sym e)) ∙ h.fair m.0 ∙ h.within m.0 (omega arith)))) in (
        all_below v.putters items (subst B (sym mine.putters_is) below),
        (of v.number h.taken, mine.put_is ∙ sym (h.fair v.number) ∙ of-append v.number h.taken items),
      )

  -- the reader's end takes the next item, and knows then what w says
  pops : (m : ℕ × T) (items : List (ℕ × T)) (views : List (Known T)) (pass : ℕ) (w : Known T) (h : Ruled (m ∷ items) views) → pass ≡ h.reader
      → Fits h.reader h.seat h.put (h.taken ++ m ∷ []) items h.size h.putters pass w → Ruled items (set views pass w)
  pops m items views pass w h reads mine =
      changes h h.seat (h.taken ++ m ∷ []) h.size h.putters (λ a. ap (of a) (append_assoc h.taken (m ∷ []) items) ∙ h.fair a) (let was = h.room in omega arith) h.within
      (all_set _ views pass w mine (λ j u other e. fits_beside h pass reads j u other e (λ his. putter_stays his his.sits refl)))

  pub takes : (pass : ℕ) (v : Known T) → v.role ≡ Taking → Pops Ruled pass v (Takes v)
  takes pass v may m items views h at =
      let w : Known T = taker v.size v.putters v.number (v.taken ++ m ∷ []) v.ended in
      let mine = (h.fits pass v at).as_taker may in
      let below : m.0 < v.number = dite (dec_lt m.0 v.number) (λ y. y)
      (λ n. absurd (not_nil m.1 (of m.0 h.taken) (of m.0 items) (sym (brought h.taken m items) ∙ h.fair m.0 ∙ (mine.unmade m.0 (omega arith)).1))) in (
        w,
        pops m items views pass w h mine.reads
            (taker_fits refl (record {
              reads = mine.reads;
              taken_is = ap (λ l. l ++ m ∷ []) mine.taken_is;
              unmade = mine.unmade;
              ended = mine.ended;
              ended_made = mine.ended_made;
              size_is = mine.size_is;
              putters_is = mine.putters_is;
              made_within = mine.made_within;
            })),
        (refl, below),
      )

  pub shows_ended : (pass : ℕ) (v : Known T) → v.role ≡ Taking → Learns Ruled pass v (ShowsEnded v)
  shows_ended pass v may items views h at a lt =
      let mine = (h.fits pass v at).as_taker may in
      ap (λ l. of a (l ++ items)) mine.taken_is ∙ h.fair a ∙ sym (mine.ended a lt).1

  pub forks : (pass : ℕ) (v : Known T) → v.role ≡ Taking → v.number < v.putters → Forks Ruled pass v (taker v.size v.putters (v.number + 1) v.taken v.ended) (putter v.size v.putters v.number [])
  forks pass v may more items views h at =
      let mine = (h.fits pass v at).as_taker may in
      let vs : List (Known T) = set views pass (taker v.size v.putters (v.number + 1) v.taken v.ended) in
      let seat' : ℕ → Option ℕ = seat_with h.seat v.number (some (length vs)) in
      let free = mine.unmade v.number (omega arith) in
      let kept : (a : ℕ) → a ≢ v.number → seat' a ≡ h.seat a = λ a ne. seat_other h.seat a v.number (some (length vs)) ne in
      changes h seat' h.taken h.size h.putters h.fair h.room h.within
      (all_snoc _ vs _
      (all_set _ views pass _
      (taker_fits refl (record {
        reads = mine.reads;
        taken_is = mine.taken_is;
        unmade = λ a k. let no = mine.unmade a (omega arith) in let ne : a ≢ v.number = omega arith in (kept a ne ∙ no.0, no.1);
        ended = λ a k. let no = mine.ended a k in let le = mine.ended_made in let ne : a ≢ v.number = omega arith in (kept a ne ∙ no.0, no.1);
        ended_made = let le = mine.ended_made in omega arith;
        size_is = mine.size_is;
        putters_is = mine.putters_is;
        made_within = let is = mine.putters_is in omega arith;
      }))
      (λ j u other e. fits_beside h pass mine.reads j u other e
      (λ his. putter_stays his (kept u.number (λ eq. seated h.seat v.number u.number j free.0 his.sits (sym eq)) ∙ his.sits) refl)))
      (putter_fits refl (record {
        sits = seat_same h.seat v.number (some (length vs));
        put_is = sym free.1;
        size_is = mine.size_is;
        putters_is = mine.putters_is;
        below = let is = mine.putters_is in omega arith;
      })))

  pub merges : (pass : ℕ) (v : Known T) (other : ℕ) (w : Known T) → v.role ≡ Taking → w.role ≡ Putting → w.number ≡ length v.ended
      → Merges Ruled pass v other w (taker v.size v.putters v.number v.taken (v.ended ++ w.put ∷ [])) spent
  merges pass v other w may put next items views h at two at' =
      let both : Known T = taker v.size v.putters v.number v.taken (v.ended ++ w.put ∷ []) in
      let mine = (h.fits pass v at).as_taker may in
      let was : get_elem? views other ≡ some w = ⊎_elim (λ x. absurd (two x.0)) (λ x. x.1) (at_set views pass other both w at') in
      let his = (h.fits other w was).as_putter put in
      let seat' : ℕ → Option ℕ = seat_with h.seat w.number none in
      let kept : (a : ℕ) → a ≢ w.number → seat' a ≡ h.seat a = λ a ne. seat_other h.seat a w.number none ne in
      let gone : (a : ℕ) → h.seat a ≡ none → seat' a ≡ none = λ a e. still_none h.seat a w.number e in
      let made : length v.ended < v.number = dite (dec_lt (length v.ended) v.number) (λ y. y)
      (λ n. absurd (seated h.seat w.number w.number other (mine.unmade w.number (omega arith)).0 his.sits refl)) in
      let ended : (a : ℕ) → a < length (v.ended ++ w.put ∷ []) → (seat' a ≡ none) × (put_by (v.ended ++ w.put ∷ []) a ≡ h.put a) =
      λ a k. let len = length-append v.ended (w.put ∷ []) in
      dite (dec_lt a (length v.ended))
      (λ y. (gone a (mine.ended a y).0, get_or_append_left v.ended (w.put ∷ []) [] a y ∙ (mine.ended a y).1))
      (λ n. let is : a ≡ w.number = omega arith in
      (ap seat' is ∙ seat_same h.seat w.number none, get_or_at v.ended w.put [] [] a (omega arith) ∙ his.put_is ∙ ap h.put (sym is))) in
      let F : ℕ → Known T → Type 0 = Fits h.reader seat' h.put h.taken items h.size h.putters in
      let now = all_set (λ j y. j ≢ other → F j y) views pass both
      (λ ne. taker_fits refl (record {
        reads = mine.reads;
        taken_is = mine.taken_is;
        unmade = λ a k. let no = mine.unmade a k in (gone a no.0, no.1);
        ended = ended;
        ended_made = let len = length-append v.ended (w.put ∷ []) in omega arith;
        size_is = mine.size_is;
        putters_is = mine.putters_is;
        made_within = mine.made_within;
      }))
      (λ j u o e ne. fits_beside h pass mine.reads j u o e
      (λ its. putter_stays its (kept u.number (apart h.seat u.number w.number j other its.sits his.sits ne) ∙ its.sits) refl)) in
      changes h seat' h.taken h.size h.putters h.fair h.room h.within (all_set _ (set views pass both) other spent (spent_fits refl) (λ j u ne e. now j u e ne))

  -- once all putters have ended, no seat is left, and what each has put is known
  all_ended : (reader : ℕ) (seat : ℕ → Option ℕ) (put : ℕ → List T) (taken items : List (ℕ × T)) (size putters pass : ℕ) (v : Known T)
      → v.number ≡ length v.ended → IsTaker reader seat put taken items size putters pass v → (a : ℕ) → (seat a ≡ none) × (put_by v.ended a ≡ put a)
  all_ended reader seat put taken items size putters pass v all mine a =
      dite (dec_lt a (length v.ended)) (λ y. mine.ended a y)
      (λ n. let past : length v.ended ≤ a = omega arith in let no = mine.unmade a (omega arith) in (no.0, put_by_past v.ended a past ∙ sym no.1))

  pub closes : (pass : ℕ) (v : Known T) → v.role ≡ Taking → v.number ≡ length v.ended → Pops Ruled pass v (Closes v)
  closes pass v may all m items views h at =
      let w : Known T = gatherer v.taken v.ended items in
      let mine = (h.fits pass v at).as_taker may in
      let know = all_ended h.reader h.seat h.put h.taken (m ∷ items) h.size h.putters pass v all mine in
      let room : length (m ∷ items) ≤ v.size = let was = h.room in let is = mine.size_is in omega arith in (
        w,
        pops m items views pass w h mine.reads
            (gatherer_fits refl (record { reads = mine.reads; left_is = refl; all_ended = λ a. (know a).0 })),
        (refl, (λ a. ap (λ l. of a (l ++ m ∷ items)) mine.taken_is ∙ h.fair a ∙ sym (know a).1), room),
      )

  pub shows_all : (pass : ℕ) (v : Known T) → v.role ≡ Taking → v.number ≡ length v.ended → Learns Ruled pass v (ShowsAll v)
  shows_all pass v may all items views h at a =
      let mine = (h.fits pass v at).as_taker may in
      let know = all_ended h.reader h.seat h.put h.taken items h.size h.putters pass v all mine a in
      ap (λ l. of a (l ++ items)) mine.taken_is ∙ h.fair a ∙ sym know.1

  pub empties : (pass : ℕ) (v : Known T) → v.role ≡ Gathering → Pops Ruled pass v (Empties v)
  empties pass v may m items views h at =
      let w : Known T = gatherer v.taken v.ended items in
      let mine = (h.fits pass v at).as_gatherer may in (
        w,
        pops m items views pass w h mine.reads
            (gatherer_fits refl (record { reads = mine.reads; left_is = refl; all_ended = mine.all_ended })),
        (refl, mine.left_is),
      )

  pub shows_left : (pass : ℕ) (v : Known T) → v.role ≡ Gathering → Learns Ruled pass v (ShowsLeft v)
  shows_left pass v may items views h at = sym ((h.fits pass v at).as_gatherer may).left_is
