-- What a follower hears, by one turn and by all.
use Rattle.std.proofs.Common.{◌≡◌, ℕ, zero, suc, ◌+◌, Bool, true, false, not, List, [], ◌∷◌, ◌++◌, length, length-append, map, take, get_or, ◌<◌, refl, sym, ap, ◌∙◌, subst, arith, append_assoc, IsTrue}
use Rattle.std.proofs.lemmas.List.{append-nil, map-append, take_more}
use Rattle.std.proofs.lemmas.List.Elements.{filter_map-append}
use Rattle.cast_message.specs.declared.message.Message.{Message}
use Rattle.cast_box.specs.Ends.{PutterEnd}
use Rattle.cast_desk.specs.Desk.{ClientState}
use Rattle.cast_journal.specs.declared.order.OrderIn.{OrderIn}
use Rattle.cast_desk.specs.declared.notice.Notice.{Notice}
use Rattle.cast_run.specs.Jobs.{submitted, got, told_job}
use Rattle.cast_run.specs.Submissions.{SubmitsNext}
use Rattle.cast_run.proofs.Submitting.{first_next}
use Rattle.cast_merge.specs.Told.{message_told, told}
use Rattle.cast.specs.declared.follower.Follower.{Follower}
use Rattle.cast.specs.Followers.{GoesOn, HearsMore, FollowerFact, IsNewFollower, AreNewFollowers}

module _ {M : Type 0} (stands : M → List Message → Type 0) where
  -- it has heard no notice more
  pub hears_nothing : (f : Follower M) (before after : List Notice) → after ≡ before → HearsMore stands f before f after
  hears_nothing f before after same = (
    [],
    same ∙ sym (append-nil before),
    (omega arith),
    λ taken s. subst (stands f.machine) (sym (append-nil taken)) s,
  )

  -- it heard one, and its machine took what that says
  pub hears_one : (old new : Follower M) (before : List Notice) (n : Notice) → new.heard ≡ old.heard + 1
      → ((taken : List Message) → stands old.machine taken → stands new.machine (taken ++ told (n ∷ []))) → HearsMore stands old before new (before ++ n ∷ [])
  hears_one old new before n counted took = (n ∷ [], refl, counted, took)

  -- nothing is taken by a notice that says no delivery
  pub takes_nothing : (old new : M) → new ≡ old → (taken : List Message) → stands old taken → stands new (taken ++ [])
  takes_nothing old new same taken s = subst (λ m. stands m (taken ++ [])) (sym same) (subst (stands old) (sym (append-nil taken)) s)

  -- behind notices that were heard others were heard
  pub hears_on : (first old new : Follower M) (none before after : List Notice) → HearsMore stands first none old before → HearsMore stands old before new after
      → HearsMore stands first none new after
  hears_on first old new none before after one more = (
    one.0 ++ more.0,
    more.1 ∙ ap (λ l. l ++ more.0) one.1 ∙ append_assoc none one.0 more.0,
    (let a = one.2 in let b = more.2 in let c = length-append one.0 more.0 in omega (arith, a, b, c)),
    λ taken s.
        subst (stands new.machine)
        (append_assoc taken (told one.0) (told more.0) ∙ ap (λ l. taken ++ l) (sym (filter_map-append message_told one.0 more.0)))
        (more.3 (taken ++ told one.0) (one.3 taken s)),
  )

  -- the machine took one notice more of a list
  pub took_more : (first old new : M) (all : List Notice) (i : ℕ) (n : Notice) → i < length all → n ≡ get_or all i n
      → ((taken : List Message) → stands first taken → stands old (taken ++ told (take i all)))
      → ((taken : List Message) → stands old taken → stands new (taken ++ told (n ∷ [])))
      → (taken : List Message) → stands first taken → stands new (taken ++ told (take (i + 1) all))
  took_more first old new all i n within is before step taken s =
      let one : take (i + 1) all ≡ take i all ++ n ∷ [] = take_more all i n within ∙ ap (λ x. take i all ++ x ∷ []) (sym is) in
      subst (stands new)
      (append_assoc taken (told (take i all)) (told (n ∷ []))
      ∙ ap (λ l. taken ++ l) (sym (filter_map-append message_told (take i all) (n ∷ [])) ∙ ap told (sym one)))
      (step (taken ++ told (take i all)) (before taken s))

  -- one turn
  pub keeps_following : (given old between new : Follower M) (client client' client'' : ClientState) (done : Bool)
      → FollowerFact stands given old (submitted client) (got client) false
      → SubmitsNext old.left between.left client client' → (between.machine ≡ old.machine) × (between.heard ≡ old.heard) → got client' ≡ got client
      → client''.orders ≡ client'.orders → GoesOn between new → HearsMore stands between (got client') new (got client'')
      → (done ≡ true → new.left ≡ []) → FollowerFact stands given new (submitted client'') (got client'') done
  keeps_following given old between new client client' client'' done fact next same tray orders goes more all =
      let first = first_next given.left old.left between.left client client' fact.ordered next in
      let from : HearsMore stands given [] between (got client') = (
        fact.heard.0,
        tray ∙ fact.heard.1,
        same.1 ∙ fact.heard.2,
        λ taken s. subst (λ m. stands m (taken ++ told fact.heard.0)) (sym same.0) (fact.heard.3 taken s),
      ) in
      record {
        ordered = ap (λ (e : PutterEnd OrderIn). map (λ o. o.item) e.put ++ new.left) orders ∙ ap (λ l. map (λ o. o.item) client'.orders.put ++ l) goes.0 ∙ first;
        all = all;
        heard = hears_on given between new [] (got client') (got client'') from more;
      }

  -- before its first turn
  pub begins : (given : Follower M) → FollowerFact stands given given [] [] false
  begins given = record { ordered = refl; all = λ (e : false ≡ true). absurd (cc); heard = hears_nothing given [] [] refl }

  -- one more new follower
  pub followers_with : (fs : List (ℕ × Follower M)) (node : ℕ) (f : Follower M) → AreNewFollowers stands fs → IsNewFollower stands f → AreNewFollowers stands (fs ++ (node, f) ∷ [])
  followers_with [] n f each new zero node g e =
      let same : told_job n f ≡ told_job node g = cc in
      subst (λ (p : ℕ × Follower M). IsNewFollower stands p.1) same new
  followers_with [] n f each new (suc i) node g e = absurd (cc)
  followers_with (x ∷ xs) n f each new zero node g e = each zero node g e
  followers_with (x ∷ xs) n f each new (suc i) node g e = followers_with xs n f (λ k m a at. each (suc k) m a at) new i node g e

-- one notice more was taken
pub got_more : (old new : List (ℕ × Notice)) (from : ℕ) (n : Notice) → new ≡ old ++ (from, n) ∷ [] → map (λ m. m.1) new ≡ map (λ m. m.1) old ++ n ∷ []
got_more old new from n e =
    let snd : ℕ × Notice → Notice = λ m. m.1 in
    ap (map snd) e ∙ map-append snd old ((from, n) ∷ [])

pub twice : (b : Bool) → not (not b) ≡ true → IsTrue b
twice true e = e
twice false e = e
