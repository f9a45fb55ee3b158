-- What followers keep to.
--     GoesOn old new                        the follower has the same items left, and awaits as much
--     HearsMore stands old before new after it goes on from what it had heard to what it has heard
--     FollowerFact stands                   the fact of a follower whose machine matches messages in this way
--     IsNewFollower, AreNewFollowers        it has heard nothing, and its machine matches no messages
use Rattle.std.specs.Prelude.{◌≡◌, ℕ, ◌+◌, Bool, true, List, [], ◌++◌, length, slice_get, Some}
use Rattle.cast_message.specs.declared.message.Message.{Message}
use Rattle.cast_journal.specs.declared.order.OrderIn.{OrderIn}
use Rattle.cast_desk.specs.declared.notice.Notice.{Notice}
use Rattle.cast_run.specs.Jobs.{told_job}
use Rattle.cast_run.specs.Submissions.{AreFirst}
use Rattle.cast_merge.specs.Told.{told}
use Rattle.cast.specs.declared.follower.Follower.{Follower}

abbrev pub GoesOn : {M : Type 0} → Follower M → Follower M → Type 0
GoesOn old new = (new.left ≡ old.left) × (new.awaited ≡ old.awaited)

-- the follower heard more notices: they are counted, and the machine has taken the messages among them
abbrev pub HearsMore : {M : Type 0} → (M → List Message → Type 0) → Follower M → List Notice
    → Follower M → List Notice → Type 0
HearsMore stands old before new after =
    (more : List Notice) × (after ≡ before ++ more) × (new.heard ≡ old.heard + length more)
    × ((taken : List Message) → stands old.machine taken → stands new.machine (taken ++ told more))

-- It has submitted the first of its items, in order; when it is done, all of them. It has counted its notices. Its
-- machine has taken the messages among them, in order, after those that it had taken before.
pub record FollowerFact {M : Type 0} (stands : M → List Message → Type 0) (given job : Follower M)
    (sent : List OrderIn) (got : List Notice) (done : Bool) : Type 0 where
  pub ordered : AreFirst given.left job.left sent
  pub all : done ≡ true → job.left ≡ []
  pub heard : HearsMore stands given [] job got

abbrev pub IsNewFollower : {M : Type 0} → (M → List Message → Type 0) → Follower M → Type 0
IsNewFollower stands follower = (follower.heard ≡ 0) × stands follower.machine []

abbrev pub AreNewFollowers : {M : Type 0} → (M → List Message → Type 0) → List (ℕ × Follower M) → Type 0
AreNewFollowers {M} stands followers =
    (i node : ℕ) (follower : Follower M) → slice_get followers i ≡ Some (told_job node follower)
    → IsNewFollower stands follower
