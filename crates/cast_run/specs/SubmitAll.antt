-- What the job that submits a list of items keeps to.
--     SubmitsGiven        its fact
use Rattle.std.specs.Prelude.{◌≡◌, ◌≤◌, List, [], Bool, true, length}
use Rattle.cast_journal.specs.declared.order.OrderIn.{OrderIn}
use Rattle.cast_desk.specs.declared.notice.Notice.{Notice}
use Rattle.cast_run.specs.declared.submit_all.SubmitAll.{SubmitAll}
use Rattle.cast_run.specs.Jobs.{replies_in}
use Rattle.cast_run.specs.Submissions.{AreFirst}

-- it has this many replies, and no more than it has items
abbrev pub HasReplies : SubmitAll → List Notice → Type 0
HasReplies job got = (replies_in got ≡ job.replies) × (job.replies ≤ job.count)

-- it has submitted the first of its items; when it is done, it has submitted all and has as many replies
pub record SubmitsGiven (given job : SubmitAll) (sent : List OrderIn) (got : List Notice)
    (done : Bool) : Type 0 where
  pub count : (job.count ≡ given.count) × (given.count ≡ length given.left)
  pub first : AreFirst given.left job.left sent
  pub replies : HasReplies job got
  pub all : done ≡ true → (job.left ≡ []) × (job.replies ≡ job.count)
