-- Why a group whose jobs, gates and plan fit is not run.
use Rattle.std.proofs.Common.{◌≡◌, ℕ, List, Result, Ok, Err, IfErr, sym, subst}
use Rattle.std.specs.Prelude.{IsErrAnd}
use Rattle.cast_message.specs.declared.plan.Fault.{Fault}
use Rattle.cast_message.specs.declared.live_fault.LiveFault.{LiveFault}
use Rattle.cast_run.specs.declared.fault.StartFault.{StartFault}
use Rattle.cast_run.specs.declared.fault.StartFault.TheVariants.{Memory, Threads}
use Rattle.cast_run.specs.Faults.{Fits, IsFaultOf, fault_by}

-- what fits by a slice and a length
pub still_fits : {J : Type 0} (nodes : ℕ) (faults : List Fault) (slice jobs : List (ℕ × J)) (many gates : ℕ) → slice ≡ jobs → many ≡ gates → Fits nodes slice many faults → Fits nodes jobs gates faults
still_fits nodes faults slice jobs many gates e m fits = subst (λ n. Fits nodes jobs n faults) m (subst (λ l. Fits nodes l many faults) e fits)

module _ {J : Type 0} (nodes : ℕ) (jobs : List (ℕ × J)) (gates : ℕ) (faults : List Fault) (fits : Fits nodes jobs gates faults) where
  by_start : (start : StartFault) → IsFaultOf nodes jobs gates faults (fault_by start)
  by_start Memory = fits
  by_start Threads = fits

  -- threads that were not started
  pub not_started : {T : Type 0} (r : Result T LiveFault) (start : StartFault) → IsErrAnd r (λ fault. fault ≡ fault_by start) → IfErr r (λ fault. IsFaultOf nodes jobs gates faults fault)
  not_started (Ok x) start is = tt
  not_started (Err fault) start is = subst (λ f. IsFaultOf nodes jobs gates faults f) (sym is) (by_start start)
