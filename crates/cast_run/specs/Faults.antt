-- Why a group is not run.
--     Fits nodes jobs gates faults                the jobs, the number of gates and the plan fit a group of this many nodes
--     IsFaultOf nodes jobs gates faults fault     the first cause that holds; if all fits, memory or threads were lacking
--     IsMisfit nodes jobs gates faults fault      the first cause that holds, of those that lie in what was handed in
--     fault_by fault                               the refusal for threads that were not started
use Rattle.std.specs.Prelude.{◌≡◌, ◌≢◌, ◌≤◌, ◌<◌, ℕ, List, length, slice_get, Some}
use Rattle.cast_message.specs.declared.plan.Fault.{Fault}
use Rattle.cast_box.specs.Lists.{of}
use Rattle.cast_message.specs.declared.live_fault.LiveFault.{LiveFault}
use Rattle.cast_message.specs.declared.live_fault.LiveFault.TheVariants.{Jobs, Gates, Plan, Memory, Threads}
use Rattle.cast_run.specs.declared.fault.StartFault.{StartFault}
use Rattle.cast_run.specs.declared.fault.StartFault.TheVariants.{Memory as NoMemory, Threads as NoThread}
use Rattle.cast_carrier.specs.Plans.{ArePlanned}

-- each job is at a node, and no node has more than 4
pub record JobsFit {J : Type 0} (nodes : ℕ) (jobs : List (ℕ × J)) : Type 0 where
  pub placed : (i : ℕ) (job : ℕ × J) → slice_get jobs i ≡ Some job → job.0 < nodes
  pub few : (p : ℕ) → p < nodes → length (of p jobs) ≤ 4

pub record Fits {J : Type 0} (nodes : ℕ) (jobs : List (ℕ × J)) (gates : ℕ) (faults : List Fault)
    : Type 0 where
  pub jobs_fit : JobsFit nodes jobs
  pub gates_fit : gates ≡ nodes
  pub plan_fits : ArePlanned nodes faults

abbrev pub IsFaultOf : {J : Type 0} → ℕ → List (ℕ × J) → ℕ → List Fault → LiveFault → Type 0
IsFaultOf nodes jobs gates faults Jobs = ¬ JobsFit nodes jobs
IsFaultOf nodes jobs gates faults Gates = JobsFit nodes jobs × (gates ≢ nodes)
IsFaultOf nodes jobs gates faults Plan = JobsFit nodes jobs × (gates ≡ nodes) × ¬ ArePlanned nodes faults
IsFaultOf nodes jobs gates faults Memory = Fits nodes jobs gates faults
IsFaultOf nodes jobs gates faults Threads = Fits nodes jobs gates faults

abbrev pub IsMisfit : {J : Type 0} → ℕ → List (ℕ × J) → ℕ → List Fault → LiveFault → Type 0
IsMisfit nodes jobs gates faults fault =
    IsFaultOf nodes jobs gates faults fault × ¬ Fits nodes jobs gates faults

-- the refusal for threads that were not started
abbrev pub fault_by : StartFault → LiveFault
fault_by NoMemory = Memory
fault_by NoThread = Threads
