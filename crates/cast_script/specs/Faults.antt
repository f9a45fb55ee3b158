-- Lists of elements, where a fault names the first bad one; and what the code returns, given what it should read.
use Rattle.std.specs.Prelude.{◌≡◌, ℕ, ◌+◌, List, [], ◌∷◌, Option, Some, None, Result, Ok, Err}
use Rattle.serde_json.specs.Data.{Data}
use Rattle.cast_script.specs.declared.script.ScriptFault.{ScriptFault}
use Rattle.cast_script.specs.declared.script.ScriptFault.TheVariants.{NotJson, Shape, Config, Memory}

infixl 10 ◌>>=◌
abbrev pub ◌>>=◌ : {A B : Type 0} → Result A ScriptFault → (A → Result B ScriptFault) →
    Result B ScriptFault
(Ok x) >>= f = f x
(Err fault) >>= f = Err fault

abbrev pub onto : {A : Type 0} → A → Result (List A) ScriptFault → Result (List A) ScriptFault
onto x (Ok xs) = Ok (x ∷ xs)
onto x (Err fault) = Err fault

-- the element, if there is one, before the others; otherwise the index names it
abbrev pub at_index : {A : Type 0} → ℕ → Option A → Result (List A) ScriptFault →
    Result (List A) ScriptFault
at_index index None others = Err (Shape index)
at_index index (Some x) others = onto x others

-- the elements that the values are, counted from an index on
abbrev pub elements_from : {A : Type 0} → (Data → Option A) → ℕ → List Data →
    Result (List A) ScriptFault
elements_from element index [] = Ok []
elements_from element index (d ∷ ds) =
    at_index index (element d) (elements_from element (index + 1) ds)

-- a refusal has its cause, but memory may always run out
abbrev pub Refuses : {B : Type 0} → ScriptFault → Result B ScriptFault → Type 0
Refuses NotJson read = ⊥
Refuses (Shape index) read = read ≡ Err (Shape index)
Refuses (Config fault) read = read ≡ Err (Config fault)
Refuses Memory read = Unit {0}

-- The code returns what it should read, by its view, or a refusal.
abbrev pub AnswersBy : {A B : Type 0} → (A → B) → Result A ScriptFault → Result B ScriptFault →
    Type 0
AnswersBy seen (Ok x) read = read ≡ Ok (seen x)
AnswersBy seen (Err fault) read = Refuses fault read

-- the same for code that allocates nothing, and so never runs out of memory
abbrev pub TellsBy : {A B : Type 0} → (A → B) → Result A ScriptFault → Result B ScriptFault → Type 0
TellsBy seen (Ok x) read = read ≡ Ok (seen x)
TellsBy seen (Err fault) read = read ≡ Err fault

abbrev pub Answers : {A : Type 0} → Result A ScriptFault → Result A ScriptFault → Type 0
Answers result read = AnswersBy (λ x. x) result read
