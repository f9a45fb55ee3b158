-- `empty` makes a null pointer, which owns nothing.
use Rattle.std.proofs.Common.{◌≡◌, List, [], ◌∷◌, refl, None, lit<}
use mir.Val.{Val, vstruct, vcons, vnil}
use base.Logic.{SProp, emp}
use base.Fml.{ftrue}
use types.Kit.{‵, raw, ◌⊛◌, ◌$◌, ◌∵◌, !, qed, by, move, keep, split, fjoin, fpack, use0, feq_i}
use types.Run.{lit, no_more, and_then, returns, enter}
use types.ByLocal.{alloc_all, pass_all, free_all, look_at, sets}
use types.Part.{agg}
use contract.Monad.{fact, fact_i}
use contract.Running.{tables}
use denote.RattleType.{Valss}
use denote.Builtin.{RawPtr}
use denote.RawPtr.{null_ptr, ptr_val}
use denote.Steps.{nothing}
use denote.Struct.Owning.{shape}
use denote.Struct.Struct.{within}
use denote.Triple.Walked.{Stays, walk_of}
use Rattle.std.proofs.raw_atomic.Walks.{proved_at, leaves}
use Rattle.cast_c.specs.contracts.peer_handle.LoosePeer as loose
use Rattle.cast_c.specs.contracts.peer_handle.LoosePeer.empty.{ended, clauses}
use Rattle.cast_c.specs.contracts.peer_handle.LoosePeer.empty.Key.{name as #self}
use Rattle.cast_c.proofs.peer_handle.LoosePeer.empty.Statement.{statement}
use Rattle.cast_c.proofs.peer_handle.LoosePeer.empty.Code as code

pub empty_spec : {M : Type 1} → statement M
empty_spec 𝓤 𝓛 𝓜 𝓡 wired =
    let H = 𝓛.H in let 𝓣 = tables 𝓤 H 𝓜 𝓡 𝓡.env in let c = clauses 𝓛 𝓜.mem 𝓡.returns in let fn = code.function in
    let hs : Stays ended.signature.params ended.kept = tt in
    proved_at 𝓛 ended hs c 𝓜 𝓡 tt #self fn (code.unfolded 𝓤 H 𝓜 𝓡 wired) (λ z are.
    let Post : Val → SProp 𝓤 = (walk_of 𝓛 ended hs c).post z in let null : Val = ptr_val null_ptr in let out : Val = vstruct (vcons null vnil) in
    let made : (loose.the_row).Denot = record { at = null_ptr; peer = None } in
    qed 𝓛 ((‵ ftrue ⊛ ‵ ftrue) ∷ raw (emp 𝓤) ∷ []) ∵
    nothing ! $ nothing ! $ feq_i ! (List Val) (null ∷ []) (null ∷ []) refl $ fjoin ! $ feq_i ! (List Val) (out ∷ []) (out ∷ []) refl $ fjoin ! $
    fpack ! (Valss (RawPtr ∷ [])) (within (shape loose.the_type) (null_ptr, tt) (out ∷ [])) (null ∷ [], tt) $ fjoin ! $
    enter ! 𝓣.C 𝓣.Λ fn [] Post $ alloc_all ! (λ l. pass_all ! refl tt $
    sets ! (agg ! (and_then ! (lit ! tt) (no_more !))) refl (tt, (record { fits = lit< tt }, tt)) $
    use0 𝓛 (raw (fact 𝓤 (made.peer ≡ None))) (fact_i 𝓤 (made.peer ≡ None) (emp 𝓤) refl) $ move ! (2 ∷ []) $ split ! $
    returns ! (look_at ! 0 refl) $ free_all ! refl $ keep ! (0 ∷ 1 ∷ 3 ∷ 2 ∷ []) $ by ! (leaves 𝓛 ended hs c z out made tt tt)))
