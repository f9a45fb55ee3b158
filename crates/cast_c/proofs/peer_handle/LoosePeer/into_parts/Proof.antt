-- `into_parts` moves the pointer, and what it owns goes with it.
use Rattle.std.proofs.Common.{◌≡◌, List, [], ◌∷◌, ◌++◌, refl, sym, ap, ◌∙◌, subst, true, Option, Some}
use mir.Raw.{raw as bare}
use mir.Val.{Val, vptr, vstruct, vcons, vnil, of_list}
use base.Logic.{SProp, ent, emp, never, id⊢, fst∗}
use base.Fml.{ftrue}
use types.Logic.{sem}
use prog.Wp.{WpFn}
use types.Kit.{‵, raw, ◌⊛◌, ◌$◌, ◌∵◌, !, qed, by, move, keep, drop, split, fsplit, fjoin, fpick, suffices, use0, use1, rewrite, feq_l}
use types.Run.{stop, fld, of_opd, no_more, and_then, returns, enter}
use types.ByLocal.{alloc_all, pass_all, free_all, look_at, get, get_in, sets}
use types.Part.{agg, sub, whole}
use contract.Monad.{fact, fact_i}
use contract.Running.{tables}
use denote.Exit.{yes}
use denote.RattleType.{RattleType, owns}
use denote.Memory.{lone}
use denote.RawPtr.{Ptr, block_ptr, null_ptr, ptr_val, in_a_block}
use denote.Signature.{types_at, plain}
use denote.Steps.{nothing, heard}
use denote.Triple.Walked.{Stays, stay_dropped, walk_of, Goes-dropped}
use Rattle.std.proofs.BoxSteps.Form as box
use Rattle.std.proofs.BoxSteps.Steps.{box_in}
use Rattle.std.specs.Box.Ownership.{box_owns}
use Rattle.cast_c.specs.Freeing.{freeing}
use Rattle.std.proofs.alloc.Calls.{handle_tells}
use Rattle.cast_c.specs.PeerOwning.{peer_owns}
use Rattle.cast_c.proofs.Holds.{shown}
use Rattle.std.proofs.raw_atomic.Walks.{proved_at, leaves}
use Rattle.std.specs.Prelude.{is_some}
use Rattle.cast_c.proofs.AsPeerBox.{E}
use Rattle.cast_c.specs.contracts.peer_handle.LoosePeer as loose
use Rattle.cast_c.specs.contracts.parts.Parts as parts
use Rattle.cast_c.specs.contracts.peer_handle.LoosePeer.into_parts.{ended, clauses}
use Rattle.cast_c.specs.contracts.peer_handle.LoosePeer.into_parts.Key.{name as #self}
use Rattle.cast_c.proofs.peer_handle.LoosePeer.into_parts.Statement.{statement}
use Rattle.cast_c.proofs.peer_handle.LoosePeer.into_parts.Code as code

abbrev From : RattleType
From = loose.the_row

abbrev To : RattleType
To = parts.the_row E.row E.al.row E.al.g

abbrev stayed : Stays ended.signature.params ended.kept
stayed = (stay_dropped (plain (λ _. From)) yes, (stay_dropped (plain (λ _. E.al.row)) yes, tt))

pub into_parts_spec : {M : Type 1} → statement M
into_parts_spec 𝓤 𝓛 𝓜 𝓡 wired =
    let H = 𝓛.H in let 𝓣 = tables 𝓤 H 𝓜 𝓡 𝓡.env in let c = clauses 𝓛 𝓜.mem 𝓡.returns in let fn = code.function in
    proved_at 𝓛 ended stayed c 𝓜 𝓡 (Goes-dropped 𝓛 0 (plain (λ _. From)) yes (λ κs x f. refl), (Goes-dropped 𝓛 0 (plain (λ _. E.al.row)) yes (λ κs x f. refl), tt)) #self fn (code.unfolded 𝓤 H 𝓜 𝓡 wired) (λ z are.
    let Post : Val → SProp 𝓤 = (walk_of 𝓛 ended stayed c).post z in let Run : List Val → SProp 𝓤 = λ ws. WpFn 𝓤 H 𝓣.C 𝓣.Λ fn ws Post in
    let from = z.0.3.0 in
    qed 𝓛 ((‵ ftrue ⊛ ‵ (owns (types_at ended.signature.params z.0.0) z.0.3 z.0.4)) ∷ raw (fact 𝓤 (is_some from.peer ≡ true)) ∷ []) ∵
    move ! (1 ∷ []) $ heard ! (is_some from.peer ≡ true) (λ some.
    let held = shown from.peer some in let x = held.value in let a = z.0.3.1.0 in
    split ! $ move ! (1 ∷ []) $ fsplit ! $ fsplit ! $ fpick ! (λ vss. fsplit ! $ feq_l ! (λ ev. fsplit ! $ feq_l ! (λ ep. drop ! $
    rewrite ! 0 (λ (o : Option E.row.Denot). ‵ (peer_owns from.at o)) held.is refl $
    in_a_block ! from.at (λ p. box_owns freeing E.row p x) (fst∗ 𝓤 (never 𝓤) (sem 𝓛 (freeing (bare (lone E.row.mir)) null_ptr))) (λ b o e.
    -- [the value with its token; what is owned of the handle, and true; the tokens]
    fsplit ! $ move ! (2 ∷ []) $ fsplit ! $ handle_tells E.al ! a z.0.4.1.0 (λ h eh fits.
    let w : Val = vstruct (vcons (vptr b o) vnil) in let out : Val = box.word E h b o in
    let is : z.0.4.0 ≡ w ∷ [] = ev ∙ (λ j. vstruct (of_list ((ep ∙ ap (λ (p : Ptr). ptr_val p ∷ []) e) j ++ [])) ∷ []) in
    let d : box.D E = record { ptr = block_ptr b o; alloc = a; value = x } in let made : To.Denot = record { at = block_ptr b o; alloc = a; value = x } in
    move ! (2 ∷ 3 ∷ 0 ∷ []) $ box_in E ! d b o x refl refl $ use1 𝓛 (‵ (To.own_val made (out ∷ []))) (id⊢ 𝓤 _) $
    suffices ! (Run (w ∷ h ∷ [])) (subst (λ (us : List Val). ent 𝓤 (Run (w ∷ h ∷ [])) (Run us)) (sym (λ i. is i ++ (eh i ++ []))) (id⊢ 𝓤 (Run (w ∷ h ∷ [])))) $
    enter ! 𝓣.C 𝓣.Λ fn (w ∷ h ∷ []) Post $ alloc_all ! (λ l. pass_all ! refl ((tt, (tt, tt)), (fits, tt)) $
    sets ! (of_opd ! (get_in ! (fld ! refl (stop !)) (sub ! 0 refl (whole !)))) refl (tt, tt) $ sets ! (of_opd ! (get ! refl)) refl (tt, tt) $
    sets ! (agg ! (and_then ! (get ! refl) (and_then ! (get ! refl) (no_more !)))) refl (box.box_typed E h b o fits) $
    use0 𝓛 (raw (fact 𝓤 (Some x ≡ from.peer))) (fact_i 𝓤 (Some x ≡ from.peer) (emp 𝓤) (sym held.is)) $ nothing ! $ nothing ! $ fjoin ! $ nothing ! $ fjoin ! $
    returns ! (look_at ! 0 refl) $ free_all ! refl $
    keep ! (3 ∷ 0 ∷ 2 ∷ 1 ∷ []) $ by ! (leaves 𝓛 ended stayed c z out made (tt, (tt, tt)) (tt, (tt, tt)))))))))))
