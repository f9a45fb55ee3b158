use Rattle.std.proofs.Common.{◌≡◌, ap, ◌∙◌, sym, ◌++◌, ◌∷◌, [], List, length, map, rules}
use Rattle.std.proofs.lemmas.List.{length-map, append-nil, append_assoc, map-append}
use Rattle.std.specs.Vec.Iter.{into_iter_items}
use Rattle.cast_box.specs.Ends.{PutterEnd, TakerEnd}
use Rattle.cast_box.proofs.Closing.{next_end, no_length}
use Rattle.cast_box.proofs.gathered.gather.Goals as goal

pub end-requires : goal.end-requires
end-requires g c =
    let now = c.loop-putter.invariant in
    let it = next_end c.args.putters.items c.args.taker c.loop-putter.yielded c.in-Some.putter _ c.requires (now.2 ∙ ap (λ l. c.loop-putter.yielded ++ l) c.in-Some.ensures.steps.0) in
    (it.0 ∙ sym (ap (λ t. t.home) now.3), it.1 ∙ sym (ap (λ t. length t.ended) now.3 ∙ length-map c.loop-putter.yielded (λ p. p.put)))

pub loop-putter-preserved : goal.loop-putter-preserved
loop-putter-preserved g c =
    let now = c.loop-putter.invariant in
    let seen = c.loop-putter.yielded in
    let p = c.in-Some.putter in
    let put : PutterEnd g.row.T.Denot → List g.row.T.Denot = λ p. p.put in
    let ends : TakerEnd g.row.T.Denot → List (List g.row.T.Denot) → TakerEnd g.row.T.Denot = λ t l. record t { ended = l } in
    let more : map put seen ++ put p ∷ [] ≡ map put (seen ++ p ∷ []) = sym (map-append put seen (p ∷ [])) in (
      tt,
      tt,
      now.2 ∙ ap (λ l. seen ++ l) c.in-Some.ensures.steps.0 ∙ sym (append_assoc seen (p ∷ []) (into_iter_items c.next.new.self)),
      c.end.ensures ∙ ap (λ t. ends t (t.ended ++ put p ∷ [])) now.3 ∙ ap (ends c.args.taker) more,
    )

pub gather-requires : goal.gather-requires
gather-requires g c =
    let now = c.loop-putter.invariant in
    let none : into_iter_items c.loop-putter.putter-iterator ≡ [] = no_length _ (search rules) in
    let all = now.2 ∙ ap (λ l. c.loop-putter.yielded ++ l) none ∙ append-nil c.loop-putter.yielded in
    ap (λ t. length t.ended) now.3 ∙ length-map c.loop-putter.yielded (λ p. p.put) ∙ sym (ap length all) ∙ c.requires.0 ∙ sym (ap (λ t. t.putters) now.3)
