use Rattle.std.proofs.Common.{◌≡◌, ◌<◌, ◌++◌, ◌∙◌, refl, sym, ap, subst, length, take, drop, nat_lt, add-one, arith}
use Rattle.cast_carrier.proofs.Lists.{read_at}
use Rattle.cast_carrier.proofs.Copying.{same_read}
use Rattle.cast_carrier.proofs.Sifting.{sifted, sifted_kept, sifted_gone, sifted_all, early, HandedSo, handed_first, handed_next, handed_past, handed_all}
use Rattle.cast_carrier.specs.Carriers.{is_early}
use Rattle.cast_carrier.specs.declared.carrier.Delayed.{Delayed}
use Rattle.cast_carrier.proofs.carrier.release.Goals as goal

pub loop-place-init : goal.loop-place-init
loop-place-init g c = (refl, handed_first c.args.room c.args.inboxes.now.items c.args.delayed.now.items)

pub loop-place-preserved-then-index-eq0 : goal.loop-place-preserved-then-index-eq0
loop-place-preserved-then-index-eq0 g c =
    let l = c.loop-place in
    let d = c.remove-twice.result in
    let within : l.place < length l.delayed.items = omega (arith, c.loop-place-test.true, c.len.ensures, l.delayed.ok) in
    let at = read_at l.delayed.items l.place d within c.remove-twice.ensures.value in
    let seen = same_read l.delayed.items l.place d c.index.result.now at (read_at l.delayed.items l.place c.index.result.now within c.index.ensures) in
    let due_now : is_early d ≡ _ = ap (nat_lt 0) (ap (λ (z : Delayed). z.left) seen ∙ c.if-index-eq0.true) in
    let rest = c.remove-twice.ensures.by_index.2 ∙ ap (λ n. take l.place l.delayed.items ++ drop n l.delayed.items) (add-one l.place) in (
      ap (sifted is_early l.place) rest ∙ sifted_gone is_early l.place l.delayed.items d at due_now ∙ l.invariant.0,
      subst (HandedSo c.args.room c.args.inboxes.now.items c.args.delayed.now.items l.place c.hand_on.new.inboxes.items) (sym rest)
          (handed_next c.args.room c.args.inboxes.now.items l.inboxes.items c.hand_on.new.inboxes.items c.args.delayed.now.items l.delayed.items l.place d l.invariant.1 at due_now c.hand_on.ensures),
    )

pub loop-place-preserved : goal.loop-place-preserved
loop-place-preserved g c =
    let l = c.loop-place in
    let d = c.index.result.now in
    let within : l.place < length l.delayed.items = omega (arith, c.loop-place-test.true, c.len.ensures, l.delayed.ok) in
    let at = read_at l.delayed.items l.place d within c.index.ensures in
    let waits = early d.left c.if-index-eq0.false in (
      ap (λ n. sifted is_early n l.delayed.items) (add-one l.place) ∙ sifted_kept is_early l.place l.delayed.items d at waits ∙ l.invariant.0,
      subst (λ n. HandedSo c.args.room c.args.inboxes.now.items c.args.delayed.now.items n l.inboxes.items l.delayed.items) (sym (add-one l.place))
          (handed_past c.args.room c.args.inboxes.now.items l.inboxes.items c.args.delayed.now.items l.delayed.items l.place d l.invariant.1 at waits),
    )

pub returns-clause-waits : goal.returns-clause-waits
returns-clause-waits g c =
    let l = c.loop-place in
    sym (sifted_all is_early l.place l.delayed.items (omega (arith, c.loop-place-test.false, c.len.ensures, l.delayed.ok))) ∙ l.invariant.0

pub returns-clause-hands : goal.returns-clause-hands
returns-clause-hands g c =
    let l = c.loop-place in
    handed_all c.args.room c.args.inboxes.now.items l.inboxes.items c.args.delayed.now.items l.delayed.items l.place l.invariant.1 (omega (arith, c.loop-place-test.false, c.len.ensures, l.delayed.ok))
