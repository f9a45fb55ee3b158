use Rattle.std.proofs.Common.{◌≡◌, ◌+◌, ◌∷◌, List, drop, sym, ap, ◌∙◌, subst}
use Rattle.std.specs.Prelude.{IfOk}
use Rattle.cast_message.specs.declared.message.Message.{Message}
use Rattle.std.specs.Option.{option_copied}
use Rattle.cast_model.specs.History.{numbered}
use Rattle.cast_fifo.specs.HeldBack.{HeldBack, run_from, heard_items}
use Rattle.cast_fifo.specs.Windows.{entries_of}
use Rattle.cast_fifo.proofs.Turns.{numbered-none, other_number, nothing_first, something_first}
use Rattle.cast_fifo.proofs.queue.Queue.ready.Goals as goal

pub returns-then-number-self : goal.returns-then-number-self
returns-then-number-self c =
    let none = other_number _ _ _ _ c.args.self.now _ c.self.invariant.0 c.self.invariant.1 c.self.view_is c.args.number c.args.offered c.requires c.if-number-self.true in
    c.new.ensures.items ∙ sym (ap (numbered c.args.sender c.args.self.now.next) none ∙ numbered-none c.args.sender c.args.self.now.next)

pub returns-in_default : goal.returns-in_default
returns-in_default c =
    let at = c.if-number-self.false ∙ ap (λ (h : HeldBack). h.next) c.self.view_is in
    let none = nothing_first _ _ _ _ c.args.self.now _ c.self.invariant.0 c.self.invariant.1 c.self.view_is (option_copied c.args.offered) (sym c.first.ensures ∙ ap option_copied c.in_default.is) in
    c.new-in_default.ensures.items ∙ sym ((λ i. numbered c.args.sender c.args.self.now.next (heard_items c.args.self.now (at i) (option_copied c.args.offered))) ∙ ap (numbered c.args.sender c.args.self.now.next) none ∙ numbered-none c.args.sender c.args.self.now.next)

pub returns : goal.returns
returns c =
    let at = c.if-number-self.false ∙ ap (λ (h : HeldBack). h.next) c.self.view_is in
    let first = something_first _ _ _ _ c.args.self.now _ c.self.invariant.0 c.self.invariant.1 c.self.view_is (option_copied c.args.offered) c.in-Some.first.now (sym c.in-Some.ensures) in
    subst (λ (xs : List Message). IfOk c.copies.result (λ messages. messages.items ≡ xs))
    ((λ i. numbered c.args.sender (at i) (c.in-Some.first.now ∷ run_from (c.if-number-self.false i + 1) (entries_of (c.if-number-self.false i + 1) (drop 1 c.self.inside.ring.items) c.self.inside.far.entries)))
    ∙ ap (numbered c.args.sender c.args.self.now.next) (sym first)
    ∙ ap (λ n. numbered c.args.sender c.args.self.now.next (heard_items c.args.self.now n (option_copied c.args.offered))) (sym at))
    c.copies.ensures
