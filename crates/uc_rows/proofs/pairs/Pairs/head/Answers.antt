use Rattle.std.proofs.Common.{rules, arith, ◌≡◌, ◌<◌, Some, None, length, get_or, sym, ◌∙◌, ap, subst}
use Rattle.std.specs.Prelude.{option_map, MatchOption}
use Rattle.uc_queue.specs.declared.entry.Entry.{Entry as Place}
use Rattle.uc_rows.specs.PairRows.{head_in, IsHead}
use Rattle.uc_rows.proofs.PairChanges.{inside_head, head_is, none_at, head_inside}
use Rattle.uc_rows.proofs.pairs.Pairs.head.Goals as goal

pub index-requires : goal.index-requires
index-requires c =
    let i = c.self.inside in
    let number : option_map (λ (e : Place). e.number) (head_in c.args.self.now) ≡ Some c.in_ok-number.number = ap (option_map (λ (e : Place). e.number)) (sym (inside_head i c.args.self.now c.self.invariant c.self.view_is)) ∙ sym c.peek.ensures.next ∙ c.in_ok-number.was in
    let l : c.in_ok-number.number < length i.rows.items = head_inside i c.args.self.now c.in_ok-number.number c.self.view_is number in
    omega (arith, i.rows.ok.0)

pub returns : goal.returns
returns c =
    let i = c.self.inside in
    let number : option_map (λ (e : Place). e.number) (head_in c.args.self.now) ≡ Some c.in_ok-number.number = ap (option_map (λ (e : Place). e.number)) (sym (inside_head i c.args.self.now c.self.invariant c.self.view_is)) ∙ sym c.peek.ensures.next ∙ c.in_ok-number.was in
    let row = c.index.result.now in
    let at : row ≡ get_or i.rows.items c.in_ok-number.number row = search (rules, c.index.ensures) in
    head_is i c.args.self.now c.in_ok-number.number row c.self.view_is number at

pub returns-in_err-number : goal.returns-in_err-number
returns-in_err-number c = subst (λ o. MatchOption o (head_in c.args.self.now ≡ None) (λ h. IsHead c.args.self.now h.0 h.1)) (sym c.from_residual.ensures) (none_at (head_in c.args.self.now) (ap (option_map (λ (e : Place). e.number)) (sym (inside_head c.self.inside c.args.self.now c.self.invariant c.self.view_is)) ∙ sym c.peek.ensures.next ∙ c.in_err-number.was))
