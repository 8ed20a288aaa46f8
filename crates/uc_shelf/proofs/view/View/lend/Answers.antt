use Rattle.std.proofs.Common.{◌≡◌, map, sym, ap, ◌∙◌, true, false}
use Rattle.std.proofs.lemmas.List.{map-append}
use Rattle.uc_shelf.specs.Entries.{is_dead}
use Rattle.uc_shelf.specs.Lending.{lent_of}
use Rattle.uc_shelf.proofs.Lending.{one_lent, none_lent}
use Rattle.uc_shelf.proofs.view.View.lend.Goals as goal

pub returns-then-is_dead : goal.returns-then-is_dead
returns-then-is_dead c =
    let dead : is_dead c.args.self.now c.args.fact.now.0 ≡ true = ap (λ z. is_dead z c.args.fact.now.0) (sym c.self.view_is) ∙ sym c.is_dead.ensures ∙ c.if-is_dead.true in
    none_lent c.args.self.now c.args.fact.now (map lent_of c.args.list.now.items) dead

pub returns : goal.returns
returns c =
    let alive : is_dead c.args.self.now c.args.fact.now.0 ≡ false = ap (λ z. is_dead z c.args.fact.now.0) (sym c.self.view_is) ∙ sym c.is_dead.ensures ∙ c.if-is_dead.false in
    one_lent c.args.self.now c.args.fact.now (map lent_of c.args.list.now.items) (map lent_of c.push.new.self.items) alive (ap (map lent_of) c.in_ok-push.ensures.items ∙ map-append lent_of c.args.list.now.items _)
