use Rattle.std.proofs.Common.{◌≡◌, true, false, sym, ap, ◌∙◌}
use Rattle.std.specs.Prelude.{◌||◌}
use Rattle.uc_shelf.specs.Entries.{is_dead}
use Rattle.uc_rows.specs.Deaths.{deaths_by}
use Rattle.uc_rows.proofs.Deaths.{dead_either}
use Rattle.uc_book.proofs.visiting.is_gone.Goals as goal

pub returns-then-is_dead : goal.returns-then-is_dead
returns-then-is_dead c = λ killer. (let es = c.args.facts.now.front.entries in let ds = deaths_by killer c.args.falls.now in
    let d : is_dead es c.args.fact ≡ true = sym c.is_dead.ensures ∙ c.if-is_dead.true in
    let all : is_dead es c.args.fact || is_dead ds c.args.fact ≡ true = ap (λ b. b || is_dead ds c.args.fact) d in
    c.if-is_dead.true ∙ sym (dead_either es ds c.args.fact ∙ all))

pub returns-else-is_dead : goal.returns-else-is_dead
returns-else-is_dead c = λ killer. (let es = c.args.facts.now.front.entries in let ds = deaths_by killer c.args.falls.now in
    let d : is_dead es c.args.fact ≡ false = sym c.is_dead.ensures ∙ c.if-is_dead.false in
    let rest : is_dead es c.args.fact || is_dead ds c.args.fact ≡ is_dead ds c.args.fact = ap (λ b. b || is_dead ds c.args.fact) d in
    c.is_among.ensures killer ∙ sym (dead_either es ds c.args.fact ∙ rest))
