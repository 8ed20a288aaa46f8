use Rattle.std.proofs.Common.{◌≡◌, Some, sym, ◌∙◌, ap, subst}
use Rattle.std.specs.Prelude.{slice_get}
use Rattle.uc_ledger.specs.declared.ledger.State.TheVariants.{Out as OutTo, Done}
use Rattle.uc_machine.specs.Lists.{change, map_option}
use Rattle.uc_machine.specs.State.{Pair, Out}
use Rattle.uc_machine.specs.Effects.{turns}
use Rattle.uc_rows.specs.RowViews.{PairsView}
use Rattle.uc_rows.specs.TaskRows.{out_of}
use Rattle.uc_book.proofs.Standing.{row_out}
use Rattle.uc_book.proofs.Finishing.{pair_out}
use Rattle.uc_book.proofs.Taking.{turned_state}
use Rattle.uc_book.proofs.parts.Parts.end_pair.Goals as goal

pub finish-requires : goal.finish-requires
finish-requires c =
    let p = c.args.self.now in
    let t = c.requires.at.0 in
    let stands = c.requires.at.1 in
    let row = c.index.result.now in
    let same : out_of row ≡ t = row_out p.tasks.items c.args.at t row stands c.index.ensures in
    let worker : t.worker ≡ row.worker = ap (λ (u : Out). u.worker) (sym same) in
    let out : map_option (λ (x : Pair). x.condition) (slice_get p.pairs.pairs c.args.pair) ≡ Some (OutTo t.worker) = pair_out p t.worker t.job c.args.pair (c.requires.job t stands) (c.requires.out t stands) in
    subst (λ (v : PairsView). map_option (λ (x : Pair). x.condition) (slice_get v.pairs c.args.pair) ≡ Some (OutTo row.worker)) (sym c.accept.ensures.subjects.pairs) (out ∙ ap (λ w. Some (OutTo w)) worker)

pub returns-clause-state : goal.returns-clause-state
returns-clause-state c = λ t stands.
    (let p = c.args.self.now in
    let q = c.accept.new.self in
    turned_state q c.finish.new.self (change (λ (x : Pair). record x { condition = Done }) q.pairs.pairs c.args.pair) c.finish.ensures.pairs c.finish.ensures.draws ∙ ap (turns Done c.args.pair) (c.accept.ensures.state t stands))
