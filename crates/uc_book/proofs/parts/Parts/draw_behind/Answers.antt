use Rattle.std.proofs.Common.{arith, ◌+◌, ◌≤◌}
use Rattle.std.specs.Prelude.{◌≡◌}
use Rattle.uc_book.specs.Openings.{opening_of}
use Rattle.uc_book.specs.Parts.{state_of}
use Rattle.uc_book.specs.Answers.{reply_of}
use Rattle.uc_book.proofs.Giving.{dropped_give}
use Rattle.uc_book.proofs.parts.Parts.draw_behind.Goals as goal

pub draw_without-requires-clause-fit : goal.draw_without-requires-clause-fit
draw_without-requires-clause-fit c =
    let e = c.drop_orphans.ensures in
    (dropped_give c.args.opening.shelf (opening_of c.args.opening) c.args.self.now c.drop_orphans.new.self c.requires.can c.in_ok-drop_orphans.ensures.room e.others e.spare e.ticket).fit

pub draw_without-requires-clause-room : goal.draw_without-requires-clause-room
draw_without-requires-clause-room c =
    let e = c.drop_orphans.ensures in
    (dropped_give c.args.opening.shelf (opening_of c.args.opening) c.args.self.now c.drop_orphans.new.self c.requires.can c.in_ok-drop_orphans.ensures.room e.others e.spare e.ticket).room

pub draw_without-requires-clause-spent : goal.draw_without-requires-clause-spent
draw_without-requires-clause-spent c =
    let q = c.drop_orphans.new.self in
    let counted : q.counted ≡ c.args.self.now.counted = c.drop_orphans.ensures.others.counted in
    let reserved : q.reserved ≡ c.args.self.now.reserved = c.drop_orphans.ensures.others.reserved in
    let spent : c.args.opening.budget ≤ q.counted + q.reserved = omega arith in spent

pub returns-clause-drawn : goal.returns-clause-drawn
returns-clause-drawn c = c.in_ok-drop_orphans.ensures.leads (opening_of c.args.opening) (reply_of c.args.worker c.draw_without.result) (state_of c.draw_without.new.self) c.draw_without.ensures.drawn
