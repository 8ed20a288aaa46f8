use Rattle.std.proofs.Common.{arith, refl}
use Rattle.uc_book.proofs.Steady.{steady_by}
use Rattle.uc_book.specs.declared.parts.Parts.{Parts}
use Rattle.uc_book.proofs.parts.Parts.make_room.Goals as goal

pub returns-in_err-reserve-clause-steady : goal.returns-in_err-reserve-clause-steady
returns-in_err-reserve-clause-steady c = (let p = c.args.self.now in let q : Parts = record p { tasks = c.reserve.new.self } in steady_by p q refl refl refl refl c.reserve.ensures.items refl refl refl refl refl refl (omega arith))

pub returns-clause-steady : goal.returns-clause-steady
returns-clause-steady c = (let p = c.args.self.now in let q : Parts = record p { tasks = c.reserve.new.self; history = c.reserve-2.new.self } in steady_by p q refl refl refl refl c.reserve.ensures.items refl refl refl refl refl c.reserve-2.ensures.items c.reserve-2.ensures.capacity)
