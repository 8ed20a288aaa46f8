use Rattle.std.proofs.Common.{◌≡◌, ◌≤◌, ◌+◌, ◌*◌, ◌-◌, None}
use Rattle.uc_edge.specs.Faults.{IsCounted}
use Rattle.std.specs.Option.{option_copied}
use Rattle.uc_term.specs.Table.{Grows}
use Rattle.uc_problem.specs.Sound.{AreSoundItems, IsSoundPart}
use Rattle.uc_problem.proofs.Items.{Left}
use Rattle.uc_problem.proofs.Fillings.{Leaves}
use Rattle.uc_problem.proofs.files.+files.Given as goal

abbrev pub decreases-load_file : goal.decreases-load_file
decreases-load_file g l = 3 * (17 - l.depth) + 2

abbrev pub decreases-load_item : goal.decreases-load_item
decreases-load_item g l = 3 * (17 - l.depth) + 1

abbrev pub decreases-load_include : goal.decreases-load_include
decreases-load_include g l = 3 * (17 - l.depth)

abbrev pub invariant-load_file-loop-item : goal.invariant-load_file-loop-item
invariant-load_file-loop-item g l = record {
  same : g.L.Library.holds l.library ≡ g.L.Library.holds l.fn.library;
  later : g.L.Library.faults l.fn.library ≤ g.L.Library.faults l.library;
  counted : IsCounted None (g.L.Library.faults l.fn.library) (g.L.Library.faults l.library) (g.L.Library.failed_at l.fn.library) (g.L.Library.failed_at l.library);
  grows : Grows l.initial.symbols l.symbols;
  left : Left (g.L.Library.holds l.fn.library) l.fn.search.folder.now (option_copied l.fn.search.root) l.fn.depth l.fn.name l.fn.counts l.initial.item-iterator.rest.items l.symbols l.counts l.clauses l.item-iterator.rest.items;
  fills : Leaves l.fn.search.folder.now (option_copied l.fn.search.root) (g.L.Library.holds l.fn.library) l.initial.item-iterator.rest.items l.initial.symbols l.item-iterator.rest.items l.symbols;
  sound : IsSoundPart l.symbols l.fn.counts l.counts l.clauses;
  rest : AreSoundItems l.symbols l.item-iterator.rest.items;
}
