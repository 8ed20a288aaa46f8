use Rattle.std.proofs.Common.{take}
use Rattle.uc_table.specs.SearchForms.{AreFormsOf}
use Rattle.uc_table.proofs.search_layout.Layout.forms_of.Given as goal

abbrev pub invariant-loop-sourced : goal.invariant-loop-sourced
invariant-loop-sourced l = AreFormsOf l.symbols l.self.size l.signature (take l.sourced-index l.clauses) l.forms.items
