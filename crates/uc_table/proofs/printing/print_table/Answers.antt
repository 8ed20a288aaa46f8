use Rattle.std.proofs.Common.{◌++◌, ap, ◌∙◌}
use Rattle.uc_table.specs.Printing.{table_text}
use Rattle.uc_table.proofs.ReadBack.{table_again}
use Rattle.uc_table.proofs.printing.print_table.Goals as goal

pub returns-clause-read_back : goal.returns-clause-read_back
returns-clause-read_back c = λ h small. table_again c.args.symbols.now c.args.table.now h c.write_table.new.out (c.in_ok-write_table.ensures ∙ ap (λ out. out ++ table_text c.args.symbols.now c.args.table.now) c.new-out.ensures) small
