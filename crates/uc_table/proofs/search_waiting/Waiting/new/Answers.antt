use Rattle.std.proofs.Common.{ℕ, ◌∙◌, ap, length}
use Rattle.std.proofs.lemmas.List.{length-replicate}
use Rattle.uc_table.proofs.SearchChains.{all_zero, top_of_none, no_entry}
use Rattle.uc_table.proofs.search_waiting.Waiting.new.Goals as goal

pub returns-clause-well : goal.returns-clause-well
returns-clause-well c =
    let none = c.new.ensures.items in
    let zeros = c.in_ok-vec.ensures.items_if_clones_equal (λ y e. e) in
    record {
      as_many = ap length zeros ∙ length-replicate {A = ℕ} 65536 0;
      heads = λ k n g. top_of_none c.new.result.items n k none (all_zero 65536 k n c.in_ok-vec.field-0.items zeros g);
      linked = λ i e g. absurd (no_entry c.new.result.items i e none g);
      cells = λ i e g. absurd (no_entry c.new.result.items i e none g);
    }
