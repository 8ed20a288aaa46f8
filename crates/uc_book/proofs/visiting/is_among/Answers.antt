use Rattle.std.proofs.Common.{◌∙◌}
use Rattle.std.proofs.lemmas.List.Sorted.{searched}
use Rattle.uc_book.proofs.RisingNumbers.{found_dead, rising_sorted}
use Rattle.uc_book.proofs.visiting.is_among.Goals as goal

pub returns : goal.returns
returns c = λ killer. (let ks = c.args.numbers.now in c.is_ok.ensures.value ∙ found_dead killer ks c.args.number c.binary_search.result (searched ks c.args.number c.binary_search.result c.binary_search.ensures.position (rising_sorted 0 ks c.requires)))
