use Rattle.std.proofs.Common.{◌∙◌, ◌++◌, ap, ap₂}
use Rattle.std.proofs.lemmas.List.Filters.{dedup_is}
use Rattle.uc_ac.specs.Found.{binary_heads}
use Rattle.uc_ac.proofs.Heading.{binary_are}
use Rattle.uc_ac.proofs.binary.binary_symbols.Goals as goal

pub returns : goal.returns
returns c =
    let first = c.in_ok-add_heads.ensures ∙ ap₂ (λ k l. k ++ l) c.new-numbers.ensures.items (ap binary_heads c.as_nodes.ensures.value) in
    let both = c.in_ok-add_heads-2.ensures ∙ ap₂ (λ k l. k ++ l) first (ap binary_heads c.as_nodes-2.ensures.value) in
    binary_are c.args.s.now c.args.t.now c.add_heads-2.new.numbers.items c.sort_unstable.new.self.items c.dedup.new.self.items both c.sort_unstable.ensures.permutation c.sort_unstable.ensures.sorted (dedup_is _ c.sort_unstable.new.self.items c.dedup.new.self.items c.dedup.ensures.filtered)
