use Rattle.std.proofs.Common.{map, arith, Bor}
use Rattle.std.proofs.lemmas.List.{length-map}
use Rattle.uc_fact.specs.declared.fact.Fact.{Fact}
use Rattle.uc_answer.proofs.LargeLines.{read_at, outer_within, inside, large_told}
use Rattle.uc_answer.proofs.limit_lines.large_line.Goals as goal

pub index-fact-requires : goal.index-fact-requires
index-fact-requires g c = omega (arith, outer_within c.args.book.now.state c.args.overlap.now c.requires.large (map (λ (f : Bor Fact). f.now) c.in_ok-facts.facts.items) (rw c.front.ensures.entries at c.in_ok-facts.ensures), length-map c.in_ok-facts.facts.items (λ (f : Bor Fact). f.now), c.in_ok-facts.facts.ok.0)

pub overlap_line-requires : goal.overlap_line-requires
overlap_line-requires g c = inside c.args.book.now.state c.args.overlap.now c.requires.large (map (λ (f : Bor Fact). f.now) c.in_ok-facts.facts.items) (rw c.front.ensures.entries at c.in_ok-facts.ensures) c.index-fact.result.now.now (record { left = c.in_ok-copy.field-0; right = c.in_ok-copy-2.field-0 }) (read_at (λ (f : Bor Fact). f.now) c.in_ok-facts.facts.items c.args.overlap.now.outer c.index-fact.result.now (outer_within c.args.book.now.state c.args.overlap.now c.requires.large (map (λ (f : Bor Fact). f.now) c.in_ok-facts.facts.items) (rw c.front.ensures.entries at c.in_ok-facts.ensures)) c.index-fact.ensures) c.in_ok-copy.ensures c.in_ok-copy-2.ensures

pub returns : goal.returns
returns g c = λ command. large_told c.args.book.now.state c.args.overlap.now c.requires.large (map (λ (f : Bor Fact). f.now) c.in_ok-facts.facts.items) (rw c.front.ensures.entries at c.in_ok-facts.ensures) c.index-fact.result.now.now (record { left = c.in_ok-copy.field-0; right = c.in_ok-copy-2.field-0 }) (read_at (λ (f : Bor Fact). f.now) c.in_ok-facts.facts.items c.args.overlap.now.outer c.index-fact.result.now (outer_within c.args.book.now.state c.args.overlap.now c.requires.large (map (λ (f : Bor Fact). f.now) c.in_ok-facts.facts.items) (rw c.front.ensures.entries at c.in_ok-facts.ensures)) c.index-fact.ensures) c.in_ok-copy.ensures c.in_ok-copy-2.ensures command c.overlap_line.result c.overlap_line.ensures
