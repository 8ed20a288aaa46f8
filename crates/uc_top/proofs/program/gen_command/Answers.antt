use Rattle.std.proofs.Common.{◌≡◌, [], ◌∷◌, sym, ◌∙◌}
use Rattle.uc_top.proofs.Answering.{two_names}
use Rattle.uc_top.proofs.GenWords.{gen_numbers}
use Rattle.uc_top.proofs.WithinLimits.{search_within}
use Rattle.uc_top.proofs.program.gen_command.Goals as goal

pub gen_answer-requires-clause-words : goal.gen_answer-requires-clause-words
gen_answer-requires-clause-words g c κs within = sym c.as_slice.ensures ∙ two_names c.as_slice.result.now c.count-item.result c.start-item.result c.in-len2.len_at_least c.in-len2.len_below c.count-item.is c.start-item.is

pub gen_answer-requires-clause-numbers : goal.gen_answer-requires-clause-numbers
gen_answer-requires-clause-numbers g c κs within =
    let names : c.args.command.now.positionals ≡ c.count-item.result ∷ c.start-item.result ∷ [] = sym c.as_slice.ensures ∙ two_names c.as_slice.result.now c.count-item.result c.start-item.result c.in-len2.len_at_least c.in-len2.len_below c.count-item.is c.start-item.is in
    gen_numbers c.requires.words.0 c.args.command.now c.requires.words.1 c.requires.generates c.count-item.result c.start-item.result names

pub gen_answer-requires-clause-search : goal.gen_answer-requires-clause-search
gen_answer-requires-clause-search g c κs within = search_within c.requires.words.0 c.args.command.now c.requires.words.1
