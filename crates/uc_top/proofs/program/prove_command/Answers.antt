use Rattle.std.proofs.Common.{◌≡◌, [], ◌∷◌, sym, ◌∙◌, subst}
use Rattle.std.proofs.lemmas.Result.{IfOk-weaker}
use Rattle.uc_top.specs.Answers.{proves}
use Rattle.uc_top.specs.Runs.{is_answer}
use Rattle.uc_top.proofs.Answering.{one_name}
use Rattle.uc_top.proofs.Positionals.{only_name}
use Rattle.uc_top.proofs.SeenWords.{AreTitles, positionals_seen, root_seen}
use Rattle.uc_top.proofs.WithinLimits.{weight_within, search_within}
use Rattle.uc_top.proofs.program.prove_command.Goals as goal

pub prove_answer-requires-clause-w0 : goal.prove_answer-requires-clause-w0
prove_answer-requires-clause-w0 g c κs within = weight_within c.requires.words.0 c.args.command.now c.requires.words.1

pub prove_answer-requires-clause-search : goal.prove_answer-requires-clause-search
prove_answer-requires-clause-search g c κs within = search_within c.requires.words.0 c.args.command.now c.requires.words.1

pub prove_answer-requires-clause-root : goal.prove_answer-requires-clause-root
prove_answer-requires-clause-root g c κs within = root_seen c.requires.words.0 c.args.command.now c.requires.words.1

pub prove_answer-requires-clause-name : goal.prove_answer-requires-clause-name
prove_answer-requires-clause-name g c κs within =
    let names : c.args.command.now.positionals ≡ c.name-item.result ∷ [] = sym c.as_slice.ensures ∙ one_name c.as_slice.result.now c.name-item.result c.in-len1.len_at_least c.in-len1.len_below c.name-item.is in
    (subst AreTitles names (positionals_seen c.requires.words.0 c.args.command.now c.requires.words.1)).0.1

pub prove_answer-requires-clause-some : goal.prove_answer-requires-clause-some
prove_answer-requires-clause-some g c κs within =
    let names : c.args.command.now.positionals ≡ c.name-item.result ∷ [] = sym c.as_slice.ensures ∙ one_name c.as_slice.result.now c.name-item.result c.in-len1.len_at_least c.in-len1.len_below c.name-item.is in
    (subst AreTitles names (positionals_seen c.requires.words.0 c.args.command.now c.requires.words.1)).0.0

pub returns-clause-answers : goal.returns-clause-answers
returns-clause-answers g c words r =
    let names : c.args.command.now.positionals ≡ c.name-item.result ∷ [] = sym c.as_slice.ensures ∙ one_name c.as_slice.result.now c.name-item.result c.in-len1.len_at_least c.in-len1.len_below c.name-item.is in
    IfOk-weaker c.prove_answer.result _ _ (λ answer a. is_answer (proves r c.requires.prove names a)) c.prove_answer.ensures.answers

pub returns-clause-promise : goal.returns-clause-promise
returns-clause-promise g c =
    let names : c.args.command.now.positionals ≡ c.name-item.result ∷ [] = sym c.as_slice.ensures ∙ one_name c.as_slice.result.now c.name-item.result c.in-len1.len_at_least c.in-len1.len_below c.name-item.is in
    IfOk-weaker c.prove_answer.result _ _ (λ answer k few files told name is. rw (only_name (sym is ∙ names)) (k few files told)) c.prove_answer.ensures.promise

pub returns-clause-faulted : goal.returns-clause-faulted
returns-clause-faulted g c =
    let names : c.args.command.now.positionals ≡ c.name-item.result ∷ [] = sym c.as_slice.ensures ∙ one_name c.as_slice.result.now c.name-item.result c.in-len1.len_at_least c.in-len1.len_below c.name-item.is in
    rw (c.requires.prove, names) c.prove_answer.ensures.faulted
