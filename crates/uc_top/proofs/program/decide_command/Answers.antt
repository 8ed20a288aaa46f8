use Rattle.std.proofs.Common.{◌≡◌, ◌-◌, ◌∷◌, length, take, drop, sym, ◌∙◌, subst}
use Rattle.std.proofs.lemmas.Result.{IfOk-weaker}
use Rattle.uc_answer.specs.QuestionWords.{AreShort}
use Rattle.uc_top.specs.Answers.{decides, decides_by_certificate}
use Rattle.uc_top.specs.Runs.{is_answer}
use Rattle.uc_top.proofs.Answering.{name_and_more}
use Rattle.uc_top.proofs.DecidePromises.{kept_answers, given_answers}
use Rattle.uc_top.proofs.ShortWords.{positionals_short}
use Rattle.uc_top.proofs.WithinLimits.{weight_within, search_within, workers_within}
use Rattle.uc_top.proofs.program.decide_command.Goals as goal

pub decide_answer-requires-clause-w0 : goal.decide_answer-requires-clause-w0
decide_answer-requires-clause-w0 g c κs within = weight_within c.requires.words.0 c.args.command.now c.requires.words.1

pub decide_answer-requires-clause-search : goal.decide_answer-requires-clause-search
decide_answer-requires-clause-search g c κs within = search_within c.requires.words.0 c.args.command.now c.requires.words.1

pub system_answer-requires-clause-workers : goal.system_answer-requires-clause-workers
system_answer-requires-clause-workers g c κs within = workers_within c.requires.words.0 c.args.command.now c.requires.words.1

pub decide_answer-requires-clause-short : goal.decide_answer-requires-clause-short
decide_answer-requires-clause-short g c κs within =
    let names : c.args.command.now.positionals ≡ c.name-item.result ∷ take (length c.as_slice.result.now - 1) (drop 1 c.as_slice.result.now) = sym c.as_slice.ensures ∙ name_and_more c.as_slice.result.now c.name-item.result c.in-len1-up.len_at_least c.name-item.is in
    (subst AreShort names (positionals_short c.requires.words.0 c.args.command.now c.requires.words.1)).1

pub system_answer-requires-clause-short : goal.system_answer-requires-clause-short
system_answer-requires-clause-short g c κs within =
    let names : c.args.command.now.positionals ≡ c.name-item.result ∷ take (length c.as_slice.result.now - 1) (drop 1 c.as_slice.result.now) = sym c.as_slice.ensures ∙ name_and_more c.as_slice.result.now c.name-item.result c.in-len1-up.len_at_least c.name-item.is in
    (subst AreShort names (positionals_short c.requires.words.0 c.args.command.now c.requires.words.1)).1

pub returns-in-None-clause-answers : goal.returns-in-None-clause-answers
returns-in-None-clause-answers g c words r =
    let names : c.args.command.now.positionals ≡ c.name-item.result ∷ take (length c.as_slice.result.now - 1) (drop 1 c.as_slice.result.now) = sym c.as_slice.ensures ∙ name_and_more c.as_slice.result.now c.name-item.result c.in-len1-up.len_at_least c.name-item.is in
    IfOk-weaker c.decide_answer.result _ _ (λ answer a. is_answer (decides r c.requires.decide c.in-None.is names a)) c.decide_answer.ensures.answers

pub returns-in-Some-clause-answers : goal.returns-in-Some-clause-answers
returns-in-Some-clause-answers g c words r =
    let names : c.args.command.now.positionals ≡ c.name-item.result ∷ take (length c.as_slice.result.now - 1) (drop 1 c.as_slice.result.now) = sym c.as_slice.ensures ∙ name_and_more c.as_slice.result.now c.name-item.result c.in-len1-up.len_at_least c.name-item.is in
    IfOk-weaker c.system_answer.result _ _ (λ answer a. is_answer (decides_by_certificate r c.requires.decide c.in-Some.is names a)) c.system_answer.ensures.answers

pub returns-in-None-clause-decided : goal.returns-in-None-clause-decided
returns-in-None-clause-decided g c =
    let names : c.args.command.now.positionals ≡ c.name-item.result ∷ take (length c.as_slice.result.now - 1) (drop 1 c.as_slice.result.now) = sym c.as_slice.ensures ∙ name_and_more c.as_slice.result.now c.name-item.result c.in-len1-up.len_at_least c.name-item.is in
    kept_answers c.args.command.now c.name-item.result (take (length c.as_slice.result.now - 1) (drop 1 c.as_slice.result.now)) _ c.decide_answer.result names c.decide_answer.ensures.promise

pub returns-in-Some-clause-decided : goal.returns-in-Some-clause-decided
returns-in-Some-clause-decided g c = given_answers c.args.command.now _ _ c.system_answer.result c.in-Some.is

pub returns-in-None-clause-faulted : goal.returns-in-None-clause-faulted
returns-in-None-clause-faulted g c = rw c.requires.decide c.decide_answer.ensures.faulted

pub returns-in-Some-clause-faulted : goal.returns-in-Some-clause-faulted
returns-in-Some-clause-faulted g c = rw c.requires.decide c.system_answer.ensures.faulted
