use Rattle.std.proofs.Common.{◌≡◌, [], ◌∷◌, refl, sym, ◌∙◌, subst}
use Rattle.std.proofs.lemmas.Result.{IfOk-weaker}
use Rattle.uc_answer.specs.QuestionWords.{AreShort}
use Rattle.uc_top.specs.Answers.{checks, shows, orders, rewrites, pairs_up, tables, models, certifies, generates}
use Rattle.uc_top.specs.Runs.{is_answer}
use Rattle.uc_top.proofs.Answering.{one_name, two_names}
use Rattle.uc_top.proofs.ShortWords.{positionals_short}
use Rattle.uc_top.specs.Faulting.{fault_opening}
use Rattle.uc_top.proofs.Faulted.{none_failed}
use Rattle.uc_top.proofs.WithinLimits.{size_within}
use Rattle.uc_top.proofs.program.command_answer.Goals as goal

pub returns-in-len2-clause-answers : goal.returns-in-len2-clause-answers
returns-in-len2-clause-answers g c words r =
    let names : c.args.command.now.positionals ≡ c.name-item.result ∷ c.proof-item.result ∷ [] = sym c.as_slice.ensures ∙ two_names c.as_slice.result.now c.name-item.result c.proof-item.result c.in-len2.len_at_least c.in-len2.len_below c.name-item.is c.proof-item.is in
    IfOk-weaker c.check_answer.result _ _ (λ answer a. is_answer (checks r c.in-Check.is names a)) (rw c.as_ref.ensures.value at c.check_answer.ensures.answers)

pub returns-in-len2-clause-certified : goal.returns-in-len2-clause-certified
returns-in-len2-clause-certified g c v =
    let names : c.args.command.now.positionals ≡ c.name-item.result ∷ c.proof-item.result ∷ [] = sym c.as_slice.ensures ∙ two_names c.as_slice.result.now c.name-item.result c.proof-item.result c.in-len2.len_at_least c.in-len2.len_below c.name-item.is c.proof-item.is in
    IfOk-weaker c.check_answer.result _ _ (λ answer a done files told. record {
      name = c.name-item.result;
      proof_name = c.proof-item.result;
      names = names;
      has_proof = a done files told;
    }) (rw c.as_ref.ensures.value at c.check_answer.ensures.certified)

pub returns-in-len1-clause-answers : goal.returns-in-len1-clause-answers
returns-in-len1-clause-answers g c words r =
    let names : c.args.command.now.positionals ≡ c.name-item-then-this-lt2.result ∷ [] = sym c.as_slice-in-Show.ensures ∙ one_name c.as_slice-in-Show.result.now c.name-item-then-this-lt2.result c.in-len1.len_at_least c.in-len1.len_below c.name-item-then-this-lt2.is in
    IfOk-weaker c.show_answer.result _ _ (λ answer a. is_answer (shows r c.in-Show.is names a)) (rw c.as_ref-in-len1.ensures.value at c.show_answer.ensures.answers)

pub returns-in-len1-as_slice-clause-answers : goal.returns-in-len1-as_slice-clause-answers
returns-in-len1-as_slice-clause-answers g c words r =
    let names : c.args.command.now.positionals ≡ c.name-item-then-this-lt2-2.result ∷ [] = sym c.as_slice-in-Order.ensures ∙ one_name c.as_slice-in-Order.result.now c.name-item-then-this-lt2-2.result c.in-len1-as_slice.len_at_least c.in-len1-as_slice.len_below c.name-item-then-this-lt2-2.is in
    IfOk-weaker c.list_answer.result _ _ (λ answer a. is_answer (orders r c.in-Order.is names a)) c.list_answer.ensures.answers

pub rewrite_answer-requires-clause-short : goal.rewrite_answer-requires-clause-short
rewrite_answer-requires-clause-short g c =
    let names : c.args.command.now.positionals ≡ c.name-item-then-this-lt3-2.result ∷ c.word-item.result ∷ [] = sym c.as_slice-in-Rewrite.ensures ∙ two_names c.as_slice-in-Rewrite.result.now c.name-item-then-this-lt3-2.result c.word-item.result c.in-len2-as_slice.len_at_least c.in-len2-as_slice.len_below c.name-item-then-this-lt3-2.is c.word-item.is in
    (subst AreShort names (positionals_short c.requires.words.0 c.args.command.now c.requires.words.1)).1.0

pub returns-in-len2-as_slice-clause-answers : goal.returns-in-len2-as_slice-clause-answers
returns-in-len2-as_slice-clause-answers g c words r =
    let names : c.args.command.now.positionals ≡ c.name-item-then-this-lt3-2.result ∷ c.word-item.result ∷ [] = sym c.as_slice-in-Rewrite.ensures ∙ two_names c.as_slice-in-Rewrite.result.now c.name-item-then-this-lt3-2.result c.word-item.result c.in-len2-as_slice.len_at_least c.in-len2-as_slice.len_below c.name-item-then-this-lt3-2.is c.word-item.is in
    IfOk-weaker c.rewrite_answer.result _ _ (λ answer a. is_answer (rewrites r c.in-Rewrite.is names a)) c.rewrite_answer.ensures.answers

pub returns-in-len1-as_slice-2-clause-answers : goal.returns-in-len1-as_slice-2-clause-answers
returns-in-len1-as_slice-2-clause-answers g c words r =
    let names : c.args.command.now.positionals ≡ c.name-item-then-this-lt2-3.result ∷ [] = sym c.as_slice-in-Pairs.ensures ∙ one_name c.as_slice-in-Pairs.result.now c.name-item-then-this-lt2-3.result c.in-len1-as_slice-2.len_at_least c.in-len1-as_slice-2.len_below c.name-item-then-this-lt2-3.is in
    IfOk-weaker c.list_answer-in-len1-as_slice-2.result _ _ (λ answer a. is_answer (pairs_up r c.in-Pairs.is names a)) c.list_answer-in-len1-as_slice-2.ensures.answers

pub returns-in-len2-clause-faulted : goal.returns-in-len2-clause-faulted
returns-in-len2-clause-faulted g c = rw c.in-Check.is c.check_answer.ensures.faulted

pub returns-in-len1-clause-faulted : goal.returns-in-len1-clause-faulted
returns-in-len1-clause-faulted g c = rw c.in-Show.is c.show_answer.ensures.faulted

pub returns-in-len1-as_slice-clause-faulted : goal.returns-in-len1-as_slice-clause-faulted
returns-in-len1-as_slice-clause-faulted g c = rw c.in-Order.is c.list_answer.ensures.faulted

pub returns-in-len2-as_slice-clause-faulted : goal.returns-in-len2-as_slice-clause-faulted
returns-in-len2-as_slice-clause-faulted g c = rw c.in-Rewrite.is c.rewrite_answer.ensures.faulted

pub returns-in-len1-as_slice-2-clause-faulted : goal.returns-in-len1-as_slice-2-clause-faulted
returns-in-len1-as_slice-2-clause-faulted g c = rw c.in-Pairs.is c.list_answer-in-len1-as_slice-2.ensures.faulted

pub returns-in-len2-as_slice-2-clause-answers : goal.returns-in-len2-as_slice-2-clause-answers
returns-in-len2-as_slice-2-clause-answers g c words r =
    let names : c.args.command.now.positionals ≡ c.name-item-then-this-lt3-3.result ∷ c.file-item.result ∷ [] = sym c.as_slice-in-Table.ensures ∙ two_names c.as_slice-in-Table.result.now c.name-item-then-this-lt3-3.result c.file-item.result c.in-len2-as_slice-2.len_at_least c.in-len2-as_slice-2.len_below c.name-item-then-this-lt3-3.is c.file-item.is in
    IfOk-weaker c.table_answer.result _ _ (λ answer a. is_answer (tables r c.in-Table.is names a)) (rw c.as_ref-in-len2-as_slice-2.ensures.value at c.table_answer.ensures.answers)

pub returns-in-len2-as_slice-2-clause-faulted : goal.returns-in-len2-as_slice-2-clause-faulted
returns-in-len2-as_slice-2-clause-faulted g c = rw c.in-Table.is c.table_answer.ensures.faulted

pub returns-in-len1-as_slice-3-clause-answers : goal.returns-in-len1-as_slice-3-clause-answers
returns-in-len1-as_slice-3-clause-answers g c words r =
    let names : c.args.command.now.positionals ≡ c.name-item-then-this-lt2-4.result ∷ [] = sym c.as_slice-in-Model.ensures ∙ one_name c.as_slice-in-Model.result.now c.name-item-then-this-lt2-4.result c.in-len1-as_slice-3.len_at_least c.in-len1-as_slice-3.len_below c.name-item-then-this-lt2-4.is in
    IfOk-weaker c.model_answer.result _ _ (λ answer a. is_answer (models r c.in-Model.is names a)) c.model_answer.ensures.answers

pub returns-in-len1-as_slice-3-clause-faulted : goal.returns-in-len1-as_slice-3-clause-faulted
returns-in-len1-as_slice-3-clause-faulted g c = rw c.in-Model.is c.model_answer.ensures.faulted

pub returns-in-len2-as_slice-3-clause-answers : goal.returns-in-len2-as_slice-3-clause-answers
returns-in-len2-as_slice-3-clause-answers g c words r =
    let names : c.args.command.now.positionals ≡ c.name-item-then-this-lt3-4.result ∷ c.file-item-then-this-lt3-4.result ∷ [] = sym c.as_slice-in-Certify.ensures ∙ two_names c.as_slice-in-Certify.result.now c.name-item-then-this-lt3-4.result c.file-item-then-this-lt3-4.result c.in-len2-as_slice-3.len_at_least c.in-len2-as_slice-3.len_below c.name-item-then-this-lt3-4.is c.file-item-then-this-lt3-4.is in
    IfOk-weaker c.certify_answer.result _ _ (λ answer a. is_answer (certifies r c.in-Certify.is names a)) (rw c.as_ref-in-len2-as_slice-3.ensures.value at c.certify_answer.ensures.answers)

pub returns-in-len2-as_slice-3-clause-faulted : goal.returns-in-len2-as_slice-3-clause-faulted
returns-in-len2-as_slice-3-clause-faulted g c = rw c.in-Certify.is c.certify_answer.ensures.faulted

pub returns-in-Gen-clause-answers : goal.returns-in-Gen-clause-answers
returns-in-Gen-clause-answers g c words r = IfOk-weaker c.gen_command.result _ _ (λ answer a. is_answer (generates r c.in-Gen.is a)) c.gen_command.ensures

pub returns-in-Gen-clause-faulted : goal.returns-in-Gen-clause-faulted
returns-in-Gen-clause-faulted g c = none_failed (g.L.Library.faults c.args.library.now) (g.L.Library.faults c.args.library.now) (g.L.Library.failed_at c.args.library.now) (g.L.Library.failed_at c.args.library.now) (fault_opening c.args.command.now) c.gen_command.result (refl, refl)

pub model_answer-requires : goal.model_answer-requires
model_answer-requires g c = record { size = size_within c.requires.words.0 c.args.command.now c.requires.words.1 }
